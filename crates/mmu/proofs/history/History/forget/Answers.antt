use Rattle.std.proofs.Common.{◌≡◌, [], reverse, refl, ap, sym, ◌∙◌, subst}
use Rattle.mmu.specs.Protecting.{entries_of}
use Rattle.mmu.specs.Recorded.{IsTrueOf, events_of}
use Rattle.mmu.specs.Units.{begun}
use Rattle.mmu.specs.declared.history.History.{History}
use Rattle.mmu.specs.declared.protection.PmpEntries.{PmpEntries}
use Rattle.mmu.proofs.Beginning.{begun_past, begun_true}
use Rattle.mmu.proofs.Recording.{past}
use Rattle.mmu.proofs.history.History.forget.Goals as goal

pub returns : goal.returns
returns c =
    let old = c.args.self.now in
    let new : History = record { memory = old.memory; changes = c.clear.new.self; first_satp = old.satp; satp = old.satp; epoch = 0; uses = c.clear-2.new.self; fences = c.clear-3.new.self; protection = c.forget.new.self; events = c.clear-4.new.self } in
    let events : events_of new ≡ [] = ap reverse c.clear-4.ensures.items in
    let present = c.forget.ensures.first ∙ sym c.forget.ensures.present in
    record {
      sound = subst (IsTrueOf new) (sym events) (begun_true new c.clear.ensures c.clear-3.ensures.spaces c.clear-3.ensures.ends c.clear-3.ensures.addresses c.clear-2.ensures present c.forget.ensures.writes refl refl);
      past = begun_past new c.clear.ensures events present refl ∙ ap (λ (es : PmpEntries). past (begun old).first.memory old.satp (entries_of es) []) c.forget.ensures.present;
    }
