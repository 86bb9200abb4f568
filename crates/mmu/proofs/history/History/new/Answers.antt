use Rattle.std.proofs.Common.{◌≡◌, [], reverse, ap, sym, ◌∙◌, refl, subst}
use Rattle.mmu.specs.Protecting.{entries_of}
use Rattle.mmu.specs.Recorded.{IsTrueOf, events_of}
use Rattle.mmu.specs.declared.history.History.{History}
use Rattle.mmu.proofs.Beginning.{begun_fresh, begun_past, begun_true}
use Rattle.mmu.proofs.history.History.new.Goals as goal

pub returns : goal.returns
returns c =
    let new : History = record { memory = c.new.result; changes = c.new-2.result; first_satp = c.from_word.result; satp = c.from_word-2.result; epoch = 0; uses = c.new-3.result; fences = c.new-4.result; protection = c.new-5.result; events = c.new-6.result } in
    let events : events_of new ≡ [] = ap reverse c.new-6.ensures.items in
    let satp = c.from_word.ensures ∙ sym c.from_word-2.ensures in
    let present = sym c.new-5.ensures.present in
    record {
      sound = subst (IsTrueOf new) (sym events) (begun_true new c.new-2.ensures c.new-4.ensures.spaces c.new-4.ensures.ends c.new-4.ensures.addresses c.new-3.ensures present c.new-5.ensures.writes satp refl);
      past = begun_past new c.new-2.ensures events present satp
          ∙ begun_fresh new 0 c.new.ensures c.from_word-2.ensures (ap entries_of c.new-5.ensures.present ∙ c.new-5.ensures.first);
    }
