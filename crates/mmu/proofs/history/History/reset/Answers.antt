use Rattle.std.proofs.Common.{ap, ◌∙◌}
use Rattle.mmu.specs.Protecting.{entries_of}
use Rattle.mmu.specs.declared.history.History.{History}
use Rattle.mmu.proofs.Beginning.{begun_fresh}
use Rattle.mmu.proofs.history.History.reset.Goals as goal

pub returns : goal.returns
returns c =
    let old = c.args.self.now in
    let cleared : History = record { memory = c.clear.new.self; changes = old.changes; first_satp = old.first_satp; satp = c.from_word-self.result; epoch = old.epoch; uses = old.uses; fences = old.fences; protection = c.reset.new.self; events = old.events } in
    record {
      sound = c.forget.ensures.sound;
      past = c.forget.ensures.past ∙ begun_fresh cleared c.args.pmp_entries c.clear.ensures c.from_word-self.ensures (ap entries_of c.reset.ensures.present ∙ c.reset.ensures.first);
    }
