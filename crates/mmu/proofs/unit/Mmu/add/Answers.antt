use Rattle.std.proofs.Common.{◌/◌}
use Rattle.mmu.specs.Recorded.{past_of}
use Rattle.mmu.specs.Units.{with_run}
use Rattle.mmu.proofs.Local.{after_run, either}
use Rattle.mmu.proofs.unit.Mmu.add.Goals as goal

pub invariant_of-self-clause-local : goal.invariant_of-self-clause-local
invariant_of-self-clause-local c = λ none.
    let old = c.args.self.now in
    let before = old.local none in
    either c.add.result (past_of c.add.new.self) (past_of old.history) (with_run (c.args.address / 8) (c.args.end / 8) (past_of old.history)) c.add.ensures.ok c.add.ensures.err before
    (after_run (c.args.address / 8) (c.args.end / 8) (past_of old.history) before)
