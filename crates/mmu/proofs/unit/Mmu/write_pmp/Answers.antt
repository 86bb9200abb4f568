use Rattle.access_history.specs.declared.event.Event.TheVariants.{WritePmp}
use Rattle.mmu.specs.Recorded.{past_of}
use Rattle.mmu.specs.Units.{happened}
use Rattle.mmu.proofs.Local.{after_pmp, either}
use Rattle.mmu.proofs.unit.Mmu.write_pmp.Goals as goal

pub invariant_of-self-clause-local : goal.invariant_of-self-clause-local
invariant_of-self-clause-local c = λ none.
    let old = c.args.self.now in
    let before = old.local none in
    either c.write_pmp.result (past_of c.write_pmp.new.self) (past_of old.history) (happened (WritePmp c.args.number c.args.entry) (past_of old.history)) c.write_pmp.ensures.ok
    c.write_pmp.ensures.err before (after_pmp (past_of old.history) c.args.number c.args.entry before)
