use Rattle.access_history.specs.declared.event.Event.TheVariants.{WriteSatp}
use Rattle.mmu.specs.Recorded.{past_of}
use Rattle.mmu.specs.Units.{happened}
use Rattle.mmu.proofs.Local.{after_satp, either}
use Rattle.mmu.proofs.unit.Mmu.write_satp.Goals as goal

pub invariant_of-self-clause-local : goal.invariant_of-self-clause-local
invariant_of-self-clause-local c = λ none.
    let old = c.args.self.now in
    let before = old.local none in
    either c.write_satp.result (past_of c.write_satp.new.self) (past_of old.history) (happened (WriteSatp c.args.satp) (past_of old.history)) c.write_satp.ensures.ok c.write_satp.ensures.err
    before (after_satp (past_of old.history) c.args.satp before)
