use Rattle.hart_machine.proofs.BufferSteps.{same_harts}
use Rattle.hart_machine.proofs.machine.Machine.fork.Goals as goal

pub returns-in-Ok-clause-buffers : goal.returns-in-Ok-clause-buffers
returns-in-Ok-clause-buffers c = same_harts c.args.self.now c.try_fork.new.self c.in-Ok.ensures.harts

pub returns-in-Err-clause-buffers : goal.returns-in-Err-clause-buffers
returns-in-Err-clause-buffers c = same_harts c.args.self.now c.try_fork.new.self c.in-Err.ensures.harts

pub returns-in-Err-clause-made : goal.returns-in-Err-clause-made
returns-in-Err-clause-made c w is = rw c.without_change.ensures (c.in-Err.ensures.made w is)

pub returns-in-Err-clause-changed : goal.returns-in-Err-clause-changed
returns-in-Err-clause-changed c w is = rw c.without_change.ensures (c.in-Err.ensures.changed w is)
