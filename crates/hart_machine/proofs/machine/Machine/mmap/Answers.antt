use Rattle.hart_machine.proofs.BufferSteps.{same_harts}
use Rattle.hart_machine.proofs.machine.Machine.mmap.Goals as goal

pub returns-in-Ok-clause-buffers : goal.returns-in-Ok-clause-buffers
returns-in-Ok-clause-buffers c = same_harts c.args.self.now c.try_mmap.new.self c.in-Ok.ensures.harts

pub returns-in-Err-clause-buffers : goal.returns-in-Err-clause-buffers
returns-in-Err-clause-buffers c = same_harts c.args.self.now c.try_mmap.new.self c.in-Err.ensures.harts
