use Rattle.hart_machine.proofs.StartSeats.{taken_kernel}
use Rattle.hart_machine.proofs.machine.Machine.end_seat.Goals as goal

pub returns-clause-kernel : goal.returns-clause-kernel
returns-clause-kernel c = taken_kernel c.args.self.now.kernel.seat c.args.seat c.requires.seat c.join.new.seat c.join.ensures.view c.args.self.now.kernel.scheme c.args.self.now.kernel.root.0
