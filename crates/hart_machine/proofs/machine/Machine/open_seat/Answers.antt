use Rattle.hart_machine.proofs.StartSeats.{code_shared}
use Rattle.hart_machine.proofs.machine.Machine.open_seat.Goals as goal

pub unreachable-requires : goal.unreachable-requires
unreachable-requires c = let refused = (c.in_default.ensures.exact tt).1 (code_shared c.args.self.now c.requires.world.0 c.requires.world.1) in absurd (cc)
