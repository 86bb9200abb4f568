use Rattle.frame_store.specs.Laws.{KeepsSeats}
use Rattle.tests_of_refusals.proofs.initial_process.reserved_all.Given as goal

abbrev pub invariant-frames : goal.invariant-frames
invariant-frames g l = KeepsSeats g.F.FrameAccess.invariant l.fn.store l.fn.keeper l.store l.keeper
