use Rattle.frame_store.specs.Laws.{KeepsSeats}
use Rattle.frame_store.specs.View.{IsHeld}
use Rattle.tests_of_refusals.proofs.initial_process.share_frame_zero.Given as goal

abbrev pub invariant-times : goal.invariant-times
invariant-times g l = record {
  anchored : IsHeld (g.S.FrameSeat.view l.keeper) 0;
  keeps : KeepsSeats g.F.FrameAccess.invariant l.fn.store l.fn.keeper l.store l.keeper;
}
