use Rattle.frame_store.specs.Laws.{IsSeatOf}
use Rattle.frame_store.specs.View.{IsHeld}
use Rattle.tests_of_frames.proofs.clients.shared_to_the_most.Given as goal

abbrev pub invariant-times : goal.invariant-times
invariant-times g l = record {
  fits : IsSeatOf g.F.FrameAccess.invariant l.store l.seat;
  held : IsHeld (g.F.Seat.FrameSeat.view l.seat) l.frame.0;
}
