use Rattle.std.proofs.Common.{◌≡◌}
use Rattle.frame_store.specs.Laws.{KeepsSeats}
use Rattle.frame_store.specs.View.{IsHeld}
use Rattle.tests_of_frames.proofs.clients.first_not_found.Given as goal

-- nothing changes
abbrev pub invariant-cases : goal.invariant-cases
invariant-cases g l = record {
  view : g.F.Seat.FrameSeat.view l.seat ≡ g.F.Seat.FrameSeat.view l.initial.seat;
  keeps : KeepsSeats g.F.FrameAccess.invariant l.fn.store l.fn.seat l.store l.seat;
  held : IsHeld (g.F.Seat.FrameSeat.view l.seat) l.frame.0;
}
