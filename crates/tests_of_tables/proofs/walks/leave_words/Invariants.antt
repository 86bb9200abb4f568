use Rattle.std.proofs.Common.{◌≡◌, ℕ, ◌+◌}
use Rattle.frame_store.specs.Laws.{KeepsSeats}
use Rattle.frame_store.specs.View.{hold_of, IsHeld, IsSole}
use Rattle.tests_of_tables.proofs.walks.leave_words.Given as goal

abbrev pub invariant-loop-index : goal.invariant-loop-index
invariant-loop-index g l = record {
  keeps : KeepsSeats g.F.FrameAccess.invariant l.fn.store l.fn.seat l.store l.seat;
  held : IsHeld (g.F.Seat.FrameSeat.view l.seat) l.frame.0;
  sole : IsSole (g.F.Seat.FrameSeat.view l.seat) l.frame.0;
  kept : (f : ℕ) → IsHeld (g.F.Seat.FrameSeat.view l.fn.seat) f → hold_of (g.F.Seat.FrameSeat.view l.seat) f ≡ hold_of (g.F.Seat.FrameSeat.view l.fn.seat) f;
  credits : (g.F.Seat.FrameSeat.view l.seat).credits + 1 ≡ (g.F.Seat.FrameSeat.view l.fn.seat).credits;
}
