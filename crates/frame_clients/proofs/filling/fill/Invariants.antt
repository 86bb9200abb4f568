use Rattle.std.proofs.Common.{◌≡◌, ℕ, take}
use Rattle.frame_store.specs.Laws.{IsSeatOf, KeepsSeats}
use Rattle.frame_store.specs.View.{with_hold}
use Rattle.frame_clients.specs.FilledFrames.{page_hold}
use Rattle.frame_clients.proofs.filling.fill.Given as goal

-- so many words are stored
abbrev pub invariant-loop-index : goal.invariant-loop-index
invariant-loop-index g l = record {
  fits : IsSeatOf g.A.FrameAccess.invariant l.store l.seat;
  view : g.A.Seat.FrameSeat.view l.seat ≡ with_hold l.frame.0 (page_hold (take l.index l.words)) (g.A.Seat.FrameSeat.view l.initial.seat);
  keeps : KeepsSeats g.A.FrameAccess.invariant l.initial.store l.initial.seat l.store l.seat;
  free : g.A.FrameAccess.alone → g.A.FrameAccess.free l.store ≡ g.A.FrameAccess.free l.initial.store;
  counts : g.A.FrameAccess.alone → (f : ℕ) → g.A.FrameAccess.count l.store f ≡ g.A.FrameAccess.count l.initial.store f;
}
