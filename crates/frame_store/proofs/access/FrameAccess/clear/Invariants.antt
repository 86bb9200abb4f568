use Rattle.std.proofs.Common.{◌≡◌, ℕ, ◌-◌, ◌≤◌}
use Rattle.frame_store.specs.Laws.{IsSeatOf, KeepsSeats}
use Rattle.frame_store.specs.View.{with_many}
use Rattle.frame_store.proofs.access.FrameAccess.clear.Given as goal

-- the words before an index are 0
abbrev pub invariant-words : goal.invariant-words
invariant-words g l = record {
  fits : IsSeatOf g.Self.FrameAccess.invariant l.self l.seat;
  from : l.first ≤ l.index;
  view : g.Self.Seat.FrameSeat.view l.seat ≡ with_many l.frame.0 l.first (l.index - l.first) (λ _. 0) (g.Self.Seat.FrameSeat.view l.initial.seat);
  keeps : KeepsSeats g.Self.FrameAccess.invariant l.initial.self l.initial.seat l.self l.seat;
  free : g.Self.FrameAccess.alone → g.Self.FrameAccess.free l.self ≡ g.Self.FrameAccess.free l.initial.self;
  counts : g.Self.FrameAccess.alone → (f : ℕ) → g.Self.FrameAccess.count l.self f ≡ g.Self.FrameAccess.count l.initial.self f;
}
