use Rattle.std.proofs.Common.{◌≡◌, ℕ}
use Rattle.frame_store.specs.Laws.{IsSeatOf, KeepsSeats}
use Rattle.frame_store.specs.View.{with_many, words_known}
use Rattle.frame_store.proofs.access.FrameAccess.copy.Given as goal

-- the words before an index are copied
abbrev pub invariant-words : goal.invariant-words
invariant-words g l = record {
  fits : IsSeatOf g.Self.FrameAccess.invariant l.self l.seat;
  view : g.Self.Seat.FrameSeat.view l.seat ≡ with_many l.to.0 0 l.index (words_known (g.Self.Seat.FrameSeat.view l.initial.seat) l.from.0) (g.Self.Seat.FrameSeat.view l.initial.seat);
  keeps : KeepsSeats g.Self.FrameAccess.invariant l.initial.self l.initial.seat l.self l.seat;
  free : g.Self.FrameAccess.alone → g.Self.FrameAccess.free l.self ≡ g.Self.FrameAccess.free l.initial.self;
  counts : g.Self.FrameAccess.alone → (f : ℕ) → g.Self.FrameAccess.count l.self f ≡ g.Self.FrameAccess.count l.initial.self f;
}
