use Rattle.std.proofs.Common.{◌≡◌, ℕ, ◌*◌, drop, take}
use Rattle.std.specs.Int.{from_le_bytes, w64}
use Rattle.frame_store.specs.Laws.{IsSeatOf, KeepsSeats}
use Rattle.frame_store.specs.View.{with_many}
use Rattle.frame_store.proofs.access.FrameAccess.fill.Given as goal

-- the words before an index have their bytes
abbrev pub invariant-words : goal.invariant-words
invariant-words g l = record {
  fits : IsSeatOf g.Self.FrameAccess.invariant l.self l.seat;
  view : g.Self.Seat.FrameSeat.view l.seat ≡ with_many l.frame.0 0 l.index (λ i. from_le_bytes w64 (take 8 (drop (8 * i) l.bytes))) (g.Self.Seat.FrameSeat.view l.initial.seat);
  keeps : KeepsSeats g.Self.FrameAccess.invariant l.initial.self l.initial.seat l.self l.seat;
  free : g.Self.FrameAccess.alone → g.Self.FrameAccess.free l.self ≡ g.Self.FrameAccess.free l.initial.self;
  counts : g.Self.FrameAccess.alone → (f : ℕ) → g.Self.FrameAccess.count l.self f ≡ g.Self.FrameAccess.count l.initial.self f;
}
