use Rattle.std.proofs.Common.{◌≡◌, ◌≤◌}
use Rattle.frame_store.specs.Laws.{KeepsSeats}
use Rattle.frame_store.specs.NextWord.{AreZeros}
use Rattle.frame_store.proofs.access.FrameAccess.next_word.Given as goal

-- so many words are 0
abbrev pub invariant-words : goal.invariant-words
invariant-words g l = record {
  view : g.Self.Seat.FrameSeat.view l.seat ≡ g.Self.Seat.FrameSeat.view l.initial.seat;
  same : l.self ≡ l.initial.self;
  keeps : KeepsSeats g.Self.FrameAccess.invariant l.initial.self l.initial.seat l.self l.seat;
  from : l.first ≤ l.index;
  zeros : AreZeros (g.Self.Seat.FrameSeat.view l.initial.seat) l.frame.0 l.first l.index;
}
