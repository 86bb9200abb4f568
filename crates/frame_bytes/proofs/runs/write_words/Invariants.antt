use Rattle.std.proofs.Common.{◌≡◌, ℕ, ◌*◌, List, take}
use Rattle.frame_store.specs.Laws.{IsSeatOf, KeepsSeats}
use Rattle.process_model.specs.Bytes.{write_bytes}
use Rattle.frame_bytes.specs.Contents.{ChangesWords, HasBytes}
use Rattle.frame_bytes.proofs.runs.write_words.Given as goal

-- so many words are written
abbrev pub invariant-words : goal.invariant-words
invariant-words g l = record {
  fits : IsSeatOf g.F.FrameAccess.invariant l.store l.seat;
  bytes : (page : List ℕ) → HasBytes (g.F.Seat.FrameSeat.view l.initial.seat) l.frame.0 page
      → HasBytes (g.F.Seat.FrameSeat.view l.seat) l.frame.0 (write_bytes page (8 * l.first) (take (8 * l.place) l.bytes));
  others : ChangesWords l.frame.0 (g.F.Seat.FrameSeat.view l.initial.seat) (g.F.Seat.FrameSeat.view l.seat);
  keeps : KeepsSeats g.F.FrameAccess.invariant l.initial.store l.initial.seat l.store l.seat;
  free : g.F.FrameAccess.alone → g.F.FrameAccess.free l.store ≡ g.F.FrameAccess.free l.initial.store;
  counts : g.F.FrameAccess.alone → (f : ℕ) → g.F.FrameAccess.count l.store f ≡ g.F.FrameAccess.count l.initial.store f;
}
