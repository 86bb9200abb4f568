use Rattle.std.proofs.Common.{◌≡◌, ℕ, ◌+◌, ◌*◌, ◌<◌, List, length, slice_index}
use Rattle.frame_store.specs.Laws.{IsSeatOf, KeepsSeats}
use Rattle.frame_bytes.specs.Contents.{HasBytes}
use Rattle.frame_bytes.proofs.contents.read_words.Given as goal

-- the bytes of so many words are read
abbrev pub invariant-loop-place : goal.invariant-loop-place
invariant-loop-place g l = record {
  fits : IsSeatOf g.F.FrameAccess.invariant l.store l.seat;
  bytes : (page : List ℕ) → HasBytes (g.F.Seat.FrameSeat.view l.initial.seat) l.frame.0 page
      → (k : ℕ) → k < 8 * l.place → slice_index l.bytes k ≡ slice_index page (8 * l.first + k);
  length : length l.bytes ≡ length l.initial.bytes;
  view : g.F.Seat.FrameSeat.view l.seat ≡ g.F.Seat.FrameSeat.view l.initial.seat;
  same : l.store ≡ l.initial.store;
  keeps : KeepsSeats g.F.FrameAccess.invariant l.initial.store l.initial.seat l.store l.seat;
}
