use Rattle.std.proofs.Common.{◌≡◌, ℕ, ◌*◌, ◌<◌, ◌≤◌, drop, length, slice_index, take}
use Rattle.std.specs.Int.{from_le_bytes, w64}
use Rattle.frame_store.proofs.bytes.put_words.Given as goal

-- the words before an index are put
abbrev pub invariant-loop-index : goal.invariant-loop-index
invariant-loop-index l = record {
  len : length l.words ≡ length l.initial.words;
  front : (i : ℕ) → i < l.index → slice_index l.words i ≡ from_le_bytes w64 (take 8 (drop (8 * i) l.bytes));
  behind : (i : ℕ) → l.index ≤ i → slice_index l.words i ≡ slice_index l.initial.words i;
}
