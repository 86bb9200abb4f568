-- Lemma: if a seat knows the 512 words of a frame as those of at most 4,096 bytes, padded with zeros, it knows that the
-- frame has these bytes and then zeros (`HasBytes` of `padded`).
use Rattle.std.proofs.Common.{◌≡◌, ℕ, ◌*◌, ◌^◌, ◌<◌, ◌≤◌, List, length, drop, slice_index, Some, ap, sym, ◌∙◌}
use Rattle.frame_store.specs.View.{View, known_word}
use Rattle.process_model.specs.Bytes.{number, padded}
use Rattle.frame_bytes.specs.Contents.{HasBytes}
use Rattle.frame_bytes.proofs.Writes.{length-padded, slice_index-padded, number_same}

pub filled : (f : ℕ) (v : View) (bytes : List ℕ) → length bytes ≤ 4096 → ((k : ℕ) → slice_index bytes k < 2 ^ 8)
    → ((i : ℕ) → i < 512 → known_word v f i ≡ Some (number (drop (8 * i) bytes) 8)) → HasBytes v f (padded 4096 bytes)
filled f v bytes short small words = record {
  length = length-padded 4096 bytes short;
  small = λ k. rw (slice_index-padded 4096 bytes short k) (small k);
  words = λ i h. words i h ∙ ap (λ w. Some w) (number_same 8 (8 * i) (8 * i) bytes (padded 4096 bytes) (λ k _. sym (slice_index-padded 4096 bytes short _)));
}
