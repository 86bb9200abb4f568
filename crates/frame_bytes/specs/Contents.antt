-- Predicates: a seat knows the 4,096 bytes of a frame (`HasBytes`), or its first n words as those of some bytes (`HasWords`);
-- and two views (what a seat holds and knows) differ at most in the known words of one frame (`ChangesWords`, by
-- `with_words`).
use Rattle.std.specs.Prelude.{◌≡◌, ℕ, ◌*◌, ◌^◌, ◌<◌, Some, List, length, slice_index, drop}
use Rattle.std.specs.Ordering.{nat_cmp}
use Rattle.std.specs.FinMap.{FinMap}
use Rattle.frame_store.specs.View.{View, hold_of, known_word, with_hold}
use Rattle.process_model.specs.Bytes.{number}

-- the seat knows that frame f has these 4,096 bytes: it knows each of the 512 words, and word i is the little-endian number
-- of the bytes from 8 * i to 8 * i + 7
pub record HasBytes (v : View) (f : ℕ) (bytes : List ℕ) : Type 0 where
  pub length : length bytes ≡ 4096
  pub small : (k : ℕ) → slice_index bytes k < 2 ^ 8
  pub words : (i : ℕ) → i < 512 → known_word v f i ≡ Some (number (drop (8 * i) bytes) 8)

-- the seat knows the first n words of frame f, and they are those of the bytes, padded with zeros
abbrev pub HasWords : View → ℕ → List ℕ → ℕ → Type 0
HasWords v f bytes n = (i : ℕ) → i < n → known_word v f i ≡ Some (number (drop (8 * i) bytes) 8)

-- the view with `words` as the known words of frame f
abbrev pub with_words : ℕ → FinMap nat_cmp ℕ → View → View
with_words f words v = with_hold f (record (hold_of v f) { words = words }) v

-- the two views differ at most in the known words of frame f
abbrev pub ChangesWords : ℕ → View → View → Type 0
ChangesWords f before after = (words : FinMap nat_cmp ℕ) × (after ≡ with_words f words before)
