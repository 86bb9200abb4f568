-- Predicates for the words that `Memory` holds (all frames of plain frames in one list, 512 words for each): ranges of
-- zeros, words that name, as a PTE, a frame of zeros, the results of searches for the next nonzero word, the two bounds
-- that `Memory` keeps for each frame (`Runs`), and an update of adjacent words (`PutsMany`). And the list that
-- `FrameWords` stands for (`by_frame`).
use Rattle.std.specs.Prelude.{◌≡◌, ◌≢◌, ◌⊎◌, ℕ, ◌+◌, ◌-◌, ◌*◌, ◌/◌, ◌%◌, ◌<◌, ◌≤◌, List, length, map, slice_index, Option, None, Some}
use Rattle.std.specs.List.{range_with_len}
use Rattle.sv39_entry.specs.Frame.{frame_at}
use Rattle.sv39_entry.specs.Word.{ppn}
use Rattle.sv39_entry.specs.declared.frame.FrameNo.{FrameNo}

-- the words of frame f from index `first` on and before `end` are 0
abbrev pub ZerosIn : List ℕ → ℕ → ℕ → ℕ → Type 0
ZerosIn words f first end = (i : ℕ) → first ≤ i → i < end → slice_index words (512 * f + i) ≡ 0

-- the word w, as a page table entry, has the page number of a frame whose words are all 0
abbrev pub NamesBlank : List ℕ → ℕ → Type 0
NamesBlank words w = (g : FrameNo) × (frame_at (ppn w) ≡ Some g) × ZerosIn words g.0 0 512

-- the word w is 0 or names such a frame
abbrev pub IsIdle : List ℕ → ℕ → Type 0
IsIdle words w = (w ≡ 0) ⊎ NamesBlank words w

-- each word of frame f from index `first` on and before `end` is 0 or names a frame of zeros
abbrev pub IdleIn : List ℕ → ℕ → ℕ → ℕ → Type 0
IdleIn words f first end = (i : ℕ) → first ≤ i → i < end → IsIdle words (slice_index words (512 * f + i))

-- `word` is not 0, and is at `index` of frame f, from `first` on and before `last`
pub record IsWordIn (words : List ℕ) (f first last index word : ℕ) : Type 0 where
  pub from : first ≤ index
  pub before : index < last
  pub some : word ≢ 0
  pub is : slice_index words (512 * f + index) ≡ word

-- the first word of this range that is not 0, with its index; None if there is none
abbrev pub IsNextIn : List ℕ → ℕ → ℕ → ℕ → Option (ℕ × ℕ) → Type 0
IsNextIn words f first last None = ZerosIn words f first last
IsNextIn words f first last (Some p) = IsWordIn words f first last p.0 p.1 × ZerosIn words f first p.0

-- a word of this range that is not 0, with its index, such that each word of the range before it is 0 or names a frame of
-- zeros; None if each word of the range is so
abbrev pub IsNextBusy : List ℕ → ℕ → ℕ → ℕ → Option (ℕ × ℕ) → Type 0
IsNextBusy words f first last None = IdleIn words f first last
IsNextBusy words f first last (Some p) = IsWordIn words f first last p.0 p.1 × IdleIn words f first p.0

-- the bounds of `Memory`: in each frame the words before its low index, and from its high index on, are 0
pub record Runs (words lows highs : List ℕ) : Type 0 where
  pub sized : length words ≡ 512 * length lows
  pub same : length highs ≡ length lows
  pub small : (f : ℕ) → slice_index lows f ≤ 512
  pub within : (f : ℕ) → slice_index highs f ≤ 512
  pub before : (f : ℕ) → ZerosIn words f 0 (slice_index lows f)
  pub behind : (f : ℕ) → ZerosIn words f (slice_index highs f) 512

-- n words of frame f from index `first` on are what `word` gives for their index; no other word changes
pub record PutsMany (old new : List ℕ) (f first n : ℕ) (word : ℕ → ℕ) : Type 0 where
  pub long : length new ≡ length old
  pub inside : (q : ℕ) → first ≤ q → q < first + n → slice_index new (512 * f + q) ≡ word q
  pub outside : (p : ℕ) → (512 * f + first ≤ p → p < 512 * f + (first + n) → ⊥) → slice_index new p ≡ slice_index old p

-- where word p of n frames is, frame by frame, in a list whose blocks of 512 words are the frames from the last one down
abbrev pub turned : ℕ → ℕ → ℕ
turned n p = 512 * (n - 1 - p / 512) + p % 512

-- the words of n frames, those of frame 0 first, by such a list; words that it lacks are 0
abbrev pub by_frame : ℕ → List ℕ → List ℕ
by_frame n list = map (λ p. slice_index list (turned n p)) (range_with_len 0 (512 * n))
