-- Predicates for the results of a store's searches of a frame: `IsNextWord` for `next_word` (the next word that is not 0) and
-- `IsNextBusyWord` for `next_busy_word` (which may also pass over words that name, as a PTE, a frame of zeros), as far as the
-- seat knows the words.
use Rattle.std.specs.Prelude.{◌≡◌, ◌≢◌, ◌⊎◌, ℕ, ◌<◌, ◌≤◌, Option, None, Some}
use Rattle.frame_store.specs.View.{known_word, View}
use Rattle.sv39_entry.specs.Frame.{frame_at}
use Rattle.sv39_entry.specs.Word.{ppn}
use Rattle.sv39_entry.specs.declared.frame.FrameNo.{FrameNo}

-- each word that the seat knows of frame f, from index `first` on and before `end`, is 0
abbrev pub AreZeros : View → ℕ → ℕ → ℕ → Type 0
AreZeros v f first end = (i w : ℕ) → first ≤ i → i < end → known_word v f i ≡ Some w → w ≡ 0

-- the result of a search of frame f from index `first` on and before `last`. None: the known words of the range are 0. An
-- index and a word: the index is in the range, the known words before it are 0, the word is not 0, and it is the known word
-- there if there is one
abbrev pub IsNextWord : View → ℕ → ℕ → ℕ → Option (ℕ × ℕ) → Type 0
IsNextWord v f first last None = AreZeros v f first last
IsNextWord v f first last (Some p) =
    (first ≤ p.0) × (p.0 < last) × AreZeros v f first p.0 × (p.1 ≢ 0) × ((w : ℕ) → known_word v f p.0 ≡ Some w → p.1 ≡ w)

-- the word w, as a page table entry, has the page number of a frame whose known words are all 0
abbrev pub NamesZeros : View → ℕ → Type 0
NamesZeros v w = (g : FrameNo) × (frame_at (ppn w) ≡ Some g) × AreZeros v g.0 0 512

-- each word that the seat knows of frame f, from index `first` on and before `end`, is 0 or names such a frame
abbrev pub AreIdle : View → ℕ → ℕ → ℕ → Type 0
AreIdle v f first end = (i w : ℕ) → first ≤ i → i < end → known_word v f i ≡ Some w → (w ≡ 0) ⊎ NamesZeros v w

-- the result of a search that may also pass over names of such frames. None: each known word of the range is 0 or names such
-- a frame. An index and a word: the index is in the range, each known word before it is 0 or names such a frame, the word is
-- not 0, and it is the known word there if there is one
abbrev pub IsNextBusyWord : View → ℕ → ℕ → ℕ → Option (ℕ × ℕ) → Type 0
IsNextBusyWord v f first last None = AreIdle v f first last
IsNextBusyWord v f first last (Some p) =
    (first ≤ p.0) × (p.0 < last) × AreIdle v f first p.0 × (p.1 ≢ 0) × ((w : ℕ) → known_word v f p.0 ≡ Some w → p.1 ≡ w)
