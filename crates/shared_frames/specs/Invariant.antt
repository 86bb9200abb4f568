-- The invariant of shared frames (`IsSharedInvariant`, `Kept`), which holds between any two steps: counts are the sums of all
-- seats' references and at most `MOST_REFERENCES`, the frames of count 0 are the free and the reserved ones, and what each view (the
-- ghost state of a seat, an owner's capability) says is true. And the table's layout, here the places of counts and words
-- in it.
use Rattle.std.specs.Prelude.{◌≡◌, ℕ, zero, suc, ◌+◌, ◌*◌, ◌<◌, ◌≤◌, List, [], ◌∷◌, length, slice_index, Some, IsTrue}
use mathlib.Core.Option.{some}
use lib.ListN.{get_elem?}
use Rattle.std.specs.FinMap as map
use Rattle.atomic_table.specs.Table.{State}
use Rattle.frame_store.specs.Laws.{IsAnchored}
use Rattle.frame_store.specs.View.{View, Hold, hold_of, not_held, references, IsHeld}
use Rattle.process_model.specs.declared.limits.TheConstants.{MOST_REFERENCES, MOST_SHARED_FRAMES}

-- Word 0 of the table is the free count. Then each frame has 513 words: its reference count, and the 512 words of its memory
abbrev pub count_at : ℕ → ℕ
count_at f = 513 * f + 1

abbrev pub memory_at : ℕ → ℕ → ℕ
memory_at f i = 513 * f + 2 + i

-- the sum of g over the views
abbrev pub total : (View → ℕ) → List View → ℕ
total g [] = 0
total g (v ∷ vs) = g v + total g vs

abbrev pub all_references : ℕ → List View → ℕ
all_references f views = total (λ v. references v f) views

abbrev pub all_credits : List View → ℕ
all_credits views = total (λ v. v.credits) views

abbrev pub one_at_zero : ℕ → ℕ
one_at_zero zero = 1
one_at_zero (suc c) = 0

-- how many of the first n frames have count 0
abbrev pub zero_counts : List ℕ → ℕ → ℕ
zero_counts words zero = 0
zero_counts words (suc n) = one_at_zero (slice_index words (count_at n)) + zero_counts words n

-- What a seat's hold h says of frame f is true, if all seats together have `all` references to the frame: a word that it
-- knows is the word in the table; a sole holder has at least one reference, and all that there are; a seat without a
-- reference knows nothing
pub record FrameAgrees (words : List ℕ) (f all : ℕ) (h : Hold) : Type 0 where
  pub known : (i w : ℕ) → map.get h.words i ≡ Some w → (i < 512) × (slice_index words (memory_at f i) ≡ w)
  pub sole : IsTrue h.sole → (0 < h.references) × (all ≡ h.references)
  pub bare : h.references ≡ 0 → h ≡ not_held

-- What a seat's view says is true of a table of n frames: each held frame is one of the n; a seat that holds any frame holds
-- frame 0; and each hold is true of the words and of the references `all` that all seats together have
pub record ViewAgrees (n : ℕ) (words : List ℕ) (all : ℕ → ℕ) (v : View) : Type 0 where
  pub within : (f : ℕ) → IsHeld v f → f < n
  pub anchored : IsAnchored v
  pub frames : (f : ℕ) → FrameAgrees words f (all f) (hold_of v f)

-- The invariant for n frames, at most 256, with 513 * n + 1 words: each count is the sum of all seats' references to the
-- frame, at most `MOST_REFERENCES`; the frames of count 0 are as many as the free count and all credits together; and what each view
-- says is true
pub record IsSharedInvariant (n : ℕ) (words : List ℕ) (views : List View) : Type 0 where
  pub narrow : n ≤ MOST_SHARED_FRAMES
  pub wide : length words ≡ 513 * n + 1
  pub counted : (f : ℕ) → f < n → slice_index words (count_at f) ≡ all_references f views
  pub few : (f : ℕ) → f < n → all_references f views ≤ MOST_REFERENCES
  pub balanced : zero_counts words n ≡ slice_index words 0 + all_credits views
  pub agrees : (id : ℕ) (v : View) → get_elem? views id ≡ some v → ViewAgrees n words (λ f. all_references f views) v

abbrev pub Kept : ℕ → State (Unit {0}) View → Type 0
Kept n s = IsSharedInvariant n s.words s.views
