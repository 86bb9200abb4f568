-- The words of a table of shared frames at the start (`first_words`); how many frames a view (what a seat holds and
-- knows) holds (`held_frames`); and what `SharedFrames::close` says at the end (`AreTotals`): how many frames have count
-- 0, and the count of frame 0, for words and views that the invariant allows; and that no other seat has anything left, if
-- the closing one has all frames (`AreLastTotals`).
use Rattle.std.specs.Prelude.{◌≡◌, ◌≢◌, ℕ, zero, suc, ◌+◌, ◌*◌, ◌-◌, List, replicate, slice_index, slice_set}
use mathlib.Core.Option.{some}
use lib.ListN.{get_elem?}
use Rattle.frame_store.specs.View.{View, references}
use Rattle.shared_frames.specs.Invariant.{IsSharedInvariant, count_at, one_at_zero, zero_counts}

-- of n frames, frame 0 has one reference and the others are free
abbrev pub first_words : ℕ → List ℕ
first_words n = slice_set (slice_set (replicate (513 * n + 1) 0) 0 (n - 1)) 1 1

-- how many of the first n frames the view holds
abbrev pub held_frames : ℕ → View → ℕ
held_frames zero v = 0
held_frames (suc n) v = 1 - one_at_zero (references v n) + held_frames n v

-- `free` and `trampoline` were read from a table of n frames that was closed by a seat with the view v: for some words and
-- some views of all seats, v among them, the invariant holds, `free` frames have count 0, and `trampoline` is the count of
-- frame 0
pub record AreTotals (n : ℕ) (v : View) (free trampoline : ℕ) : Type 0 where
  -- the words, and the views of all seats at the end
  pub words : List ℕ
  pub views : List View
  -- the invariant holds of them
  pub kept : IsSharedInvariant n words views
  -- the closing seat's view is one of the views
  pub seated : (id : ℕ) × (get_elem? views id ≡ some v)
  -- `free` is how many frames have count 0
  pub unheld : free ≡ zero_counts words n
  -- `trampoline` is the count of frame 0
  pub base : trampoline ≡ slice_index words (count_at 0)

-- the view holds no frame and has no credit
abbrev pub HasNothing : View → Type 0
HasNothing v = ((f : ℕ) → references v f ≡ 0) × (v.credits ≡ 0)

-- `AreTotals` where the closing seat has all frames: it is frame 0's sole holder, and each frame is held by it or reserved for
-- it. No other seat, also of those that were dropped, holds a frame or has a credit
pub record AreLastTotals (n : ℕ) (v : View) (free trampoline : ℕ) : Type 0 where
  pub totals : AreTotals n v free trampoline
  -- each other seat has nothing
  pub others : (id : ℕ) (u : View) → id ≢ totals.seated.0 → get_elem? totals.views id ≡ some u → HasNothing u
  -- the frames of count 0 are those that are reserved for the closing seat
  pub reserved : free ≡ v.credits
  -- all references to frame 0 are the closing seat's
  pub own : trampoline ≡ references v 0
