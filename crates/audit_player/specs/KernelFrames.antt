-- Predicates on the view of the kernel's seat (what its capability at the frame store holds and knows) in a run on threads:
-- it holds `count` frames once each, with frame 0, and `spare` credits (reserved frames; `HoldsOnce`); it has n credits more
-- (`GainsCredits`), also where what it knows of its frames may be more (`KeepsReferences`).
use Rattle.std.specs.Prelude.{◌≡◌, ℕ, ◌+◌, ◌≤◌}
use Rattle.frame_store.specs.View.{View, references}
use Rattle.shared_frames.specs.Totals.{held_frames}

-- the seat has one reference to each of `count` frames, frame 0 (the trampoline's) among them, none to
-- others, and `spare` credits
pub record HoldsOnce (count spare : ℕ) (v : View) : Type 0 where
  pub frames : held_frames v.size v ≡ count
  pub once : (f : ℕ) → references v f ≤ 1
  pub trampoline : references v 0 ≡ 1
  pub credits : v.credits ≡ spare

-- the seat has n credits more; its frames are as before
pub record GainsCredits (n : ℕ) (v w : View) : Type 0 where
  pub size : w.size ≡ v.size
  pub frames : w.frames ≡ v.frames
  pub credits : w.credits ≡ v.credits + n

-- the seat has n credits more, and as many references to each frame as before
pub record KeepsReferences (n : ℕ) (v w : View) : Type 0 where
  pub size : w.size ≡ v.size
  pub references : (f : ℕ) → references w f ≡ references v f
  pub credits : w.credits ≡ v.credits + n
