-- Predicates on the seat of the byte tests (`Bench`), by its view (what it holds and knows): it is the sole holder of a frame
-- and knows its bytes (`Owns`), and so of two frames, between calls (`OwnsBoth`).
use Rattle.std.specs.Prelude.{◌≢◌, ℕ, List, [], ◌∷◌}
use Rattle.frame_store.specs.Plain.{PlainState, PlainStateInvariant}
use Rattle.frame_store.specs.View.{View, IsHeld, IsSole}
use Rattle.frame_bytes.specs.Contents.{HasBytes}

-- a seat is the sole holder of a frame, and knows its bytes
pub record Owns (v : View) (f : ℕ) : Type 0 where
  pub held : IsHeld v f
  pub sole : IsSole v f
  pub known : (bytes : List ℕ) × HasBytes v f bytes

-- a plain store whose only seat, with view v, owns the frames f and g, which differ
pub record OwnsBoth (store : PlainState) (v : View) (f g : ℕ) : Type 0 where
  pub invariant : PlainStateInvariant store (v ∷ [])
  pub one : Owns v f
  pub other : Owns v g
  pub apart : f ≢ g
