-- Lemmas: a reservation of credits changes no hold of a view (what a seat has and knows of a frame), and a refused one leaves
-- frame 0 held.
use Rattle.std.proofs.Common.{◌≡◌, ℕ, ◌<◌, refl, ap, sym, subst, ◌∙◌}
use Rattle.frame_store.specs.View.{View, Hold, hold_of, IsHeld, with_credits}
use Rattle.frame_store.specs.Laws.{IsDry}
use Rattle.frame_store.specs.Holds.{hold_of-frames}

-- credits leave every hold as it is
pub hold_of-with_credits : (n : ℕ) (v w : View) → w ≡ with_credits n v → (g : ℕ) → hold_of w g ≡ hold_of v g
hold_of-with_credits n v w e g = ap (λ u. hold_of u g) e ∙ hold_of-frames (with_credits n v) v refl g

-- a refused reservation leaves frame 0 held
pub dry_held : (n : ℕ) (v w : View) → IsDry n v w → IsHeld v 0 → IsHeld w 0
dry_held n v w dry held = subst (λ (h : Hold). 0 < h.references) (sym (hold_of-frames w v dry.frames 0)) held
