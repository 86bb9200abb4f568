-- Lemmas: a look at the count of frame 0 keeps the seat's references and credits (`looked_keeps`), and at 1 it makes the
-- seat the sole holder (`looked_sole`); so does a reservation after it (`gains_keep`, `gains_sole`), and one call after
-- another (`keeps_then`).
use Rattle.std.proofs.Common.{◌≡◌, inl, inr, ℕ, ◌+◌, ◌==◌, ◌<◌, List, [], ◌∷◌, true, cond, refl, sym, ap, subst, ◌∙◌, arith}
use Rattle.std.proofs.lemmas.Bool.{eq-eqb}
use Rattle.std.proofs.lemmas.Bool.Decides.{eqb_tells}
use Rattle.frame_store.specs.View.{View, Hold, hold_of, references, looked, counted, IsHeld, IsSole}
use Rattle.frame_store.specs.Holds.{hold_of-with_hold_same, hold_of-with_hold_other, hold_of-frames}
use Rattle.audit_player.specs.KernelFrames.{GainsCredits, KeepsReferences}

module _ (c : ℕ) (v : View) where
  looked_here : hold_of (looked 0 c v) 0 ≡ record (hold_of v 0) { sole = cond (c == 1) true (hold_of v 0).sole }
  looked_here = hold_of-with_hold_same 0 (record (hold_of v 0) { sole = cond (c == 1) true (hold_of v 0).sole }) (record v { tallies = counted (c ∷ []) v.tallies })

  looked_other : (g : ℕ) → (g ≡ 0 → ⊥) → hold_of (looked 0 c v) g ≡ hold_of v g
  looked_other g apart =
      let u : View = record v { tallies = counted (c ∷ []) v.tallies } in
      hold_of-with_hold_other 0 (record (hold_of v 0) { sole = cond (c == 1) true (hold_of v 0).sole }) u g apart ∙ hold_of-frames u v refl g

  looked_references : (g : ℕ) → references (looked 0 c v) g ≡ references v g
  looked_references g = elim (eqb_tells g 0) as (λ _. references (looked 0 c v) g ≡ references v g) [
    | inl same ↦ subst (λ (f : ℕ). references (looked 0 c v) f ≡ references v f) (sym same.1) (ap (λ (h : Hold). h.references) looked_here)
    | inr apart ↦ ap (λ (h : Hold). h.references) (looked_other g apart.1)
  ]

  pub looked_keeps : (w : View) → w ≡ looked 0 c v → KeepsReferences 0 v w
  looked_keeps w is = subst (KeepsReferences 0 v) (sym is) (record { size = refl; references = looked_references; credits = omega arith })

  pub looked_sole : (w : View) → w ≡ looked 0 c v → c ≡ 1 → IsSole w 0
  looked_sole w is one = subst (λ (x : View). IsSole x 0) (sym is) (ap (λ (h : Hold). h.sole) looked_here ∙ ap (λ b. cond b true (hold_of v 0).sole) (eq-eqb c 1 one))

-- nothing has changed
pub keeps_self : (v : View) → KeepsReferences 0 v v
keeps_self v = record { size = refl; references = λ f. refl; credits = omega arith }

pub keeps_then : (n : ℕ) (v w x : View) → KeepsReferences 0 v w → KeepsReferences n w x → KeepsReferences n v x
keeps_then n v w x one two = record { size = two.size ∙ one.size; references = λ f. two.references f ∙ one.references f; credits = omega (arith, one.credits, two.credits) }

-- a held frame stays held
pub keeps_held : (n : ℕ) (v w : View) → KeepsReferences n v w → IsHeld v 0 → IsHeld w 0
keeps_held n v w keeps held = subst (λ (k : ℕ). 0 < k) (sym (keeps.references 0)) held

pub gains_keep : (n : ℕ) (v w : View) → GainsCredits n v w → KeepsReferences n v w
gains_keep n v w gains = record { size = gains.size; references = λ f. ap (λ (h : Hold). h.references) (hold_of-frames w v gains.frames f); credits = gains.credits }

pub gains_sole : (n : ℕ) (v w : View) → GainsCredits n v w → IsSole v 0 → IsSole w 0
gains_sole n v w gains sole = ap (λ (h : Hold). h.sole) (hold_of-frames w v gains.frames 0) ∙ sole
