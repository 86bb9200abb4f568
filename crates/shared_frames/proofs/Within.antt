-- Lemmas: after each step of a seat on the table of shared frames, the frames that it holds have their words in the table
-- (`IsWithin`), and its view still has the number of frames (`size`).
use Rattle.std.proofs.Common.{◌≡◌, ◌≢◌, inl, inr, ℕ, ◌+◌, ◌-◌, ◌*◌, ◌<◌, ◌==◌, true, false, cond, refl, sym, ap, ◌∙◌, subst, arith, lit<, List}
use Rattle.std.proofs.lemmas.Bool.Decides.{eqb_tells}
use Rattle.atomic_table.specs.Table.{Me}
use Rattle.frame_store.specs.View.{View, Hold, hold_of, not_held, with_hold, without_hold, references, IsHeld, sole_hold, with_credits, with_word, claimed, read_full, saw_none, shared, looked, released}
use Rattle.frame_store.specs.Holds.{hold_of-frames}
use Rattle.shared_frames.specs.SeatsOfTable.{FrameFits, IsOfSize, IsSized, IsWithin}
use Rattle.shared_frames.specs.StepEffects.{let_go, saw_free, unshared}
use Rattle.frame_store.specs.ViewChanges.{SetsHold, puts, left_of, released-puts}
use Rattle.shared_frames.proofs.Moves.{unshared-frames}

pub within_puts : (words f : ℕ) (h : Hold) (v w : View) → SetsHold f h v w → FrameFits words f h → IsWithin words v → IsWithin words w
within_puts words f h v w p fits was g = elim (eqb_tells g f) as (λ _. FrameFits words g (hold_of w g)) [
  | inl e ↦ subst (λ m. FrameFits words m (hold_of w m)) (sym e.1) (subst (FrameFits words f) (sym p.here) fits)
  | inr e ↦ subst (FrameFits words g) (sym (p.apart g e.1)) (was g)
]

pub within_same : (words : ℕ) (v w : View) → w.frames ≡ v.frames → IsWithin words v → IsWithin words w
within_same words v w e was g = subst (FrameFits words g) (sym (hold_of-frames w v e g)) (was g)

pub not_held_fits : (words f : ℕ) → FrameFits words f not_held
not_held_fits words f = ((λ q. absurd (omega arith)), (λ q. absurd (cc)))

module _ (words f : ℕ) (v : View) (was : IsWithin words v) where
  pub within-stored : (i x : ℕ) → IsWithin words (with_word f i x v)
  within-stored i x = within_puts words f _ v _ (puts f _ v v refl) (was f) was

  pub within-claimed : 513 * f + 513 < words → IsWithin words (claimed f v)
  within-claimed l = within_puts words f sole_hold v _ (puts f sole_hold v _ refl) ((λ _. l), (λ _. lit< tt)) was

  -- an exchange that found the count 0, or did not
  pub within-tried : 513 * f + 513 < words → (found : ℕ) → IsWithin words (cond (found == 0) (claimed f v) v)
  within-tried l found = elim (found == 0) as (λ b. IsWithin words (cond b (claimed f v) v)) [ true ↦ within-claimed l | false ↦ was ]

  module _ (held : IsHeld v f) where
    pub within-looked : (c : ℕ) → IsWithin words (looked f c v)
    within-looked c = within_puts words f _ v _ (puts f _ v _ refl) ((was f).0, (λ _. held)) was

    pub within-shared : IsWithin words (shared f v)
    within-shared = within_puts words f _ v _ (puts f _ v v refl) ((λ _. (was f).0 held), (λ _. omega arith)) was

    -- an exchange that found the count expected, or did not
    pub within-exchanged : (old found : ℕ) → IsWithin words (cond (found == old) (shared f v) (unshared found v))
    within-exchanged old found = elim (found == old) as (λ b. IsWithin words (cond b (shared f v) (unshared found v))) [ true ↦ within-shared | false ↦ within_same words v _ (unshared-frames found v) was ]

    left_fits : FrameFits words f (left_of f v)
    left_fits = elim (eqb_tells (references v f) 1) as (λ _. FrameFits words f (left_of f v)) [
      | inl t ↦ rw t.0 (not_held_fits words f)
      | inr t ↦ rw t.0 ((λ _. (was f).0 held), (λ _. let more : references v f ≢ 1 = t.1 in omega (arith, held, more)))
    ]

    pub within-released : IsWithin words (released f v)
    within-released = within_puts words f (left_of f v) v _ (released-puts f v) left_fits was

    pub within-let_go : (c : ℕ) → IsWithin words (let_go f c v)
    within-let_go c = within_same words (released f v) _ refl within-released

released-credits : (f : ℕ) (v : View) → (released f v).credits ≡ v.credits
released-credits f v = elim (references v f == 1) as (λ b. (cond b (without_hold f v) (with_hold f (record (hold_of v f) { references = references v f - 1 }) v)).credits ≡ v.credits) [ true ↦ refl | false ↦ refl ]

with_same : (f c : ℕ) (v : View) → c ≡ v.credits → record (released f v) { credits = c } ≡ released f v
with_same f c v e = let k = released-credits f v in let same : c ≡ (released f v).credits = e ∙ sym k in λ i. record (released f v) { credits = same i }

-- what holds of the view that a seat was told holds of the seat
pub told : (words : ℕ) (me : Me (Unit {0}) View) (u v : View) (c : List (ℕ × Unit {0})) → me ≡ (v, c) → IsWithin words v → v.size ≡ u.size → IsOfSize words u → IsWithin words me.0 × IsOfSize words me.0
told words me u v c e was same sized =
    let is : me.0 ≡ v = ap (λ (m : Me (Unit {0}) View). m.0) e in
    (subst (IsWithin words) (sym is) was, subst (λ (n : ℕ). IsSized words n) (sym same ∙ sym (ap (λ (x : View). x.size) is)) sized)

-- no step changes how many frames a seat knows of

pub size-saw_free : (found : ℕ) (v : View) → (saw_free found v).size ≡ v.size
size-saw_free found v = elim (found == 0) as (λ b. (cond b (saw_none v.credits v) v).size ≡ v.size) [ true ↦ refl | false ↦ refl ]

pub size-reserved : (old new found : ℕ) (v : View) → (cond (found == old) (with_credits (old - new) v) v).size ≡ v.size
size-reserved old new found v = elim (found == old) as (λ b. (cond b (with_credits (old - new) v) v).size ≡ v.size) [ true ↦ refl | false ↦ refl ]

pub size-tried : (f found : ℕ) (v : View) → (cond (found == 0) (claimed f v) v).size ≡ v.size
size-tried f found v = elim (found == 0) as (λ b. (cond b (claimed f v) v).size ≡ v.size) [ true ↦ refl | false ↦ refl ]

pub size-exchanged : (f old found : ℕ) (v : View) → (cond (found == old) (shared f v) (unshared found v)).size ≡ v.size
size-exchanged f old found v = elim (found == old) as (λ b. (cond b (shared f v) (unshared found v)).size ≡ v.size) [
  | true ↦ refl
  | false ↦ elim (found == 65535) as (λ b. (cond b (read_full v) v).size ≡ v.size) [ true ↦ refl | false ↦ refl ]
]
