-- Laws of `ChangesWords` (two views, what a seat holds and knows, differ at most in the known words of one frame) and of
-- `with_word` (one word was stored): the seat still has its references, its sole-holder flags, and the known words and
-- bytes of other frames; two changes in sequence are one; in the frame itself only the stored word changes.
use Rattle.std.proofs.Common.{◌≡◌, ℕ, ◌+◌, ◌<◌, ◌==◌, cond, refl, ap, sym, subst, ◌∙◌, Option, Some, List, inl, inr, arith}
use Rattle.std.specs.Prelude.{IsTrue}
use Rattle.std.proofs.lemmas.Bool.Decides.{eqb_tells}
use Rattle.std.specs.Ordering.{nat_cmp}
use Rattle.std.specs.FinMap as map
use Rattle.frame_store.specs.View.{View, Hold, hold_of, references, IsHeld, IsSole, known_word, with_hold, with_word}
use Rattle.frame_store.specs.Holds.{get-insert_at, hold_of-with_hold_same, hold_of-with_hold_other, with_hold-with_hold, with_sole_hold_back}
use Rattle.frame_bytes.specs.Contents.{HasBytes, ChangesWords}

-- no word is stored
pub changes_none : (f : ℕ) (v : View) → IsSole v f → ChangesWords f v v
changes_none f v sole = ((hold_of v f).words, sym (with_sole_hold_back f v sole))

-- one word is stored
pub changes_one : (f i x : ℕ) (v w : View) → w ≡ with_word f i x v → ChangesWords f v w
changes_one f i x v w stored = (map.insert (hold_of v f).words i x, stored)

-- two changes in sequence are one change
pub changes_both : (f : ℕ) (u v w : View) → ChangesWords f u v → ChangesWords f v w → ChangesWords f u w
changes_both f u v w first second =
    let last = record (hold_of u f) { words = second.0 } in
    let here : hold_of v f ≡ record (hold_of u f) { words = first.0 }
    = ap (λ z. hold_of z f) first.1 ∙ hold_of-with_hold_same f (record (hold_of u f) { words = first.0 }) u in (
      second.0,
      second.1 ∙ ap (λ (h : Hold). with_hold f (record h { words = second.0 }) v) here ∙ ap (with_hold f last) first.1
          ∙ with_hold-with_hold f last (record (hold_of u f) { words = first.0 }) u,
    )

module _ (f : ℕ) (v w : View) (changes : ChangesWords f v w) where
  hold_after : hold_of w f ≡ record (hold_of v f) { words = changes.0 }
  hold_after = ap (λ z. hold_of z f) changes.1 ∙ hold_of-with_hold_same f (record (hold_of v f) { words = changes.0 }) v

  -- the hold of every other frame stays
  changed_apart : (g : ℕ) → (g ≡ f → ⊥) → hold_of w g ≡ hold_of v g
  changed_apart g apart = ap (λ z. hold_of z g) changes.1 ∙ hold_of-with_hold_other f (record (hold_of v f) { words = changes.0 }) v g apart

  -- each part of a hold but its words stays
  changed_part : {A : Type 0} (part : Hold → A) → ((h : Hold) (words : map.FinMap nat_cmp ℕ) → part (record h { words = words }) ≡ part h)
      → (g : ℕ) → part (hold_of w g) ≡ part (hold_of v g)
  changed_part part same g = elim (eqb_tells g f) as (λ _. part (hold_of w g) ≡ part (hold_of v g)) [
    | inl t ↦ subst (λ k. part (hold_of w k) ≡ part (hold_of v k)) (sym t.1) (ap part hold_after ∙ same (hold_of v f) changes.0)
    | inr t ↦ ap part (changed_apart g t.1)
  ]

  pub changed_references : (g : ℕ) → references w g ≡ references v g
  changed_references g = changed_part (λ h. h.references) (λ h words. refl) g

  pub changed_held : (g : ℕ) → IsHeld v g → IsHeld w g
  changed_held g held = subst (λ n. 0 < n) (sym (changed_references g)) held

  pub changed_sole : (g : ℕ) → IsSole v g → IsSole w g
  changed_sole g sole = subst IsTrue (sym (changed_part (λ h. h.sole) (λ h words. refl) g)) sole

  -- the known words of every other frame stay
  pub known_apart : (g : ℕ) → (g ≡ f → ⊥) → (i : ℕ) → known_word w g i ≡ known_word v g i
  known_apart g apart i = ap (λ (h : Hold). map.get h.words i) (changed_apart g apart)

  pub bytes_apart : (g : ℕ) → (g ≡ f → ⊥) → (bytes : List ℕ) → HasBytes v g bytes → HasBytes w g bytes
  bytes_apart g apart bytes has = record { length = has.length; small = has.small; words = λ i h. known_apart g apart i ∙ has.words i h }

-- the known words of the frame after one was stored
module _ (f i x : ℕ) (v w : View) (stored : w ≡ with_word f i x v) where
  known_after : (q : ℕ) → known_word w f q ≡ cond (q == i) (Some x) (known_word v f q)
  known_after q = ap (λ (h : Hold). map.get h.words q)
      (ap (λ z. hold_of z f) stored ∙ hold_of-with_hold_same f (record (hold_of v f) { words = map.insert (hold_of v f).words i x }) v)
      ∙ get-insert_at (hold_of v f).words i x q

  pub stored_here : known_word w f i ≡ Some x
  stored_here = known_after i ∙ elim (eqb_tells i i) as (λ _. cond (i == i) (Some x) (known_word v f i) ≡ Some x) [
    | inl t ↦ rw t.0 refl
    | inr t ↦ absurd (t.1 refl)
  ]

  pub stored_apart : (q : ℕ) → (q ≡ i → ⊥) → known_word w f q ≡ known_word v f q
  stored_apart q apart = known_after q ∙ elim (eqb_tells q i) as (λ _. cond (q == i) (Some x) (known_word v f q) ≡ known_word v f q) [
    | inl t ↦ absurd (apart t.1)
    | inr t ↦ rw t.0 refl
  ]

  -- a property of each word before index i, and of the word that was stored at i, holds of each word before i + 1
  pub known_more : (A : ℕ → Option ℕ → Type 0) → ((q : ℕ) → q < i → A q (known_word v f q)) → A i (Some x) → (q : ℕ) → q < i + 1 → A q (known_word w f q)
  known_more A before here q h = elim (eqb_tells q i) as (λ _. A q (known_word w f q)) [
    | inl t ↦ subst (λ k. A k (known_word w f k)) (sym t.1) (subst (A i) (sym stored_here) here)
    | inr t ↦ let apart = t.1 in subst (A q) (sym (stored_apart q apart)) (before q (omega arith))
  ]

-- equal words stored in equal views give equal views
pub stored_as : (f i r x : ℕ) (v m w : View) → w ≡ with_word f i r m → m ≡ v → r ≡ x → w ≡ with_word f i x v
stored_as f i r x v m w stored same is = stored ∙ ap (with_word f i r) same ∙ ap (λ k. with_word f i k v) is
