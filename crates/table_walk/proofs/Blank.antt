-- Lemmas about what a seat holds and knows when a frame is claimed and cleared: it knows that each of the 512 words is 0, and
-- has of every other frame what it had.
use Rattle.std.proofs.Common.{◌≡◌, ℕ, zero, suc, ◌+◌, ◌-◌, ◌<◌, refl, ap, sym, subst, ◌∙◌, Some, IsTrue, inl, inr, arith}
use Rattle.std.proofs.lemmas.Bool.{cases_eq}
use Rattle.std.specs.FinMap as map
use Rattle.std.specs.FinMap.{get}
use Rattle.frame_store.specs.Holds.{hold_of-frames, hold_of-with_hold_other, hold_of-with_hold_same}
use Rattle.frame_store.specs.StoredRuns.{put-more, put-none}
use Rattle.frame_store.specs.View.{put_many, with_many, spent, Hold, View, claimed, hold_of, IsHeld, IsSole, known_word, references, sole_hold, with_hold}
use Rattle.table_walk.specs.Tables.{blank_hold, zeros_to}
use Rattle.table_walk.specs.Keys.{insert_other, insert_same}

-- ---- zeros

pub zero_word : (n i : ℕ) → i < n → get (zeros_to n) i ≡ Some 0
zero_word zero i lt = absurd (omega arith)
zero_word (suc n) i lt = elim (cases_eq i n) [
  | inl e ↦ insert_same (zeros_to n) n 0 i e
  | inr ne ↦ insert_other (zeros_to n) n 0 i ne ∙ zero_word n i (omega (arith, ne))
]

-- zeros that are put one after another from the first word on
zeros_put : (n : ℕ) → put_many 0 n (λ _. 0) map.empty ≡ zeros_to n
zeros_put zero = put-none 0 (λ _. 0) map.empty
zeros_put (suc n) =
    let at : 0 + n ≡ n = omega arith in
    put-more 0 (λ _. 0) map.empty n ∙ ap (λ ws. map.insert ws (0 + n) 0) (zeros_put n) ∙ ap (λ i. map.insert (zeros_to n) i 0) at

pub is_sole : (f : ℕ) (v : View) → hold_of v f ≡ sole_hold → IsSole v f
is_sole f v is = subst (λ (h : Hold). IsTrue h.sole) (sym is) refl

pub cleared : (f : ℕ) (v w : View) → hold_of v f ≡ sole_hold → w ≡ with_many f 0 (512 - 0) (λ _. 0) v → w ≡ with_hold f blank_hold v
cleared f v w is stored =
    stored ∙ ap (λ (h : Hold). with_hold f (record h { words = put_many 0 512 (λ _. 0) h.words }) v) is
    ∙ ap (λ ws. with_hold f (record sole_hold { words = ws }) v) (zeros_put 512)

-- ---- a claimed frame

abbrev pub blanked : ℕ → View → View
blanked f v = with_hold f blank_hold (claimed f v)

abbrev pub paid : View → View
paid v = record v { credits = v.credits - 1; tallies = spent 1 v.tallies }

pub hold_of-claimed_same : (f : ℕ) (v : View) → hold_of (claimed f v) f ≡ sole_hold
hold_of-claimed_same f v = hold_of-with_hold_same f sole_hold (paid v)

pub hold_of-claimed_other : (f : ℕ) (v : View) (g : ℕ) → (g ≡ f → ⊥) → hold_of (claimed f v) g ≡ hold_of v g
hold_of-claimed_other f v g apart = hold_of-with_hold_other f sole_hold (paid v) g apart ∙ hold_of-frames (paid v) v refl g

pub hold_of-blanked_same : (f : ℕ) (v : View) → hold_of (blanked f v) f ≡ blank_hold
hold_of-blanked_same f v = hold_of-with_hold_same f blank_hold (claimed f v)

pub hold_of-blanked_other : (f : ℕ) (v : View) (g : ℕ) → (g ≡ f → ⊥) → hold_of (blanked f v) g ≡ hold_of v g
hold_of-blanked_other f v g apart = hold_of-with_hold_other f blank_hold (claimed f v) g apart ∙ hold_of-claimed_other f v g apart

-- what is held is not a frame of which nothing is
pub not_fresh : (f g : ℕ) (v : View) → references v f ≡ 0 → IsHeld v g → g ≡ f → ⊥
not_fresh f g v none held e = let other : references v g ≡ 0 = ap (references v) e ∙ none in omega arith

pub blank_known : (f : ℕ) (v : View) (i : ℕ) → i < 512 → known_word (blanked f v) f i ≡ Some 0
blank_known f v i lt = ap (λ (h : Hold). get h.words i) (hold_of-blanked_same f v) ∙ zero_word 512 i lt

pub others_known : (f : ℕ) (v : View) (g i : ℕ) → (g ≡ f → ⊥) → known_word (blanked f v) g i ≡ known_word v g i
others_known f v g i apart = ap (λ (h : Hold). get h.words i) (hold_of-blanked_other f v g apart)

pub still_sole : (f g : ℕ) (v : View) → references v f ≡ 0 → IsHeld v g → IsSole v g → IsSole (blanked f v) g
still_sole f g v none held sole = subst (λ (h : Hold). IsTrue h.sole) (sym (hold_of-blanked_other f v g (not_fresh f g v none held))) sole
