-- Lemmas for the byte tests: which frames their seat holds, is the sole holder of, and knows the bytes of (`Owns`,
-- `OwnsBoth`) when frames are reserved, claimed, filled or changed.
use Rattle.std.proofs.Common.{◌≡◌, ◌≢◌, ℕ, ◌<◌, List, [], ◌∷◌, refl, ap, sym, subst, ◌∙◌, lit<, arith}
use Rattle.std.specs.Prelude.{IsTrue}
use Rattle.frame_store.specs.Plain.{PlainState, PlainStateInvariant}
use Rattle.frame_store.specs.View.{View, Hold, hold_of, references, IsHeld, IsSole, sole_hold, opening_view, with_credits, claimed}
use Rattle.frame_store.specs.Holds.{hold_of-with_hold_same, hold_of-with_hold_other, hold_of-frames, opening_holds}
use Rattle.frame_bytes.specs.Contents.{HasBytes, ChangesWords}
use Rattle.tests_of_frames.specs.Owned.{Owns, OwnsBoth}
use Rattle.frame_bytes.specs.StoredWords.{changed_held, changed_sole, bytes_apart}

-- frame 0 is held once credits are reserved
pub reserved_held : {size : ℕ} (n : ℕ) (v w : View) → v ≡ opening_view size → w ≡ with_credits n v → IsHeld w 0
reserved_held n v w opening e =
    subst (λ (h : Hold). 0 < h.references) (sym (ap (λ u. hold_of u 0) e ∙ hold_of-frames (with_credits n v) v refl 0)) (opening_holds v opening)

-- a frame that is held is not the fresh one
pub not_fresh : (f g : ℕ) (v : View) → references v f ≡ 0 → IsHeld v g → g ≢ f
not_fresh f g v none held e = let g_none : references v g ≡ 0 = ap (references v) e ∙ none in omega arith

module _ (f : ℕ) (v w : View) (claims : w ≡ claimed f v) where
  claimed_hold : hold_of w f ≡ sole_hold
  claimed_hold = ap (λ u. hold_of u f) claims ∙ hold_of-with_hold_same f sole_hold _

  pub claimed_held : IsHeld w f
  claimed_held = subst (λ (h : Hold). 0 < h.references) (sym claimed_hold) (lit< tt)

  pub claimed_sole : IsSole w f
  claimed_sole = ap (λ (h : Hold). h.sole) claimed_hold

  claimed_apart : (g : ℕ) → g ≢ f → hold_of w g ≡ hold_of v g
  claimed_apart g apart = ap (λ u. hold_of u g) claims ∙ hold_of-with_hold_other f sole_hold _ g apart ∙ hold_of-frames _ v refl g

  pub still_held : (g : ℕ) → g ≢ f → IsHeld v g → IsHeld w g
  still_held g apart held = subst (λ (h : Hold). 0 < h.references) (sym (claimed_apart g apart)) held

  pub still_sole : (g : ℕ) → g ≢ f → IsSole v g → IsSole w g
  still_sole g apart sole = subst (λ (h : Hold). IsTrue h.sole) (sym (claimed_apart g apart)) sole

module _ (f : ℕ) (v w : View) (changes : ChangesWords f v w) where
  pub owns_changed : IsHeld v f → IsSole v f → (bytes : List ℕ) → HasBytes w f bytes → Owns w f
  owns_changed held sole bytes has = record { held = changed_held f v w changes f held; sole = changed_sole f v w changes f sole; known = (bytes, has) }

  pub owns_apart : (g : ℕ) → g ≢ f → Owns v g → Owns w g
  owns_apart g apart owns = record {
    held = changed_held f v w changes g owns.held;
    sole = changed_sole f v w changes g owns.sole;
    known = (owns.known.0, bytes_apart f v w changes g apart owns.known.0 owns.known.1);
  }

module _ (s : PlainState) (v : View) (f g : ℕ) (owns : OwnsBoth s v f g) where
  pub owns_turned : OwnsBoth s v g f
  owns_turned = record { invariant = owns.invariant; one = owns.other; other = owns.one; apart = λ e. owns.apart (sym e) }

  pub one_changed : (t : PlainState) (w : View) → PlainStateInvariant t (w ∷ []) → ChangesWords f v w → (bytes : List ℕ) → HasBytes w f bytes → OwnsBoth t w f g
  one_changed t w invariant changes bytes has = record {
    invariant = invariant;
    one = owns_changed f v w changes owns.one.held owns.one.sole bytes has;
    other = owns_apart f v w changes g (λ e. owns.apart (sym e)) owns.other;
    apart = owns.apart;
  }

-- both frames are claimed, and then filled
module _ (f g : ℕ) (r a b : View) (first : a ≡ claimed f r) (fresh : references a g ≡ 0) (second : b ≡ claimed g a) where
  apart : f ≢ g
  apart = not_fresh g f a fresh (claimed_held f r a first)

  pub one_sole : IsSole b f
  one_sole = still_sole g a b second f apart (claimed_sole f r a first)

  pub other_sole : (w : View) → ChangesWords f b w → IsSole w g
  other_sole w changes = changed_sole f b w changes g (claimed_sole g a b second)

  pub both_filled : (w x : View) (ones twos : List ℕ) → ChangesWords f b w → HasBytes w f ones → ChangesWords g w x → HasBytes x g twos
      → (s : PlainState) → PlainStateInvariant s (x ∷ []) → OwnsBoth s x f g
  both_filled w x ones twos fill_one has_one fill_other has_other s invariant =
      let held : IsHeld b f = still_held g a b second f apart (claimed_held f r a first) in
      record {
        invariant = invariant;
        one = owns_apart g w x fill_other f apart (owns_changed f b w fill_one held one_sole ones has_one);
        other = owns_changed g w x fill_other (changed_held f b w fill_one g (claimed_held g a b second)) (other_sole w fill_one) twos has_other;
        apart = apart;
      }
