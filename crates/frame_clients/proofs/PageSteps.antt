-- Lemmas for `filled_frame`: of a frame that was just claimed the seat is the sole holder and knows no word; each store
-- adds one word to those it knows; after the reservation, the claim and all stores its view is `filled`.
use Rattle.std.proofs.Common.{◌≡◌, ℕ, zero, suc, ◌+◌, ◌-◌, ◌<◌, ◌==◌, cond, List, [], ◌∷◌, take, length, slice_index, Some, inl, inr, refl, ap, sym, subst, ◌∙◌, arith}
use Rattle.std.specs.Prelude.{slice_get, IsTrue}
use Rattle.std.proofs.lemmas.Bool.Decides.{eqb_tells}
use Rattle.std.specs.FinMap as map
use Rattle.frame_store.specs.View.{spent, View, Hold, hold_of, IsSole, sole_hold, with_hold, with_word, with_credits, claimed}
use Rattle.frame_clients.specs.FilledFrames.{words_by_index, get-words_by_index, page_hold, filled}
use Rattle.frame_store.specs.Holds.{get-insert_at, hold_of-with_hold_same, same_answers, with_hold-with_hold, with_hold_back}

-- what a longer front of the words has at each index
slice_get-take_same : (words : List ℕ) (n : ℕ) → n < length words → slice_get (take (suc n) words) n ≡ Some (slice_index words n)
slice_get-take_same [] n lt = absurd (omega arith)
slice_get-take_same (w ∷ words) zero lt = refl
slice_get-take_same (w ∷ words) (suc n) lt = slice_get-take_same words n (omega arith)

slice_get-take_other : (words : List ℕ) (n q : ℕ) → (q ≡ n → ⊥) → slice_get (take (suc n) words) q ≡ slice_get (take n words) q
slice_get-take_other [] zero q apart = refl
slice_get-take_other [] (suc n) q apart = refl
slice_get-take_other (w ∷ words) zero zero apart = absurd (apart refl)
slice_get-take_other (w ∷ words) zero (suc q) apart = refl
slice_get-take_other (w ∷ words) (suc n) zero apart = refl
slice_get-take_other (w ∷ words) (suc n) (suc q) apart = slice_get-take_other words n q (λ e. apart (ap suc e))

-- one more word
words_by_index-more : (words : List ℕ) (n : ℕ) → n < length words → map.insert (words_by_index (take n words)) n (slice_index words n) ≡ words_by_index (take (n + 1) words)
words_by_index-more words n lt =
    let next : suc n ≡ n + 1 = omega arith in
    same_answers _ _ (λ q. get-insert_at _ n _ q ∙ ap (cond (q == n) (Some (slice_index words n))) (get-words_by_index (take n words) q)
    ∙ (elim (eqb_tells q n) as (λ _. cond (q == n) (Some (slice_index words n)) (slice_get (take n words) q) ≡ slice_get (take (suc n) words) q) [
      | inl t ↦ rw (t.0, t.1) (sym (slice_get-take_same words n lt))
      | inr t ↦ rw t.0 (sym (slice_get-take_other words n q t.1))
    ]) ∙ ap (λ k. slice_get (take k words) q) next ∙ sym (get-words_by_index (take (n + 1) words) q))

page_hold-nil : page_hold [] ≡ sole_hold
unfolding words_by_index
page_hold-nil = refl

-- before the first word
pub page_none : (f : ℕ) (v : View) → hold_of v f ≡ sole_hold → v ≡ with_hold f (page_hold []) v
page_none f v is = sym (ap (λ h. with_hold f h v) page_hold-nil ∙ with_hold_back f sole_hold v is (omega arith))

module _ (f n : ℕ) (words : List ℕ) (v w : View) (is : w ≡ with_hold f (page_hold (take n words)) v) where
  hold_so_far : hold_of w f ≡ page_hold (take n words)
  hold_so_far = ap (λ u. hold_of u f) is ∙ hold_of-with_hold_same f (page_hold (take n words)) v

  pub page_sole : IsSole w f
  page_sole = subst (λ (h : Hold). IsTrue h.sole) (sym hold_so_far) refl

  -- after one more word
  pub page_more : (next : View) → n < length words → next ≡ with_word f n (slice_index words n) w → next ≡ with_hold f (page_hold (take (n + 1) words)) v
  page_more next lt stored =
      stored ∙ ap (λ (h : Hold). with_hold f (record h { words = map.insert h.words n (slice_index words n) }) w) hold_so_far
      ∙ ap (λ ws. with_hold f (record sole_hold { words = ws }) w) (words_by_index-more words n lt)
      ∙ ap (with_hold f (page_hold (take (n + 1) words))) is
      ∙ with_hold-with_hold f (page_hold (take (n + 1) words)) (page_hold (take n words)) v

-- a credit, a claim and a fill
pub filled_by_steps : (f : ℕ) (words : List ℕ) (v r c w : View) → r ≡ with_credits 1 v → c ≡ claimed f r → w ≡ with_hold f (page_hold words) c → w ≡ filled f words v
filled_by_steps f words v r c w er ec ew =
    let none_left : v.credits + 1 - 1 ≡ v.credits = omega arith in
    ew ∙ ap (with_hold f (page_hold words)) (ec ∙ ap (claimed f) er)
    ∙ with_hold-with_hold f (page_hold words) sole_hold (record v { credits = v.credits + 1 - 1; tallies = spent 1 v.tallies })
    ∙ ap (λ n. with_hold f (page_hold words) (record v { credits = n; tallies = spent 1 v.tallies })) none_left

-- what was just claimed is held alone, and no word is known
pub claimed_alone : (f : ℕ) (r c : View) → c ≡ claimed f r → hold_of c f ≡ sole_hold
claimed_alone f r c e = ap (λ u. hold_of u f) e ∙ hold_of-with_hold_same f sole_hold (record r { credits = r.credits - 1; tallies = spent 1 r.tallies })
