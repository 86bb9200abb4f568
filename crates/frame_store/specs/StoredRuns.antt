-- Laws of `put_many` and `with_many`: the known words, and the view (what a seat holds and knows), after adjacent words
-- of one frame were stored. Which words are known inside this run, beside it and in other frames; the seat is still the
-- frame's sole holder and holds the others; a run and the next word are a run that is longer by one.
use Rattle.std.proofs.Common.{◌≡◌, ℕ, zero, suc, ◌+◌, ◌<◌, ◌≤◌, ◌==◌, cond, refl, ap, sym, ◌∙◌, Some, IsTrue, inl, inr, subst, arith}
use Rattle.std.proofs.lemmas.Bool.Decides.{eqb_tells}
use Rattle.std.specs.Ordering.{nat_cmp}
use Rattle.std.specs.FinMap as map
use Rattle.frame_store.specs.View.{View, Hold, hold_of, with_hold, with_word, IsHeld, IsSole, known_word, or_zero, put_many, with_many, words_known}
use Rattle.frame_store.specs.Holds.{get-insert_at, hold_of-with_hold_same, hold_of-with_hold_other, with_hold-with_hold, with_sole_hold_back}

module _ (first : ℕ) (word : ℕ → ℕ) (words : map.FinMap nat_cmp ℕ) where
  pub put-none : put_many first 0 word words ≡ words
  unfolding put_many
  put-none = refl

  pub put-more : (n : ℕ) → put_many first (suc n) word words ≡ map.insert (put_many first n word words) (first + n) (word (first + n))
  unfolding put_many
  put-more n = refl

  -- a word of the run
  pub put_inside : (n q : ℕ) → first ≤ q → q < first + n → map.get (put_many first n word words) q ≡ Some (word q)
  unfolding put_many
  put_inside zero q from below = absurd (omega arith)
  put_inside (suc n) q from below = get-insert_at (put_many first n word words) (first + n) (word (first + n)) q
      ∙ elim (eqb_tells q (first + n)) as (λ _. cond (q == (first + n)) (Some (word (first + n))) (map.get (put_many first n word words) q) ≡ Some (word q)) [
        | inl t ↦ rw t.0 (ap (λ k. Some (word k)) (sym t.1))
        | inr t ↦ let apart = t.1 in rw t.0 (put_inside n q from (omega arith))
      ]

  -- a word outside the run stays
  pub put_outside : (n q : ℕ) → (first ≤ q → q < first + n → ⊥) → map.get (put_many first n word words) q ≡ map.get words q
  unfolding put_many
  put_outside zero q apart = refl
  put_outside (suc n) q apart = get-insert_at (put_many first n word words) (first + n) (word (first + n)) q
      ∙ elim (eqb_tells q (first + n)) as (λ _. cond (q == (first + n)) (Some (word (first + n))) (map.get (put_many first n word words) q) ≡ map.get words q) [
        | inl t ↦ absurd (apart (omega (arith, t.1)) (omega (arith, t.1)))
        | inr t ↦ rw t.0 (put_outside n q (λ from below. apart from (omega arith)))
      ]

module _ (f first : ℕ) (word : ℕ → ℕ) (v : View) where
  -- a run of no words changes nothing
  pub many_none : IsSole v f → v ≡ with_many f first 0 word v
  many_none sole = sym (with_sole_hold_back f v sole)
      ∙ ap (λ ws. with_hold f (record (hold_of v f) { words = ws }) v) (sym (put-none first word (hold_of v f).words))

  -- a run and the next word are a run that is longer by one
  pub many_more : (n i x : ℕ) (w u : View) → w ≡ with_many f first n word v → i ≡ first + n → x ≡ word i → u ≡ with_word f i x w
      → u ≡ with_many f first (suc n) word v
  many_more n i x w u so_far at is stored =
      let ws = (hold_of v f).words in
      let h : Hold = record (hold_of v f) { words = put_many first n word ws } in
      let k : Hold = record (hold_of v f) { words = put_many first (suc n) word ws } in
      let here : hold_of w f ≡ h = ap (λ z. hold_of z f) so_far ∙ hold_of-with_hold_same f h v in
      let put : map.insert (put_many first n word ws) i x ≡ put_many first (suc n) word ws
      = ap (map.insert (put_many first n word ws) i) is ∙ ap (λ j. map.insert (put_many first n word ws) j (word j)) at ∙ sym (put-more first word ws n) in
      stored ∙ ap (λ (g : Hold). with_hold f (record g { words = map.insert g.words i x }) w) here
      ∙ ap (λ ms. with_hold f (record (hold_of v f) { words = ms }) w) put
      ∙ ap (with_hold f k) so_far ∙ with_hold-with_hold f k h v

  pub many_sole : (n : ℕ) (w : View) → w ≡ with_many f first n word v → IsSole v f → IsSole w f
  many_sole n w is sole = subst (λ (h : Hold). IsTrue h.sole) (sym (ap (λ z. hold_of z f) is
      ∙ hold_of-with_hold_same f (record (hold_of v f) { words = put_many first n word (hold_of v f).words }) v)) sole

  -- the words of the frame that are known afterwards
  pub many_known : (n q : ℕ) → known_word (with_many f first n word v) f q ≡ map.get (put_many first n word (hold_of v f).words) q
  many_known n q = ap (λ (h : Hold).
      map.get h.words q) (hold_of-with_hold_same f (record (hold_of v f) { words = put_many first n word (hold_of v f).words }) v)

  -- every other frame is as it was
  pub many_apart : (n g : ℕ) → (g ≡ f → ⊥) → hold_of (with_many f first n word v) g ≡ hold_of v g
  many_apart n g apart = hold_of-with_hold_other f (record (hold_of v f) { words = put_many first n word (hold_of v f).words }) v g apart

  pub many_held : (n : ℕ) (w : View) → w ≡ with_many f first n word v → (g : ℕ) → (g ≡ f → ⊥) → IsHeld v g → IsHeld w g
  many_held n w is g apart held = subst (λ (h : Hold). 0 < h.references) (sym (ap (λ z. hold_of z g) is ∙ many_apart n g apart)) held

  pub many_word_apart : (n : ℕ) (w : View) → w ≡ with_many f first n word v → (g : ℕ) → (g ≡ f → ⊥) → (q : ℕ) → known_word w g q ≡ known_word v g q
  many_word_apart n w is g apart q = ap (λ (h : Hold). map.get h.words q) (ap (λ z. hold_of z g) is ∙ many_apart n g apart)

  -- a word of the run, and a word of the frame outside it
  pub many_at : (n : ℕ) (w : View) → w ≡ with_many f first n word v → (q : ℕ) → first ≤ q → q < first + n → known_word w f q ≡ Some (word q)
  many_at n w is q from below = ap (λ z. known_word z f q) is ∙ many_known n q ∙ put_inside first word (hold_of v f).words n q from below

  pub many_beside : (n : ℕ) (w : View) → w ≡ with_many f first n word v → (q : ℕ) → (first ≤ q → q < first + n → ⊥) → known_word w f q ≡ known_word v f q
  many_beside n w is q apart = ap (λ z. known_word z f q) is ∙ many_known n q ∙ put_outside first word (hold_of v f).words n q apart

-- a word that is known is the one that `words_known` gives
pub is_known : (v : View) (f i x : ℕ) → known_word v f i ≡ Some x → known_word v f i ≡ Some (words_known v f i)
is_known v f i x is = is ∙ ap (λ k. Some k) (sym (ap or_zero is))
