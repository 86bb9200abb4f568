-- Lemmas on runs of words of one frame: a word that a run stores again does not count (`over_word`), and two runs one behind
-- the other are one run (`runs_join`).
use Rattle.std.proofs.Common.{◌≡◌, ℕ, zero, suc, ◌+◌, ◌<◌, ◌≤◌, ◌==◌, cond, ap, sym, ◌∙◌, Some, inl, inr, false, arith}
use Rattle.std.proofs.lemmas.Bool.{cases_lt, ne_eqb}
use Rattle.std.specs.Ordering.{nat_cmp}
use Rattle.std.specs.FinMap as map
use Rattle.frame_store.specs.Holds.{get-insert_at, hold_of-with_hold_same, same_answers, with_hold-with_hold}
use Rattle.frame_store.specs.StoredRuns.{put-more, put-none, put_inside, put_outside}
use Rattle.frame_store.specs.View.{Hold, View, hold_of, put_many, with_hold, with_many, with_word}

module _ (first n : ℕ) (word : ℕ → ℕ) (words : map.FinMap nat_cmp ℕ) (i x : ℕ) (from : first ≤ i) (below : i < first + n) where
  beside : (q : ℕ) → (first ≤ q → q < first + n → ⊥) → map.get (put_many first n word (map.insert words i x)) q ≡ map.get (put_many first n word words) q
  beside q apart =
      let other : (q == i) ≡ false = ne_eqb q i (λ same. apart (omega (arith, same, from)) (omega (arith, same, below))) in
      put_outside first word (map.insert words i x) n q apart ∙ get-insert_at words i x q ∙ ap (λ b. cond b (Some x) (map.get words q)) other ∙ sym (put_outside first word words n q apart)

  put_over : put_many first n word (map.insert words i x) ≡ put_many first n word words
  put_over = same_answers _ _ (λ q. elim (cases_lt q first) [
    | inl before ↦ beside q (λ a b. omega (arith, a, before))
    | inr behind ↦ elim (cases_lt q (first + n)) [
      | inl inside ↦ put_inside first word (map.insert words i x) n q behind inside ∙ sym (put_inside first word words n q behind inside)
      | inr past ↦ beside q (λ a b. omega (arith, b, past))
    ]
  ])

pub over_word : (f first n : ℕ) (word : ℕ → ℕ) (i x : ℕ) (v : View) → first ≤ i → i < first + n → with_many f first n word (with_word f i x v) ≡ with_many f first n word v
over_word f first n word i x v from below =
    let ws = (hold_of v f).words in
    let h : Hold = record (hold_of v f) { words = map.insert ws i x } in
    let k : Hold = record (hold_of v f) { words = put_many first n word ws } in
    ap (λ (g : Hold). with_hold f (record g { words = put_many first n word g.words }) (with_hold f h v)) (hold_of-with_hold_same f h v)
    ∙ ap (λ ms. with_hold f (record (hold_of v f) { words = ms }) (with_hold f h v)) (put_over first n word ws i x from below)
    ∙ with_hold-with_hold f k h v

put_join : (first n m : ℕ) (word : ℕ → ℕ) (words : map.FinMap nat_cmp ℕ) → put_many (first + n) m word (put_many first n word words) ≡ put_many first (n + m) word words
put_join first n zero word words =
    let none : n + 0 ≡ n = omega arith in
    put-none (first + n) word (put_many first n word words) ∙ ap (λ k. put_many first k word words) (sym none)
put_join first n (suc m) word words =
    let at : first + n + m ≡ first + (n + m) = omega arith in
    let next : suc (n + m) ≡ n + suc m = omega arith in
    put-more (first + n) word (put_many first n word words) m
    ∙ ap (λ ms. map.insert ms (first + n + m) (word (first + n + m))) (put_join first n m word words)
    ∙ ap (λ j. map.insert (put_many first (n + m) word words) j (word j)) at
    ∙ sym (put-more first word words (n + m))
    ∙ ap (λ k. put_many first k word words) next

pub runs_join : (f first n m : ℕ) (word : ℕ → ℕ) (v : View) → with_many f (first + n) m word (with_many f first n word v) ≡ with_many f first (n + m) word v
runs_join f first n m word v =
    let ws = (hold_of v f).words in
    let h : Hold = record (hold_of v f) { words = put_many first n word ws } in
    let k : Hold = record (hold_of v f) { words = put_many first (n + m) word ws } in
    ap (λ (g : Hold). with_hold f (record g { words = put_many (first + n) m word g.words }) (with_hold f h v)) (hold_of-with_hold_same f h v)
    ∙ ap (λ ms. with_hold f (record (hold_of v f) { words = ms }) (with_hold f h v)) (put_join first n m word ws)
    ∙ with_hold-with_hold f k h v
