-- Lemmas about `zero_counts`, how many frames of a table of shared frames have count 0: it is at most the number of
-- frames; it stays if the counts stay; how one changed count changes it.
use Rattle.std.proofs.Common.{◌≡◌, ◌≢◌, ℕ, zero, suc, ◌+◌, ◌<◌, ◌≤◌, List, length, get_or, set, refl, ap, ◌∙◌, inl, inr, arith, get_or-set_same, get_or-set_other}
use Rattle.std.proofs.lemmas.Bool.Decides.{eqb_tells}
use Rattle.shared_frames.specs.Invariant.{count_at, one_at_zero, zero_counts}

pub one_at_zero-zero : (c : ℕ) → c ≡ 0 → one_at_zero c ≡ 1
one_at_zero-zero c e = ap one_at_zero e

pub one_at_zero-more : (c : ℕ) → c ≢ 0 → one_at_zero c ≡ 0
one_at_zero-more zero n = absurd (n refl)
one_at_zero-more (suc c) n = refl

pub one_at_zero-le : (c : ℕ) → one_at_zero c ≤ 1
one_at_zero-le zero = omega arith
one_at_zero-le (suc c) = omega arith

pub zero_counts-le : (words : List ℕ) (n : ℕ) → zero_counts words n ≤ n
zero_counts-le words zero = omega arith
zero_counts-le words (suc n) = let r = zero_counts-le words n in let b = one_at_zero-le (get_or words (count_at n) 0) in omega (arith, r, b)

-- where the counts stay, so does the number
pub zero_counts-same : (words words' : List ℕ) (n : ℕ) → ((f : ℕ) → f < n → get_or words' (count_at f) 0 ≡ get_or words (count_at f) 0) → zero_counts words' n ≡ zero_counts words n
zero_counts-same words words' zero same = refl
zero_counts-same words words' (suc n) same =
    let r = zero_counts-same words words' n (λ f h. same f (omega arith)) in
    let s = ap one_at_zero (same n (omega arith)) in
    omega (arith, r, s)

-- one count changes
pub zero_counts-set : (words : List ℕ) (n f c : ℕ) → f < n → count_at f < length words
    → zero_counts (set words (count_at f) c) n + one_at_zero (get_or words (count_at f) 0) ≡ zero_counts words n + one_at_zero c
zero_counts-set words zero f c h l = absurd (omega arith)
zero_counts-set words (suc n) f c h l =
    let words' : List ℕ = set words (count_at f) c in
    elim (eqb_tells n f) as (λ _. zero_counts words' (suc n) + one_at_zero (get_or words (count_at f) 0) ≡ zero_counts words (suc n) + one_at_zero c) [
      | inl e ↦
          let r = zero_counts-same words words' n (λ g k. get_or-set_other words (count_at f) (count_at g) c 0 (λ q. omega (arith, e.1))) in
          let s : one_at_zero (get_or words' (count_at n) 0) ≡ one_at_zero c = ap (λ m. one_at_zero (get_or words' (count_at m) 0)) e.1 ∙ ap one_at_zero (get_or-set_same words (count_at f) c 0 l) in
          let t : one_at_zero (get_or words (count_at n) 0) ≡ one_at_zero (get_or words (count_at f) 0) = ap (λ m. one_at_zero (get_or words (count_at m) 0)) e.1 in
          omega (arith, r, s, t)
      | inr e ↦
          let r = zero_counts-set words n f c (let ne = e.1 in omega (arith, h, ne)) l in
          let s = ap one_at_zero (get_or-set_other words (count_at f) (count_at n) c 0 (λ q. e.1 (omega arith))) in
          omega (arith, r, s)
    ]
