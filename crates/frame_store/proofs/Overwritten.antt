-- Lemmas: a part of block b of a list was overwritten by a slice of words: which words the list then has in the block, and
-- that no other word changes.
use Rattle.std.proofs.Common.{◌≡◌, ℕ, ◌+◌, ◌-◌, ◌*◌, ◌<◌, ◌≤◌, inl, inr, List, length, slice_index, arith, ◌∙◌}
use Rattle.std.proofs.lemmas.Bool.{cases_lt}
use Rattle.frame_store.specs.ZeroWords.{PutsMany}
use Rattle.frame_store.proofs.Words.{back_inside, back_outside, length-put_back, put_back}

module _ (items part : List ℕ) (b from k a n len : ℕ) (room : a + n ≤ length items) (long : length part ≡ n) (full : len ≡ length items) (at : a ≡ 512 * b + from) (wide : n ≡ k) where
  pub part_put : PutsMany items (put_back items part a n len room long full) b from k (λ q. slice_index part (q - from))
  part_put = record {
    long = length-put_back items part a n len room long full;
    inside = λ q least below.
        let here : 512 * b + q ≡ a + (q - from) = omega (arith, at, least) in
        rw here (back_inside items part a n len room long full (q - from) (omega (arith, least, below, wide)));
    outside = λ p apart. back_outside items part a n len room long full p (λ h l. apart (omega (arith, h, at)) (omega (arith, l, at, wide)));
  }

-- words that are given by another invariant
pub puts_same : (old new : List ℕ) (b from k : ℕ) (word other : ℕ → ℕ) → ((q : ℕ) → from ≤ q → q < from + k → word q ≡ other q) → PutsMany old new b from k word → PutsMany old new b from k other
puts_same old new b from k word other same p = record { long = p.long; inside = λ q least below. p.inside q least below ∙ same q least below; outside = p.outside }

-- a block of which only the first m words change
module _ (items new part : List ℕ) (b m : ℕ) (word : ℕ → ℕ) (few : m ≤ 512) (front : (i : ℕ) → i < m → slice_index part i ≡ word i)
    (behind : (i : ℕ) → m ≤ i → i < 512 → slice_index part i ≡ slice_index items (512 * b + i)) (p : PutsMany items new b 0 512 (slice_index part)) where
  pub front_put : PutsMany items new b 0 m word
  front_put = record {
    long = p.long;
    inside = λ q least below. p.inside q least (omega (arith, below, few)) ∙ front q (omega (arith, below));
    outside = λ q apart. elim (cases_lt q (512 * b)) as (λ _. slice_index new q ≡ slice_index items q) [
      | inl under ↦ p.outside q (λ h l. omega (arith, under, h))
      | inr from ↦ elim (cases_lt q (512 * b + 512)) as (λ _. slice_index new q ≡ slice_index items q) [
        | inr past ↦ p.outside q (λ h l. omega (arith, past, l))
        | inl within ↦ elim (cases_lt (q - 512 * b) m) as (λ _. slice_index new q ≡ slice_index items q) [
          | inl low ↦ absurd (apart (omega (arith, from)) (omega (arith, from, low)))
          | inr high ↦
              let here : q ≡ 512 * b + (q - 512 * b) = omega (arith, from) in
              rw here (p.inside (q - 512 * b) (omega arith) (omega (arith, from, within)) ∙ behind (q - 512 * b) high (omega (arith, from, within)))
        ]
      ]
    ];
  }
