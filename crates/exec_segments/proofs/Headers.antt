-- Lemmas for ELF program headers: in a list made from the numbers 0 to n - 1, which element has index i, and its length; and
-- the flags of a segment (bits 0 and 1) as remainders.
use Rattle.std.proofs.Common.{◌≡◌, ℕ, zero, suc, ◌+◌, ◌*◌, ◌/◌, ◌%◌, ◌<◌, not, length, map, refl, ap, ◌∙◌, Some, arith}
use Rattle.std.specs.Prelude.{bit_and, slice_get, ◌==◌}
use Rattle.std.proofs.lemmas.Nat.Bits.{and_pow, bit_at-suc, bit_at_lowest}
use Rattle.process_model.specs.Bytes.{numbers_from}

module _ {X : Type 0} (f : ℕ → X) where
  at_number : (n first i : ℕ) → i < n → slice_get (map f (numbers_from first n)) i ≡ Some (f (first + i))
  at_number zero first i low = absurd (omega arith)
  at_number (suc n) first zero low = ap (λ k. Some (f k)) (omega arith)
  at_number (suc n) first (suc i) low = at_number n (first + 1) i (omega arith) ∙ ap (λ k. Some (f k)) (omega arith)

  pub at_index : (n i : ℕ) → i < n → slice_get (map f (numbers_from 0 n)) i ≡ Some (f i)
  at_index n i low = at_number n 0 i low ∙ ap (λ k. Some (f k)) (omega arith)

  pub all_numbers : (n first : ℕ) → length (map f (numbers_from first n)) ≡ n
  all_numbers zero first = refl
  all_numbers (suc n) first = ap suc (all_numbers n (first + 1))

-- ---- flags

flag : (n : ℕ) → n < 2 → not (n * 2 == 0) ≡ (n == 1)
flag zero few = refl
flag (suc zero) few = refl
flag (suc (suc n)) few = absurd (omega (arith, few))

small : (n : ℕ) → n < 2 → not (n == 0) ≡ (n == 1)
small zero few = refl
small (suc zero) few = refl
small (suc (suc n)) few = absurd (omega (arith, few))

pub second_flag : (n : ℕ) → not (bit_and n 2 == 0) ≡ (n / 2 % 2 == 1)
second_flag n = ap (λ m. not (m == 0)) (and_pow n 1) ∙ ap (λ m. not (m * 2 == 0)) (bit_at-suc n 0 ∙ bit_at_lowest (n / 2)) ∙ flag (n / 2 % 2) (omega arith)

pub first_flag : (n : ℕ) → not (bit_and n 1 == 0) ≡ (n % 2 == 1)
first_flag n = ap (λ m. not (m == 0)) (and_pow n 0 ∙ omega arith ∙ bit_at_lowest n) ∙ small (n % 2) (omega arith)
