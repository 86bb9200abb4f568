-- The table is held against the definition at each of the 256 bytes, by computing.
use Rattle.std.proofs.Common.{◌≡◌, ℕ, zero, suc, ◌<◌, Bool, true, ◌&&◌, nat_eq, get_or, List, refl, arith, inl, inr}
use Rattle.std.proofs.lemmas.Bool.{and_parts, cases_eq, eqb-true}
use Rattle.script_language.specs.Numbers.{digit_of}
use Rattle.script_reader.specs.Digits.{value_or_255}
use Rattle.script_reader.specs.declared.numbers.TheConstants.{HEXADECIMAL_DIGITS}
use Rattle.script_reader.proofs.numbers.hexadecimal_value.Goals as goal

-- two values are the same below n
agree_below : (ℕ → ℕ) → (ℕ → ℕ) → ℕ → Bool
agree_below f g zero = true
agree_below f g (suc n) = nat_eq (f n) (g n) && agree_below f g n

agree_at : (f g : ℕ → ℕ) (n : ℕ) → agree_below f g n ≡ true → (b : ℕ) → b < n → f b ≡ g b
unfolding agree_below
agree_at f g zero h b lt = absurd (omega arith)
agree_at f g (suc n) h b lt =
    let both = and_parts (nat_eq (f n) (g n)) (agree_below f g n) h in
    elim (cases_eq b n) [ inl same ↦ rw same (eqb-true (f n) (g n) both.0) | inr other ↦ agree_at f g n both.1 b (omega arith) ]

from_table : (table : List ℕ) (b : ℕ) → b < 256 → agree_below (λ k. get_or table k 0) (λ k. value_or_255 (digit_of 16 k)) 256 ≡ true
    → get_or table b 0 ≡ value_or_255 (digit_of 16 b)
from_table table b lt h = agree_at (λ k. get_or table k 0) (λ k. value_or_255 (digit_of 16 k)) 256 h b lt

pub returns : goal.returns
unfolding agree_below
returns c = from_table HEXADECIMAL_DIGITS c.args.byte (omega arith) refl
