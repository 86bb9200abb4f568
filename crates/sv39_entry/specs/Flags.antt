-- Law of flags of a page table entry: a word has the flag of value 2 ^ k by the test with `&` (`has_flag`) if and only if
-- bit k of the word is set (`has`).
use Rattle.std.proofs.Common.{◌≡◌, ℕ, ◌/◌, ◌%◌, ◌^◌, inl, inr, sym, ◌∙◌, arith}
use Rattle.std.proofs.lemmas.Bool.{cases_eq, eq-eqb, ne_eqb}
use Rattle.std.proofs.lemmas.Nat.{pow_pos}
use Rattle.std.proofs.lemmas.Nat.Bits.{and_pow}
use Rattle.sv39_entry.specs.Address.{has}
use Rattle.sv39_entry.specs.Word.{has_flag}

-- `n & (1 << k) == 1 << k` is bit k
pub has_flag_is : (n k : ℕ) → has_flag n (2 ^ k) ≡ has n k
has_flag_is n k = rw and_pow (elim (cases_eq (n / 2 ^ k % 2) 1) [
  | inl e ↦ eq-eqb _ _ (rw e (omega arith)) ∙ sym (eq-eqb _ 1 e)
  | inr ne ↦ let zero : n / 2 ^ k % 2 ≡ 0 = omega arith in ne_eqb _ _ (λ h. let none = rw zero at h in omega (arith, none, pow_pos k)) ∙ sym (ne_eqb _ 1 ne)
])
