-- Lemmas on mmap's `protection`: the test of any bit (`bit_is`) and of PROT_WRITE (`writes_bit`), and the rights after R, W
-- and X are set in turn (`set_in_turn`).
use Rattle.std.proofs.Common.{◌≡◌, ℕ, zero, suc, Bool, true, false, not, ◌*◌, ◌/◌, ◌%◌, ◌^◌, ◌<◌, ap, ◌∙◌, refl, arith}
use Rattle.std.specs.Prelude.{bit_and, bit_or, ◌==◌, ◌-◌, if◌then◌else◌}
use Rattle.std.proofs.lemmas.Bool.{ne_eqb}
use Rattle.std.proofs.lemmas.Nat.{pow_pos}
use Rattle.std.proofs.lemmas.Nat.Bits.{and_pow}
use Rattle.process_model.specs.Mappings.{asks_write}
use Rattle.sv39_entry.specs.Rights.{executes, reads, writes}

-- ---- bits

-- for b below 2, b * k is not 0 exactly if b is 1
digit : (b k : ℕ) → b < 2 → 0 < k → not (b * k == 0) ≡ (b == 1)
digit zero k few some = let none : zero * k ≡ 0 = omega arith in rw none refl
digit (suc zero) k few some = let once : suc zero * k ≡ k = omega arith in rw once (rw (ne_eqb k 0 (λ none. omega (arith, none, some))) refl)
digit (suc (suc b)) k few some = absurd (omega (arith, few))

pub bit_is : (n k : ℕ) → not (bit_and n (2 ^ k) == 0) ≡ (n / 2 ^ k % 2 == 1)
bit_is n k = ap (λ m. not (m == 0)) (and_pow n k) ∙ digit (n / 2 ^ k % 2) (2 ^ k) (omega arith) (pow_pos k)

pub writes_bit : (n : ℕ) → not (bit_and n 2 == 0) ≡ asks_write n
writes_bit n = bit_is n 1

-- ---- rights

-- rights with one of them there, or not
abbrev with_right : Bool → ℕ → ℕ → ℕ
with_right is_there rights right = if is_there then bit_or rights right else bit_and rights (2 ^ 8 - 1 - right)

abbrev with_rights : Bool → Bool → Bool → ℕ → ℕ
with_rights r w x rights = with_right x (with_right w (with_right r rights 1) 2) 4

-- just these rights are there
pub record AreRights (r w x : Bool) (rights : ℕ) : Type 0 where
  pub reading : reads rights ≡ r
  pub writing : writes rights ≡ w
  pub executing : executes rights ≡ x

of_none : (r w x : Bool) → AreRights r w x (with_rights r w x 0)
of_none true true true = record { reading = refl; writing = refl; executing = refl }
of_none true true false = record { reading = refl; writing = refl; executing = refl }
of_none true false true = record { reading = refl; writing = refl; executing = refl }
of_none true false false = record { reading = refl; writing = refl; executing = refl }
of_none false true true = record { reading = refl; writing = refl; executing = refl }
of_none false true false = record { reading = refl; writing = refl; executing = refl }
of_none false false true = record { reading = refl; writing = refl; executing = refl }
of_none false false false = record { reading = refl; writing = refl; executing = refl }

-- those that are set one after another, where none was there
pub set_in_turn : (r w x : Bool) (none first second third : ℕ) → none ≡ 0 → first ≡ with_right r none 1 → second ≡ with_right w first 2 → third ≡ with_right x second 4
    → AreRights r w x third
set_in_turn r w x none first second third start one two three = rw (three, two, one, start) (of_none r w x)
