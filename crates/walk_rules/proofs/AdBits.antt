-- Lemmas: which bits `with_ad` sets, and that it leaves the others.
use Rattle.std.proofs.Common.{◌≡◌, ℕ, ◌^◌, ◌==◌, ◌||◌, Bool, true, false, bit_or, refl, inl, inr, ap, sym, ◌∙◌, arith}
use Rattle.std.proofs.lemmas.Bool.{cases_eq, eq-eqb, ne_eqb}
use Rattle.std.proofs.lemmas.Nat.Bits.{bit_at_or, bit_at-pow_same, bit_at-pow_other, bit_at-lt}
use Rattle.std.specs.Int.{bit_at}
use Rattle.sv39_entry.specs.Address.{has}
use Rattle.sv39_entry.specs.declared.access.Access.{Access}
use Rattle.sv39_entry.specs.declared.access.Access.TheVariants.{Fetch, Load, Store}
use Rattle.walk_rules.specs.Rights.{is_ad_bit, with_ad}

or_true : (b : Bool) → (b || true) ≡ true
or_true true = refl
or_true false = refl

or_false : (b : Bool) → (b || false) ≡ b
or_false true = refl
or_false false = refl

or_assoc : (a b c : Bool) → ((a || b) || c) ≡ (a || (b || c))
or_assoc true b c = refl
or_assoc false b c = refl

-- `w | 2 ^ k` has the bits of w, and k
has_set : (w k i : ℕ) → has (bit_or w (2 ^ k)) i ≡ (has w i || i == k)
has_set w k i = elim (cases_eq i k) [
  | inl same ↦
      let one : bit_at (2 ^ k) i ≡ 1 = ap (λ (j : ℕ). bit_at (2 ^ k) j) same ∙ bit_at-pow_same k in
      let set : bit_at (bit_or w (2 ^ k)) i ≡ 1 = bit_at_or w (2 ^ k) i ∙ (let few = bit_at-lt w i in omega (arith, one)) in
      eq-eqb _ 1 set ∙ sym (ap (λ (b : Bool). has w i || b) (eq-eqb i k same) ∙ or_true (has w i))
  | inr other ↦
      let none : bit_at (2 ^ k) i ≡ 0 = bit_at-pow_other k i other in
      let kept : bit_at (bit_or w (2 ^ k)) i ≡ bit_at w i = bit_at_or w (2 ^ k) i ∙ omega (arith, none) in
      ap (λ (b : ℕ). b == 1) kept ∙ sym (ap (λ (b : Bool). has w i || b) (ne_eqb i k other) ∙ or_false (has w i))
]

pub has_with_ad : (a : Access) (w i : ℕ) → has (with_ad a w) i ≡ (has w i || is_ad_bit a i)
has_with_ad Fetch w i = has_set w 6 i
has_with_ad Load w i = has_set w 6 i
has_with_ad Store w i =
    has_set (bit_or w (2 ^ 6)) 7 i ∙ ap (λ (b : Bool). b || i == 7) (has_set w 6 i) ∙ or_assoc (has w i) (i == 6) (i == 7)
