-- Lemma: a 64-bit address is canonical by its bits (`IsCanonical`) if and only if its upper part is all zeros or all ones
-- (`is_canonical`).
use Rattle.std.proofs.Common.{◌≡◌, ℕ, Bool, true, false, ◌+◌, ◌-◌, ◌*◌, ◌/◌, ◌%◌, ◌^◌, ◌<◌, ◌≤◌, ◌==◌, ◌||◌, inl, inr, refl, ap, sym, ◌∙◌, arith}
use Rattle.std.specs.Prelude.{◌↔◌, IsTrue}
use Rattle.std.proofs.Math.Nat.{div-lt_iff_lt-mul}
use Rattle.std.proofs.lemmas.Bool.{cases_eq, eq-eqb, ne_eqb, eqb-true, eqb-false}
use Rattle.std.proofs.lemmas.Nat.{pow-add, pow_pos, shr-shr}
use Rattle.std.proofs.lemmas.Nat.Bits.{bit_at-lt, bit_at-zero, bit_at_ones, same_from_bits_below}
use Rattle.std.specs.Int.{bit_at}
use Rattle.sv39_entry.specs.Address.{has}
use Rattle.walk_rules.specs.Addresses.{is_canonical, IsCanonical, sign_bit}

or_right : (b : Bool) → (b || true) ≡ true
or_right true = refl
or_right false = refl

-- An upper part of `width` bits, from bit `sign` on.
module _ (sign width : ℕ) (all : sign + width ≡ 64) (some : 0 < width) where
  abbrev Equal : ℕ → Type 0
  Equal a = (i : ℕ) → sign ≤ i → i < 64 → has a i ≡ has a sign

  abbrev is_equal : ℕ → Bool
  is_equal a = a / 2 ^ sign == 0 || a / 2 ^ sign == 2 ^ width - 1

  -- bits from the sign on are those of the upper part
  upper_bit : (a i : ℕ) → sign ≤ i → bit_at a i ≡ bit_at (a / 2 ^ sign) (i - sign)
  upper_bit a i low = let e : i ≡ sign + (i - sign) = omega arith in ap (λ (j : ℕ). bit_at a j) e ∙ ap (λ (n : ℕ). n % 2) (sym (shr-shr a sign (i - sign)))

  all_same : (a v : ℕ) → ((j : ℕ) → j < width → bit_at (a / 2 ^ sign) j ≡ v) → Equal a
  all_same a v bits i low high =
      let here : bit_at a i ≡ v = upper_bit a i low ∙ bits (i - sign) (omega arith) in
      let first : bit_at a sign ≡ v = upper_bit a sign (omega arith) ∙ bits (sign - sign) (omega arith) in
      ap (λ (b : ℕ). b == 1) (here ∙ sym first)

  pub to_bits : (a : ℕ) → is_equal a ≡ true → Equal a
  to_bits a e = elim (cases_eq (a / 2 ^ sign) 0) [
    | inl none ↦ all_same a 0 (λ j lt. ap (λ (m : ℕ). bit_at m j) none ∙ bit_at-zero j)
    | inr more ↦
        let ones : a / 2 ^ sign ≡ 2 ^ width - 1 = eqb-true (a / 2 ^ sign) (2 ^ width - 1) (rw (ne_eqb (a / 2 ^ sign) 0 more) at e) in
        all_same a 1 (λ j lt. ap (λ (m : ℕ). bit_at m j) ones ∙ bit_at_ones width j lt)
  ]

  -- a bit of the upper part, by the bits of the address
  lower_bit : (a j : ℕ) → Equal a → j < width → (bit_at (a / 2 ^ sign) j == 1) ≡ has a sign
  lower_bit a j c lt =
      let e : sign + j - sign ≡ j = omega arith in
      ap (λ (n : ℕ). bit_at (a / 2 ^ sign) n == 1) (sym e) ∙ ap (λ (b : ℕ). b == 1) (sym (upper_bit a (sign + j) (omega arith)))
      ∙ c (sign + j) (omega arith) (omega arith)

  pub from_bits : (a : ℕ) → a < 2 ^ 64 → Equal a → is_equal a ≡ true
  from_bits a lt c =
      let size : 2 ^ 64 ≡ 2 ^ width * 2 ^ sign = (let e : 64 ≡ width + sign = omega arith in ap (λ (n : ℕ). 2 ^ n) e ∙ pow-add 2 width sign) in
      let upper : a / 2 ^ sign < 2 ^ width = (div-lt_iff_lt-mul (pow_pos sign)).1 (omega (arith, size)) in
      elim (cases_eq (bit_at a sign) 1) [
        | inl set ↦
            let full : a / 2 ^ sign ≡ 2 ^ width - 1 = same_from_bits_below width (a / 2 ^ sign) (2 ^ width - 1) upper (omega (arith, pow_pos width))
            (λ j h. eqb-true (bit_at (a / 2 ^ sign) j) 1 (lower_bit a j c h ∙ eq-eqb (bit_at a sign) 1 set) ∙ sym (bit_at_ones width j h)) in
            rw (eq-eqb (a / 2 ^ sign) (2 ^ width - 1) full) (or_right (a / 2 ^ sign == 0))
        | inr clear ↦
            let none : a / 2 ^ sign ≡ 0 = same_from_bits_below width (a / 2 ^ sign) 0 upper (pow_pos width)
            (λ j h. zero_bit a j c h clear ∙ sym (bit_at-zero j)) in
            rw none refl
      ] where
        zero_bit : (a j : ℕ) → Equal a → j < width → (bit_at a sign ≡ 1 → ⊥) → bit_at (a / 2 ^ sign) j ≡ 0
        zero_bit a j c h clear =
            let ne = eqb-false (bit_at (a / 2 ^ sign) j) 1 (lower_bit a j c h ∙ ne_eqb (bit_at a sign) 1 clear) in
            let few = bit_at-lt (a / 2 ^ sign) j in omega arith

-- the test is what the bits say
pub canonical : (top a : ℕ) → top ≤ 4 → a < 2 ^ 64 → IsTrue (is_canonical top a) ↔ IsCanonical top a
canonical top a le lt = (
  to_bits (sign_bit top) (64 - sign_bit top) (omega arith) (omega arith) a,
  from_bits (sign_bit top) (64 - sign_bit top) (omega arith) (omega arith) a lt,
)
