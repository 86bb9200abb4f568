-- Lemma: a 64-bit address is canonical by its bits (each above the sign bit equals it, `IsCanonical`) if and only if its
-- upper part is all zeros or all ones (`is_canonical`); for Sv39 and Sv48.
use Rattle.std.proofs.Common.{◌≡◌, ℕ, zero, suc, Bool, true, false, ◌+◌, ◌-◌, ◌/◌, ◌%◌, ◌^◌, ◌<◌, ◌≤◌, ◌==◌, ◌||◌, inl, inr, refl, ap, sym, ◌∙◌, arith}
use Rattle.std.specs.Prelude.{◌↔◌, IsTrue}
use Rattle.std.proofs.lemmas.Bool.{cases_eq, cases_Bool, eq-eqb, ne_eqb, eqb-true, eqb-false}
use Rattle.std.proofs.lemmas.Nat.{shr-shr, pow_pos}
use Rattle.std.proofs.Math.Nat.{pow-suc}
use Rattle.sv39_entry.specs.Address.{has}
use Rattle.sv39_entry.specs.Schemes.{is_canonical, IsCanonical}
use Rattle.sv39_entry.specs.declared.scheme.Scheme.{Scheme}
use Rattle.sv39_entry.specs.declared.scheme.Scheme.TheVariants.{Sv39, Sv48}

half_bit : (m j v : ℕ) → m / 2 ^ (1 + j) % 2 ≡ v → m / 2 / 2 ^ j % 2 ≡ v
half_bit m j v e = ap (λ (n : ℕ). n % 2) (shr-shr m 1 j) ∙ e

half_lt : (k m : ℕ) → m < 2 ^ suc k → m / 2 < 2 ^ k
half_lt k m lt = omega (arith, pow-suc 2 k)

-- no bit is set
zeros : (k m : ℕ) → m < 2 ^ k → ((j : ℕ) → j < k → m / 2 ^ j % 2 ≡ 0) → m ≡ 0
zeros zero m lt bits = omega arith
zeros (suc k) m lt bits =
    let first : m / 1 % 2 ≡ 0 = bits 0 (omega arith) in
    let rest : m / 2 ≡ 0 = zeros k (m / 2) (half_lt k m lt) (λ j h. half_bit m j 0 (bits (1 + j) (omega arith))) in
    omega arith

-- every bit is set
ones : (k m : ℕ) → m < 2 ^ k → ((j : ℕ) → j < k → m / 2 ^ j % 2 ≡ 1) → m + 1 ≡ 2 ^ k
ones zero m lt bits = omega arith
ones (suc k) m lt bits =
    let first : m / 1 % 2 ≡ 1 = bits 0 (omega arith) in
    let rest : m / 2 + 1 ≡ 2 ^ k = ones k (m / 2) (half_lt k m lt) (λ j h. half_bit m j 1 (bits (1 + j) (omega arith))) in
    omega (arith, pow-suc 2 k)

ones_bits : (k m j : ℕ) → m + 1 ≡ 2 ^ k → j < k → m / 2 ^ j % 2 ≡ 1
ones_bits zero m j e lt = absurd (omega arith)
ones_bits (suc k) m zero e lt = let odd : m % 2 ≡ 1 = omega (arith, pow-suc 2 k) in omega arith
ones_bits (suc k) m (suc j) e lt =
    let half : m / 2 + 1 ≡ 2 ^ k = omega (arith, pow-suc 2 k) in
    let more : suc j ≡ 1 + j = omega arith in
    rw more (ap (λ (n : ℕ). n % 2) (sym (shr-shr m 1 j)) ∙ ones_bits k (m / 2) j half (omega arith))

or_right : (b : Bool) → (b || true) ≡ true
or_right true = refl
or_right false = refl

-- An upper part of `width` bits, from bit `sign` on.
module _ (sign width : ℕ) (all : sign + width ≡ 64) (some : 0 < width) where
  abbrev Equal : ℕ → Type 0
  Equal a = (i : ℕ) → sign ≤ i → i < 64 → has a i ≡ has a sign

  abbrev is_equal : ℕ → Bool
  is_equal a = a / 2 ^ sign == 0 || a / 2 ^ sign == 2 ^ width - 1

  -- bits from the sign on are those of the upper part
  upper_bit : (a i : ℕ) → sign ≤ i → has a i ≡ has (a / 2 ^ sign) (i - sign)
  upper_bit a i h = let e : i ≡ sign + (i - sign) = omega arith in ap (λ (n : ℕ). has a n) e ∙ ap (λ (n : ℕ). n % 2 == 1) (sym (shr-shr a sign (i - sign)))

  -- and the sign is its lowest
  first_bit : (a : ℕ) → has a sign ≡ has (a / 2 ^ sign) 0
  first_bit a = let none : sign - sign ≡ 0 = omega arith in upper_bit a sign (omega arith) ∙ ap (λ (n : ℕ). has (a / 2 ^ sign) n) none

  all_same : (a : ℕ) (v : Bool) → ((j : ℕ) → j < width → has (a / 2 ^ sign) j ≡ v) → Equal a
  all_same a v bits i low high = upper_bit a i low ∙ bits (i - sign) (omega arith) ∙ sym (first_bit a ∙ bits 0 some)

  zero_bit : (j : ℕ) → has 0 j ≡ false
  zero_bit j = ne_eqb (0 / 2 ^ j % 2) 1 (λ e. omega (arith, pow_pos j))

  one_bits : (m j : ℕ) → m ≡ 2 ^ width - 1 → j < width → has m j ≡ true
  one_bits m j e lt = eq-eqb (m / 2 ^ j % 2) 1 (ones_bits width m j (omega (arith, e, pow_pos width)) lt)

  upper_is : (m : ℕ) → (m == 0 || m == 2 ^ width - 1) ≡ true → (m ≡ 0 → ⊥) → m ≡ 2 ^ width - 1
  upper_is m e ne = eqb-true m (2 ^ width - 1) (rw (ne_eqb m 0 ne) at e)

  to_bits : (a : ℕ) → is_equal a ≡ true → Equal a
  to_bits a e = elim (cases_eq (a / 2 ^ sign) 0) [
    | inl none ↦ all_same a false (λ j lt. ap (λ (m : ℕ). has m j) none ∙ zero_bit j)
    | inr some ↦ all_same a true (λ j lt. one_bits (a / 2 ^ sign) j (upper_is (a / 2 ^ sign) e some) lt)
  ]

  lower_bits : (a j : ℕ) → Equal a → j < width → has (a / 2 ^ sign) j ≡ has (a / 2 ^ sign) 0
  lower_bits a j c lt =
      let e : sign + j - sign ≡ j = omega arith in
      sym (ap (λ (n : ℕ). has (a / 2 ^ sign) n) e) ∙ sym (upper_bit a (sign + j) (omega arith)) ∙ c (sign + j) (omega arith) (omega arith) ∙ first_bit a

  from_bits : (a : ℕ) → a / 2 ^ sign < 2 ^ width → Equal a → is_equal a ≡ true
  from_bits a lt c = elim (cases_Bool (has (a / 2 ^ sign) 0)) [
    | inl set ↦
        let full : a / 2 ^ sign + 1 ≡ 2 ^ width = ones width (a / 2 ^ sign) lt (λ j h. eqb-true (a / 2 ^ sign / 2 ^ j % 2) 1 (lower_bits a j c h ∙ set)) in
        let is : a / 2 ^ sign ≡ 2 ^ width - 1 = omega arith in
        last is
    | inr clear ↦
        let none : a / 2 ^ sign ≡ 0 = zeros width (a / 2 ^ sign) lt (λ j h. let ne = eqb-false (a / 2 ^ sign / 2 ^ j % 2) 1 (lower_bits a j c h ∙ clear) in omega arith) in
        rw none refl
  ] where
    last : a / 2 ^ sign ≡ 2 ^ width - 1 → is_equal a ≡ true
    last is = rw (eq-eqb (a / 2 ^ sign) (2 ^ width - 1) is) (or_right (a / 2 ^ sign == 0))

-- the test is what the bits say
pub canonical : (s : Scheme) (a : ℕ) → a < 2 ^ 64 → IsTrue (is_canonical s a) ↔ IsCanonical s a
canonical Sv39 a lt = (to_bits 38 26 refl (omega arith) a, from_bits 38 26 refl (omega arith) a (omega (arith, lt)))
canonical Sv48 a lt = (to_bits 47 17 refl (omega arith) a, from_bits 47 17 refl (omega arith) a (omega (arith, lt)))
