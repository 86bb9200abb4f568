-- Lemmas of numbers by bits: an upper part beside a lower one (`joined_lt`), and the ones at the end of a number.
use Rattle.std.proofs.Common.{◌≡◌, ℕ, zero, suc, ◌+◌, ◌-◌, ◌*◌, ◌/◌, ◌%◌, ◌^◌, ◌<◌, ◌≤◌, inl, inr, ap, sym, ◌∙◌, arith}
use Rattle.std.proofs.Math.Nat.{div-lt_iff_lt-mul, mul-le-mul_right, pow-suc, div-mul-le_self, mod-eq-sub-div-mul}
use Rattle.std.proofs.Math.Arith.{mod-mul}
use Rattle.std.proofs.lemmas.Bool.{cases_lt}
use Rattle.std.proofs.lemmas.Nat.{pow-add, pow_pos}
use Rattle.std.proofs.lemmas.Nat.Bits.{bit_at-suc, bit_at-trailing_ones, bit_at_above}
use Rattle.std.specs.Int.{bit_at, trailing_ones, w64}

-- the bits of a number below 2 ^ k from bit r on, and below it others, are less than 2 ^ k
pub joined_lt : (k r n b : ℕ) → r ≤ k → n < 2 ^ k → b < 2 ^ r → n / 2 ^ r * 2 ^ r + b < 2 ^ k
joined_lt k r n b le lt small =
    let apart : k ≡ (k - r) + r = omega arith in
    let split : 2 ^ k ≡ 2 ^ (k - r) * 2 ^ r = ap (λ (e : ℕ). 2 ^ e) apart ∙ pow-add 2 (k - r) r in
    let high : n / 2 ^ r < 2 ^ (k - r) = (div-lt_iff_lt-mul (pow_pos r)).1 (omega arith) in
    let whole : (n / 2 ^ r + 1) * 2 ^ r ≤ 2 ^ (k - r) * 2 ^ r = mul-le-mul_right (2 ^ r) (omega arith) in
    omega arith

-- a number that ends in t ones below a zero
pub low_ones : (t n : ℕ) → ((i : ℕ) → i < t → bit_at n i ≡ 1) → bit_at n t ≡ 0 → n % 2 ^ (t + 1) + 1 ≡ 2 ^ t
low_ones zero n ones none = omega arith
low_ones (suc t) n ones none =
    let rest : n / 2 % 2 ^ (t + 1) + 1 ≡ 2 ^ t = low_ones t (n / 2) (λ i lt. sym (bit_at-suc n i) ∙ ones (suc i) (omega arith)) (sym (bit_at-suc n t) ∙ none) in
    let first : n / 1 % 2 ≡ 1 = ones 0 (omega arith) in
    let split : n % (2 ^ (t + 1) * 2) ≡ n / 2 % 2 ^ (t + 1) * 2 + n % 2 = mod-mul n {m = 2 ^ (t + 1)} {c = 2} (pow_pos (t + 1)) (omega arith) in
    let next : suc t + 1 ≡ t + 1 + 1 = omega arith in
    let more : 2 ^ (suc t + 1) ≡ 2 ^ (t + 1) * 2 = rw next (pow-add 2 (t + 1) 1) in
    let twice : 2 ^ suc t ≡ 2 ^ t * 2 = pow-suc 2 t in
    rw more (omega arith)

-- pmpaddr of 54 bits ends in at most 54 ones
pub few_ones : (n : ℕ) → n < 2 ^ 54 → trailing_ones w64 n ≤ 54
few_ones n lt = elim (cases_lt 54 (trailing_ones w64 n)) [
  | inr le ↦ le
  | inl gt ↦
      let one : bit_at n 54 ≡ 1 = (bit_at-trailing_ones w64 n (omega arith)).2 54 gt in
      let none : bit_at n 54 ≡ 0 = bit_at_above n 54 54 lt (omega arith) in
      absurd (omega arith)
]

-- a number is its part from bit t + 1 on, a zero and t ones
pub napot_number : (t n : ℕ) → n % 2 ^ (t + 1) + 1 ≡ 2 ^ t → n + 1 ≡ n / 2 ^ (t + 1) * 2 ^ (t + 1) + 2 ^ t
napot_number t n ones = omega (arith, mod-eq-sub-div-mul n (2 ^ (t + 1)), div-mul-le_self n (2 ^ (t + 1)))
