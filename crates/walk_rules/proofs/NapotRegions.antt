-- Lemmas of the region of a NAPOT entry: the function `napot_region` gives the region that software wrote.
use Rattle.std.proofs.Common.{◌≡◌, ℕ, ◌+◌, ◌*◌, ◌/◌, ◌%◌, ◌^◌, ◌<◌, ◌≤◌, ap, sym, ◌∙◌, mul_assoc, arith}
use Rattle.std.proofs.Math.Nat.{div-mul-le_self, mod-eq_of_lt, mul-mod_left, mul-div_left, pow-le-pow_right}
use Rattle.std.proofs.lemmas.Nat.{pow-add}
use Rattle.std.proofs.lemmas.Nat.Bits.{bit_at-trailing_ones}
use Rattle.std.specs.Int.{trailing_ones, w64}
use Rattle.walk_rules.specs.Pmp.{IsNapotRegion, napot_region}
use Rattle.walk_rules.proofs.Shifts.{low_ones, napot_number}

-- a region from upper bits and t ones
napot_form : (t upper n : ℕ) → n + 1 ≡ upper * 2 ^ (t + 1) + 2 ^ t
    → IsNapotRegion n (record { first = upper * 2 ^ (t + 1) * 4; end = (upper * 2 ^ (t + 1) + 2 ^ (t + 1)) * 4 })
napot_form t upper n is =
    let size : 2 ^ (t + 3) ≡ 2 ^ t * 8 = pow-add 2 t 3 in
    let half : 2 ^ (t + 1) ≡ 2 ^ t * 2 = pow-add 2 t 1 in
    let four : 2 ^ (t + 1) * 4 ≡ 2 ^ (t + 3) = omega (arith, size, half) in
    let whole : upper * 2 ^ (t + 1) * 4 ≡ upper * 2 ^ (t + 3) = mul_assoc upper (2 ^ (t + 1)) 4 ∙ ap (λ (y : ℕ). upper * y) four in
    let aligned : upper * 2 ^ (t + 1) * 4 % 2 ^ (t + 3) ≡ 0 = ap (λ (a : ℕ). a % 2 ^ (t + 3)) whole ∙ mul-mod_left upper (2 ^ (t + 3)) in
    let quarter : upper * 2 ^ (t + 1) * 4 / 4 ≡ upper * 2 ^ (t + 1) = mul-div_left (upper * 2 ^ (t + 1)) (omega arith) in
    (t, aligned, omega (arith, size, half), is ∙ ap (λ (a : ℕ). a + 2 ^ t) (sym quarter))

-- the region that the code makes, of shifts that wrap
pub napot_made : (n : ℕ) → n < 2 ^ 54 → (b : ℕ) → b ≤ 55
    → (n / 2 ^ b * 2 ^ b % 2 ^ 64 ≡ n / 2 ^ b * 2 ^ b) × (1 * 2 ^ b % 2 ^ 64 ≡ 2 ^ b) × (n / 2 ^ b * 2 ^ b < 2 ^ 54) × (2 ^ b ≤ 2 ^ 55)
napot_made n lt b le =
    let upper : n / 2 ^ b * 2 ^ b ≤ n = div-mul-le_self n (2 ^ b) in
    let power : 2 ^ b ≤ 2 ^ 55 = pow-le-pow_right {n = 2} (omega arith) {i = b} {j = 55} le in
    (mod-eq_of_lt (omega arith), omega arith, omega arith, power)

pub napot_is : (n : ℕ) → n < 2 ^ 54 → IsNapotRegion n (napot_region n)
napot_is n lt =
    let bits = bit_at-trailing_ones w64 n (omega arith) in
    let number : n + 1 ≡ n / 2 ^ (trailing_ones w64 n + 1) * 2 ^ (trailing_ones w64 n + 1) + 2 ^ trailing_ones w64 n =
    napot_number (trailing_ones w64 n) n (low_ones (trailing_ones w64 n) n bits.2 bits.1) in
    napot_form (trailing_ones w64 n) (n / 2 ^ (trailing_ones w64 n + 1)) n number
