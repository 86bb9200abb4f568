-- Lemma for `put_decimal`: the decimal digits of a number from 10 to 99 are its tens and its units.
use Rattle.std.proofs.Common.{◌≡◌, ℕ, ◌+◌, ◌/◌, ◌%◌, ◌<◌, ◌≤◌, false, [], ◌∷◌, refl, sym, ap, ◌∙◌, arith}
use Rattle.std.proofs.DigitsParse.{digits_onto-nil, digits_onto_step, digits_onto_last, digit_glyph_below_ten}
use Rattle.std.specs.Fmt.{decimal, digit_glyph}

pub decimal_two_digits : (n : ℕ) → 10 ≤ n → n < 100 → decimal n ≡ (48 + n / 10) ∷ (48 + n % 10) ∷ []
decimal_two_digits n large small =
    let tens : 48 + n / 10 ≡ digit_glyph false (n / 10 % 10) = digit_glyph_below_ten false (n / 10 % 10) (48 + n / 10) (omega arith) (omega arith) in
    let units : 48 + n % 10 ≡ digit_glyph false (n % 10) = digit_glyph_below_ten false (n % 10) (48 + n % 10) (omega arith) refl in
    sym (digits_onto-nil 10 false n) ∙ digits_onto_step 10 false n [] 64 (omega arith) (omega arith)
    ∙ digits_onto_last 10 false (n / 10) (digit_glyph false (n % 10) ∷ []) 63 (omega arith) (omega arith)
    ∙ ap (λ (d : ℕ). d ∷ digit_glyph false (n % 10) ∷ []) (sym tens) ∙ ap (λ (d : ℕ). (48 + n / 10) ∷ d ∷ []) (sym units)
