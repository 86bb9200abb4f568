-- Lemmas for `put_hexadecimal`: digits written from the last to the first, with what is left of the number (`IsLeft`), are
-- in the end the number's digits (`ends`), at most 16.
use Rattle.std.proofs.Common.{◌≡◌, ℕ, zero, suc, ◌+◌, ◌*◌, ◌/◌, ◌%◌, ◌^◌, ◌<◌, ◌≤◌, true, false, eqb, List, [], ◌∷◌, length, drop, set, length-set, length-drop, sym, ap, ◌∙◌, lit<, lit≤, arith}
use Rattle.std.proofs.lemmas.List.{drop_all, drop-set}
use Rattle.std.proofs.lemmas.Nat.{pow-add}
use Rattle.std.proofs.lemmas.Bool.Decides.{nat_tests}
use Rattle.std.specs.Fmt.{digits, digits_onto, digit_glyph}

-- the digits from a place on are written, and those of what is left of the number stand before them
pub record IsLeft (number rest at : ℕ) (written : List ℕ) : Type 0 where
  pub len : length written ≡ 16
  pub low : 0 < at
  pub high : at ≤ 16
  pub small : rest < 16 ^ at
  pub whole : digits_onto (48 + at) 16 false rest (drop at written) ≡ digits 16 false number

pub begins : (number : ℕ) (written : List ℕ) → length written ≡ 16 → number < 2 ^ 64 → IsLeft number number 16 written
unfolding digits
begins number written len fits =
    let none : drop 16 written ≡ [] = drop_all 16 written (omega (arith, len)) in
    record {
      len = len;
      low = lit< tt;
      high = lit≤ tt;
      small = fits;
      whole = ap (digits_onto 64 16 false number) none;
    }

above_none : (rest a : ℕ) → 16 ≤ rest → rest < 16 ^ a * 16 → 0 < a
above_none rest zero more small = absurd (omega arith)
above_none rest (suc a) more small = omega arith

module _ (number rest at a : ℕ) (written : List ℕ) (is : at ≡ a + 1) (left : IsLeft number rest at written) where
  whole : digits_onto (suc (48 + a)) 16 false rest (drop (a + 1) written) ≡ digits 16 false number
  whole =
      let fuel : 48 + at ≡ suc (48 + a) = omega (arith, is) in
      ap (λ (k : ℕ). digits_onto k 16 false rest (drop (a + 1) written)) (sym fuel) ∙ ap (λ (k : ℕ). digits_onto (48 + at) 16 false rest (drop k written)) (sym is) ∙ left.whole

  module _ (digit : ℕ) (says : digit ≡ digit_glyph false (rest % 16)) where
    after : drop a (set written a digit) ≡ digit_glyph false (rest % 16) ∷ drop (a + 1) written
    after = drop-set written a digit (omega (arith, is, left.high, left.len)) ∙ ap (λ (d : ℕ). d ∷ drop (a + 1) written) says

    pub ends : rest < 16 → drop a (set written a digit) ≡ digits 16 false number
    ends last =
        let none : eqb (rest / 16) 0 ≡ true = grind (arith, nat_tests) in
        let e = whole in
        after ∙ (rw none at e)

    pub goes_on : 16 ≤ rest → IsLeft number (rest / 16) a (set written a digit)
    goes_on more =
        let some : eqb (rest / 16) 0 ≡ false = grind (arith, nat_tests) in
        let e = whole in
        let further : digits_onto (48 + a) 16 false (rest / 16) (digit_glyph false (rest % 16) ∷ drop (a + 1) written) ≡ digits 16 false number = rw some at e in
        let power : 16 ^ at ≡ 16 ^ a * 16 = ap (λ (k : ℕ). 16 ^ k) is ∙ pow-add 16 a 1 in
        record {
          len = length-set written a digit ∙ left.len;
          low = above_none rest a more (omega (arith, power, left.small));
          high = omega (arith, is, left.high);
          small = omega (arith, power, left.small);
          whole = ap (digits_onto (48 + a) 16 false (rest / 16)) after ∙ further;
        }

pub goes_len : (written : List ℕ) (a digit : ℕ) → length written ≡ 16 → length (set written a digit) ≡ 16
goes_len written a digit len = length-set written a digit ∙ len

-- no more than all of the digits are written
pub few_written : (a : ℕ) (written back : List ℕ) → length written ≡ 16 → back ≡ drop a written → length back ≤ 16
few_written a written back len is = omega (arith, ap length is, length-drop a written, len)
