-- Lemmas on parsing digits: once a byte is no digit, or the number is 2^64 or more, further digits cannot mend it, so the
-- parser may stop; and the values of digits in the reader's table.
use Rattle.std.proofs.Common.{◌≡◌, ℕ, ◌+◌, ◌*◌, ◌^◌, ◌-◌, ◌<◌, ◌≤◌, Bool, true, false, List, [], ◌∷◌, Option, Some, None, cond, subst, length, drop, get_or, refl, sym, ap, ◌∙◌, arith}
use Rattle.std.proofs.lemmas.Bool.{and_parts, le-ltb, lt-ltb, ltb-true}
use Rattle.std.proofs.lemmas.List.{at_drop_more, at_drop_all}
use Rattle.std.proofs.Math.Nat.{mul-le-mul_left}
use Rattle.std.specs.Prelude.{◌&&◌, nat_le, nat_lt}
use Rattle.script_language.specs.Numbers.{digit_of, one_more, digits_from, if_below}
use Rattle.script_reader.specs.Digits.{value_or_255}

pub from_none : (base : ℕ) (digits : List ℕ) → digits_from base None digits ≡ None
from_none base [] = refl
from_none base (b ∷ digits) = from_none base digits

grows : (base n d : ℕ) → 2 ≤ base → 2 ^ 64 ≤ n → 2 ^ 64 ≤ n * base + d
grows base n d low big = omega (arith, mul-le-mul_left n low)

-- nothing, or too large
abbrev pub IsOver : Option ℕ → Type 0
IsOver None = Unit {0}
IsOver (Some n) = 2 ^ 64 ≤ n

pub over_more : (base : ℕ) (so_far d : Option ℕ) → 2 ≤ base → IsOver so_far → IsOver (one_more base so_far d)
over_more base None d low over = tt
over_more base (Some n) None low over = tt
over_more base (Some n) (Some d) low over = grows base n d low over

-- once too large, always too large
pub over_always : (base : ℕ) (so_far : Option ℕ) (digits : List ℕ) → 2 ≤ base → IsOver so_far → if_below (2 ^ 64) (digits_from base so_far digits) ≡ None
over_always base None digits low over = ap (if_below (2 ^ 64)) (from_none base digits)
over_always base (Some n) [] low over = rw (le-ltb n (2 ^ 64) over) refl
over_always base (Some n) (b ∷ digits) low over = over_always base (one_more base (Some n) (digit_of base b)) digits low (over_more base (Some n) (digit_of base b) low over)

pub over_product : (base n : ℕ) (d : Option ℕ) → 2 ^ 64 ≤ n * base → IsOver (one_more base (Some n) d)
over_product base n None over = tt
over_product base n (Some d) over = omega arith

-- where the next digit makes too much, no number is said
pub stops : (base value i : ℕ) (digits : List ℕ) (total : Option ℕ) → i < length digits → 2 ≤ base → IsOver (one_more base (Some value) (digit_of base (get_or digits i 0)))
    → if_below (2 ^ 64) (digits_from base (Some value) (drop i digits)) ≡ total → None ≡ total
stops base value i digits total lt low over so_far =
    sym (ap (if_below (2 ^ 64)) (at_drop_more (digits_from base (Some value)) digits i 0 lt) ∙ over_always base (one_more base (Some value) (digit_of base (get_or digits i 0))) (drop (i + 1) digits) low over) ∙ so_far

pub over_sum : (base value d : ℕ) (o : Option ℕ) → o ≡ Some d → 2 ^ 64 ≤ value * base + d → IsOver (one_more base (Some value) o)
over_sum base value d o e over = rw e over

pub over_digit : (base value : ℕ) (o : Option ℕ) → o ≡ None → IsOver (one_more base (Some value) o)
over_digit base value o e = rw e tt

pub whole : (base value i : ℕ) (digits : List ℕ) (total : Option ℕ) → length digits ≤ i → value < 2 ^ 64 → if_below (2 ^ 64) (digits_from base (Some value) (drop i digits)) ≡ total → Some value ≡ total
whole base value i digits total past lt so_far =
    let all : if_below (2 ^ 64) (digits_from base (Some value) (drop i digits)) ≡ Some value = rw (at_drop_all (digits_from base (Some value)) digits i past, lt-ltb value (2 ^ 64) lt) refl in
    sym all ∙ so_far

-- a digit is below the base
small_if : (t : Bool) (n : ℕ) (other : Option ℕ) (P : ℕ → Type 0) → (t ≡ true → P n) → ((d : ℕ) → other ≡ Some d → P d) → (d : ℕ) → cond t (Some n) other ≡ Some d → P d
small_if true n other P here there d e = let same : n ≡ d = cc in subst P same (here refl)
small_if false n other P here there d e = there d e

in_range : (base n : ℕ) (t : Bool) → (t && nat_lt n base) ≡ true → n < base
in_range base n t h = ltb-true n base (and_parts t (nat_lt n base) h).1

pub is_small : (base b d : ℕ) → digit_of base b ≡ Some d → d < base
is_small base b d e =
    let P : ℕ → Type 0 = λ n. n < base in
    small_if (nat_le 48 b && nat_le b 57 && nat_lt (b - 48) base) (b - 48) _ P (in_range base (b - 48) (nat_le 48 b && nat_le b 57))
    (small_if (nat_le 97 b && nat_le b 102 && nat_lt (b - 87) base) (b - 87) _ P (in_range base (b - 87) (nat_le 97 b && nat_le b 102))
    (small_if (nat_le 65 b && nat_le b 70 && nat_lt (b - 55) base) (b - 55) None P (in_range base (b - 55) (nat_le 65 b && nat_le b 70)) (λ k none. absurd (cc)))) d e

-- a value below 255 is that of a digit
said_if : (o : Option ℕ) (n : ℕ) → n ≡ value_or_255 o → n < 255 → o ≡ Some n
said_if None n is low = absurd (omega (arith, is, low))
said_if (Some d) n is low = ap Some (sym is)

pub said_digit : (base b n : ℕ) → n ≡ value_or_255 (digit_of base b) → n < 255 → digit_of base b ≡ Some n
said_digit base b n is low = said_if (digit_of base b) n is low
