-- Definitions: how a field of a script is read as an unsigned number (decimal, or hexadecimal after 0x), a signed number, or
-- bytes in hexadecimal digits; None if it has no such form or is out of range.
use Rattle.std.specs.Prelude.{ℕ, zero, suc, ℤ, pos, negsuc, ◌+◌, ◌-◌, ◌*◌, ◌^◌, ◌==◌, ◌&&◌, nat_lt, nat_le, List, [], ◌∷◌, Option, Some, None, if◌then◌else◌}

-- the value of a digit in a base up to 16, a letter of either case; None if it is no digit
abbrev pub digit_of : ℕ → ℕ → Option ℕ
digit_of base b =
    if nat_le 48 b && nat_le b 57 && nat_lt (b - 48) base then Some (b - 48)
    else (if nat_le 97 b && nat_le b 102 && nat_lt (b - 87) base then Some (b - 87)
    else (if nat_le 65 b && nat_le b 70 && nat_lt (b - 55) base then Some (b - 55) else None))

-- the number so far with one more digit
abbrev pub one_more : ℕ → Option ℕ → Option ℕ → Option ℕ
one_more base None d = None
one_more base (Some n) None = None
one_more base (Some n) (Some d) = Some (n * base + d)

-- the number so far with more digits; None if one of them is no digit
abbrev pub digits_from : ℕ → Option ℕ → List ℕ → Option ℕ
digits_from base so_far [] = so_far
digits_from base so_far (b ∷ digits) = digits_from base (one_more base so_far (digit_of base b)) digits

-- the number of a list of digits; None for an empty list
abbrev pub digits_in : ℕ → List ℕ → Option ℕ
digits_in base [] = None
digits_in base (b ∷ digits) = digits_from base (Some 0) (b ∷ digits)

-- a number of any size: decimal, or hexadecimal after 0x
abbrev pub whole_of : List ℕ → Option ℕ
whole_of [] = None
whole_of (a ∷ []) = digits_in 10 (a ∷ [])
whole_of (a ∷ b ∷ digits) = if a == 48 && b == 120 then digits_in 16 digits else digits_in 10 (a ∷ b ∷ digits)

abbrev pub if_below : ℕ → Option ℕ → Option ℕ
if_below limit None = None
if_below limit (Some n) = if nat_lt n limit then Some n else None

-- an unsigned number: below 2^64
abbrev pub number_of : List ℕ → Option ℕ
number_of field = if_below (2 ^ 64) (whole_of field)

abbrev pub negated : ℕ → ℤ
negated zero = pos 0
negated (suc n) = negsuc n

abbrev pub as_negative : Option ℕ → Option ℤ
as_negative None = None
as_negative (Some n) = if nat_le n (2 ^ 63) then Some (negated n) else None

abbrev pub as_positive : Option ℕ → Option ℤ
as_positive None = None
as_positive (Some n) = if nat_lt n (2 ^ 63) then Some (pos n) else None

-- a signed number may have - in front, and lies from -2^63 to 2^63 - 1
abbrev pub signed_of : List ℕ → Option ℤ
signed_of [] = None
signed_of (a ∷ field) = if a == 45 then as_negative (number_of field) else as_positive (number_of (a ∷ field))

-- the byte of two hexadecimal digits
abbrev pub byte_of : Option ℕ → Option ℕ → Option ℕ
byte_of high low = one_more 16 high low

abbrev pub then_bytes : Option ℕ → Option (List ℕ) → Option (List ℕ)
then_bytes None bytes = None
then_bytes (Some b) None = None
then_bytes (Some b) (Some bytes) = Some (b ∷ bytes)

-- the bytes of an even number of hexadecimal digits
abbrev pub pairs_of : List ℕ → Option (List ℕ)
pairs_of [] = Some []
pairs_of (a ∷ []) = None
pairs_of (a ∷ b ∷ digits) = then_bytes (byte_of (digit_of 16 a) (digit_of 16 b)) (pairs_of digits)

-- the bytes of a field: two hexadecimal digits each, or - for no bytes; None for an empty text
abbrev pub hex_of : List ℕ → Option (List ℕ)
hex_of [] = None
hex_of (a ∷ []) = if a == 45 then Some [] else None
hex_of (a ∷ b ∷ digits) = pairs_of (a ∷ b ∷ digits)
