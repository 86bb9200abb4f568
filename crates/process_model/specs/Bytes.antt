-- Definitions on lists of bytes: little-endian numbers read and written, bytes replaced, padded with zeros; how many pages
-- they fill. Also which widths an access may have, consecutive numbers, and the first true test of a list.
use Rattle.std.specs.Prelude.{ℕ, zero, suc, ◌+◌, ◌-◌, ◌*◌, ◌/◌, ◌%◌, ◌^◌, ◌==◌, ◌||◌, Bool, cond, Option, Some, None, List, [], ◌∷◌, ◌++◌}
use Rattle.std.specs.Prelude.{length, take, drop, replicate}

-- the little-endian number of the first n bytes; bytes that are missing count as 0
unfoldable pub number : List ℕ → ℕ → ℕ
number bs zero = 0
number [] (suc n) = 0
number (b ∷ bs) (suc n) = b + 2 ^ 8 * number bs n

-- the n lowest bytes of a number, the lowest first
unfoldable pub low_bytes : ℕ → ℕ → List ℕ
low_bytes v zero = []
low_bytes v (suc n) = (v % 2 ^ 8) ∷ low_bytes (v / 2 ^ 8) n

-- the bytes bs, with vs in place of theirs from index o on
abbrev pub write_bytes : List ℕ → ℕ → List ℕ → List ℕ
write_bytes bs o vs = take o bs ++ vs ++ drop (o + length vs) bs

-- the first n bytes; if there are fewer, zeros follow up to n
abbrev pub padded : ℕ → List ℕ → List ℕ
padded n bs = let front = take n bs in front ++ replicate (n - length front) 0

-- how many pages hold n bytes
abbrev pub pages_for : ℕ → ℕ
pages_for n = (n + 4095) / 4096

-- whether an access may have w bytes
abbrev pub is_width : ℕ → Bool
is_width w = w == 1 || w == 2 || w == 4 || w == 8

-- n consecutive numbers, from `first` on
abbrev pub numbers_from : ℕ → ℕ → List ℕ
numbers_from first zero = []
numbers_from first (suc n) = first ∷ numbers_from (first + 1) n

-- the answer of the first test that is true; None if none is
abbrev pub first_true : {A : Type 0} → List (Bool × A) → Option A
first_true [] = None
first_true (t ∷ ts) = cond t.0 (Some t.1) (first_true ts)
