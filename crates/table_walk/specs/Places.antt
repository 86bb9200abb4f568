-- Places number from 0, in order, the pages that are below a page table or below one index of it: below number k, which has
-- `width` places, the leaf at place n has the number k * width + n. Predicates: a range of places has no leaf, and the first
-- leaf from a place on, at any place (`IsFirstLeaf`) or before an end (`IsFirstLeafBefore`).
use Rattle.std.specs.Prelude.{◌≡◌, ℕ, ◌+◌, ◌*◌, ◌<◌, ◌≤◌, Option, None, Some}
use Rattle.std.specs.FinMap.{get}
use Rattle.table_walk.specs.Tables.{Tables}

-- no place from `from` up to, and without, `end` has a leaf
abbrev pub HasNoLeaves : Tables → ℕ → ℕ → ℕ → ℕ → Type 0
HasNoLeaves t k width from end = (n : ℕ) → from ≤ n → n < end → get t.leaves (k * width + n) ≡ None

-- the first leaf from place `from` on, with its place; None if there is none
abbrev pub IsFirstLeaf : Tables → ℕ → ℕ → ℕ → Option (ℕ × ℕ) → Type 0
IsFirstLeaf t k width from None = HasNoLeaves t k width from width
IsFirstLeaf t k width from (Some p) = (from ≤ p.0) × (p.0 < width) × (get t.leaves (k * width + p.0) ≡ Some p.1) × HasNoLeaves t k width from p.0

-- no place from `from` on that is before both `to` and `end` has a leaf
abbrev pub IsBareTo : Tables → ℕ → ℕ → ℕ → ℕ → ℕ → Type 0
IsBareTo t k width from to end = (n : ℕ) → from ≤ n → n < to → n < end → get t.leaves (k * width + n) ≡ None

-- the first leaf from place `from` on, with its place, if it is before `end`. If the result is None, or a leaf at `end` or
-- after it, then there is none before `end`
abbrev pub IsFirstLeafBefore : Tables → ℕ → ℕ → ℕ → ℕ → Option (ℕ × ℕ) → Type 0
IsFirstLeafBefore t k width from end None = IsBareTo t k width from width end
IsFirstLeafBefore t k width from end (Some p) = (from ≤ p.0) × (p.0 < width) × (get t.leaves (k * width + p.0) ≡ Some p.1) × IsBareTo t k width from p.0 end
