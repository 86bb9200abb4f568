-- Columns of a line, counted from 1: where bytes stand (`StandsAt`), and which there are (`IsColumn`). And what a line ends with
-- (`IsEndOf`).
use Rattle.std.specs.Prelude.{◌≡◌, ℕ, ◌+◌, ◌-◌, ◌≤◌, List, length, take, drop, Option, Some, None}

-- the line ends with these bytes
abbrev pub IsEndOf : List ℕ → List ℕ → Type 0
IsEndOf line end = end ≡ drop (length line - length end) line

-- the bytes stand in the line from this column on
pub record StandsAt (line bytes : List ℕ) (column : ℕ) : Type 0 where
  pub counted : 1 ≤ column
  pub there : take (length bytes) (drop (column - 1) line) ≡ bytes
  pub inside : column + length bytes ≤ length line + 1

-- a column of the line, or the one after its end; or none, if the line as a whole is meant
abbrev pub IsColumn : List ℕ → Option ℕ → Type 0
IsColumn line None = Unit {0}
IsColumn line (Some column) = (1 ≤ column) × (column ≤ length line + 1)

-- a part of a field: it lies in the field, by its column and its bytes
pub record IsPart (column : ℕ) (field : List ℕ) (first : ℕ) (part : List ℕ) : Type 0 where
  pub after : column ≤ first
  pub inside : first + length part ≤ column + length field
