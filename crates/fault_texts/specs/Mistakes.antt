-- Where the column of a mistake lies: in the line (`IsOfLine`), or in a field that begins at a column (`IsOfField`).
use Rattle.std.specs.Prelude.{ℕ, ◌+◌, ◌≤◌, List, length, Option, Some, None}
use Rattle.line_fields.specs.Columns.{IsColumn}
use Rattle.line_fields.specs.declared.mistake.Mistake.{Mistake}

-- a column from this one on, at most so many bytes later
abbrev pub IsFrom : ℕ → ℕ → Option ℕ → Type 0
IsFrom first count None = ⊥
IsFrom first count (Some column) = (first ≤ column) × (column ≤ first + count)

abbrev pub IsOfLine : List ℕ → Mistake → Type 0
IsOfLine line m = IsColumn line m.column

abbrev pub IsOfField : ℕ → List ℕ → Mistake → Type 0
IsOfField column bytes m = IsFrom column (length bytes) m.column
