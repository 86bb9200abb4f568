-- `value_or_255`: the value of a byte as a digit in the form of the reader's table of digits: 255 for a byte that is none.
use Rattle.std.specs.Prelude.{ℕ, Option, None, Some}

abbrev pub value_or_255 : Option ℕ → ℕ
value_or_255 None = 255
value_or_255 (Some d) = d
