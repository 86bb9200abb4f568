-- Whether the first field of a line is no word of scripts (`is_unknown`).
use Rattle.std.specs.Prelude.{ℕ, Bool, false, List, Option, None, Some, is_none}
use Rattle.script_language.specs.Fields.{command_table, row_among}

abbrev pub is_unknown : Option (List ℕ) → Bool
is_unknown None = false
is_unknown (Some text) = is_none (row_among command_table text)
