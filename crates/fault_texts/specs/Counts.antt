-- Whether a word may have a number of fields (`is_right`).
use Rattle.std.specs.Prelude.{ℕ, Bool, ◌==◌, length}
use Rattle.script_language.specs.Fields.{Row, kinds_for}

abbrev pub is_right : Row → ℕ → Bool
is_right r count = count == length (kinds_for r.kinds r.tail count)
