-- A row of the reader's table of words as a row of the model (`seen`), and the kind of each field after a word by its place
-- (`kind_at`).
use Rattle.std.specs.Prelude.{ℕ, ◌==◌, if◌then◌else◌, Option, None, Some, length, slice_get}
use Rattle.script_language.specs.Fields as words
use Rattle.script_language.specs.declared.script.FieldKind.{FieldKind}
use Rattle.script_language.specs.declared.script.Tail.{Tail}
use Rattle.script_language.specs.declared.script.Tail.TheVariants as tail
use Rattle.script_reader.specs.declared.table.Row.{Row}

abbrev pub seen : Row → words.Row
seen r = words.row r.text.now r.word r.kinds.now r.tail

-- the kind of a field past the `least` fields that a line must have; only for places from `least` on
abbrev pub tail_at : ℕ → Tail → ℕ → Option FieldKind
tail_at least tail.Nothing place = None
tail_at least (tail.Perhaps k) place = if place == least then Some k else None
tail_at least (tail.More k) place = Some k

abbrev pub kind_or : Option FieldKind → Option FieldKind → Option FieldKind
kind_or None other = other
kind_or (Some k) other = Some k

abbrev pub kind_at : words.Row → ℕ → Option FieldKind
kind_at r place = kind_or (slice_get r.kinds place) (tail_at (length r.kinds) r.tail place)
