-- The model's reading of a line in parts: its word and the fields after it (`word_in`), with the checks of length and of
-- ASCII before (`word_of`), and the item (what the line declares or commands) that follows (`said_with`).
use Rattle.std.specs.Prelude.{ℕ, List, [], ◌∷◌, Option, Some, None, Result, Ok, nat_le, length, if◌then◌else◌}
use Rattle.std.specs.Borrow.{Bor}
use Rattle.script_language.specs.Lines.{fields_of}
use Rattle.script_language.specs.ReadLines.{◌>>=◌, test, is_ascii, is_comment, some_item}
use Rattle.script_language.specs.declared.script.Cause.{Cause}
use Rattle.script_language.specs.declared.script.Cause.TheVariants as cause
use Rattle.script_language.specs.declared.limits.TheConstants.{LONGEST_LINE}

abbrev pub as_fields : Bor (List ℕ) × Bor (List ℕ) → List ℕ × List (List ℕ)
as_fields found = (found.0.now, fields_of found.1.now)

-- the word and the fields after it; `None` if the line has no field, or is a comment
abbrev pub word_in : List (List ℕ) → Option (List ℕ × List (List ℕ))
word_in [] = None
word_in (text ∷ fields) = if is_comment text then None else Some (text, fields)

abbrev pub word_of : List ℕ → Result (Option (List ℕ × List (List ℕ))) Cause
word_of line = do
  short ← test (nat_le (length line) LONGEST_LINE) cause.TooLong
  ascii ← test (is_ascii line) cause.NotAscii
  Ok (word_in (fields_of line))

-- the item that `item_line` gives for a word and the fields after it; `None` if there is no word
abbrev pub said_with : {I : Type 0} → (List ℕ → List (List ℕ) → Result I Cause) → Option (List ℕ × List (List ℕ)) → Result (Option I) Cause
said_with item_line None = Ok None
said_with item_line (Some x) = some_item (item_line x.0 x.1)
