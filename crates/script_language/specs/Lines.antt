-- Definitions: how the bytes of a script or of a file for threads are split: lines at line feeds (a carriage return at the
-- end dropped), fields at blanks, pieces of a field at colons.
use Rattle.std.specs.Prelude.{ℕ, ◌-◌, length, take, slice_index, Bool, true, ◌==◌, ◌||◌, List, [], ◌∷◌, if◌then◌else◌}
use Rattle.std.specs.List.{onto_first}

abbrev pub is_line_end : ℕ → Bool
is_line_end b = b == 10

-- the lines of a text, without the line feeds that end them; the last line may lack its own
abbrev pub raw_lines : List ℕ → List (List ℕ)
raw_lines [] = []
raw_lines (b ∷ text) = if is_line_end b then [] ∷ raw_lines text else onto_first b (raw_lines text)

-- the line without a carriage return at its end, if it has one
abbrev pub without_return : List ℕ → List ℕ
without_return line = if slice_index line (length line - 1) == 13 then take (length line - 1) line else line

-- a space or a tab
abbrev pub is_blank : ℕ → Bool
is_blank b = b == 32 || b == 9

-- whether a field ends here: at the end of the line, or before a blank
abbrev pub ends_field : List ℕ → Bool
ends_field [] = true
ends_field (b ∷ line) = is_blank b

-- the fields of a line, which are separated by blanks
abbrev pub fields_of : List ℕ → List (List ℕ)
fields_of [] = []
fields_of (b ∷ line) = if is_blank b then fields_of line else (if ends_field line then (b ∷ []) ∷ fields_of line else onto_first b (fields_of line))

abbrev pub is_colon : ℕ → Bool
is_colon b = b == 58

-- the pieces of a field, which are separated by colons; a piece may be empty
abbrev pub pieces_of : List ℕ → List (List ℕ)
pieces_of [] = [] ∷ []
pieces_of (b ∷ field) = if is_colon b then [] ∷ pieces_of field else onto_first b (pieces_of field)
