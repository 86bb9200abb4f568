-- How the lines of a text are read one after the other, up to the first faulty line: what scripts and files for threads have
-- in common. A line's item or its cause (why it is refused), in the order of the tests; comments; limits of length.
use Rattle.std.specs.Prelude.{ℕ, Bool, false, List, [], ◌∷◌, Option, Some, None, Result, Ok, Err, length, ◌+◌, ◌==◌, nat_lt, nat_le, if◌then◌else◌}
use Rattle.std.specs.List.{list_all}
use Rattle.script_language.specs.Lines.{without_return, fields_of}
use Rattle.script_language.specs.Fields.{Row, row_among, values_of}
use Rattle.script_language.specs.declared.script.Cause.{Cause}
use Rattle.script_language.specs.declared.script.Cause.TheVariants as cause
use Rattle.script_language.specs.declared.script.FieldValue.{FieldValue}
use Rattle.script_language.specs.declared.script.Keyword.{Keyword}
use Rattle.script_language.specs.declared.limits.TheConstants.{LONGEST_LINE}

-- steps that may fail, one after the other: the first fault is the result

infixl 10 ◌>>=◌
abbrev pub ◌>>=◌ : {A B : Type 0} → Result A Cause → (A → Result B Cause) → Result B Cause
(Ok x) >>= f = f x
(Err e) >>= f = Err e

abbrev pub test : Bool → Cause → Result (Unit {0}) Cause
test holds c = if holds then Ok tt else Err c

abbrev pub row_named : Option Row → Result Row Cause
row_named None = Err cause.Word
row_named (Some r) = Ok r

abbrev pub in_limits : {A : Type 0} → Bool → A → Result A Cause
in_limits within x = if within then Ok x else Err cause.Limits

-- the item that a word and the fields after it make, or the first cause, in this order: Word if the table lacks the word;
-- Order if no line with the word may be next; the cause of the fields; the cause of the item; TooMany if there is no room
-- for the item
abbrev pub item_by : {I : Type 0} → List Row → (Keyword → Bool) → (Keyword → List FieldValue → Result I Cause) → (I → Bool) → List ℕ
    → List (List ℕ) → Result I Cause
item_by table in_order item_of has_room text fields = do
  r ← row_named (row_among table text)
  ordered ← test (in_order r.word) cause.Order
  vs ← values_of r fields
  i ← item_of r.word vs
  room ← test (has_room i) cause.TooMany
  Ok i

abbrev pub is_comment : List ℕ → Bool
is_comment [] = false
is_comment (b ∷ text) = b == 35

abbrev pub is_ascii : List ℕ → Bool
is_ascii line = list_all (λ b. nat_lt b 128) line

abbrev pub some_item : {I : Type 0} → Result I Cause → Result (Option I) Cause
some_item (Ok i) = Ok (Some i)
some_item (Err c) = Err c

-- None for an empty line and a comment; for any other line the item of its word and the fields after it
abbrev pub fields_by : {I : Type 0} → (List ℕ → List (List ℕ) → Result I Cause) → List (List ℕ) → Result (Option I) Cause
fields_by item_line [] = Ok None
fields_by item_line (text ∷ fields) = if is_comment text then Ok None else some_item (item_line text fields)

abbrev pub line_by : {I : Type 0} → (List ℕ → List (List ℕ) → Result I Cause) → List ℕ → Result (Option I) Cause
line_by item_line line = do
  short ← test (nat_le (length line) LONGEST_LINE) cause.TooLong
  ascii ← test (is_ascii line) cause.NotAscii
  fields_by item_line (fields_of line)

-- what was read so far and the number of lines, or the first fault with the number of its line
abbrev pub ReadTo : Type 0 → Type 0
ReadTo D = Result (D × ℕ) (ℕ × Cause)

abbrev pub with_said : {D I : Type 0} → (D → I → D) → D → ℕ → Result (Option I) Cause → ReadTo D
with_said with_item s n (Ok None) = Ok (s, n)
with_said with_item s n (Ok (Some i)) = Ok (with_item s i, n)
with_said with_item s n (Err c) = Err (n, c)

abbrev pub next_by : {D I : Type 0} → (D → List ℕ → Result (Option I) Cause) → (D → I → D) → ReadTo D → List ℕ → ReadTo D
next_by line_of with_item (Ok x) line = with_said with_item x.0 (x.1 + 1) (line_of x.0 (without_return line))
next_by line_of with_item (Err f) line = Err f

abbrev pub lines_by : {D : Type 0} → (ReadTo D → List ℕ → ReadTo D) → ReadTo D → List (List ℕ) → ReadTo D
lines_by next read [] = read
lines_by next read (line ∷ lines) = lines_by next (next read line) lines
