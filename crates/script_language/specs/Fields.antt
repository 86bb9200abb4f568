-- The table of a script's words (`command_table`), each with the kinds of the fields after it (`Row`); and how fields are
-- read by their kinds: the value of each (a number, bytes, a slot, a segment ..), or the cause (why the line is refused).
use Rattle.std.specs.Prelude.{ℕ, Bool, true, false, not, List, [], ◌∷◌, Option, Some, None, Result, Ok, Err, codes, ◌++◌, ◌-◌, ◌||◌, ◌&&◌}
use Rattle.std.specs.Prelude.{length, replicate, nat_lt, ◌==◌, if◌then◌else◌}
use Rattle.std.specs.Str.{bytes_eq}
use Rattle.std.specs.List.{list_any}
use Rattle.script_language.specs.Lines.{pieces_of}
use Rattle.script_language.specs.Numbers.{number_of, signed_of, hex_of}
use Rattle.sv39_entry.specs.declared.scheme.Scheme.TheVariants.{Sv39, Sv48}
use Rattle.process_model.specs.declared.config.Policy.TheVariants as policy
use Rattle.process_model.specs.declared.image.Segment.{Segment}
use Rattle.script_language.specs.declared.script.Cause.{Cause}
use Rattle.script_language.specs.declared.script.Cause.TheVariants as cause
use Rattle.script_language.specs.declared.script.FieldKind.{FieldKind}
use Rattle.script_language.specs.declared.script.FieldKind.TheVariants as kind
use Rattle.script_language.specs.declared.script.FieldValue.{FieldValue}
use Rattle.script_language.specs.declared.script.FieldValue.TheVariants as value
use Rattle.script_language.specs.declared.script.Keyword.{Keyword}
use Rattle.script_language.specs.declared.script.Keyword.TheVariants as word
use Rattle.script_language.specs.declared.script.Tail.{Tail}
use Rattle.script_language.specs.declared.script.Tail.TheVariants as tail

-- a row of a table of words: the word as written, its keyword, the kinds of the fields that must follow it, and what may
-- follow these
pub record Row : Type 0 where
  pub text : List ℕ
  pub word : Keyword
  pub kinds : List FieldKind
  pub tail : Tail

abbrev pub row : List ℕ → Keyword → List FieldKind → Tail → Row
row text w kinds t = record { text = text; word = w; kinds = kinds; tail = t }

abbrev pub one_number : List FieldKind
one_number = kind.Number ∷ []

abbrev pub two_numbers : List FieldKind
two_numbers = kind.Number ∷ one_number

abbrev pub three_numbers : List FieldKind
three_numbers = kind.Number ∷ two_numbers

abbrev pub four_numbers : List FieldKind
four_numbers = kind.Number ∷ three_numbers

abbrev pub command_table : List Row
command_table =
    row (codes "file") word.File (kind.Number ∷ kind.Mode ∷ kind.Hex ∷ []) tail.Nothing
    ∷ row (codes "image") word.Image (kind.Segment ∷ []) (tail.More kind.Segment)
    ∷ row (codes "elf") word.Elf (kind.Hex ∷ []) tail.Nothing
    ∷ row (codes "boot") word.Boot (kind.Number ∷ kind.Number ∷ kind.Number ∷ kind.Policy ∷ []) (tail.Perhaps kind.Scheme)
    ∷ row (codes "start") word.Start one_number tail.Nothing
    ∷ row (codes "switch") word.Switch (kind.Number ∷ kind.Slot ∷ []) tail.Nothing
    ∷ row (codes "trap") word.Trap one_number tail.Nothing
    ∷ row (codes "next") word.Next one_number tail.Nothing
    ∷ row (codes "fill") word.Fill two_numbers tail.Nothing
    ∷ row (codes "evict") word.Evict two_numbers tail.Nothing
    ∷ row (codes "fetch") word.Fetch two_numbers (tail.Perhaps kind.Entry)
    ∷ row (codes "load") word.Load three_numbers (tail.Perhaps kind.Entry)
    ∷ row (codes "store") word.Store four_numbers (tail.Perhaps kind.Entry)
    ∷ row (codes "tramp") word.Tramp two_numbers (tail.Perhaps kind.Entry)
    ∷ row (codes "serve") word.Serve one_number tail.Nothing
    ∷ row (codes "fork") word.Fork one_number tail.Nothing
    ∷ row (codes "exec") word.Exec two_numbers tail.Nothing
    ∷ row (codes "sbrk") word.Sbrk (kind.Number ∷ kind.Signed ∷ []) tail.Nothing
    ∷ row (codes "mmap") word.Mmap (kind.Number ∷ four_numbers) tail.Nothing
    ∷ row (codes "munmap") word.Munmap three_numbers tail.Nothing
    ∷ row (codes "copyin") word.CopyIn three_numbers tail.Nothing
    ∷ row (codes "copyout") word.CopyOut (kind.Number ∷ kind.Number ∷ kind.Hex ∷ []) tail.Nothing
    ∷ row (codes "exit") word.Exit (kind.Number ∷ kind.Signed ∷ []) tail.Nothing
    ∷ row (codes "show") word.Show three_numbers tail.Nothing
    ∷ row (codes "audit") word.Audit [] tail.Nothing
    ∷ row (codes "on") word.On two_numbers tail.Nothing
    ∷ row (codes "enter") word.Enter one_number tail.Nothing
    ∷ row (codes "leave") word.Leave one_number tail.Nothing
    ∷ row (codes "fix") word.Fix one_number tail.Nothing
    ∷ []

-- the row of a word; None if the table lacks the word
abbrev pub row_among : List Row → List ℕ → Option Row
row_among [] text = None
row_among (r ∷ rows) text = if bytes_eq r.text text then Some r else row_among rows text

-- the kinds of n fields after a word; there are n kinds exactly when the word may have n fields
abbrev pub kinds_for : List FieldKind → Tail → ℕ → List FieldKind
kinds_for kinds tail.Nothing n = kinds
kinds_for kinds (tail.Perhaps k) n = if n == length kinds then kinds else kinds ++ k ∷ []
kinds_for kinds (tail.More k) n = kinds ++ replicate (n - length kinds) k

-- the value of a field, by its kind

-- the value made of what was read; cause c if nothing could be read
abbrev pub said_or : {A : Type 0} → Cause → (A → FieldValue) → Option A → Result FieldValue Cause
said_or c make None = Err c
said_or c make (Some x) = Ok (make x)

abbrev pub is_dash : List ℕ → Bool
is_dash text = bytes_eq text (codes "-")

abbrev pub slot_value : Bool → List ℕ → Result FieldValue Cause
slot_value true field = Ok (value.Optional None)
slot_value false field = said_or cause.Number (λ n. value.Optional (Some n)) (number_of field)

abbrev pub mode_value : List ℕ → Result FieldValue Cause
mode_value field = if bytes_eq field (codes "rw") then Ok (value.Writable true)
    else (if bytes_eq field (codes "ro") then Ok (value.Writable false) else Err cause.Field)

abbrev pub policy_value : List ℕ → Result FieldValue Cause
policy_value field = if bytes_eq field (codes "full") then Ok (value.Policy policy.Full)
    else (if bytes_eq field (codes "asid") then Ok (value.Policy policy.Asid) else Err cause.Field)

abbrev pub scheme_value : List ℕ → Result FieldValue Cause
scheme_value field = if bytes_eq field (codes "sv39") then Ok (value.Scheme Sv39)
    else (if bytes_eq field (codes "sv48") then Ok (value.Scheme Sv48) else Err cause.Field)

-- the number in @N
abbrev pub entry_number : List ℕ → Option ℕ
entry_number [] = None
entry_number (a ∷ digits) = if a == 64 then number_of digits else None

-- the letters r, w and x, each at most once, or - for none

abbrev pub has_letter : ℕ → List ℕ → Bool
has_letter c letters = list_any (λ b. b == c) letters

abbrev pub is_letter : ℕ → Bool
is_letter b = b == 114 || b == 119 || b == 120

abbrev pub are_letters : List ℕ → Bool
are_letters [] = true
are_letters (b ∷ letters) = is_letter b && not (has_letter b letters) && are_letters letters

abbrev pub are_flags : List ℕ → Bool
are_flags text = is_dash text || nat_lt 0 (length text) && are_letters text

abbrev pub segment_with : Option ℕ → Option ℕ → List ℕ → Bool → Option (List ℕ) → Option Segment
segment_with (Some address) (Some memory_size) flags true (Some bytes) =
    Some (record { address = address; memory_size = memory_size; writes = has_letter 119 flags; executes = has_letter 120 flags; bytes = bytes })
segment_with _ _ flags _ _ = None

-- VADDR:MEMSZ:FLAGS:HEX
abbrev pub segment_in : List (List ℕ) → Option Segment
segment_in (address ∷ memory_size ∷ flags ∷ bytes ∷ []) = segment_with (number_of address) (number_of memory_size) flags (are_flags flags) (hex_of bytes)
segment_in _ = None

abbrev pub value_of : FieldKind → List ℕ → Result FieldValue Cause
value_of kind.Number field = said_or cause.Number value.Number (number_of field)
value_of kind.Signed field = said_or cause.Number value.Signed (signed_of field)
value_of kind.Hex field = said_or cause.Field value.Hex (hex_of field)
value_of kind.Slot field = slot_value (is_dash field) field
value_of kind.Mode field = mode_value field
value_of kind.Policy field = policy_value field
value_of kind.Scheme field = scheme_value field
value_of kind.Segment field = said_or cause.Field value.Segment (segment_in (pieces_of field))
value_of kind.Entry field = said_or cause.Field (λ n. value.Optional (Some n)) (entry_number field)

-- which of the causes of two fields is reported: Number, if one of them is. In each line numbers precede fields of other
-- forms, so this is also the cause of the first field at fault
abbrev pub first_cause : Cause → Cause → Cause
first_cause cause.Number d = cause.Number
first_cause c d = d

-- the values so far and one more, or the cause that is reported
abbrev pub and_then : Result (List FieldValue) Cause → Result FieldValue Cause → Result (List FieldValue) Cause
and_then (Ok vs) (Ok v) = Ok (vs ++ v ∷ [])
and_then (Ok vs) (Err c) = Err c
and_then (Err c) (Ok v) = Err c
and_then (Err c) (Err d) = Err (first_cause c d)

-- the values so far, followed by those of the fields, each read by its kind
abbrev pub values_from : Result (List FieldValue) Cause → List FieldKind → List (List ℕ) → Result (List FieldValue) Cause
values_from so_far [] fields = so_far
values_from so_far (k ∷ ks) [] = so_far
values_from so_far (k ∷ ks) (field ∷ fields) = values_from (and_then so_far (value_of k field)) ks fields

abbrev pub values_by : List FieldKind → List (List ℕ) → Result (List FieldValue) Cause
values_by kinds fields = if length fields == length kinds then values_from (Ok []) kinds fields else Err cause.Count

-- the values of the fields after a word, or the cause: Count if their number is wrong, else that of a field
abbrev pub values_of : Row → List (List ℕ) → Result (List FieldValue) Cause
values_of r fields = values_by (kinds_for r.kinds r.tail (length fields)) fields
