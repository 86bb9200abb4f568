-- What the bytes of a script mean (`script_of`): its files, images, configuration and commands (record `Script`), or its
-- first faulty line with the cause. The order of lines, the item that each word makes of its fields, and the limits.
use Rattle.std.specs.Prelude.{ℕ, ℤ, pos, negsuc, ◌++◌, Bool, true, false, not, List, [], ◌∷◌, Option, Some, None, is_some, Result, Ok, Err}
use Rattle.std.specs.Prelude.{length, slice_get, ◌+◌, ◌^◌, ◌&&◌, nat_lt, nat_le, if◌then◌else◌}
use Rattle.process_model.specs.Bytes.{is_width, padded}
use Rattle.script_language.specs.Lines.{raw_lines}
use Rattle.script_language.specs.Fields.{command_table}
pub use Rattle.script_language.specs.ReadLines.{◌>>=◌, test, row_named, in_limits, item_by, is_comment, is_ascii, some_item, fields_by, line_by, ReadTo, with_said, next_by, lines_by}
use Rattle.process_model.specs.Files.{fits_file}
use Rattle.process_model.specs.Frames.{can_boot}
use Rattle.process_model.specs.declared.limits.TheConstants.{LONGEST_COPY, MOST_FILES}
use Rattle.sv39_entry.specs.declared.scheme.Scheme.{Scheme}
use Rattle.sv39_entry.specs.declared.scheme.Scheme.TheVariants.{Sv39}
use Rattle.process_model.specs.declared.config.Config.{Config}
use Rattle.process_model.specs.declared.config.Policy.{Policy}
use Rattle.process_model.specs.declared.config.Policy.TheVariants as policy
use Rattle.process_model.specs.declared.file.FileText.{FileText}
use Rattle.script_language.specs.declared.declarations.OwnedImage.{OwnedImage}
use Rattle.script_language.specs.declared.declarations.OwnedImage.TheVariants as owned
use Rattle.process_model.specs.declared.image.Segment.{Segment}
use Rattle.script_language.specs.declared.script.Cause.{Cause}
use Rattle.script_language.specs.declared.script.Cause.TheVariants as cause
use Rattle.script_language.specs.declared.script.Command.{Command}
use Rattle.script_language.specs.declared.script.Command.TheVariants as command
use Rattle.script_language.specs.declared.script.FieldValue.{FieldValue}
use Rattle.script_language.specs.declared.script.FieldValue.TheVariants as value
use Rattle.script_language.specs.declared.script.Item.{Item}
use Rattle.script_language.specs.declared.script.Item.TheVariants as item
use Rattle.script_language.specs.declared.script.Keyword.{Keyword}
use Rattle.script_language.specs.declared.script.Keyword.TheVariants as word
use Rattle.process_model.specs.declared.step.Step.{Step}
use Rattle.process_model.specs.declared.step.Step.TheVariants as step
use Rattle.script_language.specs.declared.limits.TheConstants.{LONGEST_SCRIPT, MOST_COMMANDS, MOST_IMAGES}

-- what was read so far
pub record Draft : Type 0 where
  pub files : List FileText
  pub images : List OwnedImage
  pub config : Option Config
  pub commands : List Command

-- a whole script, read
pub record Script : Type 0 where
  pub files : List FileText
  pub images : List OwnedImage
  pub config : Config
  pub commands : List Command

abbrev pub no_lines : Draft
no_lines = record { files = []; images = []; config = None; commands = [] }

abbrev pub with_item : Draft → Item → Draft
with_item s (item.File f) = record s { files = s.files ++ f ∷ [] }
with_item s (item.Image i) = record s { images = s.images ++ i ∷ [] }
with_item s (item.Boot c) = record s { config = Some c }
with_item s (item.Command c) = record s { commands = s.commands ++ c ∷ [] }

-- the order of lines: declarations, one boot, steps

abbrev pub comes_first : Keyword → Bool
comes_first word.File = true
comes_first word.Image = true
comes_first word.Elf = true
comes_first word.Boot = true
comes_first _ = false

abbrev pub in_order : Draft → Keyword → Bool
in_order s w = if is_some s.config then not (comes_first w) else comes_first w

-- the values after a word, by index; one that is missing or of another kind counts as 0, no bytes, None, false, full or Sv39

abbrev pub as_number : Option FieldValue → ℕ
as_number (Some (value.Number n)) = n
as_number v = 0

abbrev pub as_signed : Option FieldValue → ℤ
as_signed (Some (value.Signed z)) = z
as_signed v = pos 0

abbrev pub as_bytes : Option FieldValue → List ℕ
as_bytes (Some (value.Hex bytes)) = bytes
as_bytes v = []

abbrev pub as_optional : Option FieldValue → Option ℕ
as_optional (Some (value.Optional n)) = n
as_optional v = None

abbrev pub as_writable : Option FieldValue → Bool
as_writable (Some (value.Writable b)) = b
as_writable v = false

abbrev pub as_policy : Option FieldValue → Policy
as_policy (Some (value.Policy p)) = p
as_policy v = policy.Full

-- Sv39 if no scheme is named
abbrev pub as_scheme : Option FieldValue → Scheme
as_scheme (Some (value.Scheme z)) = z
as_scheme v = Sv39

abbrev pub number_at : List FieldValue → ℕ → ℕ
number_at vs k = as_number (slice_get vs k)

abbrev pub signed_at : List FieldValue → ℕ → ℤ
signed_at vs k = as_signed (slice_get vs k)

abbrev pub bytes_at : List FieldValue → ℕ → List ℕ
bytes_at vs k = as_bytes (slice_get vs k)

-- the slot or the buffer entry that a field names; None if it names none or there is no such field
abbrev pub optional_at : List FieldValue → ℕ → Option ℕ
optional_at vs k = as_optional (slice_get vs k)

abbrev pub segments_in : List FieldValue → List Segment
segments_in [] = []
segments_in (value.Segment s ∷ vs) = s ∷ segments_in vs
segments_in (v ∷ vs) = segments_in vs

-- the item of a word and the values after it, or Limits if a value is outside its limits

abbrev pub file_of_values : List FieldValue → FileText
file_of_values vs = record { length = number_at vs 0; writable = as_writable (slice_get vs 1); bytes = bytes_at vs 2 }

abbrev pub config_of : List FieldValue → Config
config_of vs = record {
  scheme = as_scheme (slice_get vs 4);
  harts = number_at vs 0;
  frames = number_at vs 1;
  slots = number_at vs 2;
  policy = as_policy (slice_get vs 3);
}

-- limits

abbrev pub has_image : Draft → ℕ → Bool
has_image s n = nat_lt n (length s.images)

abbrev pub has_file : Draft → ℕ → Bool
has_file s n = nat_lt n (length s.files)

-- whether a status fits 32 bits, with its sign
abbrev pub is_status : ℤ → Bool
is_status (pos n) = nat_lt n (2 ^ 31)
is_status (negsuc n) = nat_lt n (2 ^ 31)

abbrev pub one : Step → Item
one s = item.Command (command.One s)

abbrev pub item_of : Draft → Keyword → List FieldValue → Result Item Cause
item_of s word.File vs = in_limits (fits_file (file_of_values vs)) (item.File (file_of_values vs))
item_of s word.Image vs = Ok (item.Image (owned.Segments (segments_in vs)))
item_of s word.Elf vs = Ok (item.Image (owned.Elf (bytes_at vs 0)))
item_of s word.Boot vs = in_limits (can_boot (as_scheme (slice_get vs 4)) (number_at vs 0) (number_at vs 1) (number_at vs 2)) (item.Boot (config_of vs))
item_of s word.Start vs = in_limits (has_image s (number_at vs 0)) (item.Command (command.Start (number_at vs 0)))
item_of s word.Switch vs = Ok (one (step.Switch (number_at vs 0) (optional_at vs 1)))
item_of s word.Trap vs = Ok (one (step.Trap (number_at vs 0)))
item_of s word.Next vs = Ok (one (step.Next (number_at vs 0)))
item_of s word.Fill vs = Ok (one (step.Fill (number_at vs 0) (number_at vs 1)))
item_of s word.Evict vs = Ok (one (step.Evict (number_at vs 0) (number_at vs 1)))
item_of s word.Fetch vs = Ok (one (step.Fetch (number_at vs 0) (number_at vs 1) (optional_at vs 2)))
item_of s word.Load vs = in_limits (is_width (number_at vs 2)) (one (step.Load (number_at vs 0) (number_at vs 1) (number_at vs 2) (optional_at vs 3)))
item_of s word.Store vs =
    in_limits (is_width (number_at vs 2)) (one (step.Store (number_at vs 0) (number_at vs 1) (number_at vs 2) (number_at vs 3) (optional_at vs 4)))
item_of s word.Tramp vs = Ok (one (step.TrampolineFetch (number_at vs 0) (number_at vs 1) (optional_at vs 2)))
item_of s word.Serve vs = Ok (one (step.Serve (number_at vs 0)))
item_of s word.Fork vs = Ok (one (step.Fork (number_at vs 0)))
item_of s word.Exec vs = in_limits (has_image s (number_at vs 1)) (item.Command (command.Exec (number_at vs 0) (number_at vs 1)))
item_of s word.Sbrk vs = Ok (one (step.Sbrk (number_at vs 0) (signed_at vs 1)))
item_of s word.Mmap vs = Ok (one (step.Mmap (number_at vs 0) (number_at vs 1) (number_at vs 2) (number_at vs 3) (number_at vs 4)))
item_of s word.Munmap vs = Ok (one (step.Munmap (number_at vs 0) (number_at vs 1) (number_at vs 2)))
item_of s word.CopyIn vs = in_limits (nat_le (number_at vs 2) LONGEST_COPY) (one (step.CopyIn (number_at vs 0) (number_at vs 1) (number_at vs 2)))
item_of s word.CopyOut vs =
    in_limits (nat_le (length (bytes_at vs 2)) LONGEST_COPY) (item.Command (command.CopyOut (number_at vs 0) (number_at vs 1) (bytes_at vs 2)))
item_of s word.Exit vs = in_limits (is_status (signed_at vs 1)) (one (step.Exit (number_at vs 0) (signed_at vs 1)))
item_of s word.Show vs =
    in_limits (has_file s (number_at vs 0)
    && nat_le (number_at vs 2) LONGEST_COPY) (item.Command (command.Show (number_at vs 0) (number_at vs 1) (number_at vs 2)))
item_of s word.Audit vs = Ok (item.Command command.Audit)
item_of s word.On vs = Ok (item.Command (command.On (number_at vs 0) (number_at vs 1)))
item_of s word.Enter vs = Ok (item.Command (command.Enter (number_at vs 0)))
item_of s word.Leave vs = Ok (item.Command (command.Leave (number_at vs 0)))
item_of s word.Fix vs = Ok (item.Command (command.Fix (number_at vs 0)))
item_of s word.Pool vs = Err cause.Word
item_of s word.List vs = Err cause.Word

abbrev pub has_room : Draft → Item → Bool
has_room s (item.File f) = nat_lt (length s.files) MOST_FILES
has_room s (item.Image i) = nat_lt (length s.images) MOST_IMAGES
has_room s (item.Boot c) = true
has_room s (item.Command c) = nat_lt (length s.commands) MOST_COMMANDS

-- the item of a line with a word, or the first cause
unfoldable pub item_line : Draft → List ℕ → List (List ℕ) → Result Item Cause
item_line s text fields = item_by command_table (in_order s) (item_of s) (has_room s) text fields

abbrev pub fields_line : Draft → List (List ℕ) → Result (Option Item) Cause
fields_line s fields = fields_by (item_line s) fields

unfoldable pub line_of : Draft → List ℕ → Result (Option Item) Cause
line_of s line = line_by (item_line s) line

-- what was read so far and the number of lines, or the first fault with the number of its line
abbrev pub Read : Type 0
Read = ReadTo Draft

abbrev pub with_line : Draft → ℕ → Result (Option Item) Cause → Read
with_line s n said = with_said with_item s n said

abbrev pub next_line : Read → List ℕ → Read
next_line read line = next_by line_of with_item read line

abbrev pub read_lines : Read → List (List ℕ) → Read
read_lines read lines = lines_by next_line read lines

-- the script that was read; if it has no boot, the fault is Order in the line after the last
abbrev pub whole_with : Draft → ℕ → Option Config → Result Script (ℕ × Cause)
whole_with s n None = Err (n + 1, cause.Order)
whole_with s n (Some c) = Ok (record { files = s.files; images = s.images; config = c; commands = s.commands })

abbrev pub whole : Read → Result Script (ℕ × Cause)
whole (Ok x) = whole_with x.0 x.1 (x.0).config
whole (Err f) = Err f

-- the script of these bytes, or its first fault: the line and the cause; a script that is too long has its fault in line 0
abbrev pub script_of : List ℕ → Result Script (ℕ × Cause)
script_of bytes = if nat_le (length bytes) LONGEST_SCRIPT then whole (read_lines (Ok (no_lines, 0)) (raw_lines bytes)) else Err (0, cause.TooLong)
