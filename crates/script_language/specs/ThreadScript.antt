-- What the bytes of a file for threads mean (`thread_script_of`): its files, images, pool of frames, lists of calls and
-- processes to start (record `ThreadScript`), or its first faulty line with the cause. The words, the order of lines, the
-- item of each, the limits.
use Rattle.std.specs.Prelude.{ℕ, ◌++◌, Bool, true, false, not, List, [], ◌∷◌, Option, Some, None, is_some, Result, Ok, Err, codes, length}
use Rattle.std.specs.Prelude.{map, get_or, ◌+◌, ◌==◌, ◌&&◌, nat_lt, nat_le, if◌then◌else◌}
use Rattle.std.specs.Str.{bytes_eq}
use Rattle.std.specs.List.{list_any}
use Rattle.std.specs.List.{range_with_len}
use Rattle.process_model.specs.Bytes.{is_width}
use Rattle.process_model.specs.declared.limits.TheConstants.{LONGEST_COPY, MOST_FILES}
use Rattle.process_model.specs.Frames.{can_share}
use Rattle.script_language.specs.Lines.{raw_lines, without_return, fields_of}
use Rattle.script_language.specs.Numbers.{number_of}
use Rattle.script_language.specs.Fields.{Row, row, one_number, two_numbers, three_numbers, four_numbers}
use Rattle.script_language.specs.ReadLines.{in_limits, item_by, line_by, ReadTo, next_by, lines_by}
use Rattle.process_model.specs.Files.{fits_file}
use Rattle.script_language.specs.Script.{number_at, signed_at, bytes_at, segments_in, file_of_values, is_status}
use Rattle.process_model.specs.declared.call.Call.{Call}
use Rattle.process_model.specs.declared.call.Call.TheVariants as call
use Rattle.script_language.specs.declared.declarations.CallList.{CallList}
use Rattle.script_language.specs.declared.declarations.ListedCall.{ListedCall}
use Rattle.script_language.specs.declared.declarations.ListedCall.TheVariants as listed
use Rattle.script_language.specs.declared.declarations.ListedStart.{ListedStart}
use Rattle.script_language.specs.declared.declarations.Pool.{Pool}
use Rattle.process_model.specs.declared.file.FileText.{FileText}
use Rattle.script_language.specs.declared.declarations.OwnedImage.{OwnedImage}
use Rattle.script_language.specs.declared.declarations.OwnedImage.TheVariants as owned
use Rattle.script_language.specs.declared.script.Cause.{Cause}
use Rattle.script_language.specs.declared.script.Cause.TheVariants as cause
use Rattle.script_language.specs.declared.script.FieldKind.TheVariants as kind
use Rattle.script_language.specs.declared.script.FieldValue.{FieldValue}
use Rattle.script_language.specs.declared.script.Keyword.{Keyword}
use Rattle.script_language.specs.declared.script.Keyword.TheVariants as word
use Rattle.script_language.specs.declared.script.Tail.TheVariants as tail
use Rattle.script_language.specs.declared.script.ThreadItem.{ThreadItem}
use Rattle.script_language.specs.declared.script.ThreadItem.TheVariants as item
use Rattle.script_language.specs.declared.limits.TheConstants.{LONGEST_SCRIPT, MOST_CALLS, MOST_COMMANDS, MOST_IMAGES, MOST_LISTS}

-- the words of a file for threads; unlike in a script, a call names no hart
abbrev pub thread_table : List Row
thread_table =
    row (codes "file") word.File (kind.Number ∷ kind.Mode ∷ kind.Hex ∷ []) tail.Nothing
    ∷ row (codes "image") word.Image (kind.Segment ∷ []) (tail.More kind.Segment)
    ∷ row (codes "elf") word.Elf (kind.Hex ∷ []) tail.Nothing
    ∷ row (codes "pool") word.Pool two_numbers tail.Nothing
    ∷ row (codes "list") word.List one_number tail.Nothing
    ∷ row (codes "start") word.Start two_numbers tail.Nothing
    ∷ row (codes "fetch") word.Fetch one_number tail.Nothing
    ∷ row (codes "load") word.Load two_numbers tail.Nothing
    ∷ row (codes "store") word.Store three_numbers tail.Nothing
    ∷ row (codes "exec") word.Exec one_number tail.Nothing
    ∷ row (codes "sbrk") word.Sbrk (kind.Signed ∷ []) tail.Nothing
    ∷ row (codes "mmap") word.Mmap four_numbers tail.Nothing
    ∷ row (codes "munmap") word.Munmap two_numbers tail.Nothing
    ∷ row (codes "copyin") word.CopyIn two_numbers tail.Nothing
    ∷ row (codes "copyout") word.CopyOut (kind.Number ∷ kind.Hex ∷ []) tail.Nothing
    ∷ row (codes "exit") word.Exit (kind.Signed ∷ []) tail.Nothing
    ∷ row (codes "fork") word.Fork one_number tail.Nothing
    ∷ []

-- what was read so far
pub record ThreadDraft : Type 0 where
  -- for each list number, whether a line anywhere in the file begins that list
  pub named : List Bool
  pub files : List FileText
  pub images : List OwnedImage
  pub pool : Option Pool
  -- the last one is open: calls are added to it
  pub lists : List CallList
  pub starts : List ListedStart
  -- how many lines there are after the pool
  pub lines : ℕ

-- a whole file, read
pub record ThreadScript : Type 0 where
  pub files : List FileText
  pub images : List OwnedImage
  pub pool : Pool
  pub lists : List CallList
  pub starts : List ListedStart

-- the lists that a file begins: a fork may name one that begins further down, so that lists can fork into each other; a start
-- names one that begins above it

abbrev pub is_number : ℕ → Option ℕ → Bool
is_number k None = false
is_number k (Some n) = n == k

abbrev pub begins : ℕ → List (List ℕ) → Bool
begins k (text ∷ number ∷ []) = bytes_eq text (codes "list") && is_number k (number_of number)
begins k fields = false

-- whether a line begins list k
abbrev pub begins_list : ℕ → List ℕ → Bool
begins_list k line = begins k (fields_of (without_return line))

abbrev pub lists_named : List (List ℕ) → List Bool
lists_named lines = map (λ k. list_any (begins_list k) lines) (range_with_len 0 MOST_LISTS)

abbrev pub is_named : List Bool → ℕ → Bool
is_named named k = get_or named k false

abbrev pub nothing_said : List Bool → ThreadDraft
nothing_said named = record { named = named; files = []; images = []; pool = None; lists = []; starts = []; lines = 0 }

-- the lists with a call added to the open one
abbrev pub with_call : List CallList → ListedCall → List CallList
with_call [] c = []
with_call (l ∷ []) c = record l { calls = l.calls ++ c ∷ [] } ∷ []
with_call (l ∷ m ∷ ls) c = l ∷ with_call (m ∷ ls) c

abbrev pub with_item : ThreadDraft → ThreadItem → ThreadDraft
with_item s (item.File f) = record s { files = s.files ++ f ∷ [] }
with_item s (item.Image i) = record s { images = s.images ++ i ∷ [] }
with_item s (item.Pool p) = record s { pool = Some p }
with_item s (item.List k) = record s { lists = s.lists ++ record { number = k; calls = [] } ∷ []; lines = s.lines + 1 }
with_item s (item.Call c) = record s { lists = with_call s.lists c; lines = s.lines + 1 }
with_item s (item.Start x) = record s { starts = s.starts ++ x ∷ []; lines = s.lines + 1 }

-- the order of lines: declarations, one pool, lists with their calls, starts

abbrev pub has_started : ThreadDraft → Bool
has_started s = nat_lt 0 (length s.starts)

abbrev pub in_order : ThreadDraft → Keyword → Bool
in_order s word.File = not (is_some s.pool)
in_order s word.Image = not (is_some s.pool)
in_order s word.Elf = not (is_some s.pool)
in_order s word.Pool = not (is_some s.pool)
in_order s word.List = is_some s.pool && not (has_started s)
in_order s word.Start = is_some s.pool
in_order s _ = nat_lt 0 (length s.lists) && not (has_started s)

-- the item of a word and the values after it, or Limits if a value is outside its limits

abbrev pub pool_of : List FieldValue → Pool
pool_of vs = record { frames = number_at vs 0; slots = number_at vs 1 }

abbrev pub start_of : List FieldValue → ListedStart
start_of vs = record { image = number_at vs 0; list = number_at vs 1 }

-- whether a list of this number was begun
abbrev pub has_list : List CallList → ℕ → Bool
has_list lists k = list_any (λ l. l.number == k) lists

abbrev pub has_image : ThreadDraft → ℕ → Bool
has_image s n = nat_lt n (length s.images)

abbrev pub one : Call → ThreadItem
one c = item.Call (listed.One c)

abbrev pub item_of : ThreadDraft → Keyword → List FieldValue → Result ThreadItem Cause
item_of s word.File vs = in_limits (fits_file (file_of_values vs)) (item.File (file_of_values vs))
item_of s word.Image vs = Ok (item.Image (owned.Segments (segments_in vs)))
item_of s word.Elf vs = Ok (item.Image (owned.Elf (bytes_at vs 0)))
item_of s word.Pool vs = in_limits (can_share (number_at vs 0) (number_at vs 1)) (item.Pool (pool_of vs))
item_of s word.List vs = in_limits (nat_lt (number_at vs 0) MOST_LISTS && not (has_list s.lists (number_at vs 0))) (item.List (number_at vs 0))
item_of s word.Start vs = in_limits (has_image s (number_at vs 0) && has_list s.lists (number_at vs 1)) (item.Start (start_of vs))
item_of s word.Fetch vs = Ok (one (call.Fetch (number_at vs 0)))
item_of s word.Load vs = in_limits (is_width (number_at vs 1)) (one (call.Load (number_at vs 0) (number_at vs 1)))
item_of s word.Store vs = in_limits (is_width (number_at vs 1)) (one (call.Store (number_at vs 0) (number_at vs 1) (number_at vs 2)))
item_of s word.Exec vs = in_limits (has_image s (number_at vs 0)) (item.Call (listed.Exec (number_at vs 0)))
item_of s word.Sbrk vs = Ok (one (call.Sbrk (signed_at vs 0)))
item_of s word.Mmap vs = Ok (one (call.Mmap (number_at vs 0) (number_at vs 1) (number_at vs 2) (number_at vs 3)))
item_of s word.Munmap vs = Ok (one (call.Munmap (number_at vs 0) (number_at vs 1)))
item_of s word.CopyIn vs = in_limits (nat_le (number_at vs 1) LONGEST_COPY) (one (call.CopyIn (number_at vs 0) (number_at vs 1)))
item_of s word.CopyOut vs = in_limits (nat_le (length (bytes_at vs 1)) LONGEST_COPY) (item.Call (listed.CopyOut (number_at vs 0) (bytes_at vs 1)))
item_of s word.Exit vs = in_limits (is_status (signed_at vs 0)) (one (call.Exit (signed_at vs 0)))
item_of s word.Fork vs = in_limits (is_named s.named (number_at vs 0)) (one (call.Fork (number_at vs 0)))
item_of s _ vs = Err cause.Word

-- how many calls the open list has
abbrev pub open_calls : List CallList → ℕ
open_calls [] = 0
open_calls (l ∷ []) = length l.calls
open_calls (l ∷ m ∷ ls) = open_calls (m ∷ ls)

abbrev pub has_room : ThreadDraft → ThreadItem → Bool
has_room s (item.File f) = nat_lt (length s.files) MOST_FILES
has_room s (item.Image i) = nat_lt (length s.images) MOST_IMAGES
has_room s (item.Pool p) = true
has_room s (item.List k) = nat_lt s.lines MOST_COMMANDS
has_room s (item.Call c) = nat_lt s.lines MOST_COMMANDS && nat_lt (open_calls s.lists) MOST_CALLS
has_room s (item.Start x) = nat_lt s.lines MOST_COMMANDS

-- the item of a line with a word, or the first cause
unfoldable pub item_line : ThreadDraft → List ℕ → List (List ℕ) → Result ThreadItem Cause
item_line s text fields = item_by thread_table (in_order s) (item_of s) (has_room s) text fields

unfoldable pub line_of : ThreadDraft → List ℕ → Result (Option ThreadItem) Cause
line_of s line = line_by (item_line s) line

-- what was read so far and the number of lines, or the first fault with the number of its line
abbrev pub Read : Type 0
Read = ReadTo ThreadDraft

abbrev pub next_line : Read → List ℕ → Read
next_line read line = next_by line_of with_item read line

abbrev pub read_lines : Read → List (List ℕ) → Read
read_lines read lines = lines_by next_line read lines

-- the file that was read; if it has no pool, the fault is Order in the line after the last
abbrev pub whole_with : ThreadDraft → ℕ → Option Pool → Result ThreadScript (ℕ × Cause)
whole_with s n None = Err (n + 1, cause.Order)
whole_with s n (Some p) = Ok (record { files = s.files; images = s.images; pool = p; lists = s.lists; starts = s.starts })

abbrev pub whole : Read → Result ThreadScript (ℕ × Cause)
whole (Ok x) = whole_with x.0 x.1 (x.0).pool
whole (Err f) = Err f

-- the file of these lines, or its first fault
abbrev pub said_in : List (List ℕ) → Result ThreadScript (ℕ × Cause)
said_in lines = whole (read_lines (Ok (nothing_said (lists_named lines), 0)) lines)

-- the file for threads of these bytes, or its first fault: the line and the cause; a file that is too long has its fault in
-- line 0
abbrev pub thread_script_of : List ℕ → Result ThreadScript (ℕ × Cause)
thread_script_of bytes = if nat_le (length bytes) LONGEST_SCRIPT then said_in (raw_lines bytes) else Err (0, cause.TooLong)

-- the calls of list number k; None if there is no such list
abbrev pub calls_of : List CallList → ℕ → Option (List ListedCall)
calls_of [] k = None
calls_of (l ∷ ls) k = if l.number == k then Some l.calls else calls_of ls k
