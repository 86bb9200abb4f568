-- Predicates on the fast path of the reader of files for threads: whether the next line may be a call (`takes_calls`); what
-- a word and the fields after it make (`SaysItem`); a draft (what the lines read so far declare) has one call more, that of
-- a word and the fields after it (`AddsCall`). And whether a text begins with the letters of `list` (`begins_with_list`), by
-- which a pass over a file finds the lines that begin no list.
use Rattle.std.specs.Prelude.{◌≡◌, ℕ, Bool, false, not, List, ◌∷◌, Some, Result, Ok, length, nat_lt, ◌==◌, ◌&&◌}
use Rattle.script_language.specs.Fields.{Row, row_among, values_of}
use Rattle.script_language.specs.Lines.{fields_of}
use Rattle.script_language.specs.declared.limits.TheConstants.{MOST_CALLS, MOST_COMMANDS}
use Rattle.script_language.specs.ThreadScript.{ThreadDraft, has_started, in_order, item_of, open_calls, thread_table, with_item}
use Rattle.script_language.specs.declared.declarations.ListedCall.{ListedCall}
use Rattle.script_language.specs.declared.script.FieldValue.{FieldValue}
use Rattle.script_language.specs.declared.script.Cause.{Cause}
use Rattle.script_language.specs.declared.script.ThreadItem.{ThreadItem}
use Rattle.script_language.specs.declared.script.ThreadItem.TheVariants as item

-- a list was begun, and no start was read: the next line may have the word of a call
abbrev pub is_open : ThreadDraft → Bool
is_open s = nat_lt 0 (length s.lists) && not (has_started s)

-- there is room for a line after the pool, and for a call in the open list
abbrev pub has_call_room : ThreadDraft → Bool
has_call_room s = nat_lt s.lines MOST_COMMANDS && nat_lt (open_calls s.lists) MOST_CALLS

abbrev pub takes_calls : ThreadDraft → Bool
takes_calls s = is_open s && has_call_room s

-- in draft s, the word `text` with the fields of `line` after it makes this item or has this fault; a line with the word may be
-- next exactly when a list was begun and no start was read
pub record SaysItem (s : ThreadDraft) (text line : List ℕ) (made : Result ThreadItem Cause) : Type 0 where
  pub row : Row
  pub found : row_among thread_table text ≡ Some row
  pub values : List FieldValue
  pub said : values_of row (fields_of line) ≡ Ok values
  pub item : item_of s row.word values ≡ made
  pub order : in_order s row.word ≡ is_open s

-- `after` is `before` and the call that was made
pub record AddsMade (before after : ThreadDraft) (made : Result ThreadItem Cause) : Type 0 where
  pub call : ListedCall
  pub is_made : made ≡ Ok (item.Call call)
  pub added : after ≡ with_item before (item.Call call)

-- `after` is `before` and one call more in its open list: that of the word `text` with the fields of `line` after it
pub record AddsCall (before after : ThreadDraft) (text line : List ℕ) : Type 0 where
  pub call : ListedCall
  pub says : SaysItem before text line (Ok (item.Call call))
  pub added : after ≡ with_item before (item.Call call)

-- whether a text begins with the letters of `list`
abbrev pub begins_with_list : List ℕ → Bool
begins_with_list (a ∷ b ∷ c ∷ d ∷ text) = a == 108 && b == 105 && c == 115 && d == 116
begins_with_list text = false
