-- Lemmas for the fast path of the reader of files for threads: what it makes of a word and the fields after it is the
-- model's (`SaysItem`), and a line whose call it adds to a draft (what the lines so far declare) is added as the model adds
-- it.
use Rattle.std.proofs.Common.{◌≡◌, ℕ, ◌≤◌, subst, List, [], ◌∷◌, length, Option, None, Some, Ok, true, refl, ◌∙◌}
use Rattle.std.specs.Prelude.{Err, IfSome, OnOk, Result, nat_le}
use Rattle.std.proofs.lemmas.Bool.{and_parts}
use Rattle.script_language.specs.Fields.{Row, kinds_for, row_among}
use Rattle.script_language.specs.Lines.{fields_of}
use Rattle.script_language.specs.ReadLines.{is_ascii, with_said}
use Rattle.script_language.specs.ThreadScript.{ThreadDraft, in_order, item_line, item_of, line_of, thread_table, with_item}
use Rattle.script_language.specs.declared.declarations.ListedCall.{ListedCall}
use Rattle.script_language.specs.declared.script.FieldKind.{FieldKind}
use Rattle.script_language.specs.declared.script.FieldValue.{FieldValue}
use Rattle.script_language.specs.declared.script.Cause.{Cause}
use Rattle.script_language.specs.declared.script.ThreadItem.{ThreadItem}
use Rattle.script_language.specs.declared.script.ThreadItem.TheVariants as item
use Rattle.script_reader.specs.FastPath.{Reads}
use Rattle.script_reader.specs.ThreadFastLines.{AddsCall, AddsMade, SaysItem, has_call_room, is_open, takes_calls}
use Rattle.script_reader.proofs.FastLineSteps.{no_comment, said}
use Rattle.script_language.specs.declared.limits.TheConstants.{LONGEST_LINE}

pub says : {line : List ℕ} {ks : List FieldKind} {vs : List FieldValue} → Reads line ks vs → (s : ThreadDraft) (text : List ℕ) (r : Row) (made : Result ThreadItem Cause) → row_among thread_table text ≡ Some r
    → kinds_for r.kinds r.tail (length ks) ≡ ks → item_of s r.word vs ≡ made → in_order s r.word ≡ is_open s → SaysItem s text line made
says {line} {ks} {vs} reads s text r made found kinds makes order = record { row = r; found = found; values = vs; said = said r line ks vs reads.reads kinds; item = makes; order = order }

item_says : (s : ThreadDraft) (text line : List ℕ) (c : ListedCall) → SaysItem s text line (Ok (item.Call c)) → is_open s ≡ true → has_call_room s ≡ true → item_line s text (fields_of line) ≡ Ok (item.Call c)
unfolding item_line
item_says s text line c says opened room = rw (says.found, says.order ∙ opened, says.said, says.item, room) refl

line_says : (s : ThreadDraft) (line text fields : List ℕ) (c : ListedCall) → fields_of line ≡ text ∷ fields_of fields → SaysItem s text fields (Ok (item.Call c)) → takes_calls s ≡ true → nat_le (length line) LONGEST_LINE ≡ true
    → is_ascii line ≡ true → line_of s line ≡ Ok (Some (item.Call c))
unfolding line_of
line_says s line text fields c cut says takes short ascii =
    let parts = and_parts (is_open s) (has_call_room s) takes in
    rw (short, ascii, cut, no_comment thread_table (λ t. refl) text says.row says.found, item_says s text fields c says parts.0 parts.1) refl

-- a line whose word was added with the fields after it was added
pub call_added : {E : Type 0} (s t : ThreadDraft) (line text fields : List ℕ) (done : Option (Result (Unit {0}) E)) → fields_of line ≡ text ∷ fields_of fields → takes_calls s ≡ true
    → nat_le (length line) LONGEST_LINE ≡ true → is_ascii line ≡ true → IfSome done (λ d. OnOk d (AddsCall s t text fields)) → IfSome done (λ d. OnOk d ((n : ℕ) → with_said with_item s n (line_of s line) ≡ Ok (t, n)))
call_added s t line text fields None cut takes short ascii adds = adds
call_added s t line text fields (Some (Err e)) cut takes short ascii adds = adds
call_added s t line text fields (Some (Ok u)) cut takes short ascii adds = λ n. rw (line_says s line text fields adds.call cut adds.says takes short ascii, adds.added) refl

-- what was made of a word and the fields after it was added
pub item_added : {E : Type 0} (s t : ThreadDraft) (text fields : List ℕ) (made : Result ThreadItem Cause) (done : Option (Result (Unit {0}) E)) → SaysItem s text fields made → IfSome done (λ d. OnOk d (AddsMade s t made))
    → IfSome done (λ d. OnOk d (AddsCall s t text fields))
item_added s t text fields made None says adds = adds
item_added s t text fields made (Some (Err e)) says adds = adds
item_added s t text fields made (Some (Ok u)) says adds = record { call = adds.call; says = subst (λ (m : Result ThreadItem Cause). SaysItem s text fields m) adds.is_made says; added = adds.added }
