-- `call_alone`: the item (what a line declares or commands) of a line of a file for threads by its word and values, in the
-- draft of no lines. For a word that names no image and no list it is the item in every draft.
use Rattle.std.specs.Prelude.{List, [], Result}
use Rattle.script_language.specs.ThreadScript.{item_of, nothing_said}
use Rattle.script_language.specs.declared.script.Cause.{Cause}
use Rattle.script_language.specs.declared.script.FieldValue.{FieldValue}
use Rattle.script_language.specs.declared.script.Keyword.{Keyword}
use Rattle.script_language.specs.declared.script.ThreadItem.{ThreadItem}

abbrev pub call_alone : Keyword → List FieldValue → Result ThreadItem Cause
call_alone word values = item_of (nothing_said []) word values
