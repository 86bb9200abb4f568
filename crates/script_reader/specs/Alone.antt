-- `item_alone`: the item (what a line declares or commands) of a script line by its word and values, in the draft of no
-- lines. For a word that names no image and no file it is the item in every draft.
use Rattle.std.specs.Prelude.{List, Result}
use Rattle.script_language.specs.Script.{item_of, no_lines}
use Rattle.script_language.specs.declared.script.Cause.{Cause}
use Rattle.script_language.specs.declared.script.FieldValue.{FieldValue}
use Rattle.script_language.specs.declared.script.Item.{Item}
use Rattle.script_language.specs.declared.script.Keyword.{Keyword}

abbrev pub item_alone : Keyword → List FieldValue → Result Item Cause
item_alone word values = item_of no_lines word values
