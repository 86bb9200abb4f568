-- What is left of the reading of a line after its word was found (`after_word`): the order, the fields, the item and its room.
use Rattle.std.specs.Prelude.{ℕ, List, Result, Ok}
use Rattle.script_language.specs.Fields.{Row, values_of}
use Rattle.script_language.specs.ReadLines.{◌>>=◌, test}
use Rattle.script_language.specs.Script.{Draft, in_order, item_of, has_room}
use Rattle.script_language.specs.declared.script.Cause.{Cause}
use Rattle.script_language.specs.declared.script.Cause.TheVariants as cause
use Rattle.script_language.specs.declared.script.Item.{Item}

abbrev pub after_word : Draft → Row → List (List ℕ) → Result Item Cause
after_word d r fields = do
  ordered ← test (in_order d r.word) cause.Order
  vs ← values_of r fields
  i ← item_of d r.word vs
  room ← test (has_room d i) cause.TooMany
  Ok i
