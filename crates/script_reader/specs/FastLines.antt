-- Predicates on what the reader's fast path adds to a draft (what the script lines read so far declare and command): one
-- command more, which was made (`AddsMade`), and is that of a word and the fields after it (`AddsCommand`).
use Rattle.std.specs.Prelude.{◌≡◌, ℕ, List, Result, Ok}
use Rattle.script_language.specs.Script.{Draft, with_item}
use Rattle.script_language.specs.declared.script.Cause.{Cause}
use Rattle.script_language.specs.declared.script.Command.{Command}
use Rattle.script_language.specs.declared.script.Item.{Item}
use Rattle.script_language.specs.declared.script.Item.TheVariants as item
use Rattle.script_reader.specs.FastPath.{SaysItem}

-- `after` is `before` and the command that was made
pub record AddsMade (before after : Draft) (made : Result Item Cause) : Type 0 where
  pub command : Command
  pub is_made : made ≡ Ok (item.Command command)
  pub added : after ≡ with_item before (item.Command command)

-- `after` is `before` and one command more: that of the word `text` with these fields after it
pub record AddsCommand (before after : Draft) (text fields : List ℕ) : Type 0 where
  pub command : Command
  pub says : SaysItem text fields (Ok (item.Command command))
  pub added : after ≡ with_item before (item.Command command)
