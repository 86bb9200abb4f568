use Rattle.std.proofs.Common.{[], ◌∷◌, Ok, ap, refl, sym}
use Rattle.std.specs.Prelude.{codes}
use Rattle.script_language.specs.Fields.{row}
use Rattle.script_language.specs.declared.script.FieldKind.TheVariants as kind
use Rattle.script_language.specs.declared.script.Item.{Item}
use Rattle.script_language.specs.declared.script.Keyword.TheVariants as word
use Rattle.script_language.specs.declared.script.Tail.TheVariants as tail
use Rattle.script_reader.proofs.FastLineSteps.{says, says_fetch}
use Rattle.script_reader.proofs.fast_lines.fast_item.Goals as goal

pub returns-in_ok-hart-in-Switch : goal.returns-in_ok-hart-in-Switch
returns-in_ok-hart-in-Switch c =
    rw c.in-Switch.is (says c.in_ok-hart-in-Switch.ensures (codes "switch") (row (codes "switch") word.Switch (kind.Number ∷ kind.Slot ∷ []) tail.Nothing) _ refl refl (λ s. refl) refl)

pub returns-in_ok-hart-in-Fetch : goal.returns-in_ok-hart-in-Fetch
returns-in_ok-hart-in-Fetch c =
    let r = c.in_ok-hart-in-Fetch in
    rw c.in-Fetch.is (says_fetch c.args.fields.now r.hart r.address r.via _ r.ensures refl)
