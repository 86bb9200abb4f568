use Rattle.std.proofs.Common.{◌≡◌, ◌∙◌, ap, Option, Some, Ok}
use Rattle.script_language.specs.declared.script.Item.{Item}
use Rattle.line_player.proofs.player.LinePlayer.take.Goals as goal

pub boot-requires-clause-limits : goal.boot-requires-clause-limits
boot-requires-clause-limits c =
    c.lines_fit.ensures.fits _ _ _ (c.in-Ok-Some-Boot.ensures {u = tt}
    ∙ ap (λ (o : Option Item). Ok o) (c.in-Ok-Some-Boot.field-0-is ∙ ap (λ (i : Item). Some i) c.in-Ok-Some-Boot.field-0-0-is))
