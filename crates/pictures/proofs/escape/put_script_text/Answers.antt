use Rattle.std.proofs.Common.{◌++◌, flat_map, sym, ap, ◌∙◌, map-id}
use Rattle.std.proofs.lemmas.Iterator.{YieldsList-from_chars}
use Rattle.std.proofs.lemmas.Iterator.Consumers.{YieldsList-end}
use Rattle.pictures.specs.Escaped.{script_escape}
use Rattle.text_builder.specs.Texts.{text_bytes}
use Rattle.pictures.proofs.escape.put_script_text.Goals as goal

pub returns : goal.returns
returns c = λ whole.
    let end = YieldsList-end (YieldsList-from_chars c.args.text.now c.utf8.text cc) c.characters.yielded _ c.characters.yielded_by _ _ c.in-None.is c.next.ensures.steps in
    let so_far = c.characters.invariant whole in
    (so_far.0, so_far.1 ∙ ap (λ items. text_bytes c.args.out.now ++ flat_map script_escape items) (sym (map-id c.characters.yielded) ∙ end.0))
