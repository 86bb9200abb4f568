use Rattle.std.proofs.Common.{refl, sym, ◌∙◌}
use Rattle.std.proofs.lemmas.Bool.{eqb-true}
use Rattle.std.proofs.lemmas.List.{nil_from_length}
use Rattle.script_language.specs.Lines.{raw_lines}
use Rattle.script_reader.proofs.ThreadsKept.{named_first, named_is}
use Rattle.script_reader.proofs.thread_lines.lists_named.Goals as goal

pub lines-init : goal.lines-init
lines-init c = rw c.none_named-named.ensures (record { says = λ k lt. named_first (raw_lines c.args.text.now) k; long = refl })

pub returns : goal.returns
returns c =
    named_is c.lines.named c.lines.left.now (raw_lines c.args.text.now) c.lines.invariant.says c.lines.invariant.long (nil_from_length _ (eqb-true _ _ (sym c.is_empty.ensures ∙ c.lines-test.false)))
