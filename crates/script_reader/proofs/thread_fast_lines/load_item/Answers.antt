use Rattle.std.proofs.Common.{Ok, ap, refl, sym}
use Rattle.std.specs.Prelude.{codes}
use Rattle.script_language.specs.Fields.{one_number, row, three_numbers, two_numbers}
use Rattle.script_language.specs.declared.script.Keyword.TheVariants as word
use Rattle.script_language.specs.declared.script.Tail.TheVariants as tail
use Rattle.script_reader.proofs.ThreadFastSteps.{says}
use Rattle.script_reader.proofs.thread_fast_lines.load_item.Goals as goal

pub returns : goal.returns
returns c s = says c.in_ok-address.ensures s (codes "load") (row (codes "load") word.Load two_numbers tail.Nothing) c.load.result refl refl (sym c.load.ensures) refl
