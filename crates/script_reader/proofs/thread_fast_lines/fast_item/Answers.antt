use Rattle.std.proofs.Common.{Ok, ap, refl, sym}
use Rattle.std.specs.Prelude.{codes}
use Rattle.script_language.specs.Fields.{one_number, row, three_numbers, two_numbers}
use Rattle.script_language.specs.declared.script.Keyword.TheVariants as word
use Rattle.script_language.specs.declared.script.Tail.TheVariants as tail
use Rattle.script_reader.proofs.ThreadFastSteps.{says}
use Rattle.script_language.specs.declared.script.ThreadItem.{ThreadItem}
use Rattle.script_reader.proofs.thread_fast_lines.fast_item.Goals as goal

pub returns-in_ok-address-in-Fetch : goal.returns-in_ok-address-in-Fetch
returns-in_ok-address-in-Fetch c = rw c.in-Fetch.is (says c.in_ok-address-in-Fetch.ensures c.args.draft.now (codes "fetch") (row (codes "fetch") word.Fetch one_number tail.Nothing) (Ok c.one.result) refl refl (ap (λ (i : ThreadItem). Ok i) (sym c.one.ensures)) refl)

pub returns-in_ok-address-in-CopyIn : goal.returns-in_ok-address-in-CopyIn
returns-in_ok-address-in-CopyIn c = rw c.in-CopyIn.is (says c.in_ok-address-in-CopyIn.ensures c.args.draft.now (codes "copyin") (row (codes "copyin") word.CopyIn two_numbers tail.Nothing) c.copy_in.result refl refl (sym c.copy_in.ensures) refl)

pub returns-in_ok-list-in-Fork : goal.returns-in_ok-list-in-Fork
returns-in_ok-list-in-Fork c = rw c.in-Fork.is (says c.in_ok-list-in-Fork.ensures c.args.draft.now (codes "fork") (row (codes "fork") word.Fork one_number tail.Nothing) c.fork.result refl refl (sym c.fork.ensures) refl)
