use Rattle.std.proofs.Common.{Ok, ap, refl, sym}
use Rattle.std.specs.Prelude.{codes}
use Rattle.script_language.specs.Fields.{one_number, row}
use Rattle.script_language.specs.declared.script.Item.{Item}
use Rattle.script_language.specs.declared.script.Keyword.TheVariants as word
use Rattle.script_language.specs.declared.script.Tail.TheVariants as tail
use Rattle.script_reader.proofs.FastLineSteps.{says}
use Rattle.script_reader.proofs.fast_lines.hart_item.Goals as goal

pub returns-in-Fix : goal.returns-in-Fix
returns-in-Fix c =
    rw c.in-Fix.is (says c.in-Some.ensures (codes "fix") (row (codes "fix") word.Fix one_number tail.Nothing) _ refl refl (λ s. refl) refl)

pub returns-in-Enter : goal.returns-in-Enter
returns-in-Enter c =
    rw c.in-Enter.is (says c.in-Some.ensures (codes "enter") (row (codes "enter") word.Enter one_number tail.Nothing) _ refl refl (λ s. refl) refl)

pub returns-in-Leave : goal.returns-in-Leave
returns-in-Leave c =
    rw c.in-Leave.is (says c.in-Some.ensures (codes "leave") (row (codes "leave") word.Leave one_number tail.Nothing) _ refl refl (λ s. refl) refl)

pub returns-in-Next : goal.returns-in-Next
returns-in-Next c =
    rw c.in-Next.is (says c.in-Some.ensures (codes "next") (row (codes "next") word.Next one_number tail.Nothing) _ refl refl (λ s. refl) refl)

pub returns-in-Trap : goal.returns-in-Trap
returns-in-Trap c =
    rw c.in-Trap.is (says c.in-Some.ensures (codes "trap") (row (codes "trap") word.Trap one_number tail.Nothing) _ refl refl (λ s. refl) refl)

pub returns-in-Fork : goal.returns-in-Fork
returns-in-Fork c =
    rw c.in-Fork.is (says c.in-Some.ensures (codes "fork") (row (codes "fork") word.Fork one_number tail.Nothing) _ refl refl (λ s. refl) refl)
