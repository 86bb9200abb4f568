use Rattle.std.proofs.Common.{ℤ, None, subst, w64}
use Rattle.std.proofs.lemmas.Int.{to_z-of_z}
use Rattle.process_model.specs.Steps.{plain_step}
use Rattle.process_model.specs.declared.reply.ScalarReply.TheVariants.{OldSize, Refused}
use Rattle.process_model.specs.declared.reply.Reply.TheVariants.{Scalar}
use Rattle.process_model.specs.declared.step.Step.TheVariants as step
use Rattle.hart_machine.specs.Marks.{AreMarked}
use Rattle.hart_machine.specs.Worlds.{KeepsTables, IsModelOutcome}
use Rattle.hart_machine.proofs.BufferSteps.{same_harts}
use Rattle.hart_machine.proofs.machine.Machine.sbrk.Goals as goal

pub returns-in-Ok-clause-buffers : goal.returns-in-Ok-clause-buffers
returns-in-Ok-clause-buffers c = same_harts c.args.self.now c.try_sbrk.new.self c.in-Ok.ensures.harts

pub returns-in-Err-clause-buffers : goal.returns-in-Err-clause-buffers
returns-in-Err-clause-buffers c = same_harts c.args.self.now c.try_sbrk.new.self c.in-Err.ensures.harts

pub returns-in-Ok-clause-made : goal.returns-in-Ok-clause-made
returns-in-Ok-clause-made c w is =
    rw c.with_change.ensures (subst (λ (z : ℤ). IsModelOutcome c.try_sbrk.new.self (Scalar (OldSize c.in-Ok.size)) (plain_step w (step.Sbrk c.args.hart z))) (to_z-of_z w64 c.args.delta c.ranges.delta) (c.in-Ok.ensures.made w is))

pub returns-in-Err-clause-made : goal.returns-in-Err-clause-made
returns-in-Err-clause-made c w is =
    rw c.without_change.ensures (subst (λ (z : ℤ). IsModelOutcome c.try_sbrk.new.self (Scalar (Refused c.in-Err.refusal)) (plain_step w (step.Sbrk c.args.hart z))) (to_z-of_z w64 c.args.delta c.ranges.delta) (c.in-Err.ensures.made w is))

pub returns-in-Ok-clause-changed : goal.returns-in-Ok-clause-changed
returns-in-Ok-clause-changed c w is =
    rw c.with_change.ensures (subst (λ (z : ℤ). AreMarked w (plain_step w (step.Sbrk c.args.hart z)) c.in-Ok.changed None) (to_z-of_z w64 c.args.delta c.ranges.delta) (c.in-Ok.ensures.changed w is))

pub returns-in-Err-clause-changed : goal.returns-in-Err-clause-changed
returns-in-Err-clause-changed c w is =
    rw c.without_change.ensures (subst (λ (z : ℤ). AreMarked w (plain_step w (step.Sbrk c.args.hart z)) None None) (to_z-of_z w64 c.args.delta c.ranges.delta) (c.in-Err.ensures.changed w is))

pub returns-in-Ok-clause-tables : goal.returns-in-Ok-clause-tables
returns-in-Ok-clause-tables c w is =
    subst (λ (z : ℤ). KeepsTables c.args.self.now c.try_sbrk.new.self w.slots ((plain_step w (step.Sbrk c.args.hart z)).world).slots) (to_z-of_z w64 c.args.delta c.ranges.delta) (c.in-Ok.ensures.tables w is)

pub returns-in-Err-clause-tables : goal.returns-in-Err-clause-tables
returns-in-Err-clause-tables c w is =
    subst (λ (z : ℤ). KeepsTables c.args.self.now c.try_sbrk.new.self w.slots ((plain_step w (step.Sbrk c.args.hart z)).world).slots) (to_z-of_z w64 c.args.delta c.ranges.delta) (c.in-Err.ensures.tables w is)
