use Rattle.std.proofs.Common.{◌∙◌, arith, refl, subst, sym}
use Rattle.process_model.specs.World.{StepOutcome}
use Rattle.process_model.specs.declared.reply.Refusal.TheVariants.{BadArgument}
use Rattle.hart_machine.specs.Marks.{AreMarked}
use Rattle.hart_machine.specs.Worlds.{KeepsTables, IsModelOutcome}
use Rattle.hart_machine.proofs.CopySteps.{long_in, proper_in, step_in, too_long_in}
use Rattle.hart_machine.proofs.HartSteps.{refused}
use Rattle.hart_machine.proofs.KeptTables.{same_places}
use Rattle.hart_machine.proofs.SlotMarks.{refused_as}
use Rattle.hart_machine.proofs.machine.Machine.copy_in.Goals as goal

pub returns-then-count-gt-LONGEST_COPY-clause-made : goal.returns-then-count-gt-LONGEST_COPY-clause-made
returns-then-count-gt-LONGEST_COPY-clause-made c w is = rw c.without_change.ensures (too_long_in c.args.self.now w is c.args.hart c.args.address c.args.count (omega (arith, c.if-count-gt-LONGEST_COPY.true)))

pub returns-then-count-gt-LONGEST_COPY-clause-changed : goal.returns-then-count-gt-LONGEST_COPY-clause-changed
returns-then-count-gt-LONGEST_COPY-clause-changed c w is =
    rw c.without_change.ensures (refused_as w _ BadArgument (long_in c.args.self.now w is c.args.hart c.args.address c.args.count (omega (arith, c.if-count-gt-LONGEST_COPY.true))))

pub returns-then-count-gt-LONGEST_COPY-clause-tables : goal.returns-then-count-gt-LONGEST_COPY-clause-tables
returns-then-count-gt-LONGEST_COPY-clause-tables c w is = same_places c.args.self.now c.args.self.now _ _ (refl, refl)

pub returns-in-Err-clause-made : goal.returns-in-Err-clause-made
returns-in-Err-clause-made c w is =
    rw c.without_change-in-Err.ensures (refused c.args.self.now w is c.in-Err.refusal _
    (proper_in c.args.self.now w is c.args.hart c.args.address c.args.count (omega (arith, c.if-count-gt-LONGEST_COPY.false)) ∙ c.in-Err.ensures.refused w _ is))

pub returns-in-Err-clause-changed : goal.returns-in-Err-clause-changed
returns-in-Err-clause-changed c w is =
    rw c.without_change-in-Err.ensures (refused_as w _ c.in-Err.refusal
    (proper_in c.args.self.now w is c.args.hart c.args.address c.args.count (omega (arith, c.if-count-gt-LONGEST_COPY.false)) ∙ c.in-Err.ensures.refused w _ is))

pub returns-in-Err-clause-tables : goal.returns-in-Err-clause-tables
returns-in-Err-clause-tables c w is = same_places c.args.self.now c.args.self.now _ _ (refl, refl)

pub copy_in_slot-requires-clause-world : goal.copy_in_slot-requires-clause-world
copy_in_slot-requires-clause-world c = let r = c.requires.world in (r.0, c.args.hart, r.1, c.in-Ok.ensures.there r.0 r.1)

pub returns-clause-made : goal.returns-clause-made
returns-clause-made c w is =
    let k = c.in-Ok.ensures.there w is in
    subst (λ (o : StepOutcome). IsModelOutcome c.copy_in_slot.new.self c.copy_in_slot.result.reply o) (sym (step_in c.args.self.now w is c.args.hart c.in-Ok.slot k c.args.address c.args.count (omega (arith, c.if-count-gt-LONGEST_COPY.false))))
    (c.copy_in_slot.ensures.made w c.args.hart is k)

pub returns-clause-changed : goal.returns-clause-changed
returns-clause-changed c w is =
    let k = c.in-Ok.ensures.there w is in
    subst (λ (o : StepOutcome). AreMarked w o c.copy_in_slot.result.changed c.copy_in_slot.result.born) (sym (step_in c.args.self.now w is c.args.hart c.in-Ok.slot k c.args.address c.args.count (omega (arith, c.if-count-gt-LONGEST_COPY.false))))
    (c.copy_in_slot.ensures.changed w c.args.hart is k)

pub returns-clause-tables : goal.returns-clause-tables
returns-clause-tables c w is =
    let k = c.in-Ok.ensures.there w is in
    subst (λ (o : StepOutcome). KeepsTables c.args.self.now c.copy_in_slot.new.self w.slots (o.world).slots) (sym (step_in c.args.self.now w is c.args.hart c.in-Ok.slot k c.args.address c.args.count (omega (arith, c.if-count-gt-LONGEST_COPY.false))))
    (c.copy_in_slot.ensures.tables w c.args.hart is k)
