use Rattle.std.proofs.Common.{◌∙◌, ap, inl, inr, sym}
use Rattle.process_model.specs.declared.reply.Refusal.TheVariants.{BadArgument}
use Rattle.hart_machine.specs.declared.hart.Hart.{Hart}
use Rattle.hart_machine.proofs.BufferSteps.{same_buffers}
use Rattle.hart_machine.proofs.HartSteps.{has_hart, no_hart, refused, switch_refused, switches, without_hart}
use Rattle.hart_machine.proofs.machine.Machine.switch.Goals as goal
use Rattle.hart_machine.proofs.machine.Machine.switch.Goals.{then-not-may_switch-via-then-not-may_switch, then-not-may_switch-via-else-not-may_switch+then-not-can_run}

pub returns-in_default-clause-made : goal.returns-in_default-clause-made
returns-in_default-clause-made c w is =
    refused c.args.self.now w is BadArgument _ (without_hart w c.args.hart _ _ _ _ (no_hart c.args.self.now w is c.args.hart (sym c.in_default.is ∙ c.phase_of.ensures)))

pub returns-then-not-may_switch-clause-made : goal.returns-then-not-may_switch-clause-made
returns-then-not-may_switch-clause-made c w is =
    let has = has_hart c.args.self.now w is c.args.hart c.in-Some.phase (sym c.in-Some.is ∙ c.phase_of.ensures) in
    switch_refused c.args.self.now w is c.args.hart c.args.slot c.in-Some.phase has (elim c.then-not-may_switch.branch [
      | then-not-may_switch-via-then-not-may_switch b ↦ inl (sym c.may_switch.ensures ∙ b.if-not-may_switch.true)
      | then-not-may_switch-via-else-not-may_switch+then-not-can_run b ↦ inr (sym (b.can_run.ensures w is) ∙ b.if-not-can_run.true)
    ])

pub index_mut-requires : goal.index_mut-requires
index_mut-requires c =
    let r = c.requires.world in
    let has = has_hart c.args.self.now r.0 r.1 c.args.hart c.in-Some.phase (sym c.in-Some.is ∙ c.phase_of.ensures) in
    has.within

pub returns-clause-made : goal.returns-clause-made
returns-clause-made c w is =
    let has = has_hart c.args.self.now w is c.args.hart c.in-Some.phase (sym c.in-Some.is ∙ c.phase_of.ensures) in
    switches c.args.self.now w is c.args.hart c.args.slot c.in-Some.phase has c.index_mut.result.now c.take.new.self c.index_mut.ensures.value c.take.ensures
    (sym c.may_switch.ensures ∙ c.if-not-may_switch.false) (sym (c.can_run.ensures w is) ∙ c.if-not-can_run.false)

pub returns-clause-buffers : goal.returns-clause-buffers
returns-clause-buffers c = same_buffers c.args.self.now c.args.hart c.index_mut.result.now c.take.new.self c.index_mut.ensures.value (ap (λ (x : Hart). x.buffer) c.take.ensures)
