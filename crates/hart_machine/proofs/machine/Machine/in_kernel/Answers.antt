use Rattle.std.proofs.Common.{◌∙◌, ap, inl, inr, not, sym}
use Rattle.std.specs.Bool.{beq}
use Rattle.hart_machine.specs.Harts.{hart_of}
use Rattle.hart_machine.proofs.Calling.{is_in_kernel, kernel_has_slot, not_differing, not_in_kernel}
use Rattle.hart_machine.proofs.HartSteps.{has_hart, no_hart, no_place, phase_placed, slot_placed, without_hart}
use Rattle.hart_machine.proofs.Trapping.{slot_there}
use Rattle.hart_machine.proofs.machine.Machine.in_kernel.Goals as goal
use Rattle.hart_machine.proofs.machine.Machine.in_kernel.Goals.{then-not-is_kernel-via-then-not-is_kernel, then-not-is_kernel-via-else-not-is_kernel+then-awaits_service-waits}

pub returns-in_default-clause-refused : goal.returns-in_default-clause-refused
returns-in_default-clause-refused c = λ w run is. without_hart w c.args.hart _ _ _ _ (no_hart c.args.self.now w is c.args.hart (no_place c.args.self.now.harts.items c.args.hart (sym c.in_default.is ∙ c.phase_and_slot.ensures)))

pub returns-then-not-is_kernel-clause-refused : goal.returns-then-not-is_kernel-clause-refused
returns-then-not-is_kernel-clause-refused c = λ w run is.
    let has = has_hart c.args.self.now w is c.args.hart c.in-Some.phase (phase_placed _ c.in-Some.phase c.in-Some.on (sym c.in-Some.is ∙ c.phase_and_slot.ensures)) in
    not_in_kernel c.args.self.now w is c.args.hart c.in-Some.phase has c.args.waits run (elim c.then-not-is_kernel.branch [
      | then-not-is_kernel-via-then-not-is_kernel b ↦ inl (sym c.is_kernel.ensures ∙ b.if-not-is_kernel.true)
      | then-not-is_kernel-via-else-not-is_kernel+then-awaits_service-waits b ↦ inr (ap (λ z. not (beq z c.args.waits)) (sym (b.awaits_service.ensures w (hart_of has.hart) is (slot_there c.args.self.now w is c.args.hart c.in-Some.phase has _ (slot_placed _ c.in-Some.phase c.in-Some.on (sym c.in-Some.is ∙ c.phase_and_slot.ensures))))) ∙ b.if-awaits_service-waits.true)
    ])

pub returns-in_default-on-clause-refused : goal.returns-in_default-on-clause-refused
returns-in_default-on-clause-refused c = λ w run is.
    let has = has_hart c.args.self.now w is c.args.hart c.in-Some.phase (phase_placed _ c.in-Some.phase c.in-Some.on (sym c.in-Some.is ∙ c.phase_and_slot.ensures)) in
    absurd (kernel_has_slot c.args.self.now w is c.args.hart c.in-Some.phase has c.args.waits (sym c.is_kernel.ensures ∙ c.if-not-is_kernel.false)
    (slot_there c.args.self.now w is c.args.hart c.in-Some.phase has _ (sym c.in_default-on.is ∙ slot_placed _ c.in-Some.phase c.in-Some.on (sym c.in-Some.is ∙ c.phase_and_slot.ensures))))

pub returns-clause-there : goal.returns-clause-there
returns-clause-there c = λ w is.
    let has = has_hart c.args.self.now w is c.args.hart c.in-Some.phase (phase_placed _ c.in-Some.phase c.in-Some.on (sym c.in-Some.is ∙ c.phase_and_slot.ensures)) in
    is_in_kernel c.args.self.now w is c.args.hart c.in-Some.phase has c.args.waits (sym c.is_kernel.ensures ∙ c.if-not-is_kernel.false)
    (sym (c.awaits_service.ensures w (hart_of has.hart) is (slot_there c.args.self.now w is c.args.hart c.in-Some.phase has _ (slot_placed _ c.in-Some.phase c.in-Some.on (sym c.in-Some.is ∙ c.phase_and_slot.ensures)))) ∙ not_differing c.awaits_service.result c.args.waits c.if-awaits_service-waits.false) c.in-Some-on.slot
    (slot_there c.args.self.now w is c.args.hart c.in-Some.phase has _ (sym c.in-Some-on.is ∙ slot_placed _ c.in-Some.phase c.in-Some.on (sym c.in-Some.is ∙ c.phase_and_slot.ensures)))
