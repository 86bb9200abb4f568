use Rattle.std.proofs.Common.{◌∙◌, Some, ap, sym}
use Rattle.process_model.specs.declared.reply.Refusal.TheVariants.{BadArgument}
use Rattle.hart_machine.specs.Harts.{hart_of}
use Rattle.hart_machine.proofs.BufferChanges.{advanced_are}
use Rattle.hart_machine.proofs.HartSteps.{goes_on, hart_read, has_hart, next_refused, no_hart, no_place, phase_placed, refused, slot_low, slot_placed, without_hart}
use Rattle.hart_machine.proofs.Trapping.{slot_there}
use Rattle.hart_machine.proofs.machine.Machine.next.Goals as goal

pub returns-in_default-clause-made : goal.returns-in_default-clause-made
returns-in_default-clause-made c w is =
    refused c.args.self.now w is BadArgument _ (without_hart w c.args.hart _ _ _ _ (no_hart c.args.self.now w is c.args.hart (no_place c.args.self.now.harts.items c.args.hart (sym c.in_default.is ∙ c.phase_and_slot.ensures))))

pub returns-then-not-can_go_on-clause-made : goal.returns-then-not-can_go_on-clause-made
returns-then-not-can_go_on-clause-made c w is =
    let has = has_hart c.args.self.now w is c.args.hart c.in-Some.phase (phase_placed _ c.in-Some.phase c.in-Some.on (sym c.in-Some.is ∙ c.phase_and_slot.ensures)) in
    next_refused c.args.self.now w is c.args.hart c.in-Some.phase has (sym (c.can_go_on.ensures w (hart_of has.hart) is has.phased (slot_there c.args.self.now w is c.args.hart c.in-Some.phase has _ (slot_placed _ c.in-Some.phase c.in-Some.on (sym c.in-Some.is ∙ c.phase_and_slot.ensures)))) ∙ c.if-not-can_go_on.true)

pub index_mut-requires : goal.index_mut-requires
index_mut-requires c =
    let r = c.requires.world in
    let has = has_hart c.args.self.now r.0 r.1 c.args.hart c.in-Some.phase (phase_placed _ c.in-Some.phase c.in-Some.on (sym c.in-Some.is ∙ c.phase_and_slot.ensures)) in
    has.within

pub returns-clause-made : goal.returns-clause-made
returns-clause-made c w is =
    let has = has_hart c.args.self.now w is c.args.hart c.in-Some.phase (phase_placed _ c.in-Some.phase c.in-Some.on (sym c.in-Some.is ∙ c.phase_and_slot.ensures)) in
    goes_on c.args.self.now w is c.args.hart c.in-Some.phase has c.index_mut.result.now c.advance.new.self c.index_mut.ensures.value c.advance.ensures
    (sym (c.can_go_on.ensures w (hart_of has.hart) is has.phased (slot_there c.args.self.now w is c.args.hart c.in-Some.phase has _ (slot_placed _ c.in-Some.phase c.in-Some.on (sym c.in-Some.is ∙ c.phase_and_slot.ensures)))) ∙ c.if-not-can_go_on.false)

pub returns-clause-entries : goal.returns-clause-entries
returns-clause-entries c w is = advanced_are c.args.self.now c.args.hart c.index_mut.result.now c.advance.new.self c.index_mut.ensures.value is.tables is.kernel c.advance.ensures

pub advance-requires : goal.advance-requires
advance-requires c =
    let r = c.requires.world in
    let has = has_hart c.args.self.now r.0 r.1 c.args.hart c.in-Some.phase (phase_placed _ c.in-Some.phase c.in-Some.on (sym c.in-Some.is ∙ c.phase_and_slot.ensures)) in
    let x = c.index_mut.result.now in
    record { slot = slot_low c.args.self.now r.0 r.1 c.args.hart x (has.there ∙ ap Some (sym (hart_read c.args.self.now r.0 r.1 c.args.hart c.in-Some.phase has x c.index_mut.ensures.value))) }
