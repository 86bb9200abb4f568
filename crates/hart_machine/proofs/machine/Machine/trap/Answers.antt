use Rattle.std.proofs.Common.{◌<◌, ◌∙◌, None, ap, refl, sym, subst}
use Rattle.std.specs.Vec.{vec_len}
use Rattle.address_space.proofs.PendingAccess.{agrees_pending}
use Rattle.process_model.specs.declared.reply.Refusal.TheVariants.{BadArgument}
use Rattle.hart_machine.specs.Buffers.{buffer_of}
use Rattle.hart_machine.specs.declared.machine.Machine.{Machine}
use Rattle.hart_machine.proofs.BufferSteps.{same_buffers}
use Rattle.hart_machine.proofs.HartSteps.{has_hart, no_hart, no_place, phase_placed, refused, slot_placed, without_hart}
use Rattle.hart_machine.proofs.KeptTables.{nothing_moved, one_below}
use Rattle.hart_machine.proofs.Trapping.{slot_there, trap_refused, traps, user_has_slot, user_tenant}
use Rattle.hart_machine.proofs.machine.Machine.trap.Goals as goal

pub returns-in_default-clause-made : goal.returns-in_default-clause-made
returns-in_default-clause-made c w is =
    refused c.args.self.now w is BadArgument _ (without_hart w c.args.hart _ _ _ _ (no_hart c.args.self.now w is c.args.hart (no_place c.args.self.now.harts.items c.args.hart (sym c.in_default.is ∙ c.phase_and_slot.ensures))))

pub returns-then-not-is_user-clause-made : goal.returns-then-not-is_user-clause-made
returns-then-not-is_user-clause-made c w is =
    let has = has_hart c.args.self.now w is c.args.hart c.in-Some.phase (phase_placed _ c.in-Some.phase c.in-Some.on (sym c.in-Some.is ∙ c.phase_and_slot.ensures)) in
    trap_refused c.args.self.now w is c.args.hart c.in-Some.phase has (sym c.is_user.ensures ∙ c.if-not-is_user.true)

pub returns-in_default-on-clause-made : goal.returns-in_default-on-clause-made
returns-in_default-on-clause-made c w is =
    let has = has_hart c.args.self.now w is c.args.hart c.in-Some.phase (phase_placed _ c.in-Some.phase c.in-Some.on (sym c.in-Some.is ∙ c.phase_and_slot.ensures)) in
    absurd (user_has_slot c.args.self.now w is c.args.hart c.in-Some.phase has (sym c.is_user.ensures ∙ c.if-not-is_user.false)
    (slot_there c.args.self.now w is c.args.hart c.in-Some.phase has _ (sym c.in_default-on.is ∙ slot_placed _ c.in-Some.phase c.in-Some.on (sym c.in-Some.is ∙ c.phase_and_slot.ensures))))

pub set_pending-requires : goal.set_pending-requires
set_pending-requires c = record {
  there =
      let r = c.requires.world in
      let has = has_hart c.args.self.now r.0 r.1 c.args.hart c.in-Some.phase (phase_placed _ c.in-Some.phase c.in-Some.on (sym c.in-Some.is ∙ c.phase_and_slot.ensures)) in
      user_tenant c.args.self.now r.0 r.1 c.args.hart c.in-Some.phase has c.in-Some-on.slot
      (slot_there c.args.self.now r.0 r.1 c.args.hart c.in-Some.phase has _ (sym c.in-Some-on.is ∙ slot_placed _ c.in-Some.phase c.in-Some.on (sym c.in-Some.is ∙ c.phase_and_slot.ensures)));
}

pub index_mut-requires : goal.index_mut-requires
index_mut-requires c =
    let r = c.requires.world in
    let has = has_hart c.args.self.now r.0 r.1 c.args.hart c.in-Some.phase (phase_placed _ c.in-Some.phase c.in-Some.on (sym c.in-Some.is ∙ c.phase_and_slot.ensures)) in
    let t = user_tenant c.args.self.now r.0 r.1 c.args.hart c.in-Some.phase has c.in-Some-on.slot
    (slot_there c.args.self.now r.0 r.1 c.args.hart c.in-Some.phase has _ (sym c.in-Some-on.is ∙ slot_placed _ c.in-Some.phase c.in-Some.on (sym c.in-Some.is ∙ c.phase_and_slot.ensures))) in
    subst (λ (n : Machine). c.args.hart < vec_len n.harts) (sym (c.set_pending.ensures t.0 t.1)) has.within

pub returns-clause-made : goal.returns-clause-made
returns-clause-made c w is =
    let has = has_hart c.args.self.now w is c.args.hart c.in-Some.phase (phase_placed _ c.in-Some.phase c.in-Some.on (sym c.in-Some.is ∙ c.phase_and_slot.ensures)) in
    traps c.args.self.now w is c.args.hart c.in-Some.phase has c.in-Some-on.slot
    (slot_there c.args.self.now w is c.args.hart c.in-Some.phase has _ (sym c.in-Some-on.is ∙ slot_placed _ c.in-Some.phase c.in-Some.on (sym c.in-Some.is ∙ c.phase_and_slot.ensures))) (sym c.is_user.ensures ∙ c.if-not-is_user.false)
    c.set_pending.new.self c.index_mut.result.now c.set_pending.ensures c.index_mut.ensures.value

pub returns-clause-buffers : goal.returns-clause-buffers
returns-clause-buffers c h =
    let r = c.requires.world in
    let has = has_hart c.args.self.now r.0 r.1 c.args.hart c.in-Some.phase (phase_placed _ c.in-Some.phase c.in-Some.on (sym c.in-Some.is ∙ c.phase_and_slot.ensures)) in
    let t = user_tenant c.args.self.now r.0 r.1 c.args.hart c.in-Some.phase has c.in-Some-on.slot
    (slot_there c.args.self.now r.0 r.1 c.args.hart c.in-Some.phase has _ (sym c.in-Some-on.is ∙ slot_placed _ c.in-Some.phase c.in-Some.on (sym c.in-Some.is ∙ c.phase_and_slot.ensures))) in
    same_buffers c.set_pending.new.self c.args.hart c.index_mut.result.now _ c.index_mut.ensures.value refl h ∙ ap (λ (n : Machine). buffer_of n h) (c.set_pending.ensures t.0 t.1)

pub returns-in_default-clause-same_tables : goal.returns-in_default-clause-same_tables
returns-in_default-clause-same_tables c = nothing_moved c.args.self.now

pub returns-then-not-is_user-clause-same_tables : goal.returns-then-not-is_user-clause-same_tables
returns-then-not-is_user-clause-same_tables c = nothing_moved c.args.self.now

pub returns-in_default-on-clause-same_tables : goal.returns-in_default-on-clause-same_tables
returns-in_default-on-clause-same_tables c = nothing_moved c.args.self.now

pub returns-clause-same_tables : goal.returns-clause-same_tables
returns-clause-same_tables c =
    let m = c.args.self.now in
    let r = c.requires.world in
    let has = has_hart m r.0 r.1 c.args.hart c.in-Some.phase (phase_placed _ c.in-Some.phase c.in-Some.on (sym c.in-Some.is ∙ c.phase_and_slot.ensures)) in
    let t = user_tenant m r.0 r.1 c.args.hart c.in-Some.phase has c.in-Some-on.slot
    (slot_there m r.0 r.1 c.args.hart c.in-Some.phase has _ (sym c.in-Some-on.is ∙ slot_placed _ c.in-Some.phase c.in-Some.on (sym c.in-Some.is ∙ c.phase_and_slot.ensures))) in
    let n_is = c.set_pending.ensures t.0 t.1 in
    one_below m _ c.in-Some-on.slot t.0 (record t.0 { pending = None }) t.1 (ap (λ (n : Machine). n.slots.items) n_is) (ap (λ (n : Machine). n.kernel) n_is)
    (λ u p a. (record p { pending = None }, record { agrees = agrees_pending _ _ _ _ _ p a.agrees None; framed = a.framed; pending = refl; wide = tt }))
