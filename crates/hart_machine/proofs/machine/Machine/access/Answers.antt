use Rattle.std.proofs.Common.{◌∙◌, ap, inl, refl, sym}
use Rattle.std.proofs.lemmas.Option.{IfSome_then}
use Rattle.std.specs.Prelude.{is_ok}
use Rattle.process_model.specs.declared.reply.Reply.TheVariants.{Scalar}
use Rattle.sv39_entry.specs.declared.access.Mode.TheVariants.{User}
use Rattle.table_walk.specs.Leaves.{walk_answer}
use Rattle.hart_machine.proofs.ScalarReplies.{no_fault}
use Rattle.hart_machine.proofs.AccessingEntries.{user_served}
use Rattle.hart_machine.proofs.AccessSteps.{answers_access, faults_access, in_user, no_entry, no_user, no_width, nowhere}
use Rattle.hart_machine.proofs.BufferSteps.{same_buffers, same_harts}
use Rattle.hart_machine.proofs.KeptTables.{nothing_moved}
use Rattle.hart_machine.proofs.HartSteps.{has_hart, no_hart, no_place, phase_placed, process_at, slot_placed}
use Rattle.hart_machine.proofs.Trapping.{slot_there, user_has_slot, user_tenant}
use Rattle.hart_machine.proofs.machine.Machine.access.Goals as goal

pub returns-in_default-clause-made : goal.returns-in_default-clause-made
returns-in_default-clause-made c w buffered =
    let is = buffered.world in
    let a = c.args.request in
    nowhere c.args.self.now w is c.args.hart a.access a.va.0 a.width a.value c.args.via (no_hart c.args.self.now w is c.args.hart (no_place c.args.self.now.harts.items c.args.hart (sym c.in_default.is ∙ c.phase_and_slot.ensures)))

pub returns-then-not-is_width-clause-made : goal.returns-then-not-is_width-clause-made
returns-then-not-is_width-clause-made c w buffered =
    let is = buffered.world in
    let a = c.args.request in
    no_width c.args.self.now w is c.args.hart a.access a.va.0 a.width a.value c.args.via (sym c.is_width.ensures ∙ c.if-not-is_width.true)

pub returns-then-not-is_user-clause-made : goal.returns-then-not-is_user-clause-made
returns-then-not-is_user-clause-made c w buffered =
    let is = buffered.world in
    let a = c.args.request in
    let has = has_hart c.args.self.now w is c.args.hart c.in-Some.phase (phase_placed _ c.in-Some.phase c.in-Some.on (sym c.in-Some.is ∙ c.phase_and_slot.ensures)) in
    no_user c.args.self.now w is c.args.hart a.access a.va.0 a.width a.value c.args.via c.in-Some.phase has (sym c.is_width.ensures ∙ c.if-not-is_width.false) (sym c.is_user.ensures ∙ c.if-not-is_user.true)

pub returns-in_default-on-clause-made : goal.returns-in_default-on-clause-made
returns-in_default-on-clause-made c w buffered =
    let is = buffered.world in
    let has = has_hart c.args.self.now w is c.args.hart c.in-Some.phase (phase_placed _ c.in-Some.phase c.in-Some.on (sym c.in-Some.is ∙ c.phase_and_slot.ensures)) in
    absurd (user_has_slot c.args.self.now w is c.args.hart c.in-Some.phase has (sym c.is_user.ensures ∙ c.if-not-is_user.false)
    (slot_there c.args.self.now w is c.args.hart c.in-Some.phase has _ (sym c.in_default-on.is ∙ slot_placed _ c.in-Some.phase c.in-Some.on (sym c.in-Some.is ∙ c.phase_and_slot.ensures))))

pub returns-in_default-by_entry-clause-made : goal.returns-in_default-by_entry-clause-made
returns-in_default-by_entry-clause-made c w buffered =
    let is = buffered.world in
    let a = c.args.request in
    let m = c.args.self.now in
    let has = has_hart m w is c.args.hart c.in-Some.phase (phase_placed _ c.in-Some.phase c.in-Some.on (sym c.in-Some.is ∙ c.phase_and_slot.ensures)) in
    let well = sym c.is_width.ensures ∙ c.if-not-is_width.false in
    let user = sym c.is_user.ensures ∙ c.if-not-is_user.false in
    let on = slot_there m w is c.args.hart c.in-Some.phase has _ (sym c.in-Some-on.is ∙ slot_placed _ c.in-Some.phase c.in-Some.on (sym c.in-Some.is ∙ c.phase_and_slot.ensures)) in
    no_entry m w is c.args.hart a.access a.va.0 a.width a.value c.args.via c.in-Some.phase has well user m is
    (sym (c.outcome_by_entry-by_entry.ensures.serves w has.hart is has.there) ∙ ap is_ok c.in_default-by_entry.is)

pub access_slot-reply-requires-clause-ready : goal.access_slot-reply-requires-clause-ready
access_slot-reply-requires-clause-ready c =
    let a = c.args.request in
    let m = c.args.self.now in
    let r = c.requires.world in
    let has = has_hart m r.0 (r.1).world c.args.hart c.in-Some.phase (phase_placed _ c.in-Some.phase c.in-Some.on (sym c.in-Some.is ∙ c.phase_and_slot.ensures)) in
    let well = sym c.is_width.ensures ∙ c.if-not-is_width.false in
    let user = sym c.is_user.ensures ∙ c.if-not-is_user.false in
    let on = slot_there m r.0 (r.1).world c.args.hart c.in-Some.phase has _ (sym c.in-Some-on.is ∙ slot_placed _ c.in-Some.phase c.in-Some.on (sym c.in-Some.is ∙ c.phase_and_slot.ensures)) in
    let s = c.in-Some-on.slot in
    let t = user_tenant m r.0 (r.1).world c.args.hart c.in-Some.phase has s on in
    let runs = in_user m r.0 (r.1).world c.args.hart a.access a.va.0 a.width a.value c.args.via c.in-Some.phase has well user in
    let walked = IfSome_then c.in-Ok.by_entry c.in-Ok.ensures.walk (λ z told.
    user_served m.kernel.scheme ((r.1).world).tables ((r.1).world).kernel has.hart s a.va.0 a.access User z runs on (told r.0 r.1 has.hart has.there (inl runs))
    ∙ ap (λ k. walk_answer k (((r.1).world).tables s) a.va.0 a.access User) ((r.1).world).scheme) in
    (r.0, (r.1).world, t.0, t.1, walked)

pub index_mut-requires : goal.index_mut-requires
index_mut-requires c =
    let r = c.requires.world in
    let has = has_hart c.args.self.now r.0 (r.1).world c.args.hart c.in-Some.phase (phase_placed _ c.in-Some.phase c.in-Some.on (sym c.in-Some.is ∙ c.phase_and_slot.ensures)) in
    rw c.access_slot-reply.ensures.harts has.within

pub returns-in-Fault-clause-made : goal.returns-in-Fault-clause-made
returns-in-Fault-clause-made c w buffered =
    let is = buffered.world in
    let a = c.args.request in
    let m = c.args.self.now in
    let s = c.in-Some-on.slot in
    let has = has_hart m w is c.args.hart c.in-Some.phase (phase_placed _ c.in-Some.phase c.in-Some.on (sym c.in-Some.is ∙ c.phase_and_slot.ensures)) in
    let well = sym c.is_width.ensures ∙ c.if-not-is_width.false in
    let user = sym c.is_user.ensures ∙ c.if-not-is_user.false in
    let on = slot_there m w is c.args.hart c.in-Some.phase has _ (sym c.in-Some-on.is ∙ slot_placed _ c.in-Some.phase c.in-Some.on (sym c.in-Some.is ∙ c.phase_and_slot.ensures)) in
    let runs = in_user m w is c.args.hart a.access a.va.0 a.width a.value c.args.via c.in-Some.phase has well user in
    let t = user_tenant m w is c.args.hart c.in-Some.phase has s on in
    let q = process_at m w is s t.0 t.1 in
    let walked = IfSome_then c.in-Ok.by_entry c.in-Ok.ensures.walk (λ z told.
    user_served m.kernel.scheme is.tables is.kernel has.hart s a.va.0 a.access User z runs on (told w buffered has.hart has.there (inl runs))
    ∙ ap (λ k. walk_answer k (is.tables s) a.va.0 a.access User) is.scheme) in
    faults_access m w is c.args.hart a.access a.va.0 a.width a.value c.args.via c.in-Some.phase has well user s on
    (sym (c.outcome_by_entry-by_entry.ensures.serves w has.hart is has.there) ∙ ap is_ok c.in-Ok.is) q.0 q.1 c.access_slot-reply.new.self c.access_slot-reply.ensures.harts (Scalar c.access_slot-reply.result)
    (c.access_slot-reply.ensures.made w is q.0 q.1 walked) c.in-Fault.field-0 (ap Scalar c.in-Fault.is) c.index_mut.result.now c.index_mut.ensures.value

pub returns-in-Fault-clause-buffers : goal.returns-in-Fault-clause-buffers
returns-in-Fault-clause-buffers c h =
    same_buffers c.access_slot-reply.new.self c.args.hart c.index_mut.result.now _ c.index_mut.ensures.value refl h
    ∙ same_harts c.args.self.now c.access_slot-reply.new.self c.access_slot-reply.ensures.harts h

pub returns-in_default-reply-clause-made : goal.returns-in_default-reply-clause-made
returns-in_default-reply-clause-made c w buffered =
    let is = buffered.world in
    let a = c.args.request in
    let m = c.args.self.now in
    let s = c.in-Some-on.slot in
    let has = has_hart m w is c.args.hart c.in-Some.phase (phase_placed _ c.in-Some.phase c.in-Some.on (sym c.in-Some.is ∙ c.phase_and_slot.ensures)) in
    let well = sym c.is_width.ensures ∙ c.if-not-is_width.false in
    let user = sym c.is_user.ensures ∙ c.if-not-is_user.false in
    let on = slot_there m w is c.args.hart c.in-Some.phase has _ (sym c.in-Some-on.is ∙ slot_placed _ c.in-Some.phase c.in-Some.on (sym c.in-Some.is ∙ c.phase_and_slot.ensures)) in
    let runs = in_user m w is c.args.hart a.access a.va.0 a.width a.value c.args.via c.in-Some.phase has well user in
    let t = user_tenant m w is c.args.hart c.in-Some.phase has s on in
    let q = process_at m w is s t.0 t.1 in
    let walked = IfSome_then c.in-Ok.by_entry c.in-Ok.ensures.walk (λ z told.
    user_served m.kernel.scheme is.tables is.kernel has.hart s a.va.0 a.access User z runs on (told w buffered has.hart has.there (inl runs))
    ∙ ap (λ k. walk_answer k (is.tables s) a.va.0 a.access User) is.scheme) in
    answers_access m w is c.args.hart a.access a.va.0 a.width a.value c.args.via c.in-Some.phase has well user s on
    (sym (c.outcome_by_entry-by_entry.ensures.serves w has.hart is has.there) ∙ ap is_ok c.in-Ok.is) q.0 q.1 c.access_slot-reply.new.self c.access_slot-reply.ensures.harts (Scalar c.access_slot-reply.result)
    (c.access_slot-reply.ensures.made w is q.0 q.1 walked) (no_fault c.access_slot-reply.result c.in_default-reply.not-Fault)

pub returns-in_default-clause-same_tables : goal.returns-in_default-clause-same_tables
returns-in_default-clause-same_tables c = nothing_moved c.args.self.now

pub returns-then-not-is_width-clause-same_tables : goal.returns-then-not-is_width-clause-same_tables
returns-then-not-is_width-clause-same_tables c = nothing_moved c.args.self.now

pub returns-then-not-is_user-clause-same_tables : goal.returns-then-not-is_user-clause-same_tables
returns-then-not-is_user-clause-same_tables c = nothing_moved c.args.self.now

pub returns-in_default-on-clause-same_tables : goal.returns-in_default-on-clause-same_tables
returns-in_default-on-clause-same_tables c = nothing_moved c.args.self.now

pub returns-in_default-by_entry-clause-same_tables : goal.returns-in_default-by_entry-clause-same_tables
returns-in_default-by_entry-clause-same_tables c = nothing_moved c.args.self.now

pub returns-in-Fault-clause-same_tables : goal.returns-in-Fault-clause-same_tables
returns-in-Fault-clause-same_tables c = let all = c.access_slot-reply.ensures.same_tables in record { many = all.many; kernel = all.kernel; below = all.below }

pub returns-in_default-reply-clause-same_tables : goal.returns-in_default-reply-clause-same_tables
returns-in_default-reply-clause-same_tables c = c.access_slot-reply.ensures.same_tables
