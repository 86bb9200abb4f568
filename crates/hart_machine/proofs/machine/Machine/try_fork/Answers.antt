use Rattle.std.proofs.Common.{◌∙◌, ◌<◌, ◌∷◌, Some, ap, refl, subst, sym}
use Rattle.std.specs.Prelude.{slice_set}
use Rattle.address_space.specs.Agreement.{IsSpace}
use Rattle.frame_store.specs.Laws.{KeepsSeats}
use Rattle.frame_store.specs.Plain.{PlainState, PlainStateInvariant}
use Rattle.process_model.specs.Frames.{fork_need}
use Rattle.process_model.specs.Residence.{child_of, marked}
use Rattle.std.specs.Vec.{with_item}
use Rattle.std.proofs.lemmas.Option.{get_or_from_slice_get, slice_get_within}
use Rattle.std.proofs.lemmas.Result.{err_from_is_err_and}
use Rattle.process_model.specs.Steps.{plain_step}
use Rattle.process_model.specs.World.{refuses}
use Rattle.process_model.specs.declared.reply.Refusal.TheVariants.{NoFrame, NoSlot}
use Rattle.process_model.specs.declared.step.Step.TheVariants as step
use Rattle.hart_machine.specs.ForkEffect.{in_slot}
use Rattle.hart_machine.specs.SlotProcesses.{body_in, IsSlotProcess, view_of}
use Rattle.hart_machine.specs.declared.machine.Machine.{Machine}
use Rattle.hart_machine.specs.declared.slot_process.SlotProcess.{SlotProcess}
use Rattle.hart_machine.proofs.AccessingWorlds.{seat_fits, slot_has}
use Rattle.hart_machine.proofs.ForkOutcomes.{fork_sets, forks_dry, forks_wet, no_frame, no_slot, without_slot}
use Rattle.hart_machine.proofs.HartSteps.{process_at, refused}
use Rattle.hart_machine.proofs.StartSeats.{few_shared}
use Rattle.hart_machine.proofs.StartSlots.{free_is_empty, free_place, free_within}
use Rattle.hart_machine.proofs.KeptLeaves.{followed_same, slot_keeps_by, staying_frames, was_alike}
use Rattle.hart_machine.proofs.KeptTables.{one_below, same_places, same_tables, then_born}
use Rattle.hart_machine.proofs.MarkedCalls.{tells_marks}
use Rattle.hart_machine.proofs.SlotMarks.{fork_marks, refused_as}
use Rattle.hart_machine.proofs.machine.Machine.try_fork.Goals as goal

pub returns-in_err-slot-clause-made : goal.returns-in_err-slot-clause-made
returns-in_err-slot-clause-made c w is =
    let told = err_from_is_err_and c.from_residual.result c.from_residual.ensures.1 in
    rw told.1 (refused c.args.self.now w is told.0 _ (c.in_err-slot.ensures.refused w _ is ∙ ap (refuses w) (sym told.2)))

pub returns-in_default-clause-made : goal.returns-in_default-clause-made
returns-in_default-clause-made c w is =
    without_slot c.args.self.now w is c.args.hart c.in_ok-slot.slot (c.in_ok-slot.ensures.there w is) (sym (c.free_slot.ensures w is) ∙ c.in_default.is)

pub index_mut-requires : goal.index_mut-requires
index_mut-requires c =
    let m = c.args.self.now in
    let r = c.requires.world in
    let caller = c.in_ok-slot.ensures.there r.0 r.1 in
    subst (λ n. c.in_ok-slot.slot < n) (sym m.slots.ok.0) (slice_get_within m.slots.items c.in_ok-slot.slot _ caller.place)

pub unreachable-requires : goal.unreachable-requires
unreachable-requires c =
    let r = c.requires.world in
    let caller = c.in_ok-slot.ensures.there r.0 r.1 in
    let read = get_or_from_slice_get c.args.self.now.slots.items c.in_ok-slot.slot (Some caller.slot_process) _ caller.place in
    let both = sym c.in_default-index_mut.is ∙ c.index_mut.ensures.value ∙ read in
    cc

pub settled_pages-settled-requires-clause-fits : goal.settled_pages-settled-requires-clause-fits
settled_pages-settled-requires-clause-fits c =
    let r = c.requires.world in
    let m = c.args.self.now in
    let s = c.in_ok-slot.slot in
    let caller = c.in_ok-slot.ensures.there r.0 r.1 in
    let x = c.in-Some-index_mut.slot_process in
    let there = slot_has m.slots.items s caller.slot_process x _ c.in-Some-index_mut.is c.index_mut.ensures.value caller.place in
    seat_fits m.frames m.kernel.seat m.slots.items s x there (r.1).invariant

pub settled_pages-settled-requires-clause-ready : goal.settled_pages-settled-requires-clause-ready
settled_pages-settled-requires-clause-ready c =
    let r = c.requires.world in
    let m = c.args.self.now in
    let s = c.in_ok-slot.slot in
    let caller = c.in_ok-slot.ensures.there r.0 r.1 in
    let x = c.in-Some-index_mut.slot_process in
    let there = slot_has m.slots.items s caller.slot_process x _ c.in-Some-index_mut.is c.index_mut.ensures.value caller.place in
    let found = process_at m r.0 r.1 s x there in
    ((r.1).tables s, found.0, found.2)

pub fork-requires-clause-fits : goal.fork-requires-clause-fits
fork-requires-clause-fits c =
    let r = c.requires.world in
    let m = c.args.self.now in
    let s = c.in_ok-slot.slot in
    let caller = c.in_ok-slot.ensures.there r.0 r.1 in
    let x = c.in-Some-index_mut.slot_process in
    let there = slot_has m.slots.items s caller.slot_process x _ c.in-Some-index_mut.is c.index_mut.ensures.value caller.place in
    let u = c.settled_pages-settled in
    rw (u.ensures.same, u.ensures.frames) (seat_fits m.frames m.kernel.seat m.slots.items s x there (r.1).invariant)

pub fork-requires-clause-ready : goal.fork-requires-clause-ready
fork-requires-clause-ready c =
    let r = c.requires.world in
    let m = c.args.self.now in
    let s = c.in_ok-slot.slot in
    let caller = c.in_ok-slot.ensures.there r.0 r.1 in
    let x = c.in-Some-index_mut.slot_process in
    let there = slot_has m.slots.items s caller.slot_process x _ c.in-Some-index_mut.is c.index_mut.ensures.value caller.place in
    let u = c.settled_pages-settled in
    let found = process_at m r.0 r.1 s x there in
    rw u.ensures.same ((r.1).tables s, found.0, found.2)

pub fork-requires-clause-settled : goal.fork-requires-clause-settled
fork-requires-clause-settled c t p space =
    let u = c.settled_pages-settled.ensures in
    u.settled t p (subst (λ (z : SlotProcess). IsSpace (body_in z) t p) u.same space)

pub fork-requires-clause-few : goal.fork-requires-clause-few
fork-requires-clause-few c = rw (c.settled_pages-settled.ensures.same, c.settled_pages-settled.ensures.frames) (λ f held. let r = c.requires.world in few_shared c.args.self.now r.0 r.1 f)

pub returns-in_err-slot-clause-changed : goal.returns-in_err-slot-clause-changed
returns-in_err-slot-clause-changed c w is =
    let told = err_from_is_err_and c.from_residual.result c.from_residual.ensures.1 in
    rw told.1 (refused_as w (plain_step w (step.Fork c.args.hart)) told.0 (c.in_err-slot.ensures.refused w _ is ∙ ap (refuses w) (sym told.2)))

pub returns-in_err-slot-clause-tables : goal.returns-in_err-slot-clause-tables
returns-in_err-slot-clause-tables c w is = same_places c.args.self.now c.args.self.now _ _ (refl, refl)

pub returns-in_default-clause-changed : goal.returns-in_default-clause-changed
returns-in_default-clause-changed c w is =
    refused_as w (plain_step w (step.Fork c.args.hart)) NoSlot (no_slot c.args.self.now w is c.args.hart c.in_ok-slot.slot (c.in_ok-slot.ensures.there w is) (sym (c.free_slot.ensures w is) ∙ c.in_default.is))

pub returns-in_default-clause-tables : goal.returns-in_default-clause-tables
returns-in_default-clause-tables c w is = same_places c.args.self.now c.args.self.now _ _ (refl, refl)

pub returns-in_err-child-clause-made : goal.returns-in_err-child-clause-made
returns-in_err-child-clause-made c w is =
    let m = c.args.self.now in
    let s = c.in_ok-slot.slot in
    let caller = c.in_ok-slot.ensures.there w is in
    let x = c.in-Some-index_mut.slot_process in
    let there = slot_has m.slots.items s caller.slot_process x _ c.in-Some-index_mut.is c.index_mut.ensures.value caller.place in
    let to = sym (c.free_slot.ensures w is) ∙ c.in-Some.is in
    let u = c.settled_pages-settled in
    let y = c.fork.new in
    let e = c.in_err-child.ensures in
    let told = err_from_is_err_and c.from_residual-in_err-child.result c.from_residual-in_err-child.ensures.1 in
    rw (told.1, told.2, e.dry.0) (forks_dry m w is c.args.hart s caller x y.self there y.frames c.in-Some.place to
    (λ t p a. subst (λ (b : PlainState). b.free < fork_need p) u.ensures.frames (e.dry.1 t p (subst (λ (z : SlotProcess). IsSlotProcess z t p) (sym u.ensures.same) a)))
    (λ t p a. e.whole t p (subst (λ (z : SlotProcess). IsSlotProcess z t p) (sym u.ensures.same) a))
    (subst (λ (z : SlotProcess). KeepsSeats PlainStateInvariant m.frames (view_of z) y.frames (view_of y.self)) u.ensures.same (subst (λ (b : PlainState). KeepsSeats PlainStateInvariant b (view_of u.new.self) y.frames (view_of y.self)) u.ensures.frames e.keeps_refused)))

pub returns-in_err-child-clause-changed : goal.returns-in_err-child-clause-changed
returns-in_err-child-clause-changed c w is =
    let m = c.args.self.now in
    let s = c.in_ok-slot.slot in
    let caller = c.in_ok-slot.ensures.there w is in
    let x = c.in-Some-index_mut.slot_process in
    let there = slot_has m.slots.items s caller.slot_process x _ c.in-Some-index_mut.is c.index_mut.ensures.value caller.place in
    let to = sym (c.free_slot.ensures w is) ∙ c.in-Some.is in
    let u = c.settled_pages-settled in
    let y = c.fork.new in
    let e = c.in_err-child.ensures in
    let told = err_from_is_err_and c.from_residual-in_err-child.result c.from_residual-in_err-child.ensures.1 in
    rw told.1 (refused_as w (plain_step w (step.Fork c.args.hart)) NoFrame (no_frame m w is c.args.hart s caller x y.self there y.frames c.in-Some.place to
    (λ t p a. subst (λ (b : PlainState). b.free < fork_need p) u.ensures.frames (e.dry.1 t p (subst (λ (z : SlotProcess). IsSlotProcess z t p) (sym u.ensures.same) a)))))

pub returns-in_err-child-clause-tables : goal.returns-in_err-child-clause-tables
returns-in_err-child-clause-tables c w is =
    let m = c.args.self.now in
    let s = c.in_ok-slot.slot in
    let caller = c.in_ok-slot.ensures.there w is in
    let x = c.in-Some-index_mut.slot_process in
    let there = slot_has m.slots.items s caller.slot_process x _ c.in-Some-index_mut.is c.index_mut.ensures.value caller.place in
    let to = sym (c.free_slot.ensures w is) ∙ c.in-Some.is in
    let u = c.settled_pages-settled in
    let y = c.fork.new in
    same_tables m _ _ _ (one_below m _ s x y.self there refl refl (λ t p a. (p, c.in_err-child.ensures.whole t p (subst (λ (z : SlotProcess). IsSlotProcess z t p) (sym u.ensures.same) a))))

pub index_mut-requires-2 : goal.index_mut-requires-2
index_mut-requires-2 c =
    let r = c.requires.world in
    free_within c.args.self.now r.0 r.1 c.in-Some.place (sym (c.free_slot.ensures r.0 r.1) ∙ c.in-Some.is)

pub returns-clause-made : goal.returns-clause-made
returns-clause-made c w is =
    let m = c.args.self.now in
    let s = c.in_ok-slot.slot in
    let caller = c.in_ok-slot.ensures.there w is in
    let x = c.in-Some-index_mut.slot_process in
    let there = slot_has m.slots.items s caller.slot_process x _ c.in-Some-index_mut.is c.index_mut.ensures.value caller.place in
    let to = sym (c.free_slot.ensures w is) ∙ c.in-Some.is in
    let u = c.settled_pages-settled in
    let y = c.fork.new in
    let e = c.in_ok-child.ensures in
    rw (c.space.ensures, c.copied-layout.ensures) (forks_wet m w is c.args.hart s caller x y.self there y.frames c.in-Some.place to (in_slot c.in_ok-child.child y.self.space.layout)
    (λ t p a. e.forked t p (subst (λ (z : SlotProcess). IsSlotProcess z t p) (sym u.ensures.same) a))
    (λ t p a few. e.enough t p (subst (λ (z : SlotProcess). IsSlotProcess z t p) (sym u.ensures.same) a) (subst (λ (b : PlainState). b.free < fork_need p) (sym u.ensures.frames) few))
    (λ others rule. e.keeps others (subst (λ (z : SlotProcess). PlainStateInvariant u.new.frames (view_of z ∷ others)) (sym u.ensures.same) (subst (λ (b : PlainState). PlainStateInvariant b (view_of x ∷ others)) (sym u.ensures.frames) rule))))

pub returns-clause-changed : goal.returns-clause-changed
returns-clause-changed c w is =
    let m = c.args.self.now in
    let s = c.in_ok-slot.slot in
    let caller = c.in_ok-slot.ensures.there w is in
    let x = c.in-Some-index_mut.slot_process in
    let there = slot_has m.slots.items s caller.slot_process x _ c.in-Some-index_mut.is c.index_mut.ensures.value caller.place in
    let to = sym (c.free_slot.ensures w is) ∙ c.in-Some.is in
    let u = c.settled_pages-settled in
    let y = c.fork.new in
    let e = c.in_ok-child.ensures in
    let q = process_at m w is s x there in
    let before = subst (λ (z : SlotProcess). IsSlotProcess z (is.tables s) q.0) (sym u.ensures.same) q.2 in
    let k = c.has_unmarked-unmarked in
    let listed = u.ensures.settled (is.tables s) q.0 q.2.agrees in
    rw c.slot_if.ensures (fork_marks w (plain_step w (step.Fork c.args.hart)) s c.in-Some.place q.0 (marked q.0) (child_of q.0) k.result q.1 (free_is_empty w c.in-Some.place to)
    (fork_sets m w is c.args.hart s caller x y.self there y.frames c.in-Some.place to q.0 q.1 (λ few. e.enough (is.tables s) q.0 before (subst (λ (b : PlainState). b.free < fork_need q.0) (sym u.ensures.frames) few)))
    (tells_marks q.0 k.result (λ yes. k.ensures.some yes (is.tables s) q.0 before listed) (λ no_one. k.ensures.none no_one (is.tables s) q.0 before listed)))

pub returns-clause-tables : goal.returns-clause-tables
returns-clause-tables c w is =
    let m = c.args.self.now in
    let s = c.in_ok-slot.slot in
    let caller = c.in_ok-slot.ensures.there w is in
    let x = c.in-Some-index_mut.slot_process in
    let there = slot_has m.slots.items s caller.slot_process x _ c.in-Some-index_mut.is c.index_mut.ensures.value caller.place in
    let to = sym (c.free_slot.ensures w is) ∙ c.in-Some.is in
    let u = c.settled_pages-settled in
    let y = c.fork.new in
    let e = c.in_ok-child.ensures in
    let q = process_at m w is s x there in
    let before = subst (λ (z : SlotProcess). IsSlotProcess z (is.tables s) q.0) (sym u.ensures.same) q.2 in
    let has = e.forked (is.tables s) q.0 before in
    let frame = c.fork.ensures.trapframe ∙ ap (λ (z : SlotProcess). z.space.trapframe) u.ensures.same in
    let between : Machine = record m { slots = with_item m.slots s (Some y.self) } in
    let parent = slot_keeps_by m between w.slots (slice_set w.slots s (Some (marked q.0))) s x y.self q.0 (marked q.0) (is.tables s) has.after q.2 has.parent there q.1 refl refl refl
    (λ unchanged. followed_same x y.self (is.tables s) has.after q.0 (marked q.0) q.2 has.parent unchanged refl frame refl w.counter (λ n a at. is.counted s n q.0 a q.1 at)
    (λ n f z at low. let old = was_alike q.0 (marked q.0) unchanged n z at in has.on_parent n f old.0 old.1))
    (staying_frames x y.self (is.tables s) has.after q.0 (marked q.0) q.2 has.parent refl frame has.on_parent) in
    then_born m between _ w.slots _ _ c.in-Some.place _ (child_of q.0) parent (free_place m w is c.in-Some.place to) refl refl
    (fork_sets m w is c.args.hart s caller x y.self there y.frames c.in-Some.place to q.0 q.1 (λ few. e.enough (is.tables s) q.0 before (subst (λ (b : PlainState). b.free < fork_need q.0) (sym u.ensures.frames) few)))
