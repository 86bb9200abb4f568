use Rattle.std.proofs.Common.{◌≡◌, ◌∙◌, ◌<◌, true, false, Some, ap, arith, refl, subst, sym, ◌≤◌}
use Rattle.std.specs.Prelude.{Err, Ok}
use Rattle.std.proofs.lemmas.Option.{get_or_from_slice_get, slice_get_within}
use Rattle.std.proofs.lemmas.Result.{err_from_is_err_and}
use Rattle.process_model.specs.ImageProcess.{process_of}
use Rattle.process_model.specs.Steps.{plain_step}
use Rattle.process_model.specs.World.{refuses}
use Rattle.process_model.specs.declared.reply.Refusal.TheVariants as refusal
use Rattle.process_model.specs.declared.step.Step.TheVariants as step
use Rattle.process_model.specs.Frames.{exec_need}
use Rattle.hart_machine.proofs.AccessingWorlds.{seat_fits, slot_has}
use Rattle.hart_machine.proofs.Executes.{bad_image, exec_dry, exec_sets, executes, no_image, judged_is}
use Rattle.hart_machine.proofs.HartSteps.{process_at, refused}
use Rattle.hart_machine.proofs.KeptLeaves.{followed_frames, slot_keeps_by}
use Rattle.hart_machine.proofs.KeptTables.{one_below, same_places, same_tables}
use Rattle.hart_machine.proofs.MarkedCalls.{exec_changes}
use Rattle.hart_machine.proofs.SlotMarks.{refused_as, set_marks}
use Rattle.hart_machine.proofs.StartedPages.{copies_above, loaded_scheme}
use Rattle.hart_machine.proofs.machine.Machine.try_exec.Goals as goal
use Rattle.hart_machine.specs.SlotProcesses.{IsSlotProcess}
use Rattle.exec_segments.specs.Loads.{loads_in}

pub returns-in_err-slot-clause-made : goal.returns-in_err-slot-clause-made
returns-in_err-slot-clause-made c w is =
    let told = err_from_is_err_and c.from_residual.result c.from_residual.ensures.1 in
    rw told.1 (refused c.args.self.now w is told.0 _ (c.in_err-slot.ensures.refused w _ is ∙ ap (refuses w) (sym told.2)))

pub returns-in-Err-clause-made : goal.returns-in-Err-clause-made
returns-in-Err-clause-made c w is =
    no_image c.args.self.now w is c.args.hart c.in_ok-slot.slot (c.in_ok-slot.ensures.there w is) c.args.image c.in-Err.part (judged_is c.args.self.now w is c.args.image (sym (c.judged.ensures.loads) ∙ ap loads_in c.in-Err.is))

pub index_mut-requires : goal.index_mut-requires
index_mut-requires c =
    let m = c.args.self.now in
    let r = c.requires.world in
    let caller = c.in_ok-slot.ensures.there r.0 r.1 in
    subst (λ n. c.in_ok-slot.slot < n) (sym m.slots.ok.0) (slice_get_within m.slots.items c.in_ok-slot.slot _ caller.place)

pub unreachable-requires : goal.unreachable-requires
unreachable-requires c =
    let r = c.requires.world in
    let caller = c.in_ok-slot.ensures.there r.0 r.1 in
    let both = sym c.in_default.is ∙ c.index_mut.ensures.value ∙ get_or_from_slice_get c.args.self.now.slots.items c.in_ok-slot.slot (Some caller.slot_process) _ caller.place in
    cc

pub exec-requires-clause-fits : goal.exec-requires-clause-fits
exec-requires-clause-fits c =
    let m = c.args.self.now in
    let r = c.requires.world in
    let caller = c.in_ok-slot.ensures.there r.0 r.1 in
    let there = slot_has m.slots.items c.in_ok-slot.slot caller.slot_process c.in-Some.slot_process _ c.in-Some.is c.index_mut.ensures.value caller.place in
    seat_fits m.frames m.kernel.seat m.slots.items c.in_ok-slot.slot c.in-Some.slot_process there (r.1).invariant

pub exec-requires-clause-ready : goal.exec-requires-clause-ready
exec-requires-clause-ready c =
    let m = c.args.self.now in
    let r = c.requires.world in
    let caller = c.in_ok-slot.ensures.there r.0 r.1 in
    let there = slot_has m.slots.items c.in_ok-slot.slot caller.slot_process c.in-Some.slot_process _ c.in-Some.is c.index_mut.ensures.value caller.place in
    let found = process_at m r.0 r.1 c.in_ok-slot.slot c.in-Some.slot_process there in
    ((r.1).tables c.in_ok-slot.slot, found.0, found.2)

pub returns-in_err-slot-clause-changed : goal.returns-in_err-slot-clause-changed
returns-in_err-slot-clause-changed c w is =
    let told = err_from_is_err_and c.from_residual.result c.from_residual.ensures.1 in
    rw told.1 (refused_as w (plain_step w (step.Exec c.args.hart c.args.image)) told.0 (c.in_err-slot.ensures.refused w _ is ∙ ap (refuses w) (sym told.2)))

pub returns-in_err-slot-clause-tables : goal.returns-in_err-slot-clause-tables
returns-in_err-slot-clause-tables c w is = same_places c.args.self.now c.args.self.now _ _ (refl, refl)

pub returns-in-Err-clause-changed : goal.returns-in-Err-clause-changed
returns-in-Err-clause-changed c w is =
    refused_as w (plain_step w (step.Exec c.args.hart c.args.image)) (refusal.BadImage c.in-Err.part) (bad_image c.args.self.now w is c.args.hart c.in_ok-slot.slot (c.in_ok-slot.ensures.there w is) c.args.image c.in-Err.part (judged_is c.args.self.now w is c.args.image (sym (c.judged.ensures.loads) ∙ ap loads_in c.in-Err.is)))

pub returns-in-Err-clause-tables : goal.returns-in-Err-clause-tables
returns-in-Err-clause-tables c w is = same_places c.args.self.now c.args.self.now _ _ (refl, refl)

pub returns-in_err-exec-clause-made : goal.returns-in_err-exec-clause-made
returns-in_err-exec-clause-made c w is =
    let m = c.args.self.now in
    let s = c.in_ok-slot.slot in
    let caller = c.in_ok-slot.ensures.there w is in
    let x = c.in-Some.slot_process in
    let there = slot_has m.slots.items s caller.slot_process x _ c.in-Some.is c.index_mut.ensures.value caller.place in
    let y = c.exec in
    let e = c.in_err-exec.ensures in
    let told = err_from_is_err_and c.from_residual-in_err-exec.result c.from_residual-in_err-exec.ensures.1 in
    rw (told.1, told.2) (executes m w is c.args.hart s caller c.args.image c.in-Ok.image.loads (judged_is c.args.self.now w is c.args.image (sym (c.judged.ensures.loads) ∙ ap loads_in c.in-Ok.is)) x y.new.self there y.new.frames y.new.files (Err c.in_err-exec.field-0.0)
    tt tt (e.dry.0, subst (λ k. m.frames.free < exec_need k c.in-Ok.image.loads) (c.in-Ok.ensures.scheme ∙ is.scheme) e.dry.1) e.whole e.files_stay y.ensures.keeps)

pub returns-in_err-exec-clause-changed : goal.returns-in_err-exec-clause-changed
returns-in_err-exec-clause-changed c w is =
    let m = c.args.self.now in
    let s = c.in_ok-slot.slot in
    let caller = c.in_ok-slot.ensures.there w is in
    let x = c.in-Some.slot_process in
    let there = slot_has m.slots.items s caller.slot_process x _ c.in-Some.is c.index_mut.ensures.value caller.place in
    let y = c.exec in
    let told = err_from_is_err_and c.from_residual-in_err-exec.result c.from_residual-in_err-exec.ensures.1 in
    rw told.1 (refused_as w (plain_step w (step.Exec c.args.hart c.args.image)) refusal.NoFrame (exec_dry m w is c.args.hart s caller c.args.image c.in-Ok.image.loads (judged_is c.args.self.now w is c.args.image (sym (c.judged.ensures.loads) ∙ ap loads_in c.in-Ok.is)) x y.new.self there y.new.frames y.new.files (subst (λ k. m.frames.free < exec_need k c.in-Ok.image.loads) (c.in-Ok.ensures.scheme ∙ is.scheme) c.in_err-exec.ensures.dry.1)))

pub returns-in_err-exec-clause-tables : goal.returns-in_err-exec-clause-tables
returns-in_err-exec-clause-tables c w is =
    let m = c.args.self.now in
    let s = c.in_ok-slot.slot in
    let caller = c.in_ok-slot.ensures.there w is in
    let x = c.in-Some.slot_process in
    let there = slot_has m.slots.items s caller.slot_process x _ c.in-Some.is c.index_mut.ensures.value caller.place in
    same_tables m _ _ _ (one_below m _ s x c.exec.new.self there refl refl (λ t p a. (p, c.in_err-exec.ensures.whole t p a)))

pub returns-clause-made : goal.returns-clause-made
returns-clause-made c w is =
    let m = c.args.self.now in
    let s = c.in_ok-slot.slot in
    let caller = c.in_ok-slot.ensures.there w is in
    let x = c.in-Some.slot_process in
    let there = slot_has m.slots.items s caller.slot_process x _ c.in-Some.is c.index_mut.ensures.value caller.place in
    let y = c.exec in
    let e = c.in_ok-exec.ensures in
    executes m w is c.args.hart s caller c.args.image c.in-Ok.image.loads (judged_is c.args.self.now w is c.args.image (sym (c.judged.ensures.loads) ∙ ap loads_in c.in-Ok.is)) x y.new.self there y.new.frames y.new.files (Ok c.in_ok-exec.field-0)
    e.executed (subst (λ k. exec_need k c.in-Ok.image.loads ≤ m.frames.free) (c.in-Ok.ensures.scheme ∙ is.scheme) e.enough) tt tt tt y.ensures.keeps

pub returns-clause-changed : goal.returns-clause-changed
returns-clause-changed c w is =
    let m = c.args.self.now in
    let s = c.in_ok-slot.slot in
    let caller = c.in_ok-slot.ensures.there w is in
    let x = c.in-Some.slot_process in
    let there = slot_has m.slots.items s caller.slot_process x _ c.in-Some.is c.index_mut.ensures.value caller.place in
    let y = c.exec in
    let e = c.in_ok-exec.ensures in
    let q = process_at m w is s x there in
    set_marks w (plain_step w (step.Exec c.args.hart c.args.image)) s q.0 (process_of w.scheme w.counter c.in-Ok.image.loads) true q.1
    (exec_sets m w is c.args.hart s caller c.args.image c.in-Ok.image.loads (judged_is c.args.self.now w is c.args.image (sym (c.judged.ensures.loads) ∙ ap loads_in c.in-Ok.is)) x y.new.self there y.new.frames y.new.files q.0 q.1 (subst (λ k. exec_need k c.in-Ok.image.loads ≤ m.frames.free) (c.in-Ok.ensures.scheme ∙ is.scheme) e.enough))
    (sym (exec_changes w.scheme q.0 w.counter c.in-Ok.image.loads (λ n a at. is.counted s n q.0 a q.1 at)))

pub returns-clause-tables : goal.returns-clause-tables
returns-clause-tables c w is =
    let m = c.args.self.now in
    let s = c.in_ok-slot.slot in
    let caller = c.in_ok-slot.ensures.there w is in
    let x = c.in-Some.slot_process in
    let there = slot_has m.slots.items s caller.slot_process x _ c.in-Some.is c.index_mut.ensures.value caller.place in
    let y = c.exec in
    let e = c.in_ok-exec.ensures in
    let q = process_at m w is s x there in
    let has = e.executed (is.tables s) q.0 q.2 in
    slot_keeps_by m _ w.slots _ s x y.new.self q.0 (process_of w.scheme w.counter c.in-Ok.image.loads) (is.tables s) has.tables q.2 (subst (λ k. IsSlotProcess y.new.self has.tables (process_of k w.counter c.in-Ok.image.loads)) (is.schemes s q.0 q.1) (has.slot_process w.counter)) there q.1 refl
    (exec_sets m w is c.args.hart s caller c.args.image c.in-Ok.image.loads (judged_is c.args.self.now w is c.args.image (sym (c.judged.ensures.loads) ∙ ap loads_in c.in-Ok.is)) x y.new.self there y.new.frames y.new.files q.0 q.1 (subst (λ k. exec_need k c.in-Ok.image.loads ≤ m.frames.free) (c.in-Ok.ensures.scheme ∙ is.scheme) e.enough)) refl
    (λ unchanged. absurd (let both : true ≡ false = sym (exec_changes w.scheme q.0 w.counter c.in-Ok.image.loads (λ n a at. is.counted s n q.0 a q.1 at)) ∙ unchanged in cc))
    (followed_frames x y.new.self (is.tables s) has.tables q.0 (process_of w.scheme w.counter c.in-Ok.image.loads) q.2 (subst (λ k. IsSlotProcess y.new.self has.tables (process_of k w.counter c.in-Ok.image.loads)) (is.schemes s q.0 q.1) (has.slot_process w.counter))
    (loaded_scheme w.scheme w.counter c.in-Ok.image.loads ∙ sym (is.schemes s q.0 q.1)) y.ensures.trapframe w.counter (λ n a at. is.counted s n q.0 a q.1 at)
    (λ n f z at low. absurd (let above = copies_above w.scheme w.counter c.in-Ok.image.loads n z at in omega (arith, above, low))))

pub exec-requires-clause-scheme : goal.exec-requires-clause-scheme
exec-requires-clause-scheme c =
    let m = c.args.self.now in
    let r = c.requires.world in
    let caller = c.in_ok-slot.ensures.there r.0 r.1 in
    let there = slot_has m.slots.items c.in_ok-slot.slot caller.slot_process c.in-Some.slot_process _ c.in-Some.is c.index_mut.ensures.value caller.place in
    let found = process_at m r.0 r.1 c.in_ok-slot.slot c.in-Some.slot_process there in
    c.in-Ok.ensures.scheme ∙ (r.1).scheme ∙ sym ((r.1).schemes c.in_ok-slot.slot found.0 found.1) ∙ (found.2).agrees.lays.scheme
