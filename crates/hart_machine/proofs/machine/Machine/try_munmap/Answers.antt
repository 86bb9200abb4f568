use Rattle.std.proofs.Common.{◌∙◌, ◌<◌, Bool, Some, ap, refl, subst, sym}
use Rattle.std.specs.Prelude.{Err, Ok, slice_set}
use Rattle.std.proofs.lemmas.Option.{get_or_from_slice_get, slice_get_within}
use Rattle.std.proofs.lemmas.Result.{err_from_is_err_and}
use Rattle.frame_store.specs.Seats.{place_set_back}
use Rattle.process_model.specs.Process.{without_pending}
use Rattle.process_model.specs.Steps.{plain_step}
use Rattle.process_model.specs.World.{refuses}
use Rattle.process_model.specs.declared.step.Step.TheVariants as step
use Rattle.hart_machine.specs.declared.slot_process.SlotProcess.{SlotProcess}
use Rattle.hart_machine.proofs.AccessingWorlds.{seat_fits, slot_has}
use Rattle.hart_machine.proofs.HartSteps.{process_at, refused}
use Rattle.hart_machine.proofs.KeptLeaves.{dropped_frames, dropped_none, slot_keeps_by}
use Rattle.hart_machine.proofs.KeptTables.{same_places}
use Rattle.hart_machine.proofs.Mapping.{unmap_refused, unmap_sets, unmaps}
use Rattle.hart_machine.proofs.SlotMarks.{refused_as, set_marks}
use Rattle.hart_machine.proofs.machine.Machine.try_munmap.Goals as goal
use Rattle.hart_machine.proofs.KeptSchemes.{unmapped_scheme}

pub returns-in_err-slot-clause-made : goal.returns-in_err-slot-clause-made
returns-in_err-slot-clause-made c w is =
    let told = err_from_is_err_and c.from_residual.result c.from_residual.ensures.1 in
    rw told.1 (refused c.args.self.now w is told.0 _ (c.in_err-slot.ensures.refused w _ is ∙ ap (refuses w) (sym told.2)))

pub index_mut-requires : goal.index_mut-requires
index_mut-requires c =
    let m = c.args.self.now in
    let r = c.requires.world in
    let caller = c.in_ok-slot.ensures.there r.0 r.1 in
    subst (λ n. c.in_ok-slot.slot < n) (sym m.slots.ok.0) (slice_get_within m.slots.items c.in_ok-slot.slot _ caller.place)

pub unreachable-requires : goal.unreachable-requires
unreachable-requires c =
    let r = c.requires.world in
    let caller = c.in_ok-slot.ensures.there r.0 r.1 in
    let both = sym c.in_default.is ∙ c.index_mut.ensures.value ∙ get_or_from_slice_get c.args.self.now.slots.items c.in_ok-slot.slot (Some caller.slot_process) _ caller.place in
    cc

pub munmap-requires-clause-fits : goal.munmap-requires-clause-fits
munmap-requires-clause-fits c =
    let m = c.args.self.now in
    let r = c.requires.world in
    let caller = c.in_ok-slot.ensures.there r.0 r.1 in
    let there = slot_has m.slots.items c.in_ok-slot.slot caller.slot_process c.in-Some.slot_process _ c.in-Some.is c.index_mut.ensures.value caller.place in
    seat_fits m.frames m.kernel.seat m.slots.items c.in_ok-slot.slot c.in-Some.slot_process there (r.1).invariant

pub munmap-requires-clause-ready : goal.munmap-requires-clause-ready
munmap-requires-clause-ready c =
    let m = c.args.self.now in
    let r = c.requires.world in
    let caller = c.in_ok-slot.ensures.there r.0 r.1 in
    let there = slot_has m.slots.items c.in_ok-slot.slot caller.slot_process c.in-Some.slot_process _ c.in-Some.is c.index_mut.ensures.value caller.place in
    let found = process_at m r.0 r.1 c.in_ok-slot.slot c.in-Some.slot_process there in
    ((r.1).tables c.in_ok-slot.slot, found.0, found.2)

pub returns-in_err-slot-clause-changed : goal.returns-in_err-slot-clause-changed
returns-in_err-slot-clause-changed c w is =
    let told = err_from_is_err_and c.from_residual.result c.from_residual.ensures.1 in
    rw told.1 (refused_as w (plain_step w (step.Munmap c.args.hart c.args.address c.args.length)) told.0 (c.in_err-slot.ensures.refused w _ is ∙ ap (refuses w) (sym told.2)))

pub returns-in_err-slot-clause-tables : goal.returns-in_err-slot-clause-tables
returns-in_err-slot-clause-tables c w is = same_places c.args.self.now c.args.self.now _ _ (refl, refl)

pub returns-in_err-released-clause-made : goal.returns-in_err-released-clause-made
returns-in_err-released-clause-made c w is =
    let m = c.args.self.now in
    let s = c.in_ok-slot.slot in
    let caller = c.in_ok-slot.ensures.there w is in
    let x = c.in-Some.slot_process in
    let there = slot_has m.slots.items s caller.slot_process x _ c.in-Some.is c.index_mut.ensures.value caller.place in
    let y = c.munmap in
    let e = c.in_err-released.ensures in
    let told = err_from_is_err_and c.from_residual-in_err-released.result c.from_residual-in_err-released.ensures.1 in
    rw (told.1, told.2) (unmaps m w is c.args.hart s caller x y.new.self there c.args.address c.args.length y.new.frames y.new.files {A = Bool} (Err c.in_err-released.field-0.0)
    tt e.refused e.stays e.files_stay e.frames_stay y.ensures.keeps)

pub returns-in_err-released-clause-changed : goal.returns-in_err-released-clause-changed
returns-in_err-released-clause-changed c w is =
    let m = c.args.self.now in
    let s = c.in_ok-slot.slot in
    let caller = c.in_ok-slot.ensures.there w is in
    let x = c.in-Some.slot_process in
    let there = slot_has m.slots.items s caller.slot_process x _ c.in-Some.is c.index_mut.ensures.value caller.place in
    let y = c.munmap in
    let told = err_from_is_err_and c.from_residual-in_err-released.result c.from_residual-in_err-released.ensures.1 in
    rw told.1 (refused_as w (plain_step w (step.Munmap c.args.hart c.args.address c.args.length)) c.in_err-released.field-0.0 (unmap_refused m w is c.args.hart s caller x y.new.self there c.args.address c.args.length y.new.frames y.new.files c.in_err-released.field-0.0 c.in_err-released.ensures.refused))

pub returns-in_err-released-clause-tables : goal.returns-in_err-released-clause-tables
returns-in_err-released-clause-tables c w is =
    let m = c.args.self.now in
    let s = c.in_ok-slot.slot in
    let caller = c.in_ok-slot.ensures.there w is in
    let x = c.in-Some.slot_process in
    let there = slot_has m.slots.items s caller.slot_process x _ c.in-Some.is c.index_mut.ensures.value caller.place in
    let e = c.in_err-released.ensures in
    same_places m _ _ _ (ap (λ (z : SlotProcess). slice_set m.slots.items s (Some z)) e.stays ∙ place_set_back m.slots.items s (Some x) there, refl)

pub returns-clause-made : goal.returns-clause-made
returns-clause-made c w is =
    let m = c.args.self.now in
    let s = c.in_ok-slot.slot in
    let caller = c.in_ok-slot.ensures.there w is in
    let x = c.in-Some.slot_process in
    let there = slot_has m.slots.items s caller.slot_process x _ c.in-Some.is c.index_mut.ensures.value caller.place in
    let y = c.munmap in
    let e = c.in_ok-released.ensures in
    unmaps m w is c.args.hart s caller x y.new.self there c.args.address c.args.length y.new.frames y.new.files (Ok c.in_ok-released.released) e.unmapped tt tt tt tt y.ensures.keeps

pub returns-clause-changed : goal.returns-clause-changed
returns-clause-changed c w is =
    let m = c.args.self.now in
    let s = c.in_ok-slot.slot in
    let caller = c.in_ok-slot.ensures.there w is in
    let x = c.in-Some.slot_process in
    let there = slot_has m.slots.items s caller.slot_process x _ c.in-Some.is c.index_mut.ensures.value caller.place in
    let y = c.munmap in
    let e = c.in_ok-released.ensures in
    let q = process_at m w is s x there in
    let has = e.unmapped (is.tables s) q.0 q.2 in
    rw c.slot_if.ensures (set_marks w (plain_step w (step.Munmap c.args.hart c.args.address c.args.length)) s q.0 (without_pending has.what.process) c.in_ok-released.released q.1
    (unmap_sets m w is c.args.hart s caller x y.new.self there c.args.address c.args.length y.new.frames y.new.files q.0 q.1 has.what has.is) (e.changed (is.tables s) q.0 q.2 has.what has.is))

pub returns-clause-tables : goal.returns-clause-tables
returns-clause-tables c w is =
    let m = c.args.self.now in
    let s = c.in_ok-slot.slot in
    let caller = c.in_ok-slot.ensures.there w is in
    let x = c.in-Some.slot_process in
    let there = slot_has m.slots.items s caller.slot_process x _ c.in-Some.is c.index_mut.ensures.value caller.place in
    let y = c.munmap in
    let e = c.in_ok-released.ensures in
    let q = process_at m w is s x there in
    let has = e.unmapped (is.tables s) q.0 q.2 in
    slot_keeps_by m _ w.slots _ s x y.new.self q.0 (without_pending has.what.process) (is.tables s) has.tables q.2 has.slot_process there q.1 refl
    (unmap_sets m w is c.args.hart s caller x y.new.self there c.args.address c.args.length y.new.frames y.new.files q.0 q.1 has.what has.is) refl
    (λ unchanged. dropped_none x y.new.self (is.tables s) has.tables q.0 (without_pending has.what.process) q.2 has.slot_process unchanged (unmapped_scheme _ q.0 _ _ has.what has.is) _ _ has.drops) (dropped_frames (is.tables s) has.tables q.0 (without_pending has.what.process) _ _ has.drops)
