use Rattle.std.proofs.Common.{◌≡◌, ◌∙◌, ◌<◌, ℕ, ℤ, Option, Some, ap, of_z, refl, subst, sym, to_z, w64}
use Rattle.std.specs.Prelude.{Err, Ok, slice_set}
use Rattle.std.specs.Vec.{with_item}
use Rattle.std.proofs.lemmas.Int.{to_z-of_z}
use Rattle.std.proofs.lemmas.Option.{get_or_from_slice_get, slice_get_within}
use Rattle.std.proofs.lemmas.Result.{err_from_is_err_and}
use Rattle.process_model.specs.Steps.{plain_step}
use Rattle.frame_store.specs.Seats.{place_set_back}
use Rattle.process_model.specs.Process.{without_pending}
use Rattle.process_model.specs.World.{refuses}
use Rattle.process_model.specs.declared.reply.ScalarReply.TheVariants.{OldSize, Refused}
use Rattle.process_model.specs.declared.reply.Reply.TheVariants.{Scalar}
use Rattle.hart_machine.specs.declared.slot_process.SlotProcess.{SlotProcess}
use Rattle.process_model.specs.declared.step.Step.TheVariants as step
use Rattle.hart_machine.specs.Worlds.{IsModelOutcome}
use Rattle.hart_machine.specs.declared.machine.Machine.{Machine}
use Rattle.hart_machine.proofs.AccessingWorlds.{seat_fits, slot_has}
use Rattle.hart_machine.proofs.HartSteps.{process_at, refused}
use Rattle.hart_machine.proofs.KeptLeaves.{dropped_frames, dropped_none, slot_keeps_by}
use Rattle.hart_machine.proofs.KeptTables.{same_places}
use Rattle.hart_machine.proofs.Sizing.{size_refused, size_sets, sizes}
use Rattle.hart_machine.proofs.SlotMarks.{refused_as, set_marks}
use Rattle.hart_machine.proofs.machine.Machine.try_sbrk.Goals as goal
use Rattle.hart_machine.proofs.KeptSchemes.{sbrk_scheme}

pub returns-in_err-slot-clause-made : goal.returns-in_err-slot-clause-made
returns-in_err-slot-clause-made c w is =
    let told = err_from_is_err_and c.from_residual.result c.from_residual.ensures.1 in
    rw told.1 (refused c.args.self.now w is told.0 _ (c.in_err-slot.ensures.refused w _ is ∙ ap (refuses w) (sym told.2)))

pub index_mut-requires : goal.index_mut-requires
index_mut-requires c =
    let m = c.args.self.now in
    let r = c.requires.world in
    let caller = c.in_ok-slot.ensures.there r.0 r.1 in
    subst (λ n. c.in_ok-slot.slot < n) (sym m.slots.ok.0) (slice_get_within m.slots.items c.in_ok-slot.slot _ caller.place)

pub unreachable-requires : goal.unreachable-requires
unreachable-requires c =
    let r = c.requires.world in
    let caller = c.in_ok-slot.ensures.there r.0 r.1 in
    let both = sym c.in_default.is ∙ c.index_mut.ensures.value ∙ get_or_from_slice_get c.args.self.now.slots.items c.in_ok-slot.slot (Some caller.slot_process) _ caller.place in
    cc

pub sbrk-requires-clause-fits : goal.sbrk-requires-clause-fits
sbrk-requires-clause-fits c =
    let m = c.args.self.now in
    let r = c.requires.world in
    let caller = c.in_ok-slot.ensures.there r.0 r.1 in
    let there = slot_has m.slots.items c.in_ok-slot.slot caller.slot_process c.in-Some.slot_process _ c.in-Some.is c.index_mut.ensures.value caller.place in
    seat_fits m.frames m.kernel.seat m.slots.items c.in_ok-slot.slot c.in-Some.slot_process there (r.1).invariant

pub sbrk-requires-clause-ready : goal.sbrk-requires-clause-ready
sbrk-requires-clause-ready c =
    let m = c.args.self.now in
    let r = c.requires.world in
    let caller = c.in_ok-slot.ensures.there r.0 r.1 in
    let there = slot_has m.slots.items c.in_ok-slot.slot caller.slot_process c.in-Some.slot_process _ c.in-Some.is c.index_mut.ensures.value caller.place in
    let found = process_at m r.0 r.1 c.in_ok-slot.slot c.in-Some.slot_process there in
    ((r.1).tables c.in_ok-slot.slot, found.0, found.2)

pub returns-in_err-slot-clause-changed : goal.returns-in_err-slot-clause-changed
returns-in_err-slot-clause-changed c w is =
    let told = err_from_is_err_and c.from_residual.result c.from_residual.ensures.1 in
    rw told.1 (refused_as w (plain_step w (step.Sbrk c.args.hart c.args.delta)) told.0 (c.in_err-slot.ensures.refused w _ is ∙ ap (refuses w) (sym told.2)))

pub returns-in_err-slot-clause-tables : goal.returns-in_err-slot-clause-tables
returns-in_err-slot-clause-tables c w is = same_places c.args.self.now c.args.self.now _ _ (refl, refl)

pub returns-in_err-size-clause-made : goal.returns-in_err-size-clause-made
returns-in_err-size-clause-made c w is =
    let m = c.args.self.now in
    let s = c.in_ok-slot.slot in
    let caller = c.in_ok-slot.ensures.there w is in
    let x = c.in-Some.slot_process in
    let there = slot_has m.slots.items s caller.slot_process x _ c.in-Some.is c.index_mut.ensures.value caller.place in
    let d = to_z w64 (of_z w64 c.args.delta) in
    let same = to_z-of_z w64 c.args.delta c.ranges.delta in
    let y = c.sbrk in
    let e = c.in_err-size.ensures in
    let told = err_from_is_err_and c.from_residual-in_err-size.result c.from_residual-in_err-size.ensures.1 in
    let n : Machine = record m { frames = y.new.frames; slots = with_item m.slots s (Some y.new.self) } in
    rw (told.1, told.2) (subst (λ (z : ℤ). IsModelOutcome n (Scalar (Refused c.in_err-size.field-0.0)) (plain_step w (step.Sbrk c.args.hart z))) same
    (sizes m w is c.args.hart s caller x y.new.self there d y.new.frames {A = Option ℕ} (Err c.in_err-size.field-0.0) e.answer tt e.stays e.frames_stay y.ensures.keeps))

pub returns-in_err-size-clause-changed : goal.returns-in_err-size-clause-changed
returns-in_err-size-clause-changed c w is =
    let m = c.args.self.now in
    let s = c.in_ok-slot.slot in
    let caller = c.in_ok-slot.ensures.there w is in
    let x = c.in-Some.slot_process in
    let there = slot_has m.slots.items s caller.slot_process x _ c.in-Some.is c.index_mut.ensures.value caller.place in
    let d = to_z w64 (of_z w64 c.args.delta) in
    let same = to_z-of_z w64 c.args.delta c.ranges.delta in
    let y = c.sbrk in
    let told = err_from_is_err_and c.from_residual-in_err-size.result c.from_residual-in_err-size.ensures.1 in
    rw told.1 (refused_as w (plain_step w (step.Sbrk c.args.hart c.args.delta)) c.in_err-size.field-0.0
    (subst (λ (z : ℤ). plain_step w (step.Sbrk c.args.hart z) ≡ refuses w c.in_err-size.field-0.0) same (size_refused m w is c.args.hart s caller x y.new.self there d y.new.frames c.in_err-size.field-0.0 c.in_err-size.ensures.answer)))

pub returns-in_err-size-clause-tables : goal.returns-in_err-size-clause-tables
returns-in_err-size-clause-tables c w is =
    let m = c.args.self.now in
    let s = c.in_ok-slot.slot in
    let caller = c.in_ok-slot.ensures.there w is in
    let x = c.in-Some.slot_process in
    let there = slot_has m.slots.items s caller.slot_process x _ c.in-Some.is c.index_mut.ensures.value caller.place in
    let d = to_z w64 (of_z w64 c.args.delta) in
    let same = to_z-of_z w64 c.args.delta c.ranges.delta in
    let y = c.sbrk in
    same_places m _ _ _ (ap (λ (z : SlotProcess). slice_set m.slots.items s (Some z)) c.in_err-size.ensures.stays ∙ place_set_back m.slots.items s (Some x) there, refl)

pub returns-clause-made : goal.returns-clause-made
returns-clause-made c w is =
    let m = c.args.self.now in
    let s = c.in_ok-slot.slot in
    let caller = c.in_ok-slot.ensures.there w is in
    let x = c.in-Some.slot_process in
    let there = slot_has m.slots.items s caller.slot_process x _ c.in-Some.is c.index_mut.ensures.value caller.place in
    let d = to_z w64 (of_z w64 c.args.delta) in
    let same = to_z-of_z w64 c.args.delta c.ranges.delta in
    let y = c.sbrk in
    let e = c.in_ok-size.ensures in
    let n : Machine = record m { frames = y.new.frames; slots = with_item m.slots s (Some y.new.self) } in
    subst (λ (z : ℤ). IsModelOutcome n (Scalar (OldSize c.in_ok-size.size)) (plain_step w (step.Sbrk c.args.hart z))) same
    (sizes m w is c.args.hart s caller x y.new.self there d y.new.frames (Ok (c.in_ok-size.size, c.in_ok-size.released)) e.answer e.resized tt tt y.ensures.keeps)

pub returns-clause-changed : goal.returns-clause-changed
returns-clause-changed c w is =
    let m = c.args.self.now in
    let s = c.in_ok-slot.slot in
    let caller = c.in_ok-slot.ensures.there w is in
    let x = c.in-Some.slot_process in
    let there = slot_has m.slots.items s caller.slot_process x _ c.in-Some.is c.index_mut.ensures.value caller.place in
    let d = to_z w64 (of_z w64 c.args.delta) in
    let same = to_z-of_z w64 c.args.delta c.ranges.delta in
    let y = c.sbrk in
    let e = c.in_ok-size.ensures in
    let q = process_at m w is s x there in
    let has = e.resized (is.tables s) q.0 q.2 in
    rw c.slot_if.ensures (set_marks w (plain_step w (step.Sbrk c.args.hart c.args.delta)) s q.0 (without_pending has.process) c.in_ok-size.released q.1
    (subst (λ (z : ℤ). ((plain_step w (step.Sbrk c.args.hart z)).world).slots ≡ slice_set w.slots s (Some (without_pending has.process))) same
    (size_sets m w is c.args.hart s caller x y.new.self there d y.new.frames q.0 has.process q.1 has.is)) (e.changed (is.tables s) q.0 q.2 has.process has.is))

pub returns-clause-tables : goal.returns-clause-tables
returns-clause-tables c w is =
    let m = c.args.self.now in
    let s = c.in_ok-slot.slot in
    let caller = c.in_ok-slot.ensures.there w is in
    let x = c.in-Some.slot_process in
    let there = slot_has m.slots.items s caller.slot_process x _ c.in-Some.is c.index_mut.ensures.value caller.place in
    let d = to_z w64 (of_z w64 c.args.delta) in
    let same = to_z-of_z w64 c.args.delta c.ranges.delta in
    let y = c.sbrk in
    let e = c.in_ok-size.ensures in
    let q = process_at m w is s x there in
    let has = e.resized (is.tables s) q.0 q.2 in
    slot_keeps_by m _ w.slots _ s x y.new.self q.0 (without_pending has.process) (is.tables s) has.tables q.2 has.slot_process there q.1 refl
    (subst (λ (z : ℤ). ((plain_step w (step.Sbrk c.args.hart z)).world).slots ≡ slice_set w.slots s (Some (without_pending has.process))) same
    (size_sets m w is c.args.hart s caller x y.new.self there d y.new.frames q.0 has.process q.1 has.is)) refl
    (λ unchanged. dropped_none x y.new.self (is.tables s) has.tables q.0 (without_pending has.process) q.2 has.slot_process unchanged (sbrk_scheme q.0 _ has.process has.is) _ _ has.drops) (dropped_frames (is.tables s) has.tables q.0 (without_pending has.process) _ _ has.drops)
