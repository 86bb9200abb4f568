use Rattle.std.proofs.Common.{◌∙◌, ◌<◌, length, Option, None, Some, List, ap, subst, sym}
use Rattle.std.specs.Prelude.{option_map, slice_get, slice_set}
use Rattle.std.specs.Global.{Vec}
use Rattle.std.specs.Vec.{with_item}
use Rattle.std.proofs.lemmas.List.{length-set}
use Rattle.std.proofs.lemmas.Option.{get_or_from_slice_get, slice_get_within}
use Rattle.frame_store.specs.Seats.{place_set_other}
use Rattle.hart_machine.specs.Worlds.{seats_of}
use Rattle.hart_machine.specs.declared.hart.Hart.{Hart}
use Rattle.hart_machine.specs.declared.slot_process.SlotProcess.{SlotProcess}
use Rattle.hart_machine.proofs.AccessingWorlds.{seat_fits, slot_has}
use Rattle.hart_machine.proofs.BufferSteps.{same_buffers}
use Rattle.hart_machine.proofs.Emptying.{ends, idled, seat_left}
use Rattle.hart_machine.proofs.HartSteps.{process_at, tenant_is}
use Rattle.hart_machine.proofs.machine.Machine.end.Goals as goal

pub index_mut-requires : goal.index_mut-requires
index_mut-requires c =
    let m = c.args.self.now in
    let r = c.requires.world in
    let k = r.3 in
    subst (λ n. c.args.hart < n) (sym m.harts.ok.0) (slice_get_within m.harts.items c.args.hart _ k.there)

pub index_mut-requires-2 : goal.index_mut-requires-2
index_mut-requires-2 c =
    let m = c.args.self.now in
    let r = c.requires.world in
    let k = r.3 in
    subst (λ n. c.args.slot < n) (sym m.slots.ok.0) (slice_get_within m.slots.items c.args.slot _ k.place)

pub unreachable-requires : goal.unreachable-requires
unreachable-requires c =
    let m = c.args.self.now in
    let r = c.requires.world in
    let k = r.3 in
    let both = sym c.in_default.is ∙ c.take-2.ensures.value ∙ c.index_mut-2.ensures.value ∙ get_or_from_slice_get m.slots.items c.args.slot (Some k.slot_process) _ k.place in
    cc

pub end-seat-requires-clause-fits : goal.end-seat-requires-clause-fits
end-seat-requires-clause-fits c =
    let m = c.args.self.now in
    let r = c.requires.world in
    let k = r.3 in
    let there = slot_has m.slots.items c.args.slot k.slot_process c.in-Some.slot_process _ (sym c.take-2.ensures.value ∙ c.in-Some.is) c.index_mut-2.ensures.value k.place in
    seat_fits m.frames m.kernel.seat m.slots.items c.args.slot c.in-Some.slot_process there (r.2).invariant

pub end-seat-requires-clause-ready : goal.end-seat-requires-clause-ready
end-seat-requires-clause-ready c =
    let m = c.args.self.now in
    let r = c.requires.world in
    let k = r.3 in
    let there = slot_has m.slots.items c.args.slot k.slot_process c.in-Some.slot_process _ (sym c.take-2.ensures.value ∙ c.in-Some.is) c.index_mut-2.ensures.value k.place in
    let found = process_at m r.0 r.2 c.args.slot c.in-Some.slot_process there in
    ((r.2).tables c.args.slot, found.0, found.2)

pub end_seat-requires-clause-invariant : goal.end_seat-requires-clause-invariant
end_seat-requires-clause-invariant c =
    let m = c.args.self.now in
    let r = c.requires.world in
    let k = r.3 in
    let there = slot_has m.slots.items c.args.slot k.slot_process c.in-Some.slot_process _ (sym c.take-2.ensures.value ∙ c.in-Some.is) c.index_mut-2.ensures.value k.place in
    (seats_of (slice_set m.slots.items c.args.slot None), seat_left m.frames c.end-seat.new.frames m.kernel.seat m.slots.items c.args.slot c.in-Some.slot_process c.end-seat.result there c.end-seat.ensures.keeps (r.2).invariant)

pub returns-clause-ended : goal.returns-clause-ended
returns-clause-ended c w waits reply is k =
    let m = c.args.self.now in
    let there = slot_has m.slots.items c.args.slot k.slot_process c.in-Some.slot_process _ (sym c.take-2.ensures.value ∙ c.in-Some.is) c.index_mut-2.ensures.value k.place in
    let read = c.index_mut.ensures.value ∙ get_or_from_slice_get m.harts.items c.args.hart k.hart _ k.there in
    let e = c.end_seat.ensures in
    let others = seats_of (slice_set m.slots.items c.args.slot None) in
    ends m w is c.args.hart c.args.slot waits k c.in-Some.slot_process there c.end_seat.new.self e.policy e.scheme e.size (ap (λ (v : Vec (Option SlotProcess)). v.items) e.slots ∙ ap (slice_set m.slots.items c.args.slot) c.take-2.ensures.after) (e.harts ∙ ap (with_item m.harts c.args.hart) (c.take.ensures ∙ ap idled read))
    (e.files ∙ c.end-seat.ensures.written (is.tables c.args.slot) k.process (tenant_is m w is c.args.slot c.in-Some.slot_process k.process there k.in_slot))
    (e.invariant others (seat_left m.frames c.end-seat.new.frames m.kernel.seat m.slots.items c.args.slot c.in-Some.slot_process c.end-seat.result there c.end-seat.ensures.keeps is.invariant))
    e.kernel reply

pub returns-clause-buffers : goal.returns-clause-buffers
returns-clause-buffers c h =
    ap (λ (hs : Vec Hart). option_map (λ x. x.buffer) (slice_get hs.items h)) c.end_seat.ensures.harts
    ∙ same_buffers c.args.self.now c.args.hart c.index_mut.result.now c.take.new.self c.index_mut.ensures.value (ap (λ (x : Hart). x.buffer) c.take.ensures) h

pub returns-clause-others : goal.returns-clause-others
returns-clause-others c =
    let m = c.args.self.now in
    let e = c.end_seat.ensures in
    let slots = ap (λ (v : Vec (Option SlotProcess)). v.items) e.slots ∙ ap (slice_set m.slots.items c.args.slot) c.take-2.ensures.after in
    record {
      many = ap length slots ∙ length-set m.slots.items c.args.slot None;
      kernel = e.kernel;
      others = λ r apart. ap (λ (xs : List (Option SlotProcess)). slice_get xs r) slots ∙ place_set_other m.slots.items c.args.slot r None apart;
    }
