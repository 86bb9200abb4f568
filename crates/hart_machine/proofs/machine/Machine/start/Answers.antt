use Rattle.std.proofs.Common.{◌≤◌, Option, None, Some, ap, length, refl, subst, sym, ◌∙◌}
use Rattle.std.specs.Global.{Vec}
use Rattle.std.specs.Prelude.{slice_get}
use Rattle.std.proofs.lemmas.List.{length-set}
use Rattle.frame_store.specs.Seats.{place_set_other}
use Rattle.process_model.specs.Calls.{started, started_as}
use Rattle.process_model.specs.Images.{image_loads}
use Rattle.process_model.specs.ImageProcess.{process_of}
use Rattle.process_model.specs.Steps.{plain_step}
use Rattle.process_model.specs.declared.reply.Refusal.TheVariants.{BadImage, NoFrame, NoSlot}
use Rattle.process_model.specs.declared.step.Step.TheVariants as step
use Rattle.std.specs.Vec.{with_item}
use Rattle.address_space.specs.Agreement.{HoldsTrampoline, IsSpace}
use Rattle.frame_store.specs.View.{View}
use Rattle.process_model.specs.Frames.{start_need}
use Rattle.hart_machine.specs.Worlds.{seats_of}
use Rattle.hart_machine.specs.declared.machine.Machine.{Machine}
use Rattle.hart_machine.specs.declared.slot_process.SlotProcess.{SlotProcess}
use Rattle.hart_machine.proofs.StartSlots.{free_is_empty, free_place, free_within}
use Rattle.address_space.specs.Trampolines.{dry_holds}
use Rattle.hart_machine.proofs.StartedSeats.{open_code, open_kernel, opened_holds, second_fits, second_steps}
use Rattle.hart_machine.proofs.StartedWorlds.{makes_refused, makes_started, start_dry, start_sets}
use Rattle.hart_machine.proofs.HartSteps.{refused}
use Rattle.hart_machine.proofs.KeptTables.{others_born, same_places, same_slots}
use Rattle.hart_machine.proofs.SlotMarks.{born_marks, refused_as}
use Rattle.hart_machine.proofs.machine.Machine.start.Goals as goal
use Rattle.hart_machine.proofs.Executes.{judged_is}
use Rattle.hart_machine.specs.SlotProcesses.{body_in}
use Rattle.exec_segments.specs.Loads.{loads_in}

pub start-requires-clause-fits : goal.start-requires-clause-fits
start-requires-clause-fits c =
    let others = seats_of c.args.self.now.slots.items in
    second_fits c.open_seat-seat.new.self.frames c.open_seat-seat.new.self.kernel.seat c.open_seat-seat.result others (c.open_seat-seat.ensures.invariant others c.requires.world.1.invariant)

pub start-requires-clause-seat : goal.start-requires-clause-seat
start-requires-clause-seat c = subst (λ (v : View). HoldsTrampoline v) (sym c.open_seat-seat.ensures.opened) (opened_holds c.args.self.now.kernel.seat)

pub index_mut-requires : goal.index_mut-requires
index_mut-requires c =
    let r = c.requires.world in
    rw c.open_seat-seat.ensures.slots (free_within c.args.self.now r.0 r.1 c.in-Some.slot (sym (c.free_slot.ensures r.0 r.1) ∙ c.in-Some.is))

pub close_seat-requires-clause-invariant : goal.close_seat-requires-clause-invariant
close_seat-requires-clause-invariant c =
    let others = seats_of c.args.self.now.slots.items in (
      others,
      second_steps c.open_seat-seat.new.self.frames c.start.new.store c.open_seat-seat.new.self.kernel.seat c.open_seat-seat.result c.in-Err-start.seat others c.in-Err-start.ensures.keeps_refused
          (c.open_seat-seat.ensures.invariant others c.requires.world.1.invariant),
    )

pub close_seat-requires-clause-seat : goal.close_seat-requires-clause-seat
close_seat-requires-clause-seat c = dry_holds _ c.open_seat-seat.result c.in-Err-start.seat c.in-Err-start.ensures.refused
    (subst (λ (v : View). HoldsTrampoline v) (sym c.open_seat-seat.ensures.opened) (opened_holds c.args.self.now.kernel.seat))

pub close_seat-requires-clause-code : goal.close_seat-requires-clause-code
close_seat-requires-clause-code c = open_code c.args.self.now c.open_seat-seat.new.self c.open_seat-seat.ensures.opener c.requires.world.1.of_kernel.maps.holds.code

pub returns-in-Ok-start-clause-made : goal.returns-in-Ok-start-clause-made
returns-in-Ok-start-clause-made c w is =
    let m = c.args.self.now in
    let s = c.in-Some.slot in
    let o = c.open_seat-seat in
    let ok = c.in-Ok-start in
    let others = seats_of m.slots.items in
    let y : SlotProcess = record { space = ok.space; pending = None } in
    let n : Machine = record { policy = o.new.self.policy; frames = c.start.new.store; kernel = o.new.self.kernel; slots = with_item o.new.self.slots s (Some y); harts = o.new.self.harts; files = o.new.self.files; pages = o.new.self.pages } in
    makes_started w s c.args.image c.in-Ok.image.loads (sym (c.free_slot.ensures w is) ∙ c.in-Some.is) (judged_is c.args.self.now w is c.args.image (sym (c.judged.ensures.loads) ∙ ap loads_in c.in-Ok.is))
    m n is o.ensures.size o.ensures.harts o.ensures.files o.ensures.policy (ap (λ k. k.scheme) o.ensures.opener) (open_kernel m o.new.self o.ensures.opener w.frames (length w.slots) is.stacks is.kernel is.of_kernel)
    y ok.ensures.started.0 (rw o.ensures.slots refl)
    (subst (λ k. IsSpace (body_in y) ok.ensures.started.0 (process_of k w.counter c.in-Ok.image.loads)) (c.in-Ok.ensures.scheme ∙ is.scheme) (ok.ensures.started.1 w.counter)) ok.ensures.started.2 refl
    (second_steps o.new.self.frames c.start.new.store o.new.self.kernel.seat o.result ok.space.seat others ok.ensures.keeps (o.ensures.invariant others is.invariant))
    (subst (λ k. start_need k c.in-Ok.image.loads ≤ m.frames.free) (c.in-Ok.ensures.scheme ∙ is.scheme) (subst (λ n. start_need c.in-Ok.image.scheme c.in-Ok.image.loads ≤ n) o.ensures.free ((ok.ensures.exact tt).0 refl)))

pub returns-in-Err-start-clause-made : goal.returns-in-Err-start-clause-made
returns-in-Err-start-clause-made c w is =
    let m = c.args.self.now in
    let s = c.in-Some.slot in
    let o = c.open_seat-seat in
    let e = c.in-Err-start in
    let others = seats_of m.slots.items in
    let n = c.close_seat.new.self in
    let opened = open_kernel m o.new.self o.ensures.opener w.frames (length w.slots) is.stacks is.kernel is.of_kernel in
    rw c.without_change-in-Err-start.ensures (makes_refused w s c.args.image c.in-Ok.image.loads (sym (c.free_slot.ensures w is) ∙ c.in-Some.is) (judged_is c.args.self.now w is c.args.image (sym (c.judged.ensures.loads) ∙ ap loads_in c.in-Ok.is))
    m n is (c.close_seat.ensures.size ∙ o.ensures.size) (c.close_seat.ensures.harts ∙ o.ensures.harts) (c.close_seat.ensures.files ∙ o.ensures.files) (c.close_seat.ensures.policy ∙ o.ensures.policy) (c.close_seat.ensures.scheme ∙ ap (λ k. k.scheme) o.ensures.opener)
    (c.close_seat.ensures.kernel w.frames (length w.slots) is.stacks is.kernel opened)
    (c.close_seat.ensures.slots ∙ o.ensures.slots)
    (c.close_seat.ensures.invariant others (second_steps o.new.self.frames c.start.new.store o.new.self.kernel.seat o.result e.seat others e.ensures.keeps_refused (o.ensures.invariant others is.invariant)))
    (λ le. let ok = (e.ensures.exact tt).1 (subst (λ n. start_need c.in-Ok.image.scheme c.in-Ok.image.loads ≤ n) (sym o.ensures.free) (subst (λ k. start_need k c.in-Ok.image.loads ≤ m.frames.free) (sym (c.in-Ok.ensures.scheme ∙ is.scheme)) le)) in cc))

pub returns-in_default-clause-made : goal.returns-in_default-clause-made
returns-in_default-clause-made c w is =
    let none = sym (c.free_slot.ensures w is) ∙ c.in_default.is in
    rw c.without_change.ensures (refused c.args.self.now w is NoSlot _ (ap (started w (image_loads w.scheme c.args.image)) none))

pub returns-in_default-clause-changed : goal.returns-in_default-clause-changed
returns-in_default-clause-changed c w is =
    let none = sym (c.free_slot.ensures w is) ∙ c.in_default.is in
    rw c.without_change.ensures (refused_as w (plain_step w (step.Start c.args.image)) NoSlot (ap (started w (image_loads w.scheme c.args.image)) none))

pub returns-in_default-clause-tables : goal.returns-in_default-clause-tables
returns-in_default-clause-tables c w is = same_places c.args.self.now c.args.self.now _ _ (refl, refl)

pub returns-in-Err-clause-made : goal.returns-in-Err-clause-made
returns-in-Err-clause-made c w is =
    let to = sym (c.free_slot.ensures w is) ∙ c.in-Some.is in
    let bad = judged_is c.args.self.now w is c.args.image (sym (c.judged.ensures.loads) ∙ ap loads_in c.in-Err.is) in
    rw c.without_change-in-Err.ensures (refused c.args.self.now w is (BadImage c.in-Err.part) _ (ap (started w (image_loads w.scheme c.args.image)) to ∙ ap (started_as w c.in-Some.slot) bad))

pub returns-in-Err-clause-changed : goal.returns-in-Err-clause-changed
returns-in-Err-clause-changed c w is =
    let to = sym (c.free_slot.ensures w is) ∙ c.in-Some.is in
    let bad = judged_is c.args.self.now w is c.args.image (sym (c.judged.ensures.loads) ∙ ap loads_in c.in-Err.is) in
    rw c.without_change-in-Err.ensures (refused_as w (plain_step w (step.Start c.args.image)) (BadImage c.in-Err.part) (ap (started w (image_loads w.scheme c.args.image)) to ∙ ap (started_as w c.in-Some.slot) bad))

pub returns-in-Err-clause-tables : goal.returns-in-Err-clause-tables
returns-in-Err-clause-tables c w is = same_places c.args.self.now c.args.self.now _ _ (refl, refl)

pub returns-in-Ok-start-clause-changed : goal.returns-in-Ok-start-clause-changed
returns-in-Ok-start-clause-changed c w is =
    let m = c.args.self.now in
    let s = c.in-Some.slot in
    let o = c.open_seat-seat in
    let to = sym (c.free_slot.ensures w is) ∙ c.in-Some.is in
    born_marks w (plain_step w (step.Start c.args.image)) s (process_of w.scheme w.counter c.in-Ok.image.loads) (free_is_empty w s to)
    (start_sets w s c.args.image c.in-Ok.image.loads to (judged_is c.args.self.now w is c.args.image (sym (c.judged.ensures.loads) ∙ ap loads_in c.in-Ok.is)) m is (subst (λ k. start_need k c.in-Ok.image.loads ≤ m.frames.free) (c.in-Ok.ensures.scheme ∙ is.scheme) (subst (λ n. start_need c.in-Ok.image.scheme c.in-Ok.image.loads ≤ n) o.ensures.free ((c.in-Ok-start.ensures.exact tt).0 refl))))

pub returns-in-Ok-start-clause-tables : goal.returns-in-Ok-start-clause-tables
returns-in-Ok-start-clause-tables c w is =
    let m = c.args.self.now in
    let s = c.in-Some.slot in
    let o = c.open_seat-seat in
    let to = sym (c.free_slot.ensures w is) ∙ c.in-Some.is in
    let y : SlotProcess = record { space = c.in-Ok-start.space; pending = None } in
    others_born m _ w.slots _ s
    (record {
      many = length-set o.new.self.slots.items s (Some y) ∙ ap (λ (v : Vec (Option SlotProcess)). length v.items) o.ensures.slots;
      kernel = open_kernel m o.new.self o.ensures.opener;
      others = λ r apart. place_set_other o.new.self.slots.items s r (Some y) apart ∙ ap (λ (v : Vec (Option SlotProcess)). slice_get v.items r) o.ensures.slots;
    }) (free_place m w is s to)

pub returns-in-Err-start-clause-changed : goal.returns-in-Err-start-clause-changed
returns-in-Err-start-clause-changed c w is =
    let m = c.args.self.now in
    let s = c.in-Some.slot in
    let o = c.open_seat-seat in
    let e = c.in-Err-start in
    let to = sym (c.free_slot.ensures w is) ∙ c.in-Some.is in
    rw c.without_change-in-Err-start.ensures (refused_as w (plain_step w (step.Start c.args.image)) NoFrame (start_dry w s c.args.image c.in-Ok.image.loads to (judged_is c.args.self.now w is c.args.image (sym (c.judged.ensures.loads) ∙ ap loads_in c.in-Ok.is)) m is
    (λ le. let ok = (e.ensures.exact tt).1 (subst (λ n. start_need c.in-Ok.image.scheme c.in-Ok.image.loads ≤ n) (sym o.ensures.free) (subst (λ k. start_need k c.in-Ok.image.loads ≤ m.frames.free) (sym (c.in-Ok.ensures.scheme ∙ is.scheme)) le)) in cc)))

pub returns-in-Err-start-clause-tables : goal.returns-in-Err-start-clause-tables
returns-in-Err-start-clause-tables c w is =
    let m = c.args.self.now in
    let o = c.open_seat-seat in
    same_slots m c.close_seat.new.self w.slots _ (ap (λ (v : Vec (Option SlotProcess)). v.items) (c.close_seat.ensures.slots ∙ o.ensures.slots))
    (λ frames slots stacks t table. c.close_seat.ensures.kernel frames slots stacks t (open_kernel m o.new.self o.ensures.opener frames slots stacks t table))
