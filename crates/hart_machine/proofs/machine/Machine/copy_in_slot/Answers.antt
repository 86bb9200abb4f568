use Rattle.std.proofs.Common.{◌∙◌, ◌<◌, Some, subst, sym}
use Rattle.std.proofs.lemmas.Option.{get_or_from_slice_get, slice_get_within}
use Rattle.hart_machine.proofs.AccessingWorlds.{seat_fits, slot_has}
use Rattle.hart_machine.proofs.CopySteps.{copies_in, keeps_in, marks_in}
use Rattle.hart_machine.proofs.HartSteps.{tenant_is}
use Rattle.hart_machine.proofs.machine.Machine.copy_in_slot.Goals as goal

pub index_mut-requires : goal.index_mut-requires
index_mut-requires c =
    let m = c.args.self.now in
    let k = (c.requires.world).3 in
    subst (λ n. c.args.slot < n) (sym m.slots.ok.0) (slice_get_within m.slots.items c.args.slot _ k.place)

pub unreachable-requires : goal.unreachable-requires
unreachable-requires c =
    let k = (c.requires.world).3 in
    let both = sym c.in_default.is ∙ c.index_mut.ensures.value ∙ get_or_from_slice_get c.args.self.now.slots.items c.args.slot (Some k.slot_process) _ k.place in
    cc

pub copy_in-reply-requires-clause-fits : goal.copy_in-reply-requires-clause-fits
copy_in-reply-requires-clause-fits c =
    let m = c.args.self.now in
    let r = c.requires.world in
    let k = r.3 in
    let there = slot_has m.slots.items c.args.slot k.slot_process c.in-Some.slot_process _ c.in-Some.is c.index_mut.ensures.value k.place in
    seat_fits m.frames m.kernel.seat m.slots.items c.args.slot c.in-Some.slot_process there (r.2).invariant

pub copy_in-reply-requires-clause-ready : goal.copy_in-reply-requires-clause-ready
copy_in-reply-requires-clause-ready c =
    let m = c.args.self.now in
    let r = c.requires.world in
    let k = r.3 in
    let there = slot_has m.slots.items c.args.slot k.slot_process c.in-Some.slot_process _ c.in-Some.is c.index_mut.ensures.value k.place in
    ((r.2).tables c.args.slot, k.process, tenant_is m r.0 r.2 c.args.slot c.in-Some.slot_process k.process there k.in_slot)

pub returns-clause-made : goal.returns-clause-made
returns-clause-made c w h is k =
    let m = c.args.self.now in
    let there = slot_has m.slots.items c.args.slot k.slot_process c.in-Some.slot_process _ c.in-Some.is c.index_mut.ensures.value k.place in
    let y = c.copy_in-reply in
    rw c.with_change.ensures (copies_in m w is h c.args.slot k c.in-Some.slot_process y.new.self there y.new.frames y.new.files c.args.va.0 c.args.count y.result.0 c.requires.few y.ensures.copied)

pub returns-clause-changed : goal.returns-clause-changed
returns-clause-changed c w h is k =
    let m = c.args.self.now in
    let there = slot_has m.slots.items c.args.slot k.slot_process c.in-Some.slot_process _ c.in-Some.is c.index_mut.ensures.value k.place in
    let y = c.copy_in-reply in
    rw (c.with_change.ensures, c.slot_if.ensures) (marks_in m w is h c.args.slot k c.in-Some.slot_process y.new.self there y.new.frames y.new.files c.args.va.0 c.args.count y.result.0 c.requires.few y.ensures.copied y.result.1 y.ensures.changed)

pub returns-clause-tables : goal.returns-clause-tables
returns-clause-tables c w h is k =
    let m = c.args.self.now in
    let there = slot_has m.slots.items c.args.slot k.slot_process c.in-Some.slot_process _ c.in-Some.is c.index_mut.ensures.value k.place in
    let y = c.copy_in-reply in
    keeps_in m w is h c.args.slot k c.in-Some.slot_process y.new.self there y.new.frames y.new.files c.args.va.0 c.args.count y.result.0 c.requires.few y.ensures.copied y.ensures.trapframe
