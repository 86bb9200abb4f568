use Rattle.std.proofs.Common.{◌∙◌, Some, ap, refl, sym}
use Rattle.frame_store.specs.Seats.{place_set_back}
use Rattle.hart_machine.specs.Tables.{tables_of}
use Rattle.table_walk.specs.Leaves.{walk_answer}
use Rattle.hart_machine.specs.declared.translation.SatpTable.{SatpTable}
use Rattle.hart_machine.proofs.AccessingWorlds.{seat_fits}
use Rattle.hart_machine.proofs.FillWorlds.{put_back}
use Rattle.hart_machine.proofs.HartSteps.{process_at}
use Rattle.hart_machine.proofs.Leaves.{kernel_there}
use Rattle.hart_machine.proofs.PresentTables.{not_empty, slot_within, tenant_is}
use Rattle.hart_machine.proofs.machine.Machine.walk.Goals as goal

pub returns-in-OfKernel-clause-walk : goal.returns-in-OfKernel-clause-walk
returns-in-OfKernel-clause-walk c w is =
    c.translate_held.ensures.outcome is.kernel is.of_kernel.maps.tables (kernel_there _ _ _ _ _ _ _ is.of_kernel)
    ∙ ap (λ k. walk_answer k is.kernel c.args.va.0 c.args.access c.args.mode) is.scheme
    ∙ ap (λ (t : SatpTable). walk_answer w.scheme (tables_of is.tables is.kernel t) c.args.va.0 c.args.access c.args.mode) (sym c.in-OfKernel.is)

pub returns-in-OfKernel-clause-world : goal.returns-in-OfKernel-clause-world
returns-in-OfKernel-clause-world c = rw (c.translate_held.ensures.same, c.translate_held.ensures.view) (λ w is. (is, refl))

pub index_mut-requires : goal.index_mut-requires
index_mut-requires c = slot_within c.args.self.now c.args.table c.in-OfProcess.slot c.in-OfProcess.is c.requires.there

pub unreachable-requires : goal.unreachable-requires
unreachable-requires c = not_empty c.args.self.now c.args.table c.in-OfProcess.slot c.in-OfProcess.is c.requires.there _ c.index_mut.ensures.value c.in_default.is

pub translate-requires-clause-fits : goal.translate-requires-clause-fits
translate-requires-clause-fits c =
    let m = c.args.self.now in
    let at = tenant_is m c.args.table c.in-OfProcess.slot c.in-OfProcess.is c.requires.there _ c.index_mut.ensures.value c.in-Some.slot_process c.in-Some.is in
    let r = c.requires.world in
    seat_fits m.frames m.kernel.seat m.slots.items c.in-OfProcess.slot c.in-Some.slot_process at (r.1).invariant

pub translate-requires-clause-ready : goal.translate-requires-clause-ready
translate-requires-clause-ready c =
    let m = c.args.self.now in
    let at = tenant_is m c.args.table c.in-OfProcess.slot c.in-OfProcess.is c.requires.there _ c.index_mut.ensures.value c.in-Some.slot_process c.in-Some.is in
    let r = c.requires.world in
    let p = process_at m r.0 r.1 c.in-OfProcess.slot c.in-Some.slot_process at in
    ((r.1).tables c.in-OfProcess.slot, p.0, (p.2).agrees)

pub returns-in-Some-clause-walk : goal.returns-in-Some-clause-walk
returns-in-Some-clause-walk c w is =
    let m = c.args.self.now in
    let at = tenant_is m c.args.table c.in-OfProcess.slot c.in-OfProcess.is c.requires.there _ c.index_mut.ensures.value c.in-Some.slot_process c.in-Some.is in
    let p = process_at m w is c.in-OfProcess.slot c.in-Some.slot_process at in
    c.translate.ensures.walk (is.tables c.in-OfProcess.slot) p.0 (p.2).agrees
    ∙ ap (λ k. walk_answer k (is.tables c.in-OfProcess.slot) c.args.va.0 c.args.access c.args.mode) (is.schemes c.in-OfProcess.slot p.0 p.1)
    ∙ ap (λ (t : SatpTable). walk_answer w.scheme (tables_of is.tables is.kernel t) c.args.va.0 c.args.access c.args.mode) (sym c.in-OfProcess.is)

pub returns-in-Some-clause-world : goal.returns-in-Some-clause-world
returns-in-Some-clause-world c w is =
    let m = c.args.self.now in
    let at = tenant_is m c.args.table c.in-OfProcess.slot c.in-OfProcess.is c.requires.there _ c.index_mut.ensures.value c.in-Some.slot_process c.in-Some.is in
    rw (c.translate.ensures.reads.same, c.translate.ensures.reads.view, c.translate.ensures.reads.root, c.translate.ensures.reads.trapframe, c.translate.ensures.reads.layout) (put_back m w is c.in-OfProcess.slot c.in-Some.slot_process at, refl)

pub returns-in-OfKernel-clause-places : goal.returns-in-OfKernel-clause-places
returns-in-OfKernel-clause-places c = rw c.translate_held.ensures.view (refl, refl)

pub returns-in-Some-clause-places : goal.returns-in-Some-clause-places
returns-in-Some-clause-places c =
    let m = c.args.self.now in
    let at = tenant_is m c.args.table c.in-OfProcess.slot c.in-OfProcess.is c.requires.there _ c.index_mut.ensures.value c.in-Some.slot_process c.in-Some.is in
    rw (c.translate.ensures.reads.view, c.translate.ensures.reads.root, c.translate.ensures.reads.trapframe, c.translate.ensures.reads.layout) (place_set_back m.slots.items c.in-OfProcess.slot (Some c.in-Some.slot_process) at, refl)
