use Rattle.std.proofs.Common.{◌∙◌, Some, ap, refl, sym}
use Rattle.std.proofs.lemmas.Option.{get_or_from_slice_get}
use Rattle.frame_store.specs.Seats.{place_set_back}
use Rattle.hart_machine.proofs.AccessingWorlds.{seat_fits}
use Rattle.hart_machine.proofs.BufferChanges.{filled_are}
use Rattle.hart_machine.proofs.FillWorlds.{fills, keeps_of_kernel, keeps_of_process, put_back, table_there}
use Rattle.hart_machine.proofs.HartSteps.{process_at, slot_low}
use Rattle.hart_machine.proofs.PresentTables.{not_empty, slot_within, tenant_is}
use Rattle.hart_machine.proofs.machine.Machine.fill_from_walk.Goals as goal
use Rattle.table_walk.specs.LowPages.{tables_of_scheme}

pub returns-in-OfKernel-clause-made : goal.returns-in-OfKernel-clause-made
returns-in-OfKernel-clause-made c w is =
    let m = c.args.self.now in
    let r = c.requires.present in
    let x = c.index_mut-hart in
    let kept = keeps_of_kernel m w is c.asid-asid.result c.args.va.0 x.result.now c.fill.new.self c.args.table c.in-OfKernel.is c.fill.ensures.kept in
    rw (c.fill.ensures.same, c.fill.ensures.view)
    (fills m w is c.args.hart c.args.va.0 r.0 r.1 c.args.table r.2 x.result.now x.ensures.value c.fill.ensures.few c.asid-asid.result c.asid-asid.ensures c.fill.new.self kept c.fill.result c.fill.ensures.number)

pub returns-in-OfKernel-clause-entries : goal.returns-in-OfKernel-clause-entries
returns-in-OfKernel-clause-entries c w is =
    let m = c.args.self.now in
    let r = c.requires.present in
    let x = c.index_mut-hart in
    let kept = keeps_of_kernel m w is c.asid-asid.result c.args.va.0 x.result.now c.fill.new.self c.args.table c.in-OfKernel.is c.fill.ensures.kept in
    filled_are m c.args.hart x.result.now c.fill.new.self x.ensures.value is.tables is.kernel r.0 r.1 c.args.table r.2 c.args.va.0 c.asid-asid.result c.asid-asid.ensures kept c.fill.result

pub index_mut-requires : goal.index_mut-requires
index_mut-requires c =
    let m = c.args.self.now in
    let r = c.requires.present in
    let v = c.requires.world in
    slot_within m c.args.table c.in-OfProcess.slot c.in-OfProcess.is (table_there m v.0 v.1 c.args.hart r.0 r.1 c.args.table r.2)

pub unreachable-requires : goal.unreachable-requires
unreachable-requires c =
    let m = c.args.self.now in
    let r = c.requires.present in
    let v = c.requires.world in
    not_empty m c.args.table c.in-OfProcess.slot c.in-OfProcess.is (table_there m v.0 v.1 c.args.hart r.0 r.1 c.args.table r.2) _ c.index_mut.ensures.value c.in_default.is

pub fill-requires-in-OfProcess-clause-fits : goal.fill-requires-in-OfProcess-clause-fits
fill-requires-in-OfProcess-clause-fits c =
    let m = c.args.self.now in
    let r = c.requires.present in
    let v = c.requires.world in
    let at = tenant_is m c.args.table c.in-OfProcess.slot c.in-OfProcess.is (table_there m v.0 v.1 c.args.hart r.0 r.1 c.args.table r.2) _ c.index_mut.ensures.value c.in-Some.slot_process c.in-Some.is in
    seat_fits m.frames m.kernel.seat m.slots.items c.in-OfProcess.slot c.in-Some.slot_process at (v.1).invariant

pub fill-requires-in-OfProcess-clause-held : goal.fill-requires-in-OfProcess-clause-held
fill-requires-in-OfProcess-clause-held c =
    let m = c.args.self.now in
    let r = c.requires.present in
    let v = c.requires.world in
    let at = tenant_is m c.args.table c.in-OfProcess.slot c.in-OfProcess.is (table_there m v.0 v.1 c.args.hart r.0 r.1 c.args.table r.2) _ c.index_mut.ensures.value c.in-Some.slot_process c.in-Some.is in
    let p = process_at m v.0 v.1 c.in-OfProcess.slot c.in-Some.slot_process at in
    ((v.1).tables c.in-OfProcess.slot, tables_of_scheme ((p.2).agrees.lays.scheme ∙ sym c.scheme-scheme.ensures) (p.2).agrees.stands.tables)

pub returns-in-Some-clause-made : goal.returns-in-Some-clause-made
returns-in-Some-clause-made c w is =
    let m = c.args.self.now in
    let r = c.requires.present in
    let x = c.index_mut-hart in
    let f = c.fill-in-OfProcess in
    let s = c.in-OfProcess.slot in
    let z = c.in-Some.slot_process in
    let at = tenant_is m c.args.table s c.in-OfProcess.is (table_there m w is c.args.hart r.0 r.1 c.args.table r.2) _ c.index_mut.ensures.value z c.in-Some.is in
    let kept = keeps_of_process m w is c.asid-asid.result c.args.va.0 x.result.now f.new.self c.args.table s c.in-OfProcess.is z at c.scheme-scheme.result c.scheme-scheme.ensures f.ensures.kept in
    rw (f.ensures.same, f.ensures.view)
    (fills _ w (put_back m w is s z at) c.args.hart c.args.va.0 r.0 r.1 c.args.table r.2 x.result.now x.ensures.value f.ensures.few c.asid-asid.result c.asid-asid.ensures f.new.self kept f.result f.ensures.number)

pub returns-in-Some-clause-entries : goal.returns-in-Some-clause-entries
returns-in-Some-clause-entries c w is =
    let m = c.args.self.now in
    let r = c.requires.present in
    let x = c.index_mut-hart in
    let f = c.fill-in-OfProcess in
    let s = c.in-OfProcess.slot in
    let z = c.in-Some.slot_process in
    let at = tenant_is m c.args.table s c.in-OfProcess.is (table_there m w is c.args.hart r.0 r.1 c.args.table r.2) _ c.index_mut.ensures.value z c.in-Some.is in
    let kept = keeps_of_process m w is c.asid-asid.result c.args.va.0 x.result.now f.new.self c.args.table s c.in-OfProcess.is z at c.scheme-scheme.result c.scheme-scheme.ensures f.ensures.kept in
    filled_are m c.args.hart x.result.now f.new.self x.ensures.value is.tables is.kernel r.0 r.1 c.args.table r.2 c.args.va.0 c.asid-asid.result c.asid-asid.ensures kept f.result

pub asid-asid-requires : goal.asid-asid-requires
asid-asid-requires c =
    let m = c.args.self.now in
    let r = c.requires.present in
    let v = c.requires.world in
    let x = c.index_mut-hart in
    record { slot = slot_low m v.0 v.1 c.args.hart x.result.now (r.1 ∙ ap Some (sym (x.ensures.value ∙ get_or_from_slice_get m.harts.items c.args.hart r.0 _ r.1))) }

pub returns-in-OfKernel-clause-places : goal.returns-in-OfKernel-clause-places
returns-in-OfKernel-clause-places c = rw c.fill.ensures.view (refl, refl)

pub returns-in-Some-clause-places : goal.returns-in-Some-clause-places
returns-in-Some-clause-places c =
    let m = c.args.self.now in
    let r = c.requires.present in
    let v = c.requires.world in
    let f = c.fill-in-OfProcess in
    let s = c.in-OfProcess.slot in
    let z = c.in-Some.slot_process in
    let at = tenant_is m c.args.table s c.in-OfProcess.is (table_there m v.0 v.1 c.args.hart r.0 r.1 c.args.table r.2) _ c.index_mut.ensures.value z c.in-Some.is in
    rw f.ensures.view (place_set_back m.slots.items s (Some z) at, refl)
