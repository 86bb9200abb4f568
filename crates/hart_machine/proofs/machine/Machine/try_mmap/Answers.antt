use Rattle.std.proofs.Common.{◌∙◌, ◌<◌, Some, ap, refl, subst, sym}
use Rattle.std.proofs.lemmas.Option.{get_or_from_slice_get, slice_get_within}
use Rattle.std.proofs.lemmas.Result.{err_from_is_err_and}
use Rattle.mmap_regions.specs.MmapEffect.{process_mapped}
use Rattle.process_model.specs.Mappings.{mapped}
use Rattle.process_model.specs.World.{refuses}
use Rattle.hart_machine.proofs.AccessingWorlds.{slot_has}
use Rattle.hart_machine.proofs.HartSteps.{process_at, refused}
use Rattle.hart_machine.proofs.KeptTables.{nothing_moved, one_below}
use Rattle.hart_machine.proofs.Mapping.{below_mapped, maps}
use Rattle.hart_machine.proofs.machine.Machine.try_mmap.Goals as goal

pub returns-in_err-slot-clause-made : goal.returns-in_err-slot-clause-made
returns-in_err-slot-clause-made c w is =
    let told = err_from_is_err_and c.from_residual.result c.from_residual.ensures.1 in
    rw told.1 (refused c.args.self.now w is told.0 _ (c.in_err-slot.ensures.refused w _ is ∙ ap (refuses w) (sym told.2)))

pub index_mut-requires : goal.index_mut-requires
index_mut-requires c =
    let m = c.args.self.now in
    let r = c.requires.world in
    let caller = c.in_ok-slot.ensures.there r.0 r.1 in
    subst (λ n. c.in_ok-slot.slot < n) (sym m.slots.ok.0) (slice_get_within m.slots.items c.in_ok-slot.slot _ caller.place)

pub unreachable-requires : goal.unreachable-requires
unreachable-requires c =
    let r = c.requires.world in
    let caller = c.in_ok-slot.ensures.there r.0 r.1 in
    let both = sym c.in_default.is ∙ c.index_mut.ensures.value ∙ get_or_from_slice_get c.args.self.now.slots.items c.in_ok-slot.slot (Some caller.slot_process) _ caller.place in
    cc

pub mmap-requires : goal.mmap-requires
mmap-requires c = record {
  ready =
      let m = c.args.self.now in
      let r = c.requires.world in
      let caller = c.in_ok-slot.ensures.there r.0 r.1 in
      let there = slot_has m.slots.items c.in_ok-slot.slot caller.slot_process c.in-Some.slot_process _ c.in-Some.is c.index_mut.ensures.value caller.place in
      let found = process_at m r.0 r.1 c.in_ok-slot.slot c.in-Some.slot_process there in
      ((r.1).tables c.in_ok-slot.slot, found.0, found.2);
}

pub returns-clause-made : goal.returns-clause-made
returns-clause-made c w is =
    let m = c.args.self.now in
    let caller = c.in_ok-slot.ensures.there w is in
    let there = slot_has m.slots.items c.in_ok-slot.slot caller.slot_process c.in-Some.slot_process _ c.in-Some.is c.index_mut.ensures.value caller.place in
    let y = c.mmap in
    maps m w is c.args.hart c.in_ok-slot.slot caller c.in-Some.slot_process y.new.self there c.args.length c.args.protection c.args.flags c.args.file y.result
    y.ensures.view y.ensures.answer y.ensures.after y.ensures.refused

pub returns-in_err-slot-clause-same_tables : goal.returns-in_err-slot-clause-same_tables
returns-in_err-slot-clause-same_tables c = nothing_moved c.args.self.now

pub returns-clause-same_tables : goal.returns-clause-same_tables
returns-clause-same_tables c =
    let m = c.args.self.now in
    let r = c.requires.world in
    let caller = c.in_ok-slot.ensures.there r.0 r.1 in
    let there = slot_has m.slots.items c.in_ok-slot.slot caller.slot_process c.in-Some.slot_process _ c.in-Some.is c.index_mut.ensures.value caller.place in
    let y = c.mmap in
    one_below m _ c.in_ok-slot.slot c.in-Some.slot_process y.new.self there refl refl (λ t p a. below_mapped c.in-Some.slot_process y.new.self t p a y.result (λ q. process_mapped q (mapped m.files q c.args.length c.args.protection c.args.flags c.args.file)) y.ensures.after y.ensures.refused)
