use Rattle.std.proofs.Common.{◌∙◌, ◌<◌, ℕ, Bool, Some, ap, refl, subst, sym}
use Rattle.std.specs.Prelude.{Err, IfErr, Ok, Result}
use Rattle.std.proofs.lemmas.Option.{get_or_from_slice_get, slice_get_within}
use Rattle.process_model.specs.World.{is_unserved_access}
use Rattle.sv39_entry.specs.declared.rule.Rule.{Rule}
use Rattle.hart_machine.specs.Worlds.{KeepsOtherSlots}
use Rattle.hart_machine.specs.declared.machine.Machine.{Machine}
use Rattle.hart_machine.proofs.AccessingWorlds.{seat_fits, slot_has}
use Rattle.hart_machine.proofs.HartSteps.{tenant_is}
use Rattle.hart_machine.proofs.KeptTables.{one_other}
use Rattle.hart_machine.proofs.ServedWorlds.{ending_by, marked_by, served_by, tables_by}
use Rattle.hart_machine.proofs.machine.Machine.serve_slot.Goals as goal

pub index_mut-requires : goal.index_mut-requires
index_mut-requires c =
    let m = c.args.self.now in
    let r = c.requires.world in
    let k = r.3 in
    subst (λ n. c.args.slot < n) (sym m.slots.ok.0) (slice_get_within m.slots.items c.args.slot _ k.place)

pub unreachable-requires : goal.unreachable-requires
unreachable-requires c =
    let r = c.requires.world in
    let k = r.3 in
    let both = sym c.in_default.is ∙ c.index_mut.ensures.value ∙ get_or_from_slice_get c.args.self.now.slots.items c.args.slot (Some k.slot_process) _ k.place in
    cc

pub serve-requires-clause-fits : goal.serve-requires-clause-fits
serve-requires-clause-fits c =
    let m = c.args.self.now in
    let r = c.requires.world in
    let k = r.3 in
    let there = slot_has m.slots.items c.args.slot k.slot_process c.in-Some.slot_process _ c.in-Some.is c.index_mut.ensures.value k.place in
    seat_fits m.frames m.kernel.seat m.slots.items c.args.slot c.in-Some.slot_process there (r.2).invariant

pub serve-requires-clause-ready : goal.serve-requires-clause-ready
serve-requires-clause-ready c =
    let m = c.args.self.now in
    let r = c.requires.world in
    let k = r.3 in
    let there = slot_has m.slots.items c.args.slot k.slot_process c.in-Some.slot_process _ c.in-Some.is c.index_mut.ensures.value k.place in
    ((r.2).tables c.args.slot, k.process, tenant_is m r.0 r.2 c.args.slot c.in-Some.slot_process k.process there k.in_slot)

pub serve-requires-clause-waits : goal.serve-requires-clause-waits
serve-requires-clause-waits c t p slot_process =
    let m = c.args.self.now in
    let r = c.requires.world in
    let k = r.3 in
    let there = slot_has m.slots.items c.args.slot k.slot_process c.in-Some.slot_process _ c.in-Some.is c.index_mut.ensures.value k.place in
    let own = tenant_is m r.0 r.2 c.args.slot c.in-Some.slot_process k.process there k.in_slot in
    ap is_unserved_access (slot_process.pending ∙ sym own.pending) ∙ k.unserved

pub returns-clause-ready : goal.returns-clause-ready
returns-clause-ready c =
    let m = c.args.self.now in
    let e = c.serve.ensures in
    served_by m c.args.slot c.in-Some.slot_process c.serve.new.self (λ w h k. slot_has m.slots.items c.args.slot k.slot_process c.in-Some.slot_process _ c.in-Some.is c.index_mut.ensures.value k.place)
    c.serve.new.frames e.keeps c.serve.new.files e.files c.serve.result e.served

pub returns-clause-must_end : goal.returns-clause-must_end
returns-clause-must_end c =
    let m = c.args.self.now in
    let e = c.serve.ensures in
    ending_by m c.args.slot c.in-Some.slot_process c.serve.new.self (λ w h k. slot_has m.slots.items c.args.slot k.slot_process c.in-Some.slot_process _ c.in-Some.is c.index_mut.ensures.value k.place)
    c.serve.new.frames e.keeps c.serve.new.files e.files c.serve.result e.must_end

pub returns-clause-changed : goal.returns-clause-changed
returns-clause-changed c =
    let m = c.args.self.now in
    let e = c.serve.ensures in
    marked_by m c.args.slot c.in-Some.slot_process c.serve.new.self (λ w h k. slot_has m.slots.items c.args.slot k.slot_process c.in-Some.slot_process _ c.in-Some.is c.index_mut.ensures.value k.place)
    c.serve.new.frames e.keeps c.serve.new.files e.files c.serve.result e.served e.changed

pub returns-clause-tables : goal.returns-clause-tables
returns-clause-tables c =
    let m = c.args.self.now in
    let e = c.serve.ensures in
    tables_by m c.args.slot c.in-Some.slot_process c.serve.new.self (λ w h k. slot_has m.slots.items c.args.slot k.slot_process c.in-Some.slot_process _ c.in-Some.is c.index_mut.ensures.value k.place)
    c.serve.new.frames e.keeps c.serve.new.files e.files c.serve.result e.served e.trapframe

-- what holds whatever is answered holds of an error
if_err : (r : Result Bool Rule) (m n : Machine) (s : ℕ) → KeepsOtherSlots m n s → IfErr r (λ _. KeepsOtherSlots m n s)
if_err (Ok b) m n s keeps = tt
if_err (Err e) m n s keeps = keeps

pub returns-clause-others : goal.returns-clause-others
returns-clause-others c = if_err c.serve.result c.args.self.now _ c.args.slot (one_other c.args.self.now _ c.args.slot (Some c.serve.new.self) refl refl)
