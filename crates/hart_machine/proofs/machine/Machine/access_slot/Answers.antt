use Rattle.std.proofs.Common.{◌≡◌, ◌∙◌, ◌<◌, Some, refl, subst, sym, ap}
use Rattle.std.specs.Prelude.{IfSome}
use Rattle.std.proofs.lemmas.Option.{get_or_from_slice_get, same_Some, slice_get_within}
use Rattle.address_space.specs.Accesses.{request_of}
use Rattle.sv39_entry.specs.declared.access.Mode.TheVariants.{User}
use Rattle.hart_machine.specs.Accesses.{IsWalked}
use Rattle.hart_machine.specs.SlotProcesses.{IsSlotProcess, view_of}
use Rattle.hart_machine.proofs.AccessingWorlds.{access_changes, seat_fits, slot_has}
use Rattle.hart_machine.proofs.HartSteps.{process_at}
use Rattle.hart_machine.proofs.KeptTables.{one_below}
use Rattle.hart_machine.proofs.OneTables.{one_answer, one_tables}
use Rattle.hart_machine.proofs.machine.Machine.access_slot.Goals as goal
use Rattle.table_walk.specs.Leaves.{walk_answer}
use Rattle.table_walk.specs.LowPages.{tables_of_scheme}
use Rattle.table_walk.specs.declared.walk.Walk.{Walk}

pub index_mut-requires : goal.index_mut-requires
index_mut-requires c =
    let m = c.args.self.now in
    subst (λ n. c.args.slot < n) (sym m.slots.ok.0) (slice_get_within m.slots.items c.args.slot _ c.requires.ready.3)

pub unreachable-requires : goal.unreachable-requires
unreachable-requires c =
    let r = c.requires.ready in
    let both = sym c.in_default.is ∙ c.index_mut.ensures.value ∙ get_or_from_slice_get c.args.self.now.slots.items c.args.slot (Some r.2) _ r.3 in
    cc

pub access-requires-clause-fits : goal.access-requires-clause-fits
access-requires-clause-fits c =
    let r = c.requires.ready in
    let m = c.args.self.now in
    let there = slot_has m.slots.items c.args.slot r.2 c.in-Some.slot_process _ c.in-Some.is c.index_mut.ensures.value r.3 in
    seat_fits m.frames m.kernel.seat m.slots.items c.args.slot c.in-Some.slot_process there (r.1).invariant

pub access-requires-clause-ready : goal.access-requires-clause-ready
access-requires-clause-ready c =
    let r = c.requires.ready in
    let m = c.args.self.now in
    let there = slot_has m.slots.items c.args.slot r.2 c.in-Some.slot_process _ c.in-Some.is c.index_mut.ensures.value r.3 in
    let found = process_at m r.0 r.1 c.args.slot c.in-Some.slot_process there in
    ((r.1).tables c.args.slot, found.0, found.2, subst (λ k. IsWalked k ((r.1).tables c.args.slot) c.args.request.va.0 c.args.request.access c.args.by_entry) (sym ((r.1).schemes c.args.slot found.0 found.1)) r.4)

pub returns-clause-made : goal.returns-clause-made
returns-clause-made c w is p at given =
    let m = c.args.self.now in
    let r = c.requires.ready in
    let there = slot_has m.slots.items c.args.slot r.2 c.in-Some.slot_process _ c.in-Some.is c.index_mut.ensures.value r.3 in
    let found = process_at m w is c.args.slot c.in-Some.slot_process there in
    let slot_process = subst (λ q. IsSlotProcess c.in-Some.slot_process (is.tables c.args.slot) q) (same_Some _ _ (same_Some _ _ (sym found.1 ∙ at))) found.2 in
    let walked = subst (λ k. IsWalked k (is.tables c.args.slot) c.args.request.va.0 c.args.request.access c.args.by_entry) (sym (is.schemes c.args.slot p at)) given in (
      c.access.ensures.reply (is.tables c.args.slot) p slot_process walked,
      access_changes m w is c.args.slot c.in-Some.slot_process c.access.new.self p there at (request_of c.args.request) slot_process
          (c.access.ensures.after (is.tables c.args.slot) p slot_process walked) c.access.new.frames c.access.ensures.keeps,
    )

pub returns-clause-same_tables : goal.returns-clause-same_tables
returns-clause-same_tables c =
    let m = c.args.self.now in
    let r = c.requires.ready in
    let there = slot_has m.slots.items c.args.slot r.2 c.in-Some.slot_process _ c.in-Some.is c.index_mut.ensures.value r.3 in
    let found = process_at m r.0 r.1 c.args.slot c.in-Some.slot_process there in
    let before = found.2 in
    one_below m _ c.args.slot c.in-Some.slot_process c.access.new.self there refl refl (λ t p a. (
      _,
      c.access.ensures.after t p a
          (subst (λ (z : Walk). IfSome c.args.by_entry (λ walk. walk ≡ z)) (one_answer (r.0).scheme ((r.1).tables c.args.slot) t c.args.request.va.0 c.args.request.access User
          (one_tables (view_of c.in-Some.slot_process) c.in-Some.slot_process.space.root.0 ((r.1).tables c.args.slot) t before.agrees.stands.tables
          (tables_of_scheme (a.agrees.lays.scheme ∙ sym before.agrees.lays.scheme) a.agrees.stands.tables))
          ∙ ap (λ k. walk_answer k t c.args.request.va.0 c.args.request.access User) (sym ((r.1).schemes c.args.slot found.0 found.1) ∙ before.agrees.lays.scheme ∙ sym a.agrees.lays.scheme)) r.4),
    ))
