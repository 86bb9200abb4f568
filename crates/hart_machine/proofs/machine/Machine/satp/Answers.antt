use Rattle.std.proofs.Common.{◌≡◌, ◌<◌, ◌≤◌, ◌∙◌, ap, ℕ, length, List, None, option_map, refl, Some, subst, sym}
use Rattle.std.specs.Prelude.{is_some, slice_get}
use Rattle.std.proofs.lemmas.Bool.{ltb-false, ltb-true}
use Rattle.std.proofs.lemmas.Option.{same_Some, slice_get_past, slice_get_read}
use Rattle.process_model.specs.Harts.{present_asid}
use Rattle.process_model.specs.declared.config.Policy.{Policy}
use Rattle.sv39_entry.specs.Satp.{asid, mode, root_ppn}
use Rattle.sv39_entry.specs.Schemes.{mode_of}
use Rattle.table_walk.specs.Tables.{AreTables}
use Rattle.hart_machine.specs.Harts.{hart_of}
use Rattle.hart_machine.specs.SeenTables.{word_at}
use Rattle.hart_machine.specs.Tables.{present_table, tables_of}
use Rattle.hart_machine.specs.declared.hart.Hart.{Hart}
use Rattle.hart_machine.specs.declared.translation.SatpTable.{SatpTable}
use Rattle.hart_machine.proofs.FillWorlds.{table_there}
use Rattle.hart_machine.proofs.HartSteps.{slot_low}
use Rattle.hart_machine.proofs.SeenWords.{hart_seen}
use Rattle.hart_machine.proofs.machine.Machine.satp.Goals as goal

pub root_of-root-requires : goal.root_of-root-requires
root_of-root-requires c =
    let m = c.args.self.now in
    let r = c.requires.world in
    let x = c.in-Some.hart.now in
    let at = slice_get_read m.harts.items _ c.args.hart x refl (subst (λ (hs : List Hart). c.args.hart < length hs) c.deref.ensures.value (ltb-true _ _ (sym c.in-Some.ensures.lookup.0))) (c.in-Some.ensures.lookup.1 ∙ rw c.deref.ensures.value refl) in
    record { there = table_there m r.0 (r.1).world c.args.hart x at c.table.result c.table.ensures }

pub asid-requires : goal.asid-requires
asid-requires c =
    let m = c.args.self.now in
    let r = c.requires.world in
    let x = c.in-Some.hart.now in
    let at = slice_get_read m.harts.items _ c.args.hart x refl (subst (λ (hs : List Hart). c.args.hart < length hs) c.deref.ensures.value (ltb-true _ _ (sym c.in-Some.ensures.lookup.0))) (c.in-Some.ensures.lookup.1 ∙ rw c.deref.ensures.value refl) in
    record { slot = slot_low m r.0 (r.1).world c.args.hart x at }

pub returns-in-Some-clause-there : goal.returns-in-Some-clause-there
returns-in-Some-clause-there c w is =
    let m = c.args.self.now in
    let x = c.in-Some.hart.now in
    let at = slice_get_read m.harts.items _ c.args.hart x refl (subst (λ (hs : List Hart). c.args.hart < length hs) c.deref.ensures.value (ltb-true _ _ (sym c.in-Some.ensures.lookup.0))) (c.in-Some.ensures.lookup.1 ∙ rw c.deref.ensures.value refl) in
    sym (ap is_some (hart_seen m w is.world c.args.hart (Some x) at))

pub returns-in-Some-clause-fields : goal.returns-in-Some-clause-fields
returns-in-Some-clause-fields c w is x word there same =
    let m = c.args.self.now in
    let y = c.in-Some.hart.now in
    let at = slice_get_read m.harts.items _ c.args.hart y refl (subst (λ (hs : List Hart). c.args.hart < length hs) c.deref.ensures.value (ltb-true _ _ (sym c.in-Some.ensures.lookup.0))) (c.in-Some.ensures.lookup.1 ∙ rw c.deref.ensures.value refl) in
    let one : hart_of y ≡ x = same_Some _ _ (sym (hart_seen m w is.world c.args.hart (Some y) at) ∙ there) in
    let value : c.new.result ≡ word = same_Some _ _ same in (
      ap mode (sym value) ∙ c.new.ensures.mode ∙ ap mode_of (is.world).scheme,
      ap asid (sym value) ∙ c.new.ensures.asid ∙ c.asid.ensures ∙ ap (λ (p : Policy). present_asid p (hart_of y)) (is.world).policy ∙ ap (present_asid w.policy) one,
    )

pub returns-in-Some-clause-tables : goal.returns-in-Some-clause-tables
returns-in-Some-clause-tables c w is x word there same =
    let m = c.args.self.now in
    let y = c.in-Some.hart.now in
    let at = slice_get_read m.harts.items _ c.args.hart y refl (subst (λ (hs : List Hart). c.args.hart < length hs) c.deref.ensures.value (ltb-true _ _ (sym c.in-Some.ensures.lookup.0))) (c.in-Some.ensures.lookup.1 ∙ rw c.deref.ensures.value refl) in
    let one : y ≡ x = same_Some _ _ (sym at ∙ there) in
    let value : c.new.result ≡ word = same_Some _ _ same in
    let root = (c.root_of-root.result).0 in (
      root,
      ap root_ppn (sym value) ∙ c.new.ensures.root,
      subst (λ (t : SatpTable). AreTables w.scheme (word_at m.frames.words) root (tables_of (is.world).tables (is.world).kernel t)) (c.table.ensures ∙ ap present_table one) (c.root_of-root.ensures w is.world),
    )

pub returns-in-None-clause-there : goal.returns-in-None-clause-there
returns-in-None-clause-there c w is =
    let m = c.args.self.now in
    let none = slice_get_past m.harts.items c.args.hart (subst (λ (hs : List Hart). length hs ≤ c.args.hart) c.deref.ensures.value (ltb-false _ _ (sym c.in-None.ensures.lookup.0))) in
    sym (ap is_some (hart_seen m w is.world c.args.hart None none))
