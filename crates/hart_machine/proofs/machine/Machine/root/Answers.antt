use Rattle.std.proofs.Common.{◌∙◌, ap, ℕ, Some, subst, sym}
use Rattle.std.specs.Prelude.{slice_get}
use Rattle.std.proofs.lemmas.Option.{same_Some}
use Rattle.sv39_entry.specs.declared.frame.FrameNo.{FrameNo}
use Rattle.hart_machine.specs.SeenTables.{SeesTables}
use Rattle.hart_machine.proofs.SeenWords.{there_is}
use Rattle.hart_machine.proofs.machine.Machine.root.Goals as goal

pub root_of-requires : goal.root_of-requires
root_of-requires c =
    let m = c.args.self.now in
    let r = c.requires.world in
    let is = (r.1).world in
    record { there = there_is (slice_get m.slots.items c.args.slot) (slice_get (r.0).slots c.args.slot) (is.tables c.args.slot) (is.places c.args.slot) (sym (c.has_process.ensures r.0 is) ∙ c.if-has_process.true) }

pub returns-then-has_process-clause-tables : goal.returns-then-has_process-clause-tables
returns-then-has_process-clause-tables c w is root same =
    subst (λ (r : FrameNo). SeesTables c.args.self.now w.scheme r.0 ((is.world).tables c.args.slot)) (same_Some _ _ same) (c.root_of.ensures w is.world)
