use Rattle.std.proofs.Common.{subst, sym}
use Rattle.sv39_entry.specs.declared.scheme.Scheme.{Scheme}
use Rattle.table_walk.specs.Tables.{AreTables}
use Rattle.hart_machine.specs.SeenTables.{word_at}
use Rattle.hart_machine.specs.Tables.{tables_of}
use Rattle.hart_machine.specs.Worlds.{seats_of}
use Rattle.hart_machine.specs.declared.translation.SatpTable.{SatpTable}
use Rattle.hart_machine.proofs.AccessingWorlds.{seat_fits}
use Rattle.hart_machine.proofs.HartSteps.{process_at}
use Rattle.hart_machine.proofs.PresentTables.{tenant_is}
use Rattle.hart_machine.proofs.SeenWords.{tables_seen}
use Rattle.hart_machine.specs.SlotProcesses.{view_of}
use Rattle.hart_machine.proofs.machine.Machine.root_of.Goals as goal

pub returns-in-OfKernel : goal.returns-in-OfKernel
returns-in-OfKernel c w is =
    let m = c.args.self.now in
    let seen = tables_seen m.frames m.kernel.seat (seats_of m.slots.items, is.invariant) m.kernel.scheme m.kernel.root.0 is.kernel is.of_kernel.maps.tables in
    subst (λ (t : SatpTable). AreTables w.scheme (word_at m.frames.words) m.kernel.root.0 (tables_of is.tables is.kernel t)) (sym c.in-OfKernel.is)
    (subst (λ (z : Scheme). AreTables z (word_at m.frames.words) m.kernel.root.0 is.kernel) is.scheme seen)

pub returns-in-Some : goal.returns-in-Some
returns-in-Some c w is =
    let m = c.args.self.now in
    let s = c.in-OfProcess.slot in
    let x = c.in-Some.slot_process in
    let at = tenant_is m c.args.table s c.in-OfProcess.is c.requires.there _ c.index.ensures x c.in-Some.is in
    let p = process_at m w is s x at in
    let seen = tables_seen m.frames (view_of x) (seat_fits m.frames m.kernel.seat m.slots.items s x at is.invariant) (p.0).scheme x.space.root.0 (is.tables s) (p.2).agrees.stands.tables in
    subst (λ (t : SatpTable). AreTables w.scheme (word_at m.frames.words) x.space.root.0 (tables_of is.tables is.kernel t)) (sym c.in-OfProcess.is)
    (subst (λ (z : Scheme). AreTables z (word_at m.frames.words) x.space.root.0 (is.tables s)) (is.schemes s p.0 p.1) seen)
