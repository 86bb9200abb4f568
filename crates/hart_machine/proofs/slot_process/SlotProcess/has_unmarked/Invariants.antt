use Rattle.std.proofs.Common.{ℕ, drop}
use Rattle.address_space.specs.SettledLists.{AreSettled}
use Rattle.process_model.specs.Process.{Process}
use Rattle.table_walk.specs.Tables.{Tables}
use Rattle.hart_machine.specs.SlotProcesses.{IsSlotProcess}
use Rattle.hart_machine.proofs.Watched.{AreMarkedBelow}
use Rattle.hart_machine.proofs.slot_process.SlotProcess.has_unmarked.Given as goal
use Rattle.sv39_entry.specs.Schemes.{trapframe_page}

-- no page before this one is one that is looked for
abbrev pub invariant-pages : goal.invariant-pages
invariant-pages l = record {
  marked : (t : Tables) (p : Process) → IsSlotProcess l.self t p → AreSettled t p 0 (trapframe_page p.scheme) l.settled
      → (first : ℕ) × AreMarkedBelow p first × AreSettled t p first (trapframe_page p.scheme) (drop l.page-index l.settled);
}
