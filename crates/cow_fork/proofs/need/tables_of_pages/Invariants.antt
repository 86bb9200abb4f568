use Rattle.std.proofs.Common.{ℕ, ◌+◌, ◌*◌, ◌/◌, ◌≤◌, drop}
use Rattle.address_space.specs.SettledLists.{AreSettled}
use Rattle.process_model.specs.Process.{Process}
use Rattle.table_walk.specs.Tables.{Tables}
use Rattle.cow_fork.proofs.Counting.{CountsBelow}
use Rattle.cow_fork.proofs.need.tables_of_pages.Given as goal
use Rattle.sv39_entry.specs.Schemes.{trapframe_page}

-- the tables of the pages before this one are counted
abbrev pub invariant-pages : goal.invariant-pages
invariant-pages l = record {
  few : l.count ≤ l.page-index;
  counted : (t : Tables) (p : Process) → AreSettled t p 0 (trapframe_page p.scheme) l.settled
      → (first : ℕ) × (first ≤ l.table * l.pages) × (l.table ≤ (trapframe_page p.scheme) / l.pages + 1) × CountsBelow l.pages p.settled l.count l.table × AreSettled t p first (trapframe_page p.scheme) (drop l.page-index l.settled);
}
