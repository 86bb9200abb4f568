use Rattle.std.proofs.Common.{◌≤◌, ◌-◌, ℕ, max, ◌≡◌}
use Rattle.address_space.specs.Agreement.{no_extra, IsInMemory}
use Rattle.address_space.specs.SpaceTeardown.{DropsRun}
use Rattle.frame_store.specs.Laws.{KeepsSeats}
use Rattle.process_model.specs.Process.{Process}
use Rattle.table_walk.specs.LastTables.{IsLastTable}
use Rattle.table_walk.specs.Tables.{Tables}
use Rattle.address_space.proofs.teardown.drop_run.Given as goal

-- the pages before this one are dropped
abbrev pub invariant-pages : goal.invariant-pages
invariant-pages g l = record {
  after : l.fn.first ≤ l.from;
  within : l.from ≤ max l.fn.first l.fn.end;
  dropped : (trapframe : ℕ) (t : Tables) (p : Process) → p.scheme ≡ l.fn.scheme → IsInMemory (g.F.Seat.FrameSeat.view l.fn.seat) l.fn.root.0 trapframe no_extra t p
      → (u : Tables) × DropsRun (g.F.Seat.FrameSeat.view l.fn.seat) (g.F.Seat.FrameSeat.view l.seat) l.fn.root.0 trapframe t u p l.fn.first l.from;
  kept : (trapframe : ℕ) (t : Tables) (p : Process) → p.scheme ≡ l.fn.scheme → IsInMemory (g.F.Seat.FrameSeat.view l.fn.seat) l.fn.root.0 trapframe no_extra t p
      → IsLastTable l.fn.scheme t l.last;
  keeps : KeepsSeats g.F.FrameAccess.invariant l.fn.store l.fn.seat l.store l.seat;
  free : g.F.FrameAccess.alone → g.F.FrameAccess.free l.fn.store ≤ g.F.FrameAccess.free l.store;
}

abbrev pub decreases-pages : goal.decreases-pages
decreases-pages g l = l.end - l.from
