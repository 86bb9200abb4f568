use Rattle.std.proofs.Common.{ℕ, List}
use Rattle.frame_store.specs.Laws.{KeepsSeats}
use Rattle.table_walk.specs.Tables.{Tables}
use Rattle.address_space.specs.Kernel.{IsKernelTable}
use Rattle.tests_of_processes.proofs.kernel_table.first_wrong.Given as goal

abbrev pub invariant-loop-row : goal.invariant-loop-row
invariant-loop-row g l = record {
  built : (stacks : List ℕ) × (t : Tables) × IsKernelTable l.kernel.scheme (g.S.FrameSeat.view l.kernel.seat) l.kernel.root.0 64 4 stacks t;
  keeps : KeepsSeats g.F.FrameAccess.invariant l.fn.store l.fn.seat l.store l.kernel.seat;
}
