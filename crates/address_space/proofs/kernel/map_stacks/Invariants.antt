use Rattle.std.proofs.Common.{◌≡◌, ℕ, [], List, length}
use Rattle.frame_store.specs.Laws.{KeepsSeats}
use Rattle.table_walk.specs.Tables.{Tables}
use Rattle.address_space.specs.Kernel.{MapsKernel}
use Rattle.address_space.specs.Steps.{SpendsCredits}
use Rattle.address_space.proofs.kernel.map_stacks.Given as goal

-- so many stacks are mapped
abbrev pub invariant-loop-slot : goal.invariant-loop-slot
invariant-loop-slot g l = record {
  mapped : (t : Tables) → MapsKernel l.fn.scheme (g.F.Seat.FrameSeat.view l.fn.seat) l.fn.root.0 0 [] t
      → (stacks : List ℕ) × (u : Tables) × MapsKernel l.fn.scheme (g.F.Seat.FrameSeat.view l.seat) l.fn.root.0 0 stacks u × (length stacks ≡ l.slot);
  spends : SpendsCredits (g.F.Seat.FrameSeat.view l.fn.seat) (g.F.Seat.FrameSeat.view l.seat) l.slot;
  keeps : KeepsSeats g.F.FrameAccess.invariant l.fn.store l.fn.seat l.store l.seat;
  free : g.F.FrameAccess.alone → g.F.FrameAccess.free l.store ≡ g.F.FrameAccess.free l.fn.store;
}
