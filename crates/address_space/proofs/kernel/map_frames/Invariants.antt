use Rattle.std.proofs.Common.{◌≡◌, ℕ, List}
use Rattle.frame_store.specs.Laws.{KeepsSeats}
use Rattle.table_walk.specs.Tables.{Tables}
use Rattle.address_space.specs.Kernel.{direct_tables, MapsKernel}
use Rattle.address_space.specs.Steps.{SpendsCredits}
use Rattle.address_space.proofs.kernel.map_frames.Given as goal

-- so many frames are mapped
abbrev pub invariant-loop-number : goal.invariant-loop-number
invariant-loop-number g l = record {
  mapped : (stacks : List ℕ) (t : Tables) → MapsKernel l.fn.scheme (g.F.Seat.FrameSeat.view l.fn.seat) l.fn.root.0 0 stacks t
      → (u : Tables) × MapsKernel l.fn.scheme (g.F.Seat.FrameSeat.view l.seat) l.fn.root.0 l.number stacks u;
  spends : SpendsCredits (g.F.Seat.FrameSeat.view l.fn.seat) (g.F.Seat.FrameSeat.view l.seat) (direct_tables l.fn.scheme l.number);
  keeps : KeepsSeats g.F.FrameAccess.invariant l.fn.store l.fn.seat l.store l.seat;
  free : g.F.FrameAccess.alone → g.F.FrameAccess.free l.store ≡ g.F.FrameAccess.free l.fn.store;
}
