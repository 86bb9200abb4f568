use Rattle.std.proofs.Common.{◌≡◌}
use Rattle.frame_store.specs.Laws.{KeepsSeats}
use Rattle.process_model.specs.Process.{Process}
use Rattle.table_walk.specs.LastTables.{IsLastTable}
use Rattle.table_walk.specs.Tables.{Tables}
use Rattle.address_space.specs.Layouts.{region_of}
use Rattle.cow_fork.specs.Children.{CanCopy, IsRegionOf}
use Rattle.cow_fork.proofs.Copying.{IsCopied}
use Rattle.cow_fork.proofs.tree.copy_tree.Given as goal

-- the child has the pages before this one
abbrev pub invariant-pages : goal.invariant-pages
invariant-pages g l = record {
  root : l.space.root ≡ l.fn.space.root;
  trapframe : l.space.trapframe ≡ l.fn.space.trapframe;
  layout : l.space.layout ≡ l.fn.space.layout;
  keeps : KeepsSeats g.F.FrameAccess.invariant l.fn.store l.fn.space.seat l.store l.space.seat;
  free : g.F.FrameAccess.alone → g.F.FrameAccess.free l.store ≡ g.F.FrameAccess.free l.fn.store;
  entered : (t : Tables) (p : Process) → CanCopy (g.S.FrameSeat.view l.fn.space.seat) l.fn.space.layout t p l.fn.trapframe.0 l.settled → IsRegionOf p (region_of l.region);
  copied : (t : Tables) (p : Process) → CanCopy (g.S.FrameSeat.view l.fn.space.seat) l.fn.space.layout t p l.fn.trapframe.0 l.settled
      → (so_far : IsCopied (g.S.FrameSeat.view l.fn.space.seat) (g.S.FrameSeat.view l.space.seat) t p l.root.0 l.fn.trapframe.0 l.settled l.page-index)
      × IsLastTable p.scheme so_far.0 l.last;
}
