use Rattle.std.proofs.Common.{◌≡◌, ◌≤◌, ◌+◌, ◌-◌, length}
use Rattle.address_space.specs.Agreement.{body_of, IsSpace}
use Rattle.address_space.specs.Layouts.{region_of}
use Rattle.frame_store.specs.Laws.{KeepsSeats}
use Rattle.mmap_regions.specs.Runs.{IsRunOf, run_of}
use Rattle.process_model.specs.PageMoves.{run_moves}
use Rattle.process_model.specs.Process.{Process}
use Rattle.table_walk.specs.LastTables.{IsLastTable}
use Rattle.table_walk.specs.Tables.{Tables}
use Rattle.mmap_regions.proofs.dirty_pages.count_run.Given as goal

-- the pages before this one are counted
abbrev pub invariant-pages : goal.invariant-pages
invariant-pages g l = record {
  after : l.run.first ≤ l.from;
  within : l.from ≤ l.run.end;
  few : l.run.first + l.count ≤ l.from;
  root : l.space.root ≡ l.fn.space.root;
  trapframe : l.space.trapframe ≡ l.fn.space.trapframe;
  layout : l.space.layout ≡ l.fn.space.layout;
  view : g.S.FrameSeat.view l.space.seat ≡ g.S.FrameSeat.view l.fn.space.seat;
  same : l.store ≡ l.fn.store;
  keeps : KeepsSeats g.F.FrameAccess.invariant l.fn.store l.fn.space.seat l.store l.space.seat;
  kept : (t : Tables) (p : Process) → IsSpace (body_of g.S.FrameSeat.view l.fn.space) t p → IsLastTable p.scheme t l.last;
  count : (t : Tables) (p : Process) → IsSpace (body_of g.S.FrameSeat.view l.fn.space) t p → IsRunOf p (run_of l.run) → l.count ≡ length (run_moves p (region_of l.run.mapping) l.run.first l.from);
}

abbrev pub decreases-pages : goal.decreases-pages
decreases-pages g l = l.run.end - l.from
