use Rattle.std.proofs.Common.{◌≡◌, ◌≤◌, ◌+◌, ◌-◌, length}
use Rattle.address_space.specs.Agreement.{body_of, no_extra}
use Rattle.address_space.specs.SpacesInCalls.{IsSpaceInCall}
use Rattle.address_space.specs.Layouts.{region_of}
use Rattle.frame_store.specs.Laws.{KeepsSeats}
use Rattle.mmap_regions.specs.Runs.{IsRunOf, run_of}
use Rattle.process_model.specs.PageMoves.{run_moves}
use Rattle.process_model.specs.Process.{Process}
use Rattle.table_walk.specs.LastTables.{IsLastTable}
use Rattle.table_walk.specs.Tables.{Tables}
use Rattle.mmap_regions.proofs.dirty_pages.write_run.Given as goal

-- the pages before this one are written
abbrev pub invariant-pages : goal.invariant-pages
invariant-pages g l = record {
  after : l.run.first ≤ l.from;
  within : l.from ≤ l.run.end;
  root : l.space.root ≡ l.fn.space.root;
  trapframe : l.space.trapframe ≡ l.fn.space.trapframe;
  layout : l.space.layout ≡ l.fn.space.layout;
  view : g.S.FrameSeat.view l.space.seat ≡ g.S.FrameSeat.view l.fn.space.seat;
  same : l.store ≡ l.fn.store;
  keeps : KeepsSeats g.F.FrameAccess.invariant l.fn.store l.fn.space.seat l.store l.space.seat;
  kept : (t : Tables) (p : Process) → IsSpaceInCall (body_of g.S.FrameSeat.view l.fn.space) t p no_extra → IsLastTable p.scheme t l.last;
  moves : (t : Tables) (p : Process) → IsSpaceInCall (body_of g.S.FrameSeat.view l.fn.space) t p no_extra → IsRunOf p (run_of l.run)
      → g.C.Files.becomes l.fn.files (run_moves p (region_of l.run.mapping) l.run.first l.from) l.files;
  rest : (t : Tables) (p : Process) → IsSpaceInCall (body_of g.S.FrameSeat.view l.fn.space) t p no_extra → IsRunOf p (run_of l.run)
      → g.C.Files.room l.fn.files ≤ length (run_moves p (region_of l.run.mapping) l.run.first l.from) + g.C.Files.room l.files;
}

abbrev pub decreases-pages : goal.decreases-pages
decreases-pages g l = l.run.end - l.from
