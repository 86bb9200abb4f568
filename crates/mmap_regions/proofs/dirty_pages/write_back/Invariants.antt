use Rattle.std.proofs.Common.{◌≡◌, ◌≤◌, ◌+◌, length}
use Rattle.address_space.specs.Agreement.{body_of, no_extra}
use Rattle.address_space.specs.SpacesInCalls.{IsSpaceInCall}
use Rattle.frame_store.specs.Laws.{KeepsSeats}
use Rattle.mmap_regions.proofs.Wholes.{moves_before}
use Rattle.process_model.specs.Process.{Process}
use Rattle.table_walk.specs.Tables.{Tables}
use Rattle.mmap_regions.proofs.dirty_pages.write_back.Given as goal

-- the mappings before this one are written
abbrev pub invariant-runs : goal.invariant-runs
invariant-runs g l = record {
  root : l.space.root ≡ l.fn.space.root;
  trapframe : l.space.trapframe ≡ l.fn.space.trapframe;
  layout : l.space.layout ≡ l.fn.space.layout;
  view : g.S.FrameSeat.view l.space.seat ≡ g.S.FrameSeat.view l.fn.space.seat;
  same : l.store ≡ l.fn.store;
  keeps : KeepsSeats g.F.FrameAccess.invariant l.fn.store l.fn.space.seat l.store l.space.seat;
  moves : (t : Tables) (p : Process) → IsSpaceInCall (body_of g.S.FrameSeat.view l.fn.space) t p no_extra → g.C.Files.becomes l.fn.files (moves_before p l.i) l.files;
  rest : (t : Tables) (p : Process) → IsSpaceInCall (body_of g.S.FrameSeat.view l.fn.space) t p no_extra
      → g.C.Files.room l.fn.files ≤ length (moves_before p l.i) + g.C.Files.room l.files;
}
