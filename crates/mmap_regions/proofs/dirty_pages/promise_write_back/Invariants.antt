use Rattle.std.proofs.Common.{◌≡◌, ◌≤◌, Some, length}
use Rattle.std.specs.Prelude.{slice_get}
use Rattle.address_space.specs.Agreement.{body_of, IsSpace}
use Rattle.frame_store.specs.Laws.{KeepsSeats}
use Rattle.mmap_regions.proofs.Wholes.{moves_before}
use Rattle.process_model.specs.Process.{Process}
use Rattle.process_model.specs.Regions.{Region}
use Rattle.table_walk.specs.Tables.{Tables}
use Rattle.mmap_regions.proofs.dirty_pages.promise_write_back.Given as goal

-- the pages of the mappings before this one are counted: they lie below its first page, so they are not more than these
abbrev pub invariant-runs : goal.invariant-runs
invariant-runs g l = record {
  few : (t : Tables) (p : Process) → IsSpace (body_of g.S.FrameSeat.view l.fn.space) t p → (m : Region) → slice_get p.mappings l.i ≡ Some m → l.pages ≤ m.first;
  root : l.space.root ≡ l.fn.space.root;
  trapframe : l.space.trapframe ≡ l.fn.space.trapframe;
  layout : l.space.layout ≡ l.fn.space.layout;
  view : g.S.FrameSeat.view l.space.seat ≡ g.S.FrameSeat.view l.fn.space.seat;
  same : l.store ≡ l.fn.store;
  keeps : KeepsSeats g.F.FrameAccess.invariant l.fn.store l.fn.space.seat l.store l.space.seat;
  counted : (t : Tables) (p : Process) → IsSpace (body_of g.S.FrameSeat.view l.fn.space) t p → l.pages ≡ length (moves_before p l.i);
}
