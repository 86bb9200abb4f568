use Rattle.std.proofs.Common.{◌≡◌, ℕ, drop}
use Rattle.address_space.specs.Agreement.{body_of}
use Rattle.address_space.specs.SpacesInCalls.{IsSpaceInCall}
use Rattle.address_space.specs.SettledLists.{AreSettled}
use Rattle.frame_store.specs.Laws.{KeepsSeats}
use Rattle.process_model.specs.Process.{Process}
use Rattle.table_walk.specs.Tables.{Tables}
use Rattle.cow_fork.proofs.Marking.{IsMarking}
use Rattle.cow_fork.proofs.tree.mark_pages.Given as goal
use Rattle.sv39_entry.specs.Schemes.{trapframe_page}

-- the pages before this one were marked
abbrev pub invariant-pages : goal.invariant-pages
invariant-pages g l = record {
  marking : (t : Tables) (p : Process) (extra : ℕ → ℕ) → IsSpaceInCall (body_of g.S.FrameSeat.view l.fn.space) t p extra → AreSettled t p 0 (trapframe_page p.scheme) l.settled
      → IsMarking (body_of g.S.FrameSeat.view l.fn.space) (body_of g.S.FrameSeat.view l.space) t p extra (drop l.page-index l.settled);
  root : l.space.root ≡ l.fn.space.root;
  trapframe : l.space.trapframe ≡ l.fn.space.trapframe;
  layout : l.space.layout ≡ l.fn.space.layout;
  keeps : KeepsSeats g.F.FrameAccess.invariant l.fn.store l.fn.space.seat l.store l.space.seat;
  free : g.F.FrameAccess.alone → g.F.FrameAccess.free l.store ≡ g.F.FrameAccess.free l.fn.store;
}
