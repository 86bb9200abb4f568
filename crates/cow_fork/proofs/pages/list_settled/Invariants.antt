use Rattle.std.proofs.Common.{◌≡◌, ◌≤◌, ◌-◌, List, ◌∷◌, ◌++◌}
use Rattle.address_space.specs.Agreement.{body_of, IsSpace}
use Rattle.address_space.specs.SettledLists.{AreSettled}
use Rattle.address_space.specs.declared.settled_pages.SettledPage.{SettledPage}
use Rattle.frame_store.specs.Laws.{KeepsSeats}
use Rattle.process_model.specs.Process.{Process}
use Rattle.table_walk.specs.LastTables.{IsLastTable}
use Rattle.table_walk.specs.Tables.{Tables}
use Rattle.cow_fork.specs.ForkReferences.{AreToShare, frames_of}
use Rattle.cow_fork.proofs.pages.list_settled.Given as goal
use Rattle.sv39_entry.specs.Schemes.{trapframe_page}

-- the settled pages below this one are listed
abbrev pub invariant-pages : goal.invariant-pages
invariant-pages g l = record {
  near : l.from ≤ trapframe_page l.fn.space.layout.scheme;
  root : l.space.root ≡ l.fn.space.root;
  trapframe : l.space.trapframe ≡ l.fn.space.trapframe;
  layout : l.space.layout ≡ l.fn.space.layout;
  view : g.S.FrameSeat.view l.space.seat ≡ g.S.FrameSeat.view l.fn.space.seat;
  same : l.store ≡ l.fn.store;
  keeps : KeepsSeats g.F.FrameAccess.invariant l.fn.store l.fn.space.seat l.store l.space.seat;
  kept : (t : Tables) (p : Process) → IsSpace (body_of g.S.FrameSeat.view l.fn.space) t p → IsLastTable p.scheme t l.last;
  going : (t : Tables) (p : Process) → IsSpace (body_of g.S.FrameSeat.view l.fn.space) t p → AreToShare t p l.from (0 ∷ frames_of l.pages.items);
  settled : (t : Tables) (p : Process) → IsSpace (body_of g.S.FrameSeat.view l.fn.space) t p → (more : List SettledPage)
      → AreSettled t p l.from (trapframe_page p.scheme) more → AreSettled t p 0 (trapframe_page p.scheme) (l.pages.items ++ more);
}

abbrev pub decreases-pages : goal.decreases-pages
decreases-pages g l = trapframe_page l.fn.space.layout.scheme - l.from
