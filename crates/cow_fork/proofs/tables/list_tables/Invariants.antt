use Rattle.std.proofs.Common.{◌≡◌, ◌+◌, ◌^◌, map}
use Rattle.frame_store.specs.Laws.{KeepsSeats}
use Rattle.table_walk.specs.Nodes.{above_root}
use Rattle.table_walk.specs.Tables.{HasTables, Tables}
use Rattle.cow_fork.specs.TableList.{CanList, IsEdged, IsLed, IsListing}
use Rattle.cow_fork.proofs.tables.list_tables.Given as goal

-- the tables of the levels above this one are listed
abbrev pub invariant-levels : goal.invariant-levels
invariant-levels g l = record {
  view : g.S.FrameSeat.view l.seat ≡ g.S.FrameSeat.view l.fn.seat;
  same : l.store ≡ l.fn.store;
  keeps : KeepsSeats g.F.FrameAccess.invariant l.fn.store l.fn.seat l.store l.seat;
  listed : (t : Tables) → HasTables l.fn.scheme (g.S.FrameSeat.view l.fn.seat) l.fn.root.0 t → IsLed l.fn.scheme t → CanList t (map (λ f. f.0) l.fn.frames.items)
      → IsEdged l.fn.scheme t l.fn.end
      → IsListing l.fn.scheme (g.S.FrameSeat.view l.seat) l.fn.root.0 t (512 ^ (above_root l.fn.scheme + l.depth)) (map (λ f. f.0) l.fn.frames.items) (map (λ f. f.0) l.frames.items);
}
