use Rattle.std.proofs.Common.{◌≡◌, ◌≤◌, ◌+◌, ◌-◌, ◌^◌, ℕ, List, map}
use Rattle.frame_store.specs.Laws.{KeepsSeats}
use Rattle.table_walk.specs.Tables.{Tables}
use Rattle.table_walk.specs.Nodes.{above_root}
use Rattle.cow_fork.specs.TableList.{IsEdged, IsListing}
use Rattle.cow_fork.proofs.tables.list_level.Given as goal

-- of the level's tables those before this one are listed
abbrev pub invariant-tables : goal.invariant-tables
invariant-tables g l = record {
  near : l.table ≤ 512 ^ l.depth;
  view : g.S.FrameSeat.view l.seat ≡ g.S.FrameSeat.view l.fn.seat;
  same : l.store ≡ l.fn.store;
  keeps : KeepsSeats g.F.FrameAccess.invariant l.fn.store l.fn.seat l.store l.seat;
  listed : (t : Tables) (L : List ℕ) → IsListing l.fn.scheme (g.S.FrameSeat.view l.fn.seat) l.fn.root.0 t (512 ^ (above_root l.fn.scheme + l.depth)) L (map (λ f. f.0) l.fn.frames.items) → IsEdged l.fn.scheme t l.end
      → IsListing l.fn.scheme (g.S.FrameSeat.view l.fn.seat) l.fn.root.0 t (512 ^ (above_root l.fn.scheme + l.depth) + l.table) L (map (λ f. f.0) l.frames.items);
}

abbrev pub decreases-tables : goal.decreases-tables
decreases-tables g l = 512 ^ l.depth - l.table
