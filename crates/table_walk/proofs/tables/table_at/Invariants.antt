use Rattle.std.proofs.Common.{◌≡◌, Some}
use Rattle.std.specs.FinMap.{get}
use Rattle.frame_store.specs.Laws.{KeepsSeats}
use Rattle.table_walk.specs.Tables.{HasTables, Tables, node}
use Rattle.table_walk.proofs.tables.table_at.Given as goal

-- nothing changes, and the table is the one on the way to the page at this depth
abbrev pub invariant-depths : goal.invariant-depths
invariant-depths g l = record {
  view : g.F.Seat.FrameSeat.view l.seat ≡ g.F.Seat.FrameSeat.view l.fn.seat;
  same : l.store ≡ l.fn.store;
  keeps : KeepsSeats g.F.FrameAccess.invariant l.fn.store l.fn.seat l.store l.seat;
  way : (t : Tables) → HasTables l.fn.scheme (g.F.Seat.FrameSeat.view l.fn.seat) l.fn.root.0 t
      → get t.tables (node l.fn.scheme l.fn.page l.step) ≡ Some l.table.0;
}
