use Rattle.std.proofs.Common.{◌≡◌, ◌-◌, Some}
use Rattle.std.specs.FinMap.{get}
use Rattle.frame_store.specs.Laws.{KeepsSeats}
use Rattle.sv39_entry.specs.Schemes.{top_level}
use Rattle.table_walk.specs.Tables.{HasTables, Tables, node}
use Rattle.table_walk.proofs.tables.deepest_table.Given as goal

-- nothing changes, and the table is the one on the way to the page whose entries have this level
abbrev pub invariant-levels : goal.invariant-levels
invariant-levels g l = record {
  view : g.F.Seat.FrameSeat.view l.seat ≡ g.F.Seat.FrameSeat.view l.fn.seat;
  same : l.store ≡ l.fn.store;
  keeps : KeepsSeats g.F.FrameAccess.invariant l.fn.store l.fn.seat l.store l.seat;
  way : (t : Tables) → HasTables l.fn.scheme (g.F.Seat.FrameSeat.view l.fn.seat) l.fn.root.0 t
      → get t.tables (node l.fn.scheme l.fn.page ((top_level l.fn.scheme) - l.level)) ≡ Some l.table.0;
}
