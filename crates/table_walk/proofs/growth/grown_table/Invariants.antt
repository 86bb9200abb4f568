use Rattle.std.proofs.Common.{◌≡◌, ◌-◌}
use Rattle.frame_store.specs.Laws.{KeepsSeats}
use Rattle.frame_store.specs.View.{IsHeld}
use Rattle.sv39_entry.specs.Schemes.{top_level}
use Rattle.table_walk.specs.Tables.{HasTables, Tables}
use Rattle.table_walk.proofs.Grown.{HasGrown}
use Rattle.table_walk.proofs.growth.grown_table.Given as goal

-- the tables on the way to the page are there, down to this one, whose entries have this level
abbrev pub invariant-levels : goal.invariant-levels
invariant-levels g l = record {
  anchored : IsHeld (g.F.Seat.FrameSeat.view l.seat) 0;
  keeps : KeepsSeats g.F.FrameAccess.invariant l.fn.store l.fn.seat l.store l.seat;
  free : g.F.FrameAccess.alone → g.F.FrameAccess.free l.store ≡ g.F.FrameAccess.free l.fn.store;
  grown : (t : Tables) → HasTables l.fn.scheme (g.F.Seat.FrameSeat.view l.fn.seat) l.fn.root.0 t
      → HasGrown l.fn.scheme (g.F.Seat.FrameSeat.view l.fn.seat) (g.F.Seat.FrameSeat.view l.seat) l.fn.root.0 t l.fn.page ((top_level l.fn.scheme) - l.level) l.table.0;
}
