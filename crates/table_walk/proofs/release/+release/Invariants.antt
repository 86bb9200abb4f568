use Rattle.std.proofs.Common.{◌≡◌, ℕ, ◌+◌, ◌-◌, ◌*◌, ◌<◌, ◌≤◌, None, Some}
use Rattle.std.specs.FinMap.{get}
use Rattle.frame_store.specs.Laws.{KeepsSeats}
use Rattle.sv39_entry.specs.declared.scheme.Scheme.{Scheme}
use Rattle.table_walk.specs.TableChanges.{IsTableAt}
use Rattle.table_walk.specs.Tables.{HasTables, Tables}
use Rattle.table_walk.specs.TableRelease.{AreLast, ReleasesTables}
use Rattle.table_walk.proofs.release.+release.Given as goal

abbrev pub decreases-release_below : goal.decreases-release_below
decreases-release_below g l = 2 * l.level + 1

abbrev pub decreases-release_at : goal.decreases-release_at
decreases-release_at g l = 2 * l.level

-- no table stands at the indices so far
abbrev pub invariant-release_below-indices : goal.invariant-release_below-indices
invariant-release_below-indices g l = record {
  low : l.index ≤ 512;
  keeps : KeepsSeats g.F.FrameAccess.invariant l.fn.store l.fn.seat l.store l.seat;
  free : g.F.FrameAccess.alone → g.F.FrameAccess.free l.fn.store ≤ g.F.FrameAccess.free l.store;
  below : (s : Scheme) (root k : ℕ) (t : Tables) → HasTables s (g.F.Seat.FrameSeat.view l.fn.seat) root t → AreLast (g.F.Seat.FrameSeat.view l.fn.seat) t → get t.tables k ≡ Some l.table.0 → IsTableAt k l.level
      → (u : Tables) × ReleasesTables s (g.F.Seat.FrameSeat.view l.fn.seat) (g.F.Seat.FrameSeat.view l.seat) root k t u × ((i : ℕ) → i < l.index → get u.tables (k * 512 + i) ≡ None);
}

abbrev pub decreases-release_below-indices : goal.decreases-release_below-indices
decreases-release_below-indices g l = 512 - l.index
