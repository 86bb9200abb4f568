use Rattle.std.proofs.Common.{◌≡◌, ℕ, ◌+◌, ◌-◌, ◌*◌, ◌^◌, ◌≤◌, Some}
use Rattle.std.specs.FinMap.{get}
use Rattle.frame_store.specs.Laws.{KeepsSeats}
use Rattle.sv39_entry.specs.declared.scheme.Scheme.{Scheme}
use Rattle.table_walk.specs.TableChanges.{IsTableAt}
use Rattle.table_walk.specs.Tables.{HasTables, Tables}
use Rattle.table_walk.specs.Places.{IsBareTo}
use Rattle.table_walk.proofs.leaves.+leaves.Given as goal

abbrev pub decreases-next_below : goal.decreases-next_below
decreases-next_below g l = 2 * l.level + 1

abbrev pub decreases-next_at : goal.decreases-next_at
decreases-next_at g l = 2 * l.level

-- no leaf was passed
abbrev pub invariant-next_below-indices : goal.invariant-next_below-indices
invariant-next_below-indices g l = record {
  view : g.F.Seat.FrameSeat.view l.seat ≡ g.F.Seat.FrameSeat.view l.initial.seat;
  same : l.store ≡ l.initial.store;
  keeps : KeepsSeats g.F.FrameAccess.invariant l.initial.store l.initial.seat l.store l.seat;
  on : l.fn.from ≤ l.at;
  bare : (s : Scheme) (root k : ℕ) (t : Tables) → HasTables s (g.F.Seat.FrameSeat.view l.initial.seat) root t → get t.tables k ≡ Some l.table.0 → IsTableAt k l.level → IsBareTo t k (512 * 512 ^ l.level) l.fn.from l.at l.end;
}

abbrev pub decreases-next_below-indices : goal.decreases-next_below-indices
decreases-next_below-indices g l = 512 * 512 ^ l.level - l.at
