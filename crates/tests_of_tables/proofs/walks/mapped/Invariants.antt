use Rattle.std.proofs.Common.{◌-◌, ◌*◌, ◌≤◌, [], ◌∷◌}
use Rattle.frame_store.specs.Plain.{PlainStateInvariant}
use Rattle.frame_store.specs.View.{IsHeld}
use Rattle.table_walk.specs.Tables.{HasTables, Tables}
use Rattle.tests_of_tables.proofs.walks.mapped.Given as goal

-- each page that is left can be mapped
abbrev pub invariant-loop-index : goal.invariant-loop-index
invariant-loop-index l = record {
  rule : PlainStateInvariant l.frames (l.seat ∷ []);
  anchored : IsHeld l.seat 0;
  tables : (t : Tables) × HasTables l.fn.scheme l.seat l.root.0 t × (3 * (5 - l.index) ≤ l.seat.credits);
}
