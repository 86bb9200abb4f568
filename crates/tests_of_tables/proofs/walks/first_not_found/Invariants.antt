use Rattle.std.proofs.Common.{[], ◌∷◌}
use Rattle.frame_store.specs.Plain.{PlainStateInvariant}
use Rattle.table_walk.specs.Tables.{HasTables, Tables}
use Rattle.tests_of_tables.proofs.walks.first_not_found.Given as goal

abbrev pub invariant-found : goal.invariant-found
invariant-found l = record {
  rule : PlainStateInvariant l.frames (l.seat ∷ []);
  tables : (t : Tables) × HasTables l.fn.scheme l.seat l.root.0 t;
}
