use Rattle.std.proofs.Common.{[], ◌∷◌}
use Rattle.frame_store.specs.Plain.{PlainStateInvariant}
use Rattle.table_walk.specs.Tables.{HasTables, Tables}
use Rattle.tests_of_tables.proofs.walks.first_not_walked.Given as goal

abbrev pub invariant-walked : goal.invariant-walked
invariant-walked l = record {
  rule : PlainStateInvariant l.words.store.now (l.words.seat.now ∷ []);
  tables : (t : Tables) × HasTables l.fn.scheme l.words.seat.now l.root.0 t;
}
