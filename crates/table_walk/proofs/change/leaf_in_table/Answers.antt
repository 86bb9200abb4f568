use Rattle.std.proofs.Common.{◌≡◌, sym, ◌∙◌, Some, unwrap_or}
use Rattle.std.specs.FinMap.{get}
use Rattle.table_walk.specs.LastTables.{IsLastTable}
use Rattle.table_walk.specs.Tables.{HasTables, Tables, last_table, walk_leaf}
use Rattle.table_walk.proofs.LeafChanges.{leaf_word_is, no_table, none_read, some_word}
use Rattle.table_walk.proofs.change.leaf_in_table.Given as given
use Rattle.table_walk.proofs.change.leaf_in_table.Goals as goal
use Rattle.table_walk.proofs.change.leaf_in_table.Goals.{After-load-word}

pub returns-in_err-table-clause-leaf : goal.returns-in_err-table-clause-leaf
returns-in_err-table-clause-leaf g c t h k = rw c.from_residual.ensures (sym (no_table _ _ t h c.args.page (sym (c.in_err-table.ensures.table t h k))))

word : (g : given.Over) (c : After-load-word g) (t : Tables) → HasTables c.args.scheme (g.F.Seat.FrameSeat.view c.args.seat.now) c.args.root.0 t → IsLastTable c.args.scheme t c.args.last.now
    → c.load-word.result ≡ unwrap_or (get t.leaves (walk_leaf c.args.scheme c.args.page)) 0
word g c t h k =
    let table : get t.tables (last_table c.args.scheme c.args.page) ≡ Some c.in_ok-table.table.0 = sym (c.in_ok-table.ensures.table t h k) in
    c.load-word.ensures.known _ (rw (c.table_with_last.ensures.view, c.index.ensures.value) (leaf_word_is _ _ t h c.args.page _ table))

pub returns-then-word-eq0-clause-leaf : goal.returns-then-word-eq0-clause-leaf
returns-then-word-eq0-clause-leaf g c t h k =
    let at = goal.at.returns-then-word-eq0-clause-leaf g c in
    sym (none_read _ _ t h c.args.page (sym (word g at.After-load-word t h k) ∙ c.if-word-eq0.true))

pub returns-clause-leaf : goal.returns-clause-leaf
returns-clause-leaf g c t h k =
    let at = goal.at.returns-clause-leaf g c in
    sym (some_word _ _ (c.from_word.ensures ∙ word g at.After-load-word t h k) (λ zero. c.if-word-eq0.false (sym c.from_word.ensures ∙ zero)))
