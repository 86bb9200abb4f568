use Rattle.table_walk.proofs.Children.{deepest_missing}
use Rattle.table_walk.proofs.tables.missing_tables.Goals as goal

pub returns-clause-missing : goal.returns-clause-missing
returns-clause-missing g c t h =
    let deepest = c.deepest_table-level.ensures in
    deepest_missing _ _ t h.known c.args.page c.deepest_table-level.result.1 _ deepest.low (deepest.there t h) (deepest.last t h)
