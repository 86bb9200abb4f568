use Rattle.table_walk.proofs.KeptTables.{grown_here, none_here}
use Rattle.table_walk.proofs.last_table.grown_with_last.Goals as goal

pub returns-in-Some-clause-tables : goal.returns-in-Some-clause-tables
returns-in-Some-clause-tables g c t h k =
    let at = c.in-Some.ensures c.args.scheme t k in
    (t, grown_here _ _ t h c.args.page _ at, h, none_here _ _ t h c.args.page _ at, at, k)

pub returns-clause-tables : goal.returns-clause-tables
returns-clause-tables g c t h k = c.grow_and_keep.ensures.tables t h
