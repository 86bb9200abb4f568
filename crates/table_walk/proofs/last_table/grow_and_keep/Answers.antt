use Rattle.table_walk.proofs.last_table.grow_and_keep.Goals as goal

pub returns-clause-tables : goal.returns-clause-tables
returns-clause-tables g c t h =
    let x = c.grown_table-frame.ensures.tables t h in
    (x.0, x.1, x.2, x.3, x.4, x.4)
