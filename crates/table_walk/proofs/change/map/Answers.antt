use Rattle.table_walk.proofs.change.map.Goals as goal

pub returns-clause-tables : goal.returns-clause-tables
returns-clause-tables g c t h =
    let x = c.map_with_last.ensures.tables t h tt in
    (x.0, x.1, x.2, x.3)
