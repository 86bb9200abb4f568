use Rattle.table_walk.proofs.tables.child.Goals as goal

pub returns-clause-child : goal.returns-clause-child
returns-clause-child g c s root k t h at high =
    c.table_in.ensures s _ root k c.args.table.0 c.args.index t h at c.requires.in_table high c.load-word.ensures.known
