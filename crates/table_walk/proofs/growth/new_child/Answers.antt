use Rattle.table_walk.proofs.Blank.{still_sole}
use Rattle.table_walk.proofs.growth.new_child.Goals as goal

pub store-requires-clause-sole : goal.store-requires-clause-sole
store-requires-clause-sole g c = rw c.new_table-child.ensures.view (still_sole _ _ _ c.new_table-child.ensures.fresh c.requires.held c.requires.sole)
