use Rattle.table_walk.proofs.Blank.{cleared, is_sole}
use Rattle.table_walk.proofs.growth.clear.Goals as goal

pub clear-requires-clause-sole : goal.clear-requires-clause-sole
clear-requires-clause-sole g c = is_sole _ _ c.requires.claimed

pub returns-clause-view : goal.returns-clause-view
returns-clause-view g c = cleared _ _ _ c.requires.claimed c.clear.ensures.view
