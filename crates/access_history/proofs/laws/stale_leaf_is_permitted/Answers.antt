use Rattle.access_history.proofs.FencedLeaf.{fenced}
use Rattle.access_history.proofs.StaleLeaf.{fresh, stale}
use Rattle.access_history.proofs.laws.stale_leaf_is_permitted.Goals as goal

pub returns : goal.returns
returns c = record { stale = stale; fresh = fresh; fenced = fenced }
