use Rattle.access_judge.proofs.Worked as worked
use Rattle.access_judge.proofs.laws.stale_leaf_is_found.Goals as goal

pub returns : goal.returns
returns c = record { stale = worked.stale; fenced = worked.fenced }
