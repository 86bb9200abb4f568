use Rattle.table_walk.proofs.Outcomes.{one_finding, some_finding}
use Rattle.table_walk.proofs.laws.one_found.Goals as goal

pub returns : goal.returns
returns c = record { at_least = some_finding; at_most = one_finding }
