use Rattle.history_laws.proofs.FewPlaces.{of_small}
use Rattle.history_laws.proofs.HartUnion.{of_harts}
use Rattle.history_laws.proofs.harts.outcomes_are_of_harts.Goals as goal

pub returns : goal.returns
returns c = record { same = of_harts; few = of_small }
