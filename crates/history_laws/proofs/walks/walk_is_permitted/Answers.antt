use Rattle.history_laws.proofs.PlainOutcomes.{from_walk}
use Rattle.history_laws.proofs.walks.walk_is_permitted.Goals as goal

pub returns : goal.returns
returns c = λ x p q mode s w plain comes. from_walk x plain.hart p plain.unprotected q mode plain.access s plain.scheme w comes
