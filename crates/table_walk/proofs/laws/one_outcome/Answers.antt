use Rattle.table_walk.proofs.Outcomes.{one_translation, some_translation}
use Rattle.table_walk.proofs.laws.one_outcome.Goals as goal

pub returns : goal.returns
returns c = record { at_least = λ s m there root address. some_translation s m root address there; at_most = λ s m there root address. one_translation s m root address there }
