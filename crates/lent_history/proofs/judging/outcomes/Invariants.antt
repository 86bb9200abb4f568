use Rattle.lent_history.proofs.Places.{Listed}
use Rattle.lent_history.proofs.judging.outcomes.Given as goal

abbrev pub invariant-places : goal.invariant-places
invariant-places l = Listed l.extensions l.history l.request l.count l.fn.places l.places
