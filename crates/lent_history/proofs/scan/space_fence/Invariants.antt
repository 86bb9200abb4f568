use Rattle.std.proofs.Common.{◌≡◌}
use Rattle.access_judge.specs.Search.{space_fence}
use Rattle.lent_history.specs.Events.{history}
use Rattle.lent_history.proofs.scan.space_fence.Given as goal

abbrev pub invariant-events : goal.invariant-events
invariant-events l = l.last ≡ space_fence (history l.events l.k) l.asid
