use Rattle.std.proofs.Common.{◌≡◌}
use Rattle.access_judge.specs.Search.{space_fence}
use Rattle.lent_history.specs.Events.{history}
use Rattle.lent_history.proofs.scan.epoch_end.Given as goal

abbrev pub invariant-events : goal.invariant-events
invariant-events l = space_fence (history l.events l.k) l.asid ≡ space_fence (history l.events l.moment) l.asid
