use Rattle.std.proofs.Common.{◌≡◌}
use Rattle.lent_history.specs.Events.{first_before}
use Rattle.lent_history.proofs.scan.first_before.Given as goal

abbrev pub invariant-events : goal.invariant-events
invariant-events l = l.word ≡ first_before l.events l.k l.ppn l.index
