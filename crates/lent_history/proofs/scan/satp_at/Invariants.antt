use Rattle.std.proofs.Common.{◌≡◌}
use Rattle.access_history.specs.History.{satp_at}
use Rattle.lent_history.specs.Events.{history}
use Rattle.lent_history.proofs.scan.satp_at.Given as goal

abbrev pub invariant-events : goal.invariant-events
invariant-events l = l.satp ≡ satp_at l.fn.first (history l.events l.k)
