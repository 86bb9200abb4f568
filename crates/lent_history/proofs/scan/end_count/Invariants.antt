use Rattle.std.proofs.Common.{◌≡◌, ◌≤◌, length}
use Rattle.lent_history.specs.Scans.{ends}
use Rattle.lent_history.proofs.scan.end_count.Given as goal

abbrev pub invariant-events : goal.invariant-events
invariant-events l = record { within : l.count ≤ l.k; count : l.count ≡ length (ends l.events l.k) }
