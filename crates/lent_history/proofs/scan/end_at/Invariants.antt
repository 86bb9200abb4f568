use Rattle.std.proofs.Common.{◌≡◌}
use Rattle.std.specs.Prelude.{slice_get}
use Rattle.lent_history.specs.Scans.{ends}
use Rattle.lent_history.proofs.scan.end_at.Given as goal

abbrev pub invariant-events : goal.invariant-events
invariant-events l = slice_get (ends l.events l.n) l.fn.number ≡ slice_get (ends l.events l.k) l.left
