use Rattle.std.proofs.Common.{◌≡◌}
use Rattle.access_history.specs.History.{pmp_at}
use Rattle.lent_history.specs.Events.{history}
use Rattle.lent_history.specs.Lent.{pmp_of}
use Rattle.lent_history.specs.Protecting.{entries_of}
use Rattle.lent_history.proofs.Scanning.{Judges}
use Rattle.lent_history.proofs.pmp.verdict_at.Given as goal

abbrev pub invariant-events : goal.invariant-events
invariant-events l = record {
  entries : entries_of l.entries ≡ pmp_at (pmp_of l.fn.hart) (history l.events l.k);
  judges : Judges (pmp_of l.fn.hart) l.checked (history l.events l.k) l.verdict;
}
