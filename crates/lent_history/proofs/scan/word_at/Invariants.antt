use Rattle.std.proofs.Common.{◌≡◌}
use Rattle.lent_history.specs.Scans.{word_at}
use Rattle.lent_history.proofs.scan.word_at.Given as goal

abbrev pub invariant-events : goal.invariant-events
invariant-events l = l.word ≡ word_at l.events l.ppn l.index l.fn.first l.k
