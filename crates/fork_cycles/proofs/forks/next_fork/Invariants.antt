use Rattle.std.proofs.Common.{◌≡◌, drop}
use Rattle.fork_cycles.specs.Forks.{forked_by}
use Rattle.fork_cycles.specs.Search.{first_unended}
use Rattle.fork_cycles.proofs.forks.next_fork.Given as goal

-- the calls so far fork none that has not ended
abbrev pub invariant-loop-call : goal.invariant-loop-call
invariant-loop-call l = first_unended l.marks (forked_by (drop l.call-index l.calls)) ≡ first_unended l.marks (forked_by l.calls)
