use Rattle.std.proofs.Common.{◌≡◌, drop}
use Rattle.fork_cycles.specs.Forks.{calls_in}
use Rattle.fork_cycles.proofs.forks.calls_of.Given as goal

-- the lists so far have other numbers
abbrev pub invariant-loop-list : goal.invariant-loop-list
invariant-loop-list l = calls_in (drop l.list-index l.lists) l.number ≡ calls_in l.lists l.number
