use Rattle.std.proofs.Common.{◌≡◌, length}
use Rattle.fork_cycles.specs.Search.{part_from}
use Rattle.fork_cycles.proofs.forks.part_from.Given as goal

-- the list is not on the path so far
abbrev pub invariant-left : goal.invariant-left
invariant-left l = part_from l.list l.left ≡ part_from l.list l.path

abbrev pub decreases-left : goal.decreases-left
decreases-left l = length l.left
