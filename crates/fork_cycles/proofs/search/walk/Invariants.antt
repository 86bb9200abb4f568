use Rattle.fork_cycles.specs.Search.{IsSearch, work}
use Rattle.fork_cycles.proofs.search.walk.Given as goal

-- the search goes on along the path
abbrev pub invariant-path : goal.invariant-path
invariant-path l = IsSearch l.lists l.first l.marks l.path.items

abbrev pub decreases-path : goal.decreases-path
decreases-path l = work l.marks l.path.items
