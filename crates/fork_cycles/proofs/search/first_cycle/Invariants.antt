use Rattle.std.proofs.Common.{ℕ, ◌<◌, get_or}
use Rattle.script_language.specs.declared.declarations.ListedStart.{ListedStart}
use Rattle.fork_cycles.specs.Forks.{Ends}
use Rattle.fork_cycles.specs.Search.{IsMarked}
use Rattle.fork_cycles.proofs.search.first_cycle.Given as goal

-- the starts so far end
abbrev pub invariant-loop-start : goal.invariant-loop-start
invariant-loop-start l = record {
  marked : IsMarked l.lists l.marks;
  ended : (k : ℕ) (d : ListedStart) → k < l.start-index → Ends l.lists (get_or l.starts k d).list;
}
