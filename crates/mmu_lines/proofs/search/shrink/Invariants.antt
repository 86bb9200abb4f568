use Rattle.mmu_lines.proofs.search.shrink.Given as goal
use Rattle.mmu_lines.specs.Playing.{IsDenied}

-- what is kept so far leads to an answer that is not permitted
abbrev pub invariant-tries : goal.invariant-tries
invariant-tries l = IsDenied l.lines l.search.found.keeps.items l.search.found.answer
