use Rattle.mmu_lines.specs.States.{state_of}
use Rattle.mmu_lines.proofs.playing.play_with.Given as goal
use Rattle.mmu_lines.specs.Playing.{IsAfter}

-- those of the first n lines that are kept were played, and nothing was amiss
abbrev pub invariant-lines : goal.invariant-lines
invariant-lines l = IsAfter l.lines l.keeps l.n (state_of l.player)
