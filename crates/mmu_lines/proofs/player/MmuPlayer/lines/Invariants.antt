use Rattle.std.proofs.Common.{◌≡◌, map, take}
use Rattle.access_judge.specs.Findings.{told_in}
use Rattle.access_judge.specs.Listing.{outcomes_of}
use Rattle.mmu_lines.specs.Requests.{outcome_in}
use Rattle.mmu_lines.proofs.player.MmuPlayer.lines.Given as goal

-- the outcomes so far are shown
abbrev pub invariant-outcomes : goal.invariant-outcomes
invariant-outcomes l = map outcome_in l.lines.items ≡ outcomes_of (take l.told-index (told_in l.self.findings))
