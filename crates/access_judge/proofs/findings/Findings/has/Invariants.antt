use Rattle.std.proofs.Common.{◌≡◌, ◌<◌, ℕ, get_or}
use Rattle.access_judge.specs.Findings.{told_in}
use Rattle.access_judge.specs.declared.way.Told.{Told}
use Rattle.access_judge.proofs.findings.Findings.has.Given as goal

abbrev pub invariant-told : goal.invariant-told
invariant-told l = (k : ℕ) (d : Told) → k < l.told-index → (get_or (told_in l.self) k d).outcome ≡ l.outcome → ⊥
