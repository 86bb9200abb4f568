use Rattle.std.proofs.Common.{replicate, ap, ◌∙◌, ℕ, arith}
use Rattle.std.proofs.lemmas.List.{take-replicate}
use Rattle.walk_rules.specs.declared.pmp.PmpEntry.{PmpEntry}
use Rattle.mmu.proofs.protection.PmpEntries.off.Goals as goal

abbrev nothing : PmpEntry
nothing = record { config = 0; address = 0 }

pub returns : goal.returns
returns c = take-replicate c.min.result 64 nothing (omega (arith, c.min.ensures)) ∙ ap (λ (n : ℕ). replicate n nothing) c.min.ensures
