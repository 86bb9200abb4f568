-- The worked example of `access_history`, by the search: it computes.
use Rattle.std.proofs.Common.{◌≡◌, None, [], ◌∷◌, refl}
use Rattle.walk_rules.specs.declared.memory_type.MemoryType.TheVariants.{Pma}
use Rattle.access_history.specs.Examples.{example_fence, example_first, example_hart, example_load, example_past, example_store}
use Rattle.access_history.specs.declared.outcome.Outcome.TheVariants.{Granted}
use Rattle.access_judge.specs.Search.{outcomes_by}

pub stale : outcomes_by example_hart (example_past (example_store ∷ [])) (record { satp = example_first.satp; epoch = 0; last = 1 } ∷ []) example_load
    ≡ Granted 0x5000 Pma None ∷ Granted 0x4000 Pma None ∷ []
stale = refl

pub fenced : outcomes_by example_hart (example_past (example_fence ∷ example_store ∷ [])) (record { satp = example_first.satp; epoch = 0; last = 2 } ∷ [])
    example_load ≡ Granted 0x5000 Pma None ∷ []
fenced = refl
