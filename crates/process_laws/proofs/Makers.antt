-- `IsOfAnother`, a predicate: the hart that makes a step does not have the process of a given slot; true of a step of no
-- hart.
use Rattle.std.specs.Prelude.{◌≡◌, ◌≢◌, ℕ, Some, slice_get}
use Rattle.process_laws.specs.Words.{hart_of}
use Rattle.process_model.specs.Harts.{Hart}
use Rattle.process_model.specs.World.{World}
use Rattle.process_model.specs.declared.step.Step.{Step}

-- the hart of the step does not have the process of that slot
abbrev pub IsOfAnother : World → Step → ℕ → Type 0
IsOfAnother w s t = (h : ℕ) (hart : Hart) → hart_of s ≡ Some h → slice_get w.harts h ≡ Some hart → hart.slot ≢ Some t
