-- Which outcomes a client may mean (`Tells`).
use Rattle.std.specs.Prelude.{◌≡◌, ℕ, Option, None, Some}
use Rattle.access_history.specs.declared.outcome.Outcome.{Outcome}
use Rattle.access_history.specs.declared.outcome.Outcome.TheVariants as outcome
use Rattle.mmu_requests.specs.declared.requests.Claim.{Claim}
use Rattle.mmu_requests.specs.declared.requests.End.{End}
use Rattle.mmu_requests.specs.declared.requests.End.TheVariants as ends
use Rattle.walk_rules.specs.declared.memory_type.MemoryType.{MemoryType}

-- an access was granted at a physical address; without a memory type, whatever that is
abbrev pub TellsGrant : End → ℕ → MemoryType → Type 0
TellsGrant (ends.Granted pa None) place t = pa ≡ place
TellsGrant (ends.Granted pa (Some s)) place t = (pa ≡ place) × (s ≡ t)
TellsGrant (ends.Refused cause) place t = ⊥

abbrev pub TellsRefusal : End → ℕ → Type 0
TellsRefusal (ends.Granted pa t) code = ⊥
TellsRefusal (ends.Refused cause) code = cause ≡ code

-- what a client tells is an outcome: the same end, and the same update of A and D, or none
abbrev pub Tells : Claim → Outcome → Type 0
Tells c (outcome.Granted pa t u) = TellsGrant c.end pa t × (c.update ≡ u)
Tells c (outcome.Refused code u) = TellsRefusal c.end code × (c.update ≡ u)

-- the memory type of a claim, if it tells one
abbrev pub type_or : MemoryType → Option MemoryType → MemoryType
type_or t None = t
type_or t (Some s) = s

-- the outcome that a client means, if the memory type is this one, or the one that it tells
abbrev pub meant : MemoryType → Claim → End → Outcome
meant t c (ends.Granted pa s) = outcome.Granted pa (type_or t s) c.update
meant t c (ends.Refused cause) = outcome.Refused cause c.update
