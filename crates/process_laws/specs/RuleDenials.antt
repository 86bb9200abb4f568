-- Two predicates of the nine rules by which an access is denied (Misaligned, BeyondMax, KernelPage, ..): `Denies`, the rule
-- by itself denies it, whatever the others say; and `IsFirst`, it does, and no rule with a smaller number does.
use Rattle.std.specs.Prelude.{◌≡◌, ◌≢◌, ◌⊎◌, ◌≤◌, ◌<◌, ◌%◌, ℕ, false, None, Some, List}
use Rattle.sv39_entry.specs.declared.scheme.Scheme.{Scheme}
use Rattle.process_model.specs.Regions.{Region, guard, region_at}
use Rattle.sv39_entry.specs.Address.{page_of}
use Rattle.sv39_entry.specs.Schemes.{maxva, trampoline_page, trapframe_page}
use Rattle.sv39_entry.specs.RuleText.{rule_number}
use Rattle.sv39_entry.specs.declared.access.Access.{Access}
use Rattle.sv39_entry.specs.declared.access.Access.TheVariants.{Fetch, Load, Store}
use Rattle.sv39_entry.specs.declared.rule.Rule.{Rule}
use Rattle.sv39_entry.specs.declared.rule.Rule.TheVariants.{Misaligned, BeyondMax, KernelPage, GuardPage, NoRegion, NoRead, NoWrite, NoExec, NoFrame}

-- the rule denies the access. NoFrame denies none: it is for an access that the regions grant
abbrev pub Denies : Scheme → List Region → Access → ℕ → ℕ → Rule → Type 0
Denies s regions access address width Misaligned = address % width ≢ 0
Denies s regions access address width BeyondMax = maxva s ≤ address
Denies s regions access address width KernelPage = (page_of address ≡ trampoline_page s) ⊎ (page_of address ≡ trapframe_page s)
Denies s regions access address width GuardPage = (r : Region) × (region_at regions (page_of address) ≡ Some r) × (r.kind ≡ guard)
Denies s regions access address width NoRegion = region_at regions (page_of address) ≡ None
Denies s regions access address width NoRead = (access ≡ Load) × ((r : Region) × (region_at regions (page_of address) ≡ Some r) × (r.reads ≡ false))
Denies s regions access address width NoWrite = (access ≡ Store) × ((r : Region) × (region_at regions (page_of address) ≡ Some r) × (r.writes ≡ false))
Denies s regions access address width NoExec = (access ≡ Fetch) × ((r : Region) × (region_at regions (page_of address) ≡ Some r) × (r.executes ≡ false))
Denies s regions access address width NoFrame = ⊥

-- the rule denies the access, and none with a smaller number does
pub record IsFirst (s : Scheme) (regions : List Region) (access : Access) (address width : ℕ) (rule : Rule) : Type 0 where
  pub denies : Denies s regions access address width rule
  pub first : (other : Rule) → rule_number other < rule_number rule → Denies s regions access address width other → ⊥
