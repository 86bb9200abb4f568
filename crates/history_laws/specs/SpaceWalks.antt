-- Words for one address space among others, whose ASID is fenced alone: nothing old of it is in any cache, while satp may be written to other spaces and
-- back (`IsSpaceSettled`); and no PTE is global (`HasNoGlobals`). (The standard, 4.2.1, SFENCE.VMA with rs1 = x0 and rs2 an ASID; 4.3.1.)
use Rattle.std.specs.Prelude.{◌≡◌, ◌≢◌, ◌⊎◌, ℕ, ◌-◌, ◌≤◌, false, None, Some, List, [], ◌∷◌}
use Rattle.sv39_entry.specs.Address.{vpn}
use Rattle.sv39_entry.specs.Satp.{asid, root_ppn}
use Rattle.sv39_entry.specs.Schemes.{top_level}
use Rattle.sv39_entry.specs.declared.scheme.Scheme.{Scheme}
use Rattle.table_walk.specs.Walk.{IsAt}
use Rattle.walk_rules.specs.declared.extensions.Extensions.{Extensions}
use Rattle.access_history.specs.Held.{IsHeld, Read}
use Rattle.access_history.specs.History.{First, IsPast, memory_at, satp_at}
use Rattle.access_history.specs.declared.event.Event.{Event}
use Rattle.access_history.specs.declared.event.Event.TheVariants.{Fence}

-- nothing has happened, or the last event was SFENCE.VMA with rs1 = x0, for this ASID or with rs2 = x0
pub data IsFreshFor (space : ℕ) : List Event → Type 0 where
  begins : IsFreshFor space []
  fenced_all : {h : List Event} → IsFreshFor space (Fence None None ∷ h)
  fenced : {h : List Event} → IsFreshFor space (Fence None (Some space) ∷ h)

-- at a moment, satp is this word, or has another ASID
abbrev pub IsOwn : First → ℕ → List Event → Type 0
IsOwn f satp h = (satp_at f.satp h ≡ satp) ⊎ (asid (satp_at f.satp h) ≢ asid satp)

-- an event at a moment leaves each word as it is that the walk of a page reads from the root of a satp
abbrev pub LeavesWalk : First → Scheme → ℕ → ℕ → Event → List Event → Type 0
LeavesWalk f s page satp e h =
    (k table : ℕ) → k ≤ top_level s → IsAt s (memory_at f.memory h) (root_ppn satp) page k table
    → memory_at f.memory (e ∷ h) table (vpn page (top_level s - k)) ≡ memory_at f.memory h table (vpn page (top_level s - k))

-- since such a fence, or from the first, no event has changed what the walk of a page reads from the root of this satp, and no other satp had its ASID
pub data IsSpaceSettled (f : First) (s : Scheme) (page satp : ℕ) : List Event → Type 0 where
  fresh : {h : List Event} → IsFreshFor (asid satp) h → IsOwn f satp h → IsSpaceSettled f s page satp h
  quiet : {h : List Event} {e : Event} → IsSpaceSettled f s page satp h → LeavesWalk f s page satp e h → IsOwn f satp (e ∷ h)
      → IsSpaceSettled f s page satp (e ∷ h)

-- no PTE that a hart may hold for an address, now or before, is global
abbrev pub HasNoGlobals : Extensions → First → ℕ → List Event → Type 0
HasNoGlobals x f va h = (k past : List Event) (r : Read) → IsPast h k → IsHeld x f va k r past → r.global ≡ false
