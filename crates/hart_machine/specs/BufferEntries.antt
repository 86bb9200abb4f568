-- Which entries a hart's TLB may have, under policy `full` (by the phase) and under policy `asid` (by ASID and stale marks).
-- A machine in a world (state) of the model whose buffers have only these (`IsInWorld`), and what follows under policy
-- `asid`: no entry of a living process is stale unless its hart is marked for the slot, a place in the process table
-- (`AreEntriesCurrent`).
use Rattle.std.specs.Prelude.{◌≡◌, ◌⊎◌, ℕ, ◌+◌, Bool, true, false, Option, Some, List, slice_get, Contains}
use Rattle.address_space.specs.Agreement.{code_rights}
use Rattle.hart_tlb.specs.declared.entry.TlbEntry.{TlbEntry}
use Rattle.process_model.specs.World.{World}
use Rattle.process_model.specs.declared.config.Policy.{Policy}
use Rattle.process_model.specs.declared.config.Policy.TheVariants.{Full, Asid}
use Rattle.process_model.specs.declared.phase.Phase.{Phase}
use Rattle.process_model.specs.declared.phase.Phase.TheVariants as phase
use Rattle.sv39_entry.specs.Word.{IsLeafOf}
use Rattle.sv39_entry.specs.Schemes.{trampoline_page}
use Rattle.sv39_entry.specs.declared.scheme.Scheme.{Scheme}
use Rattle.table_walk.specs.Leaves.{Leaf, page_leaf}
use Rattle.table_walk.specs.Tables.{HasTables, Tables}
use Rattle.hart_machine.specs.SlotProcesses.{view_of}
use Rattle.hart_machine.specs.Slots.{marks_of}
use Rattle.hart_machine.specs.WalkEntries.{IsEntryOf}
use Rattle.hart_machine.specs.Worlds.{IsWorldButBuffers}
use Rattle.hart_machine.specs.declared.hart.Hart.{Hart}
use Rattle.hart_machine.specs.declared.machine.Machine.{Machine}
use Rattle.hart_machine.specs.declared.slot_process.SlotProcess.{SlotProcess}

-- policy `full`

-- whether a buffer may have entries of the process's table in this phase
abbrev pub may_have_process : Phase → Bool
may_have_process phase.Idle = false
may_have_process phase.Kernel = false
may_have_process phase.Leave1 = false
may_have_process _ = true

-- whether a buffer may have entries of the kernel's table in this phase: while `satp` names that table, and in `Leave2`,
-- where `satp` names the process's but the next fence is still to come. In `Enter2` and `Leave2`, after a write of `satp`,
-- there may be entries of both tables
abbrev pub may_have_kernel : Phase → Bool
may_have_kernel phase.User = false
may_have_kernel phase.Enter0 = false
may_have_kernel phase.Enter1 = false
may_have_kernel _ = true

-- policy `full`: an entry has ASID 0 and says what the kernel's table says, or what the table of the hart's process says,
-- whichever the phase allows
abbrev pub IsEntryByPhase : Scheme → Hart → (ℕ → Tables) → Tables → TlbEntry → Type 0
IsEntryByPhase z x tables kernel e =
    ((may_have_kernel x.phase ≡ true) × IsEntryOf z kernel 0 e) ⊎ ((s : ℕ) × (may_have_process x.phase ≡ true) × (x.slot ≡ Some s) × IsEntryOf z (tables s) 0 e)

-- policy `asid`

-- a leaf on frame 0, the trampoline's code, which the kernel alone may read and execute
abbrev pub IsTrampolineLeaf : Option Leaf → Type 0
IsTrampolineLeaf l = (w : ℕ) × (l ≡ Some (page_leaf w)) × IsLeafOf w 0 code_rights false false true

-- an entry under the ASID of slot s: the hart is marked for s, or no process is in s, or the entry says what the table of the
-- process there says at this moment. In the first two cases it may be stale
abbrev pub IsProcessEntry : Scheme → List (Option SlotProcess) → Hart → (ℕ → Tables) → ℕ → TlbEntry → Type 0
IsProcessEntry z places x tables s e = (marks_of x.stale s ≡ true)
    ⊎ (((y : SlotProcess) → slice_get places s ≡ Some (Some y) → ⊥) ⊎ IsEntryOf z (tables s) (s + 1) e)

-- policy `asid`: an entry has ASID 0 and says what the kernel's table says, or it has the ASID s + 1 of a slot and is an
-- `IsProcessEntry`; one for TRAMPOLINE's page, under any ASID, has a leaf of the kernel's code
pub record IsEntryByAsid (z : Scheme) (places : List (Option SlotProcess)) (x : Hart) (tables : ℕ → Tables) (kernel : Tables) (e : TlbEntry) : Type 0 where
  pub code : e.page ≡ trampoline_page z → IsTrampolineLeaf e.leaf
  pub whose : IsEntryOf z kernel 0 e ⊎ ((s : ℕ) × (e.asid ≡ s + 1) × IsProcessEntry z places x tables s e)

-- a hart's buffer may have the entry, by the policy
abbrev pub IsCurrentEntry : Scheme → Policy → List (Option SlotProcess) → Hart → (ℕ → Tables) → Tables → TlbEntry → Type 0
IsCurrentEntry z Full places x tables kernel e = IsEntryByPhase z x tables kernel e
IsCurrentEntry z Asid places x tables kernel e = IsEntryByAsid z places x tables kernel e

-- a hart in phase `User` has no mark for the slot of its process
abbrev pub HasNoStaleMark : Hart → Type 0
HasNoStaleMark x = (s : ℕ) → x.phase ≡ phase.User → x.slot ≡ Some s → marks_of x.stale s ≡ false

-- the machine is in this world, and each buffer has only entries that it may have; under policy `asid` no hart in `User` has
-- a mark for the slot of its process
pub record IsInWorld (m : Machine) (w : World) : Type 0 where
  pub world : IsWorldButBuffers m w
  pub buffers : (h : ℕ) (x : Hart) (e : TlbEntry) → slice_get m.harts.items h ≡ Some x → Contains x.buffer e
      → IsCurrentEntry m.kernel.scheme m.policy m.slots.items x world.tables world.kernel e
  pub clean : m.policy ≡ Asid → (h : ℕ) (x : Hart) → slice_get m.harts.items h ≡ Some x → HasNoStaleMark x

-- Policy `asid`, after each step. Each buffer entry under the ASID of a living process says what a walk of its page table
-- finds at this moment, or the hart is marked for its slot; a hart in phase `User` has no mark for the slot of its process;
-- and each entry for TRAMPOLINE's page, under any ASID, has a leaf of the kernel's code in frame 0.
pub record AreEntriesCurrent (m : Machine) : Type 0 where
  pub own : (h s : ℕ) (x : Hart) (y : SlotProcess) (t : Tables) (e : TlbEntry) → slice_get m.harts.items h ≡ Some x
      → slice_get m.slots.items s ≡ Some (Some y) → HasTables m.kernel.scheme (view_of y) y.space.root.0 t → Contains x.buffer e
      → e.asid ≡ s + 1 → (marks_of x.stale s ≡ true) ⊎ IsEntryOf m.kernel.scheme t (s + 1) e
  pub unmarked : (h s : ℕ) (x : Hart) → slice_get m.harts.items h ≡ Some x → x.phase ≡ phase.User → x.slot ≡ Some s → marks_of x.stale s ≡ false
  pub code : (h : ℕ) (x : Hart) (e : TlbEntry) → slice_get m.harts.items h ≡ Some x → Contains x.buffer e
      → e.page ≡ trampoline_page m.kernel.scheme → IsTrampolineLeaf e.leaf
