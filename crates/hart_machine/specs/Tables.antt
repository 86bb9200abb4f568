-- The page table that a hart's `satp` names (`present_table`), and whether it is there (`HasTable`); which accesses a hart
-- makes (`MayAsk`), and what one may be translated to, by a walk or by an entry of its buffer, the TLB (`IsTranslated`).
use Rattle.std.specs.Prelude.{◌≡◌, ◌⊎◌, ℕ, true, Option, None, Some, slice_get, if◌then◌else◌}
use Rattle.process_model.specs.Harts as model
use Rattle.sv39_entry.specs.declared.access.Access.{Access}
use Rattle.sv39_entry.specs.declared.access.Mode.{Mode}
use Rattle.table_walk.specs.Tables.{Tables}
use Rattle.table_walk.specs.declared.walk.Walk.{Walk}
use Rattle.process_model.specs.declared.phase.Phase.TheVariants.{User}
use Rattle.sv39_entry.specs.Address.{page_of}
use Rattle.sv39_entry.specs.Schemes.{trampoline_page}
use Rattle.sv39_entry.specs.declared.scheme.Scheme.{Scheme}
use Rattle.table_walk.specs.Leaves.{answer, Leaf, walk_answer}
use Rattle.hart_machine.specs.BufferEntries.{IsTrampolineLeaf, may_have_kernel, may_have_process}
use Rattle.hart_machine.specs.declared.hart.Hart.{Hart}
use Rattle.hart_machine.specs.declared.machine.Machine.{Machine}
use Rattle.hart_machine.specs.declared.translation.SatpTable.{SatpTable}
use Rattle.hart_machine.specs.declared.translation.SatpTable.TheVariants.{OfKernel, OfProcess}
use Rattle.hart_machine.specs.declared.slot_process.SlotProcess.{SlotProcess}

abbrev pub table_of : Option ℕ → SatpTable
table_of None = OfKernel
table_of (Some s) = OfProcess s

-- the page table that `satp` names in the hart's phase: that of the hart's process, or the kernel's
abbrev pub present_table : Hart → SatpTable
present_table x = if model.has_user_satp x.phase then table_of x.slot else OfKernel

-- the table is there: the kernel's always, a process's if the slot has a process
abbrev pub HasTable : Machine → SatpTable → Type 0
HasTable m OfKernel = Unit {0}
HasTable m (OfProcess s) = (x : SlotProcess) × (slice_get m.slots.items s ≡ Some (Some x))

abbrev pub tables_of : (ℕ → Tables) → Tables → SatpTable → Tables
tables_of tables kernel OfKernel = kernel
tables_of tables kernel (OfProcess s) = tables s

-- an access to TRAMPOLINE's page has the outcome that a leaf of the kernel's code gives it
abbrev pub IsCodeWalk : Scheme → ℕ → Access → Mode → Walk → Type 0
IsCodeWalk z address access mode walk = (page_of address ≡ trampoline_page z) × (l : Option Leaf) × IsTrampolineLeaf l × (walk ≡ answer l address access mode)

-- an access has the outcome that it has by the kernel's table or by the process's, of whichever the hart's buffer may have
-- entries in this phase; or, if the phase is not `User`, that of the kernel's code in TRAMPOLINE's page
abbrev pub IsTranslated : Scheme → Hart → (ℕ → Tables) → Tables → ℕ → Access → Mode → Walk → Type 0
IsTranslated z x tables kernel address access mode walk =
    ((may_have_kernel x.phase ≡ true) × (walk ≡ walk_answer z kernel address access mode))
    ⊎ (((s : ℕ) × (may_have_process x.phase ≡ true) × (x.slot ≡ Some s) × (walk ≡ walk_answer z (tables s) address access mode))
    ⊎ ((x.phase ≡ User → ⊥) × IsCodeWalk z address access mode walk))

-- the accesses that a hart makes: any in phase `User`, else only in TRAMPOLINE's page
abbrev pub MayAsk : Scheme → Hart → ℕ → Type 0
MayAsk z x address = (x.phase ≡ User) ⊎ (page_of address ≡ trampoline_page z)
