-- The page table walk of a scheme over a whole memory, as relations (the standard, 4.3.2): the words that it reads, the leaf
-- to which it maps a page (`Maps`), whether that is global, and which tables must be readable (`CanWalk`); what it finds for
-- an address (`Finds`); and the outcome of an access (`Translates`).
use Rattle.std.specs.Prelude.{◌≡◌, ◌⊎◌, ◌↔◌, IsTrue, ℕ, zero, suc, ◌-◌, ◌≤◌, ◌*◌, ◌%◌, ◌^◌, true, false, Option, None, Some}
use Rattle.sv39_entry.specs.Address.{has, page_of, vpn}
use Rattle.sv39_entry.specs.Causes.{access_fault_cause, page_fault_cause}
use Rattle.sv39_entry.specs.Schemes.{is_canonical, top_level}
use Rattle.sv39_entry.specs.Word.{kind_of, permits, ppn}
use Rattle.sv39_entry.specs.declared.access.Access.{Access}
use Rattle.sv39_entry.specs.declared.access.Mode.{Mode}
use Rattle.sv39_entry.specs.declared.entry.Kind.TheVariants.{Leaf, Pointer}
use Rattle.sv39_entry.specs.declared.scheme.Scheme.{Scheme}
use Rattle.table_walk.specs.Memory.{Extent, Memory, has_byte, physical_address}
use Rattle.table_walk.specs.declared.walk.Found.{Found}
use Rattle.table_walk.specs.declared.walk.Found.TheVariants as found
use Rattle.table_walk.specs.declared.walk.Walk.{Walk}
use Rattle.table_walk.specs.declared.walk.Walk.TheVariants as walk

-- the walk of a page is at this table after k pointers
abbrev pub IsAt : Scheme → Memory → ℕ → ℕ → ℕ → ℕ → Type 0
IsAt s m root page zero table = table ≡ root
IsAt s m root page (suc k) table = (above pointer : ℕ) × IsAt s m root page k above × (m above (vpn page (top_level s - k)) ≡ Some pointer)
    × (kind_of pointer ≡ Pointer) × (table ≡ ppn pointer)

-- the walk of a page reads this word at a level; None: the word is outside the memory
pub record Reads (s : Scheme) (m : Memory) (root page level : ℕ) (word : Option ℕ) : Type 0 where
  pub low : level ≤ top_level s
  pub table : ℕ
  pub way : IsAt s m root page (top_level s - level) table
  pub read : m table (vpn page level) ≡ word

-- the memory maps a page to a leaf at a level: the walk reads it there, and its physical page number is a multiple of the
-- pages that it maps
pub record Maps (s : Scheme) (m : Memory) (root page leaf level : ℕ) : Type 0 where
  pub reads : Reads s m root page level (Some leaf)
  pub kind : kind_of leaf ≡ Leaf
  pub aligned : ppn leaf % 2 ^ (9 * level) ≡ 0

-- the leaf of a page at a level is global: it has G, or a pointer on the way to it has (the standard, 4.3.1)
abbrev pub IsGlobal : Scheme → Memory → ℕ → ℕ → ℕ → Type 0
IsGlobal s m root page level =
    (k table word : ℕ) × (k ≤ top_level s - level) × IsAt s m root page k table × (m table (vpn page (top_level s - k)) ≡ Some word) × (has word 5 ≡ true)

-- a word on the way of the walk lies outside the memory
abbrev pub LeavesMemory : Scheme → Memory → ℕ → ℕ → Type 0
LeavesMemory s m root page = (level : ℕ) × Reads s m root page level None

-- the condition of a walk, and of a translation: every table on the way to a page may be read
abbrev pub CanWalk : Scheme → (ℕ → Type 0) → Memory → ℕ → ℕ → Type 0
CanWalk s readable m root page = (k table : ℕ) → k ≤ top_level s → IsAt s m root page k table → readable table

-- the walk of an address, which is canonical, finds this leaf at a level
abbrev pub FindsLeaf : Scheme → Memory → ℕ → ℕ → ℕ → ℕ → Type 0
FindsLeaf s m root address leaf level = (is_canonical s address ≡ true) × Maps s m root (page_of address) leaf level

-- what a walk finds for an address, whatever the rights
abbrev pub Finds : Scheme → Memory → ℕ → ℕ → Found → Type 0
Finds s m root address (found.Leaf leaf level global) = FindsLeaf s m root address leaf level × (IsTrue global ↔ IsGlobal s m root (page_of address) level)
Finds s m root address found.Outside = (is_canonical s address ≡ true) × LeavesMemory s m root (page_of address)
Finds s m root address found.NoLeaf =
    (is_canonical s address ≡ false) ⊎ (((leaf level : ℕ) → Maps s m root (page_of address) leaf level → ⊥) × (LeavesMemory s m root (page_of address) → ⊥))

-- the outcome of the translation of an access. Rights are judged before the byte that the leaf leads to is looked for
abbrev pub Translates : Scheme → Memory → Extent → ℕ → ℕ → Access → Mode → Walk → Type 0
Translates s m there root address access mode (walk.Leaf leaf level physical) =
    FindsLeaf s m root address leaf level × (permits mode access leaf ≡ true) × (physical ≡ physical_address leaf level address)
    × (has_byte there physical ≡ true)
Translates s m there root address access mode (walk.PageFault cause) =
    (cause ≡ page_fault_cause access)
    × (Finds s m root address found.NoLeaf ⊎ ((leaf level : ℕ) × FindsLeaf s m root address leaf level × (permits mode access leaf ≡ false)))
Translates s m there root address access mode (walk.AccessFault cause) =
    (cause ≡ access_fault_cause access)
    × (Finds s m root address found.Outside
    ⊎ ((leaf level : ℕ) × FindsLeaf s m root address leaf level × (permits mode access leaf ≡ true)
    × (has_byte there (physical_address leaf level address) ≡ false)))
