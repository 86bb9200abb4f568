-- Which TLB entries a memory permits: the outcomes of walks over it, with a leaf or none (`IsOutcome`, `IsPermitted`); a
-- walk that ends in an access fault has none (`EndsInAccessFault`). Also frames inside the memory as a whole or not at all
-- (`LeadsToWhole`). (The standard, 4.2.1 and 4.3.2.)
use Rattle.std.specs.Prelude.{◌≡◌, ◌⊎◌, ℕ, ◌<◌, ◌/◌, Bool, true, false, Option, None, Some}
use Rattle.sv39_entry.specs.Address.{page_of}
use Rattle.sv39_entry.specs.declared.scheme.Scheme.{Scheme}
use Rattle.table_walk.specs.Memory.{Extent, Memory, has_byte, physical_address}
use Rattle.table_walk.specs.Walk.{Finds}
use Rattle.table_walk.specs.declared.walk.Found.TheVariants as found
use Rattle.table_walk.specs.Leaves.{Leaf}
use Rattle.hart_tlb.specs.declared.entry.TlbEntry.{TlbEntry}

-- a walk for an address finds this leaf, or none, and the mark G. Without a leaf there is no mark; with one, the byte that
-- it leads to is inside the memory
abbrev pub IsWalkResult : Scheme → Memory → Extent → ℕ → ℕ → Option Leaf → Bool → Type 0
IsWalkResult s m there root address None global = Finds s m root address found.NoLeaf × (global ≡ false)
IsWalkResult s m there root address (Some leaf) global =
    Finds s m root address (found.Leaf leaf.word leaf.level global) × (has_byte there (physical_address leaf.word leaf.level address) ≡ true)

-- the entry is the outcome of a walk for an address, from a root and under an ASID
pub record IsOutcome (s : Scheme) (m : Memory) (there : Extent) (root asid address : ℕ) (e : TlbEntry) : Type 0 where
  pub of_page : e.page ≡ page_of address
  pub of_space : e.asid ≡ asid
  pub shown : IsWalkResult s m there root address e.leaf e.global

-- a walk that ends in an access fault has no outcome: a word on the way, or the byte that its leaf
-- leads to, lies outside the memory
abbrev pub EndsInAccessFault : Scheme → Memory → Extent → ℕ → ℕ → Type 0
EndsInAccessFault s m there root address =
    Finds s m root address found.Outside
    ⊎ ((leaf : Leaf) × (global : Bool) × Finds s m root address (found.Leaf leaf.word leaf.level global)
    × (has_byte there (physical_address leaf.word leaf.level address) ≡ false))

-- the memory permits an entry, from a root and under an ASID: it is the outcome of a walk for an address of its page
abbrev pub IsPermitted : Scheme → Memory → Extent → ℕ → ℕ → TlbEntry → Type 0
IsPermitted s m there root asid e = (address : ℕ) × IsOutcome s m there root asid address e

-- a frame is inside the memory as a whole, or not at all
abbrev pub IsWhole : Extent → ℕ → Type 0
IsWhole there ppn = (i j : ℕ) → i < 512 → j < 512 → there ppn i ≡ there ppn j

-- the frame that a leaf leads an address to is so; always, if there is no leaf
abbrev pub LeadsToWhole : Extent → ℕ → Option Leaf → Type 0
LeadsToWhole there address None = Unit {0}
LeadsToWhole there address (Some leaf) = IsWhole there (physical_address leaf.word leaf.level address / 4096)
