-- TLB entries and page tables: that an entry has what the tables say of its page (`IsEntryOf`), and the entry that a fill
-- adds (`entry_for`).
use Rattle.std.specs.Prelude.{◌≡◌, ℕ, ◌*◌, false}
use Rattle.hart_tlb.specs.declared.entry.TlbEntry.{TlbEntry}
use Rattle.sv39_entry.specs.Address.{page_of}
use Rattle.sv39_entry.specs.declared.scheme.Scheme.{Scheme}
use Rattle.table_walk.specs.Leaves.{leaf_at}
use Rattle.table_walk.specs.Tables.{Tables}

-- the entry has this ASID, is not global, and has the leaf that the tables have for its page at this moment, or none if they
-- have none
pub record IsEntryOf (z : Scheme) (t : Tables) (asid : ℕ) (e : TlbEntry) : Type 0 where
  pub of_space : e.asid ≡ asid
  pub local : e.global ≡ false
  pub leaf : e.leaf ≡ leaf_at z t (4096 * e.page)

-- the entry that a fill for an address adds, by these tables and under this ASID
abbrev pub entry_for : Scheme → Tables → ℕ → ℕ → TlbEntry
entry_for z t asid address = record { page = page_of address; asid = asid; global = false; leaf = leaf_at z t address }
