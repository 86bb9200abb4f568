-- The entries of a TLB in a caller's array of plain numbers: what one place of it says, and the list of all entries.
use Rattle.std.specs.Prelude.{ℕ, Bool, false, not, ◌==◌, ◌&&◌, ◌≡◌, ◌<◌, ◌-◌, nat_le, if◌then◌else◌, Option, None, Some, List, length, slice_get}
use Rattle.std.specs.List.{filter_map}
use Rattle.sv39_entry.specs.Address.{page_of}
use Rattle.table_walk.specs.Leaves.{Leaf}
use Rattle.sv39_entry.specs.declared.address.Va.{Va}
use Rattle.hart_tlb.specs.Entries.{is_fenced}
use Rattle.hart_tlb.specs.declared.entry.TlbEntry.{TlbEntry}
use Rattle.lent_memory.specs.declared.entry.LentEntry.{LentEntry}

abbrev pub entry_with : LentEntry → Option Leaf → TlbEntry
entry_with p leaf = record { page = page_of p.address; asid = p.asid; global = not (p.global == 0); leaf = leaf }

abbrev pub leaf_in : LentEntry → Leaf
leaf_in p = record { word = p.word; level = p.level }

-- the entry in a place: kind 1 is one with a leaf, whose level is at most 3; kind 2 one that records no leaf; any other
-- place is empty
abbrev pub entry_in : LentEntry → Option TlbEntry
entry_in p =
    if p.kind == 1 && nat_le p.level 3 then Some (entry_with p (Some (leaf_in p)))
    else (if p.kind == 2 then Some (entry_with p None) else None)

-- the entries of a buffer, the oldest first: those in its places, in their order, without the empty ones
abbrev pub entries_of : List LentEntry → List TlbEntry
entries_of ps = filter_map entry_in ps

-- the entry in place n; None if the place is empty or there is no such place
abbrev pub flat : Option LentEntry → Option TlbEntry
flat None = None
flat (Some p) = entry_in p

abbrev pub entry_at : List LentEntry → ℕ → Option TlbEntry
entry_at ps n = flat (slice_get ps n)

-- a fence removes the entry, if there is one
abbrev pub removes : Option Va → Option ℕ → Option TlbEntry → Bool
removes va asid None = false
removes va asid (Some e) = is_fenced va asid e

-- what a fence leaves of a place
abbrev pub unfenced : Option Va → Option ℕ → Option TlbEntry → Option TlbEntry
unfenced va asid o = if removes va asid o then None else o

-- an entry is in the last place, if there is a place
abbrev pub IsLast : TlbEntry → List LentEntry → Type 0
IsLast e ps = 0 < length ps → entry_at ps (length ps - 1) ≡ Some e
