-- The PMP entries (`entries_of`), and whether they passed a test as they were at some moment up to one (`any_by`).
use Rattle.std.specs.Prelude.{ℕ, Bool, ◌&&◌, ◌||◌, min, nat_le, List, replicate, take}
use Rattle.std.specs.List.{list_any}
use Rattle.walk_rules.specs.declared.pmp.PmpEntry.{PmpEntry}
use Rattle.mmu.specs.declared.protection.PmpEntries.{PmpEntries}
use Rattle.mmu.specs.declared.protection.PmpWrite.{PmpWrite}
use Rattle.mmu.specs.declared.protection.Protection.{Protection}

abbrev pub entries_of : PmpEntries → List PmpEntry
entries_of e = take e.count e.entries

-- a write was made by a moment, and its entries pass a test
abbrev pub is_by : (List PmpEntry → Bool) → ℕ → PmpWrite → Bool
is_by test k w = nat_le w.number k && test (entries_of w.entries)

-- the entries at first, or after a write up to a moment, pass a test
abbrev pub any_by : (List PmpEntry → Bool) → Protection → ℕ → Bool
any_by test p k = test (entries_of p.first) || list_any (is_by test k) p.writes.items

-- this many entries, 64 at most, that match nothing
abbrev pub off_entries : ℕ → List PmpEntry
off_entries count = replicate (min count 64) (record { config = 0; address = 0 })
