-- Tests of one TLB entry: whether it may serve an access, by page and ASID (`matches`, `is_match`); whether its leaf maps an
-- address (`covers`); and whether a fence removes it (`is_fenced`).
use Rattle.std.specs.Prelude.{ℕ, Bool, true, false, not, ◌+◌, ◌*◌, ◌/◌, ◌^◌, ◌==◌, ◌&&◌, ◌||◌, Option, None, Some}
use Rattle.sv39_entry.specs.Address.{page_of}
use Rattle.sv39_entry.specs.declared.address.Va.{Va}
use Rattle.table_walk.specs.Leaves.{Leaf}
use Rattle.hart_tlb.specs.declared.entry.TlbEntry.{TlbEntry}

-- the entry serves the addresses of its page, under its own ASID or, if it is global, under every one (the standard, 4.3.1)
abbrev pub matches : ℕ → ℕ → TlbEntry → Bool
matches address asid e = e.page == page_of address && (e.asid == asid || e.global)

-- there is an entry, and it matches
abbrev pub is_match : ℕ → ℕ → Option TlbEntry → Bool
is_match address asid None = false
is_match address asid (Some e) = matches address asid e

-- the leaf of a page maps an address too: they agree in all bits above the offset in a page of the leaf's size
abbrev pub covers : ℕ → Leaf → ℕ → Bool
covers page leaf address = page * 4096 / 2 ^ (12 + 9 * leaf.level) == address / 2 ^ (12 + 9 * leaf.level)

-- a fence removes an entry of its ASID that is not global or, if it has none, of every ASID, global or not (the standard,
-- 4.2.1)
abbrev pub is_in_space : Option ℕ → TlbEntry → Bool
is_in_space None e = true
is_in_space (Some asid) e = e.asid == asid && not e.global

-- a fence for one address removes an entry if the page or superpage of its leaf holds the address (the standard, 4.2.1), and
-- each entry with no leaf, whatever its page (own choice); one for every address removes any
abbrev pub is_in_reach : Option Va → ℕ → Option Leaf → Bool
is_in_reach None page leaf = true
is_in_reach (Some va) page None = true
is_in_reach (Some va) page (Some leaf) = covers page leaf va.0

-- a fence removes the entry: both its ASID and its address say so
abbrev pub is_fenced : Option Va → Option ℕ → TlbEntry → Bool
is_fenced va asid e = is_in_space asid e && is_in_reach va e.page e.leaf
