-- The valid entries of all page tables below a root, as a list (`IsListing`): which ones they are, by the walks of the pages
-- (`IsValidEntry`, `entry_read`), and their order (`IsBefore`); and the first virtual address of one (`first_address`).
use Rattle.std.specs.Prelude.{◌≡◌, ◌⊎◌, ℕ, ◌-◌, ◌*◌, ◌/◌, ◌%◌, ◌^◌, ◌<◌, ◌≤◌, Some, List, All, AllPairs, Contains, nat_lt, if◌then◌else◌}
use Rattle.sv39_entry.specs.Address.{vpn}
use Rattle.sv39_entry.specs.Schemes.{low_page, page_limit, top_level}
use Rattle.sv39_entry.specs.Word.{kind_of}
use Rattle.sv39_entry.specs.declared.entry.Kind.TheVariants.{Invalid}
use Rattle.sv39_entry.specs.declared.scheme.Scheme.{Scheme}
use Rattle.table_walk.specs.Memory.{Memory}
use Rattle.table_walk.specs.Walk.{IsAt, Reads}
use Rattle.walk_lines.specs.declared.listing.TableEntry.{TableEntry}

-- an entry that is valid: a leaf or a pointer
abbrev pub IsValid : ℕ → Type 0
IsValid word = kind_of word ≡ Invalid → ⊥

-- the walk of the entry's first page reads it: the indices of that page above the entry's level lead to the table, its index
-- at that level is the entry's, and those below are 0
pub record IsValidEntry (s : Scheme) (m : Memory) (root : ℕ) (e : TableEntry) : Type 0 where
  pub low : e.level ≤ top_level s
  pub way : IsAt s m root e.page (top_level s - e.level) e.table
  pub index : e.index ≡ vpn e.page e.level
  pub read : m e.table e.index ≡ Some e.word
  pub valid : IsValid e.word
  pub first : e.page % 2 ^ (9 * e.level) ≡ 0
  pub within : e.page < page_limit s

-- the first page of those that an entry at a level maps, or leads to, together with this one
abbrev pub first_page : ℕ → ℕ → ℕ
first_page page level = page / 2 ^ (9 * level) * 2 ^ (9 * level)

-- the entry that the walk of a page reads at a level
abbrev pub entry_read : ℕ → ℕ → ℕ → ℕ → TableEntry
entry_read page level table word = record { level = level; table = table; index = vpn page level; page = first_page page level; word = word }

-- the order: by first page; an entry comes before those of the table that it leads to
abbrev pub IsBefore : TableEntry → TableEntry → Type 0
IsBefore d e = (d.page < e.page) ⊎ ((d.page ≡ e.page) × (e.level < d.level))

-- the list of the valid entries below a root, in order
pub record IsListing (s : Scheme) (m : Memory) (root : ℕ) (es : List TableEntry) : Type 0 where
  pub each : All (IsValidEntry s m root) es
  -- none is left out: it has every valid entry that the walk of a page reads
  pub all : (page level word : ℕ) → page < page_limit s → (r : Reads s m root page level (Some word)) → IsValid word
      → Contains es (entry_read page level r.table word)
  pub order : AllPairs IsBefore es

-- the first virtual address of a page, by its indices alone: that of the lower half of the addresses, or, if the highest
-- bit of the indices is set, of the upper half, which ends below 2^64
abbrev pub first_address : Scheme → ℕ → ℕ
first_address s page = if nat_lt (2 * low_page s page) (page_limit s) then low_page s page * 4096 else 2 ^ 64 - (page_limit s - low_page s page) * 4096
