-- Which page table entries (PTEs) the walks of all pages below a root read, in a memory as it is (`IsListing`), and which mappings these
-- tables have (`AreMappings`), for a hart with some extensions, and for Sv39, Sv48 and Sv57 by the level of the root's PTEs, "top": 2, 3 or 4
-- (RISC-V Privileged Architecture 20211203, 4.3.2, 4.4 to 4.6). A page is known by its number without the bits above its indices.
use Rattle.std.specs.Prelude.{◌≡◌, ◌⊎◌, ℕ, suc, ◌+◌, ◌-◌, ◌*◌, ◌/◌, ◌%◌, ◌^◌, ◌<◌, ◌≤◌, Some, List, All, AllPairs, Contains, nat_lt, if◌then◌else◌}
use Rattle.sv39_entry.specs.Address.{vpn}
use Rattle.sv39_entry.specs.declared.entry.Kind.TheVariants.{Invalid, Leaf}
use Rattle.walk_rules.specs.Kinds.{kind_in}
use Rattle.walk_rules.specs.declared.extensions.Extensions.{Extensions}
use Rattle.access_history.specs.History.{Memory}
use Rattle.access_history.specs.Walks.{IsWay, levels_above}
use Rattle.table_dumps.specs.declared.listing.ValidEntry.{ValidEntry}

-- how many pages the indices of all levels distinguish: 2 ^ 27, 2 ^ 36 or 2 ^ 45
abbrev pub page_limit : ℕ → ℕ
page_limit top = 512 ^ suc top

-- the walk of a page reads this word at a level
pub record Reads (x : Extensions) (m : Memory) (root top page level word : ℕ) : Type 0 where
  pub low : level ≤ top
  pub table : ℕ
  pub way : IsWay x m root page top (levels_above top level) table
  pub read : m table (vpn page level) ≡ Some word

-- the walk of a page comes to a leaf: it reads this word at a level, where it is a leaf. Rights are not judged, nor whether a superpage is aligned
pub record ComesTo (x : Extensions) (m : Memory) (root top page level leaf : ℕ) : Type 0 where
  pub reads : Reads x m root top page level leaf
  pub kind : kind_in x level leaf ≡ Leaf

-- a PTE at a level is valid: a leaf or a pointer
abbrev pub IsValid : Extensions → ℕ → ℕ → Type 0
IsValid x level word = kind_in x level word ≡ Invalid → ⊥

-- the walk of the PTE's first page reads it: the indices of that page above the PTE's level lead to the table, its index at that level is the
-- PTE's, and those below are 0
pub record IsValidEntry (x : Extensions) (m : Memory) (root top : ℕ) (e : ValidEntry) : Type 0 where
  pub low : e.level ≤ top
  pub way : IsWay x m root e.page top (levels_above top e.level) e.table
  pub index : e.index ≡ vpn e.page e.level
  pub read : m e.table e.index ≡ Some e.word
  pub valid : IsValid x e.level e.word
  pub first : e.page % 512 ^ e.level ≡ 0
  pub within : e.page < page_limit top

-- the first page of those that a PTE at a level maps, or leads to, together with this one
abbrev pub first_page : ℕ → ℕ → ℕ
first_page page level = page / 512 ^ level * 512 ^ level

-- the PTE that the walk of a page reads at a level
abbrev pub entry_read : ℕ → ℕ → ℕ → ℕ → ValidEntry
entry_read page level table word = record { level = level; table = table; index = vpn page level; page = first_page page level; word = word }

-- the order: by first page; a pointer comes before the PTEs of the table that it leads to
abbrev pub IsBefore : ValidEntry → ValidEntry → Type 0
IsBefore d e = (d.page < e.page) ⊎ ((d.page ≡ e.page) × (e.level < d.level))

-- the valid PTEs below a root, each once and in order
pub record IsListing (x : Extensions) (m : Memory) (root top : ℕ) (es : List ValidEntry) : Type 0 where
  pub each : All (IsValidEntry x m root top) es
  -- none is left out: it has every valid PTE that the walk of a page reads
  pub all : (page level word : ℕ) → page < page_limit top → (r : Reads x m root top page level word) → IsValid x level word
      → Contains es (entry_read page level r.table word)
  pub order : AllPairs IsBefore es

-- a mapping: a PTE that maps pages from its first page on, 512 ^ level of them
pub record IsMapping (x : Extensions) (m : Memory) (root top : ℕ) (e : ValidEntry) : Type 0 where
  pub leaf : ComesTo x m root top e.page e.level e.word
  pub table : e.table ≡ leaf.reads.table
  pub index : e.index ≡ vpn e.page e.level
  pub first : e.page % 512 ^ e.level ≡ 0
  pub within : e.page < page_limit top

-- the mappings below a root: each leaf to which the walk of a page comes, once and in order of addresses
pub record AreMappings (x : Extensions) (m : Memory) (root top : ℕ) (es : List ValidEntry) : Type 0 where
  pub each : All (IsMapping x m root top) es
  -- none is left out: the page of any walk that comes to a leaf is in it, with that word and level
  pub all : (page level leaf : ℕ) → page < page_limit top → (c : ComesTo x m root top page level leaf)
      → Contains es (entry_read page level c.reads.table leaf)
  -- the next one begins where this one ends, or later
  pub order : AllPairs (λ (d e : ValidEntry). d.page + 512 ^ d.level ≤ e.page) es

-- a page below a limit, in addresses: of the lower half as it is, of the upper half so that the last page ends at 2 ^ 64
abbrev pub extended : ℕ → ℕ → ℕ
extended limit page = if nat_lt (2 * page) limit then page * 4096 else 2 ^ 64 - (limit - page) * 4096

-- the first virtual address of a page, by its indices alone, sign-extended
abbrev pub first_address : ℕ → ℕ → ℕ
first_address top page = extended (page_limit top) page
