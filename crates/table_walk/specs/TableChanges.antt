-- Predicates for changes and for enumeration of page tables: when one page's leaf changes, every page with other table
-- indices stays mapped as it was (`OthersStay`); the next leaf from a page on, or before an end (`IsNextLeaf`,
-- `IsNextLeafBefore`); and, in one table, the next word that is not passed over as having no leaf (`IsNextEntry`).
use Rattle.std.specs.Prelude.{◌≡◌, ◌≢◌, ◌↔◌, ◌⊎◌, ℕ, suc, ◌-◌, ◌*◌, ◌^◌, ◌<◌, ◌≤◌, Option, None, Some}
use Rattle.std.specs.FinMap.{get}
use Rattle.frame_store.specs.NextWord.{NamesZeros}
use Rattle.frame_store.specs.View.{known_word, View}
use Rattle.sv39_entry.specs.declared.scheme.Scheme.{Scheme}
use Rattle.sv39_entry.specs.Schemes.{top_level}
use Rattle.table_walk.specs.Tables.{Tables, root_node, walk_leaf}
use Rattle.table_walk.specs.Memory.{Memory}
use Rattle.table_walk.specs.Places.{HasNoLeaves, IsFirstLeaf}
use Rattle.table_walk.specs.Walk.{Maps}

-- each page whose table indices are other than those of `page` is mapped as it was
abbrev pub OthersStay : Scheme → Memory → Memory → ℕ → ℕ → Type 0
OthersStay s before after root page = (other leaf level : ℕ) → walk_leaf s other ≢ walk_leaf s page
    → Maps s after root other leaf level ↔ Maps s before root other leaf level

-- how many places are below a table whose entries have this level: at level 0 its indices, and above it each index has 512
-- times as many as one of the level below
abbrev pub places : ℕ → ℕ
places level = 512 ^ suc level

-- k is the number of a table whose entries have this level
abbrev pub IsTableAt : ℕ → ℕ → Type 0
IsTableAt k level = (512 ^ (3 - level) ≤ k) × (k < 2 * 512 ^ (3 - level))

-- table k, whose entries have this level, has a word at index i
pub record HasEntry (v : View) (t : Tables) (k level i word : ℕ) : Type 0 where
  pub frame : ℕ
  pub table : get t.tables k ≡ Some frame
  pub at : IsTableAt k level
  pub in_table : i < 512
  pub read : (w : ℕ) → known_word v frame i ≡ Some w → word ≡ w

-- the first leaf from place `from` on below table k, whose entries have this level, with its place
abbrev pub IsNextLeafIn : Tables → ℕ → ℕ → ℕ → Option (ℕ × ℕ) → Type 0
IsNextLeafIn t k level from found = IsFirstLeaf t k (places level) from found

-- the first leaf from page `from` on, with its page: the places below the root are the pages
abbrev pub IsNextLeaf : Scheme → Tables → ℕ → Option (ℕ × ℕ) → Type 0
IsNextLeaf s t from found = IsNextLeafIn t (root_node s) (top_level s) from found

-- the first leaf from page `from` on and before page `end`, with its page; None if there is none
abbrev pub IsNextLeafBefore : Scheme → Tables → ℕ → ℕ → Option (ℕ × ℕ) → Type 0
IsNextLeafBefore s t from end None = HasNoLeaves t (root_node s) (places (top_level s)) from end
IsNextLeafBefore s t from end (Some p) = (p.0 < end) × IsNextLeaf s t from (Some p)

-- a word of a table is no leaf and has none below it: it is 0 or, above level 0, names a frame of zeros
abbrev pub HasNoLeafBelow : View → ℕ → ℕ → Type 0
HasNoLeafBelow v level w = (w ≡ 0) ⊎ ((0 < level) × NamesZeros v w)

-- no word of a table from index `first` up to, and without, `end`, if it is known, is a leaf or has one below it
abbrev pub ArePassed : View → ℕ → ℕ → ℕ → ℕ → Type 0
ArePassed v f level first end = (i w : ℕ) → first ≤ i → i < end → known_word v f i ≡ Some w → HasNoLeafBelow v level w

-- a word of a table that is not 0, from index `first` up to, and without, `last`, with its index; no known word before it is
-- a leaf or has one below it. None: this holds of all words of the range
abbrev pub IsNextEntry : View → ℕ → ℕ → ℕ → ℕ → Option (ℕ × ℕ) → Type 0
IsNextEntry v f level first last None = ArePassed v f level first last
IsNextEntry v f level first last (Some p) =
    (first ≤ p.0) × (p.0 < last) × ArePassed v f level first p.0 × (p.1 ≢ 0) × ((w : ℕ) → known_word v f p.0 ≡ Some w → p.1 ≡ w)
