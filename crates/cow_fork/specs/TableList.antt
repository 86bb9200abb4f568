-- Listing the frames of all page tables below a root: what the tables (`IsLed`, `IsEdged`) and the list (`CanList`) have to
-- be, what is listed so far (`ListsBelow`, `IsListing`) and at the end (`ListsTables`), and the first page from a number on
-- that has a leaf (`IsFirstPage`).
use Rattle.std.specs.Prelude.{◌≡◌, ◌⊎◌, ℕ, ◌<◌, ◌≤◌, List, Option, None, Some}
use Rattle.std.specs.FinMap.{get}
use Rattle.frame_store.specs.View.{View}
use Rattle.sv39_entry.specs.Schemes.{page_limit, top_level, trampoline_page, trapframe_page}
use Rattle.sv39_entry.specs.declared.scheme.Scheme.{Scheme}
use Rattle.table_walk.specs.Tables.{HasTables, leaf_node, node, Tables}
use Rattle.cow_fork.specs.Occurrences.{times}
use Rattle.process_model.specs.declared.limits.TheConstants.{MOST_FRAMES}

-- each table is on the way to a leaf: it is d levels below the root for a page n that has one
abbrev pub IsLed : Scheme → Tables → Type 0
IsLed z t = (k f : ℕ) → get t.tables k ≡ Some f → (n d w : ℕ) × (d ≤ top_level z) × (n < page_limit z) × (k ≡ node z n d)
    × (get t.leaves (leaf_node n) ≡ Some w)

-- no page from `end` up to, but without, TRAPFRAME has a leaf, and none above TRAMPOLINE; TRAPFRAME has one
pub record IsEdged (z : Scheme) (t : Tables) (end : ℕ) : Type 0 where
  pub low : end ≤ trapframe_page z
  pub bare : (n : ℕ) → end ≤ n → n < trapframe_page z → get t.leaves (leaf_node n) ≡ None
  pub there : (w : ℕ) × (get t.leaves (leaf_node (trapframe_page z)) ≡ Some w)
  pub above : (n : ℕ) → trampoline_page z < n → n < page_limit z → get t.leaves (leaf_node n) ≡ None

-- tables can be added to the list: it has each frame at most once, only numbers below 1,024, and no frame of a table
pub record CanList (t : Tables) (L : List ℕ) : Type 0 where
  pub once : (f : ℕ) → times f L ≤ 1
  pub low : (f : ℕ) → 0 < times f L → f < MOST_FRAMES
  pub other : (k f : ℕ) → get t.tables k ≡ Some f → times f L ≡ 0

-- list M has the frame of each table exactly once, and every other number as often as list L
abbrev pub ListsTables : Tables → List ℕ → List ℕ → Type 0
ListsTables t L M = (f : ℕ) → ((k : ℕ) × (get t.tables k ≡ Some f) × (times f M ≡ 1)) ⊎ (((k : ℕ) → get t.tables k ≡ Some f → ⊥) × (times f M ≡ times f L))

-- `ListsTables`, for the tables with numbers below the bound alone
abbrev pub ListsBelow : Tables → ℕ → List ℕ → List ℕ → Type 0
ListsBelow t bound L M = (f : ℕ) → ((k : ℕ) × (k < bound) × (get t.tables k ≡ Some f) × (times f M ≡ 1))
    ⊎ (((k : ℕ) → k < bound → get t.tables k ≡ Some f → ⊥) × (times f M ≡ times f L))

-- while tables are listed: list M has those with numbers below the bound, beside what list L has
pub record IsListing (z : Scheme) (v : View) (root : ℕ) (t : Tables) (bound : ℕ) (L M : List ℕ) : Type 0 where
  pub tables : HasTables z v root t
  pub led : IsLed z t
  pub can : CanList t L
  pub listed : ListsBelow t bound L M

-- the first page from `from` on that has a leaf, `None` if there is none
abbrev pub IsFirstPage : Scheme → Tables → ℕ → Option ℕ → Type 0
IsFirstPage z t from None = (n : ℕ) → from ≤ n → n < page_limit z → get t.leaves (leaf_node n) ≡ None
IsFirstPage z t from (Some page) = (from ≤ page) × (page < page_limit z) × ((w : ℕ) × (get t.leaves (leaf_node page) ≡ Some w))
    × ((n : ℕ) → from ≤ n → n < page → get t.leaves (leaf_node n) ≡ None)
