-- Lemmas for a page below the page limit (how many pages the indices of a scheme distinguish), as all pages of processes and
-- of the kernel are: what `map` ensures (`MapsAt`) of the leaf that a walk of the page may find (`walk_leaf`), it ensures of
-- the page's own leaf (`leaf_node`). Also for equal page numbers and equal schemes.
use Rattle.std.specs.Prelude.{ℕ, ◌<◌, ◌≡◌}
use Rattle.std.proofs.Common.{subst, sym}
use Rattle.frame_store.specs.View.{View}
use Rattle.sv39_entry.specs.Schemes.{page_limit, top_level}
use Rattle.sv39_entry.specs.declared.scheme.Scheme.{Scheme}
use Rattle.table_walk.specs.Nodes.{low_leaf}
use Rattle.table_walk.specs.Tables.{ChangesTables, HasTables, IsGrown, leaf_node, Tables, walk_leaf, with_leaf, missing}

-- what `map` ensures of the tables: those before, with n missing ones added, and with a leaf at `number`
abbrev pub MapsAt : Scheme → View → View → ℕ → Tables → ℕ → ℕ → ℕ → ℕ → Type 0
MapsAt s v w root t page number leaf n = (u : Tables) × IsGrown s t u page (top_level s) × HasTables s w root (with_leaf u number leaf)
    × ChangesTables v w t u n

pub maps_low : (s : Scheme) (v w : View) (root : ℕ) (t : Tables) (page leaf n : ℕ) → page < page_limit s → MapsAt s v w root t page (walk_leaf s page) leaf n
    → MapsAt s v w root t page (leaf_node page) leaf n
maps_low s v w root t page leaf n low maps = subst (λ (number : ℕ). MapsAt s v w root t page number leaf n) (low_leaf s page low) maps

-- `maps_low` for a page number that equals `place`
pub maps_place : (s : Scheme) (v w : View) (root : ℕ) (t : Tables) (page place leaf : ℕ) → page ≡ place → place < page_limit s
    → MapsAt s v w root t page (walk_leaf s page) leaf (missing s t page) → MapsAt s v w root t place (leaf_node place) leaf (missing s t place)
maps_place s v w root t page place leaf same low maps =
    maps_low s v w root t place leaf (missing s t place) low (subst (λ (n : ℕ). MapsAt s v w root t n (walk_leaf s n) leaf (missing s t n)) same maps)

-- tables by one scheme are tables by an equal one
pub tables_of_scheme : {x y : Scheme} {v : View} {root : ℕ} {t : Tables} → x ≡ y → HasTables x v root t → HasTables y v root t
tables_of_scheme {x} {y} {v} {root} {t} same has = subst (λ z. HasTables z v root t) same has

pub maps_for : (s z : Scheme) (v w : View) (root : ℕ) (t : Tables) (page leaf : ℕ) → s ≡ z → MapsAt z v w root t page (walk_leaf z page) leaf (missing z t page)
    → MapsAt s v w root t page (walk_leaf s page) leaf (missing s t page)
maps_for s z v w root t page leaf same maps = subst (λ x. MapsAt x v w root t page (walk_leaf x page) leaf (missing x t page)) (sym same) maps
