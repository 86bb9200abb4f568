-- `AreTablesOf`: the page tables are exactly those on the ways to the pages of a list and to TRAMPOLINE and TRAPFRAME, so
-- that they can be counted. A lemma: lists with the same members have the same tables.
use Rattle.std.specs.Prelude.{◌↔◌, ◌≡◌, ℕ, ◌≤◌, List, ◌∷◌, Contains, IsSome}
use Rattle.std.specs.FinMap.{get}
use Rattle.process_model.specs.Insertion.{behind_more}
use Rattle.sv39_entry.specs.Schemes.{top_level, trampoline_page, trapframe_page}
use Rattle.sv39_entry.specs.declared.scheme.Scheme.{Scheme}
use Rattle.table_walk.specs.Tables.{Tables, node}

-- the tables are exactly those on the ways to some pages, and to TRAMPOLINE's and TRAPFRAME's page
abbrev pub AreTablesOf : Scheme → Tables → List ℕ → Type 0
AreTablesOf s t pages = (k : ℕ)
    → IsSome (get t.tables k) ↔ ((page depth : ℕ) × Contains (trampoline_page s ∷ trapframe_page s ∷ pages) page × (depth ≤ top_level s)
    × (k ≡ node s page depth))

-- the tables of some pages are those of any list with the same members
pub same_members : (s : Scheme) (t : Tables) (xs ys : List ℕ) → ((y : ℕ) → Contains xs y → Contains ys y) → ((y : ℕ) → Contains ys y → Contains xs y)
    → AreTablesOf s t xs → AreTablesOf s t ys
same_members s t xs ys there back are k =
    let kernel = λ (xs ys : List ℕ) (into : (y : ℕ) → Contains xs y → Contains ys y).
    behind_more (trampoline_page s) (trapframe_page s ∷ xs) (trapframe_page s ∷ ys) (behind_more (trapframe_page s) xs ys into) in (
      (λ some. let way = (are k).0 some in (way.0, way.1, kernel xs ys there way.0 way.2, way.3, way.4)),
      (λ way. (are k).1 (way.0, way.1, kernel ys xs back way.0 way.2, way.3, way.4)),
    )
