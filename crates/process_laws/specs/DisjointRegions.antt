-- Two predicates: `AreApart`, no page is in two regions of a list; and `EachProcess`, a given predicate holds of the process
-- in each slot of a world that has one.
use Rattle.std.specs.Prelude.{◌≡◌, ℕ, true, Some, List, slice_get}
use Rattle.process_model.specs.Regions.{Region, holds_page}
use Rattle.process_model.specs.Process.{Process}
use Rattle.process_model.specs.World.{World, process_in}

-- no page is in two regions of the list
abbrev pub AreApart : List Region → Type 0
AreApart rs = (i j page : ℕ) (a b : Region) → slice_get rs i ≡ Some a → slice_get rs j ≡ Some b → holds_page a page ≡ true → holds_page b page ≡ true → i ≡ j

-- P holds of the process in each slot that has one
abbrev pub EachProcess : (Process → Type 0) → World → Type 0
EachProcess P w = (s : ℕ) (p : Process) → process_in w s ≡ Some p → P p
