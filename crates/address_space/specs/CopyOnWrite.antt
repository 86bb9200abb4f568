-- Predicates before (`CanSeparate`) and after (`Separates`) a settled page (one in memory) moves to a newly claimed frame,
-- for copy-on-write: with the same bytes, without copy-on-write mark, and by one credit (reserved frame).
use Rattle.std.specs.Prelude.{◌≡◌, ℕ, Bool, true, ◌&&◌, Some}
use Rattle.frame_store.specs.View.{View, IsSole, references}
use Rattle.process_model.specs.PageMap as pages
use Rattle.process_model.specs.Process.{Page, Process, regions}
use Rattle.process_model.specs.Regions.{makes_leaf, Region, region_at}
use Rattle.process_model.specs.Residence.{unmarked, with_page}
use Rattle.table_walk.specs.Tables.{Tables}
use Rattle.address_space.specs.Agreement.{is_dirty_page, IsFrameOfPage, no_extra, KeepsOtherLeaves, IsInMemory}
use Rattle.address_space.specs.Steps.{SpendsCredits}

-- before: page s is settled, on frame f, in region r, which can have leaves; if r grants writing, `dirty` says whether the
-- page's leaf has D
pub record CanSeparate (v : View) (root trapframe : ℕ) (t : Tables) (p : Process) (page : ℕ) (s : Page) (r : Region) (f : ℕ) (dirty : Bool) : Type 0 where
  pub stands : IsInMemory v root trapframe no_extra t p
  pub settled : pages.get p.settled page ≡ Some s
  pub in_region : region_at (regions p) page ≡ Some r
  pub leafy : makes_leaf r ≡ true
  pub on : IsFrameOfPage t page f
  pub kept : (dirty && r.writes) ≡ is_dirty_page r s

-- after: the page has the same bytes and no copy-on-write mark, and is on frame g, which the seat did not hold before and is
-- sole holder of; every other page keeps its leaf, and one credit was spent
pub record Separates (v w : View) (root trapframe : ℕ) (t u : Tables) (p : Process) (page : ℕ) (s : Page) (g : ℕ) : Type 0 where
  pub stands : (fresh : ℕ) (shared : Bool) → IsInMemory w root trapframe no_extra u (with_page p page (unmarked fresh shared s))
  pub on : IsFrameOfPage u page g
  pub fresh : references v g ≡ 0
  pub sole : IsSole w g
  pub others : KeepsOtherLeaves t u page
  pub spends : SpendsCredits v w 1
