-- `HasNewCopies`, an invariant of a world (the model's whole state): each copy number (names one copy of a page in memory)
-- is below the world's counter, and no process has one copy number at two pages.
use Rattle.std.specs.Prelude.{◌≡◌, ◌<◌, ℕ, Some}
use Rattle.process_model.specs.PageMap.{get}
use Rattle.process_model.specs.Process.{Process, Page}
use Rattle.process_model.specs.World.{World, process_in}

-- the counter is above all copy numbers, and no process has one copy number at two pages
pub record HasNewCopies (w : World) : Type 0 where
  pub below : (s page : ℕ) (p : Process) (x : Page) → process_in w s ≡ Some p → get p.settled page ≡ Some x → x.copy < w.counter
  pub once : (s m n : ℕ) (p : Process) (x y : Page) → process_in w s ≡ Some p → get p.settled m ≡ Some x → get p.settled n ≡ Some y → x.copy ≡ y.copy → m ≡ n
