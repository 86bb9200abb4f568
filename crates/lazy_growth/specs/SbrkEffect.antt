-- Record `Resizes`: what sbrk does to a space if it is not refused: it becomes the model's process with the new size, and
-- the leaves of the pages above that size are gone.
use Rattle.std.specs.Prelude.{◌≡◌, ℤ, Ok}
use Rattle.address_space.specs.Agreement.{Body, IsSpace}
use Rattle.address_space.specs.SpaceTeardown.{Drops}
use Rattle.process_model.specs.Bytes.{pages_for}
use Rattle.process_model.specs.Heap.{sbrk_result}
use Rattle.process_model.specs.Process.{Process}
use Rattle.table_walk.specs.Tables.{Tables}

-- the model gives the process with the new size, and the space is that process, by tables in which the leaves of the pages
-- above the new size are gone and every other leaf and table is as it was
pub record Resizes (x : Body) (t : Tables) (p : Process) (delta : ℤ) : Type 0 where
  pub process : Process
  pub is : sbrk_result p delta ≡ Ok process
  pub tables : Tables
  pub agrees : IsSpace x tables process
  pub drops : Drops t tables (pages_for process.size) (pages_for p.size)
