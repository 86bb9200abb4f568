-- `HasExecuted`, a relation: the process in a slot after exec, and the files.
use Rattle.std.specs.Prelude.{◌≡◌, ℕ, List}
use Rattle.address_space.specs.Parts.{OwnsAlone}
use Rattle.process_model.specs.Files.{File}
use Rattle.process_model.specs.Images.{LoadSegment}
use Rattle.process_model.specs.ImageProcess.{process_of}
use Rattle.process_model.specs.Mappings.{all_written_back}
use Rattle.process_model.specs.Process.{Process}
use Rattle.table_walk.specs.Tables.{Tables}
use Rattle.hart_machine.specs.SlotProcesses.{IsSlotProcess, view_of}
use Rattle.hart_machine.specs.declared.slot_process.SlotProcess.{SlotProcess}

-- the process is that of the image, and its seat is the sole holder of each of its frames but frame 0; every mapping of the
-- process before, p, was written back to the files
pub record HasExecuted (y : SlotProcess) (p : Process) (ls : List LoadSegment) (before after : List File) : Type 0 where
  pub tables : Tables
  pub slot_process : (fresh : ℕ) → IsSlotProcess y tables (process_of p.scheme fresh ls)
  pub alone : OwnsAlone (view_of y) tables
  pub files : after ≡ all_written_back before p
