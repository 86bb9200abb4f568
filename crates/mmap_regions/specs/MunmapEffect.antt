-- Effect of munmap: the pages that it writes back (`unmap_moves`), the space and the files after it (`Unmaps`), and why it
-- is refused (`IsUnmapRefusal`): by the model, or as the files refused the promise (a reservation of file writes).
use Rattle.std.specs.Prelude.{◌≡◌, ◌⊎◌, ℕ, ◌+◌, List, [], length, Result, Ok, Err}
use Rattle.address_space.specs.Agreement.{Body, IsSpace}
use Rattle.address_space.specs.SpaceTeardown.{Drops}
use Rattle.file_cabinet.specs.Promises.{refusal_of}
use Rattle.file_cabinet.specs.declared.promise.PromiseError.{PromiseError}
use Rattle.mmap_regions.specs.Runs.{moves_in, MappedRun, requested_run}
use Rattle.process_model.specs.Bytes.{pages_for}
use Rattle.process_model.specs.Files.{File}
use Rattle.process_model.specs.Mappings.{Unmapped, unmapped}
use Rattle.process_model.specs.PageMoves.{PageMove}
use Rattle.process_model.specs.Process.{Process}
use Rattle.process_model.specs.declared.reply.Refusal.{Refusal}
use Rattle.sv39_entry.specs.Address.{page_of}
use Rattle.table_walk.specs.Tables.{Tables}

-- the pages that are written back for a requested run; none after a refusal
abbrev pub requested_moves : Process → Result MappedRun Refusal → List PageMove
requested_moves p (Ok r) = moves_in p r
requested_moves p (Err e) = []

-- the pages that munmap writes back for these arguments, in ascending order; none if the model refuses them
abbrev pub unmap_moves : Process → ℕ → ℕ → List PageMove
unmap_moves p address len = requested_moves p (requested_run p address len)

-- the model does not refuse; the space is its process, by tables in which the leaves of the run are gone and every other
-- leaf and table is as it was; the files are its files
pub record Unmaps (x : Body) (t : Tables) (p : Process) (before after : List File) (address len : ℕ) : Type 0 where
  pub what : Unmapped
  pub is : unmapped before p address len ≡ Ok what
  pub tables : Tables
  pub agrees : IsSpace x tables what.process
  pub drops : Drops t tables (page_of address) (page_of address + pages_for len)
  pub files : after ≡ what.files

-- e is the model's refusal; or the model does not refuse, and e says why `files` refused the promise of the pages to be
-- written back
abbrev pub IsUnmapRefusal : (ℕ → PromiseError → Type 0) → List File → Process → ℕ → ℕ → Refusal → Type 0
IsUnmapRefusal CanRefuse files p address len e =
    (unmapped files p address len ≡ Err e)
    ⊎ ((what : Unmapped) × (unmapped files p address len ≡ Ok what) × (x : PromiseError) × CanRefuse (length (unmap_moves p address len)) x
    × (e ≡ refusal_of x))
