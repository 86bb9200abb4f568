-- Record `MappedRun`, pages of one mapping from a first page up to an end: from a run of the code, of a whole mapping, and
-- when it is one of a process (`IsRunOf`). The pages that writing it back writes (`moves_in`), the file and offset of a
-- mapping's stores (`stored_file`), and the run that munmap is asked to unmap, or the refusal (`requested_run`).
use Rattle.std.specs.Prelude.{◌≡◌, ℕ, Bool, true, false, ◌+◌, ◌%◌, ◌<◌, ◌≤◌, ◌==◌, ◌&&◌, nat_lt, Option, None, Some, Result, Ok, Err, List}
use Rattle.process_model.specs.Bytes.{pages_for}
use Rattle.process_model.specs.Mappings.{leaves_hole, mapping_around}
use Rattle.process_model.specs.Order.{IsMapping}
use Rattle.process_model.specs.PageMoves.{PageMove, run_moves}
use Rattle.process_model.specs.Process.{Process, regions}
use Rattle.process_model.specs.Regions.{end_of, file, keeps_stores, Region, region_at, Source}
use Rattle.process_model.specs.declared.reply.Refusal.{Refusal}
use Rattle.process_model.specs.declared.reply.Refusal.TheVariants.{BadArgument, HoleInMapping}
use Rattle.sv39_entry.specs.Address.{page_of}
use Rattle.sv39_entry.specs.Schemes.{trapframe_page}
use Rattle.address_space.specs.Layouts.{region_of}
use Rattle.mmap_regions.specs.declared.run.Run.{Run}

-- the pages of a mapping from `first` up to, and without, `end`
pub record MappedRun : Type 0 where
  pub mapping : Region
  pub first : ℕ
  pub end : ℕ

-- the run that one of the code is; in `all_of` all pages of a mapping
abbrev pub run_of : Run → MappedRun
run_of r = record { mapping = region_of r.mapping; first = r.first; end = r.end }

abbrev pub all_of : Region → MappedRun
all_of m = record { mapping = m; first = m.first; end = end_of m }

-- the run lies in its mapping, which can have leaves, whose offset and bytes together are at most 1,048,576, and which ends
-- at TRAPFRAME or below; each page of the run is in that region of the process p
pub record IsRunOf (p : Process) (r : MappedRun) : Type 0 where
  pub mapping : IsMapping r.mapping
  pub from : r.mapping.first ≤ r.first
  pub order : r.first ≤ r.end
  pub to : r.end ≤ end_of r.mapping
  pub low : end_of r.mapping ≤ trapframe_page p.scheme
  pub alone : (n : ℕ) → r.first ≤ n → n < r.end → region_at (regions p) n ≡ Some r.mapping

-- the pages that writing the run back writes, in ascending order
abbrev pub moves_in : Process → MappedRun → List PageMove
moves_in p r = run_moves p r.mapping r.first r.end

-- the file to which stores to the pages of a region are written back, and the offset in it of the region's first byte; None
-- if there is none
abbrev pub place_in : Bool → Source → Option (ℕ × ℕ)
place_in true (file n offset) = Some (n, offset)
place_in _ _ = None

abbrev pub stored_file : Region → Option (ℕ × ℕ)
stored_file m = place_in (keeps_stores (Some m)) m.source

-- the run that munmap is asked to unmap, or the refusal

abbrev pub run_unless : Region → ℕ → ℕ → Bool → Result MappedRun Refusal
run_unless m first end true = Err HoleInMapping
run_unless m first end false = Ok (record { mapping = m; first = first; end = end })

abbrev pub run_in : ℕ → ℕ → Option Region → Result MappedRun Refusal
run_in first end None = Err BadArgument
run_in first end (Some m) = run_unless m first end (leaves_hole m first end)

abbrev pub run_if : Process → ℕ → ℕ → Bool → Result MappedRun Refusal
run_if p first end false = Err BadArgument
run_if p first end true = run_in first end (mapping_around p.mappings first end)

abbrev pub requested_run : Process → ℕ → ℕ → Result MappedRun Refusal
requested_run p address length = run_if p (page_of address) (page_of address + pages_for length) (address % 4096 == 0 && nat_lt 0 length)

-- the run that one of the code is, or the refusal
abbrev pub requested_run_of : Result Run Refusal → Result MappedRun Refusal
requested_run_of (Ok r) = Ok (run_of r)
requested_run_of (Err e) = Err e
