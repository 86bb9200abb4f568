-- Lemma: the initial bytes of a page (`initial_page`) are, byte by byte, those of its file at the page's place, and zero
-- past the file's end and in pages of no file (`initial_byte`).
use Rattle.std.proofs.Common.{◌≡◌, ℕ, ◌+◌, ◌-◌, ◌*◌, ◌%◌, ◌<◌, inl, inr, refl, sym, ◌∙◌, arith, List, [], Option, None, Some, length, take, drop}
use Rattle.std.specs.Prelude.{replicate, slice_get}
use Rattle.std.proofs.lemmas.Bool.{cases_lt}
use Rattle.std.proofs.lemmas.List.{get_or-append_right, get_or-drop, get_or-replicate, get_or-take, get_or_append_left, get_or_past}
use Rattle.process_laws.specs.Latest.{byte_at, grant_byte, initial_byte, source_byte}
use Rattle.process_laws.specs.Pages.{grant_in, pages_on}
use Rattle.process_model.specs.Bytes.{padded}
use Rattle.process_model.specs.Files.{bytes_of, File}
use Rattle.process_model.specs.Process.{Process, regions}
use Rattle.process_model.specs.Regions.{file, image, Region, region_at, Source, zeros}
use Rattle.process_model.specs.Residence.{initial_page, region_page, source_page}
use Rattle.sv39_entry.specs.Address.{page_of}

pub padded_byte : (n : ℕ) (bs : List ℕ) (i : ℕ) → i < n → byte_at (padded n bs) i ≡ byte_at bs i
padded_byte n bs i few =
    let front = take n bs in
    let zeros_behind : List ℕ = replicate (n - length front) 0 in
    elim (cases_lt i (length front)) [
      | inl inside ↦ get_or_append_left front zeros_behind 0 i inside ∙ get_or-take n bs i 0 few
      | inr past ↦
          get_or-append_right front zeros_behind (length front) i 0 refl past
          ∙ get_or-replicate (n - length front) (i - length front) 0 0 (omega (arith, few, past))
          ∙ sym (get_or_past front i 0 past) ∙ get_or-take n bs i 0 few
    ]

none_byte : (i : ℕ) → i < 4096 → byte_at (padded 4096 []) i ≡ 0
none_byte i few = padded_byte 4096 [] i few ∙ get_or_past [] i 0 (omega arith)

from_source : (files : List File) (s : Source) (pages i : ℕ) → i < 4096 → byte_at (source_page files s (4096 * pages)) i ≡ source_byte files (pages_on s pages) i
from_source files zeros pages i few = none_byte i few
from_source files image pages i few = none_byte i few
from_source files (file n offset) pages i few =
    let bs = bytes_of (slice_get files n) in padded_byte 4096 (drop (offset + 4096 * pages) bs) i few ∙ get_or-drop (offset + 4096 * pages) bs i 0

from_region : (files : List File) (o : Option Region) (page i : ℕ) → i < 4096 → byte_at (region_page files o page) i ≡ grant_byte files (grant_in o page) i
from_region files None page i few = none_byte i few
from_region files (Some r) page i few = from_source files r.source (page - r.first) i few

pub initial_is : (files : List File) (p : Process) (a : ℕ) → byte_at (initial_page files p (page_of a)) (a % 4096) ≡ initial_byte files (Some p) a
initial_is files p a = from_region files (region_at (regions p) (page_of a)) (page_of a) (a % 4096) (omega arith)
