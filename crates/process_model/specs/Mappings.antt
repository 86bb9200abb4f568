-- mmap (`mapped`) and munmap (`unmapped`) of files (the mmap lab of MIT 6.1810): where a mapping goes, what it grants, and
-- when a call is refused. Write-back: which pages of a mapping are written to its file, by munmap, or of all mappings, at
-- exec or the end.
use Rattle.std.specs.Prelude.{◌≡◌, ◌≤◌, ◌⊎◌, ℕ, Bool, true, false, not, ◌+◌, ◌-◌, ◌*◌, ◌/◌, ◌%◌, max, nat_le, nat_lt, ◌==◌, ◌&&◌, ◌||◌}
use Rattle.std.specs.Prelude.{Option, None, Some, is_none, unwrap_or, Result, Ok, Err, slice_get, List, [], ◌∷◌, ◌++◌, length, filter, map, fold}
use Rattle.std.specs.Prelude.{if◌then◌else◌}
use Rattle.std.specs.List.{list_all}
use Rattle.process_model.specs.Bytes.{pages_for, first_true}
use Rattle.process_model.specs.Files.{File, is_writable, with_page_written}
use Rattle.process_model.specs.Heap.{without_pages}
use Rattle.process_model.specs.Regions.{Region, shared_mapping, private_mapping, Source, file, keeps_stores, end_of}
use Rattle.process_model.specs.Process.{Process, Page}
use Rattle.sv39_entry.specs.Address.{page_of}
use Rattle.sv39_entry.specs.Schemes.{trapframe_page}
use Rattle.process_model.specs.declared.reply.Refusal.{Refusal}
use Rattle.process_model.specs.declared.reply.Refusal.TheVariants.{NoRoom, BadArgument, FileNotWritable, MappingsFull, HoleInMapping}
use Rattle.process_model.specs.declared.limits.TheConstants.{LONGEST_MAPPING, MOST_MAPPINGS}

-- the place of a mapping

abbrev pub is_apart : ℕ → ℕ → Region → Bool
is_apart first pages m = nat_le (first + pages) m.first || nat_le (end_of m) first

-- whether a mapping of `pages` pages may begin at page `first`: above the heap, below the trapframe, and apart from the
-- other mappings
abbrev pub fits_at : Process → ℕ → ℕ → Bool
fits_at p pages first = nat_le (pages_for p.size) first && nat_le (first + pages) (trapframe_page p.scheme) && list_all (is_apart first pages) p.mappings

-- `pages` pages from page `first` on are above the heap, below the trapframe, and meet no mapping: what `fits_at` tests
pub record Fits (p : Process) (pages first : ℕ) : Type 0 where
  pub above : pages_for p.size ≤ first
  pub below : first + pages ≤ trapframe_page p.scheme
  pub apart : (i : ℕ) (m : Region) → slice_get p.mappings i ≡ Some m → (first + pages ≤ m.first) ⊎ (end_of m ≤ first)

abbrev pub greatest : List ℕ → Option ℕ
greatest [] = None
greatest (n ∷ ns) = Some (fold max n ns)

-- the pages at which a mapping of `pages` pages would begin if it ended at the trapframe, or just below a mapping: the
-- greatest page at which it fits is one of these
abbrev pub places : Process → ℕ → List ℕ
places p pages = map (λ end. end - pages) (trapframe_page p.scheme ∷ map (λ m. m.first) p.mappings)

-- where a new mapping of `pages` pages begins: the greatest page at which it fits (own choice); None if it fits nowhere
abbrev pub mapping_place : Process → ℕ → Option ℕ
mapping_place p pages = greatest (filter (fits_at p pages) (places p pages))

-- mmap

-- PROT_READ is 1, PROT_WRITE 2, PROT_EXEC 4; MAP_SHARED is 1, MAP_PRIVATE 2
abbrev pub asks_read : ℕ → Bool
asks_read protection = protection % 2 == 1

abbrev pub asks_write : ℕ → Bool
asks_write protection = protection / 2 % 2 == 1

abbrev pub asks_execute : ℕ → Bool
asks_execute protection = protection / 4 % 2 == 1

abbrev pub is_shared : ℕ → Bool
is_shared flags = flags == 1

-- the requested mapping, from page `first` on, of file n from its beginning; one that may be written may be read
abbrev pub mapping_of : ℕ → ℕ → ℕ → ℕ → ℕ → Region
mapping_of first pages protection flags n = record {
  first = first;
  pages = pages;
  reads = asks_read protection || asks_write protection;
  writes = asks_write protection;
  executes = asks_execute protection;
  kind = if is_shared flags then shared_mapping else private_mapping;
  source = file n 0;
}

abbrev pub is_bad_mapping : List File → ℕ → ℕ → ℕ → ℕ → Bool
is_bad_mapping files len protection flags n =
    len == 0 || nat_lt LONGEST_MAPPING len || protection == 0 || nat_lt 7 protection || not (flags == 1 || flags == 2) || is_none (slice_get files n)

abbrev pub map_refusal : List File → Process → ℕ → ℕ → ℕ → ℕ → Option Refusal
map_refusal files p len protection flags n = first_true (
    (is_bad_mapping files len protection flags n, BadArgument)
    ∷ (is_shared flags && asks_write protection && not (is_writable (slice_get files n)), FileNotWritable)
    ∷ (nat_le MOST_MAPPINGS (length p.mappings), MappingsFull)
    ∷ (is_none (mapping_place p (pages_for len)), NoRoom)
    ∷ [])

-- what mmap gives: the process after it, and the page where the mapping begins
pub record Mapped : Type 0 where
  pub process : Process
  pub first : ℕ

-- the mappings with one more, in order of address
abbrev pub with_mapping : Region → List Region → List Region
with_mapping r [] = r ∷ []
with_mapping r (m ∷ ms) = if nat_lt r.first m.first then r ∷ m ∷ ms else m ∷ with_mapping r ms

abbrev pub mapped_unless : Process → Region → Option Refusal → Result Mapped Refusal
mapped_unless p r None = Ok (record { process = record p { mappings = with_mapping r p.mappings }; first = r.first })
mapped_unless p r (Some e) = Err e

-- mmap: no frame is taken. Refused as in `map_refusal`
unfoldable pub mapped : List File → Process → ℕ → ℕ → ℕ → ℕ → Result Mapped Refusal
mapped files p len protection flags n =
    let pages = pages_for len in
    mapped_unless p (mapping_of (unwrap_or (mapping_place p pages) 0) pages protection flags n) (map_refusal files p len protection flags n)

-- write-back

-- whether a settled page of the region is written back to its file: exactly if it has the dirty mark and the region is a
-- shared mapping that may be written
abbrev pub is_written_back : Region → Page → Bool
is_written_back m page = keeps_stores (Some m) && page.dirty

abbrev pub page_written : Source → List File → ℕ → List ℕ → List File
page_written (file n offset) files at bytes = with_page_written files n (offset + at) bytes
page_written _ files at bytes = files

-- the files after one settled page is written back, if it lies in the run and has to be written back
abbrev pub with_written : Region → ℕ → ℕ → List File → ℕ × Page → List File
with_written m first end files e =
    if nat_le first e.0 && nat_lt e.0 end && is_written_back m e.1 then page_written m.source files (4096 * (e.0 - m.first)) (e.1).bytes else files

-- the files after those settled pages of mapping m that have to be written back, from page `first` up to, and without,
-- `end`, are written in ascending order
abbrev pub written_back : List File → Process → Region → ℕ → ℕ → List File
written_back files p m first end = fold (with_written m first end) files p.settled.entries

abbrev pub mapping_written_back : Process → List File → Region → List File
mapping_written_back p files m = written_back files p m m.first (end_of m)

-- the files after every mapping is written back, in order of address: at exec, exit and an end by a rule
abbrev pub all_written_back : List File → Process → List File
all_written_back files p = fold (mapping_written_back p) files p.mappings

-- munmap

-- what munmap gives: the process and the files after it
pub record Unmapped : Type 0 where
  pub process : Process
  pub files : List File

abbrev pub moved_along : Source → ℕ → Source
moved_along (file n offset) pages = file n (offset + 4096 * pages)
moved_along s pages = s

-- what is left of a mapping below a run that begins at page `first`, and above a run that ends at page `end`: one region
-- each, or none
abbrev pub front_of : Region → ℕ → List Region
front_of m first = if nat_lt m.first first then record m { pages = first - m.first } ∷ [] else []

abbrev pub back_of : Region → ℕ → List Region
back_of m end = if nat_lt end (end_of m) then record m { first = end; pages = end_of m - end; source = moved_along m.source (end - m.first) } ∷ [] else []

-- the mapping that holds a whole run; None if none does
abbrev pub mapping_around : List Region → ℕ → ℕ → Option Region
mapping_around [] first end = None
mapping_around (m ∷ ms) first end = if nat_le m.first first && nat_le end (end_of m) then Some m else mapping_around ms first end

-- the mappings with others in place of the one that begins at page `at`
abbrev pub with_instead : List Region → ℕ → List Region → List Region
with_instead [] at rs = []
with_instead (m ∷ ms) at rs = if m.first == at then rs ++ ms else m ∷ with_instead ms at rs

abbrev pub unmapped_from : List File → Process → Region → ℕ → ℕ → Unmapped
unmapped_from files p m first end = record {
  process = record (without_pages p first end) { mappings = with_instead p.mappings m.first (front_of m first ++ back_of m end) };
  files = written_back files p m first end;
}

-- whether the run touches neither the start nor the end of the mapping
abbrev pub leaves_hole : Region → ℕ → ℕ → Bool
leaves_hole m first end = nat_lt m.first first && nat_lt end (end_of m)

abbrev pub unmapped_unless : List File → Process → Region → ℕ → ℕ → Bool → Result Unmapped Refusal
unmapped_unless files p m first end true = Err HoleInMapping
unmapped_unless files p m first end false = Ok (unmapped_from files p m first end)

abbrev pub unmapped_in : List File → Process → ℕ → ℕ → Option Region → Result Unmapped Refusal
unmapped_in files p first end None = Err BadArgument
unmapped_in files p first end (Some m) = unmapped_unless files p m first end (leaves_hole m first end)

abbrev pub unmapped_if : List File → Process → ℕ → ℕ → Bool → Result Unmapped Refusal
unmapped_if files p first end false = Err BadArgument
unmapped_if files p first end true = unmapped_in files p first end (mapping_around p.mappings first end)

-- munmap: the length is rounded up to pages. Refused with BadArgument if the address is no multiple of 4,096, the length is
-- 0, or the run is not inside one mapping; else with HoleInMapping if the run touches neither end of the mapping
unfoldable pub unmapped : List File → Process → ℕ → ℕ → Result Unmapped Refusal
unmapped files p address len =
    let first = page_of address in
    unmapped_if files p first (first + pages_for len) (address % 4096 == 0 && nat_lt 0 len)
