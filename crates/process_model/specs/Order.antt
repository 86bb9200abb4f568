-- Predicates. Segments of an image in order of address (`InRow`, `IsPlaced`); regions in order and apart (`Row`), of a
-- process with heap and mappings too, with what holds of each region (`HasOrder`, `IsMapping`, `IsInOrder`); and `IsSound`,
-- what holds of every process in memory: regions in order, and each page in memory is among those that have page tables
-- (`tabled`).
use Rattle.std.specs.Prelude.{◌≡◌, ℕ, Bool, true, false, ◌+◌, ◌*◌, ◌≤◌, Some, List, [], ◌∷◌}
use Rattle.process_model.specs.Bytes.{pages_for}
use Rattle.process_model.specs.Images.{LoadSegment, end_of_loads, end_page}
use Rattle.process_model.specs.declared.limits.TheConstants.{GUARD_PAGES, LONGEST_MAPPING, STACK_PAGES}
use Rattle.process_model.specs.PageMap.{contains, get}
use Rattle.process_model.specs.Process.{Page, Process}
use Rattle.process_model.specs.Regions.{Region, Source, end_of, file, makes_leaf}
use Rattle.sv39_entry.specs.Address.{page_of}
use Rattle.sv39_entry.specs.Schemes.{trapframe_page}
use Rattle.sv39_entry.specs.declared.scheme.Scheme.{Scheme}

-- segments

-- a segment begins at page `low` or above, has at least one page, and its pages end at `end_page`
pub record StandsAt (low : ℕ) (l : LoadSegment) : Type 0 where
  pub above : low ≤ page_of l.address
  pub some : 1 ≤ pages_for l.memory_size
  pub end : page_of l.address + pages_for l.memory_size ≡ end_page l

-- the segments are in ascending order: the first begins at page `low` or above, each other at or above the end of the one
-- before it
abbrev pub InRow : ℕ → List LoadSegment → Type 0
InRow low [] = Unit {0}
InRow low (l ∷ ls) = StandsAt low l × InRow (end_page l) ls

-- the segments are in order, and between them and the trapframe there is room for guard and stack
pub record IsPlaced (s : Scheme) (ls : List LoadSegment) : Type 0 where
  pub row : InRow 0 ls
  pub below : end_of_loads 0 ls + (GUARD_PAGES + STACK_PAGES) ≤ trapframe_page s

-- regions

-- the regions are in ascending order, apart, between pages `low` and `high`, and each has at least `least` pages
abbrev pub Row : ℕ → ℕ → List Region → ℕ → Type 0
Row least low [] high = low ≤ high
Row least low (r ∷ rs) high = (low ≤ r.first) × (least ≤ r.pages) × Row least (end_of r) rs high

abbrev pub EachRegion : (Region → Type 0) → List Region → Type 0
EachRegion P [] = Unit {0}
EachRegion P (r ∷ rs) = P r × EachRegion P rs

abbrev pub HasLeaves : Region → Type 0
HasLeaves r = makes_leaf r ≡ true

-- whether a region's bytes come from a file: those of segments, guard and stack never do
abbrev pub is_file : Source → Bool
is_file (file n offset) = true
is_file _ = false

abbrev pub HasNoFile : Region → Type 0
HasNoFile r = is_file r.source ≡ false

-- if the source is a file, `pages` pages from its offset on end within the bytes that the longest mapping has. munmap of a
-- front moves the offset along, and the end stays
abbrev pub IsInReach : Source → ℕ → Type 0
IsInReach (file n offset) pages = offset + 4096 * pages ≤ LONGEST_MAPPING
IsInReach _ pages = Unit {0}

pub record IsMapping (m : Region) : Type 0 where
  pub leaves : HasLeaves m
  pub reach : IsInReach m.source m.pages

-- the parts end at or below the heap's base, the heap at or below the mappings, and these at or below the trapframe's page.
-- Each part has at least `least` pages, none of a file, and rights that fit a leaf (`makes_leaf`); each mapping has at least
-- one page, and is an `IsMapping`
pub record HasOrder (least : ℕ) (p : Process) : Type 0 where
  pub parts : Row least 0 p.parts (page_of p.heap_base)
  pub room : page_of p.heap_base ≤ pages_for p.size
  pub above : Row 1 (pages_for p.size) p.mappings (trapframe_page p.scheme)
  pub leaves : EachRegion HasLeaves p.parts
  pub sources : EachRegion HasNoFile p.parts
  pub mapped : EachRegion IsMapping p.mappings

-- the order of every process of the model: each part has at least one page too
abbrev pub IsInOrder : Process → Type 0
IsInOrder p = HasOrder 1 p

-- what holds of every process in memory: its regions are in order, where a part may have no page, and each settled page is
-- tabled
pub record IsSound (p : Process) : Type 0 where
  pub order : HasOrder 0 p
  pub tabled : (n : ℕ) (s : Page) → get p.settled n ≡ Some s → contains p.tabled n ≡ true
