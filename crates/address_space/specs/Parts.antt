-- Parts (regions with their first bytes) of which a space is built: their pages, the lists that may be built (`AreParts`) and
-- the process that they make (`process_of_parts`). Counts of frames: of a whole space (`build_need`), of one without its
-- trapframe (`tree_need`), of some pages more (`pages_need`). Predicates before and after each step of a build; and
-- `OwnsAlone`: the seat is the sole holder of the space's frames, but for frame 0.
use Rattle.std.specs.Prelude.{◌≡◌, ◌≢◌, ℕ, ◌+◌, ◌-◌, ◌*◌, ◌<◌, ◌≤◌, false, true, All, None, Some, List, [], ◌∷◌, flat_map, length, map}
use Rattle.frame_store.specs.View.{View, hold_of, IsSole}
use Rattle.process_model.specs.Frames.{tables_needed, tables_of}
use Rattle.process_model.specs.ImageProcess.{numbered, page_run}
use Rattle.process_model.specs.Order.{is_file}
use Rattle.process_model.specs.PageMap as pages
use Rattle.process_model.specs.PageMap.{PageMap, NumberSet, empty, from_list, numbers}
use Rattle.process_model.specs.Process.{Page, Process, regions}
use Rattle.process_model.specs.Regions.{end_of, makes_leaf, Region, region_at}
use Rattle.process_model.specs.declared.limits.TheConstants.{MOST_PARTS}
use Rattle.table_walk.specs.Tables.{Tables}
use Rattle.address_space.specs.Agreement.{HoldsTrapframe, NamesFrame, no_extra, IsInMemory}
use Rattle.address_space.specs.Layouts.{last_page, region_of}
use Rattle.address_space.specs.Steps.{SpendsCredits}
use Rattle.address_space.specs.declared.part.Part.{Part}
use Rattle.sv39_entry.specs.Schemes.{trapframe_page, top_level}
use Rattle.sv39_entry.specs.declared.scheme.Scheme.{Scheme}

abbrev pub region_in : Part → Region
region_in p = region_of p.region

abbrev pub regions_in : List Part → List Region
regions_in ps = map region_in ps

-- the pages of a part by number, each with its 4,096 bytes: the part's bytes in order, and zeros after them
abbrev pub part_pages : Part → List (ℕ × List ℕ)
part_pages p = page_run p.region.first p.bytes.now p.region.pages

abbrev pub pages_of : List Part → List (ℕ × List ℕ)
pages_of ps = flat_map part_pages ps

abbrev pub numbers_of : List Part → List ℕ
numbers_of ps = map (λ (e : ℕ × List ℕ). e.0) (pages_of ps)

-- how many frames a space of these parts takes: the trapframe's, one for each page, and the page tables
abbrev pub build_need : Scheme → List Part → ℕ
build_need z ps = 1 + length (pages_of ps) + tables_needed z (numbers_of ps)

-- each part begins at the end of the one before it or above, the first at page `end` or above
abbrev pub IsAscending : ℕ → List Part → Type 0
IsAscending end [] = Unit {0}
IsAscending end (p ∷ ps) = (end ≤ p.region.first) × IsAscending (end_of (region_in p)) ps

-- parts that a space can be built of: at most 18, ascending and apart, below TRAPFRAME, each a region that can have leaves
pub record AreParts (z : Scheme) (ps : List Part) : Type 0 where
  pub few : length ps ≤ MOST_PARTS
  pub ascending : IsAscending 0 ps
  pub low : All (λ p. p.region.first + p.region.pages ≤ (trapframe_page z)) ps
  pub leafy : All (λ p. makes_leaf (region_in p) ≡ true) ps
  -- none is of a file
  pub sources : All (λ p. is_file (region_in p).source ≡ false) ps

-- the process of these parts with these settled and tabled pages: no mapping, an empty heap at the end of the last part, no
-- access pending
abbrev pub settled_process : Scheme → List Part → PageMap Page → NumberSet → Process
settled_process z ps settled tabled =
    let end = 4096 * last_page 0 (regions_in ps) in
    record { scheme = z; parts = regions_in ps; mappings = []; heap_base = end; size = end; settled = settled; tabled = tabled; pending = None }

-- the process that starts with these parts: all their pages are settled, each with a copy number of its own, from `fresh` on
abbrev pub process_of_parts : Scheme → ℕ → List Part → Process
process_of_parts z fresh ps = settled_process z ps (from_list (numbered fresh (pages_of ps))) (numbers (numbers_of ps))

-- the seat is the sole holder of each frame that the tables name, but for TRAMPOLINE's
abbrev pub OwnsAlone : View → Tables → Type 0
OwnsAlone v t = (f k : ℕ) → NamesFrame t f k → f ≢ 0 → IsSole v f

-- while a space is built

-- how many frames a space of these parts takes if the seat has the trapframe's: one for each page, and the page tables
abbrev pub tree_need : Scheme → List Part → ℕ
tree_need z ps = length (pages_of ps) + tables_needed z (numbers_of ps)

-- the process of these parts with no page settled
abbrev pub bare_process : Scheme → List Part → Process
bare_process z ps = settled_process z ps (empty Page) (empty (Unit {0}))

-- the process with one more page, of these bytes; in `with_pages` with a list of pages, one after another
abbrev pub with_settled : Process → ℕ × List ℕ → Process
with_settled p e = record p {
  settled = pages.insert p.settled e.0 (record { bytes = e.1; copy = 0; cow = false; dirty = false });
  tabled = pages.insert p.tabled e.0 tt;
}

abbrev pub with_pages : Process → List (ℕ × List ℕ) → Process
with_pages p [] = p
with_pages p (e ∷ es) = with_pages (with_settled p e) es

-- how many frames the process takes more with these pages: one for each, and the tables that are missing
abbrev pub pages_need : Process → List (ℕ × List ℕ) → ℕ
pages_need p es = length es + (tables_of (with_pages p es) - tables_of p)

-- the process p is in memory, and the seat is the sole holder of its frames, but for frame 0
pub record StandsAlone (v : View) (root trapframe : ℕ) (t : Tables) (p : Process) : Type 0 where
  pub stands : IsInMemory v root trapframe no_extra t p
  pub alone : OwnsAlone v t

-- before the first tables are made: the seat holds the frames of TRAMPOLINE and TRAPFRAME, and has a credit for the root and
-- for each table on the way to these two pages
pub record CanOpen (z : Scheme) (v : View) (trapframe : ℕ) : Type 0 where
  pub holds : HoldsTrapframe v trapframe
  pub credits : 1 + top_level z ≤ v.credits

-- after the first tables are made: TRAMPOLINE and TRAPFRAME are mapped and no other page, and these credits are spent
pub record OpensSpace (z : Scheme) (v w : View) (root trapframe : ℕ) (t : Tables) : Type 0 where
  pub stands : (p : Process) → p.scheme ≡ z → p.settled ≡ empty Page → p.tabled ≡ empty (Unit {0}) → IsInMemory w root trapframe no_extra t p
  pub alone : OwnsAlone w t
  pub saved : hold_of w trapframe ≡ hold_of v trapframe
  pub spends : SpendsCredits v w (1 + top_level z)

-- before a part is filled: none of its pages is settled, nor any above them; its region is one of the process's, can have
-- leaves, and ends at TRAPFRAME or below
pub record CanFill (v : View) (root trapframe : ℕ) (t : Tables) (p : Process) (part : Part) : Type 0 where
  pub before : StandsAlone v root trapframe t p
  pub unsettled : (page : ℕ) → part.region.first ≤ page → pages.get p.settled page ≡ None
  pub in_region : (page : ℕ) → part.region.first ≤ page → page < end_of (region_in part) → region_at (regions p) page ≡ Some (region_in part)
  pub leafy : makes_leaf (region_in part) ≡ true
  pub low : end_of (region_in part) ≤ trapframe_page p.scheme

-- after pages are filled: the process with these pages is in memory, the seat is the sole holder of its frames but frame 0,
-- and a credit is spent for each page and each missing table
pub record FillsPages (v w : View) (root trapframe : ℕ) (u : Tables) (p : Process) (es : List (ℕ × List ℕ)) : Type 0 where
  pub after : StandsAlone w root trapframe u (with_pages p es)
  pub saved : hold_of w trapframe ≡ hold_of v trapframe
  pub spends : SpendsCredits v w (pages_need p es)
