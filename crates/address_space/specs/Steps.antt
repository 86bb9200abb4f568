-- Conditions and effects of the calls of `Space`, as predicates: settling a page (bringing it into memory), taking one over
-- (copy-on-write), reads and writes, the dirty mark (D), the end of a space, a change of its regions. Also counts of frames
-- and credits: credits spent (`SpendsCredits`), frames claimed and reference counts read (`TakesFrames`), a call that claimed
-- none for want of free frames (`RunsDry`), and how many taking over needs.
use Rattle.std.specs.Prelude.{◌≡◌, ◌≢◌, ℕ, true, false, not, ◌==◌, ◌+◌, ◌-◌, ◌%◌, ◌<◌, None, Option, Some, List, [], option_to_list}
use Rattle.std.specs.Prelude.{◌∷◌, ◌++◌}
use Rattle.frame_store.specs.View.{hold_of, spent, taken, View, IsSole, references}
use Rattle.process_model.specs.Bytes.{low_bytes, padded}
use Rattle.process_model.specs.Frames.{take_over_need, settle_need}
use Rattle.process_model.specs.Mappings.{with_instead, with_mapping}
use Rattle.process_model.specs.Order.{HasOrder}
use Rattle.process_model.specs.PageMap as pages
use Rattle.process_model.specs.Process.{Page, Process, regions}
use Rattle.process_model.specs.Regions.{is_guard_kind, is_shared_kind, makes_leaf, Region, region_at}
use Rattle.process_model.specs.Residence.{marked_stored, region_on, stored, unmarked, with_page}
use Rattle.sv39_entry.specs.Address.{page_of}
use Rattle.sv39_entry.specs.Schemes.{trapframe_page}
use Rattle.table_walk.specs.Tables.{Tables, missing}
use Rattle.address_space.specs.Agreement.{Body, IsSpace, IsFrameOfPage, no_extra, KeepsOtherLeaves, IsInMemory}
use Rattle.address_space.specs.SpacesInCalls.{HasSettledPage, space_in_call}

-- n credits became claimed frames, and no other tally changed
pub record SpendsCredits (v w : View) (n : ℕ) : Type 0 where
  pub credits : w.credits ≡ v.credits - n
  pub tallies : w.tallies ≡ spent n v.tallies

-- n frames were claimed and exactly these reference counts were read; the other tallies are as before
pub record TakesFrames (v w : View) (n : ℕ) (counts : List ℕ) : Type 0 where
  pub tallies : w.tallies ≡ taken n counts v.tallies

-- a call that needs n frames claimed none: the free count was read as 0 while fewer than n credits were reserved; exactly
-- these reference counts were read
pub record RunsDry (v w : View) (n : ℕ) (counts : List ℕ) : Type 0 where
  pub claims : w.tallies.claims ≡ v.tallies.claims
  pub zeros : v.tallies.zeros < w.tallies.zeros
  pub short : w.tallies.short < n
  pub looks : w.tallies.looks ≡ v.tallies.looks ++ counts

-- a page is settled

-- the process p is in memory, and `page` is unsettled, below TRAPFRAME, and in region r, which can have leaves
pub record CanAdd (v : View) (root trapframe : ℕ) (t : Tables) (p : Process) (page : ℕ) (r : Region) : Type 0 where
  pub stands : IsInMemory v root trapframe no_extra t p
  pub unsettled : pages.get p.settled page ≡ None
  pub in_region : region_at (regions p) page ≡ Some r
  pub leafy : makes_leaf r ≡ true
  pub low : page < (trapframe_page p.scheme)

-- the process with one more settled page: these bytes and zeros after them, copy number `fresh`, no mark
abbrev pub settled_with : ℕ → List ℕ → Process → ℕ → Process
settled_with fresh bytes p page = record p {
  settled = pages.insert p.settled page (record { bytes = padded 4096 bytes; copy = fresh; cow = false; dirty = false });
  tabled = pages.insert p.tabled page tt;
}

-- the page is settled on frame f, which the seat did not hold before and is sole holder of; every other page keeps its leaf,
-- and a credit was spent for the frame and for each missing table
pub record AddsPage (v w : View) (root trapframe : ℕ) (t u : Tables) (p : Process) (page : ℕ) (bytes : List ℕ) (f : ℕ) : Type 0 where
  pub stands : (fresh : ℕ) → IsInMemory w root trapframe no_extra u (settled_with fresh bytes p page)
  pub on : IsFrameOfPage u page f
  pub fresh : references v f ≡ 0
  pub sole : IsSole w f
  pub others : KeepsOtherLeaves t u page
  pub saved : hold_of w trapframe ≡ hold_of v trapframe
  pub spends : SpendsCredits v w (1 + missing p.scheme t page)

-- the space x is the process p, and `page` is unsettled, in one of its regions
pub record CanSettle (x : Body) (t : Tables) (p : Process) (page : ℕ) : Type 0 where
  pub agrees : IsSpace x t p
  pub unsettled : pages.get p.settled page ≡ None
  pub region : Region
  pub in_region : region_at (regions p) page ≡ Some region

-- the space is the process with the page settled on frame f, which the seat did not hold before and is sole holder of; every
-- other page keeps its leaf, and `settle_need` frames were claimed
pub record Settles (v : View) (x : Body) (t u : Tables) (p : Process) (page : ℕ) (bytes : List ℕ) (f : ℕ) : Type 0 where
  pub agrees : (fresh : ℕ) → IsSpace x u (settled_with fresh bytes p page)
  pub on : IsFrameOfPage u page f
  pub fresh : references v f ≡ 0
  pub sole : IsSole x.view f
  pub others : KeepsOtherLeaves t u page
  pub takes : TakesFrames v x.view (settle_need p page) []

-- what `settle` does if it is not refused, for each process that the space is
abbrev pub HasSettled : Body → Body → ℕ → List ℕ → Type 0
HasSettled x y page bytes = (t : Tables) (p : Process) → CanSettle x t p page → (u : Tables) × (f : ℕ) × Settles x.view y t u p page bytes f

-- a page with the copy-on-write mark is taken over

-- how many frames taking over takes, by the reference count of the page's frame: none at 1, else one
abbrev pub own_need : ℕ → ℕ
own_need count = take_over_need (not (count == 1))

-- the space x is the process p, and its page s is settled, on frame f, with the copy-on-write mark, in a region that grants
-- writing
pub record CanOwn (x : Body) (t : Tables) (p : Process) (page : ℕ) (s : Page) (f : ℕ) : Type 0 where
  pub agrees : IsSpace x t p
  pub settled : pages.get p.settled page ≡ Some s
  pub marked : s.cow ≡ true
  pub region : Region
  pub in_region : region_at (regions p) page ≡ Some region
  pub writes : region.writes ≡ true
  pub on : IsFrameOfPage t page f

-- the page has no copy-on-write mark, and is on a frame g that the seat is sole holder of: frame f if the count c that was read
-- is 1, else a newly claimed frame with the same bytes. Every other page keeps its leaf
pub record HasOwnPage (v : View) (x : Body) (t u : Tables) (p : Process) (page : ℕ) (s : Page) (f g c : ℕ) : Type 0 where
  pub agrees : (fresh : ℕ) → IsSpace x u (with_page p page (unmarked fresh (not (c == 1)) s))
  pub on : IsFrameOfPage u page g
  pub same : c ≡ 1 → g ≡ f
  pub fresh : c ≢ 1 → references v g ≡ 0
  pub sole : IsSole x.view g
  pub others : KeepsOtherLeaves t u page
  pub takes : TakesFrames v x.view (own_need c) (c ∷ [])

-- P holds of the frame of the page, if the page can be taken over
abbrev pub WhenOwnable : Body → ℕ → (ℕ → Type 0) → Type 0
WhenOwnable x page P = (t : Tables) (p : Process) (s : Page) (f : ℕ) → CanOwn x t p page s f → P f

-- what `own` does if it is not refused, for each process that the space is; IsCount holds of the page's frame and the count
-- that was read
abbrev pub HasOwned : Body → Body → ℕ → (ℕ → ℕ → Type 0) → Type 0
HasOwned x y page IsCount = (t : Tables) (p : Process) (s : Page) (f : ℕ) → CanOwn x t p page s f
    → (u : Tables) × (g c : ℕ) × HasOwnPage x.view y t u p page s f g c × IsCount f c

-- a page is read and written

-- the space x is the process p, and its page s is settled
pub record CanRead (x : Body) (t : Tables) (p : Process) (page : ℕ) (s : Page) : Type 0 where
  pub agrees : IsSpace x t p
  pub settled : pages.get p.settled page ≡ Some s

pub at_page : {x : Body} {t : Tables} {p : Process} {page : ℕ} {s : Page} → CanRead x t p page s → HasSettledPage x t p page s
at_page can = record { standing = space_in_call can.agrees; settled = can.settled }

-- the page is settled, without copy-on-write mark, and in a region that grants writing
pub record CanWrite (x : Body) (t : Tables) (p : Process) (page : ℕ) (s : Page) : Type 0 where
  pub read : CanRead x t p page s
  pub unmarked : s.cow ≡ false
  pub region : Region
  pub in_region : region_at (regions p) page ≡ Some region
  pub writes : region.writes ≡ true

-- the process after a store to its settled page s: the `width` lowest bytes of a value, at an address of the page
abbrev pub stored_at : Process → Page → ℕ → ℕ → ℕ → Process
stored_at p s address width value = with_page p (page_of address) (stored s (address % 4096) (low_bytes value width))

-- what a store to a settled page does, for each process that the space is, if OnFrame holds of its tables: if the page is on
-- the frame that the caller has
abbrev pub HasStored : Body → Body → ℕ → ℕ → ℕ → (Tables → Type 0) → Type 0
HasStored x y address width value OnFrame = (t : Tables) (p : Process) (s : Page) → CanWrite x t p (page_of address) s → OnFrame t
    → IsSpace y t (stored_at p s address width value)

-- a page gets the dirty mark, if its stores are written back to a file

-- the page has the dirty mark if its stores are written back to a file; it keeps its frame, and every other page its leaf
pub record MarksStored (v : View) (x : Body) (t u : Tables) (p : Process) (page : ℕ) (s : Page) : Type 0 where
  pub agrees : IsSpace x u (with_page p page (marked_stored (region_on p page) s))
  -- on the frame that it had
  pub on : (f : ℕ) → IsFrameOfPage t page f → IsFrameOfPage u page f
  pub others : KeepsOtherLeaves t u page
  pub takes : TakesFrames v x.view 0 []

-- a space ends

-- the seat holds no frame and has no credits
pub record IsBare (v : View) : Type 0 where
  pub none : (f : ℕ) → references v f ≡ 0
  pub credits : v.credits ≡ 0

-- regions change

-- pages of region s have the leaves that they would have in region r: the rights are the same, and both are guards or none
-- is, both shared mappings or none
pub record HasSameLeafRights (r s : Region) : Type 0 where
  pub reads : s.reads ≡ r.reads
  pub writes : s.writes ≡ r.writes
  pub executes : s.executes ≡ r.executes
  pub guard : is_guard_kind s.kind ≡ is_guard_kind r.kind
  pub shared : is_shared_kind s.kind ≡ is_shared_kind r.kind

-- each settled page of p that has a region has one in q too, with the same leaves
abbrev pub KeepsLeaves : Process → Process → Type 0
KeepsLeaves p q = (n : ℕ) (s : Page) (r : Region) → pages.get p.settled n ≡ Some s → region_at (regions p) n ≡ Some r
    → (x : Region) × (region_at (regions q) n ≡ Some x) × HasSameLeafRights r x

-- the process with this size
abbrev pub sized : Process → ℕ → Process
sized p size = record p { size = size }

-- the process with one more mapping, in its place by address
abbrev pub mapped_with : Process → Region → Process
mapped_with p r = record p { mappings = with_mapping r p.mappings }

-- the process with `rest`, or nothing, in place of the mapping that begins at page `first`
abbrev pub left_with : Process → ℕ → Option Region → Process
left_with p first rest = record p { mappings = with_instead p.mappings first (option_to_list rest) }

-- q may replace p in a space: it has the same pages and scheme, its regions are in order, and each settled page is in a
-- region that makes the leaf that it has
pub record CanReplaceLayout (p q : Process) : Type 0 where
  pub settled : q.settled ≡ p.settled
  pub tabled : q.tabled ≡ p.tabled
  pub scheme : q.scheme ≡ p.scheme
  pub order : HasOrder 0 q
  pub leaves : KeepsLeaves p q

-- if the regions of `other p` may replace those of p, the space that was p is `other p`
abbrev pub HasReplacedLayout : Body → Body → (Process → Process) → Type 0
HasReplacedLayout x y other = (t : Tables) (p : Process) → IsSpace x t p → CanReplaceLayout p (other p) → IsSpace y t (other p)
