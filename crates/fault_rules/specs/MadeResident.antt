-- Predicates about `make_resident`, which makes a page resident: what it asks for (`CanMakeResident`), what it does if it is
-- not refused (`MakesResident`: process, frame of the page, frames claimed, reference count read), how it lacks frames
-- (`LacksFrames`), and the page of a file that it reads (`resident_reads`).
use Rattle.std.specs.Prelude.{◌≡◌, ℕ, Bool, true, false, not, ◌+◌, ◌-◌, ◌*◌, ◌==◌, is_some, Option, None, Some, option_to_list, List, [], ◌∷◌}
use Rattle.address_space.specs.Agreement.{Body, IsFrameOfPage, IsSpace, KeepsOtherLeaves}
use Rattle.address_space.specs.Steps.{RunsDry, TakesFrames}
use Rattle.frame_store.specs.View.{IsSole, references, View}
use Rattle.process_model.specs.Files.{File, file_page}
use Rattle.process_model.specs.Frames.{resident_need}
use Rattle.process_model.specs.PageMap.{get}
use Rattle.process_model.specs.PageMoves.{page_read, PageMove}
use Rattle.process_model.specs.Process.{Page, Process, regions}
use Rattle.process_model.specs.Regions.{file, lacks_right, Region, region_at, Source}
use Rattle.process_model.specs.Residence.{made_resident, parts_from, region_on}
use Rattle.sv39_entry.specs.declared.access.Access.{Access}
use Rattle.sv39_entry.specs.declared.access.Access.TheVariants.{Store}
use Rattle.table_walk.specs.Tables.{Tables}

-- the space x is the process p, and `page` is in a region that grants the access
pub record CanMakeResident (x : Body) (t : Tables) (p : Process) (access : Access) (page : ℕ) : Type 0 where
  pub agrees : IsSpace x t p
  pub region : Region
  pub in_region : region_at (regions p) page ≡ Some region
  pub right : lacks_right access (Some region) ≡ false

-- whether the reference count of the page's frame is read: for a store to a settled page with the copy-on-write mark
abbrev pub is_counted : Access → Option Page → Bool
is_counted Store (Some s) = s.cow
is_counted _ _ = false

-- whether the page is taken to be shared: a count was read, and it is not 1
abbrev pub is_shared_by : Option ℕ → Bool
is_shared_by None = false
is_shared_by (Some c) = not (c == 1)

-- whether the page gets a frame: it is unsettled, or a store finds the copy-on-write mark on it and takes it to be shared
abbrev pub gets_frame : Bool → Access → Option Page → Bool
gets_frame shared access None = true
gets_frame shared Store (Some s) = parts_from shared s
gets_frame shared _ (Some s) = false

-- true: the page is on a frame that the seat did not hold before and is sole holder of. false: it is on the frame that it
-- was on
abbrev pub IsOnItsFrame : View → View → Tables → Tables → ℕ → Bool → Type 0
IsOnItsFrame v w t u page true = (g : ℕ) × IsFrameOfPage u page g × (references v g ≡ 0) × IsSole w g
IsOnItsFrame v w t u page false = (f : ℕ) → IsFrameOfPage t page f → IsFrameOfPage u page f

-- the space is the process that the model gives; the page is on a new frame if it gets one, else on the frame that it was
-- on; every other page keeps its leaf; `resident_need` frames were claimed, and the reference count was read exactly when
-- `is_counted`
pub record MakesResident (v : View) (x : Body) (t u : Tables) (p : Process) (files : List File) (access : Access) (page : ℕ) (count : Option ℕ) : Type 0 where
  pub agrees : (fresh : ℕ) → IsSpace x u (made_resident files fresh (is_shared_by count) p access page)
  pub placed : IsOnItsFrame v x.view t u page (gets_frame (is_shared_by count) access (get p.settled page))
  pub others : KeepsOtherLeaves t u page
  pub counted : is_some count ≡ is_counted access (get p.settled page)
  pub takes : TakesFrames v x.view (resident_need (is_shared_by count) p access page) (option_to_list count)

-- what `make_resident` does if it is not refused, for each process that the space is; IsCount holds of the page's frame and
-- the count that was read, if one was
abbrev pub HasMadeResident : Body → Body → List File → Access → ℕ → (ℕ → ℕ → Type 0) → Type 0
HasMadeResident x y files access page IsCount = (t : Tables) (p : Process) → CanMakeResident x t p access page
    → (u : Tables) × (count : Option ℕ) × MakesResident x.view y t u p files access page count
    × ((f c : ℕ) → IsFrameOfPage t page f → count ≡ Some c → IsCount f c)

-- no frame was claimed: the free count was read as 0 while fewer frames were reserved than `resident_need`, by the count
-- that was read, if one was
abbrev pub LacksFrames : Body → Body → Access → ℕ → Type 0
LacksFrames x y access page = (t : Tables) (p : Process) → CanMakeResident x t p access page
    → (count : Option ℕ) × (is_some count ≡ is_counted access (get p.settled page))
    × RunsDry x.view y.view (resident_need (is_shared_by count) p access page) (option_to_list count)

-- P holds of how many frames the page needs, by whether the count of its frame is 1
abbrev pub WhenMadeResident : Body → Access → ℕ → (ℕ → ℕ) → (ℕ → Type 0) → Type 0
WhenMadeResident x access page count P = (t : Tables) (p : Process) (shared : Bool) → CanMakeResident x t p access page
    → ((f : ℕ) → IsFrameOfPage t page f → shared ≡ not (count f == 1)) → P (resident_need shared p access page)

-- the page of a file that is read, for an unsettled page of a mapping to begin with

abbrev pub moves_from : List File → Source → ℕ → List PageMove
moves_from files (file n offset) at = page_read n (offset + at) (file_page files n (offset + at)) ∷ []
moves_from files _ at = []

abbrev pub moves_for : List File → Option Region → Option Page → ℕ → List PageMove
moves_for files (Some r) None page = moves_from files r.source (4096 * (page - r.first))
moves_for files _ _ page = []

abbrev pub resident_reads : List File → Process → ℕ → List PageMove
resident_reads files p page = moves_for files (region_on p page) (get p.settled page) page
