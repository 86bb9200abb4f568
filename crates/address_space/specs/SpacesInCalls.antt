-- `IsSpaceInCall`: a space holds this process while a call is in progress, when its seat may have credits and further
-- references; a law that a space between calls is such a one. Predicates: a page of it is settled; `RewritesLeaves`,
-- page-table leaves are rewritten, and what stays then (frames named, tables, references, credits); and a copy-on-write mark
-- is set (the next store takes the page over first).
use Rattle.std.specs.Prelude.{◌≡◌, ℕ, Some}
use Rattle.std.specs.FinMap.{get}
use Rattle.frame_store.specs.View.{hold_of, references}
use Rattle.process_model.specs.Order.{IsSound}
use Rattle.process_model.specs.PageMap as pages
use Rattle.process_model.specs.Process.{Page, Process}
use Rattle.process_model.specs.Residence.{marked_page, with_page}
use Rattle.table_walk.specs.Tables.{Tables}
use Rattle.address_space.specs.Agreement.{Body, IsFrameOfPage, IsSpace, no_extra, IsInMemory}
use Rattle.address_space.specs.Layouts.{LaysOut}
use Rattle.address_space.specs.SettledLists.{IsSettledPage}
use Rattle.address_space.specs.declared.settled_pages.SettledPage.{SettledPage}

-- the space x is the process p as in `IsSpace`, but the seat may have any credits, and beside the references that p takes
-- those of `extra`
pub record IsSpaceInCall (x : Body) (t : Tables) (p : Process) (extra : ℕ → ℕ) : Type 0 where
  pub sound : IsSound p
  pub lays : LaysOut x.layout p
  pub stands : IsInMemory x.view x.root x.trapframe extra t p

-- a space between calls is one, without extra references
pub space_in_call : {x : Body} {t : Tables} {p : Process} → IsSpace x t p → IsSpaceInCall x t p no_extra
space_in_call space = record { sound = space.sound; lays = space.lays; stands = space.stands }

-- the space x is the process p, with any credits of the seat, and its page s is settled
pub record HasSettledPage (x : Body) (t : Tables) (p : Process) (page : ℕ) (s : Page) : Type 0 where
  pub standing : IsSpaceInCall x t p no_extra
  pub settled : pages.get p.settled page ≡ Some s

-- Leaves were rewritten: each leaf there afterwards names the frame that it named before. The tables are in the frames that
-- they were in. The seat has the same references, credits and tallies, and of each frame that is no table the same known words
-- and sole mark.
pub record RewritesLeaves (x y : Body) (t u : Tables) : Type 0 where
  pub on : (n f : ℕ) → IsFrameOfPage u n f → IsFrameOfPage t n f
  pub tables : u.tables ≡ t.tables
  pub same : (f : ℕ) → ((k : ℕ) → get t.tables k ≡ Some f → ⊥) → hold_of y.view f ≡ hold_of x.view f
  pub count : (f : ℕ) → references y.view f ≡ references x.view f
  pub credits : y.view.credits ≡ x.view.credits
  pub tallies : y.view.tallies ≡ x.view.tallies
  pub size : y.view.size ≡ x.view.size

-- the settled page s got the copy-on-write mark if its region grants writing, else it is as it was
pub record MarksForked (x y : Body) (t u : Tables) (p : Process) (extra : ℕ → ℕ) (page : ℕ) (s : Page) : Type 0 where
  pub forking : IsSpaceInCall y u (with_page p page (marked_page p page s)) extra
  pub turns : RewritesLeaves x y t u

-- what `mark_forked` does to the settled page a, for each process that the space is
abbrev pub HasMarkedForked : Body → Body → SettledPage → Type 0
HasMarkedForked x y a = (t : Tables) (p : Process) (extra : ℕ → ℕ) → IsSpaceInCall x t p extra → (is : IsSettledPage t p a)
    → (u : Tables) × MarksForked x y t u p extra a.page is.page
