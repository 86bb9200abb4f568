-- What removing the copy-on-write mark of a settled page (one in memory) does, the first half of taking it over for a store
-- (copy-on-write): `Unshares` gives the process, the frame of the page, the other leaves, the frames claimed and the
-- reference count read.
use Rattle.std.specs.Prelude.{◌≡◌, ℕ, is_some, Option, option_to_list, Some}
use Rattle.address_space.specs.Agreement.{Body, IsFrameOfPage, IsSpace, KeepsOtherLeaves}
use Rattle.address_space.specs.SettledLists.{IsSettledPage}
use Rattle.address_space.specs.Steps.{TakesFrames}
use Rattle.address_space.specs.declared.settled_pages.SettledPage.{SettledPage}
use Rattle.fault_rules.specs.MadeResident.{CanMakeResident, IsOnItsFrame, is_shared_by}
use Rattle.frame_store.specs.View.{View}
use Rattle.process_model.specs.Frames.{take_over_need}
use Rattle.process_model.specs.Process.{Page, Process}
use Rattle.process_model.specs.Residence.{parts_from, unmarked, with_page}
use Rattle.sv39_entry.specs.declared.access.Access.TheVariants.{Store}
use Rattle.table_walk.specs.Tables.{Tables}

-- the page has no copy-on-write mark; if it had one and the count that was read is not 1, it is on a frame of its own, with the
-- same bytes, else on the frame that it was on. Every other page keeps its leaf
pub record Unshares (v : View) (x : Body) (t u : Tables) (p : Process) (page : ℕ) (s : Page) (count : Option ℕ) : Type 0 where
  pub agrees : (fresh : ℕ) → IsSpace x u (with_page p page (unmarked fresh (is_shared_by count) s))
  pub placed : IsOnItsFrame v x.view t u page (parts_from (is_shared_by count) s)
  pub others : KeepsOtherLeaves t u page
  pub counted : is_some count ≡ s.cow
  pub takes : TakesFrames v x.view (take_over_need (parts_from (is_shared_by count) s)) (option_to_list count)

-- what removing the copy-on-write mark does if it is not refused, for each process that the space is; IsCount holds of the
-- page's frame and the count that was read, if one was
abbrev pub HasUnshared : Body → Body → SettledPage → (ℕ → ℕ → Type 0) → Type 0
HasUnshared x y settled IsCount = (t : Tables) (p : Process) → CanMakeResident x t p Store settled.page → (is : IsSettledPage t p settled)
    → (u : Tables) × (count : Option ℕ) × Unshares x.view y t u p settled.page is.page count
    × ((f c : ℕ) → IsFrameOfPage t settled.page f → count ≡ Some c → IsCount f c)
