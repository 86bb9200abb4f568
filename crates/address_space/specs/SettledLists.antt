-- Predicates about the results of calls that find settled pages (those in memory), each with its frame, copy-on-write mark and
-- D: one page (`IsSettled`), the first of a range (`IsNextSettled`), a list of all pages of a range (`AreSettled`). Also a
-- filler for lists.
use Rattle.std.specs.Prelude.{◌≡◌, ℕ, ◌+◌, ◌<◌, ◌≤◌, false, List, [], ◌∷◌, Option, None, Some}
use Rattle.process_model.specs.PageMap.{get}
use Rattle.process_model.specs.Process.{Page, Process, regions}
use Rattle.process_model.specs.Regions.{Region, region_at}
use Rattle.table_walk.specs.Tables.{Tables}
use Rattle.address_space.specs.Agreement.{is_dirty_page, IsFrameOfPage}
use Rattle.address_space.specs.declared.settled_pages.SettledPage.{SettledPage}

-- filler for an unused place of a fixed-size list
abbrev pub no_page : SettledPage
no_page = record { page = 0; frame = record { 0 = 0 }; cow = false; dirty = false }

-- no page from `first` up to, and without, `end` is settled
abbrev pub AreUnsettled : Process → ℕ → ℕ → Type 0
AreUnsettled p first end = (n : ℕ) → first ≤ n → n < end → get p.settled n ≡ None

-- x is a settled page of the process: with its frame, its copy-on-write mark, and whether its leaf has D
pub record IsSettledPage (t : Tables) (p : Process) (x : SettledPage) : Type 0 where
  pub page : Page
  pub region : Region
  pub settled : get p.settled x.page ≡ Some page
  pub in_region : region_at (regions p) x.page ≡ Some region
  pub on : IsFrameOfPage t x.page x.frame.0
  pub cow : x.cow ≡ page.cow
  pub dirty : x.dirty ≡ is_dirty_page region page

-- the result for one page: the page if it is settled, else None
abbrev pub IsSettled : Tables → Process → ℕ → Option SettledPage → Type 0
IsSettled t p page None = get p.settled page ≡ None
IsSettled t p page (Some x) = (x.page ≡ page) × IsSettledPage t p x

-- the result for a range: its first settled page, None if it has none
abbrev pub IsNextSettled : Tables → Process → ℕ → ℕ → Option SettledPage → Type 0
IsNextSettled t p first end None = AreUnsettled p first end
IsNextSettled t p first end (Some x) = (first ≤ x.page) × (x.page < end) × AreUnsettled p first x.page × IsSettledPage t p x

-- all settled pages of a range in ascending order, each once
abbrev pub AreSettled : Tables → Process → ℕ → ℕ → List SettledPage → Type 0
AreSettled t p first end [] = IsNextSettled t p first end None
AreSettled t p first end (x ∷ xs) = IsNextSettled t p first end (Some x) × AreSettled t p (x.page + 1) end xs
