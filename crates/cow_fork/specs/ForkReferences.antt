-- The references that a fork takes for the child: the frames of a list of settled pages, those in memory (`frames_of`); which
-- frames are to be shared (`IsToShare`, `AreToShare`); and that a seat has one more reference to each frame of a list
-- (`HasMore`).
use Rattle.std.specs.Prelude.{◌≡◌, ◌⊎◌, ℕ, ◌+◌, ◌<◌, map, Some, List}
use Rattle.frame_store.specs.Laws.{IsAnchored}
use Rattle.frame_store.specs.View.{Hold, hold_of, IsHeld, View}
use Rattle.process_model.specs.PageMap as pages
use Rattle.process_model.specs.Process.{Page, Process}
use Rattle.table_walk.specs.Tables.{Tables}
use Rattle.address_space.specs.Agreement.{IsFrameOfPage}
use Rattle.address_space.specs.declared.settled_pages.SettledPage.{SettledPage}
use Rattle.cow_fork.specs.Occurrences.{times}

-- the frames of settled pages
abbrev pub frames_of : List SettledPage → List ℕ
frames_of pages = map (λ x. (x.frame).0) pages

-- the frame is frame 0, or that of a settled page below the bound: one that parent and child will share
abbrev pub IsToShare : Tables → Process → ℕ → ℕ → Type 0
IsToShare t p bound f = (f ≡ 0) ⊎ ((n : ℕ) × (s : Page) × (n < bound) × (pages.get p.settled n ≡ Some s) × IsFrameOfPage t n f)

-- what a seat has of a frame, with k references more
abbrev pub with_more : ℕ → Hold → Hold
with_more k h = record h { references = h.references + k }

-- from v to w the seat got, of each frame, as many references as the list L has it, and nothing else of a frame changed; it
-- held each listed frame before, and frame 0 if it held any
pub record HasMore (v w : View) (L : List ℕ) : Type 0 where
  pub holds : (f : ℕ) → hold_of w f ≡ with_more (times f L) (hold_of v f)
  pub held : (f : ℕ) → 0 < times f L → IsHeld v f
  pub anchored : IsAnchored v

-- the list has exactly the frames that will be shared (`IsToShare`), each once
abbrev pub AreToShare : Tables → Process → ℕ → List ℕ → Type 0
AreToShare t p bound L = (f : ℕ) → ((times f L ≡ 1) × IsToShare t p bound f) ⊎ ((times f L ≡ 0) × (IsToShare t p bound f → ⊥))
