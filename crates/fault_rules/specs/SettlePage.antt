-- What `settle_as` does, which settles a page (brings it into memory) with the dirty mark (D) or without: the process then
-- (`settled_as`), the page's new frame, the other leaves, and the frames claimed (`SettlesAs`).
use Rattle.std.specs.Prelude.{◌≡◌, ℕ, Bool, false, List, []}
use Rattle.address_space.specs.Agreement.{Body, IsFrameOfPage, IsSpace, KeepsOtherLeaves}
use Rattle.address_space.specs.Steps.{CanSettle, TakesFrames}
use Rattle.frame_store.specs.View.{IsSole, references, View}
use Rattle.process_model.specs.Bytes.{padded}
use Rattle.process_model.specs.Frames.{settle_need}
use Rattle.process_model.specs.PageMap.{insert}
use Rattle.process_model.specs.Process.{Process}
use Rattle.table_walk.specs.Tables.{Tables}

-- the process with one more settled page: these bytes and zeros after them, copy number `fresh`, no copy-on-write mark, and the
-- dirty mark if `mark`
abbrev pub settled_as : ℕ → List ℕ → Bool → Process → ℕ → Process
settled_as fresh bytes mark p page = record p {
  settled = insert p.settled page (record { bytes = padded 4096 bytes; copy = fresh; cow = false; dirty = mark });
  tabled = insert p.tabled page tt;
}

-- the space is that process, with the page on frame f, which the seat did not hold before and is sole holder of; every other
-- page keeps its leaf, and `settle_need` frames were claimed
pub record SettlesAs (v : View) (x : Body) (t u : Tables) (p : Process) (page : ℕ) (bytes : List ℕ) (mark : Bool) (f : ℕ) : Type 0 where
  pub agrees : (fresh : ℕ) → IsSpace x u (settled_as fresh bytes mark p page)
  pub on : IsFrameOfPage u page f
  pub fresh : references v f ≡ 0
  pub sole : IsSole x.view f
  pub others : KeepsOtherLeaves t u page
  pub takes : TakesFrames v x.view (settle_need p page) []

-- what `settle_as` does if it is not refused, for each process that the space is
abbrev pub HasSettledAs : Body → Body → ℕ → List ℕ → Bool → Type 0
HasSettledAs x y page bytes mark = (t : Tables) (p : Process) → CanSettle x t p page → (u : Tables) × (f : ℕ) × SettlesAs x.view y t u p page bytes mark f
