-- Predicates for one start: what the kernel's seat (its capability at the frame store) keeps when it lends frame 0
-- (`Lends`); why the start is refused (`IsRefusedStart`, `IsRefusedTry`, `IsStarved`); the space that begins agrees with a
-- process (`IsBegun`), which is its image's (`IsProcessOf`).
use Rattle.std.specs.Prelude.{◌≡◌, ◌≢◌, ℕ, ◌<◌, Bool, true, false, Err, List, Ok}
use Rattle.run_roster.specs.Slots.{HasReadFull}
use Rattle.address_space.specs.Agreement.{body_of, IsSpace}
use Rattle.address_space.specs.declared.space.Space.{Space}
use Rattle.atomic_table.specs.Seated.{TableId}
use Rattle.frame_store.specs.View.{View, hold_of, references}
use Rattle.hart_calls.specs.declared.model_process.ModelProcess.{ModelProcess}
use Rattle.process_model.specs.ImageProcess.{process_of}
use Rattle.process_model.specs.Process.{Process}
use Rattle.shared_frames.specs.SeatsOfTable.{FitsIn, view_of}
use Rattle.shared_frames.specs.declared.seat.SharedSeat.{SharedSeat}
use Rattle.table_walk.specs.Tables.{Tables}
use Rattle.process_model.specs.Images.{image_loads, LoadSegment}
use Rattle.process_model.specs.declared.image.Image.{Image}
use Rattle.process_model.specs.declared.reply.Refusal.{Refusal}
use Rattle.process_model.specs.declared.reply.Refusal.TheVariants as refusal
use Rattle.sv39_entry.specs.declared.scheme.Scheme.TheVariants.{Sv39}

-- A seat that shared frame 0 with others has the credits, references and known words that it had. It may have lost the sole
-- mark of frame 0, and its tallies may differ.
pub record Lends (v w : View) : Type 0 where
  pub size : w.size ≡ v.size
  pub credits : w.credits ≡ v.credits
  pub trampoline : references w 0 ≡ references v 0
  pub words : (hold_of w 0).words ≡ (hold_of v 0).words
  pub others : (f : ℕ) → f ≢ 0 → hold_of w f ≡ hold_of v f

-- why a start is refused. NoSlot: exactly if there is none. BadImage: the image fails this check. SharersFull: the kernel's
-- seat is not alone and read a count of `MOST_REFERENCES`. NoFrame: the caller does not say that there are enough frames
abbrev pub IsRefusedStart : Bool → Bool → Bool → Image → View → View → Refusal → Type 0
IsRefusedStart slot alone enough image v w refusal.NoSlot = slot ≡ false
IsRefusedStart slot alone enough image v w (refusal.BadImage part) = (slot ≡ true) × (image_loads Sv39 image ≡ Err part)
IsRefusedStart slot alone enough image v w refusal.SharersFull = (slot ≡ true) × (alone ≡ false) × HasReadFull v w
IsRefusedStart slot alone enough image v w refusal.NoFrame = (slot ≡ true) × (enough ≡ false)
IsRefusedStart slot alone enough image v w r = ⊥

-- a seat read the free count as 0 while fewer frames were reserved than `need`, and claimed none
pub record IsStarved (need : ℕ) (v : View) : Type 0 where
  pub zeros : 0 < v.tallies.zeros
  pub short : v.tallies.short < need
  pub claims : v.tallies.claims ≡ 0

-- why the process of an accepted image, which needs so many frames, is not built; u is the view of the seat that is left
abbrev pub IsRefusedTry : Bool → Bool → ℕ → View → View → View → Refusal → Type 0
IsRefusedTry alone enough need v w u refusal.SharersFull = (alone ≡ false) × HasReadFull v w
IsRefusedTry alone enough need v w u refusal.NoFrame = (enough ≡ false) × IsStarved need u
IsRefusedTry alone enough need v w u r = ⊥

-- a space whose seat is at this table, and the process that the space agrees with
abbrev pub IsBegun : TableId → Space SharedSeat → ModelProcess → Type 0
IsBegun table space opening = FitsIn table space.seat × ((t : Tables) × IsSpace (body_of view_of space) t opening.state)

-- the image is accepted under Sv39, and p is its process, with copy numbers from 0
abbrev pub IsProcessOf : Image → Process → Type 0
IsProcessOf image p = (loads : List LoadSegment) × (image_loads Sv39 image ≡ Ok loads) × (p ≡ process_of Sv39 0 loads)
