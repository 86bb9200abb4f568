-- `MatchesSlots`, a record: what the roster (list of processes) keeps of an ended process: slots, counts that were read, and
-- frames for the starts.
use Rattle.std.specs.Prelude.{◌≡◌, ℕ, ◌∷◌, [], Bool, true, List}
use Rattle.hart_calls.specs.declared.finished.Finished.{Finished}
use Rattle.run_roster.specs.Slots.{KeepsSlots, OnFull}
use Rattle.run_roster.specs.StartFrames.{LeftTooFew, OnNoFrame}
use Rattle.process_model.specs.declared.call.Start.{Start}

-- f, an ended process of a run whose starts took the slots in `taken`: if it is start i, it is as `KeepsSlots` says, and its
-- outcome is NoFrame only if frames lack for it; its outcome is SharersFull only if `full` is true
pub record MatchesSlots (starts : List Start) (slots : ℕ) (taken : List Bool) (full : Bool) (free : ℕ) (f : Finished) : Type 0 where
  pub slot : (i : ℕ) → f.name.items ≡ i ∷ [] → KeepsSlots slots taken i f
  pub reads : OnFull (full ≡ true) f.outcome
  pub frames : (i : ℕ) → f.name.items ≡ i ∷ [] → OnNoFrame (LeftTooFew free starts taken i) f.outcome
