-- Results of the starts of a run, made in order (`IsStartResult`, `AreStartResults`): with a process, or ended without one
-- and why (`IsUnbegun`); which of them took a slot (`takes_slot`, `slots_of`), and the counts of `MOST_REFERENCES` that the kernel's
-- seat (its capability at the frame store) read for refusals with SharersFull (`looks_of`, `any_full`).
use Rattle.std.specs.Prelude.{◌≡◌, ℕ, ◌+◌, ◌<◌, ◌∷◌, [], ◌++◌, Bool, true, false, cond, List, Some, slice_get}
use Rattle.address_space.specs.Steps.{IsBare}
use Rattle.atomic_table.specs.Seated.{TableId}
use Rattle.frame_store.specs.View.{View}
use Rattle.hart_calls.specs.declared.finished.Finished.{Finished}
use Rattle.run_roster.specs.RosterState.{RefusesStart}
use Rattle.run_roster.specs.Slots.{FindsSlot, OnFull}
use Rattle.run_roster.specs.Starts.{IsBegun, IsProcessOf}
use Rattle.run_roster.specs.declared.start_result.StartResult.{StartResult}
use Rattle.run_roster.specs.declared.start_result.StartResult.TheVariants as made
use Rattle.process_model.specs.Process.{Process}
use Rattle.process_model.specs.declared.call.ProcessEnd.{ProcessEnd}
use Rattle.process_model.specs.declared.call.ProcessEnd.TheVariants as outcome
use Rattle.process_model.specs.declared.call.Start.{Start}
use Rattle.process_model.specs.declared.reply.Refusal.TheVariants as refusal
use Rattle.process_model.specs.declared.limits.TheConstants.{MOST_REFERENCES}
use Rattle.shared_frames.specs.SeatsOfTable.{FitsIn, view_of}

-- which starts take a slot: those that have a process

abbrev pub takes_slot : StartResult → Bool
takes_slot (made.Begun name space opening) = true
takes_slot (made.Over f) = false

abbrev pub slots_of : List StartResult → List Bool
slots_of [] = []
slots_of (m ∷ ms) = takes_slot m ∷ slots_of ms

-- the counts that the kernel's seat reads: `MOST_REFERENCES`, once for each start that is refused with SharersFull

abbrev pub fulls : ProcessEnd → List ℕ
fulls (outcome.Refused refusal.SharersFull) = MOST_REFERENCES ∷ []
fulls o = []

abbrev pub looks_of : StartResult → List ℕ
looks_of (made.Begun name space opening) = []
looks_of (made.Over f) = fulls f.outcome

abbrev pub all_looks : List StartResult → List ℕ
all_looks [] = []
all_looks (m ∷ ms) = looks_of m ++ all_looks ms

abbrev pub has_any : List ℕ → Bool
has_any [] = false
has_any (x ∷ xs) = true

-- whether some start was refused with SharersFull
abbrev pub any_full : List StartResult → Bool
any_full ms = has_any (all_looks ms)

-- `full` is true if this start was refused with SharersFull
abbrev pub IsFullKnown : Bool → StartResult → Type 0
IsFullKnown full (made.Begun name space opening) = Unit {0}
IsFullKnown full (made.Over f) = OnFull (full ≡ true) f.outcome

-- why a start has no process: it was refused, or its image is accepted and the host had no memory for its space
abbrev pub IsWhy : Start → View → ProcessEnd → Type 0
IsWhy s v (outcome.Refused r) = RefusesStart s.image v r
IsWhy s v outcome.Memory = (p : Process) × IsProcessOf s.image p
IsWhy s v o = ⊥

-- f is the end of start s, which has no process, with `taken` of `slots` slots taken before it; its seat is at this table and
-- holds nothing
pub record IsUnbegun (table : TableId) (slots taken : ℕ) (s : Start) (name : List ℕ) (f : Finished) : Type 0 where
  pub named : f.name.items ≡ name
  pub journal : f.journal.items ≡ []
  pub seat : FitsIn table f.seat
  pub bare : IsBare (view_of f.seat)
  pub finds : FindsSlot slots taken f.outcome
  pub why : IsWhy s (view_of f.seat) f.outcome

-- the result of start `s` with this name, if `taken` of `slots` slots are taken
abbrev pub IsStartResult : TableId → ℕ → ℕ → Start → List ℕ → StartResult → Type 0
IsStartResult table slots taken s name (made.Begun called space opening) = (taken < slots) × (called.items ≡ name)
    × IsBegun table space.value opening × IsProcessOf s.image opening.state
IsStartResult table slots taken s name (made.Over f) = IsUnbegun table slots taken s name f

-- the results of the starts from number n on, if `taken` of `slots` slots are taken before them
abbrev pub AreStartResults : TableId → ℕ → List Start → ℕ → ℕ → List StartResult → Type 0
AreStartResults table slots starts n taken [] = Unit {0}
AreStartResults table slots starts n taken (m ∷ ms) =
    ((s : Start) × (slice_get starts n ≡ Some s) × IsStartResult table slots taken s (n ∷ []) m)
    × AreStartResults table slots starts (n + 1) (taken + cond (takes_slot m) 1 0) ms
