-- Slots of a run: which starts take one, and that a start is refused with NoSlot if and only if at least `slots` starts
-- before it took one (`KeepsSlots`, `AreSlotted`); SharersFull only if a count was read as `MOST_REFERENCES` (`OnFull`, `HasReadFull`).
-- All starts are made before a hart runs, and no slot is freed until then. A start for whose space the host has no memory
-- takes none.
use Rattle.std.specs.Prelude.{◌≡◌, ℕ, ◌+◌, ◌<◌, ◌≤◌, ◌∷◌, [], ◌++◌, All, Bool, true, false, cond, List, Option, Some, slice_get, take}
use Rattle.frame_store.specs.View.{View}
use Rattle.hart_calls.specs.declared.journal_entry.JournalEntry.{JournalEntry}
use Rattle.hart_calls.specs.declared.finished.Finished.{Finished}
use Rattle.process_model.specs.declared.call.ProcessEnd.{ProcessEnd}
use Rattle.process_model.specs.declared.call.ProcessEnd.TheVariants as outcome
use Rattle.process_model.specs.declared.reply.Refusal.TheVariants as refusal
use Rattle.process_model.specs.declared.limits.TheConstants.{MOST_REFERENCES}
use Rattle.vouchers.specs.Entries.{TokenEntry as Life, Has}

-- how many starts took a slot
abbrev pub count : List Bool → ℕ
count [] = 0
count (b ∷ bs) = cond b 1 0 + count bs

-- the outcome is NoSlot exactly when all slots are taken
abbrev pub FindsSlot : ℕ → ℕ → ProcessEnd → Type 0
FindsSlot slots taken (outcome.Refused refusal.NoSlot) = slots ≤ taken
FindsSlot slots taken o = taken < slots

-- a start that was refused took no slot; one whose process made a call took one. Of one that made no call nothing is said:
-- it may have ended for want of host memory for its space
abbrev pub Takes : Option Bool → ProcessEnd → List JournalEntry → Type 0
Takes slot (outcome.Refused r) journal = slot ≡ Some false
Takes slot o [] = Unit {0}
Takes slot o (e ∷ es) = slot ≡ Some true

-- start i, which ended as f. `taken` has for each start whether it took a slot
pub record KeepsSlots (slots : ℕ) (taken : List Bool) (i : ℕ) (f : Finished) : Type 0 where
  pub finds : FindsSlot slots (count (take i taken)) f.outcome
  pub takes : Takes (slice_get taken i) f.outcome f.journal.items

-- A start is refused with NoSlot exactly when at least `slots` of the starts before it took a slot.
abbrev pub AreSlotted : ℕ → List Finished → Type 0
AreSlotted slots ended = (taken : List Bool) × All (λ f. (i : ℕ) → f.name.items ≡ i ∷ [] → KeepsSlots slots taken i f) ended

-- between views v and w of a seat, it read some count as `MOST_REFERENCES`
abbrev pub HasReadFull : View → View → Type 0
HasReadFull v w = (before after : List ℕ) × (w.tallies.looks ≡ v.tallies.looks ++ before ++ MOST_REFERENCES ∷ after)

-- between views v and w of a seat, it read some counts
abbrev pub HasRead : View → View → Type 0
HasRead v w = (more : List ℕ) × (w.tallies.looks ≡ v.tallies.looks ++ more)

-- the outcome is SharersFull only if this holds
abbrev pub OnFull : Type 0 → ProcessEnd → Type 0
OnFull full (outcome.Refused refusal.SharersFull) = full
OnFull full o = Unit {0}

-- law: what `OnFull` wants may be weakened
pub on_weaker : (p q : Type 0) → (p → q) → (o : ProcessEnd) → OnFull p o → OnFull q o
on_weaker p q f (outcome.Refused refusal.SharersFull) on = f on
on_weaker p q f o on = tt

-- the outcome is no refusal
abbrev pub Unrefused : ProcessEnd → Type 0
Unrefused (outcome.Refused r) = ⊥
Unrefused o = Unit {0}

-- start i took a slot, and one was free
abbrev pub IsTaken : ℕ → List Bool → ℕ → Type 0
IsTaken slots taken i = (count (take i taken) < slots) × (slice_get taken i ≡ Some true)

-- each start among the lives took a slot, and one was free
abbrev pub AreTaken : ℕ → List Bool → List Life → Type 0
AreTaken slots taken lives = (l : Life) (i : ℕ) → Has l lives → l.name ≡ i ∷ [] → IsTaken slots taken i
