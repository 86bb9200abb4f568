-- Which slots a step names, to be marked as stale on every hart: those whose leaves it changed, and those in which a process
-- started (`changed_at`, `AreMarked`); and the slots that the result of a call names. Also what the flag of a kernel copy
-- says of residence, which lets an access succeed without a fault (`TellsResidence`).
use Rattle.std.specs.Prelude.{◌≡◌, ◌⊎◌, ℕ, Bool, true, false, ◌+◌, ◌||◌, Option, None, Some, Result, Ok, Err, slice_get}
use Rattle.address_space.specs.Accesses.{IsGranted}
use Rattle.process_laws.specs.Words.{changed_at}
use Rattle.process_model.specs.Process.{Process}
use Rattle.process_model.specs.World.{has_slot, StepOutcome, World}
use Rattle.process_model.specs.declared.reply.Refusal.{Refusal}
use Rattle.sv39_entry.specs.declared.access.Access.{Access}

abbrev pub slot_if : ℕ → Bool → Option ℕ
slot_if s true = Some s
slot_if s false = None

-- `changed` and `born` together are exactly the slots that the model's step changed
abbrev pub AreMarked : World → StepOutcome → Option ℕ → Option ℕ → Type 0
AreMarked w o changed born = (n : ℕ) → changed_at (slice_get w.slots n) (slice_get (o.world).slots n) ≡ (has_slot n changed || has_slot n born)

-- the slot to be marked after a call; none if it was refused
abbrev pub marked_by : Result (Option ℕ) Refusal → Option ℕ
marked_by (Ok slot) = slot
marked_by (Err e) = None

abbrev pub marked_with : {A : Type 0} → Result (A × Option ℕ) Refusal → Option ℕ
marked_with (Ok x) = x.1
marked_with (Err e) = None

-- if the flag is true, residence for the access changed at some address; if it is false, neither the page of `address` nor
-- the next one became resident: a kernel copy makes no other page resident
pub record TellsResidence (flag : Bool) (p q : Process) (access : Access) (address : ℕ) : Type 0 where
  pub some : flag ≡ true → (a : ℕ) × ((IsGranted p access a × (IsGranted q access a → ⊥)) ⊎ ((IsGranted p access a → ⊥) × IsGranted q access a))
  pub none : flag ≡ false → (a : ℕ) → (a ≡ address) ⊎ (a ≡ address + 4096) → IsGranted q access a → IsGranted p access a

abbrev pub slot_of_ok : Result ℕ Refusal → Option ℕ
slot_of_ok (Ok slot) = Some slot
slot_of_ok (Err e) = None

abbrev pub child_in : {A : Type 0} → Result (ℕ × A) Refusal → Option ℕ
child_in (Ok x) = Some x.0
child_in (Err e) = None
