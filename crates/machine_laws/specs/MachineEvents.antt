-- The events at a hart in one step of the machine (`after_step`): a store for each word of a frame that is another after the step, whichever hart made
-- it; a write of satp, if that is another; and the fence, if the step is one of this hart. A step is one moment: of a word that it writes twice the last
-- value counts. (The standard, 4.2.1; premise 1 of docs/TRUST.md.)
use Rattle.std.specs.Prelude.{ℕ, not, suc, ◌+◌, ◌/◌, ◌%◌, ◌==◌, ◌&&◌, Option, None, Some, List, [], ◌∷◌, slice_get, if◌then◌else◌}
use Rattle.access_history.specs.declared.event.Event.{Event}
use Rattle.access_history.specs.declared.event.Event.TheVariants.{Fence, Store, WriteSatp}
use Rattle.hart_machine.specs.Buffers.{is_about}
use Rattle.hart_machine.specs.Harts.{is_before_user}
use Rattle.hart_machine.specs.Slots.{marks_of}
use Rattle.hart_machine.specs.declared.hart.Hart.{Hart}
use Rattle.hart_machine.specs.declared.machine.Machine.{Machine}
use Rattle.machine_laws.specs.MachineStates.{satp_on}
use Rattle.process_model.specs.Harts.{is_before_fence}
use Rattle.process_model.specs.Steps.{is_refused}
use Rattle.process_model.specs.declared.config.Policy.{Policy}
use Rattle.process_model.specs.declared.config.Policy.TheVariants.{Full, Asid}
use Rattle.process_model.specs.declared.reply.Reply.{Reply}
use Rattle.process_model.specs.declared.step.Step.{Step}
use Rattle.process_model.specs.declared.step.Step.TheVariants as step
use Rattle.sv39_entry.specs.Frame.{ppn_of}

-- a store, if a word becomes another. Word n of the memory is at index n % 512 of frame n / 512
abbrev pub stored : ℕ → ℕ → ℕ → List Event → List Event
stored n a b h = if a == b then h else Store (ppn_of (n / 512)) (n % 512) b ∷ h

-- stores that make the words from word n on into others
abbrev pub stores : ℕ → List ℕ → List ℕ → List Event → List Event
stores n [] ys h = h
stores n (a ∷ xs) [] h = h
stores n (a ∷ xs) (b ∷ ys) h = stores (suc n) xs ys (stored n a b h)

-- a write of satp, if its word becomes another
abbrev pub satp_written : ℕ → ℕ → List Event → List Event
satp_written a b h = if a == b then h else WriteSatp b ∷ h

-- the fence that the next instruction of kernel entry or return is, by the policy: of everything; or of the ASID of the hart's slot, if the
-- hart is marked for it
abbrev pub asid_fenced : Hart → Option ℕ → List Event → List Event
asid_fenced x None h = h
asid_fenced x (Some s) h = if marks_of x.stale s then Fence None (Some (s + 1)) ∷ h else h

abbrev pub next_fenced : Policy → Hart → List Event → List Event
next_fenced Full x h = if is_before_fence x.phase then Fence None None ∷ h else h
next_fenced Asid x h = if is_before_user x.phase then asid_fenced x x.slot h else h

abbrev pub fenced_by : Step → Policy → Hart → List Event → List Event
fenced_by (step.Next h) policy x past = next_fenced policy x past
fenced_by s policy x past = past

-- a step on hart k, which is not refused, may be a fence
abbrev pub fenced_on : Option Hart → Step → Reply → ℕ → Policy → List Event → List Event
fenced_on None s reply k policy h = h
fenced_on (Some x) s reply k policy h = if not (is_refused reply) && is_about s k then fenced_by s policy x h else h

-- hart k's history after a step from machine `old` to machine `new`
abbrev pub after_step : Machine → Machine → Step → Reply → ℕ → List Event → List Event
after_step old new s reply k h =
    fenced_on (slice_get old.harts.items k) s reply k old.policy
    (satp_written (satp_on old k) (satp_on new k) (stores 0 old.frames.words new.frames.words h))
