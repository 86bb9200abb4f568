-- Records `World`, the model's whole state (processes by slot, files, harts, number of frames, next copy number), and
-- `StepOutcome`, a reply and the world after it. The world at boot, its parts with one replaced, its free slot and frames; and
-- when a step on a hart, or a kernel call, is possible and with what it is refused otherwise.
use Rattle.std.specs.Prelude.{ℕ, Bool, true, false, not, ◌+◌, ◌==◌, ◌&&◌, Option, None, Some, is_some, List, [], ◌∷◌, slice_get, slice_set, replicate}
use Rattle.std.specs.List.{list_any}
use Rattle.process_model.specs.Bytes.{first_true}
use Rattle.process_model.specs.Files.{File}
use Rattle.process_model.specs.Process.{Process, Pending}
use Rattle.process_model.specs.Frames.{free_frames, accounts, live, has_copy}
use Rattle.process_model.specs.Harts.{Hart, idle_hart, is_kernel, next_phase}
use Rattle.sv39_entry.specs.declared.scheme.Scheme.{Scheme}
use Rattle.process_model.specs.declared.config.Config.{Config}
use Rattle.process_model.specs.declared.config.Policy.{Policy}
use Rattle.process_model.specs.declared.phase.Phase.{Phase}
use Rattle.process_model.specs.declared.reply.Refusal.{Refusal}
use Rattle.process_model.specs.declared.reply.Refusal.TheVariants.{BadArgument, Impossible, NoEntry}
use Rattle.process_model.specs.declared.reply.Reply.{Reply}
use Rattle.process_model.specs.declared.reply.ScalarReply.TheVariants.{Refused}
use Rattle.process_model.specs.declared.reply.Reply.TheVariants.{Scalar}
use Rattle.process_model.specs.declared.step.Report.{Report}

pub record World : Type 0 where
  -- the scheme by which addresses are translated, of all processes and of the kernel
  pub scheme : Scheme
  pub policy : Policy
  -- how many frames the memory has
  pub frames : ℕ
  pub slots : List (Option Process)
  pub files : List File
  -- above every copy number that was given
  pub counter : ℕ
  pub harts : List Hart

abbrev pub booted : Config → List File → World
booted c files = record {
  scheme = c.scheme;
  policy = c.policy;
  frames = c.frames;
  slots = replicate c.slots None;
  files = files;
  counter = 0;
  harts = replicate c.harts idle_hart;
}

-- the reply to a step, and the world after it
pub record StepOutcome : Type 0 where
  pub reply : Reply
  pub world : World

abbrev pub answers : World → Reply → StepOutcome
answers w reply = record { reply = reply; world = w }

-- a refusal changes nothing
abbrev pub refuses : World → Refusal → StepOutcome
refuses w r = answers w (Scalar (Refused r))

-- parts of a world

abbrev pub free : World → ℕ
free w = free_frames w.scheme w.frames w.slots

abbrev pub report : World → Report
report w = accounts w.scheme w.frames w.slots

abbrev pub flat : Option (Option Process) → Option Process
flat None = None
flat (Some p) = p

abbrev pub process_in : World → ℕ → Option Process
process_in w s = flat (slice_get w.slots s)

abbrev pub with_process : World → ℕ → Process → World
with_process w s p = record w { slots = slice_set w.slots s (Some p) }

abbrev pub without_process : World → ℕ → World
without_process w s = record w { slots = slice_set w.slots s None }

abbrev pub with_hart : World → ℕ → Hart → World
with_hart w h hart = record w { harts = slice_set w.harts h hart }

abbrev pub lowest_free : ℕ → List (Option Process) → Option ℕ
lowest_free n [] = None
lowest_free n (None ∷ slots) = Some n
lowest_free n (Some p ∷ slots) = lowest_free (n + 1) slots

abbrev pub free_slot : World → Option ℕ
free_slot w = lowest_free 0 w.slots

-- whether a process of a slot other than s has the copy number
abbrev pub others_have : World → ℕ → ℕ → Bool
others_have w s copy = list_any (has_copy copy) (live (without_process w s).slots)

-- the process of a hart

abbrev pub process_of_slot : World → Option ℕ → Option Process
process_of_slot w None = None
process_of_slot w (Some s) = process_in w s

abbrev pub process_on : World → Hart → Option Process
process_on w hart = process_of_slot w hart.slot

abbrev pub has_slot : ℕ → Option ℕ → Bool
has_slot s None = false
has_slot s (Some t) = t == s

-- whether a slot can be scheduled: it has a process, which is on no hart. None always can
abbrev pub can_run : World → Option ℕ → Bool
can_run w None = true
can_run w (Some s) = is_some (process_in w s) && not (list_any (λ hart. has_slot s hart.slot) w.harts)

-- while an access that faulted waits for its service, the kernel makes no call for the process and does not return to it

abbrev pub is_unserved_access : Option Pending → Bool
is_unserved_access None = false
is_unserved_access (Some a) = not a.served

abbrev pub is_unserved : Option Process → Bool
is_unserved None = false
is_unserved (Some p) = is_unserved_access p.pending

abbrev pub awaits_service : World → Hart → Bool
awaits_service w hart = is_unserved (process_on w hart)

-- whether an instruction of kernel entry or return is next; in Kernel, the return begins only while no access waits for its
-- service
abbrev pub can_go_on : World → Hart → Bool
can_go_on w hart = is_some (next_phase hart.phase) && not (is_kernel hart.phase && awaits_service w hart)

abbrev pub can_call : World → Hart → Bool
can_call w hart = is_kernel hart.phase && not (awaits_service w hart)

abbrev pub can_serve : World → Hart → Bool
can_serve w hart = is_kernel hart.phase && awaits_service w hart

-- true of every hart: the step is possible in every phase, or names no buffer entry
abbrev pub always : Hart → Bool
always hart = true

-- the refusals that every step on a hart may have, in their order: BadArgument if the arguments are not proper, Impossible
-- if it is not possible on the hart as it is, NoEntry if the buffer entry that it names does not serve. BadArgument for a
-- hart that does not exist comes before these
abbrev pub common_refusal : Hart → Bool → (Hart → Bool) → (Hart → Bool) → Option Refusal
common_refusal hart proper possible entry = first_true (
    (not proper, BadArgument)
    ∷ (not (possible hart), Impossible hart.phase)
    ∷ (not (entry hart), NoEntry)
    ∷ [])

abbrev pub unless_refused : World → (Hart → StepOutcome) → Hart → Option Refusal → StepOutcome
unless_refused w run hart (Some r) = refuses w r
unless_refused w run hart None = run hart

abbrev pub on_hart_at : World → Bool → (Hart → Bool) → (Hart → Bool) → (Hart → StepOutcome) → Option Hart → StepOutcome
on_hart_at w proper possible entry run None = refuses w BadArgument
on_hart_at w proper possible entry run (Some hart) = unless_refused w run hart (common_refusal hart proper possible entry)

-- a step on hart number h, or its refusal
unfoldable pub on_hart : World → ℕ → Bool → (Hart → Bool) → (Hart → Bool) → (Hart → StepOutcome) → StepOutcome
on_hart w h proper possible entry run = on_hart_at w proper possible entry run (slice_get w.harts h)

abbrev pub with_process_of : World → Phase → (ℕ → Process → StepOutcome) → ℕ → Option Process → StepOutcome
with_process_of w phase run s None = refuses w (Impossible phase)
with_process_of w phase run s (Some p) = run s p

abbrev pub with_slot_of : World → Phase → (ℕ → Process → StepOutcome) → Option ℕ → StepOutcome
with_slot_of w phase run None = refuses w (Impossible phase)
with_slot_of w phase run (Some s) = with_process_of w phase run s (process_in w s)

-- what is done for the process of a hart, given its slot and the process. A hart that is not idle has a process, so these
-- two refusals do not occur in a run
unfoldable pub with_its_process : World → Hart → (ℕ → Process → StepOutcome) → StepOutcome
with_its_process w hart run = with_slot_of w hart.phase run hart.slot

-- a kernel call for the process of hart number h
abbrev pub kernel_call : World → ℕ → Bool → (Hart → ℕ → Process → StepOutcome) → StepOutcome
kernel_call w h proper run = on_hart w h proper (can_call w) always (λ hart. with_its_process w hart (run hart))
