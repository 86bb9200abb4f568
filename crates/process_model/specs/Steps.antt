-- The steps of the machine: `step` gives the reply to a step and the world (the model's whole state) after it, `run` the
-- replies to a list of steps and the world after it.
use Rattle.std.specs.Prelude.{ℕ, Bool, true, false, ◌+◌, ◌-◌, ◌*◌, ◌%◌, nat_le, nat_lt, ◌==◌, ◌&&◌, unwrap_or, List, [], ◌∷◌, length, remove}
use Rattle.process_model.specs.Process.{without_pending}
use Rattle.process_model.specs.Heap.{sbrk_result}
use Rattle.process_model.specs.Mappings.{mapped, unmapped}
use Rattle.process_model.specs.Images.{image_loads}
use Rattle.process_model.specs.Copies.{copied_in, copied_out}
use Rattle.process_model.specs.Calls.{started, replaced, forked, resized_to, mapped_to, unmapped_to, copy_in_outcome, copy_out_outcome}
use Rattle.process_model.specs.Service.{access_step, environment_of, initial_progress, served, ended}
use Rattle.process_model.specs.Stale.{with_stale_slots}
use Rattle.process_model.specs.Harts.{Hart, next_phase, is_user, may_switch, in_trampoline, phase_for, present_asid, with_key, entry_serves, fenced}
use Rattle.process_model.specs.World.{World, StepOutcome, answers, with_process, with_hart, free_slot, can_run, can_go_on, can_serve, always}
use Rattle.process_model.specs.World.{on_hart, with_its_process, kernel_call}
use Rattle.sv39_entry.specs.Address.{page_of}
use Rattle.sv39_entry.specs.Schemes.{trampoline_page}
use Rattle.sv39_entry.specs.declared.access.Access.TheVariants as access
use Rattle.process_model.specs.declared.phase.Phase.TheVariants.{Enter0}
use Rattle.process_model.specs.declared.reply.Reply.{Reply}
use Rattle.process_model.specs.declared.reply.ScalarReply.TheVariants.{Done, Filled, InFrame, Exited, Refused}
use Rattle.process_model.specs.declared.reply.Reply.TheVariants.{Scalar}
use Rattle.process_model.specs.declared.step.Step.{Step}
use Rattle.process_model.specs.declared.step.Step.TheVariants.{Start, Switch, Trap, Next, Fill, Evict, Fetch, Load, Store, TrampolineFetch}
use Rattle.process_model.specs.declared.step.Step.TheVariants.{Serve, Fork, Exec, Sbrk, Mmap, Munmap, CopyIn, CopyOut, Exit}
use Rattle.process_model.specs.declared.limits.TheConstants.{LONGEST_COPY}

-- steps of a hart and its buffer

abbrev pub filled : World → ℕ → ℕ → Hart → StepOutcome
filled w h address hart =
    let keys = with_key hart.keys (record { page = page_of address; asid = present_asid w.policy hart }) in
    answers (with_hart w h (record hart { keys = keys })) (Scalar (Filled (length keys - 1)))

abbrev pub evicted : World → ℕ → ℕ → Hart → StepOutcome
evicted w h n hart = answers (with_hart w h (record hart { keys = remove hart.keys n })) (Scalar Done)

abbrev pub advanced : World → ℕ → Hart → StepOutcome
advanced w h hart = answers (with_hart w h (record (fenced w.policy hart) { phase = unwrap_or (next_phase hart.phase) hart.phase })) (Scalar Done)

-- the reply to a step and the world after it, without the marks that may follow
abbrev pub plain_step : World → Step → StepOutcome
plain_step w (Start image) = started w (image_loads w.scheme image) (free_slot w)
plain_step w (Switch h slot) =
    on_hart w h true (λ hart. may_switch hart.phase
    && can_run w slot) always (λ hart. answers (with_hart w h (record hart { phase = phase_for slot; slot = slot })) (Scalar Done))
plain_step w (Trap h) =
    on_hart w h true (λ hart. is_user hart.phase) always
    (λ hart. with_its_process w hart (λ s p. answers (with_hart (with_process w s (without_pending p)) h (record hart { phase = Enter0 })) (Scalar Done)))
plain_step w (Next h) = on_hart w h true (can_go_on w) always (advanced w h)
plain_step w (Fill h address) = on_hart w h true always always (filled w h address)
plain_step w (Evict h n) = on_hart w h true always (λ hart. nat_lt n (length hart.keys)) (evicted w h n)
plain_step w (Fetch h address via) = access_step w h access.Fetch address 4 0 via
plain_step w (Load h address width via) = access_step w h access.Load address width 0 via
plain_step w (Store h address width value via) = access_step w h access.Store address width value via
plain_step w (TrampolineFetch h offset via) =
    on_hart w h (offset % 4 == 0
    && nat_lt offset 4096) (λ hart. in_trampoline hart.phase) (λ hart. entry_serves w.policy hart (4096 * trampoline_page w.scheme + offset) via)
    (λ hart. answers w (Scalar (InFrame 0)))
plain_step w (Serve h) = on_hart w h true (can_serve w) always (λ hart. with_its_process w hart (λ s p. served w h hart s p p.pending))
plain_step w (Fork h) = kernel_call w h true (λ hart s p. forked w s p (free_slot w))
plain_step w (Exec h image) = kernel_call w h true (λ hart s p. replaced w s p (image_loads w.scheme image))
plain_step w (Sbrk h delta) = kernel_call w h true (λ hart s p. resized_to w s p (sbrk_result p delta))
plain_step w (Mmap h len protection flags n) = kernel_call w h true (λ hart s p. mapped_to w s (mapped w.files p len protection flags n))
plain_step w (Munmap h address len) = kernel_call w h true (λ hart s p. unmapped_to w s (unmapped w.files p address len))
plain_step w (CopyIn h address n) =
    kernel_call w h (nat_le n LONGEST_COPY) (λ hart s p.
    copy_in_outcome w s (copied_in (environment_of w s) (initial_progress w (without_pending p)) address n))
plain_step w (CopyOut h address bytes) =
    kernel_call w h (nat_le (length bytes.now) LONGEST_COPY) (λ hart s p.
    copy_out_outcome w s (copied_out (environment_of w s) (initial_progress w (without_pending p)) address bytes.now))
plain_step w (Exit h status) = kernel_call w h true (λ hart s p. ended w h hart s p (Scalar (Exited status)))

-- the reply to a step and the world after it, with the marks of slots that may have stale buffer entries
unfoldable pub step : World → Step → StepOutcome
step w s = with_stale_slots w.policy w (plain_step w s)

-- the replies to a list of steps, and the world after it
pub record Run : Type 0 where
  pub replies : List Reply
  pub world : World

abbrev pub replied : Reply → Run → Run
replied reply r = record r { replies = reply ∷ r.replies }

abbrev pub run : World → List Step → Run
run w [] = record { replies = []; world = w }
run w (s ∷ ss) = let o = step w s in replied o.reply (run o.world ss)

abbrev pub is_refused : Reply → Bool
is_refused (Scalar (Refused r)) = true
is_refused _ = false
