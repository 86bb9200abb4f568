-- Lemma: a kernel copy that does not say NoFrame takes no more frames than are free, counted in a memory of any size
-- (`copy_room`): a count of free frames stops at 0, one in a memory that is large enough does not.
use Rattle.std.proofs.Common.{◌≡◌, ℕ, true, false, ◌+◌, ◌≤◌, sym, ap, ◌∙◌, arith, Some, List, length}
use Rattle.std.specs.Prelude.{nat_le, Ok, zip}
use Rattle.process_laws.proofs.CopyFrames.{holds_at, in_goes, in_next, New, not_begun, nothing_beside, out_goes, out_next, Spent, spent_in_all, spent_out_all, tells_in, tells_out}
use Rattle.process_laws.proofs.CopyStops.{ample, Beside, beside_all, is_dry_stop}
use Rattle.process_laws.proofs.EveryChange.{Holds}
use Rattle.process_laws.proofs.OnHarts.{kernel_good}
use Rattle.process_laws.specs.Words.{CopiesBytes, in_memory, is_no_frame_reply}
use Rattle.process_model.specs.Bytes.{numbers_from}
use Rattle.process_model.specs.Calls.{copy_in_outcome, copy_out_outcome}
use Rattle.process_model.specs.Copies.{Copied, copied_in, copied_out, copy_begun, one_in, one_out}
use Rattle.process_model.specs.Environment.{Progress}
use Rattle.process_model.specs.Process.{Process, without_pending}
use Rattle.process_model.specs.Service.{environment_of, initial_progress, with_progress}
use Rattle.process_model.specs.Stale.{with_stale_slots}
use Rattle.process_model.specs.Steps.{plain_step, step}
use Rattle.process_model.specs.World.{free, StepOutcome, process_in, World}
use Rattle.process_model.specs.declared.config.Policy.{Policy}
use Rattle.process_model.specs.declared.config.Policy.TheVariants.{Full, Asid}
use Rattle.process_model.specs.declared.step.Step.{Step}
use Rattle.process_model.specs.declared.step.Step.TheVariants.{CopyIn, CopyOut}
use Rattle.sv39_entry.specs.declared.access.Access.TheVariants as access
use Rattle.process_model.specs.declared.limits.TheConstants.{LONGEST_COPY}

module _ (w : World) where
  abbrev HasRoom : StepOutcome → Type 0
  HasRoom o = is_no_frame_reply o.reply ≡ false → (frames : ℕ) → free (in_memory w frames) ≤ free (in_memory o.world frames) + free w

  module _ (holds : Holds New w) (s : ℕ) (p : Process) (lives : process_in w s ≡ Some p) where
    room_there : (m : ℕ) (c e : Copied) → c ≡ e → (c.progress).taken ≤ free w → Spent (in_memory w m) s p (holds_at w holds m) lives e.progress → free (in_memory w m) ≤ free (in_memory (with_progress w s c.progress) m) + free w
    room_there m c e same few k =
        let spent : free (in_memory (with_progress w s e.progress) m) + (e.progress).taken ≡ free (in_memory w m) = k.spent in
        let taken : (e.progress).taken ≡ (c.progress).taken = ap (λ (d : Copied). (d.progress).taken) (sym same) in
        let left : free (in_memory (with_progress w s c.progress) m) ≡ free (in_memory (with_progress w s e.progress) m) = ap (λ (d : Copied). free (in_memory (with_progress w s d.progress) m)) same in
        omega (arith, spent, taken, left, few)

    room_by : (m : ℕ) (c e d : Copied) → Beside (free w) c d → Beside (free (in_memory w m)) e d → is_dry_stop c.stop ≡ false → Spent (in_memory w m) s p (holds_at w holds m) lives e.progress
        → free (in_memory w m) ≤ free (in_memory (with_progress w s c.progress) m) + free w
    room_by m c e d (Beside.dried stop less quiet) other wet k = absurd (let no : true ≡ false = sym (ap is_dry_stop stop) ∙ wet in cc)
    room_by m c e d (Beside.along same few quiet) (Beside.along alike more calm) wet k =
        room_there m c e (same ∙ sym alike) (let taken = ap (λ (x : Copied). (x.progress).taken) same in omega (arith, few, taken)) k
    room_by m c e d (Beside.along same few quiet) (Beside.dried stop less calm) wet k = omega (arith, few, less)

    abbrev first : Progress
    first = initial_progress w (without_pending p)

    in_room : (address n : ℕ) → HasRoom (copy_in_outcome w s (copied_in (environment_of w s) first address n))
    unfolding copied_in
    in_room address n wet m =
        let c = copied_in (environment_of w s) first address n in
        let e = copied_in (environment_of (in_memory w m) s) first address n in
        let d = copied_in (ample (environment_of w s)) first address n in
        let b : Beside (free w) c d = beside_all access.Load (λ at. at) (λ c at g. one_in c at (Ok g)) in_next in_goes (environment_of w s) (free w) (numbers_from address n) (copy_begun first) (copy_begun first) (nothing_beside (free w) w (without_pending p)) in
        let f : Beside (free (in_memory w m)) e d =
        beside_all access.Load (λ at. at) (λ c at g. one_in c at (Ok g)) in_next in_goes (environment_of w s) (free (in_memory w m)) (numbers_from address n) (copy_begun first) (copy_begun first) (nothing_beside (free (in_memory w m)) w (without_pending p)) in
        room_by m c e d b f (sym (tells_in c.bytes c.stop) ∙ wet) (spent_in_all (in_memory w m) s p (holds_at w holds m) lives (numbers_from address n) (copy_begun first) (not_begun (in_memory w m) s p (holds_at w holds m) lives))

    out_room : (address : ℕ) (bs : List ℕ) → HasRoom (copy_out_outcome w s (copied_out (environment_of w s) first address bs))
    unfolding copied_out
    out_room address bs wet m =
        let places = zip (numbers_from address (length bs)) bs in
        let c = copied_out (environment_of w s) first address bs in
        let e = copied_out (environment_of (in_memory w m) s) first address bs in
        let d = copied_out (ample (environment_of w s)) first address bs in
        let b : Beside (free w) c d = beside_all access.Store (λ x. x.0) (λ c x g. one_out c x.0 x.1 (Ok g)) out_next out_goes (environment_of w s) (free w) places (copy_begun first) (copy_begun first) (nothing_beside (free w) w (without_pending p)) in
        let f : Beside (free (in_memory w m)) e d =
        beside_all access.Store (λ x. x.0) (λ c x g. one_out c x.0 x.1 (Ok g)) out_next out_goes (environment_of w s) (free (in_memory w m)) places (copy_begun first) (copy_begun first) (nothing_beside (free (in_memory w m)) w (without_pending p)) in
        room_by m c e d b f (sym (tells_out c.bytes c.stop) ∙ wet) (spent_out_all (in_memory w m) s p (holds_at w holds m) lives places (copy_begun first) (not_begun (in_memory w m) s p (holds_at w holds m) lives))

  marks_room : (policy : Policy) (o : StepOutcome) → HasRoom o → HasRoom (with_stale_slots policy w o)
  marks_room Full o f = f
  marks_room Asid o f = f

  step_room : (x : Step) → HasRoom (plain_step w x) → HasRoom (step w x)
  unfolding step
  step_room x f = marks_room w.policy (plain_step w x) f

  pub copy_room : Holds New w → (h k : ℕ) (x : Step) → CopiesBytes h k x → HasRoom (step w x)
  copy_room holds h k x (CopiesBytes.copy_in {address} {n}) = step_room (CopyIn h address n)
      (kernel_good w HasRoom (λ r wet m. omega arith) h (nat_le n LONGEST_COPY) _ (λ hart t q at here. in_room holds t q here address n))
  copy_room holds h k x (CopiesBytes.copy_out {address} {bytes}) = step_room (CopyOut h address bytes)
      (kernel_good w HasRoom (λ r wet m. omega arith) h (nat_le (length bytes.now) LONGEST_COPY) _ (λ hart t q at here. out_room holds t q here address bytes.now))
