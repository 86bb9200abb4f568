-- Lemmas for the steps `CopyIn` and `CopyOut`: reply, world (the model's state), slots to be marked as stale and unchanged
-- leaves are the model's; more than 256 bytes are refused.
use Rattle.std.proofs.Common.{◌≡◌, ℕ, ◌<◌, ◌≤◌, Bool, false, true, Option, None, Some, Bor, List, [], length, refl, ap, sym, subst, ◌∙◌, arith}
use Rattle.std.specs.Prelude.{slice_get, slice_set}
use Rattle.std.specs.Vec.{with_item}
use Rattle.std.proofs.lemmas.Bool.{le-leb, lt-leb}
use Rattle.address_space.proofs.PendingAccess.{agrees_pending}
use Rattle.fault_rules.specs.PageService.{Moment}
use Rattle.frame_store.specs.Plain.{PlainState}
use Rattle.frame_store.specs.View.{View}
use Rattle.process_model.specs.Environment.{Progress}
use Rattle.process_model.specs.Calls.{copy_in_outcome, copy_out_outcome}
use Rattle.process_model.specs.Copies.{Copied, copied_in, copied_out, out_reply}
use Rattle.process_model.proofs.CopyRuns.{so_far}
use Rattle.process_model.specs.Files.{File}
use Rattle.process_model.specs.Harts as harts
use Rattle.process_model.specs.Process.{Process, regions, without_pending}
use Rattle.process_model.specs.Service.{environment_of, initial_progress, with_progress}
use Rattle.process_model.specs.Steps.{plain_step}
use Rattle.process_model.specs.World.{kernel_call, StepOutcome, refuses, World}
use Rattle.process_model.specs.declared.reply.Refusal.TheVariants.{BadArgument}
use Rattle.process_model.specs.declared.reply.Reply.{Reply}
use Rattle.process_model.specs.declared.reply.ScalarReply.TheVariants.{Refused}
use Rattle.process_model.specs.declared.reply.Reply.TheVariants.{Scalar}
use Rattle.process_model.specs.declared.step.Step.TheVariants as step
use Rattle.sv39_entry.specs.declared.access.Access.{Access}
use Rattle.sv39_entry.specs.declared.access.Access.TheVariants.{Load, Store}
use Rattle.sv39_entry.specs.declared.rule.Rule.{Rule}
use Rattle.table_walk.specs.Tables.{Tables}
use Rattle.user_copy.specs.Runs.{runs, runs_of}
use Rattle.hart_machine.specs.Calls.{IsCaller}
use Rattle.hart_machine.specs.CopyEffect.{CopiesFrom, CopiesTo, moment_of, sent_reply}
use Rattle.hart_machine.specs.Marks.{AreMarked, slot_if, TellsResidence}
use Rattle.hart_machine.specs.SlotProcesses.{IsSlotProcess}
use Rattle.hart_machine.specs.Worlds.{IsWorldButBuffers, KeepsTables, IsModelOutcome}
use Rattle.hart_machine.specs.declared.machine.Machine.{Machine}
use Rattle.hart_machine.specs.declared.slot_process.Pending.{Pending}
use Rattle.hart_machine.specs.declared.slot_process.SlotProcess.{SlotProcess}
use Rattle.hart_machine.proofs.AccessingWorlds.{bytes_change}
use Rattle.hart_machine.proofs.Calling.{call_runs}
use Rattle.hart_machine.proofs.CopiedRuns.{are_given, are_runs, as_runs_in, as_runs_out, runs_end_in, runs_end_out}
use Rattle.hart_machine.proofs.CopiedWorlds.{IsCopied, IsUnderWay, machine_at, old_in, tenant_in}
use Rattle.hart_machine.proofs.HartSteps.{improper, refused, tenant_is}
use Rattle.hart_machine.proofs.KeptLeaves.{followed_frames, followed_same, slot_keeps_by}
use Rattle.hart_machine.proofs.MarkedCopies.{copied_in_regions, copied_in_told, copied_out_regions, copied_out_told, copied_in_scheme, copied_out_scheme}
use Rattle.hart_machine.proofs.SlotMarks.{set_marks}
use Rattle.process_model.specs.declared.limits.TheConstants.{LONGEST_COPY}

sent_is : (sent : List ℕ) (stop : Option Rule) → out_reply sent stop ≡ sent_reply (length sent) stop
sent_is sent None = refl
sent_is sent (Some rule) = refl

-- residence is told without regard to what is pending
tells_quiet : (flag : Bool) (p q : Process) (kind : Access) (address : ℕ) → TellsResidence flag p q kind address → TellsResidence flag (without_pending p) q kind address
tells_quiet flag p q kind address tells = record { some = tells.some; none = tells.none }

module _ (m : Machine) (w : World) (is : IsWorldButBuffers m w) (h s : ℕ) (k : IsCaller m w h s) (x y : SlotProcess) (place : slice_get m.slots.items s ≡ Some (Some x)) (b : PlainState) (fs : List File) where
  abbrev spot : Moment View PlainState (List File)
  spot = moment_of x m.frames m.files

  -- at first nothing is copied, and nothing is pending any more
  under_way : IsUnderWay m w is h s k (moment_of x m.frames m.files) (initial_progress w (without_pending k.process))
  under_way =
      let own = tenant_is m w is s x k.process place k.in_slot in
      let z : SlotProcess = record { space = x.space; pending = None } in
      let quiet : IsSlotProcess z (is.tables s) (without_pending k.process) = record {
        agrees = agrees_pending _ _ _ _ _ k.process own.agrees None;
        framed = own.framed;
        pending = refl;
        wide = tt;
      } in
      let world : IsWorldButBuffers (machine_at m w is h s k spot) (with_progress w s (initial_progress w (without_pending k.process))) =
      bytes_change m w is s x z k.process (without_pending k.process) place k.in_slot own quiet m.frames (λ others r. r) (λ n a there. (a, there, refl)) refl in
      record {
        world = world;
        left = omega arith;
        quiet = refl;
        order = omega arith;
        old = old_in m w is h s k spot (initial_progress w (without_pending k.process)) world (is.tables s) (without_pending k.process) quiet (λ n f a there below on. on);
      }

  abbrev after : Machine
  after = record m { frames = b; slots = with_item m.slots s (Some y); files = fs }

  quiet_after : (v : World) → y.pending ≡ None → IsWorldButBuffers (record m { frames = b; slots = with_item m.slots s (let z : SlotProcess = record { space = y.space; pending = None } in Some z); files = fs }) v → IsWorldButBuffers after v
  quiet_after v quiet it =
      subst (λ (o : Option Pending). IsWorldButBuffers (record m { frames = b; slots = with_item m.slots s (let z : SlotProcess = record { space = y.space; pending = o } in Some z); files = fs }) v) (sym quiet) it

  own : IsSlotProcess x (is.tables s) k.process
  own = tenant_is m w is s x k.process place k.in_slot

  -- the process after a copy, of which nothing is pending
  module _ (quiet : y.pending ≡ None) (j : Progress) (copied : IsCopied m w is h s k (moment_of y b fs) j) where
    unfoldable tenant_after : IsSlotProcess y (copied.world.tables s) j.process
    tenant_after =
        subst (λ (o : Option Pending). let z : SlotProcess = record { space = y.space; pending = o } in IsSlotProcess z (copied.world.tables s) j.process) (sym quiet)
        (tenant_in m w is h s k (moment_of y b fs) j copied.world)

    -- where each page has the copy number and the marks that it had, each leaf is what it was
    keeps_leaves : y.space.trapframe ≡ x.space.trapframe → j.process.scheme ≡ k.process.scheme → regions j.process ≡ regions k.process → KeepsTables m after w.slots (slice_set w.slots s (Some j.process))
    keeps_leaves trapframe schemed same =
        slot_keeps_by m after w.slots _ s x y k.process j.process (is.tables s) (copied.world.tables s) own tenant_after place k.in_slot refl refl refl
        (λ unchanged. followed_same x y (is.tables s) (copied.world.tables s) k.process j.process own tenant_after unchanged schemed trapframe same
        w.counter (λ n z there. is.counted s n k.process z k.in_slot there) (λ n f z. copied.old n f z))
        (followed_frames x y (is.tables s) (copied.world.tables s) k.process j.process own tenant_after schemed trapframe w.counter (λ n z there. is.counted s n k.process z k.in_slot there) (λ n f z. copied.old n f z))

  -- from the process

  module _ (address n : ℕ) (reply : Reply) (small : n ≤ LONGEST_COPY) (from : CopiesFrom x y m.frames b m.files fs address n reply) where
    abbrev g : Progress
    g = initial_progress w (without_pending k.process)

    abbrev copy_in : Copied
    copy_in = copied_in (environment_of w s) g address n

    ends_in : (j : Progress) × (copy_in ≡ so_far j from.bytes from.stop) × IsCopied m w is h s k (moment_of y b fs) j
    ends_in =
        let end = runs_end_in m w is h s k (runs address n) (are_runs address n small) (moment_of x m.frames m.files) g under_way (moment_of y b fs) [] from.bytes from.stop from.copies in
        (end.0, as_runs_in (environment_of w s) g address n ∙ end.1, end.2)

    unfoldable copied_from : IsCopied m w is h s k (moment_of y b fs) copy_in.progress
    copied_from = let end = ends_in in subst (λ (c : Copied). IsCopied m w is h s k (moment_of y b fs) c.progress) (sym end.1) end.2

    pub copies_in : IsModelOutcome after reply (copy_in_outcome w s copy_in)
    copies_in =
        let end = ends_in in
        subst (λ (c : Copied). IsModelOutcome after reply (copy_in_outcome w s c)) (sym end.1) (from.told, quiet_after (with_progress w s end.0) from.quiet (end.2).world)

    pub marks_in : (flag : Bool) → ((t u : Tables) (p q : Process) → IsSlotProcess x t p → IsSlotProcess y u q → TellsResidence flag p q Load address) → AreMarked w (copy_in_outcome w s copy_in) (slot_if s flag) None
    marks_in flag tells =
        set_marks w (copy_in_outcome w s copy_in) s k.process (copy_in.progress).process flag k.in_slot refl
        (copied_in_told (environment_of w s) g address n (omega (arith, small)) flag
        (tells_quiet flag k.process (copy_in.progress).process Load address (tells (is.tables s) _ k.process (copy_in.progress).process own (tenant_after from.quiet copy_in.progress copied_from))))

    pub keeps_in : y.space.trapframe ≡ x.space.trapframe → KeepsTables m after w.slots (copy_in_outcome w s copy_in).world.slots
    keeps_in trapframe = keeps_leaves from.quiet copy_in.progress copied_from trapframe (copied_in_scheme (environment_of w s) g address n (omega (arith, small))) (copied_in_regions (environment_of w s) g address n (omega (arith, small)))

  -- to the process

  module _ (address : ℕ) (bytes : List ℕ) (reply : Reply) (small : length bytes ≤ LONGEST_COPY) (to : CopiesTo x y m.frames b m.files fs address bytes reply) where
    abbrev begin : Progress
    begin = initial_progress w (without_pending k.process)

    abbrev copy_out : Copied
    copy_out = copied_out (environment_of w s) begin address bytes

    ends_out : (j : Progress) × (sent : List ℕ) × (copy_out ≡ so_far j sent to.stop) × (length sent ≡ to.count) × IsCopied m w is h s k (moment_of y b fs) j
    ends_out =
        let end = runs_end_out m w is h s k (runs_of address bytes) (are_given address bytes small) (moment_of x m.frames m.files) begin under_way (moment_of y b fs) [] to.count to.stop to.copies in
        (end.0, end.1, as_runs_out (environment_of w s) begin address bytes ∙ end.2, end.3, end.4)

    unfoldable copied_to : IsCopied m w is h s k (moment_of y b fs) copy_out.progress
    copied_to = let end = ends_out in subst (λ (c : Copied). IsCopied m w is h s k (moment_of y b fs) c.progress) (sym end.2) end.4

    pub copies_out : IsModelOutcome after reply (copy_out_outcome w s copy_out)
    copies_out =
        let end = ends_out in
        subst (λ (c : Copied). IsModelOutcome after reply (copy_out_outcome w s c)) (sym end.2)
        (to.told ∙ ap (λ (n : ℕ). sent_reply n to.stop) (sym end.3) ∙ sym (sent_is end.1 to.stop), quiet_after (with_progress w s end.0) to.quiet (end.4).world)

    pub marks_out : (flag : Bool) → ((t u : Tables) (p q : Process) → IsSlotProcess x t p → IsSlotProcess y u q → TellsResidence flag p q Store address) → AreMarked w (copy_out_outcome w s copy_out) (slot_if s flag) None
    marks_out flag tells =
        set_marks w (copy_out_outcome w s copy_out) s k.process (copy_out.progress).process flag k.in_slot refl
        (copied_out_told (environment_of w s) begin address bytes (omega (arith, small)) flag
        (tells_quiet flag k.process (copy_out.progress).process Store address (tells (is.tables s) _ k.process (copy_out.progress).process own (tenant_after to.quiet copy_out.progress copied_to))))

    pub keeps_out : y.space.trapframe ≡ x.space.trapframe → KeepsTables m after w.slots (copy_out_outcome w s copy_out).world.slots
    keeps_out trapframe = keeps_leaves to.quiet copy_out.progress copied_to trapframe (copied_out_scheme (environment_of w s) begin address bytes (omega (arith, small))) (copied_out_regions (environment_of w s) begin address bytes (omega (arith, small)))

-- the step is the copy

module _ (m : Machine) (w : World) (is : IsWorldButBuffers m w) (h : ℕ) where
  -- a copy that is too long is refused
  pub long_in : (address n : ℕ) → LONGEST_COPY < n → plain_step w (step.CopyIn h address n) ≡ refuses w BadArgument
  long_in address n long = improper w h _ _ _ _ (lt-leb n LONGEST_COPY long)

  pub long_out : (address : ℕ) (bytes : Bor (List ℕ)) → LONGEST_COPY < length bytes.now → plain_step w (step.CopyOut h address bytes) ≡ refuses w BadArgument
  long_out address bytes long = improper w h _ _ _ _ (lt-leb (length bytes.now) LONGEST_COPY long)

  pub too_long_in : (address n : ℕ) → LONGEST_COPY < n → IsModelOutcome m (Scalar (Refused BadArgument)) (plain_step w (step.CopyIn h address n))
  too_long_in address n long = refused m w is BadArgument _ (long_in address n long)

  pub too_long_out : (address : ℕ) (bytes : Bor (List ℕ)) → LONGEST_COPY < length bytes.now → IsModelOutcome m (Scalar (Refused BadArgument)) (plain_step w (step.CopyOut h address bytes))
  too_long_out address bytes long = refused m w is BadArgument _ (long_out address bytes long)

  abbrev pub copy_in_of : ℕ → ℕ → harts.Hart → ℕ → Process → StepOutcome
  copy_in_of address n hart s p = copy_in_outcome w s (copied_in (environment_of w s) (initial_progress w (without_pending p)) address n)

  abbrev pub copy_out_of : ℕ → List ℕ → harts.Hart → ℕ → Process → StepOutcome
  copy_out_of address bytes hart s p = copy_out_outcome w s (copied_out (environment_of w s) (initial_progress w (without_pending p)) address bytes)

  pub proper_in : (address n : ℕ) → n ≤ LONGEST_COPY → plain_step w (step.CopyIn h address n) ≡ kernel_call w h true (copy_in_of address n)
  proper_in address n small = ap (λ b. kernel_call w h b (copy_in_of address n)) (le-leb n LONGEST_COPY small)

  pub proper_out : (address : ℕ) (bytes : Bor (List ℕ)) → length bytes.now ≤ LONGEST_COPY
      → plain_step w (step.CopyOut h address bytes) ≡ kernel_call w h true (copy_out_of address bytes.now)
  proper_out address bytes small = ap (λ b. kernel_call w h b (copy_out_of address bytes.now)) (le-leb (length bytes.now) LONGEST_COPY small)

  module _ (s : ℕ) (k : IsCaller m w h s) where
    pub step_in : (address n : ℕ) → n ≤ LONGEST_COPY → plain_step w (step.CopyIn h address n) ≡ copy_in_outcome w s (copied_in (environment_of w s) (initial_progress w (without_pending k.process)) address n)
    step_in address n small = proper_in address n small ∙ call_runs m w is h s false k (copy_in_of address n) k.process k.in_slot

    pub step_out : (address : ℕ) (bytes : Bor (List ℕ)) → length bytes.now ≤ LONGEST_COPY
        → plain_step w (step.CopyOut h address bytes) ≡ copy_out_outcome w s (copied_out (environment_of w s) (initial_progress w (without_pending k.process)) address bytes.now)
    step_out address bytes small = proper_out address bytes small ∙ call_runs m w is h s false k (copy_out_of address bytes.now) k.process k.in_slot
