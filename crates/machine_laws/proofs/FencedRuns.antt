-- Lemmas: the buffer of a hart after a step is one that the hart's events of the step allow: a fill and an eviction come before them, a fence is the last of
-- them.
use Rattle.std.proofs.Common.{ℕ, ◌+◌, not, ◌&&◌, Bool, true, false, subst, Option, None, Some, List, [], ◌∷◌, ◌++◌, if◌then◌else◌}
use Rattle.access_history.specs.History.{First}
use Rattle.access_history.specs.declared.event.Event.{Event}
use Rattle.access_history.specs.declared.event.Event.TheVariants.{Fence}
use Rattle.hart_machine.proofs.Fences.{all_fenced}
use Rattle.hart_machine.specs.Buffers.{buffer_after, is_about}
use Rattle.hart_machine.specs.Harts.{cleaned_for, cleaned_if, fenced, hart_of, is_before_user}
use Rattle.hart_machine.specs.Slots.{marks_of}
use Rattle.hart_machine.specs.Tables.{present_table, tables_of}
use Rattle.hart_machine.specs.WalkEntries.{entry_for}
use Rattle.hart_machine.specs.declared.hart.Hart.{Hart}
use Rattle.hart_tlb.specs.Buffer.{newest_entries}
use Rattle.hart_tlb.specs.declared.entry.TlbEntry.{TlbEntry}
use Rattle.history_laws.specs.TlbEntries.{TlbRuns, evicts, happens}
use Rattle.machine_laws.specs.MachineEvents.{asid_fenced, fenced_by, fenced_on, next_fenced}
use Rattle.process_model.specs.Harts.{is_before_fence, present_asid}
use Rattle.process_model.specs.Steps.{is_refused}
use Rattle.process_model.specs.declared.config.Policy.{Policy}
use Rattle.process_model.specs.declared.config.Policy.TheVariants.{Full, Asid}
use Rattle.process_model.specs.declared.limits.TheConstants.{BUFFER_SIZE}
use Rattle.process_model.specs.declared.reply.Reply.{Reply}
use Rattle.process_model.specs.declared.step.Step.{Step}
use Rattle.process_model.specs.declared.step.Step.TheVariants as step
use Rattle.sv39_entry.specs.declared.address.Va.{Va}
use Rattle.sv39_entry.specs.declared.scheme.Scheme.{Scheme}
use Rattle.table_walk.specs.Tables.{Tables}

-- ---- a fence leaves memory and satp

module _ (P : List Event → Type 0) (fence : (va : Option Va) (space : Option ℕ) (h : List Event) → P h → P (Fence va space ∷ h)) where
  if_fenced : (va : Option Va) (space : Option ℕ) (h : List Event) (c : Bool) → P h → P (if c then Fence va space ∷ h else h)
  if_fenced va space h true p = fence va space h p
  if_fenced va space h false p = p

  asid_keeps : (x : Hart) (o : Option ℕ) (h : List Event) → P h → P (asid_fenced x o h)
  asid_keeps x None h p = p
  asid_keeps x (Some s) h p = if_fenced None (Some (s + 1)) h (marks_of x.stale s) p

  user_keeps : (x : Hart) (h : List Event) (c : Bool) → P h → P (if c then asid_fenced x x.slot h else h)
  user_keeps x h true p = asid_keeps x x.slot h p
  user_keeps x h false p = p

  next_keeps : (policy : Policy) (x : Hart) (h : List Event) → P h → P (next_fenced policy x h)
  next_keeps Full x h p = if_fenced None None h (is_before_fence x.phase) p
  next_keeps Asid x h p = user_keeps x h (is_before_user x.phase) p

  step_keeps : (s : Step) (policy : Policy) (x : Hart) (h : List Event) → P h → P (fenced_by s policy x h)
  step_keeps (step.Next k) policy x h p = next_keeps policy x h p
  step_keeps (step.Start i) policy x h p = p
  step_keeps (step.Switch k o) policy x h p = p
  step_keeps (step.Trap k) policy x h p = p
  step_keeps (step.Fill k a) policy x h p = p
  step_keeps (step.Evict k n) policy x h p = p
  step_keeps (step.Fetch k a via) policy x h p = p
  step_keeps (step.Load k a n via) policy x h p = p
  step_keeps (step.Store k a n v via) policy x h p = p
  step_keeps (step.TrampolineFetch k a via) policy x h p = p
  step_keeps (step.Serve k) policy x h p = p
  step_keeps (step.Fork k) policy x h p = p
  step_keeps (step.Exec k i) policy x h p = p
  step_keeps (step.Sbrk k d) policy x h p = p
  step_keeps (step.Mmap k n a b c) policy x h p = p
  step_keeps (step.Munmap k a n) policy x h p = p
  step_keeps (step.CopyIn k a n) policy x h p = p
  step_keeps (step.CopyOut k a bs) policy x h p = p
  step_keeps (step.Exit k n) policy x h p = p

  made_keeps : (s : Step) (policy : Policy) (x : Hart) (h : List Event) (c : Bool) → P h → P (if c then fenced_by s policy x h else h)
  made_keeps s policy x h true p = step_keeps s policy x h p
  made_keeps s policy x h false p = p

  pub fenced_keeps : (o : Option Hart) (s : Step) (reply : Reply) (k : ℕ) (policy : Policy) (h : List Event) → P h → P (fenced_on o s reply k policy h)
  fenced_keeps None s reply k policy h p = p
  fenced_keeps (Some x) s reply k policy h p = made_keeps s policy x h (not (is_refused reply) && is_about s k) p

-- ---- the buffer

module _ (f : First) (z : Scheme) where
  abbrev Runs : List Event → List TlbEntry → Type 0
  Runs = TlbRuns f z BUFFER_SIZE

  empties : (es : List TlbEntry) (h : List Event) → Runs h es → Runs (Fence None None ∷ h) []
  empties es h run = subst (Runs (Fence None None ∷ h)) (all_fenced es) (happens {event = Fence None None} run)

  emptied_by : (es : List TlbEntry) (h : List Event) (c : Bool) → Runs h es → Runs (if c then Fence None None ∷ h else h) (if c then [] else es)
  emptied_by es h true run = empties es h run
  emptied_by es h false run = run

  cleaned_by : (x : Hart) (s : ℕ) (h : List Event) (c : Bool) → Runs h x.buffer → Runs (if c then Fence None (Some (s + 1)) ∷ h else h) (cleaned_if x s c).buffer
  cleaned_by x s h true run = happens {event = Fence None (Some (s + 1))} run
  cleaned_by x s h false run = run

  cleaned_at : (x : Hart) (o : Option ℕ) (h : List Event) → Runs h x.buffer → Runs (asid_fenced x o h) (cleaned_for x o).buffer
  cleaned_at x None h run = run
  cleaned_at x (Some s) h run = cleaned_by x s h (marks_of x.stale s) run

  cleaned_in : (x : Hart) (h : List Event) (c : Bool) → Runs h x.buffer
      → Runs (if c then asid_fenced x x.slot h else h) (if c then cleaned_for x x.slot else x).buffer
  cleaned_in x h true run = cleaned_at x x.slot h run
  cleaned_in x h false run = run

  pub next_runs : (policy : Policy) (x : Hart) (h : List Event) → Runs h x.buffer → Runs (next_fenced policy x h) (fenced policy x).buffer
  next_runs Full x h run = emptied_by x.buffer h (is_before_fence x.phase) run
  next_runs Asid x h run = cleaned_in x h (is_before_user x.phase) run

  -- a step of the hart: `now` is the history before it, `late` the same with the step's stores and its write of satp, which leave a buffer
  module _ (x : Hart) (tables : ℕ → Tables) (kernel : Tables) (policy : Policy) (now late : List Event)
      (quiet : (es : List TlbEntry) → Runs now es → Runs late es)
      (fill : (a : ℕ) → Runs now (newest_entries BUFFER_SIZE (x.buffer ++ entry_for z (tables_of tables kernel (present_table x)) (present_asid policy (hart_of x)) a ∷ [])))
      (run : Runs now x.buffer) where
    abbrev Steps : Step → Type 0
    Steps s = Runs (fenced_by s policy x late) (buffer_after z policy tables kernel s x)

    still : Runs late x.buffer
    still = quiet x.buffer run

    step_runs : (s : Step) → Steps s
    step_runs (step.Fill k a) = quiet _ (fill a)
    step_runs (step.Evict k n) = quiet _ (evicts n run)
    step_runs (step.Next k) = next_runs policy x late still
    step_runs (step.Start i) = still
    step_runs (step.Switch k o) = still
    step_runs (step.Trap k) = still
    step_runs (step.Fetch k a via) = still
    step_runs (step.Load k a n via) = still
    step_runs (step.Store k a n v via) = still
    step_runs (step.TrampolineFetch k a via) = still
    step_runs (step.Serve k) = still
    step_runs (step.Fork k) = still
    step_runs (step.Exec k i) = still
    step_runs (step.Sbrk k d) = still
    step_runs (step.Mmap k n a b c) = still
    step_runs (step.Munmap k a n) = still
    step_runs (step.CopyIn k a n) = still
    step_runs (step.CopyOut k a bs) = still
    step_runs (step.Exit k n) = still

    pub made_runs : (s : Step) (c : Bool) → Runs (if c then fenced_by s policy x late else late) (if c then buffer_after z policy tables kernel s x else x.buffer)
    made_runs s true = step_runs s
    made_runs s false = still
