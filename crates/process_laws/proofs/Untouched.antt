-- Lemma: a process stays as it is through every step of a hart that has another process or none, and through a start.
-- (`Others` derives the headline's claim from it.)
use Rattle.std.proofs.Common.{◌≡◌, ◌≢◌, ℕ, zero, suc, Bool, true, false, ◌+◌, ◌≤◌, refl, ap, ◌∙◌, arith, List, [], ◌∷◌, Option, None, Some}
use Rattle.std.specs.Prelude.{slice_get, slice_set, Result, Ok, Err}
use Rattle.std.proofs.lemmas.Option.{same_Some}
use Rattle.process_model.specs.Bytes.{is_width}
use Rattle.process_model.specs.Process.{Process, Pending}
use Rattle.process_model.specs.Harts.{Hart}
use Rattle.process_model.specs.Images.{LoadSegment}
use Rattle.process_model.specs.Mappings.{Mapped, Unmapped}
use Rattle.process_model.specs.World.{World, StepOutcome, flat, process_in, with_process, lowest_free, unless_refused, on_hart_at, on_hart, always, with_process_of, with_slot_of, with_its_process, kernel_call, can_call}
use Rattle.process_model.specs.Environment.{Progress}
use Rattle.process_model.specs.Service.{Answer, access_step, served_or_ended, served, access_outcome_if}
use Rattle.process_model.specs.Calls.{started_unless, started_as, started, replaced_unless, replaced, forked_unless, forked, resized_to, mapped_to, unmapped_to}
use Rattle.process_model.specs.Stale.{with_stale_slots}
use Rattle.process_model.specs.Steps.{plain_step}
use Rattle.process_model.specs.Steps as steps
use Rattle.process_laws.proofs.Makers.{IsOfAnother}
use Rattle.sv39_entry.specs.declared.access.Access.{Access}
use Rattle.sv39_entry.specs.declared.access.Access.TheVariants as access
use Rattle.sv39_entry.specs.declared.rule.Rule.{Rule}
use Rattle.process_model.specs.declared.phase.Phase.{Phase}
use Rattle.process_model.specs.declared.config.Policy.{Policy}
use Rattle.process_model.specs.declared.config.Policy.TheVariants.{Full, Asid}
use Rattle.process_model.specs.declared.image.BadImage.{BadImage}
use Rattle.process_model.specs.declared.reply.Refusal.{Refusal}
use Rattle.process_model.specs.declared.step.Step.{Step}
use Rattle.process_model.specs.declared.step.Step.TheVariants as step

pub get_set_other : {A : Type 0} (xs : List A) (i j : ℕ) (x : A) → i ≢ j → slice_get (slice_set xs i x) j ≡ slice_get xs j
get_set_other [] i j x ne = refl
get_set_other (y ∷ ys) zero zero x ne = absurd (ne refl)
get_set_other (y ∷ ys) zero (suc j) x ne = refl
get_set_other (y ∷ ys) (suc i) zero x ne = refl
get_set_other (y ∷ ys) (suc i) (suc j) x ne = get_set_other ys i j x (λ e. ne (ap suc e))

lowest_from : (slots : List (Option Process)) (n s : ℕ) → lowest_free n slots ≡ Some s → n ≤ s
lowest_from [] n s e = absurd (cc)
lowest_from (None ∷ slots) n s e = let same : n ≡ s = same_Some n s e in omega arith
lowest_from (Some p ∷ slots) n s e = let later : n + 1 ≤ s = lowest_from slots (n + 1) s e in omega arith

-- the lowest free slot is empty
pub free_is_empty : (slots : List (Option Process)) (n s j : ℕ) → lowest_free n slots ≡ Some s → s ≡ n + j → flat (slice_get slots j) ≡ None
free_is_empty [] n s j e is = refl
free_is_empty (None ∷ slots) n s zero e is = refl
free_is_empty (None ∷ slots) n s (suc j) e is = let same : n ≡ s = same_Some n s e in absurd (omega arith)
free_is_empty (Some p ∷ slots) n s zero e is = let later : n + 1 ≤ s = lowest_from slots (n + 1) s e in absurd (omega arith)
free_is_empty (Some p ∷ slots) n s (suc j) e is = free_is_empty slots (n + 1) s j e (omega arith)

-- slot t has the process q
record Leaves (t : ℕ) (q : Process) (w : World) : Type 0 where
  kept : process_in w t ≡ Some q

data LeavesIfOk (t : ℕ) (q : Process) : Result World Rule → Type 0 where
  refused : {r : Rule} → LeavesIfOk t q (Err r)
  went : {w : World} → Leaves t q w → LeavesIfOk t q (Ok w)

module _ (t : ℕ) (q : Process) where
  lowest_apart : (w : World) (s : ℕ) → Leaves t q w → lowest_free 0 w.slots ≡ Some s → s ≢ t
  lowest_apart w s k e is = let empty : process_in w t ≡ None = free_is_empty w.slots 0 s t e (omega arith) in cc

  -- a slot that is set is another one
  set_leaves : (w v : World) (s : ℕ) (o : Option Process) → s ≢ t → v.slots ≡ slice_set w.slots s o → Leaves t q w → Leaves t q v
  set_leaves w v s o ne e k = record { kept = ap (λ slots. flat (slice_get slots t)) e ∙ ap flat (get_set_other w.slots s t o ne) ∙ k.kept }

  same_slots : (w v : World) → v.slots ≡ w.slots → Leaves t q w → Leaves t q v
  same_slots w v e k = record { kept = ap (λ slots. flat (slice_get slots t)) e ∙ k.kept }

  module _ (w : World) (k : Leaves t q w) where
    -- whatever becomes of the process of another slot
    told_leaves : (h : ℕ) (hart : Hart) (s : ℕ) (x : Answer) (b : Bool) → s ≢ t → Leaves t q (access_outcome_if w h hart s x b).world
    told_leaves h hart s x true ne = set_leaves w _ s _ ne refl k
    told_leaves h hart s x false ne = set_leaves w _ s _ ne refl k

    served_or_leaves : (h : ℕ) (hart : Hart) (s : ℕ) (p : Process) (a : Pending) (r : Result Progress Rule) → s ≢ t → Leaves t q (served_or_ended w h hart s p a r).world
    served_or_leaves h hart s p a (Err r) ne = set_leaves w _ s None ne refl k
    served_or_leaves h hart s p a (Ok g) ne = set_leaves w _ s _ ne refl k

    served_leaves : (h : ℕ) (hart : Hart) (s : ℕ) (p : Process) (o : Option Pending) → s ≢ t → Leaves t q (served w h hart s p o).world
    served_leaves h hart s p None ne = k
    served_leaves h hart s p (Some a) ne = served_or_leaves h hart s p a _ ne

    refused_leaves : (run : Hart → StepOutcome) (hart : Hart) (o : Option Refusal) → Leaves t q (run hart).world → Leaves t q (unless_refused w run hart o).world
    refused_leaves run hart (Some r) f = k
    refused_leaves run hart None f = f

    hart_leaves : (h : ℕ) (proper : Bool) (possible entry : Hart → Bool) (run : Hart → StepOutcome) (o : Option Hart) → slice_get w.harts h ≡ o → ((hart : Hart) → slice_get w.harts h ≡ Some hart → Leaves t q (run hart).world) → Leaves t q (on_hart_at w proper possible entry run o).world
    hart_leaves h proper possible entry run None e f = k
    hart_leaves h proper possible entry run (Some hart) e f = refused_leaves run hart _ (f hart e)

    on_hart_leaves : (h : ℕ) (proper : Bool) (possible entry : Hart → Bool) (run : Hart → StepOutcome) → ((hart : Hart) → slice_get w.harts h ≡ Some hart → Leaves t q (run hart).world) → Leaves t q (on_hart w h proper possible entry run).world
    unfolding on_hart
    on_hart_leaves h proper possible entry run f = hart_leaves h proper possible entry run _ refl f

    process_leaves : (phase : Phase) (run : ℕ → Process → StepOutcome) (s : ℕ) (o : Option Process) → ((p : Process) → Leaves t q (run s p).world) → Leaves t q (with_process_of w phase run s o).world
    process_leaves phase run s None f = k
    process_leaves phase run s (Some p) f = f p

    slot_leaves : (phase : Phase) (run : ℕ → Process → StepOutcome) (o : Option ℕ) → o ≢ Some t → ((s : ℕ) (p : Process) → s ≢ t → Leaves t q (run s p).world) → Leaves t q (with_slot_of w phase run o).world
    slot_leaves phase run None ne f = k
    slot_leaves phase run (Some s) ne f = process_leaves phase run s _ (λ p. f s p (λ e. ne (ap Some e)))

    -- the process of a hart is another one
    its_leaves : (hart : Hart) (run : ℕ → Process → StepOutcome) → hart.slot ≢ Some t → ((s : ℕ) (p : Process) → s ≢ t → Leaves t q (run s p).world) → Leaves t q (with_its_process w hart run).world
    unfolding with_its_process
    its_leaves hart run ne f = slot_leaves hart.phase run hart.slot ne f

    started_unless_leaves : (s : ℕ) (ls : List LoadSegment) (b : Bool) → s ≢ t → Leaves t q (started_unless w s ls b).world
    started_unless_leaves s ls true ne = k
    started_unless_leaves s ls false ne = set_leaves w _ s _ ne refl k

    started_as_leaves : (s : ℕ) (r : Result (List LoadSegment) BadImage) → s ≢ t → Leaves t q (started_as w s r).world
    started_as_leaves s (Err e) ne = k
    started_as_leaves s (Ok ls) ne = started_unless_leaves s ls _ ne

    started_leaves : (r : Result (List LoadSegment) BadImage) (o : Option ℕ) → lowest_free 0 w.slots ≡ o → Leaves t q (started w r o).world
    started_leaves r None e = k
    started_leaves r (Some s) e = started_as_leaves s r (lowest_apart w s k e)

    executed_unless_leaves : (s : ℕ) (p : Process) (ls : List LoadSegment) (b : Bool) → s ≢ t → Leaves t q (replaced_unless w s p ls b).world
    executed_unless_leaves s p ls true ne = k
    executed_unless_leaves s p ls false ne = set_leaves w _ s _ ne refl k

    executed_leaves : (s : ℕ) (p : Process) (r : Result (List LoadSegment) BadImage) → s ≢ t → Leaves t q (replaced w s p r).world
    executed_leaves s p (Err e) ne = k
    executed_leaves s p (Ok ls) ne = executed_unless_leaves s p ls _ ne

    forked_unless_leaves : (s : ℕ) (p : Process) (c : ℕ) (b : Bool) → s ≢ t → c ≢ t → Leaves t q (forked_unless w s p c b).world
    forked_unless_leaves s p c true ne apart = k
    forked_unless_leaves s p c false ne apart = set_leaves _ _ c _ apart refl (set_leaves w (with_process w s _) s _ ne refl k)

    forked_leaves : (s : ℕ) (p : Process) (o : Option ℕ) → lowest_free 0 w.slots ≡ o → s ≢ t → Leaves t q (forked w s p o).world
    forked_leaves s p None e ne = k
    forked_leaves s p (Some c) e ne = forked_unless_leaves s p c _ ne (lowest_apart w c k e)

    resized_leaves : (s : ℕ) (p : Process) (r : Result Process Refusal) → s ≢ t → Leaves t q (resized_to w s p r).world
    resized_leaves s p (Err r) ne = k
    resized_leaves s p (Ok after) ne = set_leaves w _ s _ ne refl k

    mapped_leaves : (s : ℕ) (r : Result Mapped Refusal) → s ≢ t → Leaves t q (mapped_to w s r).world
    mapped_leaves s (Err r) ne = k
    mapped_leaves s (Ok m) ne = set_leaves w _ s _ ne refl k

    unmapped_leaves : (s : ℕ) (r : Result Unmapped Refusal) → s ≢ t → Leaves t q (unmapped_to w s r).world
    unmapped_leaves s (Err r) ne = k
    unmapped_leaves s (Ok u) ne = set_leaves w _ s _ ne refl k

  kernel_leaves : (w : World) → Leaves t q w → (h : ℕ) (proper : Bool) (run : Hart → ℕ → Process → StepOutcome) → ((hart : Hart) → slice_get w.harts h ≡ Some hart → hart.slot ≢ Some t)
      → ((hart : Hart) (s : ℕ) (p : Process) → s ≢ t → Leaves t q (run hart s p).world) → Leaves t q (kernel_call w h proper run).world
  kernel_leaves w k h proper run apart f = on_hart_leaves w k h proper (can_call w) always _ (λ hart is. its_leaves w k hart (run hart) (apart hart is) (f hart))

  access_leaves : (w : World) → Leaves t q w → (h : ℕ) (access : Access) (address width value : ℕ) (via : Option ℕ) → ((hart : Hart) → slice_get w.harts h ≡ Some hart → hart.slot ≢ Some t)
      → Leaves t q (access_step w h access address width value via).world
  access_leaves w k h access address width value via apart = on_hart_leaves w k h (is_width width) _ _ _
      (λ hart is. its_leaves w k hart _ (apart hart is) (λ s p ne. told_leaves w k h hart s _ _ ne))

  plain_leaves : (w : World) → Leaves t q w → (s : Step) → IsOfAnother w s t → Leaves t q (plain_step w s).world
  plain_leaves w k (step.Start image) apart = started_leaves w k _ _ refl
  plain_leaves w k (step.Switch h slot) apart = on_hart_leaves w k h true _ always _ (λ hart is. same_slots w _ refl k)
  plain_leaves w k (step.Trap h) apart = on_hart_leaves w k h true _ always _ (λ hart is. its_leaves w k hart _ (apart h hart refl is) (λ s p ne. set_leaves w _ s _ ne refl k))
  plain_leaves w k (step.Next h) apart = on_hart_leaves w k h true _ always _ (λ hart is. same_slots w _ refl k)
  plain_leaves w k (step.Fill h address) apart = on_hart_leaves w k h true always always _ (λ hart is. same_slots w _ refl k)
  plain_leaves w k (step.Evict h n) apart = on_hart_leaves w k h true always _ _ (λ hart is. same_slots w _ refl k)
  plain_leaves w k (step.Fetch h address via) apart = access_leaves w k h access.Fetch address 4 0 via (λ hart is. apart h hart refl is)
  plain_leaves w k (step.Load h address width via) apart = access_leaves w k h access.Load address width 0 via (λ hart is. apart h hart refl is)
  plain_leaves w k (step.Store h address width value via) apart = access_leaves w k h access.Store address width value via (λ hart is. apart h hart refl is)
  plain_leaves w k (step.TrampolineFetch h offset via) apart = on_hart_leaves w k h _ _ _ _ (λ hart is. k)
  plain_leaves w k (step.Serve h) apart = on_hart_leaves w k h true _ always _ (λ hart is. its_leaves w k hart _ (apart h hart refl is) (λ s p ne. served_leaves w k h hart s p p.pending ne))
  plain_leaves w k (step.Fork h) apart = kernel_leaves w k h true _ (λ hart is. apart h hart refl is) (λ hart s p ne. forked_leaves w k s p _ refl ne)
  plain_leaves w k (step.Exec h image) apart = kernel_leaves w k h true _ (λ hart is. apart h hart refl is) (λ hart s p ne. executed_leaves w k s p _ ne)
  plain_leaves w k (step.Sbrk h delta) apart = kernel_leaves w k h true _ (λ hart is. apart h hart refl is) (λ hart s p ne. resized_leaves w k s p _ ne)
  plain_leaves w k (step.Mmap h len protection flags n) apart = kernel_leaves w k h true _ (λ hart is. apart h hart refl is) (λ hart s p ne. mapped_leaves w k s _ ne)
  plain_leaves w k (step.Munmap h address len) apart = kernel_leaves w k h true _ (λ hart is. apart h hart refl is) (λ hart s p ne. unmapped_leaves w k s _ ne)
  plain_leaves w k (step.CopyIn h address n) apart = kernel_leaves w k h _ _ (λ hart is. apart h hart refl is)
      (λ hart s p ne. set_leaves w _ s _ ne refl k)
  plain_leaves w k (step.CopyOut h address bytes) apart = kernel_leaves w k h _ _ (λ hart is. apart h hart refl is)
      (λ hart s p ne. set_leaves w _ s _ ne refl k)
  plain_leaves w k (step.Exit h status) apart = kernel_leaves w k h true _ (λ hart is. apart h hart refl is) (λ hart s p ne. set_leaves w _ s None ne refl k)

  marks_leave : (policy : Policy) (w : World) (o : StepOutcome) → Leaves t q o.world → Leaves t q (with_stale_slots policy w o).world
  marks_leave Full w o l = l
  marks_leave Asid w o l = same_slots o.world _ refl l

-- a step leaves a process as it is that is not its hart's
pub other_kept : (w : World) (s : Step) (t : ℕ) (q : Process) → IsOfAnother w s t → process_in w t ≡ Some q → process_in (steps.step w s).world t ≡ Some q
unfolding steps.step
other_kept w s t q apart k = (marks_leave t q w.policy w (plain_step w s) (plain_leaves t q w (record { kept = k }) s apart)).kept
