-- Lemmas on every step of the model, whatever it replies: how phase, slot and stale marks of each hart may change
-- (`harts_go`), which steps change no leaf (`quiet_slots`), and that leaves change only for a process of a hart in phase
-- `Kernel` (`changed_in_kernel`).
use Rattle.std.proofs.Common.{◌≡◌, ◌⊎◌, ℕ, zero, suc, Bool, true, false, not, ◌+◌, ◌≤◌, inl, inr, refl, ap, sym, subst, ◌∙◌, arith, List, [], ◌∷◌, Option, None, Some, Result, Ok, Err, ℤ}
use Rattle.std.specs.Prelude.{is_some, slice_get, slice_set, unwrap_or, ◌&&◌}
use Rattle.std.proofs.lemmas.Bool.{and_parts, cases_eq, true≢false}
use Rattle.std.proofs.lemmas.Option.{same_Some}
use Rattle.process_model.specs.Environment.{Progress}
use Rattle.process_model.specs.Bytes.{first_true, is_width}
use Rattle.process_model.specs.Calls.{forked, forked_unless, mapped_to, replaced, replaced_unless, resized_to, started, started_unless, unmapped_to}
use Rattle.process_model.specs.Harts.{Hart, cleaned_at, cleaned_for, cleaned_if, emptied_if, fenced, is_kernel, is_user, may_switch, next_phase, phase_for}
use Rattle.process_model.specs.Images.{LoadSegment, image_loads}
use Rattle.process_model.specs.Mappings.{Mapped, Unmapped, mapped}
use Rattle.hart_machine.proofs.MarkedCalls.{access_keeps, mmap_keeps}
use Rattle.hart_machine.proofs.ChangedSlots.{changed, same_settled}
use Rattle.process_laws.specs.Words.{changed_at}
use Rattle.process_model.specs.Process.{Pending, Process, without_pending}
use Rattle.process_model.specs.Residence.{child_of, marked}
use Rattle.process_model.specs.Service.{Answer, AccessRequest, access_step, served, served_or_ended, access_outcome_if, user_access}
use Rattle.process_model.specs.Stale.{is_changed}
use Rattle.process_model.specs.Steps.{filled, plain_step}
use Rattle.process_model.specs.World.{StepOutcome, World, always, awaits_service, can_call, can_go_on, can_run, can_serve, flat, free_slot, kernel_call, lowest_free, on_hart, on_hart_at, refuses, unless_refused, with_its_process, with_process_of, with_slot_of}
use Rattle.process_model.specs.declared.config.Policy.{Policy}
use Rattle.process_model.specs.declared.config.Policy.TheVariants.{Full, Asid}
use Rattle.process_model.specs.declared.image.BadImage.{BadImage}
use Rattle.process_model.specs.declared.phase.Phase.{Phase}
use Rattle.process_model.specs.declared.phase.Phase.TheVariants.{Idle, User, Enter0, Enter1, Enter2, Kernel, Leave1, Leave2}
use Rattle.process_model.specs.declared.reply.Refusal.{Refusal}
use Rattle.process_model.specs.declared.reply.Refusal.TheVariants.{BadArgument, Impossible, NoEntry}
use Rattle.process_model.specs.declared.reply.Reply.{Reply}
use Rattle.process_model.specs.declared.reply.ScalarReply.TheVariants.{Done, Ended, Exited, InFrame, Ready}
use Rattle.process_model.specs.declared.reply.Reply.TheVariants.{Scalar}
use Rattle.process_model.specs.Steps.{is_refused}
use Rattle.process_model.specs.declared.step.Step.{Step}
use Rattle.process_model.specs.declared.step.Step.TheVariants as step
use Rattle.sv39_entry.specs.declared.access.Access.{Access}
use Rattle.sv39_entry.specs.declared.access.Access.TheVariants as access
use Rattle.sv39_entry.specs.declared.rule.Rule.{Rule}

-- ---- a step on a hart is refused, or it runs

unless_ran : (w : World) (run : Hart → StepOutcome) (hart : Hart) (P : StepOutcome → Type 0) (a b c : Bool) (x y z : Refusal) → ((r : Refusal) → P (refuses w r)) → (b ≡ true → P (run hart))
    → P (unless_refused w run hart (first_true ((not a, x) ∷ (not b, y) ∷ (not c, z) ∷ [])))
unless_ran w run hart P true true true x y z refused ran = ran refl
unless_ran w run hart P true true false x y z refused ran = refused z
unless_ran w run hart P true false c x y z refused ran = refused y
unless_ran w run hart P false b c x y z refused ran = refused x

-- what holds of every refusal, and of what runs where the hart is there and the step is possible, holds of the step
pub on_hart_is : (w : World) (h : ℕ) (proper : Bool) (possible entry : Hart → Bool) (run : Hart → StepOutcome) (P : StepOutcome → Type 0) → ((r : Refusal) → P (refuses w r))
    → ((hart : Hart) → slice_get w.harts h ≡ Some hart → possible hart ≡ true → P (run hart)) → P (on_hart w h proper possible entry run)
unfolding on_hart
on_hart_is w h proper possible entry run P refused ran = by (slice_get w.harts h) refl
  where
    by : (o : Option Hart) → slice_get w.harts h ≡ o → P (on_hart_at w proper possible entry run o)
    by None there = refused BadArgument
    by (Some hart) there = unless_ran w run hart P proper (possible hart) (entry hart) BadArgument (Impossible hart.phase) NoEntry refused (ran hart there)

-- the same of what is done for the process of a hart
pub with_its_process_is : (w : World) (hart : Hart) (run : ℕ → Process → StepOutcome) (P : StepOutcome → Type 0) → ((r : Refusal) → P (refuses w r))
    → ((s : ℕ) (p : Process) → hart.slot ≡ Some s → slice_get w.slots s ≡ Some (Some p) → P (run s p)) → P (with_its_process w hart run)
unfolding with_its_process
with_its_process_is w hart run P refused ran = by hart.slot refl
  where
    lives : (s : ℕ) → hart.slot ≡ Some s → (o : Option (Option Process)) → slice_get w.slots s ≡ o → P (with_process_of w hart.phase run s (flat o))
    lives s on None there = refused (Impossible hart.phase)
    lives s on (Some None) there = refused (Impossible hart.phase)
    lives s on (Some (Some p)) there = ran s p on there

    by : (o : Option ℕ) → hart.slot ≡ o → P (with_slot_of w hart.phase run o)
    by None on = refused (Impossible hart.phase)
    by (Some s) on = lives s on (slice_get w.slots s) refl

kernel_phase : (phase : Phase) → is_kernel phase ≡ true → phase ≡ Kernel
kernel_phase Kernel is = refl
kernel_phase Idle is = absurd cc
kernel_phase User is = absurd cc
kernel_phase Enter0 is = absurd cc
kernel_phase Enter1 is = absurd cc
kernel_phase Enter2 is = absurd cc
kernel_phase Leave1 is = absurd cc
kernel_phase Leave2 is = absurd cc

user_phase : (phase : Phase) → is_user phase ≡ true → phase ≡ User
user_phase User is = refl
user_phase Idle is = absurd cc
user_phase Kernel is = absurd cc
user_phase Enter0 is = absurd cc
user_phase Enter1 is = absurd cc
user_phase Enter2 is = absurd cc
user_phase Leave1 is = absurd cc
user_phase Leave2 is = absurd cc

-- and of a call of the kernel
pub kernel_call_is : (w : World) (h : ℕ) (proper : Bool) (run : Hart → ℕ → Process → StepOutcome) (P : StepOutcome → Type 0) → ((r : Refusal) → P (refuses w r))
    → ((hart : Hart) (s : ℕ) (p : Process) → slice_get w.harts h ≡ Some hart → hart.phase ≡ Kernel → hart.slot ≡ Some s → slice_get w.slots s ≡ Some (Some p) → P (run hart s p))
    → P (kernel_call w h proper run)
kernel_call_is w h proper run P refused ran = on_hart_is w h proper (can_call w) always (λ hart. with_its_process w hart (run hart)) P refused
    (λ hart there can. with_its_process_is w hart (run hart) P refused
    (λ s p on lives. ran hart s p there (kernel_phase hart.phase (and_parts (is_kernel hart.phase) (not (awaits_service w hart)) can).0) on lives))

-- ---- places of lists

set_here : {A : Type 0} (xs : List A) (i : ℕ) (x y : A) → slice_get xs i ≡ Some x → slice_get (slice_set xs i y) i ≡ Some y
set_here [] i x y e = absurd cc
set_here (z ∷ zs) zero x y e = refl
set_here (z ∷ zs) (suc i) x y e = set_here zs i x y e

set_other : {A : Type 0} (xs : List A) (i j : ℕ) (y : A) → (j ≡ i → ⊥) → slice_get (slice_set xs i y) j ≡ slice_get xs j
set_other [] i j y apart = refl
set_other (z ∷ zs) zero zero y apart = absurd (apart refl)
set_other (z ∷ zs) zero (suc j) y apart = refl
set_other (z ∷ zs) (suc i) zero y apart = refl
set_other (z ∷ zs) (suc i) (suc j) y apart = set_other zs i j y (λ e. apart (ap suc e))

-- ---- how a hart may go on in a step, apart from its keys and marks

pub data MovesTo (x : Hart) : Hart → Type 0 where
  stays : {y : Hart} → y.phase ≡ x.phase → y.slot ≡ x.slot → MovesTo x y
  -- a switch, or the end of a process
  switches : {y : Hart} → may_switch x.phase ≡ true → may_switch y.phase ≡ true → MovesTo x y
  enters : {y : Hart} → x.phase ≡ User → y.phase ≡ Enter0 → y.slot ≡ x.slot → MovesTo x y

phase_for_switches : (slot : Option ℕ) → may_switch (phase_for slot) ≡ true
phase_for_switches None = refl
phase_for_switches (Some s) = refl

kernel_switches : (phase : Phase) → phase ≡ Kernel → may_switch phase ≡ true
kernel_switches phase is = ap may_switch is

there_is : (o : Option Phase) → is_some o ≡ true → (after : Phase) × (o ≡ Some after)
there_is None is = absurd cc
there_is (Some after) is = (after, refl)

-- fences change no slot

emptied_slot : (hart : Hart) (b : Bool) → (emptied_if hart b).slot ≡ hart.slot
emptied_slot hart true = refl
emptied_slot hart false = refl

cleaned_slot : (hart : Hart) (s : ℕ) (b : Bool) → (cleaned_if hart s b).slot ≡ hart.slot
cleaned_slot hart s true = refl
cleaned_slot hart s false = refl

cleaned_for_slot : (hart : Hart) (o : Option ℕ) → (cleaned_for hart o).slot ≡ hart.slot
cleaned_for_slot hart None = refl
cleaned_for_slot hart (Some s) = cleaned_slot hart s (hart.stale s)

cleaned_at_slot : (hart : Hart) (phase : Phase) → (cleaned_at hart phase).slot ≡ hart.slot
cleaned_at_slot hart Leave2 = cleaned_for_slot hart hart.slot
cleaned_at_slot hart Idle = refl
cleaned_at_slot hart User = refl
cleaned_at_slot hart Enter0 = refl
cleaned_at_slot hart Enter1 = refl
cleaned_at_slot hart Enter2 = refl
cleaned_at_slot hart Kernel = refl
cleaned_at_slot hart Leave1 = refl

pub fenced_slot : (policy : Policy) (hart : Hart) → (fenced policy hart).slot ≡ hart.slot
fenced_slot Full hart = emptied_slot hart _
fenced_slot Asid hart = cleaned_at_slot hart hart.phase

module _ (w : World) where
  -- calls leave the harts

  started_harts : (s : ℕ) (ls : List LoadSegment) (b : Bool) → ((started_unless w s ls b).world).harts ≡ w.harts
  started_harts s ls true = refl
  started_harts s ls false = refl

  start_harts : (r : Result (List LoadSegment) BadImage) (o : Option ℕ) → ((started w r o).world).harts ≡ w.harts
  start_harts r None = refl
  start_harts (Err e) (Some s) = refl
  start_harts (Ok ls) (Some s) = started_harts s ls _

  replaced_harts : (s : ℕ) (p : Process) (ls : List LoadSegment) (b : Bool) → ((replaced_unless w s p ls b).world).harts ≡ w.harts
  replaced_harts s p ls true = refl
  replaced_harts s p ls false = refl

  exec_harts : (s : ℕ) (p : Process) (r : Result (List LoadSegment) BadImage) → ((replaced w s p r).world).harts ≡ w.harts
  exec_harts s p (Err e) = refl
  exec_harts s p (Ok ls) = replaced_harts s p ls _

  forked_harts : (s : ℕ) (p : Process) (child : ℕ) (b : Bool) → ((forked_unless w s p child b).world).harts ≡ w.harts
  forked_harts s p child true = refl
  forked_harts s p child false = refl

  fork_harts : (s : ℕ) (p : Process) (o : Option ℕ) → ((forked w s p o).world).harts ≡ w.harts
  fork_harts s p None = refl
  fork_harts s p (Some child) = forked_harts s p child _

  resized_harts : (s : ℕ) (p : Process) (r : Result Process Refusal) → ((resized_to w s p r).world).harts ≡ w.harts
  resized_harts s p (Err r) = refl
  resized_harts s p (Ok q) = refl

  mapped_harts : (s : ℕ) (r : Result Mapped Refusal) → ((mapped_to w s r).world).harts ≡ w.harts
  mapped_harts s (Err r) = refl
  mapped_harts s (Ok m) = refl

  unmapped_harts : (s : ℕ) (r : Result Unmapped Refusal) → ((unmapped_to w s r).world).harts ≡ w.harts
  unmapped_harts s (Err r) = refl
  unmapped_harts s (Ok u) = refl

  module _ (made : Step) where
    -- by the next instruction of the trampoline
    pub record Advances (r : Reply) (k : ℕ) (x y : Hart) : Type 0 where
      pub is_next : made ≡ step.Next k
      pub done : is_refused r ≡ false
      pub after : Phase
      pub next : next_phase x.phase ≡ Some after
      pub phased : y.phase ≡ after
      pub slotted : y.slot ≡ x.slot
      pub stale : y.stale ≡ (fenced w.policy x).stale

    -- or otherwise, with its marks
    abbrev pub Goes : Reply → ℕ → Hart → Hart → Type 0
    Goes r k x y = (MovesTo x y × (y.stale ≡ x.stale)) ⊎ Advances r k x y

    abbrev pub AllGo : Reply → List Hart → Type 0
    AllGo r hs = (k : ℕ) (y : Hart) → slice_get hs k ≡ Some y → (x : Hart) × (slice_get w.harts k ≡ Some x) × Goes r k x y

    abbrev pub HartsGo : StepOutcome → Type 0
    HartsGo o = AllGo o.reply (o.world).harts

    none_go : (r : Reply) → AllGo r w.harts
    none_go r k y at = (y, at, inl (stays refl refl, refl))

    same_harts : (r : Reply) (hs : List Hart) → hs ≡ w.harts → AllGo r hs
    same_harts r hs is = subst (AllGo r) (sym is) (none_go r)

    refused_harts : (r : Refusal) → HartsGo (refuses w r)
    refused_harts r = none_go _

    set_hart : (r : Reply) (h : ℕ) (x z : Hart) → slice_get w.harts h ≡ Some x → Goes r h x z → AllGo r (slice_set w.harts h z)
    set_hart r h x z there goes k y at = elim (cases_eq k h) [
      | inl same ↦
          let put : z ≡ y = same_Some z y (sym (set_here w.harts h x z there) ∙ ap (slice_get (slice_set w.harts h z)) (sym same) ∙ at) in
          (x, ap (slice_get w.harts) same ∙ there, subst (λ (v : Hart). Goes r k x v) put (subst (λ n. Goes r n x z) (sym same) goes))
      | inr apart ↦ (y, sym (set_other w.harts h k z apart) ∙ at, inl (stays refl refl, refl))
    ]

    told_harts : (h : ℕ) (hart : Hart) (t : ℕ) (x : Answer) (b : Bool) → slice_get w.harts h ≡ Some hart → is_user hart.phase ≡ true → HartsGo (access_outcome_if w h hart t x b)
    told_harts h hart t x true there user =
        set_hart x.reply h hart (record hart { phase = Enter0 }) there (inl (enters (user_phase hart.phase user) refl refl, refl))
    told_harts h hart t x false there user = none_go x.reply

    access_harts : (h : ℕ) (access : Access) (address width value : ℕ) (via : Option ℕ) → HartsGo (access_step w h access address width value via)
    access_harts h access address width value via = on_hart_is w h (is_width width) _ _ _ HartsGo refused_harts (λ hart there user. with_its_process_is w hart _ HartsGo refused_harts
        (λ t p on lives. told_harts h hart t (user_access p (record { access = access; address = address; width = width; value = value })) _ there user))

    ended_goes : (r : Reply) (h : ℕ) (hart : Hart) → slice_get w.harts h ≡ Some hart → hart.phase ≡ Kernel → AllGo r (slice_set w.harts h (record hart { phase = Idle; slot = None }))
    ended_goes r h hart there kernel =
        set_hart r h hart (record hart { phase = Idle; slot = None }) there (inl (switches (kernel_switches hart.phase kernel) refl, refl))

    served_harts : (h : ℕ) (hart : Hart) (t : ℕ) (p : Process) (a : Pending) (r : Result Progress Rule) → slice_get w.harts h ≡ Some hart → hart.phase ≡ Kernel → HartsGo (served_or_ended w h hart t p a r)
    served_harts h hart t p a (Err r) there kernel = ended_goes (Scalar (Ended r)) h hart there kernel
    served_harts h hart t p a (Ok g) there kernel = none_go (Scalar Ready)

    serve_harts : (h : ℕ) (hart : Hart) (t : ℕ) (p : Process) (o : Option Pending) → slice_get w.harts h ≡ Some hart → hart.phase ≡ Kernel → HartsGo (served w h hart t p o)
    serve_harts h hart t p None there kernel = refused_harts (Impossible hart.phase)
    serve_harts h hart t p (Some a) there kernel = served_harts h hart t p a _ there kernel

    call_harts : (h : ℕ) (proper : Bool) (run : Hart → ℕ → Process → StepOutcome) → ((hart : Hart) (t : ℕ) (p : Process) → ((run hart t p).world).harts ≡ w.harts) → HartsGo (kernel_call w h proper run)
    call_harts h proper run same = kernel_call_is w h proper run HartsGo refused_harts (λ hart t p there kernel on lives. same_harts (run hart t p).reply ((run hart t p).world).harts (same hart t p))

  -- each hart after a step was there before it, and went on in one of these ways
  pub harts_go : (s : Step) → HartsGo s (plain_step w s)
  harts_go (step.Start image) = same_harts (step.Start image) (started w (image_loads w.scheme image) (free_slot w)).reply _ (start_harts (image_loads w.scheme image) (free_slot w))
  harts_go (step.Switch h slot) = on_hart_is w h true _ always _ (HartsGo (step.Switch h slot)) (refused_harts (step.Switch h slot))
      (λ hart there can. set_hart (step.Switch h slot) (Scalar Done) h hart (record hart { phase = phase_for slot; slot = slot }) there
      (inl (switches (and_parts (may_switch hart.phase) (can_run w slot) can).0 (phase_for_switches slot), refl)))
  harts_go (step.Trap h) = on_hart_is w h true _ always _ (HartsGo (step.Trap h)) (refused_harts (step.Trap h))
      (λ hart there user. with_its_process_is w hart _ (HartsGo (step.Trap h)) (refused_harts (step.Trap h))
      (λ t p on lives. set_hart (step.Trap h) (Scalar Done) h hart (record hart { phase = Enter0 }) there (inl (enters (user_phase hart.phase user) refl refl, refl))))
  harts_go (step.Next h) = on_hart_is w h true (can_go_on w) always _ (HartsGo (step.Next h)) (refused_harts (step.Next h))
      (λ hart there can.
      let next = there_is (next_phase hart.phase) (and_parts (is_some (next_phase hart.phase)) (not (is_kernel hart.phase && awaits_service w hart)) can).0 in
      set_hart (step.Next h) (Scalar Done) h hart (record (fenced w.policy hart) { phase = unwrap_or (next_phase hart.phase) hart.phase }) there
      (inr (record { is_next = refl; done = refl; after = next.0; next = next.1; phased = ap (λ o. unwrap_or o hart.phase) next.1; slotted = fenced_slot w.policy hart; stale = refl })))
  harts_go (step.Fill h address) = on_hart_is w h true always always _ (HartsGo (step.Fill h address)) (refused_harts (step.Fill h address))
      (λ hart there can. set_hart (step.Fill h address) (filled w h address hart).reply h hart _ there (inl (stays refl refl, refl)))
  harts_go (step.Evict h n) = on_hart_is w h true always _ _ (HartsGo (step.Evict h n)) (refused_harts (step.Evict h n))
      (λ hart there can. set_hart (step.Evict h n) (Scalar Done) h hart _ there (inl (stays refl refl, refl)))
  harts_go (step.Fetch h address via) = access_harts (step.Fetch h address via) h access.Fetch address 4 0 via
  harts_go (step.Load h address width via) = access_harts (step.Load h address width via) h access.Load address width 0 via
  harts_go (step.Store h address width value via) = access_harts (step.Store h address width value via) h access.Store address width value via
  harts_go (step.TrampolineFetch h offset via) = on_hart_is w h _ _ _ _ (HartsGo (step.TrampolineFetch h offset via)) (refused_harts (step.TrampolineFetch h offset via))
      (λ hart there can. none_go (step.TrampolineFetch h offset via) (Scalar (InFrame 0)))
  harts_go (step.Serve h) = on_hart_is w h true (can_serve w) always _ (HartsGo (step.Serve h)) (refused_harts (step.Serve h))
      (λ hart there can. with_its_process_is w hart _ (HartsGo (step.Serve h)) (refused_harts (step.Serve h))
      (λ t p on lives. serve_harts (step.Serve h) h hart t p p.pending there (kernel_phase hart.phase (and_parts (is_kernel hart.phase) (awaits_service w hart) can).0)))
  harts_go (step.Fork h) = call_harts (step.Fork h) h true _ (λ hart t p. fork_harts t p (free_slot w))
  harts_go (step.Exec h image) = call_harts (step.Exec h image) h true _ (λ hart t p. exec_harts t p (image_loads w.scheme image))
  harts_go (step.Sbrk h delta) = call_harts (step.Sbrk h delta) h true _ (λ hart t p. resized_harts t p _)
  harts_go (step.Mmap h len protection flags n) = call_harts (step.Mmap h len protection flags n) h true _ (λ hart t p. mapped_harts t _)
  harts_go (step.Munmap h address len) = call_harts (step.Munmap h address len) h true _ (λ hart t p. unmapped_harts t _)
  harts_go (step.CopyIn h address n) = call_harts (step.CopyIn h address n) h _ _ (λ hart t p. refl)
  harts_go (step.CopyOut h address bytes) = call_harts (step.CopyOut h address bytes) h _ _ (λ hart t p. refl)
  harts_go (step.Exit h status) = kernel_call_is w h true _ (HartsGo (step.Exit h status)) (refused_harts (step.Exit h status))
      (λ hart t p there kernel on lives. ended_goes (step.Exit h status) (Scalar (Exited status)) h hart there kernel)

-- a slot that stays as it is does not change
pub same_at : (o : Option (Option Process)) → changed_at o o ≡ false
same_at None = refl
same_at (Some None) = refl
same_at (Some (Some p)) = same_settled p p refl

-- no slot changes

abbrev AllStay : World → List (Option Process) → Type 0
AllStay w slots = (n : ℕ) → changed_at (slice_get w.slots n) (slice_get slots n) ≡ false

abbrev pub IsQuiet : World → StepOutcome → Type 0
IsQuiet w o = (n : ℕ) → changed_at (slice_get w.slots n) (slice_get (o.world).slots n) ≡ false

module _ (w : World) where
  slots_stay : AllStay w w.slots
  slots_stay n = same_at (slice_get w.slots n)

  -- a refusal is quiet
  pub refused_quiet : (r : Refusal) → IsQuiet w (refuses w r)
  refused_quiet r = slots_stay

  -- a process with the same leaves takes the place of one
  one_stays : (t : ℕ) (p q : Process) → slice_get w.slots t ≡ Some (Some p) → changed p q ≡ false → AllStay w (slice_set w.slots t (Some q))
  one_stays t p q lives keeps n = elim (cases_eq n t) [
    | inl same ↦
        let before : slice_get w.slots n ≡ Some (Some p) = ap (slice_get w.slots) same ∙ lives in
        let after : slice_get (slice_set w.slots t (Some q)) n ≡ Some (Some q) = ap (slice_get (slice_set w.slots t (Some q))) same ∙ set_here w.slots t (Some p) (Some q) lives in
        ap (λ x. changed_at x (slice_get (slice_set w.slots t (Some q)) n)) before ∙ ap (changed_at (Some (Some p))) after ∙ keeps
    | inr apart ↦
        ap (changed_at (slice_get w.slots n)) (set_other w.slots t n (Some q) apart) ∙ same_at (slice_get w.slots n)
  ]

  told_quiet : (h : ℕ) (hart : Hart) (t : ℕ) (p : Process) (x : Answer) (b : Bool) → slice_get w.slots t ≡ Some (Some p) → changed p x.process ≡ false → IsQuiet w (access_outcome_if w h hart t x b)
  told_quiet h hart t p x true lives keeps = one_stays t p x.process lives keeps
  told_quiet h hart t p x false lives keeps = one_stays t p x.process lives keeps

  access_quiet : (h : ℕ) (access : Access) (address width value : ℕ) (via : Option ℕ) → IsQuiet w (access_step w h access address width value via)
  access_quiet h access address width value via = on_hart_is w h (is_width width) _ _ _ (IsQuiet w) refused_quiet (λ hart there user. with_its_process_is w hart _ (IsQuiet w) refused_quiet
      (λ t p on lives.
      let a : AccessRequest = record { access = access; address = address; width = width; value = value } in
      told_quiet h hart t p (user_access p a) _ lives (access_keeps p a)))

  mapped_quiet : (t : ℕ) (p : Process) (len protection flags n : ℕ) → slice_get w.slots t ≡ Some (Some p) → IsQuiet w (mapped_to w t (mapped w.files p len protection flags n))
  mapped_quiet t p len protection flags n lives = by (mapped w.files p len protection flags n) refl
    where
      by : (r : Result Mapped Refusal) → mapped w.files p len protection flags n ≡ r → IsQuiet w (mapped_to w t r)
      by (Err e) is = refused_quiet e
      by (Ok m) is = one_stays t p (without_pending m.process) lives (mmap_keeps w.files p len protection flags n m is)

  -- where a process ends, no leaf of another is another
  one_goes : (t : ℕ) (p : Process) → slice_get w.slots t ≡ Some (Some p) → AllStay w (slice_set w.slots t None)
  one_goes t p lives n = elim (cases_eq n t) [
    | inl same ↦
        let before : slice_get w.slots n ≡ Some (Some p) = ap (slice_get w.slots) same ∙ lives in
        let after : slice_get (slice_set w.slots t None) n ≡ Some None = ap (slice_get (slice_set w.slots t None)) same ∙ set_here w.slots t (Some p) None lives in
        ap (λ x. changed_at x (slice_get (slice_set w.slots t None) n)) before ∙ ap (changed_at (Some (Some p))) after
    | inr apart ↦ ap (changed_at (slice_get w.slots n)) (set_other w.slots t n None apart) ∙ same_at (slice_get w.slots n)
  ]

  pub exit_quiet : (h : ℕ) (status : ℤ) → IsQuiet w (plain_step w (step.Exit h status))
  exit_quiet h status = kernel_call_is w h true _ (IsQuiet w) refused_quiet (λ hart t p there kernel on lives. one_goes t p lives)

-- the steps that change no leaf, whatever they answer
abbrev pub is_quiet : Step → Bool
is_quiet (step.Switch h slot) = true
is_quiet (step.Trap h) = true
is_quiet (step.Next h) = true
is_quiet (step.Fill h address) = true
is_quiet (step.Evict h n) = true
is_quiet (step.Fetch h address via) = true
is_quiet (step.Load h address width via) = true
is_quiet (step.Store h address width value via) = true
is_quiet (step.TrampolineFetch h offset via) = true
is_quiet (step.Mmap h len protection flags n) = true
is_quiet (step.Start image) = false
is_quiet (step.Serve h) = false
is_quiet (step.Fork h) = false
is_quiet (step.Exec h image) = false
is_quiet (step.Sbrk h delta) = false
is_quiet (step.Munmap h address len) = false
is_quiet (step.CopyIn h address n) = false
is_quiet (step.CopyOut h address bytes) = false
is_quiet (step.Exit h status) = false

module _ (w : World) where
  pub quiet_slots : (s : Step) → is_quiet s ≡ true → (n : ℕ) → changed_at (slice_get w.slots n) (slice_get ((plain_step w s).world).slots n) ≡ false
  quiet_slots (step.Switch h slot) is = on_hart_is w h true _ always _ (IsQuiet w) (refused_quiet w) (λ hart there can. slots_stay w)
  quiet_slots (step.Trap h) is = on_hart_is w h true _ always _ (IsQuiet w) (refused_quiet w) (λ hart there can. with_its_process_is w hart _ (IsQuiet w) (refused_quiet w)
      (λ t p on lives. one_stays w t p (without_pending p) lives (same_settled p (without_pending p) refl)))
  quiet_slots (step.Next h) is = on_hart_is w h true (can_go_on w) always _ (IsQuiet w) (refused_quiet w) (λ hart there can. slots_stay w)
  quiet_slots (step.Fill h address) is = on_hart_is w h true always always _ (IsQuiet w) (refused_quiet w) (λ hart there can. slots_stay w)
  quiet_slots (step.Evict h n) is = on_hart_is w h true always _ _ (IsQuiet w) (refused_quiet w) (λ hart there can. slots_stay w)
  quiet_slots (step.Fetch h address via) is = access_quiet w h access.Fetch address 4 0 via
  quiet_slots (step.Load h address width via) is = access_quiet w h access.Load address width 0 via
  quiet_slots (step.Store h address width value via) is = access_quiet w h access.Store address width value via
  quiet_slots (step.TrampolineFetch h offset via) is = on_hart_is w h _ _ _ _ (IsQuiet w) (refused_quiet w) (λ hart there can. slots_stay w)
  quiet_slots (step.Mmap h len protection flags n) is = kernel_call_is w h true _ (IsQuiet w) (refused_quiet w) (λ hart t p there kernel on lives. mapped_quiet w t p len protection flags n lives)
  quiet_slots (step.Start image) is = absurd cc
  quiet_slots (step.Serve h) is = absurd cc
  quiet_slots (step.Fork h) is = absurd cc
  quiet_slots (step.Exec h image) is = absurd cc
  quiet_slots (step.Sbrk h delta) is = absurd cc
  quiet_slots (step.Munmap h address len) is = absurd cc
  quiet_slots (step.CopyIn h address n) is = absurd cc
  quiet_slots (step.CopyOut h address bytes) is = absurd cc
  quiet_slots (step.Exit h status) is = absurd cc

-- ---- leaves change in the kernel alone

-- the lowest free slot is empty

lowest_from : (slots : List (Option Process)) (n s : ℕ) → lowest_free n slots ≡ Some s → n ≤ s
lowest_from [] n s e = absurd cc
lowest_from (None ∷ slots) n s e = let same : n ≡ s = same_Some n s e in omega arith
lowest_from (Some p ∷ slots) n s e = let later : n + 1 ≤ s = lowest_from slots (n + 1) s e in omega arith

free_is_empty : (slots : List (Option Process)) (n s j : ℕ) → lowest_free n slots ≡ Some s → s ≡ n + j → flat (slice_get slots j) ≡ None
free_is_empty [] n s j e is = refl
free_is_empty (None ∷ slots) n s zero e is = refl
free_is_empty (None ∷ slots) n s (suc j) e is = let same : n ≡ s = same_Some n s e in absurd (omega arith)
free_is_empty (Some p ∷ slots) n s zero e is = let later : n + 1 ≤ s = lowest_from slots (n + 1) s e in absurd (omega arith)
free_is_empty (Some p ∷ slots) n s (suc j) e is = free_is_empty slots (n + 1) s j e (omega arith)

pub free_slot_empty : (w : World) (s : ℕ) (p : Process) → free_slot w ≡ Some s → slice_get w.slots s ≡ Some (Some p) → ⊥
free_slot_empty w s p free lives =
    let both : ◌≡◌ {A = Option Process} None (Some p) = sym (free_is_empty w.slots 0 s s free (omega arith)) ∙ ap flat lives in
    cc

module _ (w : World) where
  -- a process whose leaves change is that of a hart in the kernel
  abbrev InKernel : List (Option Process) → Type 0
  InKernel slots = (n : ℕ) (p q : Process) → slice_get w.slots n ≡ Some (Some p) → slice_get slots n ≡ Some (Some q) → is_changed (Some p) (Some q) ≡ true
      → (h : ℕ) × (x : Hart) × (slice_get w.harts h ≡ Some x) × (x.phase ≡ Kernel) × (x.slot ≡ Some n)

  unchanged : (n : ℕ) (p q : Process) → slice_get w.slots n ≡ Some (Some p) → slice_get w.slots n ≡ Some (Some q) → is_changed (Some p) (Some q) ≡ true → ⊥
  unchanged n p q before after changes =
      let same : p ≡ q = same_Some p q (same_Some (Some p) (Some q) (sym before ∙ after)) in
      true≢false (sym changes ∙ same_settled p q (ap (λ (r : Process). r.settled) (sym same)))

  none_in : InKernel w.slots
  none_in n p q before after changes = absurd (unchanged n p q before after changes)

  quiet_in : (s : Step) → is_quiet s ≡ true → InKernel ((plain_step w s).world).slots
  quiet_in s quiet n p q before after changes =
      let no : is_changed (Some p) (Some q) ≡ false = sym (ap (λ x. changed_at x (slice_get ((plain_step w s).world).slots n)) before ∙ ap (changed_at (Some (Some p))) after) ∙ quiet_slots w s quiet n in
      absurd (true≢false (sym changes ∙ no))

  -- its slot is set
  set_in : (h : ℕ) (hart : Hart) (t : ℕ) (x : Option Process) → slice_get w.harts h ≡ Some hart → hart.phase ≡ Kernel → hart.slot ≡ Some t → InKernel (slice_set w.slots t x)
  set_in h hart t x there kernel on n p q before after changes = elim (cases_eq n t) [
    | inl same ↦ (h, hart, there, kernel, on ∙ ap Some (sym same))
    | inr apart ↦ absurd (unchanged n p q before (sym (set_other w.slots t n x apart) ∙ after) changes)
  ]

  -- a slot that was free is set
  fill_in : (slots : List (Option Process)) (c : ℕ) (x : Option Process) → free_slot w ≡ Some c → InKernel slots → InKernel (slice_set slots c x)
  fill_in slots c x free goes n p q before after changes = elim (cases_eq n c) [
    | inl same ↦ absurd (free_slot_empty w c p free (ap (slice_get w.slots) (sym same) ∙ before))
    | inr apart ↦ goes n p q before (sym (set_other slots c n x apart) ∙ after) changes
  ]

  started_in : (s : ℕ) (ls : List LoadSegment) (b : Bool) → free_slot w ≡ Some s → InKernel ((started_unless w s ls b).world).slots
  started_in s ls true free = none_in
  started_in s ls false free = fill_in w.slots s _ free none_in

  start_in : (r : Result (List LoadSegment) BadImage) (o : Option ℕ) → free_slot w ≡ o → InKernel ((started w r o).world).slots
  start_in r None free = none_in
  start_in (Err e) (Some s) free = none_in
  start_in (Ok ls) (Some s) free = started_in s ls _ free

  module _ (h : ℕ) (hart : Hart) (t : ℕ) (there : slice_get w.harts h ≡ Some hart) (kernel : hart.phase ≡ Kernel) (on : hart.slot ≡ Some t) where
    sets : (x : Option Process) → InKernel (slice_set w.slots t x)
    sets x = set_in h hart t x there kernel on

    replaced_in : (p : Process) (ls : List LoadSegment) (b : Bool) → InKernel ((replaced_unless w t p ls b).world).slots
    replaced_in p ls true = none_in
    replaced_in p ls false = sets _

    exec_in : (p : Process) (r : Result (List LoadSegment) BadImage) → InKernel ((replaced w t p r).world).slots
    exec_in p (Err e) = none_in
    exec_in p (Ok ls) = replaced_in p ls _

    forked_in : (p : Process) (c : ℕ) (b : Bool) → free_slot w ≡ Some c → InKernel ((forked_unless w t p c b).world).slots
    forked_in p c true free = none_in
    forked_in p c false free = fill_in (slice_set w.slots t (Some (marked p))) c (Some (child_of p)) free (sets (Some (marked p)))

    fork_in : (p : Process) (o : Option ℕ) → free_slot w ≡ o → InKernel ((forked w t p o).world).slots
    fork_in p None free = none_in
    fork_in p (Some c) free = forked_in p c _ free

    resized_in : (p : Process) (r : Result Process Refusal) → InKernel ((resized_to w t p r).world).slots
    resized_in p (Err r) = none_in
    resized_in p (Ok q) = sets _

    unmapped_in : (r : Result Unmapped Refusal) → InKernel ((unmapped_to w t r).world).slots
    unmapped_in (Err r) = none_in
    unmapped_in (Ok u) = sets _

    served_in : (p : Process) (a : Pending) (r : Result Progress Rule) → InKernel ((served_or_ended w h hart t p a r).world).slots
    served_in p a (Err r) = sets None
    served_in p a (Ok g) = sets _

    serve_in : (p : Process) (o : Option Pending) → InKernel ((served w h hart t p o).world).slots
    serve_in p None = none_in
    serve_in p (Some a) = served_in p a _

  abbrev StaysIn : StepOutcome → Type 0
  StaysIn o = InKernel (o.world).slots

  refused_in : (r : Refusal) → StaysIn (refuses w r)
  refused_in r = none_in

  -- a step changes the leaves of a process that was there only in a call for it, of a hart in the kernel
  pub changed_in_kernel : (s : Step) (n : ℕ) (p q : Process) → slice_get w.slots n ≡ Some (Some p) → slice_get ((plain_step w s).world).slots n ≡ Some (Some q) → is_changed (Some p) (Some q) ≡ true
      → (h : ℕ) × (x : Hart) × (slice_get w.harts h ≡ Some x) × (x.phase ≡ Kernel) × (x.slot ≡ Some n)
  changed_in_kernel (step.Switch h slot) = quiet_in (step.Switch h slot) refl
  changed_in_kernel (step.Trap h) = quiet_in (step.Trap h) refl
  changed_in_kernel (step.Next h) = quiet_in (step.Next h) refl
  changed_in_kernel (step.Fill h address) = quiet_in (step.Fill h address) refl
  changed_in_kernel (step.Evict h n) = quiet_in (step.Evict h n) refl
  changed_in_kernel (step.Fetch h address via) = quiet_in (step.Fetch h address via) refl
  changed_in_kernel (step.Load h address width via) = quiet_in (step.Load h address width via) refl
  changed_in_kernel (step.Store h address width value via) = quiet_in (step.Store h address width value via) refl
  changed_in_kernel (step.TrampolineFetch h offset via) = quiet_in (step.TrampolineFetch h offset via) refl
  changed_in_kernel (step.Mmap h len protection flags n) = quiet_in (step.Mmap h len protection flags n) refl
  changed_in_kernel (step.Start image) = start_in (image_loads w.scheme image) (free_slot w) refl
  changed_in_kernel (step.Serve h) = on_hart_is w h true (can_serve w) always _ StaysIn refused_in
      (λ hart there can. with_its_process_is w hart _ StaysIn refused_in
      (λ t p on lives. serve_in h hart t there (kernel_phase hart.phase (and_parts (is_kernel hart.phase) (awaits_service w hart) can).0) on p p.pending))
  changed_in_kernel (step.Fork h) = kernel_call_is w h true _ StaysIn refused_in (λ hart t p there kernel on lives. fork_in h hart t there kernel on p (free_slot w) refl)
  changed_in_kernel (step.Exec h image) = kernel_call_is w h true _ StaysIn refused_in (λ hart t p there kernel on lives. exec_in h hart t there kernel on p (image_loads w.scheme image))
  changed_in_kernel (step.Sbrk h delta) = kernel_call_is w h true _ StaysIn refused_in (λ hart t p there kernel on lives. resized_in h hart t there kernel on p _)
  changed_in_kernel (step.Munmap h address len) = kernel_call_is w h true _ StaysIn refused_in (λ hart t p there kernel on lives. unmapped_in h hart t there kernel on _)
  changed_in_kernel (step.CopyIn h address n) = kernel_call_is w h _ _ StaysIn refused_in (λ hart t p there kernel on lives. sets h hart t there kernel on _)
  changed_in_kernel (step.CopyOut h address bytes) = kernel_call_is w h _ _ StaysIn refused_in (λ hart t p there kernel on lives. sets h hart t there kernel on _)
  changed_in_kernel (step.Exit h status) = kernel_call_is w h true _ StaysIn refused_in (λ hart t p there kernel on lives. sets h hart t there kernel on None)
