-- Lemmas about the way of a process: a start puts the image's process in the lowest free slot; a switch puts a process on a
-- hart or takes it off; `Next` is one instruction in the trampoline; a trap enters the kernel. Each says which slot and which
-- phase the hart has then.
use Rattle.std.proofs.Common.{◌≡◌, ◌≢◌, ◌⊎◌, ◌==◌, ℕ, zero, suc, Bool, true, false, ◌&&◌, inl, inr, refl, sym, ap, subst, ◌∙◌, arith, List, [], ◌∷◌, Option, None, Some, pos}
use Rattle.std.specs.Prelude.{Err, Ok, option_map, Result, slice_get, slice_set, unwrap_or}
use Rattle.std.specs.List.{list_any}
use Rattle.std.proofs.lemmas.Bool.{eqb-true}
use Rattle.std.proofs.lemmas.Option.{slice_get-map}
use Rattle.process_laws.proofs.Givens.{image_given, image_idle, image_sized, image_unmarked, image_based}
use Rattle.process_laws.proofs.HeldBytes.{free_there, Puts, set_puts}
use Rattle.process_laws.proofs.Possible.{stands}
use Rattle.process_laws.proofs.Running.{has_it, hart_runs, process_runs, step_process, step_reply}
use Rattle.process_laws.specs.Moments.{slot_at, slot_on}
use Rattle.process_laws.specs.Pages.{image_grant, image_size, size_after}
use Rattle.process_laws.specs.Words.{Begins, IsInPhase, IsOnHart}
use Rattle.process_model.specs.Calls.{started, started_as, started_unless, with_image}
use Rattle.process_model.specs.Harts.{cleaned_at, cleaned_for, cleaned_if, emptied_if, fenced, Hart, is_kernel, is_user, may_switch, next_phase, phase_for}
use Rattle.process_model.specs.Images.{image_loads, LoadSegment}
use Rattle.process_model.specs.ImageProcess.{process_of}
use Rattle.process_model.specs.Process.{Process, without_pending}
use Rattle.process_model.specs.Stale.{changed_slots, with_stale, with_stale_slots}
use Rattle.process_model.specs.Steps.{advanced, plain_step, step}
use Rattle.process_model.specs.World.{always, answers, can_go_on, can_run, free_slot, has_slot, is_unserved_access, StepOutcome, process_in, with_hart, with_its_process, with_process, World}
use Rattle.process_model.specs.declared.config.Policy.{Policy}
use Rattle.process_model.specs.declared.config.Policy.TheVariants.{Full, Asid}
use Rattle.process_model.specs.declared.image.BadImage.{BadImage}
use Rattle.process_model.specs.declared.image.Image.{Image}
use Rattle.process_model.specs.declared.phase.Phase.{Phase}
use Rattle.process_model.specs.declared.phase.Phase.TheVariants.{Idle, User, Enter0, Enter1, Enter2, Kernel, Leave1, Leave2}
use Rattle.process_model.specs.declared.reply.Reply.{Reply}
use Rattle.process_model.specs.declared.reply.ScalarReply.TheVariants.{Done, Started}
use Rattle.process_model.specs.declared.reply.Reply.TheVariants.{Scalar}
use Rattle.process_model.specs.declared.step.Step.{Step}
use Rattle.process_model.specs.declared.step.Step.TheVariants.{Next, Start, Switch, Trap}

-- a place of a list that is set

pub set_there : {A : Type 0} (xs : List A) (i : ℕ) (x y : A) → slice_get xs i ≡ Some x → slice_get (slice_set xs i y) i ≡ Some y
set_there [] i x y e = absurd cc
set_there (z ∷ zs) zero x y e = refl
set_there (z ∷ zs) (suc i) x y e = set_there zs i x y e

-- fences change no slot

emptied_slot : (hart : Hart) (b : Bool) → (emptied_if hart b).slot ≡ hart.slot
emptied_slot hart true = refl
emptied_slot hart false = refl

cleaned_slot : (hart : Hart) (s : ℕ) (b : Bool) → (cleaned_if hart s b).slot ≡ hart.slot
cleaned_slot hart s true = refl
cleaned_slot hart s false = refl

cleaned_for_slot : (hart : Hart) (o : Option ℕ) → (cleaned_for hart o).slot ≡ hart.slot
cleaned_for_slot hart None = refl
cleaned_for_slot hart (Some s) = cleaned_slot hart s _

cleaned_at_slot : (hart : Hart) (phase : Phase) → (cleaned_at hart phase).slot ≡ hart.slot
cleaned_at_slot hart Leave2 = cleaned_for_slot hart _
cleaned_at_slot hart Idle = refl
cleaned_at_slot hart User = refl
cleaned_at_slot hart Enter0 = refl
cleaned_at_slot hart Enter1 = refl
cleaned_at_slot hart Enter2 = refl
cleaned_at_slot hart Kernel = refl
cleaned_at_slot hart Leave1 = refl

pub fenced_slot : (policy : Policy) (hart : Hart) → (fenced policy hart).slot ≡ hart.slot
fenced_slot Full hart = emptied_slot hart _
fenced_slot Asid hart = cleaned_at_slot hart _

-- a hart has that slot, and is in that phase
pub record At (w : World) (h : ℕ) (slot : Option ℕ) (phase : Phase) : Type 0 where
  pub on : slot_on w h ≡ slot
  pub is_in : IsInPhase w h phase

-- marks change neither
marks_at : (policy : Policy) (w : World) (o : StepOutcome) (h : ℕ) (slot : Option ℕ) (phase : Phase) → At o.world h slot phase → At (with_stale_slots policy w o).world h slot phase
marks_at Full w o h slot phase a = a
marks_at Asid w o h slot phase a =
    let f = with_stale (changed_slots 0 w.slots (o.world).slots) in
    let is = slice_get-map f (o.world).harts h in
    record { on = ap slot_at is ∙ same_slot f (slice_get (o.world).harts h) ∙ a.on; is_in = ap (option_map (λ (hart : Hart). hart.phase)) is ∙ same_phase f (slice_get (o.world).harts h) ∙ a.is_in }
  where
    same_slot : (f : Hart → Hart) (x : Option Hart) → slot_at (option_map (with_stale (changed_slots 0 w.slots (o.world).slots)) x) ≡ slot_at x
    same_slot f None = refl
    same_slot f (Some hart) = refl

    same_phase : (f : Hart → Hart) (x : Option Hart) → option_map (λ (hart : Hart). hart.phase) (option_map (with_stale (changed_slots 0 w.slots (o.world).slots)) x) ≡ option_map (λ (hart : Hart). hart.phase) x
    same_phase f None = refl
    same_phase f (Some hart) = refl

pub step_at : (w : World) (x : Step) (h : ℕ) (slot : Option ℕ) (phase : Phase) → At (plain_step w x).world h slot phase → At (step w x).world h slot phase
unfolding step
step_at w x h slot phase a = marks_at w.policy w (plain_step w x) h slot phase a

-- the hart that is put in its place
pub put_at : (w : World) (h : ℕ) (before after : Hart) → slice_get w.harts h ≡ Some before → At (with_hart w h after) h after.slot after.phase
put_at w h before after there = let is = set_there w.harts h before after there in record { on = ap slot_at is; is_in = ap (option_map (λ (hart : Hart). hart.phase)) is }

-- ---- the next instruction

quiet_in : (phase : Phase) (b : Bool) → (phase ≡ Kernel → b ≡ false) → (is_kernel phase && b) ≡ false
quiet_in Kernel b e = e refl
quiet_in Idle b e = refl
quiet_in User b e = refl
quiet_in Enter0 b e = refl
quiet_in Enter1 b e = refl
quiet_in Enter2 b e = refl
quiet_in Leave1 b e = refl
quiet_in Leave2 b e = refl

pub next_goes : (w : World) (h s : ℕ) (p : Process) (phase after : Phase) → IsOnHart w h s p → IsInPhase w h phase → next_phase phase ≡ Some after → (phase ≡ Kernel → is_unserved_access p.pending ≡ false)
    → IsOnHart (step w (Next h)).world h s p × IsInPhase (step w (Next h)).world h after
next_goes w h s p phase after on in_phase next quiet =
    let k = stands w h phase in_phase in
    let runs = has_it w h s k.hart on.there k.there in
    let can : can_go_on w k.hart ≡ true = rw (k.in_phase, runs, on.lives, next, quiet_in phase (is_unserved_access p.pending) quiet) refl in
    let goes = hart_runs w h true (can_go_on w) always (advanced w h) k.hart k.there refl can refl in
    let hart = record (fenced w.policy k.hart) { phase = unwrap_or (next_phase k.hart.phase) k.hart.phase } in
    let at : At (with_hart w h hart) h hart.slot hart.phase = put_at w h k.hart hart k.there in
    let there = step_at w (Next h) h hart.slot hart.phase (subst (λ (o : StepOutcome). At o.world h hart.slot hart.phase) (sym goes) at) in
    let lives : process_in (step w (Next h)).world s ≡ Some p = step_process w (Next h) s ∙ ap (λ (o : StepOutcome). process_in o.world s) goes ∙ on.lives in
    let moved : hart.phase ≡ after = rw (k.in_phase, next) refl in
    (record { there = there.on ∙ fenced_slot w.policy k.hart ∙ runs; lives = lives }, there.is_in ∙ ap Some moved)

-- ---- a switch

slot_elsewhere : (harts : List Hart) (s : ℕ) → ((k : ℕ) → slot_at (slice_get harts k) ≢ Some s) → list_any (λ (hart : Hart). has_slot s hart.slot) harts ≡ false
slot_elsewhere [] s apart = refl
slot_elsewhere (hart ∷ harts) s apart = rw (not_it hart.slot (apart 0)) (slot_elsewhere harts s (λ k. apart (suc k)))
  where
    not_it : (o : Option ℕ) → o ≢ Some s → has_slot s o ≡ false
    not_it None e = refl
    not_it (Some t) e = by (t == s) refl
      where
        by : (b : Bool) → (t == s) ≡ b → b ≡ false
        by true is = absurd (e (ap Some (eqb-true t s is)))
        by false is = refl

pub switch_goes : (w : World) (h s : ℕ) (p : Process) → process_in w s ≡ Some p → ((k : ℕ) → slot_on w k ≢ Some s) → IsInPhase w h Idle ⊎ IsInPhase w h Kernel
    → IsOnHart (step w (Switch h (Some s))).world h s p × IsInPhase (step w (Switch h (Some s))).world h Kernel
switch_goes w h s p lives apart phase = by phase
  where
    runs_on : can_run w (Some s) ≡ true
    runs_on = rw (lives, slot_elsewhere w.harts s apart) refl

    goes_in : (from : Phase) → may_switch from ≡ true → IsInPhase w h from → IsOnHart (step w (Switch h (Some s))).world h s p × IsInPhase (step w (Switch h (Some s))).world h Kernel
    goes_in from may in_phase =
        let k = stands w h from in_phase in
        let can : (may_switch k.hart.phase && can_run w (Some s)) ≡ true = rw (k.in_phase, may, runs_on) refl in
        let hart = record k.hart { phase = Kernel; slot = Some s } in
        let goes = hart_runs w h true (λ hart. may_switch hart.phase && can_run w (Some s)) always (λ hart. answers (with_hart w h (record hart { phase = phase_for (Some s); slot = Some s })) (Scalar Done)) k.hart k.there refl can refl in
        let at : At (with_hart w h hart) h (Some s) Kernel = put_at w h k.hart hart k.there in
        let there = step_at w (Switch h (Some s)) h (Some s) Kernel (subst (λ (o : StepOutcome). At o.world h (Some s) Kernel) (sym goes) at) in
        let alive : process_in (step w (Switch h (Some s))).world s ≡ Some p = step_process w (Switch h (Some s)) s ∙ ap (λ (o : StepOutcome). process_in o.world s) goes ∙ lives in
        (record { there = there.on; lives = alive }, there.is_in)

    by : IsInPhase w h Idle ⊎ IsInPhase w h Kernel → IsOnHart (step w (Switch h (Some s))).world h s p × IsInPhase (step w (Switch h (Some s))).world h Kernel
    by (inl idle) = goes_in Idle refl idle
    by (inr kernel) = goes_in Kernel refl kernel

-- ---- a trap

pub trap_goes : (w : World) (h s : ℕ) (p : Process) → IsOnHart w h s p → IsInPhase w h User → (slot_on (step w (Trap h)).world h ≡ Some s) × IsInPhase (step w (Trap h)).world h Enter0
trap_goes w h s p on user =
    let k = stands w h User user in
    let runs = has_it w h s k.hart on.there k.there in
    let run = λ (hart : Hart) (s : ℕ) (p : Process). answers (with_hart (with_process w s (without_pending p)) h (record hart { phase = Enter0 })) (Scalar Done) in
    let goes = hart_runs w h true (λ hart. is_user hart.phase) always (λ hart. with_its_process w hart (run hart)) k.hart k.there refl (ap is_user k.in_phase) refl ∙ process_runs w k.hart (run k.hart) s p runs on.lives in
    let hart = record k.hart { phase = Enter0 } in
    let at : At (with_hart (with_process w s (without_pending p)) h hart) h hart.slot Enter0 = put_at (with_process w s (without_pending p)) h k.hart hart k.there in
    let there = step_at w (Trap h) h hart.slot Enter0 (subst (λ (o : StepOutcome). At o.world h hart.slot Enter0) (sym goes) at) in
    (there.on ∙ runs, there.is_in)

-- ---- a start

abbrev pub Starts : World → Image → ℕ → Reply → World → Type 0
Starts w image s r v = (free_slot w ≡ Some s) × (p : Process) × (process_in v s ≡ Some p) × Begins (record { before = w; step = Start image; reply = r; after = v }) p

module _ (w : World) (image : Image) where
  put : (s : ℕ) (ls : List LoadSegment) → free_slot w ≡ Some s → Puts w s (Some (process_of w.scheme w.counter ls)) (with_image w s ls)
  put s ls free = set_puts w (with_image w s ls) s (Some (process_of w.scheme w.counter ls)) (let room = free_there w.slots 0 s free in omega (arith, room)) refl

  module _ (v : World) (r : Reply) (s : ℕ) (told : r ≡ Scalar (Started s)) where
    begins : (ls : List LoadSegment) → image_loads w.scheme image ≡ Ok ls → Begins (record { before = w; step = Start image; reply = r; after = v }) (process_of w.scheme w.counter ls)
    begins ls loads = record {
      grants = λ page. image_given w.scheme w.counter ls page ∙ ap (λ l. image_grant l page) (sym loads);
      unmarked = image_unmarked w.scheme w.counter ls;
      quiet = image_idle w.scheme w.counter ls;
      size = ap pos (image_sized w.scheme w.counter ls ∙ ap image_size (sym loads)) ∙ ap (λ x. size_after w.scheme (Start image) x 0) (sym told);
      base = image_based w.scheme w.counter ls;
    }

    unless : (t : ℕ) (ls : List LoadSegment) (b : Bool) → free_slot w ≡ Some t → image_loads w.scheme image ≡ Ok ls → (started_unless w t ls b).reply ≡ Scalar (Started s) → ((n : ℕ) → process_in v n ≡ process_in (started_unless w t ls b).world n) → Starts w image s r v
    unless t ls true free loads e there = absurd cc
    unless t ls false free loads e there =
        let same : t ≡ s = cc in
        (free ∙ ap Some same, process_of w.scheme w.counter ls, ap (process_in v) (sym same) ∙ there t ∙ (put t ls free).here, begins ls loads)

    judged : (t : ℕ) (l : Result (List LoadSegment) BadImage) → free_slot w ≡ Some t → image_loads w.scheme image ≡ l → (started_as w t l).reply ≡ Scalar (Started s) → ((n : ℕ) → process_in v n ≡ process_in (started_as w t l).world n) → Starts w image s r v
    judged t (Err b) free loads e there = absurd cc
    judged t (Ok ls) free loads e there = unless t ls _ free loads e there

    in_slot : (o : Option ℕ) → free_slot w ≡ o → (started w (image_loads w.scheme image) o).reply ≡ Scalar (Started s) → ((n : ℕ) → process_in v n ≡ process_in (started w (image_loads w.scheme image) o).world n) → Starts w image s r v
    in_slot None free e there = absurd cc
    in_slot (Some t) free e there = judged t _ free refl e there

  -- the process that it brings
  pub start_brings : (s : ℕ) → (step w (Start image)).reply ≡ Scalar (Started s) → Starts w image s (step w (Start image)).reply (step w (Start image)).world
  start_brings s e = in_slot (step w (Start image)).world (step w (Start image)).reply s e (free_slot w) refl (sym (step_reply w (Start image)) ∙ e) (step_process w (Start image))
