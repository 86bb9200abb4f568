-- Lemmas about copyin and copyout: if a copy stops by NoFrame, then fewer frames are free after it than the page of the next
-- byte needs (`LacksFrames`).
use Rattle.std.proofs.Common.{◌≡◌, ◌≢◌, ℕ, Bool, true, false, cond, ◌+◌, ◌%◌, ◌<◌, refl, sym, ap, subst, ◌∙◌, Option, None, Some, List, length, arith, Bor}
use Rattle.std.specs.Prelude.{nat_lt, Result, Ok, Err, zip}
use Rattle.std.proofs.lemmas.Bool.{eq-eqb, false≢true, ltb-true}
use Rattle.process_laws.proofs.Counting.{quiet_rule}
use Rattle.process_laws.proofs.NeedSpends.{page_need}
use Rattle.process_laws.specs.FrameNeeds.{frames_for_page, LacksFrames}
use Rattle.process_laws.proofs.CopyFrames.{New, not_begun, shift, Spent, spent_in_all, spent_out_all}
use Rattle.process_laws.proofs.Copying.{in_so_far, InRan, out_so_far, OutRan}
use Rattle.process_laws.proofs.EveryChange.{Holds}
use Rattle.process_laws.proofs.Going.{At, step_at}
use Rattle.process_laws.proofs.Later.{shifted}
use Rattle.process_laws.proofs.Running.{set_lives, step_process}
use Rattle.process_laws.specs.Words.{IsInPhase, IsOnHart, is_no_frame_reply}
use Rattle.process_model.specs.Environment.{Environment, need_at, Progress, resident_at_address, resident_at, unless_dry, unless_resident}
use Rattle.process_model.specs.Bytes.{numbers_from}
use Rattle.process_model.specs.Copies.{copied_in, copied_out, copy_begun, in_reply, out_reply, reached_in}
use Rattle.process_model.specs.Process.{Process, regions, without_pending}
use Rattle.process_model.specs.Regions.{copy_rule, first_rule, is_aligned}
use Rattle.process_model.specs.Residence.{is_resident}
use Rattle.process_model.specs.Service.{environment_of, initial_progress, with_progress}
use Rattle.process_model.specs.Stale.{with_stale_slots}
use Rattle.process_model.specs.Steps.{plain_step, step}
use Rattle.process_model.specs.World.{answers, free, StepOutcome, process_in, World}
use Rattle.process_model.specs.declared.config.Policy.{Policy}
use Rattle.process_model.specs.declared.config.Policy.TheVariants.{Full, Asid}
use Rattle.process_model.specs.declared.phase.Phase.TheVariants.{Kernel}
use Rattle.process_model.specs.declared.reply.Reply.{Reply}
use Rattle.process_model.specs.declared.reply.ScalarReply.TheVariants.{Ended}
use Rattle.process_model.specs.declared.reply.Reply.TheVariants.{Scalar}
use Rattle.process_model.specs.declared.step.Step.{Step}
use Rattle.process_model.specs.declared.step.Step.TheVariants.{CopyIn, CopyOut}
use Rattle.sv39_entry.specs.Address.{page_of}
use Rattle.sv39_entry.specs.declared.access.Access.{Access}
use Rattle.sv39_entry.specs.declared.access.Access.TheVariants as access
use Rattle.sv39_entry.specs.declared.rule.Rule.{Rule}
use Rattle.sv39_entry.specs.declared.rule.Rule.TheVariants.{Misaligned, NoFrame}

-- marks are not round a process

marks_around : (policy : Policy) (w : World) (o : StepOutcome) (s : ℕ) → environment_of (with_stale_slots policy w o).world s ≡ environment_of o.world s
marks_around Full w o s = refl
marks_around Asid w o s = refl

marks_begun : (policy : Policy) (w : World) (o : StepOutcome) (q : Process) → initial_progress (with_stale_slots policy w o).world q ≡ initial_progress o.world q
marks_begun Full w o q = refl
marks_begun Asid w o q = refl

step_around : (w : World) (x : Step) (s : ℕ) → environment_of (step w x).world s ≡ environment_of (plain_step w x).world s
unfolding step
step_around w x s = marks_around w.policy w (plain_step w x) s

step_begun : (w : World) (x : Step) (q : Process) → initial_progress (step w x).world q ≡ initial_progress (plain_step w x).world q
unfolding step
step_begun w x q = marks_begun w.policy w (plain_step w x) q

no_wait : (q : Process) → q.pending ≡ None → without_pending q ≡ q
no_wait q e = ap (λ o. record q { pending = o }) (sym e)

unshift : (more : ℕ) (r : Result Progress Rule) → shifted more r ≡ Err NoFrame → r ≡ Err NoFrame
unshift more (Ok h) e = absurd cc
unshift more (Err r) e = e

module _ (w : World) (h s : ℕ) (p : Process) (on : IsOnHart w h s p) (kernel : IsInPhase w h Kernel) (holds : Holds New w) (x : Step) (r : Reply) (g : Progress) (is : plain_step w x ≡ answers (with_progress w s g) r)
    (k : Spent w s p holds on.lives g) (idle : (g.process).pending ≡ None) (kind : Access) (at : ℕ) (halted : reached_in (environment_of w s) kind g at ≡ Err NoFrame) where
  abbrev v : World
  v = (step w x).world

  abbrev there : World
  there = with_progress w s g

  abbrev q : Process
  q = g.process

  -- from there on it is dry at once
  dry_by : (o : Option Rule) → resident_at_address (environment_of w s) kind at g o ≡ Err NoFrame → resident_at_address (environment_of there s) kind at (initial_progress there q) o ≡ Err NoFrame
  dry_by (Some rule) e = e
  dry_by None e = unshift g.taken (resident_at (environment_of there s) kind (page_of at) (initial_progress there q)) (sym (shift w s p holds on.lives g k kind at) ∙ e)

  around_is : environment_of v s ≡ environment_of there s
  around_is = step_around w x s ∙ ap (λ (o : StepOutcome). environment_of o.world s) is

  begun_is : initial_progress v (without_pending q) ≡ initial_progress there q
  begun_is = ap (initial_progress v) (no_wait q idle) ∙ step_begun w x q ∙ ap (λ (o : StepOutcome). initial_progress o.world q) is

  pub dry : reached_in (environment_of v s) kind (initial_progress v (without_pending q)) at ≡ Err NoFrame
  dry = ap (λ (a : Environment). reached_in a kind (initial_progress v (without_pending q)) at) around_is ∙ ap (λ (f : Progress). reached_in (environment_of there s) kind f at) begun_is ∙ dry_by (copy_rule q.scheme (regions q) kind at) halted

  pub on_there : IsOnHart v h s q
  on_there =
      let a : At there h (Some s) Kernel = record { on = on.there; is_in = kernel } in
      record {
        there = (step_at w x h (Some s) Kernel (subst (λ (o : StepOutcome). At o.world h (Some s) Kernel) (sym is) a)).on;
        lives = step_process w x s ∙ ap (λ (o : StepOutcome). process_in o.world s) is ∙ set_lives w.slots s p q on.lives;
      }

  pub kernel_there : IsInPhase v h Kernel
  kernel_there =
      let a : At there h (Some s) Kernel = record { on = on.there; is_in = kernel } in
      (step_at w x h (Some s) Kernel (subst (λ (o : StepOutcome). At o.world h (Some s) Kernel) (sym is) a)).is_in

  -- no rule has too few frames
  no_rule : (rule : Rule) → copy_rule q.scheme (regions q) kind at ≡ Some rule → rule ≢ NoFrame
  no_rule rule e same =
      let whole : is_aligned at 1 ≡ true = eq-eqb (at % 1) 0 (omega arith) in
      let first : first_rule q.scheme (regions q) kind at 1 ≡ Some rule = ap (λ b. cond b (copy_rule q.scheme (regions q) kind at) (Some Misaligned)) whole ∙ e in
      false≢true (sym (quiet_rule q kind at 1 rule first) ∙ ap (λ r. is_no_frame_reply (Scalar (Ended r))) same)

  -- so few are free
  few_at : (f : Progress) → f.process ≡ without_pending q → f.taken ≡ 0 → (b : Bool) → is_resident f.process kind (page_of at) ≡ b → unless_resident (environment_of v s) kind (page_of at) f b ≡ Err NoFrame
      → free v < cond b 0 (need_at (environment_of v s) kind (page_of at) f.process)
  few_at f same none true e is = absurd cc
  few_at f same none false e is = by (nat_lt (free v) (f.taken + need)) refl is
    where
      need : ℕ
      need = need_at (environment_of v s) kind (page_of at) f.process

      by : (b : Bool) → nat_lt (free v) (f.taken + need) ≡ b → unless_dry (environment_of v s) kind (page_of at) f need b ≡ Err NoFrame → free v < need
      by true less is = let so = ltb-true (free v) (f.taken + need) less in omega (arith, so, none)
      by false less is = absurd cc

  few_by : (o : Option Rule) → copy_rule q.scheme (regions q) kind at ≡ o → resident_at_address (environment_of v s) kind at (initial_progress v (without_pending q)) o ≡ Err NoFrame
      → free v < frames_for_page v s q kind (page_of at)
  unfolding resident_at
  few_by (Some rule) e is = absurd (no_rule rule e cc)
  few_by None e is = subst (λ n. free v < n) (page_need v s (without_pending q) kind (page_of at)) (few_at (initial_progress v (without_pending q)) refl refl (is_resident (without_pending q) kind (page_of at)) refl is)

  pub lacks : LacksFrames v s kind at
  lacks = record { process = q; there = on_there.lives; few = few_by (copy_rule q.scheme (regions q) kind at) refl dry }

module _ (w : World) (h s : ℕ) (p : Process) (on : IsOnHart w h s p) (holds : Holds New w) (address : ℕ) where
  abbrev first : Progress
  first = initial_progress w (without_pending p)

  in_spent : (n : ℕ) → Spent w s p holds on.lives (copied_in (environment_of w s) first address n).progress
  unfolding copied_in
  in_spent n = spent_in_all w s p holds on.lives (numbers_from address n) (copy_begun first) (not_begun w s p holds on.lives)

  pub in_lacks : (n : ℕ) → InRan w h s p address n → let c = copied_in (environment_of w s) first address n in c.stop ≡ Some NoFrame
      → LacksFrames (step w (CopyIn h address n)).world s access.Load (address + length c.bytes)
  in_lacks n ran stop =
      let c = copied_in (environment_of w s) first address n in
      let f = in_so_far (environment_of w s) first address n in
      lacks w h s p on ran.in_kernel holds (CopyIn h address n) (in_reply c.bytes c.stop) c.progress ran.is (in_spent n) f.idle access.Load (address + length c.bytes) (f.halted NoFrame stop)

  out_spent : (bs : List ℕ) → Spent w s p holds on.lives (copied_out (environment_of w s) first address bs).progress
  unfolding copied_out
  out_spent bs = spent_out_all w s p holds on.lives (zip (numbers_from address (length bs)) bs) (copy_begun first) (not_begun w s p holds on.lives)

  pub out_lacks : (bytes : Bor (List ℕ)) → OutRan w h s p address bytes → let c = copied_out (environment_of w s) first address bytes.now in c.stop ≡ Some NoFrame
      → LacksFrames (step w (CopyOut h address bytes)).world s access.Store (address + length c.bytes)
  out_lacks bytes ran stop =
      let c = copied_out (environment_of w s) first address bytes.now in
      let f = out_so_far (environment_of w s) first address bytes.now in
      lacks w h s p on ran.in_kernel holds (CopyOut h address bytes) (out_reply c.bytes c.stop) c.progress ran.is (out_spent bytes.now) f.idle access.Store (address + length c.bytes) (f.halted NoFrame stop)
