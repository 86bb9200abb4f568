-- Lemmas: no step of the model changes the policy or the scheme of translation (Sv39 or Sv48), and marking slots as stale
-- does not change the scheme.
use Rattle.std.proofs.Common.{◌≡◌, ℕ, Bool, true, false, List, Option, None, Some, refl}
use Rattle.std.specs.Prelude.{Err, Ok, Result}
use Rattle.process_model.specs.Environment.{Progress}
use Rattle.process_model.specs.Calls.{forked, forked_unless, mapped_to, replaced, replaced_unless, resized_to, started, started_unless, unmapped_to}
use Rattle.process_model.specs.Harts.{Hart}
use Rattle.process_model.specs.Images.{image_loads, LoadSegment}
use Rattle.process_model.specs.Mappings.{Mapped, Unmapped}
use Rattle.process_model.specs.Process.{Pending, Process}
use Rattle.process_model.specs.Service.{access_step, Answer, served, served_or_ended, access_outcome_if, user_access}
use Rattle.process_model.specs.Steps.{plain_step}
use Rattle.process_model.specs.World.{always, can_go_on, can_serve, free_slot, kernel_call, StepOutcome, refuses, World}
use Rattle.process_model.specs.declared.image.BadImage.{BadImage}
use Rattle.process_model.specs.declared.reply.Refusal.{Refusal}
use Rattle.process_model.specs.declared.step.Step.{Step}
use Rattle.process_model.specs.declared.step.Step.TheVariants as step
use Rattle.process_model.specs.Stale.{with_stale_slots}
use Rattle.process_model.specs.declared.config.Policy.{Policy}
use Rattle.process_model.specs.declared.config.Policy.TheVariants.{Full, Asid}
use Rattle.sv39_entry.specs.declared.access.Access.{Access}
use Rattle.sv39_entry.specs.declared.access.Access.TheVariants as access
use Rattle.sv39_entry.specs.declared.rule.Rule.{Rule}
use Rattle.hart_machine.proofs.StepShapes.{kernel_call_is, on_hart_is, with_its_process_is}

module _ (w : World) where
  abbrev Stays : StepOutcome → Type 0
  Stays o = ((o.world).policy ≡ w.policy) × ((o.world).scheme ≡ w.scheme)

  refused_stays : (r : Refusal) → Stays (refuses w r)
  refused_stays r = (refl, refl)

  started_stays : (s : ℕ) (ls : List LoadSegment) (b : Bool) → Stays (started_unless w s ls b)
  started_stays s ls true = (refl, refl)
  started_stays s ls false = (refl, refl)

  start_stays : (r : Result (List LoadSegment) BadImage) (o : Option ℕ) → Stays (started w r o)
  start_stays r None = (refl, refl)
  start_stays (Err e) (Some s) = (refl, refl)
  start_stays (Ok ls) (Some s) = started_stays s ls _

  replaced_stays : (s : ℕ) (p : Process) (ls : List LoadSegment) (b : Bool) → Stays (replaced_unless w s p ls b)
  replaced_stays s p ls true = (refl, refl)
  replaced_stays s p ls false = (refl, refl)

  exec_stays : (s : ℕ) (p : Process) (r : Result (List LoadSegment) BadImage) → Stays (replaced w s p r)
  exec_stays s p (Err e) = (refl, refl)
  exec_stays s p (Ok ls) = replaced_stays s p ls _

  forked_stays : (s : ℕ) (p : Process) (child : ℕ) (b : Bool) → Stays (forked_unless w s p child b)
  forked_stays s p child true = (refl, refl)
  forked_stays s p child false = (refl, refl)

  fork_stays : (s : ℕ) (p : Process) (o : Option ℕ) → Stays (forked w s p o)
  fork_stays s p None = (refl, refl)
  fork_stays s p (Some child) = forked_stays s p child _

  resized_stays : (s : ℕ) (p : Process) (r : Result Process Refusal) → Stays (resized_to w s p r)
  resized_stays s p (Err e) = (refl, refl)
  resized_stays s p (Ok q) = (refl, refl)

  mapped_stays : (s : ℕ) (r : Result Mapped Refusal) → Stays (mapped_to w s r)
  mapped_stays s (Err e) = (refl, refl)
  mapped_stays s (Ok m) = (refl, refl)

  unmapped_stays : (s : ℕ) (r : Result Unmapped Refusal) → Stays (unmapped_to w s r)
  unmapped_stays s (Err e) = (refl, refl)
  unmapped_stays s (Ok u) = (refl, refl)

  told_stays : (h : ℕ) (hart : Hart) (t : ℕ) (x : Answer) (b : Bool) → Stays (access_outcome_if w h hart t x b)
  told_stays h hart t x true = (refl, refl)
  told_stays h hart t x false = (refl, refl)

  access_stays : (h : ℕ) (access : Access) (address width value : ℕ) (via : Option ℕ) → Stays (access_step w h access address width value via)
  access_stays h access address width value via =
      on_hart_is w h _ _ _ _ Stays refused_stays (λ hart there user. with_its_process_is w hart _ Stays refused_stays (λ t p on lives. told_stays h hart t (user_access p (record { access = access; address = address; width = width; value = value })) _))

  served_stays : (h : ℕ) (hart : Hart) (t : ℕ) (p : Process) (a : Pending) (r : Result Progress Rule) → Stays (served_or_ended w h hart t p a r)
  served_stays h hart t p a (Err r) = (refl, refl)
  served_stays h hart t p a (Ok g) = (refl, refl)

  serve_stays : (h : ℕ) (hart : Hart) (t : ℕ) (p : Process) (o : Option Pending) → Stays (served w h hart t p o)
  serve_stays h hart t p None = (refl, refl)
  serve_stays h hart t p (Some a) = served_stays h hart t p a _

  call_stays : (h : ℕ) (proper : Bool) (run : Hart → ℕ → Process → StepOutcome) → ((hart : Hart) (t : ℕ) (p : Process) → Stays (run hart t p)) → Stays (kernel_call w h proper run)
  call_stays h proper run same = kernel_call_is w h proper run Stays refused_stays (λ hart t p there kernel on lives. same hart t p)

  pub rules_stay : (s : Step) → Stays (plain_step w s)
  rules_stay (step.Start image) = start_stays (image_loads w.scheme image) (free_slot w)
  rules_stay (step.Switch h slot) = on_hart_is w h true _ always _ Stays refused_stays (λ hart there can. (refl, refl))
  rules_stay (step.Trap h) = on_hart_is w h true _ always _ Stays refused_stays (λ hart there user. with_its_process_is w hart _ Stays refused_stays (λ t p on lives. (refl, refl)))
  rules_stay (step.Next h) = on_hart_is w h true (can_go_on w) always _ Stays refused_stays (λ hart there can. (refl, refl))
  rules_stay (step.Fill h address) = on_hart_is w h true always always _ Stays refused_stays (λ hart there can. (refl, refl))
  rules_stay (step.Evict h n) = on_hart_is w h true always _ _ Stays refused_stays (λ hart there can. (refl, refl))
  rules_stay (step.Fetch h address via) = access_stays h access.Fetch address 4 0 via
  rules_stay (step.Load h address width via) = access_stays h access.Load address width 0 via
  rules_stay (step.Store h address width value via) = access_stays h access.Store address width value via
  rules_stay (step.TrampolineFetch h offset via) = on_hart_is w h _ _ _ _ Stays refused_stays (λ hart there can. (refl, refl))
  rules_stay (step.Serve h) = on_hart_is w h true (can_serve w) always _ Stays refused_stays (λ hart there can. with_its_process_is w hart _ Stays refused_stays (λ t p on lives. serve_stays h hart t p p.pending))
  rules_stay (step.Fork h) = call_stays h true _ (λ hart t p. fork_stays t p (free_slot w))
  rules_stay (step.Exec h image) = call_stays h true _ (λ hart t p. exec_stays t p (image_loads w.scheme image))
  rules_stay (step.Sbrk h delta) = call_stays h true _ (λ hart t p. resized_stays t p _)
  rules_stay (step.Mmap h len protection flags n) = call_stays h true _ (λ hart t p. mapped_stays t _)
  rules_stay (step.Munmap h address len) = call_stays h true _ (λ hart t p. unmapped_stays t _)
  rules_stay (step.CopyIn h address n) = call_stays h _ _ (λ hart t p. (refl, refl))
  rules_stay (step.CopyOut h address bytes) = call_stays h _ _ (λ hart t p. (refl, refl))
  rules_stay (step.Exit h status) = call_stays h true _ (λ hart t p. (refl, refl))

  pub policy_stays : (s : Step) → ((plain_step w s).world).policy ≡ w.policy
  policy_stays s = (rules_stay s).0

  pub scheme_stays : (s : Step) → ((plain_step w s).world).scheme ≡ w.scheme
  scheme_stays s = (rules_stay s).1

-- marks change neither
pub stale_scheme : (policy : Policy) (w : World) (o : StepOutcome) → ((with_stale_slots policy w o).world).scheme ≡ (o.world).scheme
stale_scheme Full w o = refl
stale_scheme Asid w o = refl
