-- Lemmas about steps that are made (not refused): no return from the kernel while an access waits, what a switch needs and
-- leaves; and the replies of exits and of fetches in the trampoline.
use Rattle.std.proofs.Common.{◌≡◌, ◌⊎◌, inl, inr, ℕ, ℤ, Bool, true, false, not, ◌&&◌, refl, sym, ap, subst, ◌∙◌, Option, None, Some, ◌≢◌}
use Rattle.std.specs.Prelude.{option_map, is_some}
use Rattle.std.proofs.lemmas.Bool.{and_parts}
use Rattle.std.proofs.lemmas.Option.{same_Some}
use Rattle.process_laws.proofs.OnHarts.{kernel_good, on_hart_good}
use Rattle.process_laws.proofs.Running.{has_it, ran_on, was_made, step_reply}
use Rattle.process_laws.specs.Words.{IsInPhase, IsMade, IsOnHart}
use Rattle.process_laws.proofs.Going.{At, put_at, step_at}
use Rattle.process_laws.proofs.Kept.{none_on}
use Rattle.process_laws.proofs.Possible.{stands}
use Rattle.process_laws.specs.Moments.{slot_on}
use Rattle.process_model.specs.declared.phase.Phase.TheVariants.{Enter0, Enter1, Enter2, Idle, Kernel, Leave1, Leave2, User}
use Rattle.process_model.specs.Harts.{Hart, is_kernel, may_switch, phase_for}
use Rattle.process_model.specs.Process.{Process}
use Rattle.process_model.specs.Steps.{step, advanced}
use Rattle.process_model.specs.World.{is_unserved, is_unserved_access, StepOutcome, process_of_slot, World, always, answers, awaits_service, can_go_on, can_run, process_in, with_hart}
use Rattle.process_model.specs.declared.phase.Phase.{Phase}
use Rattle.process_model.specs.declared.reply.ScalarReply.TheVariants.{Exited, InFrame, Done}
use Rattle.process_model.specs.declared.reply.Reply.TheVariants.{Scalar}
use Rattle.process_model.specs.declared.step.Step.TheVariants as step_of

not_true : (b : Bool) → not b ≡ true → b ≡ false
not_true true e = absurd cc
not_true false e = refl

module _ (w : World) where
  -- while an access waits, a hart does not go on from the kernel
  pub next_quiet : (h s : ℕ) (p : Process) → IsOnHart w h s p → IsInPhase w h Kernel → IsMade (step w (step_of.Next h)).reply → is_unserved_access p.pending ≡ false
  next_quiet h s p on kernel made =
      let r = ran_on w h true (can_go_on w) always (advanced w h) (was_made w (step_of.Next h) made) in
      let k = stands w h Kernel kernel in
      let same : k.hart ≡ r.hart = same_Some k.hart r.hart (sym k.there ∙ r.there) in
      let in_kernel : is_kernel (r.hart).phase ≡ true = ap (λ (x : Hart). is_kernel x.phase) (sym same) ∙ ap is_kernel k.in_phase in
      let slot : (r.hart).slot ≡ Some s = has_it w h s r.hart on.there r.there in
      ap is_unserved (sym on.lives) ∙ ap (λ o. is_unserved (process_of_slot w o)) (sym slot) ∙ not_both (is_kernel (r.hart).phase) (awaits_service w r.hart) in_kernel (and_parts _ _ r.can).1
    where
      not_both : (a b : Bool) → a ≡ true → not (a && b) ≡ true → b ≡ false
      not_both true true e f = absurd cc
      not_both true false e f = refl
      not_both false b e f = absurd cc

  -- ---- switches

  some_is : (o : Option Process) → is_some o ≡ true → (p : Process) × (o ≡ Some p)
  some_is None e = absurd cc
  some_is (Some p) e = (p, refl)

  pub switch_was : (h s : ℕ) → IsMade (step w (step_of.Switch h (Some s))).reply → (p : Process) × (process_in w s ≡ Some p) × ((k : ℕ) → slot_on w k ≢ Some s)
  switch_was h s made =
      let r = ran_on w h _ _ _ _ (was_made w (step_of.Switch h (Some s)) made) in
      let run : can_run w (Some s) ≡ true = (and_parts (may_switch (r.hart).phase) (can_run w (Some s)) r.can).1 in
      let parts = and_parts (is_some (process_in w s)) _ run in
      let it = some_is (process_in w s) parts.0 in
      (it.0, it.1, none_on w.harts s (not_true _ parts.1))

  switching : (phase : Phase) → may_switch phase ≡ true → (phase ≡ Idle) ⊎ (phase ≡ Kernel)
  switching Idle e = inl refl
  switching Kernel e = inr refl
  switching User e = absurd cc
  switching Enter0 e = absurd cc
  switching Enter1 e = absurd cc
  switching Enter2 e = absurd cc
  switching Leave1 e = absurd cc
  switching Leave2 e = absurd cc

  pub switch_phase : (h s : ℕ) → IsMade (step w (step_of.Switch h (Some s))).reply → IsInPhase w h Idle ⊎ IsInPhase w h Kernel
  switch_phase h s made =
      let r = ran_on w h _ _ _ _ (was_made w (step_of.Switch h (Some s)) made) in
      let is : IsInPhase w h (r.hart).phase = ap (option_map (λ (hart : Hart). hart.phase)) r.there in
      elim (switching (r.hart).phase (and_parts (may_switch (r.hart).phase) (can_run w (Some s)) r.can).0) [
        | inl idle ↦ inl (is ∙ ap Some idle)
        | inr kernel ↦ inr (is ∙ ap Some kernel)
      ]

  pub switch_off : (h : ℕ) → IsMade (step w (step_of.Switch h None)).reply → (slot_on (step w (step_of.Switch h None)).world h ≡ None) × IsInPhase (step w (step_of.Switch h None)).world h Idle
  switch_off h made =
      let r = ran_on w h true (λ hart. may_switch hart.phase && can_run w None) always (λ hart. answers (with_hart w h (record hart { phase = phase_for None; slot = None })) (Scalar Done)) (was_made w (step_of.Switch h None) made) in
      let hart = record r.hart { phase = Idle; slot = None } in
      let at : At (with_hart w h hart) h None Idle = put_at w h r.hart hart r.there in
      let there = step_at w (step_of.Switch h None) h None Idle (subst (λ (o : StepOutcome). At o.world h None Idle) (sym r.is) at) in
      (there.on, there.is_in)

  -- ---- replies

  pub exit_tells : (h : ℕ) (status code : ℤ) → (step w (step_of.Exit h status)).reply ≡ Scalar (Exited code) → code ≡ status
  exit_tells h status code is = kernel_good w (λ (o : StepOutcome). o.reply ≡ Scalar (Exited code) → code ≡ status) (λ r e. absurd cc) h true _ (λ hart t p on here e. cc) (sym (step_reply w (step_of.Exit h status)) ∙ is)

  pub fetch_tells : (h offset n : ℕ) (via : Option ℕ) → (step w (step_of.TrampolineFetch h offset via)).reply ≡ Scalar (InFrame n) → n ≡ 0
  fetch_tells h offset n via is = on_hart_good w (λ (o : StepOutcome). o.reply ≡ Scalar (InFrame n) → n ≡ 0) (λ r e. absurd cc) h _ _ _ _ (λ hart there fits e. cc) (sym (step_reply w (step_of.TrampolineFetch h offset via)) ∙ is)
