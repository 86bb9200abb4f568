-- Lemma: a step of a process is made (not refused) only on a hart that has one.
use Rattle.std.proofs.Common.{◌≡◌, ℕ, true, refl, sym, subst, Some}
use Rattle.std.proofs.lemmas.Option.{same_Some}
use Rattle.process_laws.proofs.OnHarts.{access_good, its_good, kernel_good, on_hart_good}
use Rattle.process_laws.proofs.Running.{was_made}
use Rattle.process_laws.specs.Moments.{slot_on}
use Rattle.process_laws.specs.Words.{IsMade, IsOnHart, hart_of_step}
use Rattle.process_model.specs.Process.{Process}
use Rattle.process_model.specs.Steps.{plain_step, step}
use Rattle.process_model.specs.World.{StepOutcome, process_in, refuses, World}
use Rattle.process_model.specs.declared.reply.Refusal.{Refusal}
use Rattle.process_model.specs.declared.step.Step.{Step}
use Rattle.process_model.specs.declared.step.Step.TheVariants as step_of
use Rattle.sv39_entry.specs.declared.access.Access.TheVariants as access

-- ---- who makes a step

abbrev pub Hosts : World → ℕ → Type 0
Hosts w h = (s : ℕ) × (p : Process) × IsOnHart w h s p

module _ (w : World) (h : ℕ) where
  abbrev Hosted : StepOutcome → Type 0
  Hosted o = IsMade o.reply → Hosts w h

  unmade : (r : Refusal) → Hosted (refuses w r)
  unmade r made = absurd (made r refl)

  there : (t : ℕ) (p : Process) → slot_on w h ≡ Some t → process_in w t ≡ Some p → Hosts w h
  there t p on lives = (t, p, record { there = on; lives = lives })

  hosted : (x : Step) → hart_of_step x ≡ Some h → Hosted (plain_step w x)
  hosted (step_of.Start image) e = absurd cc
  hosted (step_of.Switch k slot) e = absurd cc
  hosted (step_of.Trap k) e = subst (λ n. Hosted (plain_step w (step_of.Trap n))) (sym (same_Some k h e)) (on_hart_good w Hosted unmade h true _ _ _ (λ hart is _. its_good w Hosted unmade h hart _ is (λ t p on here made. there t p on here)))
  hosted (step_of.Next k) e = absurd cc
  hosted (step_of.Fill k address) e = absurd cc
  hosted (step_of.Evict k n) e = absurd cc
  hosted (step_of.Fetch k address via) e = subst (λ n. Hosted (plain_step w (step_of.Fetch n address via))) (sym (same_Some k h e))
      (access_good w Hosted unmade h access.Fetch address 4 0 via (λ hart t p cause here on made. there t p on here) (λ hart t p page here on is fits made. there t p on here))
  hosted (step_of.Load k address width via) e = subst (λ n. Hosted (plain_step w (step_of.Load n address width via))) (sym (same_Some k h e))
      (access_good w Hosted unmade h access.Load address width 0 via (λ hart t p cause here on made. there t p on here) (λ hart t p page here on is fits made. there t p on here))
  hosted (step_of.Store k address width value via) e = subst (λ n. Hosted (plain_step w (step_of.Store n address width value via))) (sym (same_Some k h e))
      (access_good w Hosted unmade h access.Store address width value via (λ hart t p cause here on made. there t p on here) (λ hart t p page here on is fits made. there t p on here))
  hosted (step_of.TrampolineFetch k offset via) e = absurd cc
  hosted (step_of.Serve k) e = subst (λ n. Hosted (plain_step w (step_of.Serve n))) (sym (same_Some k h e)) (on_hart_good w Hosted unmade h true _ _ _ (λ hart is _. its_good w Hosted unmade h hart _ is (λ t p on here made. there t p on here)))
  hosted (step_of.Fork k) e = subst (λ n. Hosted (plain_step w (step_of.Fork n))) (sym (same_Some k h e)) (kernel_good w Hosted unmade h _ _ (λ hart t p on here made. there t p on here))
  hosted (step_of.Exec k image) e = subst (λ n. Hosted (plain_step w (step_of.Exec n image))) (sym (same_Some k h e)) (kernel_good w Hosted unmade h _ _ (λ hart t p on here made. there t p on here))
  hosted (step_of.Sbrk k delta) e = subst (λ n. Hosted (plain_step w (step_of.Sbrk n delta))) (sym (same_Some k h e)) (kernel_good w Hosted unmade h _ _ (λ hart t p on here made. there t p on here))
  hosted (step_of.Mmap k len protection flags i) e = subst (λ n. Hosted (plain_step w (step_of.Mmap n len protection flags i))) (sym (same_Some k h e)) (kernel_good w Hosted unmade h _ _ (λ hart t p on here made. there t p on here))
  hosted (step_of.Munmap k address len) e = subst (λ n. Hosted (plain_step w (step_of.Munmap n address len))) (sym (same_Some k h e)) (kernel_good w Hosted unmade h _ _ (λ hart t p on here made. there t p on here))
  hosted (step_of.CopyIn k address i) e = subst (λ n. Hosted (plain_step w (step_of.CopyIn n address i))) (sym (same_Some k h e)) (kernel_good w Hosted unmade h _ _ (λ hart t p on here made. there t p on here))
  hosted (step_of.CopyOut k address bytes) e = subst (λ n. Hosted (plain_step w (step_of.CopyOut n address bytes))) (sym (same_Some k h e)) (kernel_good w Hosted unmade h _ _ (λ hart t p on here made. there t p on here))
  hosted (step_of.Exit k status) e = subst (λ n. Hosted (plain_step w (step_of.Exit n status))) (sym (same_Some k h e)) (kernel_good w Hosted unmade h _ _ (λ hart t p on here made. there t p on here))

  pub step_hosted : (x : Step) → hart_of_step x ≡ Some h → IsMade (step w x).reply → Hosts w h
  step_hosted x e made = hosted x e (was_made w x made)
