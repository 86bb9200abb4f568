-- Lemma: a process stays as it is through every step that is not made by it, or for it, on its own hart.
use Rattle.std.proofs.Common.{◌≡◌, ◌≢◌, ℕ, refl, sym, ap, ◌∙◌, Option, Some}
use Rattle.process_laws.specs.Words.{hart_of, hart_of_step}
use Rattle.process_laws.proofs.OnHarts.{on_hart_good}
use Rattle.process_laws.proofs.Untouched.{other_kept}
use Rattle.process_laws.specs.Moments.{slot_at, slot_on}
use Rattle.process_model.specs.Process.{Process}
use Rattle.process_model.specs.Stale.{with_stale_slots}
use Rattle.process_model.specs.Steps.{plain_step}
use Rattle.process_model.specs.Steps as steps
use Rattle.process_model.specs.World.{StepOutcome, process_in, World}
use Rattle.process_model.specs.declared.config.Policy.{Policy}
use Rattle.process_model.specs.declared.config.Policy.TheVariants.{Full, Asid}
use Rattle.process_model.specs.declared.step.Step.{Step}
use Rattle.process_model.specs.declared.step.Step.TheVariants as step

module _ (t : ℕ) (q : Process) where
  abbrev Kept : StepOutcome → Type 0
  Kept o = process_in o.world t ≡ Some q

  marks_keep_it : (policy : Policy) (w : World) (o : StepOutcome) → Kept o → Kept (with_stale_slots policy w o)
  marks_keep_it Full w o k = k
  marks_keep_it Asid w o k = k

  switch_kept : (w : World) (h : ℕ) (slot : Option ℕ) → process_in w t ≡ Some q → Kept (plain_step w (step.Switch h slot))
  switch_kept w h slot k = on_hart_good w Kept (λ r. k) h _ _ _ _ (λ hart is proper. k)

  next_kept : (w : World) (h : ℕ) → process_in w t ≡ Some q → Kept (plain_step w (step.Next h))
  next_kept w h k = on_hart_good w Kept (λ r. k) h _ _ _ _ (λ hart is proper. k)

  fill_kept : (w : World) (h address : ℕ) → process_in w t ≡ Some q → Kept (plain_step w (step.Fill h address))
  fill_kept w h address k = on_hart_good w Kept (λ r. k) h _ _ _ _ (λ hart is proper. k)

  evict_kept : (w : World) (h n : ℕ) → process_in w t ≡ Some q → Kept (plain_step w (step.Evict h n))
  evict_kept w h n k = on_hart_good w Kept (λ r. k) h _ _ _ _ (λ hart is proper. k)

  tramp_kept : (w : World) (h offset : ℕ) (via : Option ℕ) → process_in w t ≡ Some q → Kept (plain_step w (step.TrampolineFetch h offset via))
  tramp_kept w h offset via k = on_hart_good w Kept (λ r. k) h _ _ _ _ (λ hart is proper. k)

  marked_kept : (w : World) (x : Step) → Kept (plain_step w x) → Kept (steps.step w x)
  unfolding steps.step
  marked_kept w x k = marks_keep_it w.policy w (plain_step w x) k

  by_its_own : (w : World) (x : Step) → ((h : ℕ) → hart_of_step x ≡ Some h → slot_on w h ≢ Some t) → hart_of x ≡ hart_of_step x → process_in w t ≡ Some q → Kept (steps.step w x)
  by_its_own w x apart same k = other_kept w x t q (λ h hart e is on. apart h (sym same ∙ e) (ap slot_at is ∙ on)) k

  pub kept_by : (w : World) (x : Step) → ((h : ℕ) → hart_of_step x ≡ Some h → slot_on w h ≢ Some t) → process_in w t ≡ Some q → Kept (steps.step w x)
  kept_by w (step.Start image) apart k = by_its_own w (step.Start image) apart refl k
  kept_by w (step.Switch h slot) apart k = marked_kept w (step.Switch h slot) (switch_kept w h slot k)
  kept_by w (step.Trap h) apart k = by_its_own w (step.Trap h) apart refl k
  kept_by w (step.Next h) apart k = marked_kept w (step.Next h) (next_kept w h k)
  kept_by w (step.Fill h address) apart k = marked_kept w (step.Fill h address) (fill_kept w h address k)
  kept_by w (step.Evict h n) apart k = marked_kept w (step.Evict h n) (evict_kept w h n k)
  kept_by w (step.Fetch h address via) apart k = by_its_own w (step.Fetch h address via) apart refl k
  kept_by w (step.Load h address width via) apart k = by_its_own w (step.Load h address width via) apart refl k
  kept_by w (step.Store h address width value via) apart k = by_its_own w (step.Store h address width value via) apart refl k
  kept_by w (step.TrampolineFetch h offset via) apart k = marked_kept w (step.TrampolineFetch h offset via) (tramp_kept w h offset via k)
  kept_by w (step.Serve h) apart k = by_its_own w (step.Serve h) apart refl k
  kept_by w (step.Fork h) apart k = by_its_own w (step.Fork h) apart refl k
  kept_by w (step.Exec h image) apart k = by_its_own w (step.Exec h image) apart refl k
  kept_by w (step.Sbrk h delta) apart k = by_its_own w (step.Sbrk h delta) apart refl k
  kept_by w (step.Mmap h len protection flags n) apart k = by_its_own w (step.Mmap h len protection flags n) apart refl k
  kept_by w (step.Munmap h address len) apart k = by_its_own w (step.Munmap h address len) apart refl k
  kept_by w (step.CopyIn h address n) apart k = by_its_own w (step.CopyIn h address n) apart refl k
  kept_by w (step.CopyOut h address bytes) apart k = by_its_own w (step.CopyOut h address bytes) apart refl k
  kept_by w (step.Exit h status) apart k = by_its_own w (step.Exit h status) apart refl k
