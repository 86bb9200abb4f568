-- Lemmas: no process is on two harts, after any step that starts so, and in every run since boot.
use Rattle.std.proofs.Common.{◌≡◌, ◌≢◌, ◌⊎◌, ℕ, zero, suc, ap, sym, ◌∙◌, inl, inr, List, [], ◌∷◌, Option, None, Some}
use Rattle.std.specs.Prelude.{replicate, slice_get}
use Rattle.std.proofs.lemmas.Bool.{cases_eq}
use Rattle.std.proofs.lemmas.Option.{same_Some}
use Rattle.process_laws.proofs.Kept.{step_keeps}
use Rattle.process_laws.specs.Moments.{slot_at, slot_on}
use Rattle.process_laws.specs.Words.{moved_hart}
use Rattle.process_model.specs.Files.{File}
use Rattle.process_model.specs.Harts.{idle_hart}
use Rattle.process_model.specs.Steps.{run, step}
use Rattle.process_model.specs.World.{booted, World}
use Rattle.process_model.specs.declared.config.Config.{Config}
use Rattle.process_model.specs.declared.step.Step.{Step}

abbrev pub OneEach : World → Type 0
OneEach w = (h k s : ℕ) → slot_on w h ≡ Some s → slot_on w k ≡ Some s → h ≡ k

is_moved : (o : Option ℕ) (h : ℕ) → (o ≡ Some h) ⊎ (o ≢ Some h)
is_moved None h = inr (λ e. absurd cc)
is_moved (Some n) h = elim (cases_eq n h) [ inl same ↦ inl (ap Some same) | inr apart ↦ inr (λ e. apart (same_Some n h e)) ]

module _ (w : World) (x : Step) (one : OneEach w) where
  -- of two harts with one process the step does not move the second
  both_on : (h k s : ℕ) → slot_on (step w x).world h ≡ Some s → slot_on (step w x).world k ≡ Some s → moved_hart x (step w x).reply ≢ Some k → h ≡ k
  both_on h k s on also still =
      let had : slot_on w k ≡ Some s = sym ((step_keeps w x).harts k still).0 ∙ also in
      elim ((step_keeps w x).comes h s on) [ inl was ↦ one h k s was had | inr fresh ↦ absurd (fresh k had) ]

  pub one_after : OneEach (step w x).world
  one_after h k s on also = elim (is_moved (moved_hart x (step w x).reply) k) [
    | inl moves ↦ elim (cases_eq h k) [
      | inl same ↦ same
      | inr apart ↦ sym (both_on k h s also on (λ e. apart (same_Some h k (sym e ∙ moves))))
    ]
    | inr still ↦ both_on h k s on also still
  ]

idle_none : (n h s : ℕ) → slot_at (slice_get (replicate n idle_hart) h) ≡ Some s → ⊥
idle_none zero h s e = cc
idle_none (suc n) zero s e = cc
idle_none (suc n) (suc h) s e = idle_none n h s e

one_run : (xs : List Step) (w : World) → OneEach w → OneEach (run w xs).world
one_run [] w one = one
one_run (x ∷ xs) w one = one_run xs (step w x).world (one_after w x one)

-- in every run
pub always_one : (c : Config) (files : List File) (xs : List Step) → OneEach (run (booted c files) xs).world
always_one c files xs = one_run xs (booted c files) (λ h k s on also. absurd (idle_none c.harts h s on))
