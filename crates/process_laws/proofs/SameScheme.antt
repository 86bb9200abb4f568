-- `HasScheme`, and the lemma that it holds in every run since boot: the world and each process have the translation scheme
-- (Sv39 or Sv48) of the boot configuration.
use Rattle.std.proofs.Common.{◌≡◌, ℕ, refl, sym, ◌∙◌, List, [], ◌∷◌, Some}
use Rattle.process_laws.proofs.EveryChange.{always_holds, IsKept}
use Rattle.process_laws.proofs.StepReplies.{step_suits}
use Rattle.process_model.specs.Files.{File}
use Rattle.process_model.specs.Images.{LoadSegment}
use Rattle.process_model.specs.ImageProcess.{process_of}
use Rattle.process_model.specs.Process.{Process}
use Rattle.process_model.specs.Steps.{run, step}
use Rattle.process_model.specs.World.{booted, process_in, World}
use Rattle.process_model.specs.declared.config.Config.{Config}
use Rattle.process_model.specs.declared.step.Step.{Step}
use Rattle.sv39_entry.specs.declared.scheme.Scheme.{Scheme}

made_of : (z : Scheme) (n : ℕ) (ls : List LoadSegment) → (process_of z n ls).scheme ≡ z
unfolding process_of
made_of z n ls = refl

scheme_is_kept : (z : Scheme) → IsKept z (λ n p. p.scheme ≡ z)
scheme_is_kept z = record {
  later = λ n m p le is. is;
  made = λ y same n image ls e. made_of y n ls ∙ same;
  settled = λ n files p access address granted none is. is;
  taken = λ n shared p page x e is. is;
  written = λ n p page x bytes e long is. is;
  awaiting = λ n p a is. is;
  sized = λ n p wanted none is. is;
  mapping = λ n files p len protection flags file first none place is. is;
  unmapping = λ n p m first end le around one is. is;
  parent = λ n p is. is;
  child = λ n p is. is;
}

run_scheme : (w : World) (steps : List Step) → (run w steps).world.scheme ≡ w.scheme
run_scheme w [] = refl
run_scheme w (x ∷ xs) = run_scheme (step w x).world xs ∙ (step_suits w x).scheme

pub record HasScheme (z : Scheme) (w : World) : Type 0 where
  pub world : w.scheme ≡ z
  pub processes : (s : ℕ) (p : Process) → process_in w s ≡ Some p → p.scheme ≡ w.scheme

pub always_scheme : (c : Config) (files : List File) (steps : List Step) → HasScheme c.scheme (run (booted c files) steps).world
always_scheme c files steps =
    let world = run_scheme (booted c files) steps in
    record { world = world; processes = λ s p lives. (always_holds (λ n p. p.scheme ≡ c.scheme) c files steps (scheme_is_kept c.scheme)).each s p lives ∙ sym world }
