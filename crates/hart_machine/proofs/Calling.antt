-- Lemmas for kernel calls of the process on a hart: when the model refuses one because of the hart's phase or a waiting
-- access, and that else the process is in the kernel (`is_in_kernel`) and the call runs (`call_runs`).
use Rattle.std.proofs.Common.{◌≡◌, ◌⊎◌, ℕ, Bool, true, false, not, ◌&&◌, None, Some, option_map, refl, ap, sym, ◌∙◌, inl, inr}
use Rattle.std.specs.Bool.{beq}
use Rattle.std.specs.Prelude.{slice_get}
use Rattle.std.proofs.lemmas.Option.{slice_get-map}
use Rattle.process_model.specs.Harts as model
use Rattle.process_model.specs.Process.{Process}
use Rattle.process_model.specs.World.{always, awaits_service, flat, is_unserved, StepOutcome, process_of_slot, refuses, World}
use Rattle.process_model.specs.declared.phase.Phase.{Phase}
use Rattle.process_model.specs.declared.phase.Phase.TheVariants as phase
use Rattle.process_model.specs.declared.reply.Refusal.TheVariants.{Impossible}
use Rattle.hart_machine.specs.Calls.{call_while, IsInKernel, waits_as}
use Rattle.hart_machine.specs.Harts.{hart_of}
use Rattle.hart_machine.specs.Worlds.{IsWorldButBuffers}
use Rattle.hart_machine.specs.declared.machine.Machine.{Machine}
use Rattle.hart_machine.proofs.HartSteps.{HasHart, impossible, its_process, process_at, runs}

kernel_is : (p : Phase) → model.is_kernel p ≡ true → p ≡ phase.Kernel
kernel_is phase.Kernel e = refl
kernel_is phase.User e = absurd (cc)
kernel_is phase.Idle e = absurd (cc)
kernel_is phase.Enter0 e = absurd (cc)
kernel_is phase.Enter1 e = absurd (cc)
kernel_is phase.Enter2 e = absurd (cc)
kernel_is phase.Leave1 e = absurd (cc)
kernel_is phase.Leave2 e = absurd (cc)

-- a hart of which the phase or the process is another
neither : (a b waits : Bool) → (a ≡ false) ⊎ (not (beq b waits) ≡ true) → (a && waits_as b waits) ≡ false
neither false b waits either = refl
neither true b waits (inl e) = absurd (cc)
neither true true true (inr e) = absurd (cc)
neither true true false (inr e) = refl
neither true false true (inr e) = refl
neither true false false (inr e) = absurd (cc)

pub not_differing : (a b : Bool) → not (beq a b) ≡ false → a ≡ b
not_differing true true e = refl
not_differing true false e = absurd (cc)
not_differing false true e = absurd (cc)
not_differing false false e = refl

module _ (m : Machine) (w : World) (is : IsWorldButBuffers m w) (h : ℕ) (p : Phase) (has : HasHart m w h p) (waits : Bool) where
  pub not_in_kernel : (run : model.Hart → ℕ → Process → StepOutcome) → (model.is_kernel p ≡ false) ⊎ (not (beq (awaits_service w (hart_of has.hart)) waits) ≡ true)
      → call_while w h waits run ≡ refuses w (Impossible p)
  not_in_kernel run fails =
      impossible w h true (λ x. model.is_kernel x.phase && waits_as (awaits_service w x) waits) always _ (hart_of has.hart) has.in_model refl
      (ap (λ q. model.is_kernel q && waits_as (awaits_service w (hart_of has.hart)) waits) has.phased ∙ neither (model.is_kernel p) (awaits_service w (hart_of has.hart)) waits fails)
      ∙ ap (λ q. refuses w (Impossible q)) has.phased

  -- a hart in the kernel has a process
  pub kernel_has_slot : model.is_kernel p ≡ true → has.hart.slot ≡ None → ⊥
  kernel_has_slot kernel none = let both : phase.Kernel ≡ phase.Idle = sym (kernel_is p kernel) ∙ sym has.phased ∙ is.idle h has.hart has.there none in cc

  pub is_in_kernel : model.is_kernel p ≡ true → awaits_service w (hart_of has.hart) ≡ waits → (s : ℕ) → has.hart.slot ≡ Some s → IsInKernel m w h s waits
  is_in_kernel kernel awaits s on =
      let t = is.hosted h s has.hart has.there on in
      let q = process_at m w is s t.0 t.1 in
      record {
        hart = has.hart;
        there = has.there;
        in_kernel = has.phased ∙ kernel_is p kernel;
        on = on;
        slot_process = t.0;
        place = t.1;
        process = q.0;
        in_slot = q.1;
        unserved = ap (λ o. is_unserved (flat o)) (sym q.1) ∙ ap (λ o. is_unserved (process_of_slot w o)) (sym on) ∙ awaits;
      }

module _ (m : Machine) (w : World) (is : IsWorldButBuffers m w) (h s : ℕ) (waits : Bool) (k : IsInKernel m w h s waits) where
  pub in_model : slice_get w.harts h ≡ Some (hart_of k.hart)
  in_model = ap (λ hs. slice_get hs h) (sym is.harts) ∙ slice_get-map hart_of m.harts.items h ∙ ap (option_map hart_of) k.there

  pub call_runs : (run : model.Hart → ℕ → Process → StepOutcome) (p : Process) → slice_get w.slots s ≡ Some (Some p) → call_while w h waits run ≡ run (hart_of k.hart) s p
  call_runs run p at =
      runs w h true (λ x. model.is_kernel x.phase && waits_as (awaits_service w x) waits) always _ (hart_of k.hart) in_model refl can refl ∙ its_process w (hart_of k.hart) _ s p k.on at where
        as_it_is : (b : Bool) → waits_as b b ≡ true
        as_it_is true = refl
        as_it_is false = refl

        can : (model.is_kernel k.hart.phase && waits_as (awaits_service w (hart_of k.hart)) waits) ≡ true
        can = rw (k.in_kernel, k.on, k.in_slot, k.unserved) (as_it_is waits)
