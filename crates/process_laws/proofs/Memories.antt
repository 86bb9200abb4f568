-- Lemmas by which a claim with one number, the same for every size of the memory (`InEach`), passes from what a kernel call
-- or a service runs to the whole step; a refusal has number 0.
use Rattle.std.proofs.Common.{◌≡◌, ℕ, Bool, true, false, cond, not, refl, sym, subst, ◌∙◌, Option, None, Some}
use Rattle.std.specs.Prelude.{slice_get}
use Rattle.process_laws.specs.Words.{in_memory, is_no_frame_reply}
use Rattle.process_model.specs.Harts.{Hart}
use Rattle.process_model.specs.Process.{Process}
use Rattle.process_model.specs.World.{always, can_call, can_serve, common_refusal, is_unserved, kernel_call, on_hart, on_hart_at, StepOutcome, process_in, process_of_slot, refuses, unless_refused, with_its_process, with_process_of, with_slot_of, World}
use Rattle.process_model.specs.declared.reply.Refusal.{Refusal}
use Rattle.process_model.specs.declared.reply.Refusal.TheVariants as refusal
use Rattle.process_model.specs.declared.reply.ScalarReply.TheVariants.{Refused}
use Rattle.process_model.specs.declared.reply.Reply.TheVariants.{Scalar}

-- P says of a world and an outcome of a step there what the number is to say
module _ (P : World → StepOutcome → ℕ → Type 0) (w : World) (quiet : (m : ℕ) (r : Refusal) → is_no_frame_reply (Scalar (Refused r)) ≡ false → P (in_memory w m) (refuses (in_memory w m) r) 0) where
  abbrev pub at : ℕ → World
  at m = in_memory w m

  -- by the same number, however many frames there are
  unfoldable pub InEach : (World → StepOutcome) → Type 0
  InEach f = (n : ℕ) × ((m : ℕ) → P (at m) (f (at m)) n)

  refused : (r : Refusal) → is_no_frame_reply (Scalar (Refused r)) ≡ false → InEach (λ u. refuses u r)
  unfolding InEach
  refused r e = (0, λ m. quiet m r e)

  module _ (h : ℕ) (possible : World → Hart → Bool) (run : World → Hart → ℕ → Process → StepOutcome)
      (same : (m : ℕ) (hart : Hart) → possible (at m) hart ≡ possible w hart)
      (each : (hart : Hart) (s : ℕ) (p : Process) → process_in w s ≡ Some p → InEach (λ u. run u hart s p)) where
    of_process : (hart : Hart) (s : ℕ) (o : Option Process) → process_in w s ≡ o → InEach (λ u. with_process_of u hart.phase (run u hart) s o)
    unfolding InEach
    of_process hart s None e = refused (refusal.Impossible hart.phase) refl
    of_process hart s (Some p) e = each hart s p e

    of_slot : (hart : Hart) (o : Option ℕ) → InEach (λ u. with_slot_of u hart.phase (run u hart) o)
    unfolding InEach
    of_slot hart None = refused (refusal.Impossible hart.phase) refl
    of_slot hart (Some s) = of_process hart s (process_in w s) refl

    of_hart : (hart : Hart) → InEach (λ u. with_its_process u hart (run u hart))
    unfolding InEach with_its_process
    of_hart hart = of_slot hart hart.slot

    chosen : (hart : Hart) (b : Bool) → InEach (λ u. unless_refused u (λ hart. with_its_process u hart (run u hart)) hart (cond (not b) (Some (refusal.Impossible hart.phase)) None))
    unfolding InEach
    chosen hart false = refused (refusal.Impossible hart.phase) refl
    chosen hart true = of_hart hart

    if_possible : (hart : Hart) (b : Bool) → possible w hart ≡ b → InEach (λ u. unless_refused u (λ hart. with_its_process u hart (run u hart)) hart (common_refusal hart true (possible u) always))
    unfolding InEach
    if_possible hart b e = let t = chosen hart b in (
      t.0,
      λ m. subst (λ c. P (at m) (unless_refused (at m) (λ hart. with_its_process (at m) hart (run (at m) hart)) hart (cond (not c) (Some (refusal.Impossible hart.phase)) None)) t.0) (sym (same m hart ∙ e)) (t.1 m),
    )

    at_hart : (o : Option Hart) → InEach (λ u. on_hart_at u true (possible u) always (λ hart. with_its_process u hart (run u hart)) o)
    unfolding InEach
    at_hart None = refused refusal.BadArgument refl
    at_hart (Some hart) = if_possible hart _ refl

    on_its_hart : InEach (λ u. on_hart u h true (possible u) always (λ hart. with_its_process u hart (run u hart)))
    unfolding InEach on_hart
    on_its_hart = at_hart (slice_get w.harts h)

  waits_same : (m : ℕ) (o : Option ℕ) → is_unserved (process_of_slot (at m) o) ≡ is_unserved (process_of_slot w o)
  waits_same m None = refl
  waits_same m (Some s) = refl

  call_same : (m : ℕ) (hart : Hart) → can_call (at m) hart ≡ can_call w hart
  call_same m hart = rw (waits_same m hart.slot)

  serve_same : (m : ℕ) (hart : Hart) → can_serve (at m) hart ≡ can_serve w hart
  serve_same m hart = rw (waits_same m hart.slot)

  improper_at : (run : World → Hart → ℕ → Process → StepOutcome) (o : Option Hart) → InEach (λ u. on_hart_at u false (can_call u) always (λ hart. with_its_process u hart (run u hart)) o)
  unfolding InEach
  improper_at run None = refused refusal.BadArgument refl
  improper_at run (Some hart) = refused refusal.BadArgument refl

  improper : (h : ℕ) (run : World → Hart → ℕ → Process → StepOutcome) → InEach (λ u. on_hart u h false (can_call u) always (λ hart. with_its_process u hart (run u hart)))
  unfolding InEach on_hart
  improper h run = improper_at run (slice_get w.harts h)

  -- a call with an argument that may not be proper
  pub each_call : (h : ℕ) (proper : Bool) (run : World → Hart → ℕ → Process → StepOutcome) → ((hart : Hart) (s : ℕ) (p : Process) → process_in w s ≡ Some p → InEach (λ u. run u hart s p)) → InEach (λ u. kernel_call u h proper (run u))
  unfolding InEach
  each_call h true run each = on_its_hart h can_call run call_same each
  each_call h false run each = improper h run

  -- a service
  pub each_service : (h : ℕ) (run : World → Hart → ℕ → Process → StepOutcome) → ((hart : Hart) (s : ℕ) (p : Process) → process_in w s ≡ Some p → InEach (λ u. run u hart s p))
      → InEach (λ u. on_hart u h true (can_serve u) always (λ hart. with_its_process u hart (run u hart)))
  unfolding InEach
  each_service h run each = on_its_hart h can_serve run serve_same each
