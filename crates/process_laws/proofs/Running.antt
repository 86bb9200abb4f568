-- Lemmas about a step on a hart: what it runs if nothing refuses it, and, if it was made (not refused), that the hart was
-- there, the arguments proper and the step possible (`Ran`). Marks of stale TLB entries change neither processes nor the
-- reply.
use Rattle.std.proofs.Common.{◌≡◌, ℕ, zero, suc, Bool, true, false, not, refl, sym, ap, ◌∙◌, List, [], ◌∷◌, Option, None, Some}
use Rattle.std.specs.Prelude.{slice_get, slice_set}
use Rattle.process_laws.specs.Moments.{slot_at, slot_on}
use Rattle.process_laws.specs.Words.{IsMade}
use Rattle.process_model.specs.Bytes.{first_true}
use Rattle.process_model.specs.Harts.{Hart}
use Rattle.process_model.specs.Process.{Process}
use Rattle.process_model.specs.Stale.{with_stale_slots}
use Rattle.process_model.specs.Steps.{plain_step, step}
use Rattle.process_model.specs.World.{common_refusal, flat, on_hart, on_hart_at, StepOutcome, process_in, unless_refused, with_its_process, World}
use Rattle.process_model.specs.declared.config.Policy.{Policy}
use Rattle.process_model.specs.declared.config.Policy.TheVariants.{Full, Asid}
use Rattle.process_model.specs.declared.reply.Refusal.{Refusal}
use Rattle.process_model.specs.declared.reply.Refusal.TheVariants as refusal
use Rattle.process_model.specs.declared.step.Step.{Step}

-- a slot that has a process has the one that is put there
pub set_lives : (slots : List (Option Process)) (s : ℕ) (p q : Process) → flat (slice_get slots s) ≡ Some p → flat (slice_get (slice_set slots s (Some q)) s) ≡ Some q
set_lives [] s p q e = absurd cc
set_lives (z ∷ zs) zero p q e = refl
set_lives (z ∷ zs) (suc s) p q e = set_lives zs s p q e

-- marks change no process and no reply

marks_process : (policy : Policy) (w : World) (o : StepOutcome) (s : ℕ) → process_in (with_stale_slots policy w o).world s ≡ process_in o.world s
marks_process Full w o s = refl
marks_process Asid w o s = refl

marks_reply : (policy : Policy) (w : World) (o : StepOutcome) → (with_stale_slots policy w o).reply ≡ o.reply
marks_reply Full w o = refl
marks_reply Asid w o = refl

pub step_process : (w : World) (x : Step) (s : ℕ) → process_in (step w x).world s ≡ process_in (plain_step w x).world s
unfolding step
step_process w x s = marks_process w.policy w (plain_step w x) s

pub step_reply : (w : World) (x : Step) → (step w x).reply ≡ (plain_step w x).reply
unfolding step
step_reply w x = marks_reply w.policy w (plain_step w x)

pub was_made : (w : World) (x : Step) → IsMade (step w x).reply → IsMade (plain_step w x).reply
was_made w x n e f = n e (step_reply w x ∙ f)

-- the hart's slot
pub has_it : (w : World) (h s : ℕ) (hart : Hart) → slot_on w h ≡ Some s → slice_get w.harts h ≡ Some hart → hart.slot ≡ Some s
has_it w h s hart on there = ap slot_at (sym there) ∙ on

-- what runs, where nothing refuses it

pub hart_runs : (w : World) (h : ℕ) (proper : Bool) (possible entry : Hart → Bool) (run : Hart → StepOutcome) (hart : Hart)
    → slice_get w.harts h ≡ Some hart → proper ≡ true → possible hart ≡ true → entry hart ≡ true → on_hart w h proper possible entry run ≡ run hart
unfolding on_hart
hart_runs w h proper possible entry run hart there a b c = rw (there, a, b, c)

pub process_runs : (w : World) (hart : Hart) (run : ℕ → Process → StepOutcome) (s : ℕ) (p : Process) → hart.slot ≡ Some s → process_in w s ≡ Some p → with_its_process w hart run ≡ run s p
unfolding with_its_process
process_runs w hart run s p runs lives = rw (runs, lives)

-- what ran, since it was not refused

-- the hart is there, what is asked is proper and possible, and this is what ran
pub record Ran (w : World) (h : ℕ) (proper : Bool) (possible : Hart → Bool) (run : Hart → StepOutcome) (o : StepOutcome) : Type 0 where
  pub hart : Hart
  pub there : slice_get w.harts h ≡ Some hart
  pub fits : proper ≡ true
  pub can : possible hart ≡ true
  pub is : o ≡ run hart

pub none_refuses : (a b c : Bool) (x y z : Refusal) → first_true ((not a, x) ∷ (not b, y) ∷ (not c, z) ∷ []) ≡ None → (a ≡ true) × (b ≡ true)
none_refuses true true c x y z e = (refl, refl)
none_refuses true false c x y z e = absurd cc
none_refuses false b c x y z e = absurd cc

ran_unless : (w : World) (run : Hart → StepOutcome) (hart : Hart) (o : Option Refusal) → IsMade (unless_refused w run hart o).reply → (o ≡ None) × (unless_refused w run hart o ≡ run hart)
ran_unless w run hart (Some r) n = absurd (n r refl)
ran_unless w run hart None n = (refl, refl)

ran_at : (w : World) (h : ℕ) (proper : Bool) (possible entry : Hart → Bool) (run : Hart → StepOutcome) (o : Option Hart) → slice_get w.harts h ≡ o
    → IsMade (on_hart_at w proper possible entry run o).reply → Ran w h proper possible run (on_hart_at w proper possible entry run o)
ran_at w h proper possible entry run None e n = absurd (n refusal.BadArgument refl)
ran_at w h proper possible entry run (Some hart) e n =
    let r = ran_unless w run hart (common_refusal hart proper possible entry) n in
    let t = none_refuses proper (possible hart) (entry hart) _ _ _ r.0 in
    record { hart = hart; there = e; fits = t.0; can = t.1; is = r.1 }

pub ran_on : (w : World) (h : ℕ) (proper : Bool) (possible entry : Hart → Bool) (run : Hart → StepOutcome) → IsMade (on_hart w h proper possible entry run).reply
    → Ran w h proper possible run (on_hart w h proper possible entry run)
unfolding on_hart
ran_on w h proper possible entry run n = ran_at w h proper possible entry run _ refl n
