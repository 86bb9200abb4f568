-- Lemmas about the child of a fork: a reply `Forked` gives the lowest free slot, and the process in it then has its parent's
-- regions, heap base and size, waits for nothing, and has no dirty mark (D).
use Rattle.std.proofs.Common.{◌≡◌, ℕ, Bool, true, false, cond, refl, sym, ap, ◌∙◌, arith, List, [], ◌∷◌, Option, None, Some}
use Rattle.std.specs.Ordering.{eq_by_cmp, nat_cmp}
use Rattle.std.specs.FinMap.Entries.{find}
use Rattle.std.proofs.lemmas.List.{length-set}
use Rattle.process_laws.proofs.HeldBytes.{free_there, Puts, set_puts}
use Rattle.process_laws.proofs.Running.{has_it, process_runs, ran_on, step_process, step_reply}
use Rattle.process_laws.specs.Pages.{has_mark, has_dirty_mark}
use Rattle.process_laws.specs.Words.{IsChild, IsMade, IsOnHart}
use Rattle.process_model.specs.Calls.{forked, forked_unless}
use Rattle.process_model.specs.Harts.{Hart}
use Rattle.process_model.specs.PageMap.{each_value}
use Rattle.process_model.specs.Process.{Page, Process}
use Rattle.process_model.specs.Residence.{child_of, child_page, marked}
use Rattle.process_model.specs.Steps.{plain_step, step}
use Rattle.process_model.specs.World.{always, can_call, free_slot, StepOutcome, process_in, with_its_process, with_process, World}
use Rattle.process_model.specs.declared.reply.Reply.{Reply}
use Rattle.process_model.specs.declared.reply.ScalarReply.TheVariants.{Forked}
use Rattle.process_model.specs.declared.reply.Reply.TheVariants.{Scalar}
use Rattle.process_model.specs.declared.step.Step.TheVariants as step_of

unstored_at : (f : ℕ → Page → Page) → ((n : ℕ) (x : Page) → (f n x).dirty ≡ false) → (es : List (ℕ × Page)) (page : ℕ) → has_mark (λ z. z.dirty) (find nat_cmp page (each_value f es)) ≡ false
unstored_at f none [] page = refl
unstored_at f none (e ∷ es) page = elim (eq_by_cmp nat_cmp page e.0) as (λ b. has_mark (λ z. z.dirty) (cond b (Some (f e.0 e.1)) (find nat_cmp page (each_value f es))) ≡ false) [
  | true ↦ none e.0 e.1
  | false ↦ unstored_at f none es page
]

child_unstored : (p : Process) (page : ℕ) → has_dirty_mark (child_of p) page ≡ false
child_unstored p page = unstored_at (child_page p) (λ n x. refl) p.settled.entries page

-- where a child comes
pub child_put : (w : World) (s : ℕ) (p : Process) (child : ℕ) → free_slot w ≡ Some child → Puts (with_process w s (marked p)) child (Some (child_of p)) (with_process (with_process w s (marked p)) child (child_of p))
child_put w s p child free =
    let room = free_there w.slots 0 child free in
    let long = length-set w.slots s (Some (marked p)) in
    set_puts (with_process w s (marked p)) (with_process (with_process w s (marked p)) child (child_of p)) child (Some (child_of p)) (omega (arith, room, long)) refl

module _ (w : World) (h s : ℕ) (p : Process) (on : IsOnHart w h s p) (t : ℕ) where
  abbrev Bears : World → Type 0
  Bears v = (free_slot w ≡ Some t) × (c : Process) × (process_in v t ≡ Some c) × IsChild p c

  child_unless : (child : ℕ) (b : Bool) → free_slot w ≡ Some child → (forked_unless w s p child b).reply ≡ Scalar (Forked t) → Bears (forked_unless w s p child b).world
  child_unless child true free e = absurd cc
  child_unless child false free e =
      let same : child ≡ t = cc in (
        free ∙ ap Some same,
        child_of p,
        ap (process_in (with_process (with_process w s (marked p)) child (child_of p))) (sym same) ∙ (child_put w s p child free).here,
        record { same = refl; base = refl; size = refl; quiet = refl; unstored = child_unstored p },
      )

  child_of_fork : (o : Option ℕ) → free_slot w ≡ o → (forked w s p o).reply ≡ Scalar (Forked t) → Bears (forked w s p o).world
  child_of_fork None free e = absurd cc
  child_of_fork (Some child) free e = child_unless child _ free e

  forked_made : (r : Reply) → r ≡ Scalar (Forked t) → IsMade r
  forked_made r e f g = absurd cc

  pub child_is : (step w (step_of.Fork h)).reply ≡ Scalar (Forked t) → Bears (step w (step_of.Fork h)).world
  child_is e =
      let x = step_of.Fork h in
      let run = λ (hart : Hart) (s : ℕ) (p : Process). forked w s p (free_slot w) in
      let plain : (plain_step w x).reply ≡ (Scalar (Forked t)) = sym (step_reply w x) ∙ e in
      let r = ran_on w h true (can_call w) always (λ hart. with_its_process w hart (run hart)) (forked_made _ plain) in
      let is : plain_step w x ≡ forked w s p (free_slot w) = r.is ∙ process_runs w r.hart (run r.hart) s p (has_it w h s r.hart on.there r.there) on.lives in
      let k = child_of_fork (free_slot w) refl (ap (λ (o : StepOutcome). o.reply) (sym is) ∙ plain) in
      (k.0, k.1, step_process w x t ∙ ap (λ (o : StepOutcome). process_in o.world t) is ∙ k.2, k.3)
