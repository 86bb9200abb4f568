-- Lemmas for the step `Sbrk`: its refusals, reply and world (the model's state) are the model's (`sizes`).
use Rattle.std.proofs.Common.{◌≡◌, ℕ, ℤ, false, Option, None, Some, List, refl, ap, sym, subst, ◌∙◌}
use Rattle.std.specs.Prelude.{Err, IfErr, IfOk, Ok, Result, slice_get, slice_set}
use Rattle.std.specs.Vec.{with_item}
use Rattle.frame_store.specs.Laws.{KeepsSeats}
use Rattle.frame_store.specs.Plain.{PlainState, PlainStateInvariant}
use Rattle.lazy_growth.specs.SbrkResults.{size_before}
use Rattle.process_model.specs.Bytes.{pages_for}
use Rattle.process_model.specs.Calls.{resized_to}
use Rattle.process_model.specs.Files.{File}
use Rattle.process_model.specs.Heap.{resized_unless, sbrk_result, without_pages}
use Rattle.process_model.specs.PageMap as pages
use Rattle.process_model.specs.PageMap.{PageMap}
use Rattle.process_model.specs.Process.{Page, Process, without_pending}
use Rattle.process_model.proofs.ReleaseLaws.{was_settled}
use Rattle.process_model.specs.Steps.{plain_step}
use Rattle.process_model.specs.World.{StepOutcome, refuses, with_process, World}
use Rattle.process_model.specs.declared.reply.Refusal.{Refusal}
use Rattle.process_model.specs.declared.reply.ScalarReply.TheVariants.{OldSize, Refused}
use Rattle.process_model.specs.declared.reply.Reply.TheVariants.{Scalar}
use Rattle.process_model.specs.declared.step.Step.TheVariants as step
use Rattle.table_walk.specs.Tables.{Tables}
use Rattle.hart_machine.specs.Calls.{Follows, HasResized, IsCaller, size_of, size_or_refused}
use Rattle.hart_machine.specs.SlotProcesses.{IsSlotProcess, view_of}
use Rattle.hart_machine.specs.Worlds.{IsWorldButBuffers, IsModelOutcome}
use Rattle.hart_machine.specs.declared.machine.Machine.{Machine}
use Rattle.hart_machine.specs.declared.slot_process.SlotProcess.{SlotProcess}
use Rattle.hart_machine.proofs.Calling.{call_runs}
use Rattle.hart_machine.proofs.FillWorlds.{put_back}
use Rattle.hart_machine.proofs.Following.{call_changes, keeps_follow}
use Rattle.hart_machine.proofs.HartSteps.{process_at}
use Rattle.hart_machine.proofs.Mapping.{dropped_on}
use Rattle.hart_machine.proofs.KeptSchemes.{sbrk_scheme}

-- the pages above the new size go, and no other
abbrev IsLeft : Process → Result Process Refusal → Type 0
IsLeft p (Ok q) = q.settled ≡ (without_pages p (pages_for q.size) (pages_for p.size)).settled
IsLeft p (Err e) = Unit {0}

unless_left : (p : Process) (size : ℕ) (o : Option Refusal) → IsLeft p (resized_unless p size o)
unless_left p size None = refl
unless_left p size (Some e) = tt

sbrk_left : (p : Process) (delta : ℤ) → IsLeft p (sbrk_result p delta)
unfolding sbrk_result
sbrk_left p delta = unless_left p _ _

-- what is answered tells what the model has

size_is : (p q : Process) (n : ℕ) (z : Result Process Refusal) → Ok n ≡ size_before p z → z ≡ Ok q → n ≡ p.size
size_is p q n (Ok r) answer is = cc
size_is p q n (Err e) answer is = absurd (cc)

refusal_is : (p : Process) (e : Refusal) (z : Result Process Refusal) → Err e ≡ size_before p z → z ≡ Err e
refusal_is p e (Ok r) answer = absurd (cc)
refusal_is p e (Err x) answer = cc

module _ (m : Machine) (w : World) (is : IsWorldButBuffers m w) (h s : ℕ) (caller : IsCaller m w h s) (x y : SlotProcess) (place : slice_get m.slots.items s ≡ Some (Some x)) (delta : ℤ) (b : PlainState) where
  size_step : (p : Process) → slice_get w.slots s ≡ Some (Some p) → plain_step w (step.Sbrk h delta) ≡ resized_to w s p (sbrk_result p delta)
  size_step p at = call_runs m w is h s false caller (λ hart k q. resized_to w k q (sbrk_result q delta)) p at

  pub size_refused : (e : Refusal) → ((t : Tables) (p : Process) → IsSlotProcess x t p → Err e ≡ size_before p (sbrk_result p delta)) → plain_step w (step.Sbrk h delta) ≡ refuses w e
  size_refused e answer = let q = process_at m w is s x place in size_step q.0 q.1 ∙ ap (resized_to w s q.0) (refusal_is q.0 e (sbrk_result q.0 delta) (answer (is.tables s) q.0 q.2))

  pub size_sets : (p q : Process) → slice_get w.slots s ≡ Some (Some p) → sbrk_result p delta ≡ Ok q → ((plain_step w (step.Sbrk h delta)).world).slots ≡ slice_set w.slots s (Some (without_pending q))
  size_sets p q at told = ap (λ (o : StepOutcome). (o.world).slots) (size_step p at ∙ ap (resized_to w s p) told)

  follows : (p : Process) → slice_get w.slots s ≡ Some (Some p) → (has : HasResized y (is.tables s) p delta) → Follows (view_of y) (is.tables s) has.tables p (without_pending has.process) w.counter w.counter
  follows p at has = keeps_follow (view_of y) (is.tables s) has.tables p (without_pending has.process) w.counter
      (λ k a there. is.counted s k p a at there)
      (λ k a there.
      let left : has.process.settled ≡ (without_pages p (pages_for has.process.size) (pages_for p.size)).settled = subst (IsLeft p) has.is (sbrk_left p delta) in
      let was = was_settled p (pages_for has.process.size) (pages_for p.size) k a (ap (λ (q : PageMap Page). pages.get q k) (sym left) ∙ there) in
      record { before = a; settled = was.0; copy = refl; on = dropped_on (is.tables s) has.tables _ _ has.drops k })

  -- the heap of the caller's process grows or shrinks
  pub sizes : {A : Type 0} (r : Result (ℕ × A) Refusal) → ((t : Tables) (p : Process) → IsSlotProcess x t p → size_of r ≡ size_before p (sbrk_result p delta))
      → IfOk r (λ _. (t : Tables) (p : Process) → IsSlotProcess x t p → HasResized y t p delta) → IfErr r (λ _. y ≡ x) → IfErr r (λ _. b ≡ m.frames)
      → KeepsSeats PlainStateInvariant m.frames (view_of x) b (view_of y)
      → IsModelOutcome (record m { frames = b; slots = with_item m.slots s (Some y) }) (size_or_refused r) (plain_step w (step.Sbrk h delta))
  sizes (Ok (n, a)) answer told same frames_stay keeps =
      let q = process_at m w is s x place in
      let has = told (is.tables s) q.0 q.2 in
      let after = call_changes m w is s x y q.0 (without_pending has.process) has.tables place q.1 has.slot_process w.counter (follows q.0 q.1 has) b keeps (sbrk_scheme q.0 delta has.process has.is ∙ is.schemes s q.0 q.1) m.files in
      subst (λ (o : StepOutcome). IsModelOutcome (record m { frames = b; slots = with_item m.slots s (Some y) }) (Scalar (OldSize n)) o) (sym (size_step q.0 q.1 ∙ ap (resized_to w s q.0) has.is)) (
        ap (λ x. Scalar (OldSize x)) (size_is q.0 has.process n (sbrk_result q.0 delta) (answer (is.tables s) q.0 q.2) has.is),
        subst (λ (fs : List File). IsWorldButBuffers (record m { frames = b; slots = with_item m.slots s (Some y) }) (record (with_process w s (without_pending has.process)) { files = fs })) is.files after,
      )
  sizes (Err e) answer told same frames_stay keeps =
      let q = process_at m w is s x place in
      let refuses = refusal_is q.0 e (sbrk_result q.0 delta) (answer (is.tables s) q.0 q.2) in
      subst (λ (o : StepOutcome). IsModelOutcome (record m { frames = b; slots = with_item m.slots s (Some y) }) (Scalar (Refused e)) o) (sym (size_step q.0 q.1 ∙ ap (resized_to w s q.0) refuses))
      (refl, rw (same, frames_stay) (put_back m w is s x place))
