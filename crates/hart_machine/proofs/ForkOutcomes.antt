-- Lemmas for the step `Fork`: it is refused with `NoSlot` or `NoFrame` as in the model; otherwise reply and world (the
-- model's state) are the model's (`forks_dry`, `forks_wet`).
use Rattle.std.proofs.Common.{◌≡◌, ℕ, ◌<◌, true, false, Option, None, Some, List, ◌∷◌, refl, ap, sym, subst, ◌∙◌, inl, inr, arith}
use Rattle.std.specs.Prelude.{slice_get, slice_set}
use Rattle.std.specs.Vec.{with_item}
use Rattle.std.proofs.lemmas.Bool.{cases_lt, le-ltb, lt-ltb}
use Rattle.frame_store.specs.Laws.{KeepsSeats}
use Rattle.frame_store.specs.Plain.{PlainState, PlainStateInvariant}
use Rattle.frame_store.specs.Seats.{place_set_back}
use Rattle.frame_store.specs.View.{View}
use Rattle.process_model.specs.Calls.{forked, forked_unless}
use Rattle.process_model.specs.Frames.{fork_need}
use Rattle.process_model.specs.Process.{Process}
use Rattle.process_model.specs.Residence.{child_of, marked}
use Rattle.process_model.specs.Service.{is_dry}
use Rattle.process_model.specs.Steps.{plain_step}
use Rattle.process_model.specs.World.{free, free_slot, StepOutcome, refuses, World}
use Rattle.process_model.specs.declared.reply.Refusal.TheVariants.{NoFrame, NoSlot}
use Rattle.process_model.specs.declared.reply.ScalarReply.TheVariants.{Forked, Refused}
use Rattle.process_model.specs.declared.reply.Reply.TheVariants.{Scalar}
use Rattle.process_model.specs.declared.step.Step.TheVariants as step
use Rattle.table_walk.specs.Tables.{Tables}
use Rattle.hart_machine.specs.Calls.{IsCaller}
use Rattle.hart_machine.specs.ForkEffect.{HasForkedProcess}
use Rattle.hart_machine.specs.SlotProcesses.{IsSlotProcess, view_of}
use Rattle.hart_machine.specs.Worlds.{IsWorldButBuffers, IsModelOutcome}
use Rattle.hart_machine.specs.declared.machine.Machine.{Machine}
use Rattle.hart_machine.specs.declared.slot_process.SlotProcess.{SlotProcess}
use Rattle.hart_machine.proofs.AccessingWorlds.{bytes_change}
use Rattle.hart_machine.proofs.Calling.{call_runs}
use Rattle.hart_machine.proofs.ForkedWorlds.{forks, seats_split}
use Rattle.hart_machine.proofs.HartSteps.{process_at, refused}
use Rattle.hart_machine.proofs.HeldFrames.{free_is}
use Rattle.hart_machine.proofs.StartSlots.{free_is_empty, free_place}

module _ (m : Machine) (w : World) (is : IsWorldButBuffers m w) (h s : ℕ) (caller : IsCaller m w h s) where
  fork_step : (p : Process) → slice_get w.slots s ≡ Some (Some p) → plain_step w (step.Fork h) ≡ forked w s p (free_slot w)
  fork_step p at = call_runs m w is h s false caller (λ hart k q. forked w k q (free_slot w)) p at

  -- each slot has a process
  pub no_slot : free_slot w ≡ None → plain_step w (step.Fork h) ≡ refuses w NoSlot
  no_slot none = fork_step caller.process caller.in_slot ∙ ap (forked w s caller.process) none

  pub without_slot : free_slot w ≡ None → IsModelOutcome m (Scalar (Refused NoSlot)) (plain_step w (step.Fork h))
  without_slot none = refused m w is NoSlot _ (no_slot none)

  module _ (x y : SlotProcess) (place : slice_get m.slots.items s ≡ Some (Some x)) (b : PlainState) (e : ℕ) (to : free_slot w ≡ Some e) where
    splits : (p : Process) → slice_get w.slots s ≡ Some (Some p) → plain_step w (step.Fork h) ≡ forked_unless w s p e (is_dry w (fork_need p))
    splits p at = fork_step p at ∙ ap (forked w s p) to

    pub no_frame : ((t : Tables) (p : Process) → IsSlotProcess x t p → m.frames.free < fork_need p) → plain_step w (step.Fork h) ≡ refuses w NoFrame
    no_frame short =
        let q = process_at m w is s x place in
        let few = short (is.tables s) q.0 q.2 in
        let all = free_is m w is in
        splits q.0 q.1 ∙ ap (forked_unless w s q.0 e) (lt-ltb (free w) (fork_need q.0) (omega (arith, few, all)))

    pub fork_sets : (p : Process) → slice_get w.slots s ≡ Some (Some p) → (m.frames.free < fork_need p → ⊥) → ((plain_step w (step.Fork h)).world).slots ≡ slice_set (slice_set w.slots s (Some (marked p))) e (Some (child_of p))
    fork_sets p at enough =
        let all = free_is m w is in
        let wet : is_dry w (fork_need p) ≡ false = elim (cases_lt m.frames.free (fork_need p)) [
          | inl few ↦ absurd (enough few)
          | inr many ↦ le-ltb (free w) (fork_need p) (omega (arith, many, all))
        ] in
        ap (λ (o : StepOutcome). (o.world).slots) (splits p at ∙ ap (forked_unless w s p e) wet)

    -- too few frames are free
    pub forks_dry : ((t : Tables) (p : Process) → IsSlotProcess x t p → m.frames.free < fork_need p) → ((t : Tables) (p : Process) → IsSlotProcess x t p → IsSlotProcess y t p)
        → KeepsSeats PlainStateInvariant m.frames (view_of x) b (view_of y) → IsModelOutcome (record m { frames = b; slots = with_item m.slots s (Some y) }) (Scalar (Refused NoFrame)) (plain_step w (step.Fork h))
    forks_dry short whole keeps =
        let q = process_at m w is s x place in
        let few = short (is.tables s) q.0 q.2 in
        let all = free_is m w is in
        let dry : is_dry w (fork_need q.0) ≡ true = lt-ltb (free w) (fork_need q.0) (omega (arith, few, all)) in
        let n : Machine = record m { frames = b; slots = with_item m.slots s (Some y) } in
        let after = bytes_change m w is s x y q.0 q.0 place q.1 q.2 (whole (is.tables s) q.0 q.2) b keeps (λ k z there. (z, there, refl)) refl in
        subst (λ (o : StepOutcome). IsModelOutcome n (Scalar (Refused NoFrame)) o) (sym (splits q.0 q.1 ∙ ap (forked_unless w s q.0 e) dry)) (
          refl,
          subst (λ (v : World). IsWorldButBuffers n v) (ap (λ (ps : List (Option Process)). let v : World = record w { slots = ps } in v) (place_set_back w.slots s (Some q.0) q.1)) after,
        )

    -- enough are
    pub forks_wet : (z : SlotProcess) → ((t : Tables) (p : Process) → IsSlotProcess x t p → HasForkedProcess y z t p)
        → ((t : Tables) (p : Process) → IsSlotProcess x t p → m.frames.free < fork_need p → ⊥)
        → ((others : List View) → PlainStateInvariant m.frames (view_of x ∷ others) → PlainStateInvariant b (view_of y ∷ view_of z ∷ others))
        → IsModelOutcome (record m { frames = b; slots = with_item (with_item m.slots s (Some y)) e (Some z) }) (Scalar (Forked e)) (plain_step w (step.Fork h))
    forks_wet z told enough keeps =
        let q = process_at m w is s x place in
        let has = told (is.tables s) q.0 q.2 in
        let all = free_is m w is in
        let wet : is_dry w (fork_need q.0) ≡ false = elim (cases_lt m.frames.free (fork_need q.0)) [
          | inl few ↦ absurd (enough (is.tables s) q.0 q.2 few)
          | inr many ↦ le-ltb (free w) (fork_need q.0) (omega (arith, many, all))
        ] in
        let empty = free_place m w is e to in
        let n : Machine = record m { frames = b; slots = with_item (with_item m.slots s (Some y)) e (Some z) } in
        subst (λ (o : StepOutcome). IsModelOutcome n (Scalar (Forked e)) o) (sym (splits q.0 q.1 ∙ ap (forked_unless w s q.0 e) wet)) (
          refl,
          forks m w is s e x y z q.0 has.after has.of_child place q.1 empty (free_is_empty w e to) has.parent has.child has.on_parent has.on_child b
              (seats_split m.frames b m.kernel.seat m.slots.items s e x y z place empty keeps is.invariant),
        )
