-- Lemmas for the step `Exec`: its refusals `BadImage` and `NoFrame`, its reply and world (the model's state) are the model's
-- (`executes`). Files that promise everything leave `NoFrame` as the only refusal of an accepted image.
use Rattle.std.proofs.Common.{◌≡◌, ℕ, ◌+◌, ◌<◌, ◌≤◌, true, false, Option, Some, List, refl, ap, sym, subst, ◌∙◌, inl, inr, arith, length}
use Rattle.std.specs.Prelude.{Err, IfErr, IfOk, Ok, Result, slice_get, slice_set}
use Rattle.std.specs.Vec.{with_item}
use Rattle.std.proofs.lemmas.Bool.{le-ltb, lt-ltb}
use Rattle.exec_segments.specs.ExecRefusals.{IsExecRefusal}
use Rattle.frame_store.specs.Laws.{KeepsSeats}
use Rattle.frame_store.specs.Plain.{PlainState, PlainStateInvariant}
use Rattle.frame_store.specs.Seats.{place_set_back}
use Rattle.process_model.specs.Calls.{replaced, replaced_unless}
use Rattle.process_model.specs.Files.{File}
use Rattle.process_model.specs.Frames.{exec_need}
use Rattle.process_model.specs.declared.image.Image as model
use Rattle.process_model.specs.Images.{image_loads, LoadSegment}
use Rattle.process_model.specs.ImageProcess.{image_pages, process_of}
use Rattle.process_model.specs.Mappings.{all_written_back}
use Rattle.process_model.specs.Process.{Process}
use Rattle.process_model.specs.Service.{is_dry}
use Rattle.process_model.specs.Steps.{plain_step}
use Rattle.process_model.specs.World.{free, StepOutcome, refuses, with_process, World}
use Rattle.process_model.specs.declared.image.BadImage.{BadImage}
use Rattle.process_model.specs.declared.image.Image.{Image}
use Rattle.process_model.specs.declared.reply.Refusal.{Refusal}
use Rattle.process_model.specs.declared.reply.Refusal.TheVariants as refusal
use Rattle.process_model.specs.declared.reply.ScalarReply.TheVariants.{Done, Refused}
use Rattle.process_model.specs.declared.reply.Reply.TheVariants.{Scalar}
use Rattle.process_model.specs.declared.step.Step.TheVariants as step
use Rattle.table_walk.specs.Tables.{leaf_node, Tables}
use Rattle.hart_machine.specs.Calls.{done_or_refused, Follows, IsCaller}
use Rattle.hart_machine.specs.ExecEffect.{HasExecuted}
use Rattle.hart_machine.specs.SlotProcesses.{IsSlotProcess, view_of}
use Rattle.hart_machine.specs.Worlds.{IsWorldButBuffers, IsModelOutcome}
use Rattle.hart_machine.specs.declared.machine.Machine.{Machine}
use Rattle.hart_machine.specs.declared.slot_process.SlotProcess.{SlotProcess}
use Rattle.hart_machine.proofs.AccessingWorlds.{bytes_change}
use Rattle.hart_machine.proofs.Calling.{call_runs}
use Rattle.hart_machine.proofs.Following.{call_changes}
use Rattle.hart_machine.proofs.HartSteps.{process_at, refused}
use Rattle.hart_machine.proofs.HeldFrames.{free_is}
use Rattle.hart_machine.proofs.StartedPages.{copies_above, copies_below, copies_once, page_no_code, loaded_scheme}

-- a promise that is never refused leaves the want of frames
pub for_frames : (e : Refusal) → IsExecRefusal (λ x. ⊥) e → e ≡ refusal.NoFrame
for_frames e (inl unpromised) = absurd unpromised.1
for_frames e (inr none) = none

-- an image that was judged by the scheme of the machine was so by that of the world
pub judged_is : (m : Machine) (w : World) (is : IsWorldButBuffers m w) (image : model.Image) {r : Result (List LoadSegment) BadImage} → image_loads m.kernel.scheme image ≡ r → image_loads w.scheme image ≡ r
judged_is m w is image {r} judged = subst (λ k. image_loads k image ≡ r) is.scheme judged

module _ (m : Machine) (w : World) (is : IsWorldButBuffers m w) (h s : ℕ) (caller : IsCaller m w h s) (image : Image) where
  exec_step : (p : Process) → slice_get w.slots s ≡ Some (Some p) → plain_step w (step.Exec h image) ≡ replaced w s p (image_loads w.scheme image)
  exec_step p at = call_runs m w is h s false caller (λ hart k q. replaced w k q (image_loads w.scheme image)) p at

  -- the image fails a check
  pub bad_image : (e : BadImage) → image_loads w.scheme image ≡ Err e → plain_step w (step.Exec h image) ≡ refuses w (refusal.BadImage e)
  bad_image e bad = exec_step caller.process caller.in_slot ∙ ap (replaced w s caller.process) bad

  pub no_image : (e : BadImage) → image_loads w.scheme image ≡ Err e → IsModelOutcome m (Scalar (Refused (refusal.BadImage e))) (plain_step w (step.Exec h image))
  no_image e bad = refused m w is (refusal.BadImage e) _ (bad_image e bad)

  module _ (ls : List LoadSegment) (accepted : image_loads w.scheme image ≡ Ok ls) (x y : SlotProcess) (place : slice_get m.slots.items s ≡ Some (Some x)) (b : PlainState) (files : List File) where
    replaces : (p : Process) → slice_get w.slots s ≡ Some (Some p) → plain_step w (step.Exec h image) ≡ replaced_unless w s p ls (is_dry w (exec_need w.scheme ls))
    replaces p at = exec_step p at ∙ ap (replaced w s p) accepted

    dries : exec_need w.scheme ls ≤ m.frames.free → is_dry w (exec_need w.scheme ls) ≡ false
    dries enough = let all = free_is m w is in le-ltb (free w) (exec_need w.scheme ls) (omega (arith, enough, all))

    pub exec_sets : (p : Process) → slice_get w.slots s ≡ Some (Some p) → exec_need w.scheme ls ≤ m.frames.free → ((plain_step w (step.Exec h image)).world).slots ≡ slice_set w.slots s (Some (process_of w.scheme w.counter ls))
    exec_sets p at enough = ap (λ (o : StepOutcome). (o.world).slots) (replaces p at ∙ ap (replaced_unless w s p ls) (dries enough))

    pub exec_dry : m.frames.free < exec_need w.scheme ls → plain_step w (step.Exec h image) ≡ refuses w refusal.NoFrame
    exec_dry few =
        let q = process_at m w is s x place in
        let all = free_is m w is in
        replaces q.0 q.1 ∙ ap (replaced_unless w s q.0 ls) (lt-ltb (free w) (exec_need w.scheme ls) (omega (arith, few, all)))

    -- each page is new
    each_new : (p : Process) (has : HasExecuted y p ls m.files files) → p.scheme ≡ w.scheme → Follows (view_of y) (is.tables s) has.tables p (process_of w.scheme w.counter ls) w.counter (w.counter + length (image_pages ls))
    each_new p has schemed =
        let slot_process = subst (λ k. IsSlotProcess y has.tables (process_of k w.counter ls)) schemed (has.slot_process w.counter) in
        let stands = slot_process.agrees.stands in
        record {
          each = λ k a there. inr (record {
            given = copies_above w.scheme w.counter ls k a there;
            below = copies_below w.scheme w.counter ls k a there;
            sole = λ f on. has.alone f (leaf_node k) (inr (on.0, on.1, on.2)) (page_no_code (view_of y) y.space.root.0 y.space.trapframe.0 has.tables (process_of w.scheme w.counter ls) stands k f a there on);
          });
          apart = λ l k a c at also given same. copies_once w.scheme w.counter ls l k a c at also same;
          order = omega arith;
        }

    -- enough frames are free, or too few are
    pub executes : (r : Result (Unit {0}) Refusal) → IfOk r (λ _. (t : Tables) (p : Process) → IsSlotProcess x t p → HasExecuted y p ls m.files files) → IfOk r (λ _. exec_need w.scheme ls ≤ m.frames.free)
        → IfErr r (λ e. (e ≡ refusal.NoFrame) × (m.frames.free < exec_need w.scheme ls)) → IfErr r (λ _. (t : Tables) (p : Process) → IsSlotProcess x t p → IsSlotProcess y t p) → IfErr r (λ _. files ≡ m.files)
        → KeepsSeats PlainStateInvariant m.frames (view_of x) b (view_of y)
        → IsModelOutcome (record m { frames = b; slots = with_item m.slots s (Some y); files = files }) (done_or_refused r) (plain_step w (step.Exec h image))
    executes (Ok u) told enough dry whole stay keeps =
        let q = process_at m w is s x place in
        let has = told (is.tables s) q.0 q.2 in
        let all = free_is m w is in
        let wet : is_dry w (exec_need w.scheme ls) ≡ false = le-ltb (free w) (exec_need w.scheme ls) (omega (arith, enough, all)) in
        let n : Machine = record m { frames = b; slots = with_item m.slots s (Some y); files = files } in
        let after = call_changes m w is s x y q.0 (process_of w.scheme w.counter ls) has.tables place q.1 (subst (λ k. IsSlotProcess y has.tables (process_of k w.counter ls)) (is.schemes s q.0 q.1) (has.slot_process w.counter)) (w.counter + length (image_pages ls))
        (each_new q.0 has (is.schemes s q.0 q.1)) b keeps (loaded_scheme w.scheme w.counter ls) files in
        subst (λ (o : StepOutcome). IsModelOutcome n (Scalar Done) o) (sym (replaces q.0 q.1 ∙ ap (replaced_unless w s q.0 ls) wet)) (
          refl,
          subst (λ (fs : List File). IsWorldButBuffers n (record (with_process w s (process_of w.scheme w.counter ls)) { counter = w.counter + length (image_pages ls); files = fs }))
              (has.files ∙ ap (λ (fs : List File). all_written_back fs q.0) is.files) after,
        )
    executes (Err e) told enough dry whole stay keeps =
        let q = process_at m w is s x place in
        let all = free_is m w is in
        let few = dry.1 in
        let short : is_dry w (exec_need w.scheme ls) ≡ true = lt-ltb (free w) (exec_need w.scheme ls) (omega (arith, few, all)) in
        let n : Machine = record m { frames = b; slots = with_item m.slots s (Some y); files = files } in
        let after = bytes_change m w is s x y q.0 q.0 place q.1 q.2 (whole (is.tables s) q.0 q.2) b keeps (λ k z there. (z, there, refl)) refl in
        let back : IsWorldButBuffers (record m { frames = b; slots = with_item m.slots s (Some y) }) w =
        subst (λ (v : World). IsWorldButBuffers (record m { frames = b; slots = with_item m.slots s (Some y) }) v) (ap (λ (ps : List (Option Process)). let v : World = record w { slots = ps } in v) (place_set_back w.slots s (Some q.0) q.1)) after in
        subst (λ (o : StepOutcome). IsModelOutcome n (Scalar (Refused e)) o) (sym (replaces q.0 q.1 ∙ ap (replaced_unless w s q.0 ls) short)) (
          ap (λ x. Scalar (Refused x)) dry.0,
          rw stay back,
        )
