use Rattle.std.proofs.Common.{◌≡◌, ◌∙◌, Option, None, Some, ap, refl, subst, sym, true}
use Rattle.std.specs.Prelude.{slice_get}
use Rattle.std.proofs.lemmas.Option.{slice_get_within}
use Rattle.frame_store.specs.Seats.{place_set_same}
use Rattle.process_model.specs.Process.{Process}
use Rattle.process_model.specs.Service.{ended, served}
use Rattle.process_model.specs.Steps.{plain_step}
use Rattle.process_model.specs.World.{StepOutcome}
use Rattle.process_model.specs.declared.reply.ScalarReply.TheVariants.{Ended, Ready}
use Rattle.process_model.specs.declared.reply.Reply.TheVariants.{Scalar}
use Rattle.process_model.specs.declared.step.Step.TheVariants as step
use Rattle.hart_machine.specs.Harts.{hart_of}
use Rattle.hart_machine.specs.Marks.{AreMarked, slot_if}
use Rattle.hart_machine.specs.Worlds.{IsWorldButBuffers, KeepsTables, IsModelOutcome}
use Rattle.hart_machine.specs.declared.hart.Hart.{Hart}
use Rattle.hart_machine.proofs.Calling.{call_runs}
use Rattle.hart_machine.proofs.HartSteps.{refused}
use Rattle.hart_machine.proofs.KeptTables.{others_keep, others_kept, same_places}
use Rattle.hart_machine.proofs.SlotMarks.{gone_marks, refused_as}
use Rattle.hart_machine.proofs.machine.Machine.serve.Goals as goal

pub serve_slot-requires : goal.serve_slot-requires
serve_slot-requires c = let r = c.requires.world in record { world = (r.0, c.args.hart, r.1, c.in-Ok.ensures.there r.0 r.1) }

pub end-requires : goal.end-requires
end-requires c =
    let r = c.requires.world in
    let ends = c.in-Err-serve_slot.ensures.must_end r.0 c.args.hart r.1 (c.in-Ok.ensures.there r.0 r.1) in
    record { world = (r.0, true, ends.world, ends.there) }

pub returns-in-Err-clause-made : goal.returns-in-Err-clause-made
returns-in-Err-clause-made c w is = rw c.without_change.ensures (refused c.args.self.now w is c.in-Err.refusal _ (c.in-Err.ensures.refused w _ is))

pub returns-in-Err-clause-changed : goal.returns-in-Err-clause-changed
returns-in-Err-clause-changed c w is =
    rw c.without_change.ensures (refused_as w (plain_step w (step.Serve c.args.hart)) c.in-Err.refusal (c.in-Err.ensures.refused w _ is))

pub returns-in-Err-clause-tables : goal.returns-in-Err-clause-tables
returns-in-Err-clause-tables c w is = same_places c.args.self.now c.args.self.now _ _ (refl, refl)

pub returns-in-Ok-serve_slot-clause-made : goal.returns-in-Ok-serve_slot-clause-made
returns-in-Ok-serve_slot-clause-made c w is =
    let k = c.in-Ok.ensures.there w is in
    rw c.with_change.ensures (subst (λ (o : StepOutcome). IsModelOutcome c.serve_slot.new.self (Scalar Ready) o) (sym (call_runs c.args.self.now w is c.args.hart c.in-Ok.slot true k (λ hart s p. served w c.args.hart hart s p p.pending) k.process k.in_slot))
    (c.in-Ok-serve_slot.ensures.ready w c.args.hart is k))

pub returns-in-Ok-serve_slot-clause-changed : goal.returns-in-Ok-serve_slot-clause-changed
returns-in-Ok-serve_slot-clause-changed c w is =
    let k = c.in-Ok.ensures.there w is in
    let s = c.in-Ok.slot in
    let settled = c.in-Ok-serve_slot.settled in
    rw (c.with_change.ensures, c.slot_if.ensures) (subst (λ (o : StepOutcome). AreMarked w o (slot_if s settled) None) (sym (call_runs c.args.self.now w is c.args.hart s true k (λ hart s p. served w c.args.hart hart s p p.pending) k.process k.in_slot))
    (c.in-Ok-serve_slot.ensures.changed w c.args.hart is k))

pub returns-in-Ok-serve_slot-clause-tables : goal.returns-in-Ok-serve_slot-clause-tables
returns-in-Ok-serve_slot-clause-tables c w is =
    let k = c.in-Ok.ensures.there w is in
    subst (λ (o : StepOutcome). KeepsTables c.args.self.now c.serve_slot.new.self w.slots (o.world).slots) (sym (call_runs c.args.self.now w is c.args.hart c.in-Ok.slot true k (λ hart s p. served w c.args.hart hart s p p.pending) k.process k.in_slot))
    (c.in-Ok-serve_slot.ensures.tables w c.args.hart is k)

pub returns-in-Err-serve_slot-clause-made : goal.returns-in-Err-serve_slot-clause-made
returns-in-Err-serve_slot-clause-made c w is =
    let h = c.args.hart in
    let s = c.in-Ok.slot in
    let rule = c.in-Err-serve_slot.rule in
    let k = c.in-Ok.ensures.there w is in
    let e = c.in-Err-serve_slot.ensures.must_end w h is k in
    let gone = c.end.ensures.ended w true (Scalar (Ended rule)) e.world e.there in
    rw c.without_change-in-Err-serve_slot.ensures (subst (λ (o : StepOutcome). IsModelOutcome c.end.new.self (Scalar (Ended rule)) o) (sym (call_runs c.args.self.now w is h s true k (λ hart n p. served w h hart n p p.pending) k.process k.in_slot ∙ e.ends)) (
      refl,
      subst (λ (p : Process). IsWorldButBuffers c.end.new.self (ended w h (hart_of k.hart) s p (Scalar (Ended rule))).world) e.process
          (subst (λ (x : Hart). IsWorldButBuffers c.end.new.self (ended w h (hart_of x) s (e.there).process (Scalar (Ended rule))).world) e.hart gone),
    ))

pub returns-in-Err-serve_slot-clause-changed : goal.returns-in-Err-serve_slot-clause-changed
returns-in-Err-serve_slot-clause-changed c w is =
    let h = c.args.hart in
    let s = c.in-Ok.slot in
    let k = c.in-Ok.ensures.there w is in
    let e = c.in-Err-serve_slot.ensures.must_end w h is k in
    let runs = call_runs c.args.self.now w is h s true k (λ hart n p. served w h hart n p p.pending) k.process k.in_slot ∙ e.ends in
    rw c.without_change-in-Err-serve_slot.ensures (gone_marks w (plain_step w (step.Serve h)) s k.process k.in_slot (ap (λ (o : StepOutcome). (o.world).slots) runs))

pub returns-in-Err-serve_slot-clause-tables : goal.returns-in-Err-serve_slot-clause-tables
returns-in-Err-serve_slot-clause-tables c w is =
    let m = c.args.self.now in
    let h = c.args.hart in
    let s = c.in-Ok.slot in
    let k = c.in-Ok.ensures.there w is in
    let e = c.in-Err-serve_slot.ensures.must_end w h is k in
    let runs = call_runs m w is h s true k (λ hart n p. served w h hart n p p.pending) k.process k.in_slot ∙ e.ends in
    others_keep m c.end.new.self w.slots _ s (others_kept m c.serve_slot.new.self c.end.new.self s c.in-Err-serve_slot.ensures.others c.end.ensures.others)
    (λ q at.
    let none = place_set_same w.slots s None (slice_get_within w.slots s _ k.in_slot) in
    let both : ◌≡◌ {A = Option (Option Process)} (Some None) (Some (Some q)) = sym none ∙ ap (λ (o : StepOutcome). slice_get (o.world).slots s) (sym runs) ∙ at in cc)
