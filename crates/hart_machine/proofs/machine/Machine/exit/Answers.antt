use Rattle.std.proofs.Common.{◌≡◌, ◌∙◌, Option, None, Some, ap, false, of_z, refl, subst, sym, to_z, w32}
use Rattle.std.specs.Prelude.{slice_get}
use Rattle.std.proofs.lemmas.Int.{to_z-of_z}
use Rattle.std.proofs.lemmas.Option.{slice_get_within}
use Rattle.frame_store.specs.Seats.{place_set_same}
use Rattle.process_model.specs.Process.{Process}
use Rattle.process_model.specs.Service.{ended}
use Rattle.process_model.specs.World.{StepOutcome}
use Rattle.process_model.specs.declared.reply.ScalarReply.TheVariants.{Exited}
use Rattle.process_model.specs.declared.reply.Reply.TheVariants.{Scalar}
use Rattle.hart_machine.specs.Worlds.{IsModelOutcome}
use Rattle.hart_machine.proofs.Calling.{call_runs}
use Rattle.hart_machine.proofs.HartSteps.{refused}
use Rattle.hart_machine.proofs.KeptTables.{others_keep, same_places}
use Rattle.hart_machine.proofs.machine.Machine.exit.Goals as goal

pub end-requires : goal.end-requires
end-requires c = let r = c.requires.world in record { world = (r.0, false, r.1, c.in-Ok.ensures.there r.0 r.1) }

pub returns-in-Ok-clause-made : goal.returns-in-Ok-clause-made
returns-in-Ok-clause-made c w is =
    let k = c.in-Ok.ensures.there w is in
    let reply = Scalar (Exited c.args.status) in
    subst (λ (o : StepOutcome). IsModelOutcome c.end.new.self (Scalar (Exited (to_z w32 (of_z w32 c.args.status)))) o) (sym (call_runs c.args.self.now w is c.args.hart c.in-Ok.slot false k (λ hart s p. ended w c.args.hart hart s p reply) k.process k.in_slot))
    (ap (λ x. Scalar (Exited x)) (to_z-of_z w32 c.args.status c.ranges.status), c.end.ensures.ended w false reply is k)

pub returns-in-Err-clause-made : goal.returns-in-Err-clause-made
returns-in-Err-clause-made c w is = refused c.args.self.now w is c.in-Err.refusal _ (c.in-Err.ensures.refused w _ is)

pub returns-in-Ok-clause-tables : goal.returns-in-Ok-clause-tables
returns-in-Ok-clause-tables c w is =
    let m = c.args.self.now in
    let k = c.in-Ok.ensures.there w is in
    let reply = Scalar (Exited c.args.status) in
    let runs = call_runs m w is c.args.hart c.in-Ok.slot false k (λ hart s p. ended w c.args.hart hart s p reply) k.process k.in_slot in
    others_keep m c.end.new.self w.slots _ c.in-Ok.slot c.end.ensures.others
    (λ q at.
    let none = place_set_same w.slots c.in-Ok.slot None (slice_get_within w.slots c.in-Ok.slot _ k.in_slot) in
    let both : ◌≡◌ {A = Option (Option Process)} (Some None) (Some (Some q)) = sym none ∙ ap (λ (o : StepOutcome). slice_get (o.world).slots c.in-Ok.slot) (sym runs) ∙ at in cc)

pub returns-in-Err-clause-tables : goal.returns-in-Err-clause-tables
returns-in-Err-clause-tables c w is = same_places c.args.self.now c.args.self.now _ _ (refl, refl)
