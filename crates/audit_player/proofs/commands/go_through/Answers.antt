use Rattle.std.proofs.Common.{◌∷◌, ap, refl, subst, arith}
use Rattle.script_language.specs.Text.{three_next}
use Rattle.process_model.specs.World.{StepOutcome}
use Rattle.process_model.specs.declared.reply.ScalarReply.TheVariants.{Done}
use Rattle.process_model.specs.declared.reply.Reply.TheVariants.{Scalar}
use Rattle.audit_player.specs.LineOutcomes.{GivesOutcome}
use Rattle.audit_player.proofs.Runs.{goes_on, no_refusal, stops}
use Rattle.audit_player.proofs.commands.go_through.Goals as goal

pub three_next-requires : goal.three_next-requires
three_next-requires c =
    let r = c.requires.world in
    record { world = (_, (c.step_scalar-first.ensures.made r.0 r.1).1) }

pub returns-in-Refused : goal.returns-in-Refused
returns-in-Refused c = record {
  made = λ w here.
      stops c.args.machine.now _ (c.args.step ∷ three_next c.args.hart) 0 c.args.step (Scalar c.step_scalar-first.result) (Scalar Done) _ refl (omega arith) c.step_scalar-first.ensures.made c.in-Refused.field-0 (ap Scalar c.in-Refused.is) (w, (here, refl));
}

pub returns : goal.returns
returns c = record {
  made = λ w here.
      let left =
      goes_on c.args.machine.now _ (c.args.step ∷ three_next c.args.hart) 0 c.args.step (Scalar c.step_scalar-first.result) (Scalar Done) _ refl (omega arith) c.step_scalar-first.ensures.made (no_refusal c.step_scalar-first.result c.in_default.not-Refused) (w, (here, refl)) in
      subst (λ (o : StepOutcome). GivesOutcome c.three_next.new.machine (Scalar c.three_next.result) o) (left.1).1 (c.three_next.ensures.made left.0 (left.1).0);
}
