use Rattle.std.proofs.Common.{ap, refl}
use Rattle.process_model.specs.declared.reply.Reply.TheVariants.{Scalar}
use Rattle.script_language.specs.Text.{three_next}
use Rattle.audit_player.proofs.Runs.{ends, goes_on, is_next, no_refusal, stops}
use Rattle.audit_player.proofs.commands.three_next.Goals as goal

pub step_scalar-said-requires : goal.step_scalar-said-requires
step_scalar-said-requires c =
    let lead = c.instructions.invariant (c.requires.world).0 (c.requires.world).1 in
    record { world = (lead.0, (lead.1).0); scalar = refl }

pub returns-in-Refused : goal.returns-in-Refused
returns-in-Refused c = record {
  made = λ w here.
      stops _ _ (three_next c.args.hart) c.instructions.counter _ (Scalar c.step_scalar-said.result) (Scalar c.args.reply) _ (is_next c.args.hart c.instructions.counter c.instructions-test.true) c.instructions-test.true c.step_scalar-said.ensures.made
      c.in-Refused.field-0 (ap Scalar c.in-Refused.is) (c.instructions.invariant w here);
}

pub instructions-preserved : goal.instructions-preserved
instructions-preserved c = λ w here.
    goes_on _ _ (three_next c.args.hart) c.instructions.counter _ (Scalar c.step_scalar-said.result) (Scalar c.args.reply) _ (is_next c.args.hart c.instructions.counter c.instructions-test.true) c.instructions-test.true c.step_scalar-said.ensures.made
    (no_refusal c.step_scalar-said.result c.in_default.not-Refused) (c.instructions.invariant w here)

pub returns : goal.returns
returns c = record { made = λ w here. ends _ (three_next c.args.hart) c.instructions.counter (Scalar c.args.reply) _ c.instructions-test.false (c.instructions.invariant w here) }
