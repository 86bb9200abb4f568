use Rattle.std.proofs.Common.{refl, subst}
use Rattle.process_model.specs.declared.reply.Reply.TheVariants.{Scalar}
use Rattle.audit_player.specs.LineOutcomes.{GivesOutcome}
use Rattle.audit_player.proofs.Lending.{copies}
use Rattle.audit_player.proofs.commands.copy_out.Goals as goal

pub returns : goal.returns
returns c = record {
  made = λ w here. subst (GivesOutcome c.step_scalar.new.self (Scalar c.step_scalar.result)) (copies w c.args.hart c.args.address c.args.bytes (record { ref_ptr = (0, 0); now = c.args.bytes.now }) refl) (c.step_scalar.ensures.made w here);
}
