use Rattle.std.proofs.Common.{subst}
use Rattle.process_model.specs.declared.reply.Reply.TheVariants.{Scalar}
use Rattle.audit_player.specs.LineOutcomes.{GivesOutcome}
use Rattle.script_language.specs.Text.{lent}
use Rattle.audit_player.proofs.Lending.{execs}
use Rattle.audit_player.proofs.commands.exec.Goals as goal

pub returns : goal.returns
returns c = record {
  made = λ w here. subst (GivesOutcome c.step_scalar.new.self (Scalar c.step_scalar.result)) (execs w c.args.hart c.lend-image.result (lent c.args.image.now) c.lend-image.ensures.loads) (c.step_scalar.ensures.made w here);
}
