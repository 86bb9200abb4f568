use Rattle.process_model.specs.declared.reply.Reply.TheVariants.{Scalar}
use Rattle.audit_player.proofs.Lending.{told_by}
use Rattle.audit_player.proofs.commands.put_other.Goals as goal

pub returns-clause-line_text : goal.returns-clause-line_text
returns-clause-line_text c w here = told_by _ (Scalar c.step_scalar.result) _ c.args.text.now.items _ (c.step_scalar.ensures.made w here) c.put_scalar_reply.ensures.text
