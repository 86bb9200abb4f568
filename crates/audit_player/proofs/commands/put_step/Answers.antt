use Rattle.process_model.specs.declared.reply.Reply.TheVariants.{Scalar}
use Rattle.audit_player.proofs.Lending.{told_by}
use Rattle.audit_player.proofs.commands.put_step.Goals as goal

pub returns-in-Load-clause-line_text : goal.returns-in-Load-clause-line_text
returns-in-Load-clause-line_text c w here =
    told_by _ (Scalar c.step_scalar.result) _ c.args.text.now.items _ (c.step_scalar.ensures.made w here) c.put_scalar_reply.ensures.text

pub returns-in-Store-clause-line_text : goal.returns-in-Store-clause-line_text
returns-in-Store-clause-line_text c w here =
    told_by _ (Scalar c.step_scalar-in-Store.result) _ c.args.text.now.items _ (c.step_scalar-in-Store.ensures.made w here) c.put_scalar_reply-in-Store.ensures.text
