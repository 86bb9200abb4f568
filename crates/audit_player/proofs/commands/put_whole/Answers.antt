use Rattle.audit_player.proofs.Lending.{told_by}
use Rattle.audit_player.proofs.commands.put_whole.Goals as goal

pub returns-clause-line_text : goal.returns-clause-line_text
returns-clause-line_text c w here = told_by _ c.step.result _ c.args.text.now.items _ (c.step.ensures.made w here) c.put_reply.ensures.text
