use Rattle.std.proofs.Common.{subst, sym}
use Rattle.script_language.specs.Text.{line_result}
use Rattle.audit_player.specs.LineOutcomes.{AppendsLine}
use Rattle.script_reader.specs.PackedLines.{shown}
use Rattle.script_reader.specs.declared.commands.CommandView.{CommandView}
use Rattle.audit_player.proofs.commands.put_line.Goals as goal

pub returns-in-Step-clause-line_text : goal.returns-in-Step-clause-line_text
returns-in-Step-clause-line_text c w here =
    subst (λ (line : CommandView). AppendsLine c.put_step.new.machine c.args.text.now.items c.put_step.new.text.items (line_result c.args.images.now w (shown line))) (sym c.in-Step.is) (c.put_step.ensures.line_text w here)

pub returns-in-Made-clause-line_text : goal.returns-in-Made-clause-line_text
returns-in-Made-clause-line_text c w here =
    subst (λ (line : CommandView). AppendsLine c.put_answer.new.machine c.args.text.now.items c.put_answer.new.text.items (line_result c.args.images.now w (shown line))) (sym c.in-Made.is) (c.put_answer.ensures.line_text w here)

pub returns-in-Kept-clause-line_text : goal.returns-in-Kept-clause-line_text
returns-in-Kept-clause-line_text c w here =
    subst (λ (line : CommandView). AppendsLine c.put_answer-in-Kept.new.machine c.args.text.now.items c.put_answer-in-Kept.new.text.items (line_result c.args.images.now w (shown line))) (sym c.in-Kept.is) (c.put_answer-in-Kept.ensures.line_text w here)
