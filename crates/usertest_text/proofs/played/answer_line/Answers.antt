use Rattle.usertest_text.proofs.Steps.{answered_if}
use Rattle.usertest_text.proofs.played.answer_line.Goals as goal

pub returns : goal.returns
returns c = record {
  answered = answered_if c.from_slice.result c.args.player.now c.line.new.self c.args.line.now c.answer.result.now c.in_ok-line.field-0 c.in_ok-line.ensures.answered
      c.answer.ensures c.from_slice.ensures.items;
}
