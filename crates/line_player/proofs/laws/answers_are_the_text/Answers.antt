use Rattle.line_player.proofs.Lines.{answers_are}
use Rattle.line_player.proofs.laws.answers_are_the_text.Goals as goal

pub returns : goal.returns
returns c = answers_are
