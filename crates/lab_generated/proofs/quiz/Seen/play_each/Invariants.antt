use Rattle.line_player.specs.Answers.{HasPlayed}
use Rattle.line_player.specs.PlayedLines.{Played}
use Rattle.lab_generated.proofs.quiz.Seen.play_each.Given as goal

-- the player has played some lines
abbrev pub invariant-lines : goal.invariant-lines
invariant-lines l = (s : Played) × HasPlayed l.player s
