use Rattle.line_player.specs.Answers.{HasPlayed}
use Rattle.line_player.specs.PlayedLines.{Played}
use Rattle.xv6run.proofs.play_lines.Given as goal

-- the player has played some lines
abbrev pub invariant-lines : goal.invariant-lines
invariant-lines l = (s : Played) × HasPlayed l.player s
