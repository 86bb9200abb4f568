use Rattle.std.proofs.Common.{◌≡◌, ◌++◌, map, drop}
use Rattle.line_player.specs.Answers.{HasPlayed}
use Rattle.line_player.specs.PlayedLines.{Played, nothing_played}
use Rattle.usertest_text.specs.Answers.{answers_of, script_bytes}
use Rattle.usertest_text.proofs.played.play.Given as goal

-- the answers so far, and those to the lines that are left, are the answers to all lines
abbrev pub invariant-lines : goal.invariant-lines
invariant-lines l = (s : Played) × HasPlayed l.player s
    × (map (λ it. it.items) l.answers.items ++ answers_of s (script_bytes (drop l.line-index l.lines)) ≡ answers_of nothing_played (script_bytes l.lines))
