use Rattle.std.proofs.Common.{◌≡◌, map, drop}
use Rattle.line_player.specs.Answers.{HasPlayed}
use Rattle.line_player.specs.PlayedLines.{Played, nothing_played, played_lines}
use Rattle.lab_listeners.proofs.repl.replayed.Given as goal

-- what the player has played comes, with the lines that are left, to what all lines come to
abbrev pub invariant-lines : goal.invariant-lines
invariant-lines l = (s : Played) × HasPlayed l.player s
    × (played_lines s (map (λ line. line.items) (drop l.line-index l.lines)) ≡ played_lines nothing_played (map (λ line. line.items) l.lines))
