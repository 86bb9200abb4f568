-- The machine's answers to the lines of a script (`answers_of`).
use Rattle.std.specs.Prelude.{◌≡◌, ℕ, List, [], ◌∷◌, map}
use Rattle.std.specs.String.{string_bytes}
use Rattle.line_player.specs.Answers.{HasPlayed}
use Rattle.line_player.specs.PlayedLines.{Answer, Nothing, Played, Refused, Reply, Text, next_answer}
use Rattle.line_player.specs.declared.player.LinePlayer.{LinePlayer}
use Rattle.usertest_rows.specs.declared.script.Line.{Line}

-- the text of a reply; empty if it has none
abbrev pub text_of_reply : Reply → List ℕ
text_of_reply Nothing = []
text_of_reply (Text t) = t
text_of_reply (Refused c) = []

-- the machine's answer to each line, after what was played before them
abbrev pub answers_of : Played → List (List ℕ) → List (List ℕ)
answers_of s [] = []
answers_of s (line ∷ lines) = let a = next_answer s line in text_of_reply a.reply ∷ answers_of a.after lines

-- the bytes of the lines of a script
abbrev pub script_bytes : List Line → List (List ℕ)
script_bytes lines = map (λ line. string_bytes line.text) lines

-- the text is the machine's answer, and the player has played the line
pub record IsAnswered (x : LinePlayer) (bytes : List ℕ) (a : Answer) : Type 0 where
  pub text : bytes ≡ text_of_reply a.reply
  pub after : HasPlayed x a.after
