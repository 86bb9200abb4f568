-- A script that is played line by line: what the lines so far declared and the world of the machine (`Played`), what one more line
-- makes of that and how it is answered (`next_answer`), what many lines make of it (`played_lines`), and their answers (`played_text`).
use Rattle.std.specs.Prelude.{ℕ, List, [], ◌∷◌, ◌++◌, Option, None, Some, Result, Ok, Err, map, codes}
use Rattle.script_language.specs.Lines.{without_return}
use Rattle.process_model.specs.Files.{file_of}
use Rattle.script_language.specs.Script.{Draft, line_of, no_lines, with_item}
use Rattle.script_language.specs.Text.{LineResult, line_result, line_text}
use Rattle.process_model.specs.World.{World, booted}
use Rattle.script_language.specs.declared.script.Cause.{Cause}
use Rattle.script_language.specs.declared.script.Command.{Command}
use Rattle.script_language.specs.declared.script.Item.{Item}
use Rattle.script_language.specs.declared.script.Item.TheVariants as item

-- the lines so far: what they declare, of which no command is kept; and the world after them, once a machine was booted
pub record Played : Type 0 where
  pub draft : Draft
  pub world : Option World

abbrev pub nothing_played : Played
nothing_played = record { draft = no_lines; world = None }

-- how a line is answered: not at all, by a text, or as refused
pub data Reply : Type 0 where
  Nothing : Reply
  Text : List ℕ → Reply
  Refused : Cause → Reply

pub record Answer : Type 0 where
  pub reply : Reply
  pub after : Played

abbrev pub command_answer : Played → Option World → Command → Answer
command_answer s None c = record { reply = Nothing; after = s }
command_answer s (Some w) c = let p = line_result s.draft.images w c in record { reply = Text p.text; after = record s { world = Some p.world } }

abbrev pub item_answer : Played → Item → Answer
item_answer s (item.File f) = record { reply = Nothing; after = record s { draft = with_item s.draft (item.File f) } }
item_answer s (item.Image i) = record { reply = Nothing; after = record s { draft = with_item s.draft (item.Image i) } }
item_answer s (item.Boot c) =
    record { reply = Text (codes "ok"); after = record { draft = with_item s.draft (item.Boot c); world = Some (booted c (map file_of s.draft.files)) } }
item_answer s (item.Command c) = command_answer s s.world c

abbrev pub answer_of : Played → Result (Option Item) Cause → Answer
answer_of s (Ok None) = record { reply = Nothing; after = s }
answer_of s (Ok (Some i)) = item_answer s i
answer_of s (Err c) = record { reply = Refused c; after = s }

-- the answer of the next line
abbrev pub next_answer : Played → List ℕ → Answer
next_answer s line = answer_of s (line_of s.draft (without_return line))

abbrev pub reply_line : Reply → List ℕ
reply_line Nothing = []
reply_line (Text t) = line_text t
reply_line (Refused c) = []

-- the answers of lines, one after the other
abbrev pub played_text : Played → List (List ℕ) → List ℕ
played_text s [] = []
played_text s (line ∷ lines) = let a = next_answer s line in reply_line a.reply ++ played_text a.after lines

-- what lines make of what was played before them, one after the other
abbrev pub played_lines : Played → List (List ℕ) → Played
played_lines s [] = s
played_lines s (line ∷ lines) = played_lines (next_answer s line).after lines
