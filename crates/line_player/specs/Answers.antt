-- What the lines that a player has taken come to in the model (`HasPlayed`), and when a line was answered as the model answers it (`Answers`).
use Rattle.std.specs.Prelude.{◌≡◌, ◌≤◌, ℕ, List, [], Option, None, Some, is_some, vec_capacity}
use Rattle.hart_machine.specs.BufferEntries.{IsInWorld}
use Rattle.hart_machine.specs.declared.machine.Machine.{Machine}
use Rattle.process_model.specs.World.{World}
use Rattle.script_reader.specs.Playable.{IsSound}
use Rattle.line_player.specs.PlayedLines as model
use Rattle.line_player.specs.PlayedLines.{Answer, Nothing, Refused, Text}
use Rattle.line_player.specs.declared.player.LineReply.{LineReply}
use Rattle.line_player.specs.declared.player.LineReply.TheVariants as reply
use Rattle.line_player.specs.declared.player.LinePlayer.{LinePlayer}

-- the most bytes of an answer
abbrev pub longest_text : ℕ
longest_text = 700

-- there is a machine exactly if there is a world, and it is in that world
abbrev pub IsMachine : Option Machine → Option World → Type 0
IsMachine None None = Unit {0}
IsMachine (Some m) (Some w) = IsInWorld m w
IsMachine _ _ = ⊥

pub record HasPlayed (x : LinePlayer) (s : model.Played) : Type 0 where
  pub draft : x.draft ≡ s.draft
  pub sound : IsSound s.draft
  -- no command is kept
  pub bare : s.draft.commands ≡ []
  pub booted : is_some s.draft.config ≡ is_some s.world
  pub machine : IsMachine x.machine s.world
  -- each answer fits
  pub room : longest_text ≤ vec_capacity x.answer

-- the reply, with the text that the player has, is the model's; without a text in the model the player has none
abbrev pub IsReply : LineReply → List ℕ → model.Reply → Type 0
IsReply reply.Nothing text Nothing = text ≡ []
IsReply reply.Text text (Text t) = text ≡ t
IsReply (reply.Refused c) text (Refused d) = (c ≡ d) × (text ≡ [])
IsReply _ text _ = ⊥

pub record Answers (x : LinePlayer) (r : LineReply) (a : Answer) : Type 0 where
  pub reply : IsReply r x.answer.items a.reply
  pub after : HasPlayed x a.after
