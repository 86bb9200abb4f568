-- `IsTextOfRun`: the text written for a script is `ok` and a line for each command, answered by the replies to the steps of
-- one run since boot, and these meet the headline. Before it: the steps that a command makes (`steps_of`), what its line
-- answers (`line_answer`), and all lines in order (`AreLines`).
use Rattle.std.specs.Prelude.{◌≡◌, ℕ, not, ◌&&◌, List, [], ◌∷◌, ◌++◌, codes, map, slice_get, if◌then◌else◌}
use Rattle.std.specs.List.{list_any}
use Rattle.process_laws.specs.Headline.{Headline}
use Rattle.process_model.specs.Files.{bytes_of}
use Rattle.process_model.specs.Files.{file_of}
use Rattle.script_language.specs.Script.{Script}
use Rattle.process_model.specs.Steps.{run, step}
use Rattle.process_model.specs.Steps.{is_refused}
use Rattle.script_language.specs.Text.{enter_steps, image_at, is_ready, line_text, on_steps, series_of, show_text, text_of, three_next}
use Rattle.script_language.specs.Words.{reply_text, report_text}
use Rattle.process_model.specs.World.{booted, report, World}
use Rattle.script_language.specs.declared.declarations.OwnedImage.{OwnedImage}
use Rattle.script_language.specs.declared.script.Command.{Command}
use Rattle.script_language.specs.declared.script.Command.TheVariants as command
use Rattle.process_model.specs.declared.reply.Reply.{Reply}
use Rattle.process_model.specs.declared.reply.ScalarReply.TheVariants.{Done, Ready}
use Rattle.process_model.specs.declared.reply.Reply.TheVariants.{Scalar}
use Rattle.process_model.specs.declared.step.Step.{Step}
use Rattle.process_model.specs.declared.step.Step.TheVariants.{CopyOut, Exec, Serve, Start}

-- the steps of a list, in order, up to the first that is refused, with it
abbrev pub made_of : World → List Step → List Step
made_of w [] = []
made_of w (x ∷ xs) = let o = step w x in x ∷ (if is_refused o.reply then [] else made_of o.world xs)

-- the service of a fault and, if it replies Ready, the return to user mode
abbrev pub service_of : World → ℕ → List Step
service_of w h = let o = step w (Serve h) in Serve h ∷ (if is_ready o.reply then made_of o.world (three_next h) else [])

-- the steps that a line makes: `show` and `audit` make none
abbrev pub steps_of : List OwnedImage → World → Command → List Step
steps_of images w (command.One x) = x ∷ []
steps_of images w (command.Start n) = Start (image_at images n) ∷ []
steps_of images w (command.Exec h n) = Exec h (image_at images n) ∷ []
steps_of images w (command.CopyOut h address bytes) = CopyOut h address (record { ref_ptr = (0, 0); now = bytes }) ∷ []
steps_of images w (command.On h s) = made_of w (on_steps h s)
steps_of images w (command.Enter h) = made_of w (enter_steps h)
steps_of images w (command.Leave h) = made_of w (three_next h)
steps_of images w (command.Fix h) =
    let o = series_of w (three_next h) (Scalar Done) in made_of w (three_next h) ++ (if is_refused o.reply then [] else service_of o.world h)
steps_of images w (command.Show f offset n) = []
steps_of images w command.Audit = []

-- the last of some replies; r if there is none
abbrev pub last_or : Reply → List Reply → Reply
last_or r [] = r
last_or r (q ∷ rs) = last_or q rs

-- the reply that a `fix` line answers: Ready if the service replied it and the last reply is no refusal, else the last reply
abbrev pub fixed_reply : List Reply → Reply
fixed_reply rs = if list_any is_ready rs && not (is_refused (last_or (Scalar Done) rs)) then Scalar Ready else last_or (Scalar Done) rs

-- what a line answers: the last reply to its steps, or the bytes of a file (`show`), or the accounts (`audit`)
abbrev pub line_answer : World → Command → List Reply → List ℕ
line_answer w (command.Show f offset n) rs = show_text (bytes_of (slice_get w.files f)) offset n
line_answer w command.Audit rs = report_text (report w)
line_answer w (command.Fix h) rs = reply_text (fixed_reply rs)
line_answer w _ rs = reply_text (last_or (Scalar Done) rs)

-- the text has one line for each command; the steps are those that the commands make, and the replies those to the steps
pub data AreLines (images : List OwnedImage) : World → List Command → List Step → List Reply → List ℕ → Type 0 where
  none : {w : World} → AreLines images w [] [] [] []
  line : {w : World} {c : Command} {cs : List Command} {xs : List Step} {rs : List Reply} {text : List ℕ}
      → AreLines images (run w (steps_of images w c)).world cs xs rs text
      → AreLines images w (c ∷ cs) (steps_of images w c ++ xs) ((run w (steps_of images w c)).replies
      ++ rs) (line_text (line_answer w c (run w (steps_of images w c)).replies) ++ text)

-- the text of a script is `ok` and then a line for each command, with replies of one run since boot; these meet the headline
pub record IsTextOfRun (s : Script) : Type 0 where
  pub steps : List Step
  pub replies : List Reply
  pub lines : List ℕ
  pub are_lines : AreLines s.images (booted s.config (map file_of s.files)) s.commands steps replies lines
  pub is_text : text_of s ≡ line_text (codes "ok") ++ lines
  pub headline : Headline s.config (map file_of s.files) [] steps replies
