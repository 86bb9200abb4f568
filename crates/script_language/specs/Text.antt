-- The text that playing a script writes (`text_of`): `ok` for its `boot`, and one line for each line after it. Also the
-- lines that are several steps (`on`, `enter`, `leave`, `fix`) and the text of `show`.
use Rattle.std.specs.Prelude.{ℕ, true, false, Bool, Option, Some, None, List, [], ◌∷◌, ◌++◌, length, take, drop, map, slice_get, codes}
use Rattle.std.specs.Fmt.{decimal}
use Rattle.process_model.specs.Files.{bytes_of}
use Rattle.process_model.specs.Files.{file_of}
use Rattle.script_language.specs.Script.{Script}
use Rattle.process_model.specs.Steps.{is_refused, step}
use Rattle.script_language.specs.Words.{reply_text, report_text, bytes_text}
use Rattle.process_model.specs.World.{World, StepOutcome, booted, report}
use Rattle.process_model.specs.declared.image.Image.{Image}
use Rattle.process_model.specs.declared.image.Image.TheVariants as image
use Rattle.script_language.specs.declared.declarations.OwnedImage.{OwnedImage}
use Rattle.script_language.specs.declared.declarations.OwnedImage.TheVariants as owned
use Rattle.script_language.specs.declared.script.Command.{Command}
use Rattle.script_language.specs.declared.script.Command.TheVariants as command
use Rattle.process_model.specs.declared.reply.Reply.{Reply}
use Rattle.process_model.specs.declared.reply.ScalarReply.TheVariants.{Done, Ready}
use Rattle.process_model.specs.declared.reply.Reply.TheVariants.{Scalar}
use Rattle.process_model.specs.declared.step.Step.{Step}
use Rattle.process_model.specs.declared.step.Step.TheVariants.{Start, Switch, Trap, Next, Serve, Exec, CopyOut}

-- lines that are several steps

abbrev pub unless_stopped : Bool → StepOutcome → StepOutcome → StepOutcome
unless_stopped true o rest = o
unless_stopped false o rest = rest

-- several steps with one reply: the first that is refused gives the reply, and no step after it is made; else the given
-- reply
abbrev pub series_of : World → List Step → Reply → StepOutcome
series_of w [] reply = record { reply = reply; world = w }
series_of w (s ∷ ss) reply = let o = step w s in unless_stopped (is_refused o.reply) o (series_of o.world ss reply)

-- three instructions: all of the return to user mode, or of kernel entry after a trap or a fault
abbrev pub three_next : ℕ → List Step
three_next h = Next h ∷ Next h ∷ Next h ∷ []

abbrev pub on_steps : ℕ → ℕ → List Step
on_steps h s = Switch h (Some s) ∷ three_next h

abbrev pub enter_steps : ℕ → List Step
enter_steps h = Trap h ∷ three_next h

abbrev pub is_ready : Reply → Bool
is_ready (Scalar Ready) = true
is_ready _ = false

-- after Ready the hart returns to user mode; any other reply ends the line
abbrev pub back_if : ℕ → StepOutcome → Bool → StepOutcome
back_if h o true = series_of o.world (three_next h) (Scalar Ready)
back_if h o false = o

abbrev pub after_service : ℕ → StepOutcome → StepOutcome
after_service h o = back_if h o (is_ready o.reply)

abbrev pub fixed_after : ℕ → StepOutcome → Bool → StepOutcome
fixed_after h o true = o
fixed_after h o false = after_service h (step o.world (Serve h))

-- `fix`: kernel entry after a fault, its service, and after Ready the return
abbrev pub fixed : World → ℕ → StepOutcome
fixed w h = let o = series_of w (three_next h) (Scalar Done) in fixed_after h o (is_refused o.reply)

-- declared images as a step borrows them. A borrow has an address too, which no step reads

abbrev pub lent : OwnedImage → Image
lent (owned.Elf bytes) = image.Elf (record { ref_ptr = (0, 0); now = bytes })
lent (owned.Segments segments) = image.Segments (record { ref_ptr = (0, 0); now = segments })

abbrev pub no_image : OwnedImage
no_image = owned.Elf []

abbrev pub or_no_image : Option OwnedImage → OwnedImage
or_no_image None = no_image
or_no_image (Some i) = i

abbrev pub image_at : List OwnedImage → ℕ → Image
image_at images n = lent (or_no_image (slice_get images n))

-- the text of each line

-- a line's text, and the world after it
pub record LineResult : Type 0 where
  pub text : List ℕ
  pub world : World

abbrev pub line_result_of : StepOutcome → LineResult
line_result_of o = record { text = reply_text o.reply; world = o.world }

abbrev pub show_text : List ℕ → ℕ → ℕ → List ℕ
show_text bytes offset n = codes "file " ++ decimal (length bytes) ++ codes " " ++ bytes_text (take n (drop offset bytes))

abbrev pub line_result : List OwnedImage → World → Command → LineResult
line_result images w (command.One s) = line_result_of (step w s)
line_result images w (command.Start n) = line_result_of (step w (Start (image_at images n)))
line_result images w (command.Exec h n) = line_result_of (step w (Exec h (image_at images n)))
line_result images w (command.CopyOut h address bytes) = line_result_of (step w (CopyOut h address (record { ref_ptr = (0, 0); now = bytes })))
line_result images w (command.On h s) = line_result_of (series_of w (on_steps h s) (Scalar Done))
line_result images w (command.Enter h) = line_result_of (series_of w (enter_steps h) (Scalar Done))
line_result images w (command.Leave h) = line_result_of (series_of w (three_next h) (Scalar Done))
line_result images w (command.Fix h) = line_result_of (fixed w h)
line_result images w (command.Show f offset n) = record { text = show_text (bytes_of (slice_get w.files f)) offset n; world = w }
line_result images w command.Audit = record { text = report_text (report w); world = w }

abbrev pub line_text : List ℕ → List ℕ
line_text t = t ++ 10 ∷ []

abbrev pub commands_text : List OwnedImage → World → List Command → List ℕ
commands_text images w [] = []
commands_text images w (c ∷ cs) = let p = line_result images w c in line_text p.text ++ commands_text images p.world cs

-- what `play` writes for a script: a line for `boot`, and one for each line after it
abbrev pub text_of : Script → List ℕ
text_of s = line_text (codes "ok") ++ commands_text s.images (booted s.config (map file_of s.files)) s.commands
