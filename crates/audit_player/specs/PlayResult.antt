-- What `play` returns and writes, by the bytes of the script (`Plays`, `PlaysScript`): all of the model's text, or the
-- refusal of the script, or a prefix after a failed read or write; `play_error_of`: the player's error for the script
-- reader's.
use Rattle.std.specs.Prelude.{◌≡◌, ℕ, List, [], Option, None, Some, Result, Ok, Err}
use Rattle.std.specs.Io.KnownBytes.{Appends, Keeps}
use Rattle.script_language.specs.Script.{Script, script_of}
use Rattle.script_language.specs.Text.{text_of}
use Rattle.script_language.specs.declared.script.Cause.{Cause}
use Rattle.script_reader.specs.declared.fault.ScriptError.{ScriptError}
use Rattle.script_reader.specs.declared.fault.ScriptError.TheVariants as script
use Rattle.audit_player.specs.InputOutput.{WroteSome}
use Rattle.audit_player.specs.declared.fault.PlayError.{PlayError}
use Rattle.audit_player.specs.declared.fault.PlayError.TheVariants as error

-- the text of a script; empty for one that is refused
abbrev pub text_or_none : Result Script (ℕ × Cause) → List ℕ
text_or_none (Ok s) = text_of s
text_or_none (Err f) = []

-- after `Ok`: the script is accepted, and all of its text was written
abbrev pub Writes : Option (List ℕ) → Option (List ℕ) → Result Script (ℕ × Cause) → Type 0
Writes old new (Ok s) = Appends old new (text_of s)
Writes old new (Err f) = ⊥

-- After an error. `Script`: the script is refused, by this line and cause, and nothing was written. `Memory`: nothing was
-- written. `Io`: a prefix of the script's text was written, and nothing if the script is refused.
abbrev pub RefusesScript : Option (List ℕ) → Option (List ℕ) → PlayError → Result Script (ℕ × Cause) → Type 0
RefusesScript old new (error.Script n c) script = (script ≡ Err (n, c)) × Keeps old new
RefusesScript old new error.Memory script = Keeps old new
RefusesScript old new error.Io script = WroteSome old new (text_or_none script)

abbrev pub PlaysScript : Option (List ℕ) → Option (List ℕ) → Result (Unit {0}) PlayError → Result Script (ℕ × Cause) → Type 0
PlaysScript old new (Ok u) script = Writes old new script
PlaysScript old new (Err e) script = RefusesScript old new e script

-- The bytes that the reader has left, what the writer holds before and after, and the result. If the bytes of the reader are
-- not known, there are some for which it holds.
abbrev pub Plays : Option (List ℕ) → Option (List ℕ) → Option (List ℕ) → Result (Unit {0}) PlayError → Type 0
Plays None old new result = (bytes : List ℕ) × PlaysScript old new result (script_of bytes)
Plays (Some bytes) old new result = PlaysScript old new result (script_of bytes)

-- the player's error for an error of the reader of scripts
abbrev pub play_error_of : ScriptError → PlayError
play_error_of script.Memory = error.Memory
play_error_of (script.Line n c) = error.Script n c
