-- Lemmas for `play`: the bytes read (all, or a prefix that is too long) determine the script, so what holds of them holds of
-- the reader's bytes (`played`); a failed read writes nothing (`read_failed`), nor does a refused script (`refused`).
use Rattle.std.proofs.Common.{◌≡◌, ℕ, ◌<◌, false, List, [], ◌++◌, length, length-append, Option, None, Some, Result, Err, inl, inr, refl, sym, ap, subst, ◌∙◌, arith}
use Rattle.std.specs.Prelude.{nat_le}
use Rattle.script_language.specs.declared.script.Cause.TheVariants as cause
use Rattle.script_language.specs.Script.{Script, script_of}
use Rattle.audit_player.proofs.Parts.{appends_nothing}
use Rattle.audit_player.specs.declared.fault.PlayError.{PlayError}
use Rattle.audit_player.specs.declared.fault.PlayError.TheVariants as error
use Rattle.audit_player.specs.PlayResult.{Plays, PlaysScript, text_or_none, play_error_of}
use Rattle.std.specs.Io.KnownBytes.{Keeps}
use Rattle.script_language.specs.declared.script.Cause.{Cause}
use Rattle.script_reader.specs.ReadResults.{GivesError}
use Rattle.script_reader.specs.declared.fault.ScriptError.{ScriptError}
use Rattle.script_reader.specs.declared.fault.ScriptError.TheVariants as script
use Rattle.audit_player.specs.InputOutput.{IsInput}
use Rattle.script_language.specs.declared.limits.TheConstants.{LONGEST_SCRIPT}

pub not_within : (n : ℕ) → LONGEST_SCRIPT < n → nat_le n LONGEST_SCRIPT ≡ false
not_within n lt = grind arith

too_long : (bytes : List ℕ) → LONGEST_SCRIPT < length bytes → script_of bytes ≡ Err (0, cause.TooLong)
too_long bytes lt = rw (not_within (length bytes) lt) refl

pub longer : (bytes rest xs : List ℕ) → xs ≡ bytes ++ rest → LONGEST_SCRIPT < length bytes → LONGEST_SCRIPT < length xs
longer bytes rest xs e lt = let more : length xs ≡ length (bytes ++ rest) = ap length e in omega (arith, more, length-append bytes rest)

-- bytes of which all, or too many, were read say the same script
same_script : (xs bytes : List ℕ) → IsInput LONGEST_SCRIPT (Some xs) bytes → script_of bytes ≡ script_of xs
same_script xs bytes (inl e) = ap script_of e
same_script xs bytes (inr (lt, (rest, e))) = too_long bytes lt ∙ sym (too_long xs (longer bytes rest xs e lt))

-- what holds of the bytes that were read holds of those that the reader had
pub played : (read old new : Option (List ℕ)) (bytes : List ℕ) (result : Result (Unit {0}) PlayError) → IsInput LONGEST_SCRIPT read bytes → PlaysScript old new result (script_of bytes) → Plays read old new result
played None old new bytes result input h = (bytes, h)
played (Some xs) old new bytes result input h = subst (PlaysScript old new result) (same_script xs bytes input) h

-- nothing is a beginning of every text
pub read_failed : (read known : Option (List ℕ)) → Plays read known known (Err error.Io)
read_failed None known = ([], (text_or_none (script_of []), ([], refl, appends_nothing known)))
read_failed (Some bytes) known = (text_or_none (script_of bytes), ([], refl, appends_nothing known))

pub keeps_same : (known : Option (List ℕ)) → Keeps known known
keeps_same None = tt
keeps_same (Some xs) = refl

told_of : (known : Option (List ℕ)) (e : ScriptError) (read : Result Script (ℕ × Cause)) → GivesError e read → PlaysScript known known (Err (play_error_of e)) read
told_of known script.Memory read h = keeps_same known
told_of known (script.Line n c) read h = (h, keeps_same known)

-- a script that is refused is told, and nothing is written
pub refused : (read known : Option (List ℕ)) (bytes : List ℕ) (e : ScriptError) → IsInput LONGEST_SCRIPT read bytes → GivesError e (script_of bytes) → Plays read known known (Err (play_error_of e))
refused read known bytes e input h = played read known known bytes (Err (play_error_of e)) input (told_of known e (script_of bytes) h)
