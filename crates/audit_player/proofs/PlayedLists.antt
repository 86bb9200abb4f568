-- Lemmas for `play_threads`: the bytes read (all, or a prefix that is too long) determine the file for threads, so what
-- holds of them holds of the reader's bytes (`played_lists`); a failed read writes nothing (`lists_unread`), nor does a
-- refused file.
use Rattle.std.proofs.Common.{◌≡◌, ℕ, ◌<◌, List, [], length, Option, None, Some, Result, Ok, Err, inl, inr, refl, sym, ap, subst, ◌∙◌}
use Rattle.script_language.specs.declared.limits.TheConstants.{LONGEST_SCRIPT}
use Rattle.script_language.specs.ThreadScript.{ThreadScript, thread_script_of}
use Rattle.script_language.specs.declared.script.Cause.{Cause}
use Rattle.script_language.specs.declared.script.Cause.TheVariants as cause
use Rattle.script_reader.specs.ReadResults.{GivesError}
use Rattle.script_reader.specs.declared.fault.ScriptError.{ScriptError}
use Rattle.script_reader.specs.declared.fault.ScriptError.TheVariants as script
use Rattle.audit_player.proofs.Played.{keeps_same, longer, not_within}
use Rattle.audit_player.specs.PlayResult.{play_error_of}
use Rattle.audit_player.specs.ThreadRunResult.{BreaksOff, PlaysLists, PlaysThreads}
use Rattle.audit_player.specs.InputOutput.{IsInput}
use Rattle.audit_player.specs.declared.fault.PlayError.{PlayError}
use Rattle.audit_player.specs.declared.fault.PlayError.TheVariants as error

too_long : (bytes : List ℕ) → LONGEST_SCRIPT < length bytes → thread_script_of bytes ≡ Err (0, cause.TooLong)
too_long bytes lt = rw (not_within (length bytes) lt) refl

-- bytes of which all, or too many, were read say the same
same_script : (xs bytes : List ℕ) → IsInput LONGEST_SCRIPT (Some xs) bytes → thread_script_of bytes ≡ thread_script_of xs
same_script xs bytes (inl e) = ap thread_script_of e
same_script xs bytes (inr (lt, (rest, e))) = too_long bytes lt ∙ sym (too_long xs (longer bytes rest xs e lt))

-- what holds of the bytes that were read holds of those that the reader had
pub played_lists : (read old new : Option (List ℕ)) (bytes : List ℕ) (result : Result (Unit {0}) PlayError) → IsInput LONGEST_SCRIPT read bytes → PlaysLists old new result (thread_script_of bytes) → PlaysThreads read old new result
played_lists None old new bytes result input h = (bytes, h)
played_lists (Some xs) old new bytes result input h = subst (PlaysLists old new result) (same_script xs bytes input) h

-- where the reader failed nothing was written
unwritten : (known : Option (List ℕ)) (read : Result ThreadScript (ℕ × Cause)) → BreaksOff known known read
unwritten known (Ok s) = inl (keeps_same known)
unwritten known (Err f) = keeps_same known

pub lists_unread : (read known : Option (List ℕ)) → PlaysThreads read known known (Err error.Io)
lists_unread None known = ([], unwritten known (thread_script_of []))
lists_unread (Some bytes) known = unwritten known (thread_script_of bytes)

told_of : (known : Option (List ℕ)) (e : ScriptError) (read : Result ThreadScript (ℕ × Cause)) → GivesError e read → PlaysLists known known (Err (play_error_of e)) read
told_of known script.Memory read h = keeps_same known
told_of known (script.Line n c) read h = (h, keeps_same known)

-- a file that is refused is told, and nothing is written
pub lists_refused : (read known : Option (List ℕ)) (bytes : List ℕ) (e : ScriptError) → IsInput LONGEST_SCRIPT read bytes → GivesError e (thread_script_of bytes) → PlaysThreads read known known (Err (play_error_of e))
lists_refused read known bytes e input h = played_lists read known known bytes (Err (play_error_of e)) input (told_of known e (thread_script_of bytes) h)
