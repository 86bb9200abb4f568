-- `error_text`: the text of a `PlayError` (why a file was not played to its end): its number and name and, if the file has a
-- fault, the line's number and the cause.
use Rattle.std.specs.Prelude.{ℕ, List, ◌++◌, codes}
use Rattle.std.specs.Fmt.{decimal}
use Rattle.script_language.specs.Words.{cause_text}
use Rattle.audit_player.specs.declared.fault.PlayError.{PlayError}
use Rattle.audit_player.specs.declared.fault.PlayError.TheVariants as error

abbrev pub error_text : PlayError → List ℕ
error_text error.Memory = codes "refused 21 Memory"
error_text (error.Script line cause) = codes "refused 23 Script line " ++ (decimal line ++ (codes " " ++ cause_text cause))
error_text error.Io = codes "refused 24 Io"
