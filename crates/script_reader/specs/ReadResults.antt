-- Relations: a result of the reader is what the model's definition (`read`) gives, for one line (`GivesLine`, `Fails`) and
-- for a script, a file for threads, or lines of one (`GivesScript`, `GivesError`). Of a result that reports refused host
-- memory, nothing is stated.
use Rattle.std.specs.Prelude.{◌≡◌, ℕ, Result, Ok, Err}
use Rattle.script_language.specs.declared.script.Cause.{Cause}
use Rattle.script_reader.specs.declared.fault.LineFault.{LineFault}
use Rattle.script_reader.specs.declared.fault.LineFault.TheVariants as fault
use Rattle.script_reader.specs.declared.fault.ScriptError.{ScriptError}
use Rattle.script_reader.specs.declared.fault.ScriptError.TheVariants as script

abbrev pub Fails : {Y : Type 0} → LineFault → Result Y Cause → Type 0
Fails fault.Memory read = Unit {0}
Fails (fault.Cause c) read = read ≡ Err c

-- the result for one line: the value, as `view` sees it, or the cause
abbrev pub GivesLine : {X Y : Type 0} → (X → Y) → Result X LineFault → Result Y Cause → Type 0
GivesLine view (Ok x) read = read ≡ Ok (view x)
GivesLine view (Err e) read = Fails e read

-- the fault of a script: the line and the cause; of `Memory` nothing is said
abbrev pub GivesError : {Y : Type 0} → ScriptError → Result Y (ℕ × Cause) → Type 0
GivesError script.Memory read = Unit {0}
GivesError (script.Line n c) read = read ≡ Err (n, c)

-- the result for a script, or for lines of one: the value, as `view` sees it, or the line and the cause
abbrev pub GivesScript : {X Y : Type 0} → (X → Y) → Result X ScriptError → Result Y (ℕ × Cause) → Type 0
GivesScript view (Ok x) read = read ≡ Ok (view x)
GivesScript view (Err e) read = GivesError e read
