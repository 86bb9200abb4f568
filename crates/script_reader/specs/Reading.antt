-- What a `LineReader` and a `PieceReader` have read of a script (`lines_read`, `HasRead`, record `PieceReader`), what a line
-- reader does with an error (`KeepsFault`), and how a piece of a script is cut at the ends of lines (`EndsLines`,
-- `CutsLines`).
use Rattle.std.specs.Prelude.{◌≡◌, ℕ, ◌≤◌, ◌++◌, List, Option, None, Some, Result, Ok, Err, length}
use Rattle.script_language.specs.Lines.{raw_lines}
use Rattle.script_language.specs.Script.{Draft, Read, no_lines, read_lines}
use Rattle.script_language.specs.declared.script.Cause.{Cause}
use Rattle.script_reader.specs.declared.fault.ScriptError.{ScriptError}
use Rattle.script_reader.specs.declared.fault.ScriptError.TheVariants as script
use Rattle.script_reader.specs.declared.line_reader.LineReader.{LineReader}

abbrev pub read_with : Option (ℕ × Cause) → Draft → ℕ → Read
read_with None d n = Ok (d, n)
read_with (Some f) d n = Err f

-- what a line reader has read: its draft and the number of lines, or the first fault
abbrev pub lines_read : LineReader → Read
lines_read s = read_with s.fault s.draft s.count

-- what the line reader makes of an error: it keeps the fault of a line and returns `Ok`; for `Memory` it returns an error
abbrev pub KeepsFault : {E : Type 0} → ScriptError → Result (Unit {0}) E → Option (ℕ × Cause) → Type 0
KeepsFault (script.Line n c) (Ok u) fault = fault ≡ Some (n, c)
KeepsFault (script.Line n c) (Err e) fault = ⊥
KeepsFault script.Memory (Ok u) fault = ⊥
KeepsFault script.Memory (Err e) fault = Unit {0}

pub record PieceReader : Type 0 where
  -- what the lines that have ended declare and command, or the first fault among them; and how many were read
  pub read : Read
  pub count : ℕ
  -- the beginning of the next line
  pub rest : List ℕ
  -- how many bytes were read
  pub length : ℕ

-- the text ends where a line ends: with any text after it, the lines are those of the one and then those of the other
abbrev pub EndsLines : List ℕ → Type 0
EndsLines text = (more : List ℕ) → raw_lines (text ++ more) ≡ raw_lines text ++ raw_lines more

-- exactly these bytes were read: the lines of a part that ends where a line ends, and the beginning of the next line
pub record HasRead (bytes : List ℕ) (r : PieceReader) : Type 0 where
  pub ended : List ℕ
  pub whole : ended ++ r.rest ≡ bytes
  pub ends : EndsLines ended
  pub read : r.read ≡ read_lines (Ok (no_lines, 0)) (raw_lines ended)
  pub few : r.count ≤ length ended
  pub long : r.length ≡ length bytes

-- a piece is cut in three: `first` ends a line, whatever text precedes the piece, `ended` ends where a
-- line ends, and `rest` follows
pub record CutsLines (piece first ended rest : List ℕ) : Type 0 where
  pub whole : first ++ (ended ++ rest) ≡ piece
  pub first_ends : (front : List ℕ) → EndsLines (front ++ first)
  pub ended_ends : EndsLines ended
