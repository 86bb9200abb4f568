use Rattle.std.proofs.Common.{◌∙◌, arith, refl, sym}
use Rattle.script_language.specs.Lines.{raw_lines}
use Rattle.script_reader.proofs.AsciiLines.{ascii_lines}
use Rattle.script_reader.proofs.Faults.{stopped}
use Rattle.script_reader.proofs.line_reader.LineReader.add.Goals as goal

pub lines-init : goal.lines-init
lines-init c = record { says = refl; few = omega arith; ascii = λ is. ascii_lines c.args.text.now (sym c.is_ascii-ascii.ensures ∙ is) }

pub returns-else-is_none-clause-read : goal.returns-else-is_none-clause-read
returns-else-is_none-clause-read c = let s = c.lines.self in stopped s.fault s.draft s.count (raw_lines c.lines.left.now) _ c.if-is_none.ensures c.lines.invariant.says
