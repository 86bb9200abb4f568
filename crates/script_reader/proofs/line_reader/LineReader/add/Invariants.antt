use Rattle.std.proofs.Common.{◌≡◌, ◌+◌, ◌≤◌, length, true}
use Rattle.script_language.specs.Lines.{raw_lines}
use Rattle.script_language.specs.Script as words
use Rattle.script_reader.specs.Reading.{lines_read}
use Rattle.script_reader.proofs.AsciiLines.{AreAscii}
use Rattle.script_reader.proofs.line_reader.LineReader.add.Given as goal

abbrev pub invariant-lines : goal.invariant-lines
invariant-lines l = record {
  says : words.read_lines (lines_read l.self) (raw_lines l.left) ≡ words.read_lines (lines_read l.fn.self) (raw_lines l.text);
  few : l.self.count + length l.left ≤ l.fn.self.count + length l.text;
  ascii : l.ascii ≡ true → AreAscii (raw_lines l.left);
}

abbrev pub decreases-lines : goal.decreases-lines
decreases-lines l = length l.left
