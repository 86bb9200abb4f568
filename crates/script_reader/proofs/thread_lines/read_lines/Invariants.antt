use Rattle.std.proofs.Common.{◌≡◌, ◌+◌, ◌≤◌, Ok, length, true}
use Rattle.script_language.specs.Lines.{raw_lines}
use Rattle.script_language.specs.ThreadScript as words
use Rattle.script_reader.proofs.AsciiLines.{AreAscii}
use Rattle.script_reader.proofs.thread_lines.read_lines.Given as goal

abbrev pub invariant-lines : goal.invariant-lines
invariant-lines l = record {
  says : words.read_lines (Ok (l.draft, l.number)) (raw_lines l.left) ≡ words.read_lines (Ok (l.fn.draft, 0)) (raw_lines l.text);
  few : l.number + length l.left ≤ length l.text;
  ascii : l.ascii ≡ true → AreAscii (raw_lines l.left);
}

abbrev pub decreases-lines : goal.decreases-lines
decreases-lines l = length l.left
