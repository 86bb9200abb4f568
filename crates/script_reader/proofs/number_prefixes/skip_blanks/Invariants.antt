use Rattle.std.proofs.Common.{◌≡◌, length}
use Rattle.script_language.specs.Lines.{fields_of}
use Rattle.script_reader.proofs.number_prefixes.skip_blanks.Given as goal

abbrev pub invariant-blanks : goal.invariant-blanks
invariant-blanks l = fields_of l.rest ≡ fields_of l.line

abbrev pub decreases-blanks : goal.decreases-blanks
decreases-blanks l = length l.rest
