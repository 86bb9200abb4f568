use Rattle.std.proofs.Common.{length}
use Rattle.script_reader.proofs.segments.+are_letters.Given as goal

abbrev pub decreases-are_letters : goal.decreases-are_letters
decreases-are_letters l = length l.letters.now
