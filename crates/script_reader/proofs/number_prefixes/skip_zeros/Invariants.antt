use Rattle.std.proofs.Common.{length}
use Rattle.script_reader.specs.NumberPrefixes.{IsNumberPrefix}
use Rattle.script_reader.proofs.number_prefixes.skip_zeros.Given as goal

abbrev pub invariant-fours : goal.invariant-fours
invariant-fours l = IsNumberPrefix 16 l.text l.rest 0

abbrev pub decreases-fours : goal.decreases-fours
decreases-fours l = length l.rest

abbrev pub invariant-zeros : goal.invariant-zeros
invariant-zeros l = IsNumberPrefix 16 l.text l.rest 0

abbrev pub decreases-zeros : goal.decreases-zeros
decreases-zeros l = length l.rest
