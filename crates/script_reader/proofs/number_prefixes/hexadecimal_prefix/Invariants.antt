use Rattle.std.proofs.Common.{◌<◌, ◌^◌, length}
use Rattle.script_reader.specs.NumberPrefixes.{IsNumberPrefix}
use Rattle.script_reader.proofs.number_prefixes.hexadecimal_prefix.Given as goal

abbrev pub invariant-fours : goal.invariant-fours
invariant-fours l = record { front : IsNumberPrefix 16 l.text l.rest l.value; small : l.value < 2 ^ 64 }

abbrev pub decreases-fours : goal.decreases-fours
decreases-fours l = length l.rest

abbrev pub invariant-digits : goal.invariant-digits
invariant-digits l = record { front : IsNumberPrefix 16 l.text l.rest l.value; small : l.value < 2 ^ 64 }

abbrev pub decreases-digits : goal.decreases-digits
decreases-digits l = length l.rest
