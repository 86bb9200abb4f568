use Rattle.std.proofs.Common.{◌<◌, ◌^◌, length}
use Rattle.script_reader.specs.NumberPrefixes.{IsNumberPrefix}
use Rattle.script_reader.proofs.number_prefixes.decimal_prefix.Given as goal

abbrev pub invariant-digits : goal.invariant-digits
invariant-digits l = record { front : IsNumberPrefix 10 l.text l.rest l.value; small : l.value < 2 ^ 64 }

abbrev pub decreases-digits : goal.decreases-digits
decreases-digits l = length l.rest
