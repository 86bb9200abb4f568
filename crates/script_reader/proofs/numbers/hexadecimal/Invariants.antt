use Rattle.std.proofs.Common.{◌≡◌, ◌^◌, ◌<◌, Some, drop}
use Rattle.script_language.specs.Numbers.{digits_from, digits_in, if_below}
use Rattle.script_reader.proofs.numbers.hexadecimal.Given as goal

abbrev pub invariant-loop-byte : goal.invariant-loop-byte
invariant-loop-byte l = record { small : l.value < 2 ^ 64; says : if_below (2 ^ 64) (digits_from 16 (Some l.value) (drop l.byte-index l.digits)) ≡ if_below (2 ^ 64) (digits_in 16 l.digits) }
