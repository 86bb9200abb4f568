use Rattle.std.proofs.Common.{◌≡◌, ◌*◌, length, take}
use Rattle.std.specs.List.{flat_map}
use Rattle.script_language.specs.Words.{two_digits}
use Rattle.script_language.proofs.hexes.put_few.Given as goal

abbrev pub invariant-bytes : goal.invariant-bytes
invariant-bytes l = record {
  len : length l.digits ≡ 64;
  text : take (2 * l.i) l.digits ≡ flat_map two_digits (take l.i l.bytes);
}
