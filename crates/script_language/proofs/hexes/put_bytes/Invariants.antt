use Rattle.std.proofs.Common.{◌≡◌, ◌+◌, ◌*◌, ◌≤◌, ◌++◌, length, vec_len, vec_capacity}
use Rattle.std.specs.List.{flat_map}
use Rattle.script_language.specs.Words.{two_digits}
use Rattle.script_language.proofs.hexes.put_bytes.Given as goal

abbrev pub invariant-pieces : goal.invariant-pieces
invariant-pieces l = record {
  text : l.text.items ++ flat_map two_digits l.rest ≡ l.fn.text.items ++ flat_map two_digits l.bytes;
  len : vec_len l.text + 2 * length l.rest ≡ vec_len l.fn.text + 2 * length l.bytes;
  capacity : vec_capacity l.fn.text ≤ vec_capacity l.text;
}

abbrev pub decreases-pieces : goal.decreases-pieces
decreases-pieces l = length l.rest
