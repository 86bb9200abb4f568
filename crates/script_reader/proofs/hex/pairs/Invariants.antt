use Rattle.std.proofs.Common.{◌≡◌, ◌+◌, ◌/◌, ◌≤◌, length}
use Rattle.std.specs.Prelude.{vec_capacity, vec_len}
use Rattle.script_language.specs.Numbers.{pairs_of}
use Rattle.script_reader.proofs.Pairs.{onto}
use Rattle.script_reader.proofs.hex.pairs.Given as goal

-- the bytes so far, and room for those that are left
abbrev pub invariant-twos : goal.invariant-twos
invariant-twos l = record {
  says : onto l.items.items (pairs_of l.rest) ≡ pairs_of l.digits;
  room : vec_len l.items + length l.rest / 2 ≤ vec_capacity l.items;
}

abbrev pub decreases-twos : goal.decreases-twos
decreases-twos l = length l.rest

abbrev pub invariant-ones : goal.invariant-ones
invariant-ones l = record {
  says : onto l.items.items (pairs_of l.rest) ≡ pairs_of l.digits;
  room : vec_len l.items + length l.rest / 2 ≤ vec_capacity l.items;
}

abbrev pub decreases-ones : goal.decreases-ones
decreases-ones l = length l.rest
