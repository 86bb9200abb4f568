use Rattle.std.proofs.Common.{◌≡◌}
use Rattle.std.specs.Prelude.{vec_len}
use Rattle.handouts.proofs.alignment.places_of.Given as goal

-- a place for each line so far
abbrev pub invariant-lines : goal.invariant-lines
invariant-lines l = vec_len l.places ≡ l.number
