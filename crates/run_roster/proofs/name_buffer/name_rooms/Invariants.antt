-- What `name_rooms` picks: there is room for as many names as the loop has counted.
use Rattle.std.proofs.Common.{◌≡◌}
use Rattle.std.specs.Prelude.{vec_len}
use Rattle.run_roster.proofs.name_buffer.name_rooms.Given as goal

abbrev pub invariant-rooms : goal.invariant-rooms
invariant-rooms l = vec_len l.rooms ≡ l.counter
