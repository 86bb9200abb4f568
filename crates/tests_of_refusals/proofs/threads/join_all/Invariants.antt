use Rattle.std.proofs.Common.{All, vec_len}
use Rattle.shared_frames.specs.SeatsOfTable.{FitsIn}
use Rattle.tests_of_refusals.proofs.threads.join_all.Given as goal

abbrev pub invariant-seats : goal.invariant-seats
invariant-seats g l = record {
  fits : FitsIn l.frames.table l.seat;
  others : All (λ r. FitsIn l.frames.table r.0) l.seats.items;
}

abbrev pub decreases-seats : goal.decreases-seats
decreases-seats g l = vec_len l.seats
