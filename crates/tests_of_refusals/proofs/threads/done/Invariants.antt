use Rattle.std.proofs.Common.{◌≡◌}
use Rattle.address_space.specs.Agreement.{body_of, IsAlive}
use Rattle.shared_frames.specs.SeatsOfTable.{FitsIn, view_of}
use Rattle.tests_of_refusals.proofs.threads.done.Given as goal

abbrev pub invariant-numbers : goal.invariant-numbers
invariant-numbers g l = record {
  same : l.store ≡ l.frames.table;
  fits : FitsIn l.frames.table l.space.seat;
  alive : IsAlive (body_of view_of l.space);
}
