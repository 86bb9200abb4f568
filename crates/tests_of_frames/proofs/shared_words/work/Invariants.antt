use Rattle.std.proofs.Common.{◌≡◌}
use Rattle.frame_store.specs.View.{IsHeld}
use Rattle.shared_frames.specs.SeatsOfTable.{FitsIn, view_of}
use Rattle.tests_of_frames.proofs.shared_words.work.Given as goal

abbrev pub invariant-loop : goal.invariant-loop
invariant-loop g l = record {
  same : l.supply ≡ l.frames.table;
  fits : FitsIn l.frames.table l.seat;
  base : IsHeld (view_of l.seat) 0;
}
