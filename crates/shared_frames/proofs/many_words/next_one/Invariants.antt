use Rattle.std.proofs.Common.{◌≡◌, ◌≤◌}
use Rattle.frame_store.specs.NextWord.{AreZeros}
use Rattle.shared_frames.specs.SeatsOfTable.{FitsIn, view_of}
use Rattle.shared_frames.proofs.many_words.next_one.Given as goal

-- the words before an index are 0
abbrev pub invariant-words : goal.invariant-words
invariant-words l = record {
  fits : FitsIn l.table.table_id l.seat;
  view : view_of l.seat ≡ view_of l.initial.seat;
  from : l.first ≤ l.index;
  zeros : AreZeros (view_of l.initial.seat) l.frame.0 l.first l.index;
}
