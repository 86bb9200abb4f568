use Rattle.std.proofs.Common.{◌≡◌, ◌-◌, ◌≤◌}
use Rattle.frame_store.specs.NextWord.{AreZeros}
use Rattle.shared_frames.specs.SeatsOfTable.{FitsIn, view_of}
use Rattle.shared_frames.proofs.many_words.next_word.Given as goal

-- the words before an index are 0
abbrev pub invariant-groups : goal.invariant-groups
invariant-groups l = record {
  fits : FitsIn l.table.table_id l.seat;
  view : view_of l.seat ≡ view_of l.initial.seat;
  from : l.first ≤ l.index;
  low : l.index ≤ l.last;
  zeros : AreZeros (view_of l.initial.seat) l.frame.0 l.first l.index;
}

abbrev pub decreases-groups : goal.decreases-groups
decreases-groups l = l.last - l.index
