use Rattle.std.proofs.Common.{◌≡◌, ◌-◌, ◌≤◌}
use Rattle.frame_store.specs.View.{IsSole, with_many}
use Rattle.shared_frames.specs.SeatsOfTable.{FitsIn, view_of}
use Rattle.shared_frames.proofs.many_words.clear.Given as goal

-- the words before an index are 0
abbrev pub invariant-groups : goal.invariant-groups
invariant-groups l = record {
  fits : FitsIn l.table.table_id l.seat;
  sole : IsSole (view_of l.seat) l.frame.0;
  from : l.first ≤ l.index;
  low : l.index ≤ 512;
  view : view_of l.seat ≡ with_many l.frame.0 l.first (l.index - l.first) (λ _. 0) (view_of l.initial.seat);
}

abbrev pub decreases-groups : goal.decreases-groups
decreases-groups l = 512 - l.index
