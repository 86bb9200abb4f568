use Rattle.std.proofs.Common.{◌≡◌, ◌*◌}
use Rattle.frame_store.specs.View.{IsHeld, IsSole, with_many, words_known}
use Rattle.shared_frames.specs.SeatsOfTable.{FitsIn, view_of}
use Rattle.shared_frames.proofs.many_words.copy.Given as goal

-- so many groups of words are copied
abbrev pub invariant-groups : goal.invariant-groups
invariant-groups l = record {
  fits : FitsIn l.table.table_id l.seat;
  held : IsHeld (view_of l.seat) l.from.0;
  sole : IsSole (view_of l.seat) l.to.0;
  view : view_of l.seat ≡ with_many l.to.0 0 (4 * l.group) (words_known (view_of l.initial.seat) l.from.0) (view_of l.initial.seat);
}
