use Rattle.std.proofs.Common.{◌≡◌, ◌+◌, true}
use Rattle.frame_store.specs.NextWord.{AreZeros}
use Rattle.shared_frames.specs.SeatsOfTable.{FitsIn, view_of}
use Rattle.shared_frames.proofs.many_words.are_zeros.Given as goal

-- so many words of the group are 0, or one is not
abbrev pub invariant-words : goal.invariant-words
invariant-words l = record {
  fits : FitsIn l.table.table_id l.seat;
  view : view_of l.seat ≡ view_of l.initial.seat;
  zeros : l.zeros ≡ true → AreZeros (view_of l.initial.seat) l.frame.0 l.index (l.index + l.place);
}
