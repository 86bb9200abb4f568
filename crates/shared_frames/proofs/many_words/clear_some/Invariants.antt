use Rattle.std.proofs.Common.{◌≡◌, ℕ, ◌+◌}
use Rattle.frame_store.specs.View.{IsSole, View, with_many}
use Rattle.shared_frames.specs.SeatsOfTable.{FitsIn, view_of}
use Rattle.shared_frames.proofs.many_words.clear_some.Given as goal

-- so many words of the group are 0
abbrev pub invariant-places : goal.invariant-places
invariant-places l = record {
  fits : FitsIn l.table.table_id l.seat;
  sole : IsSole (view_of l.seat) l.frame.0;
  view : (v : View) (first n : ℕ) → l.index ≡ first + n → view_of l.initial.seat ≡ with_many l.frame.0 first n (λ _. 0) v → view_of l.seat ≡ with_many l.frame.0 first (n + l.place) (λ _. 0) v;
}
