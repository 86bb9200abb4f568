use Rattle.std.proofs.Common.{◌≡◌, ℕ, ◌+◌, true}
use Rattle.frame_store.specs.View.{IsSole, View, with_many}
use Rattle.shared_frames.specs.SeatsOfTable.{FitsIn, view_of}
use Rattle.shared_frames.proofs.many_words.clear_group.Given as goal

-- the words so far are 0, or one is not; and zeros in all eight places make up for what was learned
abbrev pub invariant-places : goal.invariant-places
invariant-places l = record {
  fits : FitsIn l.table.table_id l.seat;
  sole : IsSole (view_of l.seat) l.frame.0;
  zeros : l.zeros ≡ true → (v : View) (first n : ℕ) → l.index ≡ first + n → view_of l.initial.seat ≡ with_many l.frame.0 first n (λ _. 0) v → view_of l.seat ≡ with_many l.frame.0 first (n + l.place) (λ _. 0) v;
  over : with_many l.frame.0 l.index 8 (λ _. 0) (view_of l.seat) ≡ with_many l.frame.0 l.index 8 (λ _. 0) (view_of l.initial.seat);
}
