use Rattle.std.proofs.Common.{◌≡◌, ℕ, ◌+◌, true}
use Rattle.frame_store.specs.View.{AllKnown, IsHeld, IsSole, View, known_word, with_many, words_known}
use Rattle.shared_frames.specs.SeatsOfTable.{FitsIn, view_of}
use Rattle.shared_frames.proofs.many_words.copy_group.Given as goal

-- the words so far are those of the other frame, or one is not; and the group, stored, makes up for what was learned
abbrev pub invariant-places : goal.invariant-places
invariant-places l = record {
  fits : FitsIn l.table.table_id l.seat;
  held : IsHeld (view_of l.seat) l.from.0;
  sole : IsSole (view_of l.seat) l.to.0;
  apart : (i : ℕ) → known_word (view_of l.seat) l.from.0 i ≡ known_word (view_of l.initial.seat) l.from.0 i;
  same : l.same ≡ true → (v : View) → AllKnown v l.from.0 → view_of l.initial.seat ≡ with_many l.to.0 0 l.index (words_known v l.from.0) v → view_of l.seat ≡ with_many l.to.0 0 (l.index + l.place) (words_known v l.from.0) v;
  over : (word : ℕ → ℕ) → with_many l.to.0 l.index 4 word (view_of l.seat) ≡ with_many l.to.0 l.index 4 word (view_of l.initial.seat);
}
