use Rattle.std.proofs.Common.{◌≡◌, ℕ}
use Rattle.frame_store.specs.View.{AllKnown, IsHeld, IsSole, View, known_word, with_many, words_known}
use Rattle.shared_frames.specs.SeatsOfTable.{FitsIn, view_of}
use Rattle.shared_frames.proofs.many_words.copy_some.Given as goal

-- so many words of the group are copied
abbrev pub invariant-places : goal.invariant-places
invariant-places l = record {
  fits : FitsIn l.table.table_id l.seat;
  held : IsHeld (view_of l.seat) l.from.0;
  sole : IsSole (view_of l.seat) l.to.0;
  view : (v u : View) → AllKnown v l.from.0 → ((i : ℕ) → known_word u l.from.0 i ≡ known_word v l.from.0 i) → view_of l.initial.seat ≡ u → view_of l.seat ≡ with_many l.to.0 l.index l.place (words_known v l.from.0) u;
}
