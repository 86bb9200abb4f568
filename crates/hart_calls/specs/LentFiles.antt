-- Predicates on the shelf argument of a call, an `Option<&mut Shelf>` (files that threads share, and their history): a shelf
-- is lent (`IsLent`); P holds of the shelf before and after the call if one is lent, else Q (`OfLent`).
use Rattle.std.proofs.Common.{inl, inr}
use Rattle.std.specs.Prelude.{◌⊎◌, Option, None, Some}
use Rattle.std.specs.Borrow.{MutBor}
use Rattle.file_shelf.specs.ShelfStates.{ShelfState}

abbrev pub IsLent : Option (MutBor ShelfState) → Type 0
IsLent (Some s) = Unit {0}
IsLent None = ⊥

-- P of the shelf before and after the call if one was lent; Q if none was
abbrev pub OfLent : (ShelfState → ShelfState → Type 0) → Type 0 → Option (MutBor ShelfState) → Unit {0} ⊎ ((MutBor ShelfState × Unit {0}) ⊎ ⊥) → Type 0
OfLent P Q (Some s) (inr (inl left)) = P s.now left.0.now
OfLent P Q (Some s) back = ⊥
OfLent P Q None back = Q
