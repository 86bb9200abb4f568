-- Lemmas of lists of one element, and of those that a test guards.
use Rattle.std.proofs.Common.{◌≡◌, ◌⊎◌, Bool, true, false, List, [], ◌∷◌, refl, inl, inr, if◌then◌else◌}
use Rattle.std.specs.List.{Contains}
use Rattle.access_judge.proofs.SearchLists.{contains_none}
use Rattle.std.proofs.lemmas.List.Elements.{Contains-push_cases}

pub alone : {X : Type 0} (y x : X) → Contains (y ∷ []) x → y ≡ x
alone y x has = elim (Contains-push_cases [] y x has) [
  | inl old ↦ absurd (contains_none x old)
  | inr same ↦ same
]

-- a list that a test guards
pub guarded : {X : Type 0} (b : Bool) (xs : List X) (x : X) → Contains (if b then xs else []) x → (b ≡ true) × Contains xs x
guarded true xs x has = (refl, has)
guarded false xs x has = absurd (contains_none x has)

pub past_guard : {X : Type 0} (b : Bool) (xs : List X) (x : X) → b ≡ true → Contains xs x → Contains (if b then xs else []) x
past_guard b xs x is has = rw is has

-- one of two lists, by a test
pub either : {X : Type 0} (b : Bool) (xs ys : List X) (x : X) → Contains (if b then xs else ys) x
    → ((b ≡ true) × Contains xs x) ⊎ ((b ≡ false) × Contains ys x)
either true xs ys x has = inl (refl, has)
either false xs ys x has = inr (refl, has)
