-- Lemmas on lists: a member of a list is one of the list with one element more in front, and a member of a filtered list is
-- one of the list and passes the test.
use Rattle.std.proofs.Common.{◌≡◌, zero, suc, Bool, true, false, cond, filter, List, [], ◌∷◌, refl, ap, sym, ◌∙◌, arith}
use Rattle.std.specs.Prelude.{Contains}

module _ {A : Type 0} where
  pub later : (x : A) (xs : List A) (y : A) → Contains xs y → Contains (x ∷ xs) y
  later x xs y there = (suc there.0, omega (arith, there.1), there.2)

  -- they were there, and pass
  pub in_filter : (p : A → Bool) (xs : List A) (e : A) → Contains (filter p xs) e → Contains xs e × (p e ≡ true)
  in_filter p [] e there = absurd (omega (arith, there.1))
  in_filter p (x ∷ xs) e there = go (in_filter p xs e) (p x) refl there where
    go : (Contains (filter p xs) e → Contains xs e × (p e ≡ true)) → (b : Bool) → p x ≡ b → Contains (cond b (x ∷ filter p xs) (filter p xs)) e → Contains (x ∷ xs) e × (p e ≡ true)
    go rest true is (zero, less, at) = ((zero, omega arith, at), ap p (sym at) ∙ is)
    go rest true is (suc n, less, at) = let old = rest (n, omega (arith, less), at) in (later x xs e old.0, old.1)
    go rest false is there = let old = rest there in (later x xs e old.0, old.1)
