-- Lemmas about `total`, the sum of a number over a list of views (what seats hold and know): after one view is replaced,
-- after one is appended; no view, and no two views together, have more than the sum; a view has all of it if the others
-- have 0.
use Rattle.std.proofs.Common.{◌≡◌, ◌≢◌, ℕ, zero, suc, ◌+◌, ◌≤◌, List, [], ◌∷◌, ◌++◌, set, refl, sym, ap, arith}
use mathlib.Core.Option.{some, some-injective, some-ne-none}
use lib.ListN.{get_elem?}
use Rattle.frame_store.specs.View.{View}
use Rattle.shared_frames.specs.Invariant.{total}

module _ (g : View → ℕ) where
  -- one view becomes another
  pub total-set : (vs : List View) (id : ℕ) (v w : View) → get_elem? vs id ≡ some v → total g (set vs id w) + g v ≡ total g vs + g w
  total-set [] id v w e = absurd (some-ne-none v (sym e))
  total-set (x ∷ xs) zero v w e = let is : g x ≡ g v = ap g (some-injective x v e) in omega arith
  total-set (x ∷ xs) (suc id) v w e = let r = total-set xs id v w e in omega arith

  -- a view comes last
  pub total-snoc : (vs : List View) (w : View) → total g (vs ++ w ∷ []) ≡ total g vs + g w
  total-snoc [] w = omega arith
  total-snoc (x ∷ xs) w = let r = total-snoc xs w in omega arith

  -- no view has more than all have
  pub total-one : (vs : List View) (id : ℕ) (v : View) → get_elem? vs id ≡ some v → g v ≤ total g vs
  total-one [] id v e = absurd (some-ne-none v (sym e))
  total-one (x ∷ xs) zero v e = let is : g x ≡ g v = ap g (some-injective x v e) in omega arith
  total-one (x ∷ xs) (suc id) v e = let r = total-one xs id v e in omega arith

  -- nor have two of them
  pub total-two : (vs : List View) (i j : ℕ) (v w : View) → i ≢ j → get_elem? vs i ≡ some v → get_elem? vs j ≡ some w → g v + g w ≤ total g vs
  total-two [] i j v w n e f = absurd (some-ne-none v (sym e))
  total-two (x ∷ xs) zero zero v w n e f = absurd (n refl)
  total-two (x ∷ xs) zero (suc j) v w n e f = let is : g x ≡ g v = ap g (some-injective x v e) in let r = total-one xs j w f in omega arith
  total-two (x ∷ xs) (suc i) zero v w n e f = let is : g x ≡ g w = ap g (some-injective x w f) in let r = total-one xs i v e in omega arith
  total-two (x ∷ xs) (suc i) (suc j) v w n e f = let r = total-two xs i j v w (λ h. n (ap suc h)) e f in omega arith

  total-none : (vs : List View) → ((j : ℕ) (u : View) → get_elem? vs j ≡ some u → g u ≡ 0) → total g vs ≡ 0
  total-none [] all = refl
  total-none (x ∷ xs) all = let h = all 0 x refl in let r = total-none xs (λ j u e. all (suc j) u e) in omega (arith, h, r)

  -- where each other view has none, one view has all
  pub total-lone : (vs : List View) (id : ℕ) (v : View) → get_elem? vs id ≡ some v → ((j : ℕ) (u : View) → j ≢ id → get_elem? vs j ≡ some u → g u ≡ 0) → total g vs ≡ g v
  total-lone [] id v at others = absurd (some-ne-none v (sym at))
  total-lone (x ∷ xs) zero v at others = let is : g x ≡ g v = ap g (some-injective x v at) in let r = total-none xs (λ j u e. others (suc j) u (λ q. omega arith) e) in omega (arith, is, r)
  total-lone (x ∷ xs) (suc id) v at others =
      let h = others 0 x (λ q. omega arith) refl in
      let r = total-lone xs id v at (λ j u ne e. others (suc j) u (λ q. ne (omega arith)) e) in
      omega (arith, h, r)
