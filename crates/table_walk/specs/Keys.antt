-- Lemmas of finite maps from numbers to numbers: what is found at a key that was inserted or removed, and at every other
-- key; and an option that is no `Some` is None.
use Rattle.std.proofs.Common.{◌≡◌, ℕ, true, false, ◌∙◌, arith, Some, None, Option, refl}
use Rattle.std.proofs.lemmas.Bool.Decides.{nat_tests}
use Rattle.std.specs.Ordering.{nat_cmp, eq_by_cmp}
use Rattle.std.specs.Cmp.{nat_cmp_total}
use Rattle.std.specs.FinMap.{FinMap, get, insert, remove, get-insert, get-remove}

same_key : (q k : ℕ) → q ≡ k → eq_by_cmp nat_cmp q k ≡ true
same_key q k e = grind (arith, nat_tests)

other_key : (q k : ℕ) → (q ≡ k → ⊥) → eq_by_cmp nat_cmp q k ≡ false
other_key q k e = grind (arith, nat_tests)

pub insert_same : (t : FinMap nat_cmp ℕ) (k v q : ℕ) → q ≡ k → get (insert t k v) q ≡ Some v
insert_same t k v q e = get-insert nat_cmp_total t k v q ∙ rw (same_key q k e)

pub insert_other : (t : FinMap nat_cmp ℕ) (k v q : ℕ) → (q ≡ k → ⊥) → get (insert t k v) q ≡ get t q
insert_other t k v q e = get-insert nat_cmp_total t k v q ∙ rw (other_key q k e)

pub remove_same : (t : FinMap nat_cmp ℕ) (k q : ℕ) → q ≡ k → get (remove t k) q ≡ None
remove_same t k q e = get-remove nat_cmp_total t k q ∙ rw (same_key q k e)

pub remove_other : (t : FinMap nat_cmp ℕ) (k q : ℕ) → (q ≡ k → ⊥) → get (remove t k) q ≡ get t q
remove_other t k q e = get-remove nat_cmp_total t k q ∙ rw (other_key q k e)

pub is_none : {X : Type 0} (o : Option X) → ((x : X) → o ≡ Some x → ⊥) → o ≡ None
is_none None not = refl
is_none (Some x) not = absurd (not x refl)
