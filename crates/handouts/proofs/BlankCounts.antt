-- Lemma: from a line of a handout on there are as many blanks as from the next line on, and one more if it is one.
use Rattle.std.proofs.Common.{◌≡◌, ◌+◌, ℕ, arith, zero, suc, refl, ap, sym, List, [], ◌∷◌, Option, Some, None, drop}
use Rattle.std.specs.Prelude.{if◌then◌else◌, is_some, slice_get}
use Rattle.std.proofs.lemmas.Bool.{false≢true}
use Rattle.std.proofs.lemmas.Option.{same_Some}
use Rattle.handouts.specs.Marks.{blanks_of, is_blank}
use Rattle.handouts.specs.declared.marks.Asked.{Asked}

some_is : {X : Type 0} {x : X} → Some x ≡ None → ⊥
some_is same = false≢true (sym (ap is_some same))

blanks_at : (h : List Asked) (k : ℕ) (a : Asked) → slice_get h k ≡ Some a → blanks_of (drop k h) ≡ (if is_blank a.line.answer then 1 else 0) + blanks_of (drop (suc k) h)
blanks_at [] k a is = absurd (some_is (sym is))
blanks_at (x ∷ h) zero a is = rw (same_Some x a is) refl
blanks_at (x ∷ h) (suc k) a is = blanks_at h k a is

pub blanks_on : (h : List Asked) (k : ℕ) (a : Asked) → slice_get h k ≡ Some a → blanks_of (drop k h) ≡ (if is_blank a.line.answer then 1 else 0) + blanks_of (drop (k + 1) h)
blanks_on h k a is = let next : k + 1 ≡ suc k = omega arith in rw next (blanks_at h k a is)
