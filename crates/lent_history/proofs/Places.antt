-- Places of a caller's array, of which the first ones have outcomes that a history permits (`Listed`).
use Rattle.std.proofs.Common.{◌≡◌, ◌≢◌, inl, inr, ℕ, zero, suc, ◌+◌, ◌<◌, ◌≤◌, List, [], ◌∷◌, length, take, Some, refl, ap, sym, subst, ◌∙◌, arith}
use Rattle.std.specs.Prelude.{slice_get, slice_index_or, slice_set}
use Rattle.std.specs.List.{Contains}
use Rattle.std.proofs.lemmas.Bool.{cases_lt}
use Rattle.std.proofs.lemmas.List.{take_all}
use Rattle.walk_rules.specs.declared.extensions.Extensions.{Extensions}
use Rattle.access_history.specs.Permits.{Permits}
use Rattle.access_history.specs.declared.outcome.Outcome.{Outcome}
use Rattle.access_history.specs.declared.outcome.Request.{Request}
use Rattle.lent_history.specs.Lent.{Lent, past_of}
use Rattle.lent_history.specs.Numbers.{numbers_of}
use Rattle.lent_history.specs.declared.numbers.LentOutcome.{LentOutcome}

pub get_here : {A : Type 0} (xs : List A) (n : ℕ) (x : A) → n < length xs → slice_get (slice_set xs n x) n ≡ Some x
get_here [] n x lt = absurd (omega (arith, lt))
get_here (y ∷ xs) zero x lt = refl
get_here (y ∷ xs) (suc n) x lt = get_here xs n x (omega (arith, lt))

pub get_other : {A : Type 0} (xs : List A) (n k : ℕ) (x : A) → k ≢ n → slice_get (slice_set xs n x) k ≡ slice_get xs k
get_other [] n k x ne = refl
get_other (y ∷ xs) zero zero x ne = absurd (ne refl)
get_other (y ∷ xs) zero (suc k) x ne = refl
get_other (y ∷ xs) (suc n) zero x ne = refl
get_other (y ∷ xs) (suc n) (suc k) x ne = get_other xs n k x (λ is. ne (ap suc is))

-- an element of the first k is in a place below k
taken : {A : Type 0} (xs : List A) (k n : ℕ) (y : A) → n < length (take k xs) → slice_index_or (take k xs) n y ≡ y → (n < k) × (slice_get xs n ≡ Some y)
taken xs zero n y lt is = absurd (omega (arith, lt))
taken [] (suc k) n y lt is = absurd (omega (arith, lt))
taken (x ∷ xs) (suc k) zero y lt is = (omega arith, ap Some is)
taken (x ∷ xs) (suc k) (suc n) y lt is = let found = taken xs k n y (omega (arith, lt)) is in (omega (arith, found.0), found.1)

pub contained : {A : Type 0} (xs : List A) (k : ℕ) (y : A) → Contains (take k xs) y → (n : ℕ) × (n < k) × (slice_get xs n ≡ Some y)
contained xs k y has = let found = taken xs k has.0 y has.1 has.2 in (has.0, found.0, found.1)

-- the first places have outcomes that are permitted, and the others are as they were
pub record Listed (x : Extensions) (l : Lent) (q : Request) (count : ℕ) (old new : List LentOutcome) : Type 0 where
  pub only : (n : ℕ) → n < count → (o : Outcome) × Permits x (past_of l) q o × (slice_get new n ≡ Some (numbers_of o))
  pub rest : (n : ℕ) → count ≤ n → slice_get new n ≡ slice_get old n

pub listed_more : (x : Extensions) (l : Lent) (q : Request) (count : ℕ) (old new : List LentOutcome) (o : Outcome) (place : LentOutcome) → count < length new
    → Permits x (past_of l) q o → place ≡ numbers_of o → Listed x l q count old new → Listed x l q (count + 1) old (slice_set new count place)
listed_more x l q count old new o place lt permits is listed = record {
  only = λ n less. elim (cases_lt n count) [
    | inl before ↦
        let ne : n ≢ count = omega (arith, before) in
        let found = listed.only n before in (found.0, found.1, get_other new count n place ne ∙ found.2)
    | inr after ↦
        let same : count ≡ n = omega (arith, after, less) in
        (o, permits, subst (λ (n : ℕ). slice_get (slice_set new count place) n ≡ Some (numbers_of o)) same (get_here new count place lt ∙ ap Some is))
  ];
  rest = λ n le. let ne : n ≢ count = omega (arith, le) in get_other new count n place ne ∙ listed.rest n (omega (arith, le));
}

pub contained_all : {A : Type 0} (xs : List A) (y : A) → Contains xs y → (n : ℕ) × (n < length xs) × (slice_get xs n ≡ Some y)
contained_all {A = A} xs y has =
    contained xs (length xs) y (subst (λ (ys : List A). Contains ys y) (sym (take_all (length xs) xs (omega arith))) has)
