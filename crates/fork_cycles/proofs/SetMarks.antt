-- Lemmas on marks: the first list that has not ended, what a mark that is set changes, and the marks at first.
use Rattle.std.proofs.Common.{◌≡◌, ◌≢◌, ◌⊎◌, ℕ, zero, suc, ◌+◌, ◌<◌, ◌≤◌, List, [], ◌∷◌, Option, Some, None, get_or, length, replicate, set, inl, inr, refl, ap, subst, ◌∙◌, arith}
use Rattle.std.proofs.lemmas.Bool.{cases_lt}
use Rattle.std.proofs.lemmas.List.{get_or-replicate, get_or-set_other, get_or-set_same, get_or_past, set_past}
use Rattle.fork_cycles.specs.Forks.{IsIn}
use Rattle.fork_cycles.specs.Search.{first_unended, mark_of, new_marks, unless_ended}
use Rattle.fork_cycles.specs.declared.marks.Mark.{Mark}
use Rattle.fork_cycles.specs.declared.marks.Mark.TheVariants as mark

-- none that calls fork is left: all have ended

none_before : (m : Mark) (k : ℕ) (after : Option ℕ) → unless_ended m k after ≡ None → (m ≡ mark.Ended) × (after ≡ None)
none_before mark.New k after none = absurd cc
none_before mark.OnPath k after none = absurd cc
none_before mark.Ended k after none = (refl, none)

pub all_ended : (marks : List Mark) (ks : List ℕ) (k : ℕ) → first_unended marks ks ≡ None → IsIn k ks → mark_of marks k ≡ mark.Ended
all_ended marks [] k none inside = absurd inside
all_ended marks (x ∷ ks) k none inside =
    let before = none_before (mark_of marks x) x (first_unended marks ks) none in
    elim inside [
      | inl same ↦ subst (λ y. mark_of marks y ≡ mark.Ended) same before.0
      | inr after ↦ all_ended marks ks k before.1 after
    ]

-- the one that is left is forked, and has not ended

some_before : (m : Mark) (x k : ℕ) (after : Option ℕ) → unless_ended m x after ≡ Some k → ((x ≡ k) × (m ≢ mark.Ended)) ⊎ (after ≡ Some k)
some_before mark.New x k after some = inl (cc, λ e. absurd cc)
some_before mark.OnPath x k after some = inl (cc, λ e. absurd cc)
some_before mark.Ended x k after some = inr some

pub is_unended : (marks : List Mark) (ks : List ℕ) (k : ℕ) → first_unended marks ks ≡ Some k → IsIn k ks × (mark_of marks k ≢ mark.Ended)
is_unended marks [] k some = absurd cc
is_unended marks (x ∷ ks) k some = elim (some_before (mark_of marks x) x k (first_unended marks ks) some) [
  | inl here ↦ (inl here.0, λ e. here.1 (ap (mark_of marks) here.0 ∙ e))
  | inr after ↦ let rest = is_unended marks ks k after in (inr rest.0, rest.1)
]

-- a mark that is set

pub unended_below : (marks : List Mark) (k : ℕ) → mark_of marks k ≢ mark.Ended → k < length marks
unended_below marks k unended = elim (cases_lt k (length marks)) [
  | inl below ↦ below
  | inr past ↦ absurd (unended (get_or_past marks k mark.Ended past))
]

pub set_here : (marks : List Mark) (k : ℕ) (m : Mark) → mark_of marks k ≢ mark.Ended → mark_of (set marks k m) k ≡ m
set_here marks k m unended = get_or-set_same marks k m mark.Ended (unended_below marks k unended)

pub set_other : (marks : List Mark) (j k : ℕ) (m : Mark) → j ≢ k → mark_of (set marks k m) j ≡ mark_of marks j
set_other marks j k m apart = get_or-set_other marks k j m mark.Ended apart

pub set_ended : (marks : List Mark) (k : ℕ) → mark_of (set marks k mark.Ended) k ≡ mark.Ended
set_ended marks k = elim (cases_lt k (length marks)) [
  | inl below ↦ get_or-set_same marks k mark.Ended mark.Ended below
  | inr past ↦ ap (λ ms. get_or ms k mark.Ended) (set_past marks k mark.Ended past) ∙ get_or_past marks k mark.Ended past
]

-- what is new afterwards

pub fewer_new : (marks : List Mark) (k : ℕ) → mark_of marks k ≡ mark.New → new_marks (set marks k mark.OnPath) + 1 ≡ new_marks marks
fewer_new [] k new = absurd cc
fewer_new (mark.New ∷ marks) zero new = omega arith
fewer_new (mark.OnPath ∷ marks) zero new = absurd cc
fewer_new (mark.Ended ∷ marks) zero new = absurd cc
fewer_new (mark.New ∷ marks) (suc k) new = omega (arith, fewer_new marks k new)
fewer_new (mark.OnPath ∷ marks) (suc k) new = fewer_new marks k new
fewer_new (mark.Ended ∷ marks) (suc k) new = fewer_new marks k new

pub no_more_new : (marks : List Mark) (k : ℕ) → new_marks (set marks k mark.Ended) ≤ new_marks marks
no_more_new [] k = omega arith
no_more_new (mark.New ∷ marks) zero = omega arith
no_more_new (mark.OnPath ∷ marks) zero = omega arith
no_more_new (mark.Ended ∷ marks) zero = omega arith
no_more_new (mark.New ∷ marks) (suc k) = omega (arith, no_more_new marks k)
no_more_new (mark.OnPath ∷ marks) (suc k) = no_more_new marks k
no_more_new (mark.Ended ∷ marks) (suc k) = no_more_new marks k

-- at first nothing below the number of marks has ended
pub all_new : (n k : ℕ) → k < n → mark_of (replicate n mark.New) k ≡ mark.New
all_new n k below = get_or-replicate n k mark.New mark.Ended below
