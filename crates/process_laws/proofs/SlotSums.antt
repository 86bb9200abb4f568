-- Lemmas about the process table when one slot (place in it) is set: sums over the live processes, and which copy numbers
-- (each names one copy of a page in memory) they have and how many different ones.
use Rattle.std.proofs.Common.{◌≡◌, ℕ, zero, suc, ◌+◌, ◌≤◌, inl, inr, refl, sym, ap, ◌∙◌, arith, List, [], ◌∷◌, ◌++◌, Option, None, Some}
use Rattle.std.specs.Prelude.{slice_get, slice_set, flat_map, sum_by}
use Rattle.std.proofs.lemmas.Option.{same_Some}
use Rattle.std.proofs.lemmas.List.Sums.{sum_by-cons}
use Rattle.process_model.specs.PageMap.{numbers, count}
use Rattle.process_model.specs.Process.{Process}
use Rattle.process_model.specs.Frames.{live, copies_of}
use Rattle.process_model.specs.World.{flat, lowest_free}
use Rattle.process_laws.proofs.SetSizes.{Within, among_front, among_back, among_parts, count_same}

-- what stands in a slot

pub full_slot : (o : Option (Option Process)) (p : Process) → flat o ≡ Some p → o ≡ Some (Some p)
full_slot None p e = absurd (cc)
full_slot (Some q) p e = ap Some e

lowest_from : (slots : List (Option Process)) (n s : ℕ) → lowest_free n slots ≡ Some s → n ≤ s
lowest_from [] n s e = absurd (cc)
lowest_from (None ∷ slots) n s e = let same : n ≡ s = same_Some n s e in omega arith
lowest_from (Some p ∷ slots) n s e = let later : n + 1 ≤ s = lowest_from slots (n + 1) s e in omega arith

pub empty_slot : (slots : List (Option Process)) (n s j : ℕ) → lowest_free n slots ≡ Some s → s ≡ n + j → slice_get slots j ≡ Some None
empty_slot [] n s j e is = absurd (cc)
empty_slot (None ∷ slots) n s j e is = let same : n ≡ s = same_Some n s e in let first : j ≡ zero = omega (same, is, arith) in rw first
empty_slot (Some p ∷ slots) n s zero e is = let later : n + 1 ≤ s = lowest_from slots (n + 1) s e in absurd (omega arith)
empty_slot (Some p ∷ slots) n s (suc j) e is = empty_slot slots (n + 1) s j e (omega arith)

pub set_same : {A : Type 0} (xs : List A) (i : ℕ) (x : A) → slice_get xs i ≡ Some x → slice_set xs i x ≡ xs
set_same [] i x e = refl
set_same (y ∷ ys) zero x e = ap (λ z. z ∷ ys) (sym (same_Some y x e))
set_same (y ∷ ys) (suc i) x e = ap (λ zs. y ∷ zs) (set_same ys i x e)

-- sums

abbrev pub weight : (Process → ℕ) → Option Process → ℕ
weight f None = 0
weight f (Some p) = f p

sum_first : (f : Process → ℕ) (o : Option Process) (slots : List (Option Process)) → sum_by f (live (o ∷ slots)) ≡ weight f o + sum_by f (live slots)
sum_first f None slots = omega arith
sum_first f (Some p) slots = sum_by-cons f p (live slots)

-- a slot that is set counts for what it has in place of what it had
pub sum_set : (f : Process → ℕ) (slots : List (Option Process)) (s : ℕ) (o r : Option Process) → slice_get slots s ≡ Some o
    → sum_by f (live (slice_set slots s r)) + weight f o ≡ sum_by f (live slots) + weight f r
sum_set f [] s o r e = absurd (cc)
sum_set f (x ∷ slots) zero o r e =
    let before : sum_by f (live (x ∷ slots)) ≡ weight f x + sum_by f (live slots) = sum_first f x slots in
    let after : sum_by f (live (r ∷ slots)) ≡ weight f r + sum_by f (live slots) = sum_first f r slots in
    let same : weight f x ≡ weight f o = ap (weight f) (same_Some x o e) in
    omega (before, after, same, arith)
sum_set f (x ∷ slots) (suc s) o r e =
    let before : sum_by f (live (x ∷ slots)) ≡ weight f x + sum_by f (live slots) = sum_first f x slots in
    let after : sum_by f (live (x ∷ slice_set slots s r)) ≡ weight f x + sum_by f (live (slice_set slots s r)) = sum_first f x (slice_set slots s r) in
    let rest : sum_by f (live (slice_set slots s r)) + weight f o ≡ sum_by f (live slots) + weight f r = sum_set f slots s o r e in
    omega (before, after, rest, arith)

-- copy numbers

abbrev pub copies_at : Option Process → List ℕ
copies_at None = []
copies_at (Some p) = copies_of p

abbrev pub all_copies : List (Option Process) → List ℕ
all_copies slots = flat_map copies_of (live slots)

first_copies : (o : Option Process) (slots : List (Option Process)) → all_copies (o ∷ slots) ≡ copies_at o ++ all_copies slots
first_copies None slots = refl
first_copies (Some p) slots = refl

-- the copy numbers of a slot that is set, and those of the others
set_parts : (slots : List (Option Process)) (s : ℕ) (r : Option Process) → Within (all_copies (slice_set slots s r)) (copies_at r ++ all_copies (slice_set slots s None))
set_parts [] s r q i = absurd i
set_parts (x ∷ slots) zero r q i = rw first_copies at i
set_parts (x ∷ slots) (suc s) r q i = elim (among_parts q (copies_at x) (all_copies (slice_set slots s r)) (rw (first_copies x (slice_set slots s r)) at i)) [
  | inl j ↦ among_back q (copies_at r) _ (rw (first_copies x (slice_set slots s None)) (among_front q (copies_at x) _ j))
  | inr j ↦ elim (among_parts q (copies_at r) (all_copies (slice_set slots s None)) (set_parts slots s r q j)) [
    | inl k ↦ among_front q (copies_at r) _ k
    | inr k ↦ among_back q (copies_at r) _ (rw (first_copies x (slice_set slots s None)) (among_back q (copies_at x) _ k))
  ]
]

pub set_has : (slots : List (Option Process)) (s : ℕ) (o r : Option Process) → slice_get slots s ≡ Some o → Within (copies_at r ++ all_copies (slice_set slots s None)) (all_copies (slice_set slots s r))
set_has [] s o r e q i = absurd (cc)
set_has (x ∷ slots) zero o r e q i = rw (first_copies r slots) i
set_has (x ∷ slots) (suc s) o r e q i = rw (first_copies x (slice_set slots s r)) (elim (among_parts q (copies_at r) (all_copies (x ∷ slice_set slots s None)) i) [
  | inl j ↦ among_back q (copies_at x) _ (set_has slots s o r e q (among_front q (copies_at r) _ j))
  | inr j ↦ elim (among_parts q (copies_at x) (all_copies (slice_set slots s None)) (rw (first_copies x (slice_set slots s None)) at j)) [
    | inl k ↦ among_front q (copies_at x) _ k
    | inr k ↦ among_back q (copies_at x) _ (set_has slots s o r e q (among_back q (copies_at r) _ k))
  ]
])

-- how many different ones there are when a slot is set
pub count_set : (slots : List (Option Process)) (s : ℕ) (o r : Option Process) → slice_get slots s ≡ Some o
    → count (numbers (all_copies (slice_set slots s r))) ≡ count (numbers (copies_at r ++ all_copies (slice_set slots s None)))
count_set slots s o r e = count_same (all_copies (slice_set slots s r)) (copies_at r ++ all_copies (slice_set slots s None)) (set_parts slots s r) (set_has slots s o r e)

-- and before it is
pub count_slots : (slots : List (Option Process)) (s : ℕ) (o : Option Process) → slice_get slots s ≡ Some o
    → count (numbers (all_copies slots)) ≡ count (numbers (copies_at o ++ all_copies (slice_set slots s None)))
count_slots slots s o e = ap (λ (xs : List (Option Process)). count (numbers (all_copies xs))) (sym (set_same slots s o e)) ∙ count_set slots s o o e
