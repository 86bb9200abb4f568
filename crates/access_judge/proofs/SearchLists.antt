-- Lemmas of what lists contain: pieces end to end, images, filters and tests.
use Rattle.std.proofs.Common.{◌≡◌, ◌⊎◌, ℕ, ◌+◌, ◌<◌, Bool, true, false, cond, drop, suc, zero, Some, List, [], ◌∷◌, map, refl, sym, ◌∙◌, ap, subst, inl, inr, arith}
use Rattle.std.proofs.lemmas.Bool.{false≢true, or_cases, or_left, or_right}
use Rattle.std.proofs.lemmas.List.Elements.{Contains-append_cases, Contains-append_left, Contains-append_right, Contains-push, Contains-push_cases}
use Rattle.std.proofs.lemmas.List.FromFn.{get_or-range_with_len, length-range_with_len}
use Rattle.std.specs.List.{Contains, filter, flat_map, list_any, range_with_len, slice_get}

pub contains_none : {X : Type 0} (x : X) → Contains [] x → ⊥
contains_none x has = let low = has.1 in omega (arith, low)

pub contains_head : {X : Type 0} (x : X) (xs : List X) → Contains (x ∷ xs) x
contains_head x xs = Contains-append_left (x ∷ []) xs x (Contains-push [] x)

pub contains_later : {X : Type 0} (y x : X) (xs : List X) → Contains xs x → Contains (y ∷ xs) x
contains_later y x xs has = Contains-append_right (y ∷ []) xs x has

pub contains_cases : {X : Type 0} (y x : X) (xs : List X) → Contains (y ∷ xs) x → (y ≡ x) ⊎ Contains xs x
contains_cases y x xs has = elim (Contains-append_cases (y ∷ []) xs x has) [
  | inr later ↦ inr later
  | inl first ↦ elim (Contains-push_cases [] y x first) [
    | inl none ↦ absurd (contains_none x none)
    | inr same ↦ inl same
  ]
]

pub flat_contains : {X Y : Type 0} (f : X → List Y) (xs : List X) (x : X) (y : Y) → Contains xs x → Contains (f x) y → Contains (flat_map f xs) y
flat_contains f [] x y has inner = absurd (contains_none x has)
flat_contains f (first ∷ xs) x y has inner = elim (contains_cases first x xs has) [
  | inl same ↦ Contains-append_left (f first) (flat_map f xs) y (subst (λ z. Contains (f z) y) (sym same) inner)
  | inr later ↦ Contains-append_right (f first) (flat_map f xs) y (flat_contains f xs x y later inner)
]

pub flat_from : {X Y : Type 0} (f : X → List Y) (xs : List X) (y : Y) → Contains (flat_map f xs) y → (x : X) × Contains xs x × Contains (f x) y
flat_from f [] y has = absurd (contains_none y has)
flat_from f (first ∷ xs) y has = elim (Contains-append_cases (f first) (flat_map f xs) y has) [
  | inl here ↦ (first, contains_head first xs, here)
  | inr later ↦ let up = flat_from f xs y later in (up.0, contains_later first up.0 xs up.1, up.2)
]

pub map_contains : {X Y : Type 0} (f : X → Y) (xs : List X) (x : X) → Contains xs x → Contains (map f xs) (f x)
map_contains f [] x has = absurd (contains_none x has)
map_contains f (first ∷ xs) x has = elim (contains_cases first x xs has) [
  | inl same ↦ subst (λ z. Contains (f first ∷ map f xs) (f z)) same (contains_head (f first) (map f xs))
  | inr later ↦ contains_later (f first) (f x) (map f xs) (map_contains f xs x later)
]

pub map_from : {X Y : Type 0} (f : X → Y) (xs : List X) (y : Y) → Contains (map f xs) y → (x : X) × Contains xs x × (f x ≡ y)
map_from f [] y has = absurd (contains_none y has)
map_from f (first ∷ xs) y has = elim (contains_cases (f first) y (map f xs) has) [
  | inl same ↦ (first, contains_head first xs, same)
  | inr later ↦ let up = map_from f xs y later in (up.0, contains_later first up.0 xs up.1, up.2)
]

pub filter_contains : {X : Type 0} (p : X → Bool) (xs : List X) (x : X) → Contains xs x → p x ≡ true → Contains (filter p xs) x
filter_contains p [] x has passes = has
filter_contains {X} p (first ∷ xs) x has passes = elim (contains_cases first x xs has) [
  | inl same ↦ subst (λ (b : Bool). Contains (cond b (first ∷ filter p xs) (filter p xs)) x) (sym (ap p same ∙ passes))
      (subst (λ (z : X). Contains (first ∷ filter p xs) z) same (contains_head first (filter p xs)))
  | inr later ↦ by (p first) (filter_contains p xs x later passes)
] where
  by : (b : Bool) → Contains (filter p xs) x → Contains (cond b (first ∷ filter p xs) (filter p xs)) x
  by true in_rest = contains_later first x (filter p xs) in_rest
  by false in_rest = in_rest

pub filter_from : {X : Type 0} (p : X → Bool) (xs : List X) (x : X) → Contains (filter p xs) x → Contains xs x × (p x ≡ true)
filter_from p [] x has = absurd (contains_none x has)
filter_from {X} p (first ∷ xs) x has = by (p first) refl has (λ rest. filter_from p xs x rest) where
  by : (b : Bool) → p first ≡ b → Contains (cond b (first ∷ filter p xs) (filter p xs)) x
      → (Contains (filter p xs) x → Contains xs x × (p x ≡ true)) → Contains (first ∷ xs) x × (p x ≡ true)
  by true is here up = elim (contains_cases first x (filter p xs) here) [
    | inl same ↦ (subst (λ (z : X). Contains (first ∷ xs) z) same (contains_head first xs), subst (λ (z : X). p z ≡ true) same is)
    | inr later ↦ (contains_later first x xs (up later).0, (up later).1)
  ]
  by false is here up = (contains_later first x xs (up here).0, (up here).1)

pub any_contains : {X : Type 0} (p : X → Bool) (xs : List X) (x : X) → Contains xs x → p x ≡ true → list_any p xs ≡ true
any_contains p [] x has passes = absurd (contains_none x has)
any_contains p (first ∷ xs) x has passes = elim (contains_cases first x xs has) [
  | inl same ↦ or_left (p first) (list_any p xs) (ap p same ∙ passes)
  | inr later ↦ or_right (p first) (list_any p xs) (any_contains p xs x later passes)
]

pub any_from : {X : Type 0} (p : X → Bool) (xs : List X) → list_any p xs ≡ true → (x : X) × Contains xs x × (p x ≡ true)
any_from p [] has = absurd (false≢true has)
any_from p (first ∷ xs) has = elim (or_cases (p first) (list_any p xs) has) [
  | inl here ↦ (first, contains_head first xs, here)
  | inr later ↦ let up = any_from p xs later in (up.0, contains_later first up.0 xs up.1, up.2)
]

pub range_contains : (count n : ℕ) → n < count → Contains (range_with_len 0 count) n
range_contains count n low =
    let same : n ≡ 0 + n = omega arith in
    let long = length-range_with_len 0 count in
    (n, omega (arith, long, low), get_or-range_with_len 0 count n n low ∙ sym same)

ranged_low : (first count n : ℕ) → Contains (range_with_len first count) n → n < first + count
ranged_low first count n has =
    let long = length-range_with_len first count in
    let low = has.1 in
    let value : first + has.0 ≡ n = sym (get_or-range_with_len first count has.0 n (omega (arith, long, low))) ∙ has.2 in
    omega (arith, long, low, value)

pub range_low : (count n : ℕ) → Contains (range_with_len 0 count) n → n < count
range_low count n has = let low = ranged_low 0 count n has in omega (arith, low)

-- ---- places

pub drop_at : {X : Type 0} (xs : List X) (n : ℕ) (x : X) → slice_get xs n ≡ Some x → drop n xs ≡ x ∷ drop (suc n) xs
drop_at [] n x e = cc
drop_at (y ∷ ys) zero x e = let same : y ≡ x = cc in ap (λ z. z ∷ ys) same
drop_at (y ∷ ys) (suc n) x e = drop_at ys n x e

pub at_contains : {X : Type 0} (xs : List X) (n : ℕ) (x : X) → slice_get xs n ≡ Some x → Contains xs x
at_contains [] n x e = cc
at_contains {X} (y ∷ ys) zero x e = let same : y ≡ x = cc in subst (λ (z : X). Contains (y ∷ ys) z) same (Contains-append_left (y ∷ []) ys y (Contains-push [] y))
at_contains (y ∷ ys) (suc n) x e = Contains-append_right (y ∷ []) ys x (at_contains ys n x e)
