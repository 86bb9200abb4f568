-- Lemmas on lists of numbers: what is among them (`Among`), how often (`times`), and lists without repeats (`Distinct`),
-- also appended, mapped and filtered.
use Rattle.std.proofs.Common.{◌≡◌, ℕ, ◌+◌, ◌≤◌, ◌⊎◌, ◌==◌, Bool, true, false, cond, inl, inr, refl, ap, sym, subst, ◌∙◌, arith, List, [], ◌∷◌, ◌++◌, map}
use Rattle.std.specs.Prelude.{filter}
use Rattle.std.proofs.lemmas.Bool.{cases_eq, cases_lt, eq-eqb, ne_eqb}

abbrev pub one_if : ℕ → ℕ → ℕ
one_if x y = cond (x == y) 1 0

-- how often a number is in a list
abbrev pub times : ℕ → List ℕ → ℕ
times x [] = 0
times x (y ∷ ys) = one_if x y + times x ys

abbrev pub Among : ℕ → List ℕ → Type 0
Among x [] = ⊥
Among x (y ∷ ys) = (x ≡ y) ⊎ Among x ys

-- no number twice
abbrev pub Distinct : List ℕ → Type 0
Distinct [] = Unit {0}
Distinct (x ∷ xs) = (Among x xs → ⊥) × Distinct xs

pub if_same : (x y : ℕ) → x ≡ y → one_if x y ≡ 1
if_same x y is = ap (λ b. cond b 1 0) (eq-eqb x y is)

pub if_apart : (x y : ℕ) → (x ≡ y → ⊥) → one_if x y ≡ 0
if_apart x y ne = ap (λ b. cond b 1 0) (ne_eqb x y ne)

-- how often

pub times_among : (f : ℕ) (fs : List ℕ) → Among f fs → 1 ≤ times f fs
times_among f [] i = absurd i
times_among f (y ∷ ys) (inl e) = let one = if_same f y e in omega (arith, one)
times_among f (y ∷ ys) (inr i) = let more = times_among f ys i in omega (arith, more)

pub among_times : (f : ℕ) (fs : List ℕ) → 1 ≤ times f fs → Among f fs
among_times f [] some = absurd (omega (arith, some))
among_times f (y ∷ ys) some = elim (cases_eq f y) [
  | inl same ↦ inl same
  | inr ne ↦ inr (let none = if_apart f y ne in among_times f ys (omega (arith, some, none)))
]

pub times_none : (f : ℕ) (fs : List ℕ) → (Among f fs → ⊥) → times f fs ≡ 0
times_none f fs none = elim (cases_lt 0 (times f fs)) [
  | inl some ↦ absurd (none (among_times f fs (omega (arith, some))))
  | inr few ↦ omega (arith, few)
]

pub among_or : (f : ℕ) (fs : List ℕ) → Among f fs ⊎ (Among f fs → ⊥)
among_or f fs = elim (cases_lt 0 (times f fs)) [
  | inl some ↦ inl (among_times f fs (omega (arith, some)))
  | inr few ↦ inr (λ i. let some = times_among f fs i in absurd (omega (arith, some, few)))
]

pub times_one : (f : ℕ) (fs : List ℕ) → Distinct fs → Among f fs → times f fs ≡ 1
times_one f [] d i = absurd i
times_one f (y ∷ ys) d i = elim (cases_eq f y) [
  | inl same ↦ (let one = if_same f y same in let none = times_none f ys (λ j. d.0 (subst (λ z. Among z ys) same j)) in omega (arith, one, none))
  | inr ne ↦ (
      let none = if_apart f y ne in
      let rest = times_one f ys d.1 (elim i [ inl e ↦ absurd (ne e) | inr j ↦ j ]) in
      omega (arith, none, rest))
]

pub times_append : (f : ℕ) (xs ys : List ℕ) → times f (xs ++ ys) ≡ times f xs + times f ys
times_append f [] ys = omega arith
times_append f (x ∷ xs) ys = let rest = times_append f xs ys in omega (arith, rest)

-- what is among them

pub among_front : (q : ℕ) (xs ys : List ℕ) → Among q xs → Among q (xs ++ ys)
among_front q [] ys i = absurd i
among_front q (x ∷ xs) ys (inl e) = inl e
among_front q (x ∷ xs) ys (inr i) = inr (among_front q xs ys i)

pub among_back : (q : ℕ) (xs ys : List ℕ) → Among q ys → Among q (xs ++ ys)
among_back q [] ys i = i
among_back q (x ∷ xs) ys i = inr (among_back q xs ys i)

pub among_parts : (q : ℕ) (xs ys : List ℕ) → Among q (xs ++ ys) → Among q xs ⊎ Among q ys
among_parts q [] ys i = inr i
among_parts q (x ∷ xs) ys (inl e) = inl (inl e)
among_parts q (x ∷ xs) ys (inr i) = elim (among_parts q xs ys i) [ inl j ↦ inl (inr j) | inr j ↦ inr j ]

pub among_map : (g : ℕ → ℕ) (q : ℕ) (xs : List ℕ) → Among q xs → Among (g q) (map g xs)
among_map g q [] i = absurd i
among_map g q (x ∷ xs) (inl e) = inl (ap g e)
among_map g q (x ∷ xs) (inr i) = inr (among_map g q xs i)

pub mapped_from : (g : ℕ → ℕ) (q : ℕ) (xs : List ℕ) → Among q (map g xs) → (x : ℕ) × Among x xs × (q ≡ g x)
mapped_from g q [] i = absurd i
mapped_from g q (x ∷ xs) (inl e) = (x, inl refl, e)
mapped_from g q (x ∷ xs) (inr i) = let old = mapped_from g q xs i in (old.0, inr old.1, old.2)

-- without repeats

pub distinct_append : (xs ys : List ℕ) → Distinct xs → Distinct ys → ((q : ℕ) → Among q xs → Among q ys → ⊥) → Distinct (xs ++ ys)
distinct_append [] ys d e apart = e
distinct_append (x ∷ xs) ys d e apart = (
  (λ i. elim (among_parts x xs ys i) [ inl j ↦ d.0 j | inr j ↦ apart x (inl refl) j ]),
  distinct_append xs ys d.1 e (λ q i j. apart q (inr i) j),
)

pub distinct_map : (g : ℕ → ℕ) (xs : List ℕ) → ((a b : ℕ) → Among a xs → Among b xs → g a ≡ g b → a ≡ b) → Distinct xs → Distinct (map g xs)
distinct_map g [] one d = tt
distinct_map g (x ∷ xs) one d = (
  (λ i. let old = mapped_from g (g x) xs i in d.0 (subst (λ z. Among z xs) (sym (one x old.0 (inl refl) (inr old.1) old.2)) old.1)),
  distinct_map g xs (λ a b i j. one a b (inr i) (inr j)) d.1,
)

-- a list without repeats that has just the numbers with one
pub times_are : (ds : List ℕ) (g : ℕ → ℕ) → Distinct ds → ((f : ℕ) → Among f ds → g f ≡ 1) → ((f : ℕ) → (Among f ds → ⊥) → g f ≡ 0) → (f : ℕ) → times f ds ≡ g f
times_are ds g d in_it out f = elim (among_or f ds) [
  | inl i ↦ times_one f ds d i ∙ sym (in_it f i)
  | inr far ↦ times_none f ds far ∙ sym (out f far)
]

-- those that pass a test

pub filter_of : (t : ℕ → Bool) (x : ℕ) (xs : List ℕ) → Among x (filter t xs) → Among x xs × (t x ≡ true)
filter_of t x [] i = absurd i
filter_of t x (y ∷ ys) i = elim (t y) as (λ b. t y ≡ b → Among x (cond b (y ∷ filter t ys) (filter t ys)) → Among x (y ∷ ys) × (t x ≡ true)) [
  | true ↦ λ is j. elim j [ inl e ↦ (inl e, ap t e ∙ is) | inr k ↦ let old = filter_of t x ys k in (inr old.0, old.1) ]
  | false ↦ λ is j. let old = filter_of t x ys j in (inr old.0, old.1)
] refl i

pub in_filter : (t : ℕ → Bool) (x : ℕ) (xs : List ℕ) → Among x xs → t x ≡ true → Among x (filter t xs)
in_filter t x [] i is = absurd i
in_filter t x (y ∷ ys) i is = elim (t y) as (λ b. t y ≡ b → Among x (cond b (y ∷ filter t ys) (filter t ys))) [
  | true ↦ λ _. elim i [ inl e ↦ inl e | inr k ↦ inr (in_filter t x ys k is) ]
  | false ↦ λ off. elim i [ inl e ↦ absurd (let on : t y ≡ true = ap t (sym e) ∙ is in let never : false ≡ true = sym off ∙ on in cc) | inr k ↦ in_filter t x ys k is ]
] refl

pub filter_distinct : (t : ℕ → Bool) (xs : List ℕ) → Distinct xs → Distinct (filter t xs)
filter_distinct t [] d = tt
filter_distinct t (y ∷ ys) d = elim (t y) as (λ b. Distinct (cond b (y ∷ filter t ys) (filter t ys))) [
  | true ↦ ((λ i. d.0 (filter_of t y ys i).0), filter_distinct t ys d.1)
  | false ↦ filter_distinct t ys d.1
]
