-- Laws of how many different values a function has on a list of numbers (`values`, `AreCounted`): by members, one more
-- number, a run of numbers. With the quotient as function they count the page tables of a list of pages.
use Rattle.std.proofs.Common.{◌≡◌, ℕ, zero, suc, true, false, cond, ◌+◌, ◌-◌, ◌/◌, ◌<◌, ◌≤◌, ◌⊎◌, inl, inr, refl, ap, sym, subst, ◌∙◌}
use Rattle.std.proofs.Common.{arith, List, [], ◌∷◌, ◌++◌, map, length, max, Option, Some, None}
use Rattle.std.proofs.lemmas.Bool.{cases_eq, cases_Bool}
use Rattle.std.proofs.lemmas.List.{append_assoc}
use Rattle.std.proofs.lemmas.List.Elements.{Contains-append_cases, Contains-append_left, Contains-append_right}
use Rattle.std.proofs.lemmas.Map.Lookups.{exact_unsigned}
use Rattle.std.proofs.lemmas.Nat.{le-div}
use Rattle.std.proofs.Math.Nat.{add-div_right, div-mul-le_self}
use Rattle.std.specs.Cmp.{nat_cmp_total, Equal-is, eq_by_cmp_equiv}
use Rattle.std.specs.FinMap.Entries.{find, find-put, length-put, same_entries}
use Rattle.std.specs.Ordering.{nat_cmp, eq_by_cmp}
use Rattle.std.specs.Prelude.{Contains, is_some}
use Rattle.process_model.specs.Bytes.{numbers_from}
use Rattle.process_model.specs.PageMap.{NumberSet, contains, count, numbers}
use Rattle.process_model.specs.Insertion.{behind, first_or, in_front}

-- ---- members of lists

pub none_in : (y : ℕ) → Contains [] y → ⊥
none_in y h = omega (arith, h.1)

pub last_first : (xs : List ℕ) (y x : ℕ) → Contains (xs ++ y ∷ []) x → Contains (y ∷ xs) x
last_first xs y x h = elim (Contains-append_cases xs (y ∷ []) x h) [
  | inl before ↦ behind y x xs before
  | inr last ↦ elim (first_or y x [] last) [ inl same ↦ rw (← same) (in_front y xs) | inr none ↦ absurd (none_in x none) ]
]

pub first_last : (xs : List ℕ) (y x : ℕ) → Contains (y ∷ xs) x → Contains (xs ++ y ∷ []) x
first_last xs y x h = elim (first_or y x xs h) [
  | inl same ↦ rw (← same) (Contains-append_right xs (y ∷ []) y (in_front y []))
  | inr before ↦ Contains-append_left xs (y ∷ []) x before
]

-- ---- sets of numbers

same_key : (q k : ℕ) → q ≡ k → eq_by_cmp nat_cmp q k ≡ true
same_key q k e = rw e ((eq_by_cmp_equiv nat_cmp_total).refl k)

key_same : (q k : ℕ) → eq_by_cmp nat_cmp q k ≡ true → q ≡ k
key_same q k t = exact_unsigned q k ((Equal-is (nat_cmp q k)).0 t)

same_unit : (a b : Option (Unit {0})) → (is_some a ≡ true → is_some b ≡ true) → (is_some b ≡ true → is_some a ≡ true) → a ≡ b
same_unit None None on back = refl
same_unit None (Some y) on back = absurd (let t : false ≡ true = back refl in cc)
same_unit (Some x) None on back = absurd (let t : false ≡ true = on refl in cc)
same_unit (Some x) (Some y) on back = refl

module _ (f : ℕ → ℕ) where
  abbrev pub values : List ℕ → NumberSet
  values xs = numbers (map f xs)

  contains_next : (x y : ℕ) (xs : List ℕ)
      → contains (values (x ∷ xs)) y ≡ is_some (cond (eq_by_cmp nat_cmp y (f x)) (Some tt) (find nat_cmp y (values xs).entries))
  contains_next x y xs = ap is_some (find-put nat_cmp nat_cmp_total y (f x) tt (values xs).entries)

  pub has_value : (x y : ℕ) (xs : List ℕ) → Contains xs x → f x ≡ y → contains (values xs) y ≡ true
  has_value x y [] h e = absurd (none_in x h)
  has_value x y (z ∷ xs) h e = contains_next z y xs ∙ elim (first_or z x xs h) [
    | inl same ↦ rw (same_key y (f z) (sym e ∙ ap f (sym same)))
    | inr later ↦ elim (eq_by_cmp nat_cmp y (f z)) as (λ b.
        is_some (cond b (Some tt) (find nat_cmp y (values xs).entries)) ≡ true) [ true ↦ refl | false ↦ has_value x y xs later e ]
  ]

  pub value_of : (y : ℕ) (xs : List ℕ) → contains (values xs) y ≡ true → (x : ℕ) × Contains xs x × (f x ≡ y)
  value_of y [] t = absurd (cc)
  value_of y (z ∷ xs) t =
      elim (eq_by_cmp nat_cmp y (f z)) as (λ b. eq_by_cmp nat_cmp y (f z) ≡ b
      → is_some (cond b (Some tt) (find nat_cmp y (values xs).entries)) ≡ true → (x : ℕ) × Contains (z ∷ xs) x × (f x ≡ y)) [
        | true ↦ λ same _. (z, in_front z xs, sym (key_same y (f z) same))
        | false ↦ λ _ found. let x = value_of y xs found in (x.0, behind z x.0 xs x.1, x.2)
      ] refl (sym (contains_next z y xs) ∙ t)

  moved : (xs ys : List ℕ) → ((x : ℕ) → Contains xs x → Contains ys x) → (y : ℕ) → contains (values xs) y ≡ true → contains (values ys) y ≡ true
  moved xs ys into y t = let x = value_of y xs t in has_value x.0 y ys (into x.0 x.1) x.2

  pub same_count : (xs ys : List ℕ) → ((x : ℕ) → Contains xs x → Contains ys x) → ((x : ℕ) → Contains ys x → Contains xs x)
      → count (values xs) ≡ count (values ys)
  same_count xs ys there back =
      ap length (same_entries nat_cmp nat_cmp_total exact_unsigned _ _ (values xs).sorted (values ys).sorted (λ q.
      same_unit _ _ (moved xs ys there q) (moved ys xs back q)))

  pub count_next : (x : ℕ) (xs : List ℕ) → count (values (x ∷ xs)) ≡ cond (contains (values xs) (f x)) (count (values xs)) (count (values xs) + 1)
  count_next x xs = length-put nat_cmp nat_cmp_total (f x) tt (values xs).entries (values xs).sorted

  -- f has n different values on xs, and `bound` is the greatest of them plus 1, or 0 if there are none
  pub record AreCounted (xs : List ℕ) (n bound : ℕ) : Type 0 where
    pub counted : count (values xs) ≡ n
    pub below : (x : ℕ) → Contains xs x → f x < bound
    pub last : (bound ≡ 0) ⊎ ((x : ℕ) × Contains xs x × (f x + 1 ≡ bound))

  pub none_counted : AreCounted [] 0 0
  none_counted = record { counted = refl; below = λ x h. absurd (none_in x h); last = inl refl }

  -- one more number that has the greatest value adds no value
  greatest_again : (xs : List ℕ) (n bound y : ℕ) → AreCounted xs n bound → bound ≡ f y + 1 → count (values (y ∷ xs)) ≡ n
  greatest_again xs n bound y are is =
      let there : contains (values xs) (f y) ≡ true = elim are.last [
        | inl none ↦ absurd (omega (arith, is, none))
        | inr x ↦ has_value x.0 (f y) xs x.1 (omega (arith, x.2, is))
      ] in
      count_next y xs ∙ rw there are.counted

  -- one more number with a greater value adds one
  above_all : (xs : List ℕ) (n bound y : ℕ) → AreCounted xs n bound → bound ≤ f y → count (values (y ∷ xs)) ≡ n + 1
  above_all xs n bound y are le =
      count_next y xs ∙ elim (cases_Bool (contains (values xs) (f y))) [
        | inl there ↦ absurd (let x = value_of (f y) xs there in let low = are.below x.0 x.1 in omega (arith, low, x.2, le))
        | inr none ↦ rw (none, are.counted) refl
      ]

  pub one_more : (xs : List ℕ) (n bound y : ℕ) → AreCounted xs n bound → bound ≤ f y + 1 → AreCounted (y ∷ xs) (n + (f y + 1 - max (f y) bound)) (f y + 1)
  one_more xs n bound y are le = record {
    counted = elim (cases_eq bound (f y + 1)) [
      | inl same ↦ greatest_again xs n bound y are same ∙ omega (arith, same)
      | inr other ↦ above_all xs n bound y are (omega (arith, other, le)) ∙ omega (arith, other, le)
    ];
    below = λ x h. elim (first_or y x xs h) [
      | inl same ↦ rw same (omega arith)
      | inr before ↦ let low = are.below x before in omega (arith, low, le)
    ];
    last = inr (y, in_front y xs, refl);
  }

  pub same_members : (xs ys : List ℕ) (n bound : ℕ) → ((x : ℕ) → Contains xs x → Contains ys x) → ((x : ℕ) → Contains ys x → Contains xs x)
      → AreCounted xs n bound → AreCounted ys n bound
  same_members xs ys n bound there back are = record {
    counted = same_count ys xs back there ∙ are.counted;
    below = λ x h. are.below x (back x h);
    last = elim are.last [ inl none ↦ inl none | inr x ↦ inr (x.0, there x.0 x.1, x.2) ];
  }

  one_behind : (xs : List ℕ) (n bound y : ℕ) → AreCounted xs n bound → bound ≤ f y + 1 → AreCounted (xs ++ y ∷ []) (n + (f y + 1 - max (f y) bound)) (f y + 1)
  one_behind xs n bound y are le = same_members (y ∷ xs) (xs ++ y ∷ []) _ _ (first_last xs y) (last_first xs y) (one_more xs n bound y are le)

  counted_as : (xs ys : List ℕ) (n m bound end : ℕ) → xs ≡ ys → n ≡ m → bound ≡ end → AreCounted xs n bound → AreCounted ys m end
  counted_as xs ys n m bound end list number is are = rw (← list, ← number, ← is) are

  -- a run of consecutive numbers, on which f never falls and rises by at most one at a time
  module _ (up : (m n : ℕ) → m ≤ n → f m ≤ f n) (near : (n : ℕ) → f (n + 1) ≤ f n + 1) where
    pub run_more : (k first : ℕ) (xs : List ℕ) (n bound : ℕ) → AreCounted xs n bound → bound ≤ f first + 1
        → AreCounted (xs ++ numbers_from first (suc k)) (n + (f (first + k) + 1 - max (f first) bound)) (f (first + k) + 1)
    run_more zero first xs n bound are le =
        let same : first + 0 ≡ first = omega arith in
        rw same (one_behind xs n bound first are le)
    run_more (suc k) first xs n bound are le =
        let one = one_behind xs n bound first are le in
        let step = near first in
        let here = up first (first + 1) (omega arith) in
        let far = up (first + 1) (first + 1 + k) (omega arith) in
        let rest = run_more k (first + 1) (xs ++ first ∷ []) _ _ one (omega (arith, here)) in
        let place : first + 1 + k ≡ first + suc k = omega arith in
        let list : (xs ++ first ∷ []) ++ numbers_from (first + 1) (suc k) ≡ xs ++ numbers_from first (suc (suc k)) =
        append_assoc xs (first ∷ []) (numbers_from (first + 1) (suc k)) in
        let far_is : f (first + 1 + k) ≡ f (first + suc k) = ap f place in
        counted_as _ _ _ _ _ _ list (omega (arith, far_is, far, here, step, le)) (omega (arith, far_is)) rest

    -- a run given by its first number, its length and its last number
    pub run_counted : (first pages last : ℕ) (xs : List ℕ) (n bound : ℕ) → AreCounted xs n bound → bound ≤ f first + 1 → last + 1 ≡ first + pages → first ≤ last
        → AreCounted (xs ++ numbers_from first pages) (n + (f last + 1 - max (f first) bound)) (f last + 1)
    run_counted first zero last xs n bound are le is some = absurd (omega (arith, is, some))
    run_counted first (suc k) last xs n bound are le is some =
        let place : first + k ≡ last = omega (arith, is) in
        subst (λ m. AreCounted (xs ++ numbers_from first (suc k)) (n + (f m + 1 - max (f first) bound)) (f m + 1)) place (run_more k first xs n bound are le)

  -- two more numbers that have one value
  pub two_more : (xs : List ℕ) (n bound y z : ℕ) → AreCounted xs n bound → bound ≤ f y + 1 → f z ≡ f y
      → count (values (z ∷ y ∷ xs)) ≡ n + (f y + 1 - max (f y) bound)
  two_more xs n bound y z are le same = greatest_again (y ∷ xs) _ _ z (one_more xs n bound y are le) (ap (λ m. m + 1) (sym same))

-- ---- quotients

pub div_up : (k : ℕ) → 0 < k → (m n : ℕ) → m ≤ n → m / k ≤ n / k
div_up k some m n le = le-div (m / k) n k some (let low = div-mul-le_self m k in omega (arith, low, le))

pub div_near : (k : ℕ) → 0 < k → (n : ℕ) → (n + 1) / k ≤ n / k + 1
div_near k some n = let far = div_up k some (n + 1) (n + k) (omega (arith, some)) in let next = add-div_right n {k = k} some in omega (arith, far, next)
