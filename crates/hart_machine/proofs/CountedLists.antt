-- Lemmas on a list of counts, one for each number from 0 on: their sum is the length of a list that has each number that
-- often (`sum_is`), and how many pass a test is the length of a list of just these numbers (`count_is`).
use Rattle.std.proofs.Common.{◌≡◌, ℕ, zero, suc, ◌+◌, ◌<◌, ◌≤◌, Bool, true, false, cond, inl, inr, refl, ap, sym, ◌∙◌, arith, List, [], ◌∷◌, length, slice_index}
use Rattle.std.specs.Prelude.{sum, count_by, nat_lt}
use Rattle.std.proofs.lemmas.Bool.{cases_eq, cases_lt, le-ltb, lt-ltb}
use Rattle.std.proofs.lemmas.List.{get_or_past}
use Rattle.std.proofs.lemmas.List.Sums.{sum_by-cons}
use Rattle.hart_machine.proofs.NumberLists.{Among, if_apart, if_same, one_if, times, times_among}

-- sums over the numbers below a bound

abbrev upto : ℕ → (ℕ → ℕ) → ℕ
upto zero g = 0
upto (suc n) g = g 0 + upto n (λ i. g (suc i))

upto_same : (n : ℕ) (g h : ℕ → ℕ) → ((i : ℕ) → i < n → g i ≡ h i) → upto n g ≡ upto n h
upto_same zero g h same = refl
upto_same (suc n) g h same =
    let here = same 0 (omega arith) in
    let rest = upto_same n (λ i. g (suc i)) (λ i. h (suc i)) (λ i low. same (suc i) (omega (arith, low))) in
    omega (arith, here, rest)

-- a sum of sums is exchanged
upto_plus : (n : ℕ) (g h : ℕ → ℕ) → upto n (λ i. g i + h i) ≡ upto n g + upto n h
upto_plus zero g h = refl
upto_plus (suc n) g h = let rest = upto_plus n (λ i. g (suc i)) (λ i. h (suc i)) in omega (arith, rest)

upto_none : (n : ℕ) (g : ℕ → ℕ) → ((i : ℕ) → g i ≡ 0) → upto n g ≡ 0
upto_none zero g none = refl
upto_none (suc n) g none = let here = none 0 in let rest = upto_none n (λ i. g (suc i)) (λ i. none (suc i)) in omega (arith, here, rest)

if_next : (x y : ℕ) → one_if (suc x) (suc y) ≡ one_if x y
if_next x y = elim (cases_eq x y) [
  | inl same ↦ if_same (suc x) (suc y) (ap suc same) ∙ sym (if_same x y same)
  | inr ne ↦ if_apart (suc x) (suc y) (λ e. ne (omega (arith, e))) ∙ sym (if_apart x y ne)
]

upto_one : (n y : ℕ) → y < n → upto n (λ i. one_if i y) ≡ 1
upto_one zero y low = absurd (omega (arith, low))
upto_one (suc n) zero low =
    let rest = upto_none n (λ i. one_if (suc i) 0) (λ i. if_apart (suc i) 0 (λ e. omega (arith, e))) in
    let here = if_same 0 0 refl in
    omega (arith, rest, here)
upto_one (suc n) (suc y) low =
    let here = if_apart 0 (suc y) (λ e. omega (arith, e)) in
    let there = upto_same n (λ i. one_if (suc i) (suc y)) (λ i. one_if i y) (λ i _. if_next i y) in
    let rest = upto_one n y (omega (arith, low)) in
    omega (arith, here, there, rest)

-- numbers below a bound are counted one by one
upto_times : (n : ℕ) (fs : List ℕ) → ((f : ℕ) → Among f fs → f < n) → upto n (λ f. times f fs) ≡ length fs
upto_times n [] inside = upto_none n (λ f. 0) (λ f. refl)
upto_times n (y ∷ ys) inside =
    let both = upto_plus n (λ f. one_if f y) (λ f. times f ys) in
    let one = upto_one n y (inside y (inl refl)) in
    let rest = upto_times n ys (λ f i. inside f (inr i)) in
    omega (arith, both, one, rest)

-- counts

sum_upto : (cs : List ℕ) → sum cs ≡ upto (length cs) (λ f. slice_index cs f)
sum_upto [] = refl
sum_upto (c ∷ cs) = let first = sum_by-cons (λ (x : ℕ). x) c cs in let rest = sum_upto cs in omega (arith, first, rest)

count_upto : (p : ℕ → Bool) (cs : List ℕ) → count_by p cs ≡ upto (length cs) (λ f. cond (p (slice_index cs f)) 1 0)
count_upto p [] = refl
count_upto p (c ∷ cs) = let first = sum_by-cons (λ (x : ℕ). cond (p x) 1 0) c cs in let rest = count_upto p cs in omega (arith, first, rest)

-- a number of count 0 or past the end is in no such list
inside_of : (cs fs : List ℕ) (p : ℕ → ℕ) → p 0 ≡ 0 → ((f : ℕ) → times f fs ≡ p (slice_index cs f)) → (f : ℕ) → Among f fs → f < length cs
inside_of cs fs p none are f i = elim (cases_lt f (length cs)) [
  | inl low ↦ low
  | inr past ↦ absurd (
      let some = times_among f fs i in
      let zero : p (slice_index cs f) ≡ p 0 = ap p (get_or_past cs f 0 past) in
      let is = are f in
      omega (arith, some, zero, is, none))
]

-- the sum of all counts is the length of a list that has each number so often
pub sum_is : (cs fs : List ℕ) → ((f : ℕ) → times f fs ≡ slice_index cs f) → sum cs ≡ length fs
sum_is cs fs are =
    let whole = upto_times (length cs) fs (inside_of cs fs (λ c. c) refl are) in
    let same = upto_same (length cs) (λ f. times f fs) (λ f. slice_index cs f) (λ f _. are f) in
    let all = sum_upto cs in
    omega (arith, whole, same, all)

-- and so many counts pass as a list has numbers that has each whose count passes once, and no other
pub count_is : (p : ℕ → Bool) (cs ds : List ℕ) → p 0 ≡ false → ((f : ℕ) → times f ds ≡ cond (p (slice_index cs f)) 1 0) → count_by p cs ≡ length ds
count_is p cs ds none are =
    let whole = upto_times (length cs) ds (inside_of cs ds (λ c. cond (p c) 1 0) (ap (λ b. cond b 1 0) none) are) in
    let same = upto_same (length cs) (λ f. times f ds) (λ f. cond (p (slice_index cs f)) 1 0) (λ f _. are f) in
    let all = count_upto p cs in
    omega (arith, whole, same, all)

one_of_two : (b c : Bool) → (b ≡ true → c ≡ false) → (b ≡ false → c ≡ true) → cond b 1 0 + cond c 1 0 ≡ 1
one_of_two true true off on = absurd (let e = off refl in cc)
one_of_two true false off on = refl
one_of_two false true off on = refl
one_of_two false false off on = absurd (let e = on refl in cc)

-- a test and its opposite count all
pub count_opposite : (p q : ℕ → Bool) → ((c : ℕ) → p c ≡ true → q c ≡ false) → ((c : ℕ) → p c ≡ false → q c ≡ true) → (cs : List ℕ) → count_by p cs + count_by q cs ≡ length cs
count_opposite p q off on [] = refl
count_opposite p q off on (c ∷ cs) =
    let one = sum_by-cons (λ (x : ℕ). cond (p x) 1 0) c cs in
    let two = sum_by-cons (λ (x : ℕ). cond (q x) 1 0) c cs in
    let here = one_of_two (p c) (q c) (off c) (on c) in
    let rest = count_opposite p q off on cs in
    omega (arith, one, two, here, rest)

-- whether a count is above a bound

pub one_past : (b n : ℕ) → b < n → ◌≡◌ {A = ℕ} (cond (nat_lt b n) 1 0) 1
one_past b n past = ap (λ t. cond t 1 0) (lt-ltb b n past)

pub none_past : (b n : ℕ) → n ≤ b → ◌≡◌ {A = ℕ} (cond (nat_lt b n) 1 0) 0
none_past b n low = ap (λ t. cond t 1 0) (le-ltb b n low)
