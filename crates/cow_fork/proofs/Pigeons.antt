-- A lemma (`few`): a list of distinct numbers below a bound is no longer than the bound.
use Rattle.std.proofs.Common.{◌≡◌, ℕ, zero, suc, ◌+◌, ◌<◌, ◌≤◌, refl, List, [], ◌∷◌, length, arith}
use Rattle.std.specs.Prelude.{◌==◌, if◌then◌else◌, nat_lt}
use Rattle.std.proofs.lemmas.Bool.{eq-eqb}
use Rattle.std.proofs.lemmas.Bool.Decides.{nat_tests}
use Rattle.cow_fork.specs.Occurrences.{times}

-- how many of the list are below a bound
abbrev below : ℕ → List ℕ → ℕ
below zero L = 0
below (suc n) L = times n L + below n L

here_or_less : (m n : ℕ) → ◌≡◌ {A = ℕ} (if nat_lt m (suc n) then 1 else 0) ((if m == n then 1 else 0) + (if nat_lt m n then 1 else 0))
here_or_less m n = grind (arith, nat_tests)

below_cons : (n m : ℕ) (L : List ℕ) → below n (m ∷ L) ≡ (if nat_lt m n then 1 else 0) + below n L
below_cons zero m L = grind (arith, nat_tests)
below_cons (suc n) m L = let rest = below_cons n m L in let more = here_or_less m n in omega (arith, rest, more)

below_nil : (n : ℕ) → below n [] ≡ 0
below_nil zero = refl
below_nil (suc n) = let rest = below_nil n in omega (arith, rest)

one_below : (m n : ℕ) → m < n → ◌≡◌ {A = ℕ} (if nat_lt m n then 1 else 0) 1
one_below m n low = grind (arith, nat_tests, low)

self_times : (m : ℕ) (L : List ℕ) → 0 < times m (m ∷ L)
self_times m L = rw (eq-eqb m m refl) (omega arith)

all_below : (n : ℕ) (L : List ℕ) → ((f : ℕ) → 0 < times f L → f < n) → below n L ≡ length L
all_below n [] low = below_nil n
all_below n (m ∷ L) low =
    let rest = all_below n L (λ f some. low f (omega (arith, some))) in
    let one = one_below m n (low m (self_times m L)) in
    let cons = below_cons n m L in
    omega (arith, rest, one, cons)

few_below : (n : ℕ) (L : List ℕ) → ((f : ℕ) → times f L ≤ 1) → below n L ≤ n
few_below zero L once = omega arith
few_below (suc n) L once = let rest = few_below n L once in let here = once n in omega (arith, rest, here)

pub few : (n : ℕ) (L : List ℕ) → ((f : ℕ) → times f L ≤ 1) → ((f : ℕ) → 0 < times f L → f < n) → length L ≤ n
few n L once low = let all = all_below n L low in let most = few_below n L once in omega (arith, all, most)
