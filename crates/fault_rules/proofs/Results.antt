-- Lemmas on results and numbers: a clause about a result is weakened; what an error says of the frames needed, free and
-- taken; and a relation is carried over to equal things.
use Rattle.std.proofs.lemmas.Bool.{cases_lt}
use Rattle.std.proofs.Common.{◌≡◌, ℕ, false, true, inl, inr, subst, ◌<◌, ◌≤◌, ◌-◌, ◌↔◌, Result, Ok, Err}
use Rattle.std.specs.Prelude.{if◌then◌else◌, IfErr, IfOk, is_ok, IsErr, IsOk}

pub if_ok : {A E : Type 0} (P Q : A → Type 0) (r : Result A E) → ((a : A) → P a → Q a) → IfOk r P → IfOk r Q
if_ok P Q (Ok a) so is = so a is
if_ok P Q (Err e) so is = tt

pub if_err : {A E : Type 0} (P Q : E → Type 0) (r : Result A E) → ((e : E) → P e → Q e) → IfErr r P → IfErr r Q
if_err P Q (Ok a) so is = tt
if_err P Q (Err e) so is = so e is

pub err_told : {A E : Type 0} (r : Result A E) (P : Type 0) → P → IfErr r (λ _. P)
err_told (Ok a) P is = tt
err_told (Err e) P is = is

pub not_enough : {A E : Type 0} (r : Result A E) (need free : ℕ) → IsErr r → (need ≤ free → false ≡ true) → IsOk r ↔ (need ≤ free)
not_enough (Ok a) need free err few = absurd (cc)
not_enough (Err e) need free err few = (λ ok. absurd (cc), few)

pub none_taken : {A E : Type 0} (r : Result A E) (need a b : ℕ) → IsErr r → a ≡ b - 0 → a ≡ b - (if is_ok r then need else 0)
none_taken (Ok x) need a b err is = absurd (cc)
none_taken (Err e) need a b err is = is

pub too_few : (need free : ℕ) → (need ≤ free → false ≡ true) → free < need
too_few need free few = elim (cases_lt free need) [
  | inl less ↦ less
  | inr enough ↦ absurd (let wrong = few enough in cc)
]

pub few_if_err : {A E : Type 0} (r : Result A E) (need free : ℕ) → IsOk r ↔ (need ≤ free) → IfErr r (λ _. free < need)
few_if_err (Ok a) need free exact = tt
few_if_err (Err e) need free exact = too_few need free exact.1

-- what is told of some things is told of those that are the same
pub carried : {A B C D : Type 0} (P : A → B → C → D → Type 0) {x y : A} {s r : B} {a b : C} {m n : D} → x ≡ y → s ≡ r → a ≡ b → m ≡ n → P x s a m → P y r b n
carried P {x} {y} {s} {r} {a} {b} {m} {n} xs ss bs ms told = subst (P y r b) ms (subst (λ c. P y r c m) bs (subst (λ t. P y t a m) ss (subst (λ z. P z s a m) xs told)))
