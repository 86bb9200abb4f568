-- Lemmas on how many lives (the roster's records of processes) have one name: names stay apart if a life is added, removed,
-- moved to the ended or replaced by one of its name; two lives of one name are one (`one_of`).
use Rattle.std.proofs.Common.{◌≡◌, ◌⊎◌, inl, inr, ℕ, ◌+◌, ◌<◌, ◌≤◌, Bool, true, false, cond, List, [], ◌∷◌, ◌++◌, refl, sym, ap, ◌∙◌, arith}
use base.Stored.{gnil}
use Rattle.vouchers.specs.Entries.{birth, TokenEntry as Life, entry, Has, same, same_name, without}
use Rattle.vouchers.specs.Lists.{same_is, same_self, tells}
use Rattle.run_roster.specs.RosterState.{AreApart, AreNamed, times}

-- one life

abbrev hit : List ℕ → Life → ℕ
hit name l = cond (same_name name l.name) 1 0

-- the life has the name, or another one
abbrev Hits : List ℕ → Life → Type 0
Hits name l = ((l.name ≡ name) × (hit name l ≡ 1)) ⊎ ((l.name ≡ name → ⊥) × (hit name l ≡ 0))

abbrev of_name : List ℕ → Life
of_name xs = entry xs (birth 0 gnil) []

is_name : (xs ys : List ℕ) → same_name xs ys ≡ true → xs ≡ ys
is_name xs ys e = ap (λ (l : Life). l.name) (same_is (of_name xs) (of_name ys) e)

self_name : (xs : List ℕ) → same_name xs xs ≡ true
self_name xs = same_self (of_name xs)

hits : (name : List ℕ) (l : Life) → Hits name l
hits name l = elim (tells (same_name name l.name)) as (λ _. Hits name l) [
  | inl t ↦ inl (sym (is_name name l.name t), ap (λ (b : Bool). cond b 1 0) t)
  | inr t ↦ inr ((λ is. absurd (let no : true ≡ false = sym (self_name name) ∙ (ap (same_name name) (sym is) ∙ t) in cc)), ap (λ (b : Bool). cond b 1 0) t)
]

hit_one : (name : List ℕ) (l : Life) → l.name ≡ name → hit name l ≡ 1
hit_one name l is = elim (hits name l) as (λ _. hit name l ≡ 1) [
  | inl has ↦ has.1
  | inr other ↦ absurd (other.0 is)
]

-- lists of lives

times_append : (name : List ℕ) (xs ys : List Life) → times name (xs ++ ys) ≡ times name xs + times name ys
times_append name [] ys = omega arith
times_append name (x ∷ xs) ys = let rest = times_append name xs ys in omega (arith, rest)

times_without : (name : List ℕ) (e : Life) (xs : List Life) → Has e xs → times name (without e xs) + hit name e ≡ times name xs
times_without name e [] h = absurd h
times_without name e (y ∷ ys) h = elim (tells (same e y)) as (λ _. times name (without e (y ∷ ys)) + hit name e ≡ times name (y ∷ ys)) [
  | inl t ↦ rw t (let one = ap (hit name) (same_is e y t) in omega (arith, one))
  | inr t ↦ rw t (there (times_without name e ys) h t)
]
  where
    there : (Has e ys → times name (without e ys) + hit name e ≡ times name ys) → Has e (y ∷ ys) → same e y ≡ false → times name (y ∷ without e ys) + hit name e ≡ times name (y ∷ ys)
    there rest (inl is) t = absurd (let no : true ≡ false = sym (same_self e) ∙ (ap (same e) is ∙ t) in cc)
    there rest (inr r) t = let k = rest r in omega (arith, k)

times_none : (name : List ℕ) (xs : List Life) → ((x : Life) → Has x xs → x.name ≡ name → ⊥) → times name xs ≡ 0
times_none name [] free = refl
times_none name (x ∷ xs) free = elim (hits name x) as (λ _. times name (x ∷ xs) ≡ 0) [
  | inl has ↦ absurd (free x (inl refl) has.0)
  | inr other ↦ (let here = other.1 in let rest = times_none name xs (λ y h. free y (inr h)) in omega (arith, here, rest))
]

times_some : (name : List ℕ) (a : Life) (xs : List Life) → a.name ≡ name → Has a xs → 0 < times name xs
times_some name a [] is h = absurd h
times_some name a (x ∷ xs) is (inl same) = let one = hit_one name x (sym (ap (λ (l : Life). l.name) same) ∙ is) in omega (arith, one)
times_some name a (x ∷ xs) is (inr h) = let rest = times_some name a xs is h in omega (arith, rest)

-- two lives of a name that one life has at most are one
pub one_of : (name : List ℕ) (a b : Life) (xs : List Life) → times name xs ≤ 1 → a.name ≡ name → b.name ≡ name → Has a xs → Has b xs → a ≡ b
one_of name a b [] most of_a of_b here there = absurd here
one_of name a b (x ∷ xs) most of_a of_b (inl p) (inl q) = p ∙ sym q
one_of name a b (x ∷ xs) most of_a of_b (inl p) (inr q) = absurd (
    let one = hit_one name x (sym (ap (λ (l : Life). l.name) p) ∙ of_a) in
    let more = times_some name b xs of_b q in
    omega (arith, most, one, more)
    )
one_of name a b (x ∷ xs) most of_a of_b (inr p) (inl q) = absurd (
    let one = hit_one name x (sym (ap (λ (l : Life). l.name) q) ∙ of_b) in
    let more = times_some name a xs of_a p in
    omega (arith, most, one, more)
    )
one_of name a b (x ∷ xs) most of_a of_b (inr p) (inr q) = one_of name a b xs (omega (arith, most)) of_a of_b p q

-- what keeps names apart

-- a new name, or none
pub apart_more : (e : Life) (xs : List Life) → ((e.name ≡ [] → ⊥) → (x : Life) → Has x xs → x.name ≡ e.name → ⊥) → AreApart xs → AreApart (e ∷ xs)
apart_more e xs new was name some = elim (hits name e) as (λ _. times name (e ∷ xs) ≤ 1) [
  | inl has ↦ (let one = has.1 in let none = times_none name xs (λ x h is. new (λ none. some (sym has.0 ∙ none)) x h (is ∙ sym has.0)) in omega (arith, one, none))
  | inr other ↦ (let here = other.1 in let rest = was name some in omega (arith, here, rest))
]

pub apart_less : (e : Life) (out rest : List Life) → Has e out → AreApart (out ++ rest) → AreApart (without e out ++ rest)
apart_less e out rest had was name some =
    let a = times_append name out rest in
    let b = times_append name (without e out) rest in
    let c = times_without name e out had in
    let d = was name some in
    omega (arith, a, b, c, d)

-- another order
pub apart_last : (e : Life) (out rest : List Life) → AreApart (e ∷ out ++ rest) → AreApart (out ++ (rest ++ e ∷ []))
apart_last e out rest was name some =
    let a = times_append name out rest in
    let b = times_append name out (rest ++ e ∷ []) in
    let c = times_append name rest (e ∷ []) in
    let d = was name some in
    omega (arith, a, b, c, d)

pub apart_swap : (e f : Life) (xs : List Life) → AreApart (e ∷ f ∷ xs) → AreApart (f ∷ e ∷ xs)
apart_swap e f xs was name some = let d = was name some in omega (arith, d)

pub apart_moved : (e : Life) (out rest : List Life) → Has e out → AreApart (out ++ rest) → AreApart (without e out ++ (rest ++ e ∷ []))
apart_moved e out rest had was = apart_last e (without e out) rest (λ name some.
    let a = times_append name out rest in
    let b = times_append name (without e out) rest in
    let c = times_without name e out had in
    let d = was name some in
    omega (arith, a, b, c, d))

-- one is taken out, and comes back with other children
pub apart_instead : (e f : Life) (out rest : List Life) → f.name ≡ e.name → Has e out → AreApart (out ++ rest) → AreApart (f ∷ without e out ++ rest)
apart_instead e f out rest same had was name some =
    let a = times_append name out rest in
    let b = times_append name (without e out) rest in
    let c = times_without name e out had in
    let d = was name some in
    let s : hit name f ≡ hit name e = ap (λ (m : List ℕ). cond (same_name name m) 1 0) same in
    omega (arith, a, b, c, d, s)

-- where all have names
pub apart_all : (lives : List Life) → AreNamed lives → AreApart lives → (name : List ℕ) → times name lives ≤ 1
apart_all lives named was [] = let none = times_none [] lives named in omega (arith, none)
apart_all lives named was (x ∷ xs) = was (x ∷ xs) (λ none. absurd (cc))
