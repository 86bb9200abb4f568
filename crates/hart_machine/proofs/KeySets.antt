-- Lemmas on maps from numbers: their keys are a list without repeats; a number is among the keys if and only if something is
-- found at it, and among those of a set if and only if it was put in. Also membership in lists, by two definitions.
use Rattle.std.proofs.Common.{◌≡◌, ℕ, zero, suc, ◌<◌, ◌⊎◌, Bool, true, false, cond, inl, inr, refl, ap, sym, subst, arith, List, [], ◌∷◌, map, length, Option, Some, None}
use Rattle.std.specs.Prelude.{T, ◌&&◌, is_some, All, Contains}
use Rattle.std.specs.Ordering.{nat_cmp, eq_by_cmp, is_lt}
use Rattle.std.specs.Cmp.{nat_cmp_total, Equal-is, eq_by_cmp_equiv}
use Rattle.std.proofs.lemmas.Map.Lookups.{exact_unsigned}
use Rattle.std.specs.FinMap.Entries.{find, below_all, is_sorted}
use Rattle.std.proofs.lemmas.List.{length-map}
use Rattle.process_model.specs.Insertion.{key_in, key_out}
use Rattle.process_model.specs.PageMap.{PageMap, get, keys, numbers}
use Rattle.hart_machine.proofs.NumberLists.{Among, Distinct}

pub first : (a b : Bool) → T (a && b) → T a
first true b t = tt
first false b t = t

pub second : (a b : Bool) → T (a && b) → T b
second true b t = t
second false b t = absurd t

lt_of : (a b : ℕ) → T (is_lt (nat_cmp a b)) → a < b
lt_of a b t = grind arith

pub above : {X : Type 0} (x k : ℕ) (es : List (ℕ × X)) → T (below_all nat_cmp x es) → Among k (map (λ e. e.0) es) → x < k
above x k [] t i = absurd i
above x k (e ∷ es) t (inl same) = let below : x < e.0 = lt_of x e.0 (first _ _ t) in omega (below, same, arith)
above x k (e ∷ es) t (inr i) = above x k es (second _ _ t) i

entries_distinct : {X : Type 0} (es : List (ℕ × X)) → T (is_sorted nat_cmp es) → Distinct (map (λ e. e.0) es)
entries_distinct [] t = tt
entries_distinct (e ∷ es) t = ((λ i. let far : e.0 < e.0 = above e.0 e.0 es (first _ _ t) i in omega (arith, far)), entries_distinct es (second _ _ t))

pub keys_distinct : {X : Type 0} (m : PageMap X) → Distinct (keys m)
keys_distinct m = entries_distinct m.entries m.sorted

pub length_keys : {X : Type 0} (m : PageMap X) → length (keys m) ≡ length m.entries
length_keys m = length-map m.entries (λ e. e.0)

-- look-ups

pub equal_of : (a b : ℕ) → eq_by_cmp nat_cmp a b ≡ true → a ≡ b
equal_of a b t = exact_unsigned a b ((Equal-is (nat_cmp a b)).0 t)

pub equal_to : (a b : ℕ) → a ≡ b → eq_by_cmp nat_cmp a b ≡ true
equal_to a b e = rw e ((eq_by_cmp_equiv nat_cmp_total).refl b)

key_found : {X : Type 0} (q : ℕ) (es : List (ℕ × X)) → Among q (map (λ e. e.0) es) → is_some (find nat_cmp q es) ≡ true
key_found q [] i = absurd i
key_found q (e ∷ es) (inl same) = rw (equal_to q e.0 same)
key_found q (e ∷ es) (inr i) = elim (eq_by_cmp nat_cmp q e.0) as (λ b. is_some (cond b (Some e.1) (find nat_cmp q es)) ≡ true) [ true ↦ refl | false ↦ key_found q es i ]

pub found_key : {X : Type 0} (q : ℕ) (es : List (ℕ × X)) → is_some (find nat_cmp q es) ≡ true → Among q (map (λ e. e.0) es)
found_key q [] t = absurd (cc)
found_key q (e ∷ es) t =
    elim (eq_by_cmp nat_cmp q e.0) as (λ b. eq_by_cmp nat_cmp q e.0 ≡ b → is_some (cond b (Some e.1) (find nat_cmp q es)) ≡ true → (q ≡ e.0) ⊎ Among q (map (λ e. e.0) es)) [
      | true ↦ λ same _. inl (equal_of q e.0 same)
      | false ↦ λ _ found. inr (found_key q es found)
    ] refl t

-- among a list, in std's word
pub contains_among : (x : ℕ) (xs : List ℕ) → Contains xs x → Among x xs
contains_among x [] h = absurd (omega (arith, h.1))
contains_among x (y ∷ xs) (zero, lt, is) = inl (sym is)
contains_among x (y ∷ xs) (suc k, lt, is) = inr (contains_among x xs (k, omega (arith, lt), is))

pub among_contains : (x : ℕ) (xs : List ℕ) → Among x xs → Contains xs x
among_contains x [] i = absurd i
among_contains x (y ∷ xs) (inl e) = (0, omega arith, sym e)
among_contains x (y ∷ xs) (inr i) = let old = among_contains x xs i in (suc old.0, (let low = old.1 in omega (arith, low)), old.2)

pub of_all : (P : ℕ → Type 0) (x : ℕ) (xs : List ℕ) → All P xs → Among x xs → P x
of_all P x xs all i = let h = among_contains x xs i in subst P h.2 (all h.0 x h.1)

-- the keys of a set are the numbers that went into it
pub numbers_have : (xs : List ℕ) → (q : ℕ) → Among q xs → Among q (keys (numbers xs))
numbers_have [] q i = absurd i
numbers_have (x ∷ xs) q i = contains_among q (keys (numbers (x ∷ xs))) (key_in x tt (numbers xs) q (among_contains q (x ∷ keys (numbers xs)) (elim i [ inl e ↦ inl e | inr j ↦ inr (numbers_have xs q j) ])))

pub numbers_have_only : (xs : List ℕ) → (q : ℕ) → Among q (keys (numbers xs)) → Among q xs
numbers_have_only [] q i = absurd i
numbers_have_only (x ∷ xs) q i = elim (contains_among q (x ∷ keys (numbers xs)) (key_out x tt (numbers xs) q (among_contains q (keys (numbers (x ∷ xs))) i))) [
  | inl e ↦ inl e
  | inr j ↦ inr (numbers_have_only xs q j)
]

pub value : {A : Type 0} (o : Option A) → is_some o ≡ true → (x : A) × (o ≡ Some x)
value None some = absurd (cc)
value (Some x) some = (x, refl)

pub settled_key : {X : Type 0} (m : PageMap X) (n : ℕ) (a : X) → get m n ≡ Some a → Among n (keys m)
settled_key m n a at = found_key n m.entries (ap is_some at)

pub key_settled : {X : Type 0} (m : PageMap X) (n : ℕ) → Among n (keys m) → (a : X) × (get m n ≡ Some a)
key_settled m n i = value (get m n) (key_found n m.entries i)
