-- Lemmas about the list of copy numbers (each names one copy of a page in memory) of a process's pages: a page that is put
-- first adds its number, one put again replaces its old number; and bounds of what is found are bounds of the list.
use Rattle.std.proofs.Common.{◌≡◌, ℕ, Bool, true, false, cond, ◌<◌, ◌⊎◌, inl, inr, refl, ap, arith, List, [], ◌∷◌, ◌++◌, Some, None, map}
use Rattle.std.specs.Prelude.{T, ◌&&◌, ◌||◌, ◌==◌, is_some, flat_map}
use Rattle.std.specs.List.{list_any}
use Rattle.std.specs.Ordering.{nat_cmp, eq_by_cmp, is_eq, is_lt}
use Rattle.std.specs.declared.cmp.Ordering.TheVariants.{Less, Equal, Greater}
use Rattle.std.proofs.lemmas.Option.{same_Some}
use Rattle.std.specs.FinMap.Entries.{by_order, put, find, below_all, is_sorted}
use Rattle.process_model.specs.Process.{Process, Page}
use Rattle.process_model.specs.Frames.{copies_of, has_copy}
use Rattle.process_laws.proofs.SetSizes.{Among, Within, among_front, among_back, equal_of, equal_to, found_key}

abbrev pub copies : List (ℕ × Page) → List ℕ
copies es = map (λ e. (e.1).copy) es

-- a page that was not settled adds its number

pub put_only : (k : ℕ) (v : Page) (es : List (ℕ × Page)) → find nat_cmp k es ≡ None → Within (copies (put nat_cmp k v es)) (v.copy ∷ copies es)
put_only k v [] none q i = i
put_only k v (e ∷ es) none q i =
    elim (nat_cmp k e.0) as (λ r. cond (is_eq r) (Some e.1) (find nat_cmp k es) ≡ None → Among q (copies (by_order r ((k, v) ∷ e ∷ es) ((e.0, v) ∷ es) (e ∷ put nat_cmp k v es))) → Among q (v.copy ∷ copies (e ∷ es))) [
      | Less ↦ λ _ j. j
      | Equal ↦ λ none j. absurd (cc)
      | Greater ↦ λ none j. elim j [ inl same ↦ inr (inl same) | inr l ↦ elim (put_only k v es none q l) [ inl same ↦ inl same | inr m ↦ inr (inr m) ] ]
    ] none i

pub put_has : (k : ℕ) (v : Page) (es : List (ℕ × Page)) → find nat_cmp k es ≡ None → Within (v.copy ∷ copies es) (copies (put nat_cmp k v es))
put_has k v [] none q i = i
put_has k v (e ∷ es) none q i =
    elim (nat_cmp k e.0) as (λ r. cond (is_eq r) (Some e.1) (find nat_cmp k es) ≡ None → Among q (copies (by_order r ((k, v) ∷ e ∷ es) ((e.0, v) ∷ es) (e ∷ put nat_cmp k v es)))) [
      | Less ↦ λ _. i
      | Equal ↦ λ none. absurd (cc)
      | Greater ↦ λ none. elim i [
        | inl same ↦ inr (put_has k v es none q (inl same))
        | inr j ↦ elim j [ inl same ↦ inl same | inr l ↦ inr (put_has k v es none q (inr l)) ]
      ]
    ] none

-- keys in order

pub first : (a b : Bool) → T (a && b) → T a
first true b t = tt
first false b t = t

pub second : (a b : Bool) → T (a && b) → T b
second true b t = t
second false b t = absurd t

pub lt_of : (a b : ℕ) → T (is_lt (nat_cmp a b)) → a < b
lt_of a b t = grind arith

less_of : (a b : ℕ) → nat_cmp a b ≡ Less → a < b
less_of a b e = lt_of a b (rw e tt)

above : (x k : ℕ) (es : List (ℕ × Page)) → T (below_all nat_cmp x es) → Among k (map (λ e. e.0) es) → x < k
above x k [] t i = absurd i
above x k (e ∷ es) t (inl same) = let below : x < e.0 = lt_of x e.0 (first _ _ t) in omega (below, same, arith)
above x k (e ∷ es) t (inr i) = above x k es (second _ _ t) i

pub found_above : (x k : ℕ) (v : Page) (es : List (ℕ × Page)) → T (below_all nat_cmp x es) → find nat_cmp k es ≡ Some v → x < k
found_above x k v es t f = above x k es t (found_key k es (ap is_some f))

-- a settled page: its number goes, and the new one stands in its place
pub record Replaced (old new : ℕ) (was is : List ℕ) : Type 0 where
  pub front : List ℕ
  pub back : List ℕ
  pub before : was ≡ front ++ old ∷ back
  pub after : is ≡ front ++ new ∷ back

pub put_replaces : (k : ℕ) (v x : Page) (es : List (ℕ × Page)) → T (is_sorted nat_cmp es) → find nat_cmp k es ≡ Some x → Replaced x.copy v.copy (copies es) (copies (put nat_cmp k v es))
put_replaces k v x [] t f = absurd (cc)
put_replaces k v x (e ∷ es) t f =
    elim (nat_cmp k e.0) as (λ r. nat_cmp k e.0 ≡ r → cond (is_eq r) (Some e.1) (find nat_cmp k es) ≡ Some x
    → Replaced x.copy v.copy (copies (e ∷ es)) (copies (by_order r ((k, v) ∷ e ∷ es) ((e.0, v) ∷ es) (e ∷ put nat_cmp k v es)))) [
      | Less ↦ λ less f. let low : k < e.0 = less_of k e.0 less in let high : e.0 < k = found_above e.0 k x es (first _ _ t) f in absurd (omega (low, high, arith))
      | Equal ↦ λ _ f. record { front = []; back = copies es; before = ap (λ (y : Page). y.copy ∷ copies es) (same_Some e.1 x f); after = refl }
      | Greater ↦ λ _ f. let rest = put_replaces k v x es (second _ _ t) f in
          record { front = (e.1).copy ∷ rest.front; back = rest.back; before = ap (λ ns. (e.1).copy ∷ ns) rest.before; after = ap (λ ns. (e.1).copy ∷ ns) rest.after }
    ] refl f

-- a bound on what look-ups give is one on all copy numbers
pub each_below : (c : ℕ) (es : List (ℕ × Page)) → T (is_sorted nat_cmp es) → ((k : ℕ) (x : Page) → find nat_cmp k es ≡ Some x → x.copy < c) → (q : ℕ) → Among q (copies es) → q < c
each_below c [] t h q i = absurd i
each_below c (e ∷ es) t h q (inl same) = let low : (e.1).copy < c = h e.0 e.1 (rw (equal_to e.0 e.0 refl)) in omega (same, low, arith)
each_below c (e ∷ es) t h q (inr i) = each_below c es (second _ _ t) (λ k x f. h k x (later k x f)) q i where
  later : (k : ℕ) (x : Page) → find nat_cmp k es ≡ Some x → find nat_cmp k (e ∷ es) ≡ Some x
  later k x f = elim (eq_by_cmp nat_cmp k e.0) as (λ b. eq_by_cmp nat_cmp k e.0 ≡ b → cond b (Some e.1) (find nat_cmp k es) ≡ Some x) [
    | true ↦ λ same. let is : k ≡ e.0 = equal_of k e.0 same in let high : e.0 < k = found_above e.0 k x es (first _ _ t) f in absurd (omega (is, high, arith))
    | false ↦ λ _. f
  ] refl

-- a copy number is that of a page that is looked up
pub among_found : (es : List (ℕ × Page)) → T (is_sorted nat_cmp es) → (q : ℕ) → Among q (copies es) → (k : ℕ) × (x : Page) × (find nat_cmp k es ≡ Some x) × (q ≡ x.copy)
among_found [] t q i = absurd i
among_found (e ∷ es) t q (inl same) = (e.0, e.1, rw (equal_to e.0 e.0 refl) refl, same)
among_found (e ∷ es) t q (inr i) = let rest = among_found es (second _ _ t) q i in (rest.0, rest.1, later rest.0 rest.1 rest.2, rest.3) where
  later : (k : ℕ) (x : Page) → find nat_cmp k es ≡ Some x → find nat_cmp k (e ∷ es) ≡ Some x
  later k x f = elim (eq_by_cmp nat_cmp k e.0) as (λ b. eq_by_cmp nat_cmp k e.0 ≡ b → cond b (Some e.1) (find nat_cmp k es) ≡ Some x) [
    | true ↦ λ same. let is : k ≡ e.0 = equal_of k e.0 same in let high : e.0 < k = found_above e.0 k x es (first _ _ t) f in absurd (omega (is, high, arith))
    | false ↦ λ _. f
  ] refl

-- tests of copy numbers

pub one_of : (x y : Bool) → (x || y) ≡ true → (x ≡ true) ⊎ (y ≡ true)
one_of true y e = inl refl
one_of false y e = inr e

same_of : (c n : ℕ) → (n == c) ≡ true → c ≡ n
same_of c n e = grind arith

pub any_copy : (c : ℕ) (ns : List ℕ) → list_any (λ n. n == c) ns ≡ true → Among c ns
any_copy c [] t = absurd (cc)
any_copy c (n ∷ ns) t = elim (one_of (n == c) (list_any (λ m. m == c) ns) t) [ inl e ↦ inl (same_of c n e) | inr e ↦ inr (any_copy c ns e) ]

pub held : (c : ℕ) (ps : List Process) → list_any (has_copy c) ps ≡ true → Among c (flat_map copies_of ps)
held c [] t = absurd (cc)
held c (p ∷ ps) t = elim (one_of (has_copy c p) (list_any (has_copy c) ps) t) [
  | inl e ↦ among_front c (copies_of p) (flat_map copies_of ps) (any_copy c (copies_of p) e)
  | inr e ↦ among_back c (copies_of p) (flat_map copies_of ps) (held c ps e)
]
