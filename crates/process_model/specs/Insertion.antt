-- Laws of insertion into a page map (a map from page numbers): what a lookup finds afterwards, the keys, and insertions that
-- change nothing or are repeated; maps with equal lookups are equal. First, laws of members of lists.
use lib.Dec.{T_prop}
use mathlib.Core.HLevel.{Σ_prop_path}
use Rattle.std.proofs.Common.{◌≡◌, ℕ, cond, zero, suc, ◌⊎◌, inl, inr, refl, ap, sym, subst, ◌∙◌, arith, List, [], ◌∷◌, map, Some, Less, Equal, Greater, T}
use Rattle.std.specs.Prelude.{All, Contains}
use Rattle.std.specs.Cmp.{nat_cmp_total, unsigned_tied}
use Rattle.std.specs.FinMap.Entries.{by_order, find-put, is_sorted, put, same_entries}
use Rattle.std.specs.Ordering.{nat_cmp}
use Rattle.std.proofs.lemmas.Bool.{cases_eq, eq-eqb, ne_eqb}
use Rattle.std.proofs.lemmas.List.Elements.{All-contains, All-contains_itself}
use Rattle.std.proofs.lemmas.Map.Lookups.{exact_unsigned}
use Rattle.process_model.specs.PageMap.{PageMap, get, insert, keys}

-- members of lists

pub in_front : (x : ℕ) (xs : List ℕ) → Contains (x ∷ xs) x
in_front x xs = (0, omega arith, refl)

pub behind : (x y : ℕ) (xs : List ℕ) → Contains xs y → Contains (x ∷ xs) y
behind x y xs h = (suc h.0, omega (arith, h.1), h.2)

pub first_or : (x y : ℕ) (xs : List ℕ) → Contains (x ∷ xs) y → (x ≡ y) ⊎ Contains xs y
first_or x y xs (zero, less, is) = inl is
first_or x y xs (suc k, less, is) = inr (k, omega (arith, less), is)

-- if each member of xs is one of ys, each member of x ∷ xs is one of x ∷ ys
pub behind_more : (x : ℕ) (xs ys : List ℕ) → ((y : ℕ) → Contains xs y → Contains ys y) → (y : ℕ) → Contains (x ∷ xs) y → Contains (x ∷ ys) y
behind_more x xs ys into y h = elim (first_or x y xs h) [
  | inl same ↦ rw (← same) (in_front x ys)
  | inr later ↦ behind x y ys (into y later)
]

module _ {X : Type 0} (k : ℕ) (v : X) where
  -- what a lookup finds

  pub inserted_here : (m : PageMap X) (q : ℕ) → q ≡ k → get (insert m k v) q ≡ Some v
  inserted_here m q same =
      find-put nat_cmp nat_cmp_total q k v m.entries ∙ ap (λ b. cond b (Some v) (get m q)) (unsigned_tied q k ∙ eq-eqb q k same)

  pub inserted_other : (m : PageMap X) (q : ℕ) → (q ≡ k → ⊥) → get (insert m k v) q ≡ get m q
  inserted_other m q apart =
      find-put nat_cmp nat_cmp_total q k v m.entries ∙ ap (λ b. cond b (Some v) (get m q)) (unsigned_tied q k ∙ ne_eqb q k apart)

  -- the keys

  abbrev numbers_of : List (ℕ × X) → List ℕ
  numbers_of es = map (λ e. e.0) es

  out_of : (es : List (ℕ × X)) (q : ℕ) → Contains (numbers_of (put nat_cmp k v es)) q → Contains (k ∷ numbers_of es) q
  out_of [] q h = h
  out_of (e ∷ es) q h =
      elim (nat_cmp k e.0) as (λ o. Contains (numbers_of (by_order o ((k, v) ∷ e ∷ es) ((e.0, v) ∷ es) (e ∷ put nat_cmp k v es))) q
      → Contains (k ∷ numbers_of (e ∷ es)) q) [
        | Less ↦ λ there. there
        | Equal ↦ λ there. behind k q (numbers_of (e ∷ es)) there
        | Greater ↦ λ there. elim (first_or e.0 q (numbers_of (put nat_cmp k v es)) there) [
          | inl same ↦ behind k q (numbers_of (e ∷ es)) (rw (← same) (in_front e.0 (numbers_of es)))
          | inr later ↦ behind_more k (numbers_of es) (numbers_of (e ∷ es)) (λ y. behind e.0 y (numbers_of es)) q (out_of es q later)
        ]
      ] h

  into : (es : List (ℕ × X)) (q : ℕ) → Contains (k ∷ numbers_of es) q → Contains (numbers_of (put nat_cmp k v es)) q
  into [] q h = h
  into (e ∷ es) q h =
      elim (nat_cmp k e.0) as (λ o. nat_cmp k e.0 ≡ o → Contains (numbers_of (by_order o ((k, v) ∷ e ∷ es) ((e.0, v) ∷ es) (e ∷ put nat_cmp k v es))) q) [
        | Less ↦ λ _. h
        | Equal ↦ λ same. elim (first_or k q (numbers_of (e ∷ es)) h) [
          | inl is ↦ subst (λ x. Contains (e.0 ∷ numbers_of es) x) (sym (exact_unsigned k e.0 same) ∙ is) (in_front e.0 (numbers_of es))
          | inr later ↦ later
        ]
        | Greater ↦ λ _. elim (first_or k q (numbers_of (e ∷ es)) h) [
          | inl is ↦ behind e.0 q (numbers_of (put nat_cmp k v es)) (into es q (subst (λ x. Contains (k ∷ numbers_of es) x) is (in_front k (numbers_of es))))
          | inr later ↦ behind_more e.0 (numbers_of es) (numbers_of (put nat_cmp k v es)) (λ y there. into es y (behind k y (numbers_of es) there)) q later
        ]
      ] refl

  pub key_out : (m : PageMap X) (q : ℕ) → Contains (keys (insert m k v)) q → Contains (k ∷ keys m) q
  key_out m q h = out_of m.entries q h

  pub key_in : (m : PageMap X) (q : ℕ) → Contains (k ∷ keys m) q → Contains (keys (insert m k v)) q
  key_in m q h = into m.entries q h

-- what holds of the inserted key and of the old keys holds of all keys afterwards
pub all_keys : {X : Type 0} (P : ℕ → Type 0) (m : PageMap X) (k : ℕ) (v : X) → P k → All P (keys m) → All P (keys (insert m k v))
all_keys P m k v here others n d less =
    let found = key_out k v m _ (All-contains_itself (keys (insert m k v)) n d less) in
    elim (first_or k _ (keys m) found) [
      | inl same ↦ subst P same here
      | inr later ↦ All-contains P (keys m) _ others later
    ]

-- maps with equal lookups are equal

module _ {X : Type 0} where
  same_pages : (m n : PageMap X) → m.entries ≡ n.entries → m ≡ n
  same_pages m n e =
      let pairs : ◌≡◌ {A = (es : List (ℕ × X)) × T (is_sorted nat_cmp es)} (m.entries, m.sorted) (n.entries, n.sorted) = Σ_prop_path (λ es. T_prop _) e in
      λ i. record { entries = (pairs i).0; sorted = (pairs i).1 }

  pub same_finds : (m n : PageMap X) → ((q : ℕ) → get m q ≡ get n q) → m ≡ n
  same_finds m n is = same_pages m n (same_entries nat_cmp nat_cmp_total exact_unsigned m.entries n.entries m.sorted n.sorted is)

  -- inserting the value that a key already has changes nothing
  pub put_back : (m : PageMap X) (k : ℕ) (x : X) → get m k ≡ Some x → insert m k x ≡ m
  put_back m k x is = same_finds (insert m k x) m (λ q. elim (cases_eq q k) [
    | inl same ↦ inserted_here k x m q same ∙ sym is ∙ ap (get m) (sym same)
    | inr apart ↦ inserted_other k x m q apart
  ])

  -- of two insertions at one key the second remains
  pub put_again : (m : PageMap X) (k : ℕ) (x y : X) → insert (insert m k x) k y ≡ insert m k y
  put_again m k x y = same_finds (insert (insert m k x) k y) (insert m k y) (λ q. elim (cases_eq q k) [
    | inl same ↦ inserted_here k y (insert m k x) q same ∙ sym (inserted_here k y m q same)
    | inr apart ↦ inserted_other k y (insert m k x) q apart ∙ inserted_other k x m q apart ∙ sym (inserted_other k y m q apart)
  ])
