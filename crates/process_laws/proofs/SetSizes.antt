-- Lemmas about lists of numbers as sets: members and sublists (`Among`, `Within`), keys of maps, and how many different
-- numbers a list has (`count`): as many in lists with the same members, and with one number more as many or one more.
use Rattle.std.proofs.Common.{◌≡◌, ℕ, true, false, cond, ◌+◌, ◌≤◌, ◌⊎◌, inl, inr, refl, sym, ap, ◌∙◌, arith, List, [], ◌∷◌, ◌++◌, Option, Some, None, map, length}
use Rattle.std.specs.Prelude.{is_some}
use Rattle.std.specs.Ordering.{nat_cmp, eq_by_cmp}
use Rattle.std.specs.Cmp.{nat_cmp_total, Equal-is, eq_by_cmp_equiv}
use Rattle.std.proofs.lemmas.List.{length-map}
use Rattle.std.proofs.lemmas.Map.Lookups.{exact_unsigned}
use Rattle.std.specs.FinMap.Entries.{find, find-put, length-put, same_entries}
use Rattle.process_model.specs.PageMap.{PageMap, NumberSet, insert, numbers, keys, count}

abbrev pub Among : ℕ → List ℕ → Type 0
Among x [] = ⊥
Among x (y ∷ ys) = (x ≡ y) ⊎ Among x ys

-- each number of the one list is in the other
abbrev pub Within : List ℕ → List ℕ → Type 0
Within xs ys = (q : ℕ) → Among q xs → Among q ys

pub among_front : (q : ℕ) (xs ys : List ℕ) → Among q xs → Among q (xs ++ ys)
among_front q [] ys i = absurd i
among_front q (x ∷ xs) ys (inl e) = inl e
among_front q (x ∷ xs) ys (inr i) = inr (among_front q xs ys i)

pub among_back : (q : ℕ) (xs ys : List ℕ) → Among q ys → Among q (xs ++ ys)
among_back q [] ys i = i
among_back q (x ∷ xs) ys i = inr (among_back q xs ys i)

pub among_parts : (q : ℕ) (xs ys : List ℕ) → Among q (xs ++ ys) → Among q xs ⊎ Among q ys
among_parts q [] ys i = inr i
among_parts q (x ∷ xs) ys (inl e) = inl (inl e)
among_parts q (x ∷ xs) ys (inr i) = elim (among_parts q xs ys i) [ inl j ↦ inl (inr j) | inr j ↦ inr j ]

-- a number in the middle, and the others
pub among_middle : (q n : ℕ) (xs ys : List ℕ) → Among q (xs ++ n ∷ ys) → (q ≡ n) ⊎ Among q (xs ++ ys)
among_middle q n [] ys i = i
among_middle q n (x ∷ xs) ys (inl e) = inr (inl e)
among_middle q n (x ∷ xs) ys (inr i) = elim (among_middle q n xs ys i) [ inl e ↦ inl e | inr j ↦ inr (inr j) ]

pub middle_has : (q n : ℕ) (xs ys : List ℕ) → (q ≡ n) ⊎ Among q (xs ++ ys) → Among q (xs ++ n ∷ ys)
middle_has q n [] ys i = i
middle_has q n (x ∷ xs) ys (inl e) = inr (middle_has q n xs ys (inl e))
middle_has q n (x ∷ xs) ys (inr (inl e)) = inl e
middle_has q n (x ∷ xs) ys (inr (inr i)) = inr (middle_has q n xs ys (inr i))

-- a list with one number more, before others
pub longer_only : (n : ℕ) (xs ys rs : List ℕ) → Within xs (n ∷ ys) → Within (xs ++ rs) (n ∷ (ys ++ rs))
longer_only n xs ys rs w q i = elim (among_parts q xs rs i) [
  | inl j ↦ elim (w q j) [ inl e ↦ inl e | inr k ↦ inr (among_front q ys rs k) ]
  | inr j ↦ inr (among_back q ys rs j)
]

pub longer_has : (n : ℕ) (xs ys rs : List ℕ) → Within (n ∷ ys) xs → Within (n ∷ (ys ++ rs)) (xs ++ rs)
longer_has n xs ys rs w q (inl e) = among_front q xs rs (w q (inl e))
longer_has n xs ys rs w q (inr i) = elim (among_parts q ys rs i) [ inl j ↦ among_front q xs rs (w q (inr j)) | inr j ↦ among_back q xs rs j ]

pub among_map : (f : ℕ → ℕ) (q : ℕ) (xs : List ℕ) → Among q xs → Among (f q) (map f xs)
among_map f q [] i = absurd i
among_map f q (x ∷ xs) (inl e) = inl (ap f e)
among_map f q (x ∷ xs) (inr i) = inr (among_map f q xs i)

-- sets of images
pub within_map : (f : ℕ → ℕ) (xs ys : List ℕ) → Within xs ys → Within (map f xs) (map f ys)
within_map f [] ys w q i = absurd i
within_map f (x ∷ xs) ys w q (inl e) = rw e (among_map f x ys (w x (inl refl)))
within_map f (x ∷ xs) ys w q (inr i) = within_map f xs ys (λ r j. w r (inr j)) q i

-- look-ups

pub equal_of : (a b : ℕ) → eq_by_cmp nat_cmp a b ≡ true → a ≡ b
equal_of a b t = exact_unsigned a b ((Equal-is (nat_cmp a b)).0 t)

pub equal_to : (a b : ℕ) → a ≡ b → eq_by_cmp nat_cmp a b ≡ true
equal_to a b e = rw e ((eq_by_cmp_equiv nat_cmp_total).refl b)

pub key_found : {X : Type 0} (q : ℕ) (es : List (ℕ × X)) → Among q (map (λ e. e.0) es) → is_some (find nat_cmp q es) ≡ true
key_found q [] i = absurd i
key_found q (e ∷ es) (inl same) = rw (equal_to q e.0 same)
key_found q (e ∷ es) (inr i) = elim (eq_by_cmp nat_cmp q e.0) as (λ b. is_some (cond b (Some e.1) (find nat_cmp q es)) ≡ true) [ true ↦ refl | false ↦ key_found q es i ]

pub found_key : {X : Type 0} (q : ℕ) (es : List (ℕ × X)) → is_some (find nat_cmp q es) ≡ true → Among q (map (λ e. e.0) es)
found_key q [] t = absurd (cc)
found_key q (e ∷ es) t =
    elim (eq_by_cmp nat_cmp q e.0) as (λ b. eq_by_cmp nat_cmp q e.0 ≡ b → is_some (cond b (Some e.1) (find nat_cmp q es)) ≡ true → (q ≡ e.0) ⊎ Among q (map (λ e. e.0) es)) [
      | true ↦ λ same _. inl (equal_of q e.0 same)
      | false ↦ λ _ found. inr (found_key q es found)
    ] refl t

module _ {X : Type 0} (m : PageMap X) (k : ℕ) (v : X) where
  pub insert_has : (q : ℕ) → (q ≡ k) ⊎ Among q (keys m) → Among q (keys (insert m k v))
  insert_has q i = found_key q (insert m k v).entries (ap is_some (find-put nat_cmp nat_cmp_total q k v m.entries) ∙ elim i [
    | inl e ↦ rw (equal_to q k e)
    | inr j ↦ elim (eq_by_cmp nat_cmp q k) as (λ b. is_some (cond b (Some v) (find nat_cmp q m.entries)) ≡ true) [ true ↦ refl | false ↦ key_found q m.entries j ]
  ])

  pub insert_has_only : (q : ℕ) → Among q (keys (insert m k v)) → (q ≡ k) ⊎ Among q (keys m)
  insert_has_only q i =
      elim (eq_by_cmp nat_cmp q k) as (λ b. eq_by_cmp nat_cmp q k ≡ b → is_some (cond b (Some v) (find nat_cmp q m.entries)) ≡ true → (q ≡ k) ⊎ Among q (keys m)) [
        | true ↦ λ same _. inl (equal_of q k same)
        | false ↦ λ _ found. inr (found_key q m.entries found)
      ] refl (ap is_some (sym (find-put nat_cmp nat_cmp_total q k v m.entries)) ∙ key_found q (insert m k v).entries i)

-- the keys of a set are the numbers that went into it
pub numbers_have : (xs : List ℕ) → Within xs (keys (numbers xs))
numbers_have [] q i = absurd i
numbers_have (x ∷ xs) q (inl e) = insert_has (numbers xs) x tt q (inl e)
numbers_have (x ∷ xs) q (inr i) = insert_has (numbers xs) x tt q (inr (numbers_have xs q i))

pub numbers_have_only : (xs : List ℕ) → Within (keys (numbers xs)) xs
numbers_have_only [] q i = absurd i
numbers_have_only (x ∷ xs) q i = elim (insert_has_only (numbers xs) x tt q i) [ inl e ↦ inl e | inr j ↦ inr (numbers_have_only xs q j) ]

-- how many

-- of two look-ups in sets both find, or none does
same_unit : (a b : Option (Unit {0})) → (is_some a ≡ true → is_some b ≡ true) → (is_some b ≡ true → is_some a ≡ true) → a ≡ b
same_unit None None f g = refl
same_unit None (Some y) f g = absurd (let t : false ≡ true = g refl in cc)
same_unit (Some x) None f g = absurd (let t : false ≡ true = f refl in cc)
same_unit (Some x) (Some y) f g = refl

same_found : (xs ys : List ℕ) (q : ℕ) → Within xs ys → is_some (find nat_cmp q (numbers xs).entries) ≡ true → is_some (find nat_cmp q (numbers ys).entries) ≡ true
same_found xs ys q w t = key_found q (numbers ys).entries (numbers_have ys q (w q (numbers_have_only xs q (found_key q (numbers xs).entries t))))

-- lists with the same numbers have as many different ones
pub count_same : (xs ys : List ℕ) → Within xs ys → Within ys xs → count (numbers xs) ≡ count (numbers ys)
count_same xs ys f g = ap length (same_entries nat_cmp nat_cmp_total exact_unsigned _ _ (numbers xs).sorted (numbers ys).sorted (λ q. same_unit _ _ (same_found xs ys q f) (same_found ys xs q g)))

count_cons : (x : ℕ) (xs : List ℕ) → count (numbers (x ∷ xs)) ≡ cond (is_some (find nat_cmp x (numbers xs).entries)) (count (numbers xs)) (count (numbers xs) + 1)
count_cons x xs = length-put nat_cmp nat_cmp_total x tt (numbers xs).entries (numbers xs).sorted

-- a number that the list does not have is one more
pub count_new : (x : ℕ) (xs : List ℕ) → (Among x xs → ⊥) → count (numbers (x ∷ xs)) ≡ count (numbers xs) + 1
count_new x xs new = count_cons x xs ∙ elim (is_some (find nat_cmp x (numbers xs).entries)) as (λ b. is_some (find nat_cmp x (numbers xs).entries) ≡ b → cond b (count (numbers xs)) (count (numbers xs) + 1) ≡ count (numbers xs) + 1) [
  | true ↦ λ t. absurd (new (numbers_have_only xs x (found_key x (numbers xs).entries t)))
  | false ↦ λ _. refl
] refl

pub count_grows : (x : ℕ) (xs : List ℕ) → count (numbers xs) ≤ count (numbers (x ∷ xs))
count_grows x xs = rw (count_cons x xs) (elim (is_some (find nat_cmp x (numbers xs).entries)) as (λ b. count (numbers xs) ≤ cond b (count (numbers xs)) (count (numbers xs) + 1)) [ true ↦ omega arith | false ↦ omega arith ])

-- by one at most
pub count_next : (x : ℕ) (xs : List ℕ) → count (numbers (x ∷ xs)) ≤ 1 + count (numbers xs)
count_next x xs = rw (count_cons x xs) (elim (is_some (find nat_cmp x (numbers xs).entries)) as (λ b. cond b (count (numbers xs)) (count (numbers xs) + 1) ≤ 1 + count (numbers xs)) [ true ↦ omega arith | false ↦ omega arith ])

pub length_keys : (s : NumberSet) → length (keys s) ≡ count s
length_keys s = length-map s.entries (λ e. e.0)
