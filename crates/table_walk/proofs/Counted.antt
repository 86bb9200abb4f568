-- Lemmas for the law `missing_is_growth`: page tables on the ways to pages, counted by the upper bits of the pages, are
-- missing for one more page by as many as `tables_needed` grows, and are its tables too once made; for a page counted
-- already; and for the first page below a new root.
use Rattle.std.proofs.Common.{◌≡◌, ℕ, Bool, true, false, cond, zero, suc, ◌+◌, ◌-◌, ◌/◌, ◌^◌, ◌<◌, ◌≤◌, ◌⊎◌, inl, inr, refl, ap, sym, subst, ◌∙◌, arith, List, [], ◌∷◌, map, length, Option, Some, None}
use Rattle.std.specs.Prelude.{All, Contains, IsSome, is_some, if◌then◌else◌}
use Rattle.std.specs.Cmp.{nat_cmp_total, Equal-is, eq_by_cmp_equiv}
use Rattle.std.specs.FinMap.{get}
use Rattle.std.specs.FinMap.Entries.{find, find-put, length-put, same_entries}
use Rattle.std.specs.Ordering.{nat_cmp, eq_by_cmp}
use Rattle.std.proofs.lemmas.Map.Lookups.{exact_unsigned}
use Rattle.process_model.specs.Frames.{tables_needed}
use Rattle.process_model.specs.PageMap.{NumberSet, contains, count, numbers}
use Rattle.sv39_entry.specs.Schemes.{of_scheme, page_limit, top_level, trampoline_page, trapframe_page}
use Rattle.sv39_entry.specs.declared.scheme.Scheme.{Scheme}
use Rattle.sv39_entry.specs.declared.scheme.Scheme.TheVariants.{Sv39, Sv48}
use Rattle.table_walk.specs.TableCounts.{AreTablesOf}
use Rattle.table_walk.specs.Tables.{Tables, IsGrown, bare_root, missing, missing_to, node}
use Rattle.table_walk.proofs.Roots.{no_table, one_table}
use Rattle.table_walk.specs.Nodes.{one_depth}

-- ---- members of lists

in_front : (x : ℕ) (xs : List ℕ) → Contains (x ∷ xs) x
in_front x xs = (0, omega arith, refl)

behind : (x y : ℕ) (xs : List ℕ) → Contains xs y → Contains (x ∷ xs) y
behind x y xs h = (suc h.0, omega (arith, h.1), h.2)

first_or : (x y : ℕ) (xs : List ℕ) → Contains (x ∷ xs) y → (x ≡ y) ⊎ Contains xs y
first_or x y xs (zero, lt, is) = inl is
first_or x y xs (suc k, lt, is) = inr (k, omega (arith, lt), is)

none_in : (y : ℕ) → Contains [] y → ⊥
none_in y h = omega (arith, h.1)

of_all : (P : ℕ → Type 0) (x : ℕ) (xs : List ℕ) → All P xs → Contains xs x → P x
of_all P x xs all h = subst P h.2 (all h.0 x h.1)

-- ---- sets of the values of a function

abbrev values : (ℕ → ℕ) → List ℕ → NumberSet
values f xs = numbers (map f xs)

same_key : (q k : ℕ) → q ≡ k → eq_by_cmp nat_cmp q k ≡ true
same_key q k e = rw e ((eq_by_cmp_equiv nat_cmp_total).refl k)

key_same : (q k : ℕ) → eq_by_cmp nat_cmp q k ≡ true → q ≡ k
key_same q k t = exact_unsigned q k ((Equal-is (nat_cmp q k)).0 t)

module _ (f : ℕ → ℕ) where
  contains_next : (x y : ℕ) (xs : List ℕ) → contains (values f (x ∷ xs)) y ≡ is_some (cond (eq_by_cmp nat_cmp y (f x)) (Some tt) (find nat_cmp y (values f xs).entries))
  contains_next x y xs = ap is_some (find-put nat_cmp nat_cmp_total y (f x) tt (values f xs).entries)

  has_value : (x y : ℕ) (xs : List ℕ) → Contains xs x → f x ≡ y → contains (values f xs) y ≡ true
  has_value x y [] h e = absurd (none_in x h)
  has_value x y (z ∷ xs) h e = contains_next z y xs ∙ elim (first_or z x xs h) [
    | inl same ↦ rw (same_key y (f z) (sym e ∙ ap f (sym same)))
    | inr later ↦ elim (eq_by_cmp nat_cmp y (f z)) as (λ b. is_some (cond b (Some tt) (find nat_cmp y (values f xs).entries)) ≡ true) [ true ↦ refl | false ↦ has_value x y xs later e ]
  ]

  value_of : (y : ℕ) (xs : List ℕ) → contains (values f xs) y ≡ true → (x : ℕ) × Contains xs x × (f x ≡ y)
  value_of y [] t = absurd (cc)
  value_of y (z ∷ xs) t =
      elim (eq_by_cmp nat_cmp y (f z)) as (λ b. eq_by_cmp nat_cmp y (f z) ≡ b → is_some (cond b (Some tt) (find nat_cmp y (values f xs).entries)) ≡ true → (x : ℕ) × Contains (z ∷ xs) x × (f x ≡ y)) [
        | true ↦ λ same _. (z, in_front z xs, sym (key_same y (f z) same))
        | false ↦ λ _ found. let x = value_of y xs found in (x.0, behind z x.0 xs x.1, x.2)
      ] refl (sym (contains_next z y xs) ∙ t)

  -- one list more

  same_unit : (a b : Option (Unit {0})) → (is_some a ≡ true → is_some b ≡ true) → (is_some b ≡ true → is_some a ≡ true) → a ≡ b
  same_unit None None on back = refl
  same_unit None (Some y) on back = absurd (let t : false ≡ true = back refl in cc)
  same_unit (Some x) None on back = absurd (let t : false ≡ true = on refl in cc)
  same_unit (Some x) (Some y) on back = refl

  moved : (xs ys : List ℕ) → ((x : ℕ) → Contains xs x → Contains ys x) → (y : ℕ) → contains (values f xs) y ≡ true → contains (values f ys) y ≡ true
  moved xs ys into y t = let x = value_of y xs t in has_value x.0 y ys (into x.0 x.1) x.2

  same_count : (xs ys : List ℕ) → ((x : ℕ) → Contains xs x → Contains ys x) → ((x : ℕ) → Contains ys x → Contains xs x) → count (values f xs) ≡ count (values f ys)
  same_count xs ys there back =
      ap length (same_entries nat_cmp nat_cmp_total exact_unsigned _ _ (values f xs).sorted (values f ys).sorted (λ q. same_unit _ _ (moved xs ys there q) (moved ys xs back q)))

  to_third : (a b c : ℕ) (xs : List ℕ) (x : ℕ) → Contains (c ∷ a ∷ b ∷ xs) x → Contains (a ∷ b ∷ c ∷ xs) x
  to_third a b c xs x h = elim (first_or c x (a ∷ b ∷ xs) h) [
    | inl e ↦ rw (← e) (behind a c (b ∷ c ∷ xs) (behind b c (c ∷ xs) (in_front c xs)))
    | inr i ↦ elim (first_or a x (b ∷ xs) i) [
      | inl e ↦ rw (← e) (in_front a (b ∷ c ∷ xs))
      | inr j ↦ elim (first_or b x xs j) [
        | inl e ↦ rw (← e) (behind a b (b ∷ c ∷ xs) (in_front b (c ∷ xs)))
        | inr k ↦ behind a x (b ∷ c ∷ xs) (behind b x (c ∷ xs) (behind c x xs k))
      ]
    ]
  ]

  from_third : (a b c : ℕ) (xs : List ℕ) (x : ℕ) → Contains (a ∷ b ∷ c ∷ xs) x → Contains (c ∷ a ∷ b ∷ xs) x
  from_third a b c xs x h = to_third c a b xs x (to_third b c a xs x h)

  plus : (b : Bool) (n : ℕ) → cond b n (n + 1) ≡ n + (if b then 0 else 1)
  plus true n = omega arith
  plus false n = refl

  -- one number more, behind two
  grows : (a b c : ℕ) (xs : List ℕ) → count (values f (a ∷ b ∷ c ∷ xs)) ≡ count (values f (a ∷ b ∷ xs)) + (if contains (values f (a ∷ b ∷ xs)) (f c) then 0 else 1)
  grows a b c xs =
      let rest : NumberSet = values f (a ∷ b ∷ xs) in
      same_count (a ∷ b ∷ c ∷ xs) (c ∷ a ∷ b ∷ xs) (from_third a b c xs) (to_third a b c xs)
      ∙ length-put nat_cmp nat_cmp_total (f c) tt rest.entries rest.sorted ∙ plus (contains rest (f c)) (count rest)

-- ---- tables on the ways to pages

same_test : (a b : Bool) → (a ≡ true → b ≡ true) → (b ≡ true → a ≡ true) → a ≡ b
same_test true b on back = sym (on refl)
same_test false true on back = back refl
same_test false false on back = refl

all_small : (s : Scheme) (pages : List ℕ) → All (λ n. n < page_limit s) pages → (x : ℕ) → Contains (trampoline_page s ∷ trapframe_page s ∷ pages) x → x < page_limit s
all_small s pages small x h = elim (first_or (trampoline_page s) x (trapframe_page s ∷ pages) h) [
  | inl e ↦ let facts = of_scheme s in omega (arith, e, facts)
  | inr i ↦ elim (first_or (trapframe_page s) x pages i) [
    | inl e ↦ let facts = of_scheme s in omega (arith, e, facts)
    | inr j ↦ of_all (λ n. n < page_limit s) x pages small j
  ]
]

-- the numbers of the tables of each depth

upper39 : (p : ℕ) → p < 2 ^ 27 → node Sv39 p 1 ≡ 2 ^ 18 + p / 2 ^ 18
upper39 p small = omega (arith, small)

lower39 : (p : ℕ) → p < 2 ^ 27 → node Sv39 p 2 ≡ 2 ^ 27 + p / 2 ^ 9
lower39 p small = omega (arith, small)

upper48 : (p : ℕ) → p < 2 ^ 36 → node Sv48 p 1 ≡ 512 + p / 2 ^ 27
upper48 p small = omega (arith, small)

middle48 : (p : ℕ) → p < 2 ^ 36 → node Sv48 p 2 ≡ 2 ^ 18 + p / 2 ^ 18
middle48 p small = omega (arith, small)

lower48 : (p : ℕ) → p < 2 ^ 36 → node Sv48 p 3 ≡ 2 ^ 27 + p / 2 ^ 9
lower48 p small = omega (arith, small)

module _ (s : Scheme) (t : Tables) (pages : List ℕ) (page : ℕ) (are : AreTablesOf s t pages) (small : All (λ n. n < page_limit s) pages) (low : page < page_limit s) where
  -- the tables of a depth are numbered by the upper bits of their pages
  there : (depth from : ℕ) (f : ℕ → ℕ) → depth ≤ top_level s → ((p : ℕ) → p < page_limit s → node s p depth ≡ from + f p)
      → is_some (get t.tables (node s page depth)) ≡ contains (values f (trampoline_page s ∷ trapframe_page s ∷ pages)) (f page)
  there depth from f shallow numbers_are =
      same_test _ _
      (λ some.
      let way = (are (node s page depth)).0 some in
      let depths : depth ≡ way.1 = one_depth s page way.0 depth way.1 way.4 in
      let there = numbers_are way.0 (all_small s pages small way.0 way.2) in
      let same : node s page depth ≡ node s way.0 depth = way.4 ∙ ap (node s way.0) (sym depths) in
      let here = numbers_are page low in
      has_value f way.0 (f page) (trampoline_page s ∷ trapframe_page s ∷ pages) way.2 (omega (arith, here, there, same)))
      (λ some.
      let other = value_of f (f page) (trampoline_page s ∷ trapframe_page s ∷ pages) some in
      let there = numbers_are other.0 (all_small s pages small other.0 other.1) in
      let here = numbers_are page low in
      let same : node s page depth ≡ node s other.0 depth = omega (arith, here, there, other.2) in
      (are (node s page depth)).1 (other.0, depth, other.1, shallow, same))

pub missing_growth : (s : Scheme) (t : Tables) (pages : List ℕ) (page : ℕ) → AreTablesOf s t pages → All (λ n. n < page_limit s) pages → page < page_limit s
    → missing s t page ≡ tables_needed s (page ∷ pages) - tables_needed s pages
unfolding tables_needed
missing_growth Sv39 t pages page are small low =
    let tall : ℕ = trampoline_page Sv39 in
    let next : ℕ = trapframe_page Sv39 in
    let large = grows (λ n. n / 2 ^ 18) tall next page pages in
    let little = grows (λ n. n / 2 ^ 9) tall next page pages in
    let one = there Sv39 t pages page are small low 1 (2 ^ 18) (λ n. n / 2 ^ 18) (omega arith) upper39 in
    let two = there Sv39 t pages page are small low 2 (2 ^ 27) (λ n. n / 2 ^ 9) (omega arith) lower39 in
    rw (large, little, one, two) (omega arith)
missing_growth Sv48 t pages page are small low =
    let tall : ℕ = trampoline_page Sv48 in
    let next : ℕ = trapframe_page Sv48 in
    let huge = grows (λ n. n / 2 ^ 27) tall next page pages in
    let large = grows (λ n. n / 2 ^ 18) tall next page pages in
    let little = grows (λ n. n / 2 ^ 9) tall next page pages in
    let one = there Sv48 t pages page are small low 1 512 (λ n. n / 2 ^ 27) (omega arith) upper48 in
    let two = there Sv48 t pages page are small low 2 (2 ^ 18) (λ n. n / 2 ^ 18) (omega arith) middle48 in
    let three = there Sv48 t pages page are small low 3 (2 ^ 27) (λ n. n / 2 ^ 9) (omega arith) lower48 in
    rw (huge, large, little, one, two, three) (omega arith)

value : {A : Type 0} (o : Option A) → IsSome o → (x : A) × (o ≡ Some x)
value None some = absurd (cc)
value (Some x) some = (x, refl)

-- the tables that are grown are those of the page too
module _ (s : Scheme) (t u : Tables) (pages : List ℕ) (page : ℕ) (are : AreTablesOf s t pages) (grown : IsGrown s t u page (top_level s)) where
  put_third : (x : ℕ) → Contains (trampoline_page s ∷ trapframe_page s ∷ pages) x → Contains (trampoline_page s ∷ trapframe_page s ∷ page ∷ pages) x
  put_third x h = to_third (λ (n : ℕ). n) (trampoline_page s) (trapframe_page s) page pages x (behind page x (trampoline_page s ∷ trapframe_page s ∷ pages) h)

  itself : Contains (trampoline_page s ∷ trapframe_page s ∷ page ∷ pages) page
  itself = behind (trampoline_page s) page (trapframe_page s ∷ page ∷ pages) (behind (trapframe_page s) page (page ∷ pages) (in_front page pages))

  pub grown_tables : AreTablesOf s u (page ∷ pages)
  grown_tables k = (
    (λ some.
        let f = value (get u.tables k) some in
        elim (grown.new k f.0 f.1) [
          | inl old ↦ let way = (are k).0 (ap is_some old) in (way.0, way.1, put_third way.0 way.2, way.3, way.4)
          | inr new ↦ (page, new.1.0, itself, new.1.1, new.1.2)
        ]),
    (λ way. elim (first_or page way.0 (trampoline_page s ∷ trapframe_page s ∷ pages) (from_third (λ (n : ℕ). n) (trampoline_page s) (trapframe_page s) page pages way.0 way.2)) [
      | inl same ↦ let f = grown.whole way.1 way.3 in ap is_some (ap (get u.tables) (way.4 ∙ ap (λ (p : ℕ). node s p way.1) (sym same)) ∙ f.1)
      | inr other ↦
          let f = value (get t.tables k) ((are k).1 (way.0, way.1, other, way.3, way.4)) in
          ap is_some (grown.kept k f.0 f.1)
    ]),
  )

-- a page that is counted already
module _ (s : Scheme) (t : Tables) (pages : List ℕ) (page : ℕ) (are : AreTablesOf s t pages) (has : Contains (trampoline_page s ∷ trapframe_page s ∷ pages) page) where
  none_to : (k : ℕ) → k ≤ top_level s → missing_to s t page k ≡ 0
  none_to zero low = refl
  none_to (suc k) low =
      let there = (are (node s page (suc k))).1 (page, suc k, has, low, refl) in
      let before = none_to k (omega (arith, low)) in
      rw there (omega (arith, before))

  pub none_missing : missing s t page ≡ 0
  none_missing = none_to (top_level s) (omega arith)

pub same_tables : (s : Scheme) (t u : Tables) (pages : List ℕ) (page : ℕ) → AreTablesOf s t pages → Contains (trampoline_page s ∷ trapframe_page s ∷ pages) page
    → IsGrown s t u page (top_level s) → AreTablesOf s u pages
same_tables s t u pages page are has grown k = (
  (λ some.
      let f = value (get u.tables k) some in
      elim (grown.new k f.0 f.1) [
        | inl old ↦ (are k).0 (ap is_some old)
        | inr new ↦ (page, new.1.0, has, new.1.1, new.1.2)
      ]),
  (λ way. let f = value (get t.tables k) ((are k).1 way) in ap is_some (grown.kept k f.0 f.1)),
)

-- ---- the first tables, which TRAMPOLINE's and TRAPFRAME's page share

shared_way : (s : Scheme) (depth : ℕ) → depth ≤ top_level s → node s (trapframe_page s) depth ≡ node s (trampoline_page s) depth
shared_way Sv39 zero low = refl
shared_way Sv39 (suc zero) low = refl
shared_way Sv39 (suc (suc zero)) low = refl
shared_way Sv39 (suc (suc (suc depth))) low = absurd (omega (arith, low))
shared_way Sv48 zero low = refl
shared_way Sv48 (suc zero) low = refl
shared_way Sv48 (suc (suc zero)) low = refl
shared_way Sv48 (suc (suc (suc zero))) low = refl
shared_way Sv48 (suc (suc (suc (suc depth)))) low = absurd (omega (arith, low))

pub first_missing : (s : Scheme) (t : Tables) (root : ℕ) → t ≡ bare_root s root → missing s t (trampoline_page s) ≡ tables_needed s [] - 1
unfolding tables_needed
first_missing Sv39 t root is =
    let one = no_table Sv39 root (node Sv39 (trampoline_page Sv39) 1) (λ e. omega (arith, e)) in
    let two = no_table Sv39 root (node Sv39 (trampoline_page Sv39) 2) (λ e. omega (arith, e)) in
    rw (is, one, two) refl
first_missing Sv48 t root is =
    let one = no_table Sv48 root (node Sv48 (trampoline_page Sv48) 1) (λ e. omega (arith, e)) in
    let two = no_table Sv48 root (node Sv48 (trampoline_page Sv48) 2) (λ e. omega (arith, e)) in
    let three = no_table Sv48 root (node Sv48 (trampoline_page Sv48) 3) (λ e. omega (arith, e)) in
    rw (is, one, two, three) refl

pub first_tables : (s : Scheme) (t u : Tables) (root : ℕ) → t ≡ bare_root s root → IsGrown s t u (trampoline_page s) (top_level s) → AreTablesOf s u []
first_tables s t u root is grown k = (
  (λ some.
      let f = value (get u.tables k) some in
      elim (grown.new k f.0 f.1) [
        | inl old ↦ (trampoline_page s, 0, in_front (trampoline_page s) (trapframe_page s ∷ []), omega arith, (one_table s root k f.0 (rw is at old)).0)
        | inr new ↦ (trampoline_page s, new.1.0, in_front (trampoline_page s) (trapframe_page s ∷ []), new.1.1, new.1.2)
      ]),
  (λ way.
      let there = grown.whole way.1 way.3 in
      elim (first_or (trampoline_page s) way.0 (trapframe_page s ∷ []) way.2) [
        | inl e ↦ ap is_some (ap (get u.tables) (way.4 ∙ ap (λ (p : ℕ). node s p way.1) (sym e)) ∙ there.1)
        | inr i ↦ elim (first_or (trapframe_page s) way.0 [] i) [
          | inl e ↦ ap is_some (ap (get u.tables) (way.4 ∙ ap (λ (p : ℕ). node s p way.1) (sym e) ∙ shared_way s way.1 way.3) ∙ there.1)
          | inr j ↦ absurd (none_in way.0 j)
        ]
      ]),
)
