-- Lemmas: a process's leaves are the same if and only if each page has the same sign: its copy number (which names one copy
-- of a page in memory) and its marks, or none.
use Rattle.std.proofs.Common.{◌≡◌, ℕ, Bool, true, false, not, cond, inl, inr, refl, ap, sym, subst, ◌∙◌, List, [], ◌∷◌, Option, None, Some, T}
use Rattle.std.specs.Prelude.{◌&&◌, ◌==◌}
use Rattle.std.specs.Cmp.{nat_cmp_total}
use Rattle.std.specs.FinMap.Entries.{below_all, find, is_sorted, same_entries}
use Rattle.std.specs.Ordering.{eq_by_cmp, is_lt, nat_cmp}
use Rattle.std.proofs.lemmas.Bool.{and_from, and_parts, cases_eq, eq-eqb, eqb-true, false_from_ne_true}
use Rattle.std.proofs.lemmas.Map.Lookups.{exact_unsigned}
use Rattle.process_model.specs.Insertion.{inserted_here, inserted_other}
use Rattle.process_model.specs.PageMap.{PageMap, get, insert}
use Rattle.process_model.specs.Process.{Page, Process}
use Rattle.process_model.specs.Stale.{is_changed, same_leaf, same_leaves, same_mark}

-- what the leaf of a settled page follows from: its copy number, its copy-on-write mark, its dirty mark

abbrev pub sign : Page → ℕ × Bool × Bool
sign s = (s.copy, s.cow, s.dirty)

abbrev pub sign_of : Option Page → Option (ℕ × Bool × Bool)
sign_of None = None
sign_of (Some s) = Some (sign s)

-- ---- a list of entries with signs in the place of pages

abbrev signs : List (ℕ × Page) → List (ℕ × (ℕ × Bool × Bool))
signs [] = []
signs (e ∷ es) = (e.0, sign e.1) ∷ signs es

find_signs : (n : ℕ) (es : List (ℕ × Page)) → find nat_cmp n (signs es) ≡ sign_of (find nat_cmp n es)
find_signs n [] = refl
find_signs n (e ∷ es) = elim (eq_by_cmp nat_cmp n e.0) as (λ b. cond b (Some (sign e.1)) (find nat_cmp n (signs es)) ≡ sign_of (cond b (Some e.1) (find nat_cmp n es))) [
  | true ↦ refl
  | false ↦ find_signs n es
]

below_signs : (k : ℕ) (es : List (ℕ × Page)) → below_all nat_cmp k (signs es) ≡ below_all nat_cmp k es
below_signs k [] = refl
below_signs k (e ∷ es) = ap (λ b. is_lt (nat_cmp k e.0) && b) (below_signs k es)

order_of_signs : (es : List (ℕ × Page)) → is_sorted nat_cmp (signs es) ≡ is_sorted nat_cmp es
order_of_signs [] = refl
order_of_signs (e ∷ es) = ap (λ b. b && is_sorted nat_cmp (signs es)) (below_signs e.0 es) ∙ ap (λ b. below_all nat_cmp e.0 es && b) (order_of_signs es)

sorted_signs : (es : List (ℕ × Page)) → T (is_sorted nat_cmp es) → T (is_sorted nat_cmp (signs es))
sorted_signs es h = subst T (sym (order_of_signs es)) h

-- ---- same leaves are same signs

pub same_mark_here : (b : Bool) → same_mark b b ≡ true
same_mark_here true = refl
same_mark_here false = refl

one_mark : (b c : Bool) → same_mark b c ≡ true → b ≡ c
one_mark true c e = sym e
one_mark false true e = absurd cc
one_mark false false e = refl

mark_of : (b c : Bool) → b ≡ c → same_mark b c ≡ true
mark_of b c e = ap (same_mark b) (sym e) ∙ same_mark_here b

leaf_of : (e f : ℕ × Page) → e.0 ≡ f.0 → sign e.1 ≡ sign f.1 → same_leaf e f ≡ true
leaf_of e f key is =
    and_from _ _ (and_from _ _ (and_from _ _ (eq-eqb e.0 f.0 key) (eq-eqb (e.1).copy (f.1).copy (ap (λ t. t.0) is))) (mark_of (e.1).cow (f.1).cow (ap (λ t. t.1) is))) (mark_of (e.1).dirty (f.1).dirty (ap (λ t. t.2) is))

one_leaf : (e f : ℕ × Page) → same_leaf e f ≡ true → ◌≡◌ {A = ℕ × (ℕ × Bool × Bool)} (e.0, sign e.1) (f.0, sign f.1)
one_leaf e f is =
    let third = and_parts (e.0 == f.0 && (e.1).copy == (f.1).copy && same_mark (e.1).cow (f.1).cow) (same_mark (e.1).dirty (f.1).dirty) is in
    let second = and_parts (e.0 == f.0 && (e.1).copy == (f.1).copy) (same_mark (e.1).cow (f.1).cow) third.0 in
    let first = and_parts (e.0 == f.0) ((e.1).copy == (f.1).copy) second.0 in
    let key = eqb-true e.0 f.0 first.0 in
    let copy = eqb-true (e.1).copy (f.1).copy first.1 in
    let fork = one_mark (e.1).cow (f.1).cow second.1 in
    let stored = one_mark (e.1).dirty (f.1).dirty third.1 in
    λ i. (key i, (copy i, fork i, stored i))

leaves_of : (es fs : List (ℕ × Page)) → signs es ≡ signs fs → same_leaves es fs ≡ true
leaves_of [] [] is = refl
leaves_of [] (f ∷ fs) is = absurd cc
leaves_of (e ∷ es) [] is = absurd cc
leaves_of (e ∷ es) (f ∷ fs) is =
    let first : ◌≡◌ {A = ℕ × (ℕ × Bool × Bool)} (e.0, sign e.1) (f.0, sign f.1) = cc in
    let rest : signs es ≡ signs fs = cc in
    and_from _ _ (leaf_of e f (ap (λ t. t.0) first) (ap (λ t. t.1) first)) (leaves_of es fs rest)

one_row : (es fs : List (ℕ × Page)) → same_leaves es fs ≡ true → signs es ≡ signs fs
one_row [] [] is = refl
one_row [] (f ∷ fs) is = absurd cc
one_row (e ∷ es) [] is = absurd cc
one_row (e ∷ es) (f ∷ fs) is =
    let parts = and_parts (same_leaf e f) (same_leaves es fs) is in
    let first = one_leaf e f parts.0 in
    let rest = one_row es fs parts.1 in
    λ i. first i ∷ rest i

-- ---- page by page

module _ (a b : PageMap Page) where
  -- maps whose pages have the same signs have the same leaves
  pub same_by_pages : ((n : ℕ) → sign_of (get a n) ≡ sign_of (get b n)) → same_leaves a.entries b.entries ≡ true
  same_by_pages is =
      leaves_of a.entries b.entries (same_entries nat_cmp nat_cmp_total exact_unsigned (signs a.entries) (signs b.entries)
      (sorted_signs a.entries a.sorted) (sorted_signs b.entries b.sorted) (λ n. find_signs n a.entries ∙ is n ∙ sym (find_signs n b.entries)))

  -- and the other way round
  pub pages_are_same : same_leaves a.entries b.entries ≡ true → (n : ℕ) → sign_of (get a n) ≡ sign_of (get b n)
  pages_are_same is n = sym (find_signs n a.entries) ∙ ap (find nat_cmp n) (one_row a.entries b.entries is) ∙ find_signs n b.entries

  -- one page is enough to tell them apart
  pub differ_at : (n : ℕ) → (sign_of (get a n) ≡ sign_of (get b n) → ⊥) → same_leaves a.entries b.entries ≡ false
  differ_at n apart = false_from_ne_true (same_leaves a.entries b.entries) (λ is. apart (pages_are_same is n))

-- each list has its own leaves
pub same_leaves_here : (es : List (ℕ × Page)) → same_leaves es es ≡ true
same_leaves_here es = leaves_of es es refl

-- a page is put in the place of one with the same sign: every page keeps its sign
pub signs_after_put : (m : PageMap Page) (k : ℕ) (s t : Page) → get m k ≡ Some s → sign t ≡ sign s → (n : ℕ) → sign_of (get m n) ≡ sign_of (get (insert m k t) n)
signs_after_put m k s t there is n = elim (cases_eq n k) [
  | inl same ↦ ap sign_of (ap (get m) same ∙ there) ∙ ap Some (sym is) ∙ sym (ap sign_of (inserted_here k t m n same))
  | inr apart ↦ ap sign_of (sym (inserted_other k t m n apart))
]

-- ---- of processes

-- whether the leaves of a process change
abbrev pub changed : Process → Process → Bool
changed p q = is_changed (Some p) (Some q)

module _ (p q : Process) where
  -- where its settled pages stay, they do not
  pub same_settled : q.settled ≡ p.settled → changed p q ≡ false
  same_settled is = ap (λ (m : PageMap Page). not (same_leaves p.settled.entries m.entries)) is ∙ ap not (same_leaves_here p.settled.entries)

  -- nor where every page keeps its sign
  pub signs_stay : ((n : ℕ) → sign_of (get p.settled n) ≡ sign_of (get q.settled n)) → changed p q ≡ false
  signs_stay is = ap not (same_by_pages p.settled q.settled is)

  -- one page with another sign changes them
  pub sign_changes : (n : ℕ) → (sign_of (get p.settled n) ≡ sign_of (get q.settled n) → ⊥) → changed p q ≡ true
  sign_changes n apart = ap not (differ_at p.settled q.settled n apart)
