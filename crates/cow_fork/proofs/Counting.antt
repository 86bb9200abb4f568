-- Lemmas for `fork_need`: counting the page tables of one size along the list of settled pages (those in memory) gives as
-- many as the model's set of pages needs, with those of TRAMPOLINE and TRAPFRAME.
use Rattle.std.proofs.Common.{◌≡◌, ℕ, true, false, ◌+◌, ◌-◌, ◌*◌, ◌/◌, ◌<◌, ◌≤◌, inl, inr, refl, ap, sym, subst, ◌∙◌, arith, List, [], ◌∷◌, map, max, Option, Some, None}
use Rattle.std.proofs.lemmas.Bool.{cases_eq, cases_lt, eq-eqb, ne_eqb}
use Rattle.std.proofs.lemmas.Nat.{le-div}
use Rattle.std.proofs.Math.Nat.{div-lt_iff_lt-mul}
use Rattle.std.specs.Cmp.{unsigned_tied}
use Rattle.std.specs.FinMap.Entries.{find}
use Rattle.std.specs.Ordering.{nat_cmp}
use Rattle.std.specs.Prelude.{Contains, is_some}
use Rattle.process_model.specs.Insertion.{behind, first_or, in_front, same_finds}
use Rattle.process_model.specs.PageMap.{contains, count, get, keys, numbers, PageMap}
use Rattle.process_model.specs.Process.{Page, Process}
use Rattle.process_model.proofs.ValueSets.{AreCounted, div_up, has_value, none_counted, none_in, one_more, two_more, value_of, values}
use Rattle.sv39_entry.specs.Schemes.{trampoline_page, trapframe_page}
use Rattle.table_walk.specs.Tables.{Tables}
use Rattle.address_space.specs.SettledLists.{IsNextSettled}
use Rattle.address_space.specs.declared.settled_pages.SettledPage.{SettledPage}

-- ---- the keys of a map are what is found in it

module _ {X : Type 0} where
  pub found_in : (es : List (ℕ × X)) (k : ℕ) → Contains (map (λ e. e.0) es) k → (x : X) × (find nat_cmp k es ≡ Some x)
  found_in [] k h = absurd (none_in k h)
  found_in (e ∷ es) k h = elim (cases_eq k e.0) [
    | inl same ↦ (e.1, rw (unsigned_tied k e.0, eq-eqb k e.0 same) refl)
    | inr apart ↦ elim (first_or e.0 k (map (λ d. d.0) es) h) [
      | inl same ↦ absurd (apart (sym same))
      | inr later ↦ let x = found_in es k later in (x.0, rw (unsigned_tied k e.0, ne_eqb k e.0 apart) x.1)
    ]
  ]

  pub in_keys : (es : List (ℕ × X)) (k : ℕ) (x : X) → find nat_cmp k es ≡ Some x → Contains (map (λ e. e.0) es) k
  in_keys [] k x is = absurd (cc)
  in_keys (e ∷ es) k x is = elim (cases_eq k e.0) [
    | inl same ↦ rw same (in_front e.0 (map (λ d. d.0) es))
    | inr apart ↦ behind e.0 k (map (λ d. d.0) es) (in_keys es k x (rw (unsigned_tied k e.0, ne_eqb k e.0 apart) at is))
  ]

-- ---- lists with the same values

same_unit : (a b : Option (Unit {0})) → (is_some a ≡ true → is_some b ≡ true) → (is_some b ≡ true → is_some a ≡ true) → a ≡ b
same_unit None None on back = refl
same_unit None (Some y) on back = absurd (let t : false ≡ true = back refl in cc)
same_unit (Some x) None on back = absurd (let t : false ≡ true = on refl in cc)
same_unit (Some x) (Some y) on back = refl

module _ (f : ℕ → ℕ) where
  abbrev AmongValues : List ℕ → List ℕ → Type 0
  AmongValues xs ys = (x : ℕ) → Contains xs x → contains (values f ys) (f x) ≡ true

  moved : (xs ys : List ℕ) → AmongValues xs ys → (y : ℕ) → contains (values f xs) y ≡ true → contains (values f ys) y ≡ true
  moved xs ys into y t = let x = value_of f y xs t in subst (λ v. contains (values f ys) v ≡ true) x.2 (into x.0 x.1)

  same_values : (xs ys : List ℕ) → AmongValues xs ys → AmongValues ys xs → count (values f xs) ≡ count (values f ys)
  same_values xs ys there back = ap count (same_finds (values f xs) (values f ys) (λ q. same_unit _ _ (moved xs ys there q) (moved ys xs back q)))

  among_more : (y : ℕ) (xs ys : List ℕ) → AmongValues xs ys → AmongValues (y ∷ xs) (y ∷ ys)
  among_more y xs ys into x h = elim (first_or y x xs h) [
    | inl same ↦ has_value f y (f x) (y ∷ ys) (in_front y ys) (ap f same)
    | inr later ↦ let z = value_of f (f x) ys (into x later) in has_value f z.0 (f x) (y ∷ ys) (behind y z.0 ys z.1) z.2
  ]

-- ---- tables of so many pages

-- so many tables are counted, by a page of each: those below one of which a settled page has need
pub record CountsBelow (size : ℕ) (settled : PageMap Page) (n table : ℕ) : Type 0 where
  pub found : List ℕ
  pub tables : AreCounted (λ m. m / size) found n table
  pub there : (x : ℕ) → Contains found x → Contains (keys settled) x
  pub all : (x : ℕ) (s : Page) → get settled x ≡ Some s → x / size < table → contains (values (λ m. m / size) found) (x / size) ≡ true

-- no table is counted yet
pub counts_none : (size : ℕ) (settled : PageMap Page) → CountsBelow size settled 0 0
counts_none size settled = record {
  found = [];
  tables = none_counted (λ m. m / size);
  there = λ x h. absurd (none_in x h);
  all = λ x s is less. absurd (omega (arith, less));
}

-- a page is in the table that has its number
pub in_table : (size x : ℕ) → 0 < size → x + 1 ≤ (x / size + 1) * size
in_table size x some = let under = (div-lt_iff_lt-mul {x = x} {y = x / size + 1} some).0 (omega arith) in omega (arith, under)

module _ (size : ℕ) (some : 0 < size) (t : Tables) (p : Process) (n table : ℕ) (so_far : CountsBelow size p.settled n table) where
  abbrev at_table : ℕ → ℕ
  at_table m = m / size

  -- the page that is found needs the next table
  module _ (x : SettledPage) (next : IsNextSettled t p (table * size) (trapframe_page p.scheme) (Some x)) where
    up : table ≤ x.page / size
    up = le-div table x.page size some next.0

    all_to : (y : ℕ) (s : Page) → get p.settled y ≡ Some s → y / size < x.page / size + 1 → contains (values at_table (x.page ∷ so_far.found)) (y / size) ≡ true
    all_to y s is less = elim (cases_lt (y / size) table) [
      | inl before ↦ let z = value_of at_table (y / size) so_far.found (so_far.all y s is before) in has_value at_table z.0 (y / size) (x.page ∷ so_far.found) (behind x.page z.0 so_far.found z.1) z.2
      | inr late ↦
          let not_below : y < table * size → ⊥ = λ below. let early : y / size < table = (div-lt_iff_lt-mul some).1 below in omega (arith, early, late) in
          let from_page : y < x.page → ⊥ = λ early. let none = next.2 y (omega (arith, not_below)) early in cc in
          let over = div_up size some x.page y (omega (arith, from_page)) in
          has_value at_table x.page (y / size) (x.page ∷ so_far.found) (in_front x.page so_far.found) (omega (arith, over, less))
    ]

    pub counts_more : CountsBelow size p.settled (n + 1) (x.page / size + 1)
    counts_more =
        let above = up in
        let number : n + (x.page / size + 1 - max (x.page / size) table) ≡ n + 1 = omega (arith, above) in
        record {
          found = x.page ∷ so_far.found;
          tables = subst (λ k. AreCounted at_table (x.page ∷ so_far.found) k (x.page / size + 1)) number (one_more at_table so_far.found n table x.page so_far.tables (omega (arith, above)));
          there = λ y h. elim (first_or x.page y so_far.found h) [
            | inl same ↦ rw (← same) (in_keys p.settled.entries x.page _ (next.3).settled)
            | inr before ↦ so_far.there y before
          ];
          all = all_to;
        }

    -- which is not behind the trapframe's
    pub still_near : x.page / size + 1 ≤ (trapframe_page p.scheme) / size + 1
    still_near = let over = div_up size some x.page (trapframe_page p.scheme) (omega (arith, next.1)) in omega (arith, over)

    pub goes_up : table < x.page / size + 1
    goes_up = let above = up in omega (arith, above)

  -- the list goes on behind a page, below which each table is counted
  module _ (first : ℕ) (before : first ≤ table * size) where
    -- the next page of the list needs another table
    pub next_table : (x : SettledPage) → IsNextSettled t p first (trapframe_page p.scheme) (Some x) → table ≤ x.page / size → IsNextSettled t p (table * size) (trapframe_page p.scheme) (Some x)
    next_table x next above =
        let from : table * size ≤ x.page = elim (cases_lt x.page (table * size)) as (λ _. table * size ≤ x.page) [
          | inl less ↦ absurd (let under = (div-lt_iff_lt-mul some).1 less in omega (arith, under, above))
          | inr more ↦ more
        ] in
        (from, next.1, (λ n late early. next.2 n (omega (arith, before, late)) early), next.3)

    -- or one that is counted
    pub same_table : (x : ℕ) → x / size < table → x + 1 ≤ table * size
    same_table x less = let under = (div-lt_iff_lt-mul some).0 less in omega (arith, under)

    -- no page is left
    pub none_left : IsNextSettled t p first (trapframe_page p.scheme) None → IsNextSettled t p (table * size) (trapframe_page p.scheme) None
    none_left none n from lt = none n (omega (arith, before, from)) lt

  -- no page is left: with the two pages of the kernel, which share their tables
  module _ (none : IsNextSettled t p (table * size) (trapframe_page p.scheme) None) (low : (y : ℕ) (s : Page) → get p.settled y ≡ Some s → y < (trapframe_page p.scheme))
      (near : table ≤ (trapframe_page p.scheme) / size + 1) (top : (trampoline_page p.scheme) / size ≡ (trapframe_page p.scheme) / size) where
    all_found : (y : ℕ) → Contains (keys p.settled) y → contains (values at_table so_far.found) (y / size) ≡ true
    all_found y h =
        let s = found_in p.settled.entries y h in
        let under = low y s.0 s.1 in
        let below : y < table * size = elim (cases_lt y (table * size)) [ inl less ↦ less | inr late ↦ absurd (let gone = none y (omega (arith, late)) under in cc) ] in
        so_far.all y s.0 s.1 ((div-lt_iff_lt-mul some).1 below)

    abbrev with_kernel : List ℕ → List ℕ
    with_kernel xs = (trampoline_page p.scheme) ∷ (trapframe_page p.scheme) ∷ xs

    pub counts_top : count (numbers (map at_table (with_kernel (keys p.settled)))) ≡ n + ((trapframe_page p.scheme) / size + 1 - max ((trapframe_page p.scheme) / size) table)
    counts_top =
        let there : AmongValues at_table so_far.found (keys p.settled) = λ x h. has_value at_table x (x / size) (keys p.settled) (so_far.there x h) refl in
        let both = λ (xs ys : List ℕ) (into : AmongValues at_table xs ys). among_more at_table (trampoline_page p.scheme) ((trapframe_page p.scheme) ∷ xs) ((trapframe_page p.scheme) ∷ ys) (among_more at_table (trapframe_page p.scheme) xs ys into) in
        same_values at_table (with_kernel (keys p.settled)) (with_kernel so_far.found) (both (keys p.settled) so_far.found all_found) (both so_far.found (keys p.settled) there)
        ∙ two_more at_table so_far.found n table (trapframe_page p.scheme) (trampoline_page p.scheme) so_far.tables near top

    pub top_counted : (trapframe_page p.scheme) / size < table → n ≡ count (numbers (map at_table (with_kernel (keys p.settled))))
    top_counted less = sym (counts_top ∙ omega (arith, less))

    pub top_new : table ≤ (trapframe_page p.scheme) / size → n + 1 ≡ count (numbers (map at_table (with_kernel (keys p.settled))))
    top_new le = sym (counts_top ∙ omega (arith, le))
