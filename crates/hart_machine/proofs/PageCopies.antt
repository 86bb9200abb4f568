-- Lemmas: a copy number (which names one copy of a page in memory) is among those of a process, or of all processes, if and
-- only if a page, or a process, has it; and the same of the test `has_copy`.
use Rattle.std.proofs.Common.{◌≡◌, ℕ, zero, suc, ◌<◌, ◌==◌, ◌⊎◌, Bool, true, false, cond, inl, inr, refl, ap, sym, subst, arith, List, [], ◌∷◌, map, Option, Some, None}
use Rattle.std.specs.Prelude.{T, ◌||◌, flat_map, slice_get}
use Rattle.std.specs.List.{list_any}
use Rattle.std.specs.Ordering.{nat_cmp, eq_by_cmp}
use Rattle.std.specs.FinMap.Entries.{find, is_sorted}
use Rattle.std.proofs.lemmas.Bool.{eq-eqb}
use Rattle.std.proofs.lemmas.Option.{same_Some}
use Rattle.process_model.specs.Frames.{copies_of, has_copy, live}
use Rattle.process_model.specs.PageMap.{get}
use Rattle.process_model.specs.Process.{Page, Process}
use Rattle.hart_machine.proofs.NumberLists.{Among, among_back, among_front, among_parts}
use Rattle.hart_machine.proofs.KeySets.{above, equal_of, equal_to, found_key, second, first}

abbrev copies : List (ℕ × Page) → List ℕ
copies es = map (λ e. (e.1).copy) es

found_copy : (n : ℕ) (a : Page) (es : List (ℕ × Page)) → find nat_cmp n es ≡ Some a → Among a.copy (copies es)
found_copy n a [] at = absurd (cc)
found_copy n a (e ∷ es) at = elim (eq_by_cmp nat_cmp n e.0) as (λ b. cond b (Some e.1) (find nat_cmp n es) ≡ Some a → Among a.copy (copies (e ∷ es))) [
  | true ↦ λ is. inl (ap (λ (y : Page). y.copy) (sym (same_Some e.1 a is)))
  | false ↦ λ rest. inr (found_copy n a es rest)
] at

later : (e : ℕ × Page) (es : List (ℕ × Page)) → T (is_sorted nat_cmp (e ∷ es)) → (k : ℕ) (x : Page) → find nat_cmp k es ≡ Some x → find nat_cmp k (e ∷ es) ≡ Some x
later e es t k x f = elim (eq_by_cmp nat_cmp k e.0) as (λ b. eq_by_cmp nat_cmp k e.0 ≡ b → cond b (Some e.1) (find nat_cmp k es) ≡ Some x) [
  | true ↦ λ same.
      let is : k ≡ e.0 = equal_of k e.0 same in
      let high : e.0 < k = above e.0 k es (first _ _ t) (found_key k es (ap (λ o. elim o as (λ _. Bool) [ None ↦ false | Some z ↦ true ]) f)) in
      absurd (omega (is, high, arith))
  | false ↦ λ _. f
] refl

copy_found : (c : ℕ) (es : List (ℕ × Page)) → T (is_sorted nat_cmp es) → Among c (copies es) → (n : ℕ) × (a : Page) × (find nat_cmp n es ≡ Some a) × (a.copy ≡ c)
copy_found c [] t i = absurd i
copy_found c (e ∷ es) t (inl is) = (e.0, e.1, rw (equal_to e.0 e.0 refl) refl, sym is)
copy_found c (e ∷ es) t (inr i) = let old = copy_found c es (second _ _ t) i in (old.0, old.1, later e es t old.0 old.1 old.2, old.3)

pub copy_of_page : (p : Process) (n : ℕ) (a : Page) → get p.settled n ≡ Some a → Among a.copy (copies_of p)
copy_of_page p n a at = found_copy n a p.settled.entries at

pub page_of_copy : (p : Process) (c : ℕ) → Among c (copies_of p) → (n : ℕ) × (a : Page) × (get p.settled n ≡ Some a) × (a.copy ≡ c)
page_of_copy p c i = copy_found c p.settled.entries p.settled.sorted i

-- the test

one_of : (x y : Bool) → (x || y) ≡ true → (x ≡ true) ⊎ (y ≡ true)
one_of true y e = inl refl
one_of false y e = inr e

or_second : (x y : Bool) → y ≡ true → (x || y) ≡ true
or_second true y e = refl
or_second false y e = e

same_of : (c n : ℕ) → (n == c) ≡ true → c ≡ n
same_of c n e = grind arith

any_copy : (c : ℕ) (ns : List ℕ) → list_any (λ n. n == c) ns ≡ true → Among c ns
any_copy c [] t = absurd (cc)
any_copy c (n ∷ ns) t = elim (one_of (n == c) (list_any (λ m. m == c) ns) t) [ inl e ↦ inl (same_of c n e) | inr e ↦ inr (any_copy c ns e) ]

copy_any : (c : ℕ) (ns : List ℕ) → Among c ns → list_any (λ n. n == c) ns ≡ true
copy_any c [] i = absurd i
copy_any c (n ∷ ns) (inl e) = rw (eq-eqb n c (sym e)) refl
copy_any c (n ∷ ns) (inr i) = or_second (n == c) (list_any (λ m. m == c) ns) (copy_any c ns i)

pub has_among : (c : ℕ) (p : Process) → has_copy c p ≡ true → Among c (copies_of p)
has_among c p t = any_copy c (copies_of p) t

pub among_has : (c : ℕ) (p : Process) → Among c (copies_of p) → has_copy c p ≡ true
among_has c p i = copy_any c (copies_of p) i

-- of all processes

pub process_of_copy : (c : ℕ) (slots : List (Option Process)) → Among c (flat_map copies_of (live slots)) → (i : ℕ) × (p : Process) × (slice_get slots i ≡ Some (Some p)) × Among c (copies_of p)
process_of_copy c [] i = absurd i
process_of_copy c (None ∷ slots) i = let old = process_of_copy c slots i in (suc old.0, old.1, old.2, old.3)
process_of_copy c (Some p ∷ slots) i = elim (among_parts c (copies_of p) (flat_map copies_of (live slots)) i) [
  | inl j ↦ (0, p, refl, j)
  | inr j ↦ let old = process_of_copy c slots j in (suc old.0, old.1, old.2, old.3)
]

pub copy_of_process : (c i : ℕ) (p : Process) (slots : List (Option Process)) → slice_get slots i ≡ Some (Some p) → Among c (copies_of p) → Among c (flat_map copies_of (live slots))
copy_of_process c i p [] at j = absurd (cc)
copy_of_process c zero p (None ∷ slots) at j = absurd (cc)
copy_of_process c zero p (Some q ∷ slots) at j = among_front c (copies_of q) (flat_map copies_of (live slots)) (subst (λ (z : Process). Among c (copies_of z)) (sym (same_Some q p (same_Some _ _ at))) j)
copy_of_process c (suc i) p (None ∷ slots) at j = copy_of_process c i p slots at j
copy_of_process c (suc i) p (Some q ∷ slots) at j = among_back c (copies_of q) (flat_map copies_of (live slots)) (copy_of_process c i p slots at j)
