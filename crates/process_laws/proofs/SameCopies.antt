-- Lemma: a fork adds no copy number (names one copy of a page in memory): parent and child have those of the parent, each
-- counted once, beside any other processes.
use Rattle.std.proofs.Common.{◌≡◌, ℕ, Bool, true, false, cond, refl, sym, ap, ◌∙◌, List, [], ◌∷◌, ◌++◌, Some, map}
use Rattle.std.specs.Prelude.{flat_map}
use Rattle.std.specs.Ordering.{nat_cmp, eq_by_cmp}
use Rattle.std.specs.Cmp.{nat_cmp_total}
use Rattle.std.proofs.lemmas.Map.Lookups.{exact_unsigned}
use Rattle.std.specs.FinMap.Entries.{find, find-put, same_entries}
use Rattle.process_model.specs.PageMap.{each_value, numbers, keys}
use Rattle.process_model.specs.Process.{Process, Page}
use Rattle.process_model.specs.Residence.{marked, marked_page, child_of, child_page}
use Rattle.process_model.specs.Frames.{copies_of, copies_in}

-- a number is in the list
abbrev is_among : ℕ → List ℕ → Bool
is_among q [] = false
is_among q (n ∷ ns) = cond (eq_by_cmp nat_cmp q n) true (is_among q ns)

found_among : (q : ℕ) (xs zs : List ℕ) → find nat_cmp q (numbers (xs ++ zs)).entries ≡ cond (is_among q xs) (Some tt) (find nat_cmp q (numbers zs).entries)
found_among q [] zs = refl
found_among q (x ∷ xs) zs = find-put nat_cmp nat_cmp_total q x tt (numbers (xs ++ zs)).entries
    ∙ elim (eq_by_cmp nat_cmp q x) as (λ b. cond b (Some tt) (find nat_cmp q (numbers (xs ++ zs)).entries) ≡ cond (cond b true (is_among q xs)) (Some tt) (find nat_cmp q (numbers zs).entries)) [
      | true ↦ refl
      | false ↦ found_among q xs zs
    ]

-- a list before another counts once
found_once : (q : ℕ) (xs ys : List ℕ) → find nat_cmp q (numbers (xs ++ (xs ++ ys))).entries ≡ find nat_cmp q (numbers (xs ++ ys)).entries
found_once q xs ys = found_among q xs (xs ++ ys) ∙ ap (cond (is_among q xs) (Some tt)) (found_among q xs ys)
    ∙ elim (is_among q xs) as (λ b. cond b (Some tt) (cond b (Some tt) (find nat_cmp q (numbers ys).entries)) ≡ cond b (Some tt) (find nat_cmp q (numbers ys).entries)) [ true ↦ refl | false ↦ refl ]
    ∙ sym (found_among q xs ys)

once : (xs ys : List ℕ) → (numbers (xs ++ (xs ++ ys))).entries ≡ (numbers (xs ++ ys)).entries
once xs ys = same_entries nat_cmp nat_cmp_total exact_unsigned _ _ (numbers (xs ++ (xs ++ ys))).sorted (numbers (xs ++ ys)).sorted (λ q. found_once q xs ys)

-- marks leave the copy numbers
copies_of_each : (f : ℕ → Page → Page) → ((n : ℕ) (x : Page) → (f n x).copy ≡ x.copy) → (es : List (ℕ × Page)) → map (λ e. (e.1).copy) (each_value f es) ≡ map (λ e. (e.1).copy) es
copies_of_each f same [] = refl
copies_of_each f same (e ∷ es) = ap (λ n. n ∷ map (λ d. (d.1).copy) (each_value f es)) (same e.0 e.1) ∙ ap (λ ns. (e.1).copy ∷ ns) (copies_of_each f same es)

pub copies_of_marked : (p : Process) → copies_of (marked p) ≡ copies_of p
copies_of_marked p = copies_of_each (marked_page p) (λ n x. refl) p.settled.entries

pub copies_of_child : (p : Process) → copies_of (child_of p) ≡ copies_of p
copies_of_child p = copies_of_each (child_page p) (λ n x. refl) p.settled.entries

-- parent and child have the copy numbers that the parent had
pub shared_by_fork : (p : Process) (others : List Process) → copies_in (marked p ∷ child_of p ∷ others) ≡ copies_in (p ∷ others)
shared_by_fork p others =
    ap (λ xs. keys (numbers (xs ++ (copies_of (child_of p) ++ flat_map copies_of others)))) (copies_of_marked p)
    ∙ ap (λ xs. keys (numbers (copies_of p ++ (xs ++ flat_map copies_of others)))) (copies_of_child p)
    ∙ ap (map (λ e. e.0)) (once (copies_of p) (flat_map copies_of others))
