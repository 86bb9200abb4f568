-- Lemmas on `tables_needed`: more pages need no fewer page tables, the same pages need as many, and no pages need the root
-- and the tables on the way to TRAMPOLINE, which TRAPFRAME shares.
use Rattle.std.proofs.Common.{◌≡◌, ℕ, ◌+◌, ◌/◌, ◌≤◌, cond, inl, inr, refl, ap, ◌∙◌, arith, List, [], ◌∷◌, ◌++◌}
use Rattle.std.proofs.lemmas.Bool.{cases_Bool}
use Rattle.std.proofs.lemmas.List.Elements.{Contains-append_cases, Contains-append_left}
use Rattle.std.specs.Prelude.{Contains}
use Rattle.process_model.specs.Frames.{table_sizes, tables_needed, tables_of_sizes}
use Rattle.process_model.specs.Insertion.{behind_more}
use Rattle.process_model.specs.PageMap.{contains, count}
use Rattle.process_model.proofs.ValueSets.{count_next, same_count, values}
use Rattle.sv39_entry.specs.Schemes.{trampoline_page, trapframe_page, top_level}
use Rattle.sv39_entry.specs.declared.scheme.Scheme.{Scheme}
use Rattle.sv39_entry.specs.declared.scheme.Scheme.TheVariants.{Sv39, Sv48}

-- each member of the first list is one of the second
abbrev pub AreAmong : List ℕ → List ℕ → Type 0
AreAmong xs ys = (x : ℕ) → Contains xs x → Contains ys x

module _ (f : ℕ → ℕ) where
  one_up : (x : ℕ) (xs : List ℕ) → count (values f xs) ≤ count (values f (x ∷ xs))
  one_up x xs = elim (cases_Bool (contains (values f xs) (f x))) [
    | inl there ↦ (let is : count (values f (x ∷ xs)) ≡ count (values f xs) = count_next f x xs ∙ ap (λ b. cond b (count (values f xs)) (count (values f xs) + 1)) there in omega (arith, is))
    | inr new ↦ (let is : count (values f (x ∷ xs)) ≡ count (values f xs) + 1 = count_next f x xs ∙ ap (λ b. cond b (count (values f xs)) (count (values f xs) + 1)) new in omega (arith, is))
  ]

  more_up : (zs xs : List ℕ) → count (values f xs) ≤ count (values f (zs ++ xs))
  more_up [] xs = omega arith
  more_up (z ∷ zs) xs = let rest = more_up zs xs in let one = one_up z (zs ++ xs) in omega (arith, rest, one)

  values_up : (xs ys : List ℕ) → AreAmong xs ys → count (values f xs) ≤ count (values f ys)
  values_up xs ys into =
      let up = more_up ys xs in
      let same = same_count f (ys ++ xs) ys (λ x h. elim (Contains-append_cases ys xs x h) [ inl first ↦ first | inr second ↦ into x second ]) (λ x h. Contains-append_left ys xs x h) in
      omega (arith, up, same)

sizes_up : (sizes xs ys : List ℕ) → AreAmong xs ys → tables_of_sizes sizes xs ≤ tables_of_sizes sizes ys
sizes_up [] xs ys into = omega arith
sizes_up (size ∷ sizes) xs ys into = let here = values_up (λ n. n / size) xs ys into in let rest = sizes_up sizes xs ys into in omega (arith, here, rest)

with_kernel : (s : Scheme) (xs ys : List ℕ) → AreAmong xs ys → AreAmong (trampoline_page s ∷ trapframe_page s ∷ xs) (trampoline_page s ∷ trapframe_page s ∷ ys)
with_kernel s xs ys into = behind_more (trampoline_page s) (trapframe_page s ∷ xs) (trapframe_page s ∷ ys) (behind_more (trapframe_page s) xs ys into)

pub tables_up : (s : Scheme) (xs ys : List ℕ) → AreAmong xs ys → tables_needed s xs ≤ tables_needed s ys
unfolding tables_needed
tables_up s xs ys into =
    let up = sizes_up (table_sizes s) (trampoline_page s ∷ trapframe_page s ∷ xs) (trampoline_page s ∷ trapframe_page s ∷ ys) (with_kernel s xs ys into) in
    omega (arith, up)

pub tables_same : (s : Scheme) (xs ys : List ℕ) → AreAmong xs ys → AreAmong ys xs → tables_needed s xs ≡ tables_needed s ys
tables_same s xs ys there back = let up = tables_up s xs ys there in let down = tables_up s ys xs back in omega (arith, up, down)

-- the root, and TRAMPOLINE's tables, which TRAPFRAME shares
pub first_needed : (s : Scheme) → tables_needed s [] ≡ 1 + top_level s
unfolding tables_needed
first_needed Sv39 = refl
first_needed Sv48 = refl
