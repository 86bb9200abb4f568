-- Lemmas about how many page tables a list of pages needs (`tables_needed`): it depends on the set of pages alone, does not
-- fall with one page more, and grows with one by at most one table of each level below the root's.
use Rattle.std.proofs.Common.{◌≡◌, ℕ, ◌+◌, ◌≤◌, ◌/◌, inl, inr, arith, refl, List, [], ◌∷◌, length, map}
use Rattle.sv39_entry.specs.declared.scheme.Scheme.{Scheme}
use Rattle.process_model.specs.PageMap.{NumberSet, insert, numbers, keys, count}
use Rattle.process_model.specs.Frames.{tables_needed, tables_of_sizes, table_sizes}
use Rattle.process_laws.proofs.SetSizes.{Within, within_map, numbers_have, numbers_have_only, insert_has, insert_has_only, count_same, count_grows, count_next}
use Rattle.sv39_entry.specs.Schemes.{top_level, trampoline_page, trapframe_page}
use Rattle.sv39_entry.specs.declared.scheme.Scheme.TheVariants.{Sv39, Sv48}

within_two : (a b : ℕ) (xs ys : List ℕ) → Within xs ys → Within (a ∷ b ∷ xs) (a ∷ b ∷ ys)
within_two a b xs ys w q (inl e) = inl e
within_two a b xs ys w q (inr (inl e)) = inr (inl e)
within_two a b xs ys w q (inr (inr i)) = inr (inr (w q i))

to_third : (a b c : ℕ) (xs : List ℕ) → Within (c ∷ a ∷ b ∷ xs) (a ∷ b ∷ c ∷ xs)
to_third a b c xs q (inl e) = inr (inr (inl e))
to_third a b c xs q (inr (inl e)) = inl e
to_third a b c xs q (inr (inr (inl e))) = inr (inl e)
to_third a b c xs q (inr (inr (inr i))) = inr (inr (inr i))

from_third : (a b c : ℕ) (xs : List ℕ) → Within (a ∷ b ∷ c ∷ xs) (c ∷ a ∷ b ∷ xs)
from_third a b c xs q (inl e) = inr (inl e)
from_third a b c xs q (inr (inl e)) = inr (inr (inl e))
from_third a b c xs q (inr (inr (inl e))) = inl e
from_third a b c xs q (inr (inr (inr i))) = inr (inr (inr i))

-- how many different values f has at two numbers and a list
abbrev values : (ℕ → ℕ) → ℕ → ℕ → List ℕ → ℕ
values f a b xs = count (numbers (map f (a ∷ b ∷ xs)))

values_same : (f : ℕ → ℕ) (a b : ℕ) (xs ys : List ℕ) → Within xs ys → Within ys xs → values f a b xs ≡ values f a b ys
values_same f a b xs ys v w =
    let there = within_map f (a ∷ b ∷ xs) (a ∷ b ∷ ys) (within_two a b xs ys v) in
    let back = within_map f (a ∷ b ∷ ys) (a ∷ b ∷ xs) (within_two a b ys xs w) in
    count_same (map f (a ∷ b ∷ xs)) (map f (a ∷ b ∷ ys)) there back

values_grow : (f : ℕ → ℕ) (a b c : ℕ) (xs : List ℕ) → values f a b xs ≤ values f a b (c ∷ xs)
values_grow f a b c xs =
    let there = within_map f (c ∷ a ∷ b ∷ xs) (a ∷ b ∷ c ∷ xs) (to_third a b c xs) in
    let back = within_map f (a ∷ b ∷ c ∷ xs) (c ∷ a ∷ b ∷ xs) (from_third a b c xs) in
    let grown : values f a b xs ≤ count (numbers (f c ∷ map f (a ∷ b ∷ xs))) = count_grows (f c) (map f (a ∷ b ∷ xs)) in
    let same : count (numbers (f c ∷ map f (a ∷ b ∷ xs))) ≡ values f a b (c ∷ xs) = count_same (map f (c ∷ a ∷ b ∷ xs)) (map f (a ∷ b ∷ c ∷ xs)) there back in
    omega (grown, same, arith)

sizes_same : (sizes : List ℕ) (a b : ℕ) (xs ys : List ℕ) → Within xs ys → Within ys xs → tables_of_sizes sizes (a ∷ b ∷ xs) ≡ tables_of_sizes sizes (a ∷ b ∷ ys)
sizes_same [] a b xs ys v w = refl
sizes_same (size ∷ sizes) a b xs ys v w =
    let here = values_same (λ n. n / size) a b xs ys v w in
    let rest = sizes_same sizes a b xs ys v w in
    omega (here, rest, arith)

sizes_grow : (sizes : List ℕ) (a b page : ℕ) (xs : List ℕ) → tables_of_sizes sizes (a ∷ b ∷ xs) ≤ tables_of_sizes sizes (a ∷ b ∷ page ∷ xs)
sizes_grow [] a b page xs = omega arith
sizes_grow (size ∷ sizes) a b page xs =
    let here = values_grow (λ n. n / size) a b page xs in
    let rest = sizes_grow sizes a b page xs in
    omega (here, rest, arith)

pub tables_same : (z : Scheme) (xs ys : List ℕ) → Within xs ys → Within ys xs → tables_needed z xs ≡ tables_needed z ys
unfolding tables_needed
tables_same z xs ys v w = let all = sizes_same (table_sizes z) (trampoline_page z) (trapframe_page z) xs ys v w in omega (all, arith)

pub tables_grow : (z : Scheme) (page : ℕ) (xs : List ℕ) → tables_needed z xs ≤ tables_needed z (page ∷ xs)
unfolding tables_needed
tables_grow z page xs = let all = sizes_grow (table_sizes z) (trampoline_page z) (trapframe_page z) page xs in omega (all, arith)

-- the tables of the pages that went into a set
pub tables_of_numbers : (z : Scheme) (xs : List ℕ) → tables_needed z (keys (numbers xs)) ≡ tables_needed z xs
tables_of_numbers z xs = tables_same z (keys (numbers xs)) xs (numbers_have_only xs) (numbers_have xs)

pub tables_of_insert : (z : Scheme) (s : NumberSet) (page : ℕ) → tables_needed z (keys (insert s page tt)) ≡ tables_needed z (page ∷ keys s)
tables_of_insert z s page = tables_same z (keys (insert s page tt)) (page ∷ keys s) (insert_has_only s page tt) (insert_has s page tt)

-- one page more

values_next : (f : ℕ → ℕ) (a b c : ℕ) (xs : List ℕ) → values f a b (c ∷ xs) ≤ 1 + values f a b xs
values_next f a b c xs =
    let there = within_map f (c ∷ a ∷ b ∷ xs) (a ∷ b ∷ c ∷ xs) (to_third a b c xs) in
    let back = within_map f (a ∷ b ∷ c ∷ xs) (c ∷ a ∷ b ∷ xs) (from_third a b c xs) in
    let grown : count (numbers (f c ∷ map f (a ∷ b ∷ xs))) ≤ 1 + values f a b xs = count_next (f c) (map f (a ∷ b ∷ xs)) in
    let same : count (numbers (f c ∷ map f (a ∷ b ∷ xs))) ≡ values f a b (c ∷ xs) = count_same (map f (c ∷ a ∷ b ∷ xs)) (map f (a ∷ b ∷ c ∷ xs)) there back in
    omega (grown, same, arith)

sizes_next : (sizes : List ℕ) (a b page : ℕ) (xs : List ℕ) → tables_of_sizes sizes (a ∷ b ∷ page ∷ xs) ≤ length sizes + tables_of_sizes sizes (a ∷ b ∷ xs)
sizes_next [] a b page xs = omega arith
sizes_next (size ∷ sizes) a b page xs =
    let here = values_next (λ n. n / size) a b page xs in
    let rest = sizes_next sizes a b page xs in
    omega (here, rest, arith)

sizes_few : (z : Scheme) → length (table_sizes z) ≡ top_level z
sizes_few Sv39 = refl
sizes_few Sv48 = refl

pub tables_next : (z : Scheme) (page : ℕ) (xs : List ℕ) → tables_needed z (page ∷ xs) ≤ top_level z + tables_needed z xs
unfolding tables_needed
tables_next z page xs =
    let all = sizes_next (table_sizes z) (trampoline_page z) (trapframe_page z) page xs in
    let few = sizes_few z in
    omega (all, few, arith)
