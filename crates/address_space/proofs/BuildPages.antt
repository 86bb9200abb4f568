-- Lemmas on pages that are settled (brought into memory) one after another: how a run of pages and its bytes split; that
-- regions, scheme and other pages stay; and how many page tables they need: in any order as many, and with one page more no
-- fewer.
use Rattle.std.proofs.Common.{◌≡◌, ℕ, zero, suc, true, false, cond, ◌+◌, ◌-◌, ◌*◌, ◌/◌, ◌<◌, ◌≤◌, inl, inr, refl, ap, sym, subst, ◌∙◌, arith, List, [], ◌∷◌, ◌++◌, map, length, min, take, drop, replicate}
use Rattle.std.specs.Prelude.{Contains}
use Rattle.std.proofs.lemmas.List.{drop-drop, drop_min, length-take, take_all, take_min}
use Rattle.process_model.specs.Bytes.{numbers_from, padded}
use Rattle.process_model.specs.Frames.{tables_needed, tables_of, table_sizes, tables_of_sizes}
use Rattle.process_model.specs.ImageProcess.{page_run}
use Rattle.process_model.specs.PageMap as pages
use Rattle.process_model.specs.PageMap.{contains, count}
use Rattle.process_model.specs.Process.{Page, Process, regions}
use Rattle.sv39_entry.specs.Schemes.{trampoline_page, trapframe_page}
use Rattle.sv39_entry.specs.declared.scheme.Scheme.{Scheme}
use Rattle.address_space.specs.Parts.{with_settled, with_pages}
use Rattle.process_model.proofs.ValueSets.{count_next, none_in, same_count, values}
use Rattle.process_model.specs.Insertion.{behind, behind_more, first_or, in_front, inserted_other, key_in, key_out}

abbrev pub Pages : Type 0
Pages = List (ℕ × List ℕ)

abbrev pub page_numbers : Pages → List ℕ
page_numbers es = map (λ (e : ℕ × List ℕ). e.0) es

-- ---- runs of pages

pub in_run : (n first x : ℕ) → Contains (numbers_from first n) x → (first ≤ x) × (x < first + n)
in_run zero first x h = absurd (none_in x h)
in_run (suc n) first x h = elim (first_or first x (numbers_from (first + 1) n) h) [
  | inl same ↦ (omega (arith, same), omega (arith, same))
  | inr later ↦ let rest = in_run n (first + 1) x later in (omega (arith, rest.0), omega (arith, rest.1))
]

-- a run is its first pages, and those behind them
pub run_split : (k n first : ℕ) (bytes : List ℕ) → page_run first bytes (k + n) ≡ page_run first bytes k ++ page_run (first + k) (drop (4096 * k) bytes) n
run_split zero n first bytes =
    let count : 0 + n ≡ n = omega arith in
    let at : first + 0 ≡ first = omega arith in
    rw (count, at) refl
run_split (suc k) n first bytes =
    let next : suc k + n ≡ suc (k + n) = omega arith in
    let at : first + 1 + k ≡ first + suc k = omega arith in
    let left : 4096 + 4096 * k ≡ 4096 * suc k = omega arith in
    ap (λ m. page_run first bytes m) next
    ∙ ap (λ es. (first, padded 4096 bytes) ∷ es) (run_split k n (first + 1) (drop 4096 bytes)
    ∙ ap (λ m. page_run (first + 1) (drop 4096 bytes) k ++ page_run m (drop (4096 * k) (drop 4096 bytes)) n) at
    ∙ ap (λ bs. page_run (first + 1) (drop 4096 bytes) k ++ page_run (first + suc k) bs n) (drop-drop (4096 * k) 4096 bytes ∙ ap (λ m. drop m bytes) left))

pub run_next : (k first : ℕ) (bytes : List ℕ) → page_run first bytes (k + 1) ≡ page_run first bytes k ++ (first + k, padded 4096 (drop (4096 * k) bytes)) ∷ []
run_next k first bytes = run_split k 1 first bytes

-- the bytes of a page, and what is left behind them
module _ (k m : ℕ) (rest bytes : List ℕ) (is : rest ≡ drop (4096 * k) bytes) (size : m ≡ min 4096 (length rest)) where
  pub bytes_here : (here : List ℕ) → here ≡ take m rest → padded 4096 here ≡ padded 4096 (drop (4096 * k) bytes)
  bytes_here here front =
      let whole : here ≡ take 4096 rest = front ∙ ap (λ n. take n rest) size ∙ take_min 4096 rest in
      let short : take 4096 (take 4096 rest) ≡ take 4096 rest = take_all 4096 (take 4096 rest) (let least = length-take 4096 rest in omega (arith, least)) in
      ap (padded 4096) whole ∙ ap (λ bs. bs ++ replicate (4096 - length bs) 0) short ∙ ap (padded 4096) is

  pub bytes_behind : (behind : List ℕ) → behind ≡ drop m rest → behind ≡ drop (4096 * (k + 1)) bytes
  bytes_behind behind back =
      let next : 4096 * k + 4096 ≡ 4096 * (k + 1) = omega arith in
      back ∙ ap (λ n. drop n rest) size ∙ drop_min 4096 rest ∙ ap (drop 4096) is ∙ drop-drop 4096 (4096 * k) bytes ∙ ap (λ n. drop n bytes) next

-- ---- the process

pub with_both : (xs ys : Pages) (p : Process) → with_pages p (xs ++ ys) ≡ with_pages (with_pages p xs) ys
with_both [] ys p = refl
with_both (x ∷ xs) ys p = with_both xs ys (with_settled p x)

pub same_regions : (es : Pages) (p : Process) → regions (with_pages p es) ≡ regions p
same_regions [] p = refl
same_regions (e ∷ es) p = same_regions es (with_settled p e)

pub other_stays : (es : Pages) (p : Process) (page : ℕ) → (Contains (page_numbers es) page → ⊥) → pages.get (with_pages p es).settled page ≡ pages.get p.settled page
other_stays [] p page other = refl
other_stays (e ∷ es) p page other =
    let new : Page = record { bytes = e.1; copy = 0; cow = false; dirty = false } in
    other_stays es (with_settled p e) page (λ h. other (behind e.0 page (page_numbers es) h))
    ∙ inserted_other e.0 new p.settled page (λ same. other (subst (λ x. Contains (e.0 ∷ page_numbers es) x) (sym same) (in_front e.0 (page_numbers es))))

pub same_scheme : (es : Pages) (p : Process) → (with_pages p es).scheme ≡ p.scheme
same_scheme [] p = refl
same_scheme (e ∷ es) p = same_scheme es (with_settled p e)

-- ---- their tables

more_values : (f : ℕ → ℕ) (x : ℕ) (xs : List ℕ) → count (values f xs) ≤ count (values f (x ∷ xs))
more_values f x xs =
    let next = count_next f x xs in
    elim (contains (values f xs) (f x)) as (λ b. count (values f (x ∷ xs)) ≡ cond b (count (values f xs)) (count (values f xs) + 1) → count (values f xs) ≤ count (values f (x ∷ xs))) [
      | true ↦ λ is. omega (arith, is)
      | false ↦ λ is. omega (arith, is)
    ] next

to_front : (a b c : ℕ) (xs : List ℕ) (x : ℕ) → Contains (a ∷ b ∷ c ∷ xs) x → Contains (c ∷ a ∷ b ∷ xs) x
to_front a b c xs x h = elim (first_or a x (b ∷ c ∷ xs) h) [
  | inl is ↦ rw (← is) (behind c a (a ∷ b ∷ xs) (in_front a (b ∷ xs)))
  | inr i ↦ elim (first_or b x (c ∷ xs) i) [
    | inl is ↦ rw (← is) (behind c b (a ∷ b ∷ xs) (behind a b (b ∷ xs) (in_front b xs)))
    | inr j ↦ elim (first_or c x xs j) [
      | inl is ↦ rw (← is) (in_front c (a ∷ b ∷ xs))
      | inr k ↦ behind c x (a ∷ b ∷ xs) (behind a x (b ∷ xs) (behind b x xs k))
    ]
  ]
]

from_front : (a b c : ℕ) (xs : List ℕ) (x : ℕ) → Contains (c ∷ a ∷ b ∷ xs) x → Contains (a ∷ b ∷ c ∷ xs) x
from_front a b c xs x h = to_front b c a xs x (to_front c a b xs x h)

more_behind_two : (f : ℕ → ℕ) (a b x : ℕ) (xs : List ℕ) → count (values f (a ∷ b ∷ xs)) ≤ count (values f (a ∷ b ∷ x ∷ xs))
more_behind_two f a b x xs =
    let same = same_count f (a ∷ b ∷ x ∷ xs) (x ∷ a ∷ b ∷ xs) (to_front a b x xs) (from_front a b x xs) in
    let more = more_values f x (a ∷ b ∷ xs) in
    omega (arith, same, more)

-- the order of the pages does not matter
same_sizes : (sizes xs ys : List ℕ) → ((x : ℕ) → Contains xs x → Contains ys x) → ((x : ℕ) → Contains ys x → Contains xs x) → tables_of_sizes sizes xs ≡ tables_of_sizes sizes ys
same_sizes [] xs ys there back = refl
same_sizes (size ∷ sizes) xs ys there back = rw (same_count (λ n. n / size) xs ys there back, same_sizes sizes xs ys there back) refl

pub same_tables_needed : (z : Scheme) (xs ys : List ℕ) → ((x : ℕ) → Contains xs x → Contains ys x) → ((x : ℕ) → Contains ys x → Contains xs x) → tables_needed z xs ≡ tables_needed z ys
unfolding tables_needed
same_tables_needed z xs ys there back =
    let kernel = λ (ns ms : List ℕ) (into : (x : ℕ) → Contains ns x → Contains ms x).
    behind_more (trampoline_page z) (trapframe_page z ∷ ns) (trapframe_page z ∷ ms) (behind_more (trapframe_page z) ns ms into) in
    ap (λ (n : ℕ). 1 + n) (same_sizes (table_sizes z) (trampoline_page z ∷ trapframe_page z ∷ xs) (trampoline_page z ∷ trapframe_page z ∷ ys) (kernel xs ys there) (kernel ys xs back))

-- a page more needs no fewer tables
more_sizes : (sizes : List ℕ) (a b x : ℕ) (xs : List ℕ) → tables_of_sizes sizes (a ∷ b ∷ xs) ≤ tables_of_sizes sizes (a ∷ b ∷ x ∷ xs)
more_sizes [] a b x xs = omega arith
more_sizes (size ∷ sizes) a b x xs = let here = more_behind_two (λ n. n / size) a b x xs in let rest = more_sizes sizes a b x xs in omega (arith, here, rest)

pub more_tables : (z : Scheme) (x : ℕ) (xs : List ℕ) → tables_needed z xs ≤ tables_needed z (x ∷ xs)
unfolding tables_needed
more_tables z x xs = let more = more_sizes (table_sizes z) (trampoline_page z) (trapframe_page z) x xs in omega (arith, more)

pub tables_next : (p : Process) (e : ℕ × List ℕ) → tables_of (with_settled p e) ≡ tables_needed p.scheme (e.0 ∷ pages.keys p.tabled)
tables_next p e = same_tables_needed p.scheme _ _ (key_out e.0 tt p.tabled) (key_in e.0 tt p.tabled)

tables_up : (p : Process) (e : ℕ × List ℕ) → tables_of p ≤ tables_of (with_settled p e)
tables_up p e = let next = tables_next p e in let more = more_tables p.scheme e.0 (pages.keys p.tabled) in omega (arith, next, more)

pub tables_up_to : (es : Pages) (p : Process) → tables_of p ≤ tables_of (with_pages p es)
tables_up_to [] p = omega arith
tables_up_to (e ∷ es) p = let here = tables_up p e in let rest = tables_up_to es (with_settled p e) in omega (arith, here, rest)
