-- Laws of `without_pages`, which releases a run of pages: no page of the run is in memory afterwards, and a page outside it
-- is, with the content that it had, if and only if it was. Also: `pages_for` is the division by 4,096 rounded up.
use Rattle.std.proofs.Common.{◌≡◌, ℕ, Bool, true, false, cond, min, ◌||◌, ◌%◌, ◌<◌, ◌≤◌, ◌⊎◌, ap, sym, ◌∙◌, inl, inr, arith, Option, None, Some}
use Rattle.std.specs.Prelude.{nat_le, nat_lt}
use Rattle.std.proofs.lemmas.Bool.{cases_eq, cases_lt}
use Rattle.std.proofs.lemmas.Map.Lookups.{exact_unsigned}
use Rattle.std.specs.FinMap.Entries.{find-where_key}
use Rattle.std.specs.Int.{div_ceil}
use Rattle.std.specs.Ordering.{nat_cmp}
use Rattle.process_model.specs.Bytes.{pages_for}
use Rattle.process_model.specs.Heap.{without_pages}
use Rattle.process_model.specs.PageMap.{get, only, PageMap}
use Rattle.process_model.specs.Process.{Page, Process}

-- whole pages

pub pages_for_is : (n : ℕ) → div_ceil n 4096 ≡ pages_for n
pages_for_is n = elim (cases_eq (n % 4096) 0) [
  | inl whole ↦ rw whole (omega (arith, whole))
  | inr part ↦ let one : min 1 (n % 4096) ≡ 1 = omega (arith, part) in rw one (omega (arith, part))
]

-- the settled pages outside a run

only_get : {X : Type 0} (m : PageMap X) (p : ℕ → Bool) (k : ℕ) → get (only p m) k ≡ cond (p k) (get m k) None
only_get m p k = find-where_key nat_cmp p k (λ x same. ap p (sym (exact_unsigned k x same))) m.entries

outside : (first end n : ℕ) → (n < first) ⊎ (end ≤ n) → (nat_lt n first || nat_le end n) ≡ true
outside first end n (inl before) = grind (arith, before)
outside first end n (inr after) = grind (arith, after)

inside : (first end n : ℕ) → first ≤ n → n < end → (nat_lt n first || nat_le end n) ≡ false
inside first end n from to = grind (arith, from, to)

cases_outside : (first end n : ℕ) → ((n < first) ⊎ (end ≤ n)) ⊎ ((first ≤ n) × (n < end))
cases_outside first end n = elim (cases_lt n first) [
  | inl before ↦ inl (inl before)
  | inr from ↦ elim (cases_lt n end) [
    | inl within ↦ inr (omega arith, within)
    | inr after ↦ inl (inr (omega arith))
  ]
]

module _ (p : Process) (first end n : ℕ) where
  abbrev left : Option Page
  left = get (without_pages p first end).settled n

  left_is : left ≡ cond (nat_lt n first || nat_le end n) (get p.settled n) None
  left_is = only_get p.settled (λ page. nat_lt page first || nat_le end page) n

  -- no page of the run is settled afterwards
  pub run_goes : first ≤ n → n < end → left ≡ None
  run_goes from to = left_is ∙ ap (λ b. cond b (get p.settled n) None) (inside first end n from to)

  pub still_settled : (s : Page) → get p.settled n ≡ Some s → (n < first) ⊎ (end ≤ n) → left ≡ Some s
  still_settled s at out = left_is ∙ ap (λ b. cond b (get p.settled n) None) (outside first end n out) ∙ at

  pub was_settled : (s : Page) → left ≡ Some s → (get p.settled n ≡ Some s) × ((n < first) ⊎ (end ≤ n))
  was_settled s at = elim (cases_outside first end n) [
    | inl out ↦ (sym (ap (λ b. cond b (get p.settled n) None) (outside first end n out)) ∙ sym left_is ∙ at, out)
    | inr within ↦ absurd (let gone = sym at ∙ run_goes within.0 within.1 in cc)
  ]
