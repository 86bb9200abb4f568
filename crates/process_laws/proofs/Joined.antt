-- Lemmas about which neighboring pages are in one mapping (`in_one_of`): sbrk, mmap and munmap leave that as it is for pages
-- that they do not remap; mmap puts its pages into one mapping, and joins them to no other page.
use Rattle.std.proofs.Common.{◌≡◌, ℕ, ℤ, Bool, true, false, cond, ◌&&◌, ◌||◌, ◌==◌, ◌+◌, ◌-◌, ◌≤◌, ◌<◌, refl, sym, ap, subst, ◌∙◌, arith, List, [], ◌∷◌, ◌++◌, None, Some}
use Rattle.std.specs.Prelude.{nat_abs, nat_le, nat_lt}
use Rattle.std.specs.List.{list_all}
use Rattle.std.proofs.lemmas.Bool.{and_parts, eq-eqb, leb-true, ltb-true, ne_eqb}
use Rattle.std.proofs.lemmas.Bool.Decides.{nat_tests}
use Rattle.std.proofs.lemmas.Option.{same_Some}
use Rattle.process_laws.proofs.Grants.{around_above}
use Rattle.process_laws.specs.Pages.{are_joined, in_one_of, is_between}
use Rattle.process_model.specs.Bytes.{pages_for}
use Rattle.process_model.proofs.GrantLaws.{size_granted}
use Rattle.process_model.specs.Heap.{heap_limit, size_refusal}
use Rattle.process_model.specs.ImageProcess.{process_of}
use Rattle.process_model.specs.Images.{LoadSegment}
use Rattle.process_model.specs.Mappings.{back_of, fits_at, front_of, is_apart, leaves_hole, mapping_around, moved_along, with_instead, with_mapping}
use Rattle.process_model.specs.Order.{IsInOrder, Row}
use Rattle.process_model.specs.Process.{Process}
use Rattle.process_model.specs.Regions.{end_of, holds_page, Region}
use Rattle.sv39_entry.specs.Schemes.{trapframe_page}
use Rattle.sv39_entry.specs.declared.scheme.Scheme.{Scheme}

abbrev has_both : Region → ℕ → Bool
has_both m page = holds_page m page && holds_page m (page + 1)

-- ---- truth values

pick : (a b j : Bool) → (j ≡ true → (a ≡ false) × (b ≡ false)) → j ≡ cond (a || b) false j
pick true b false e = refl
pick true b true e = absurd (let no = (e refl).0 in cc)
pick false true false e = refl
pick false true true e = absurd (let no = (e refl).1 in cc)
pick false false j e = refl

pick_new : (a b j : Bool) → (j ≡ true → (a ≡ false) × (b ≡ false)) → ((a && b) || j) ≡ cond (a || b) (a && b) j
pick_new true true j e = refl
pick_new true false false e = refl
pick_new true false true e = absurd (let no = (e refl).0 in cc)
pick_new false true false e = refl
pick_new false true true e = absurd (let no = (e refl).1 in cc)
pick_new false false j e = refl

pub unpicked : (a b c j : Bool) → a ≡ false → b ≡ false → j ≡ cond (a || b) c j
unpicked true b c j e f = absurd cc
unpicked false true c j e f = absurd cc
unpicked false false c j e f = refl

either : (c u v : Bool) → (cond c false u || cond c false v) ≡ cond c false (u || v)
either true u v = refl
either false u v = refl

swap : (a b c : Bool) → (a || (b || c)) ≡ (b || (a || c))
swap true true c = refl
swap true false c = refl
swap false b c = refl

group : (a b c : Bool) → ((a || b) || c) ≡ (a || (b || c))
group true b c = refl
group false b c = refl

module _ (page : ℕ) where
  both_in : (m : Region) → has_both m page ≡ true → (m.first ≤ page) × (page + 1 < end_of m)
  both_in m e =
      let t = and_parts (holds_page m page) (holds_page m (page + 1)) e in
      let a = and_parts (nat_le m.first page) (nat_lt page (end_of m)) t.0 in
      let b = and_parts (nat_le m.first (page + 1)) (nat_lt (page + 1) (end_of m)) t.1 in
      (leb-true m.first page a.0, ltb-true (page + 1) (end_of m) b.1)

  joined_from : (low high : ℕ) (ms : List Region) → Row 1 low ms high → in_one_of ms page ≡ true → low ≤ page
  joined_from low high [] row e = absurd cc
  joined_from low high (m ∷ ms) row e = by (has_both m page) refl e (λ f. joined_from (end_of m) high ms row.2 f)
    where
      start : low ≤ m.first
      start = row.0

      by : (t : Bool) → has_both m page ≡ t → (t || in_one_of ms page) ≡ true → (in_one_of ms page ≡ true → end_of m ≤ page) → low ≤ page
      by true h e f = let x = (both_in m h).0 in omega (arith, start, x)
      by false h e f = let x = f e in omega (arith, start, x)

  -- ---- sbrk

  joined_above : (z : Scheme) (low high : ℕ) (ms : List Region) → Row 1 low ms high → in_one_of ms page ≡ true → heap_limit z ms ≤ page
  joined_above z low high [] row e = absurd cc
  joined_above z low high (m ∷ ms) row e = joined_from m.first high (m ∷ ms) (omega arith, row.1, row.2) e

  past_both : (old new k : ℕ) → old ≤ k → new ≤ k → (is_between new old k || is_between old new k) ≡ false
  past_both old new k e f = grind (arith, nat_tests, e, f)

  pub resized_joined : (p : Process) → IsInOrder p → (wanted : ℤ) → size_refusal p wanted ≡ None → let old = pages_for p.size in let new = pages_for (nat_abs wanted) in
      in_one_of p.mappings page ≡ cond ((is_between new old page || is_between old new page) || (is_between new old (page + 1) || is_between old new (page + 1))) false (in_one_of p.mappings page)
  resized_joined p order wanted none =
      let old = pages_for p.size in
      let new = pages_for (nat_abs wanted) in
      pick (is_between new old page || is_between old new page) (is_between new old (page + 1) || is_between old new (page + 1)) (in_one_of p.mappings page) (λ e.
      let a = joined_from old (trapframe_page p.scheme) p.mappings order.above e in
      let b = joined_above p.scheme old (trapframe_page p.scheme) p.mappings order.above e in
      let c = (size_granted p wanted none).1 in
      let d : new ≤ page = omega (arith, b, c) in
      (past_both old new page a d, past_both old new (page + 1) (omega (arith, a)) (omega (arith, d))))

  -- ---- mmap

  with_joined : (r : Region) (ms : List Region) → in_one_of (with_mapping r ms) page ≡ (has_both r page || in_one_of ms page)
  with_joined r [] = refl
  with_joined r (m ∷ ms) = elim (nat_lt r.first m.first) as (λ b. in_one_of (cond b (r ∷ m ∷ ms) (m ∷ with_mapping r ms)) page ≡ (has_both r page || (has_both m page || in_one_of ms page))) [
    | true ↦ refl
    | false ↦ ap (λ t. has_both m page || t) (with_joined r ms) ∙ swap (has_both m page) (has_both r page) (in_one_of ms page)
  ]

  clear : (r m : Region) (k : ℕ) → holds_page m k ≡ true → is_apart r.first r.pages m ≡ true → holds_page r k ≡ false
  clear r m k inside apart = grind (arith, nat_tests)

  apart_joined : (r : Region) (ms : List Region) → list_all (is_apart r.first r.pages) ms ≡ true → in_one_of ms page ≡ true → (holds_page r page ≡ false) × (holds_page r (page + 1) ≡ false)
  apart_joined r [] all e = absurd cc
  apart_joined r (m ∷ ms) all e = by (has_both m page) refl e (λ f. apart_joined r ms parts.1 f)
    where
      parts : (is_apart r.first r.pages m ≡ true) × (list_all (is_apart r.first r.pages) ms ≡ true)
      parts = and_parts (is_apart r.first r.pages m) (list_all (is_apart r.first r.pages) ms) all

      by : (t : Bool) → has_both m page ≡ t → (t || in_one_of ms page) ≡ true → (in_one_of ms page ≡ true → (holds_page r page ≡ false) × (holds_page r (page + 1) ≡ false)) → (holds_page r page ≡ false) × (holds_page r (page + 1) ≡ false)
      by true h e f = let t = and_parts (holds_page m page) (holds_page m (page + 1)) h in (clear r m page t.0 parts.0, clear r m (page + 1) t.1 parts.0)
      by false h e f = f e

  pub mapped_joined : (p : Process) (r : Region) → fits_at p r.pages r.first ≡ true
      → in_one_of (with_mapping r p.mappings) page ≡ cond (holds_page r page || holds_page r (page + 1)) (holds_page r page && holds_page r (page + 1)) (in_one_of p.mappings page)
  mapped_joined p r fits =
      with_joined r p.mappings
      ∙ pick_new (holds_page r page) (holds_page r (page + 1)) (in_one_of p.mappings page)
      (apart_joined r p.mappings (and_parts (nat_le (pages_for p.size) r.first && nat_le (r.first + r.pages) (trapframe_page p.scheme)) (list_all (is_apart r.first r.pages) p.mappings) fits).1)

  -- ---- munmap

  in_both : (xs ys : List Region) → in_one_of (xs ++ ys) page ≡ (in_one_of xs page || in_one_of ys page)
  in_both [] ys = refl
  in_both (x ∷ xs) ys = ap (λ t. has_both x page || t) (in_both xs ys) ∙ sym (group (has_both x page) (in_one_of xs page) (in_one_of ys page))

  around_from : (first end : ℕ) (ms : List Region) (m : Region) → mapping_around ms first end ≡ Some m → (m.first ≤ first) × (end ≤ end_of m)
  around_from first end [] m e = absurd cc
  around_from first end (x ∷ ms) m e = elim (nat_le x.first first && nat_le end (end_of x)) as (λ t. (nat_le x.first first && nat_le end (end_of x)) ≡ t → cond t (Some x) (mapping_around ms first end) ≡ Some m → (m.first ≤ first) × (end ≤ end_of m)) [
    | true ↦ λ fits is.
        let parts = and_parts (nat_le x.first first) (nat_le end (end_of x)) fits in
        let same = same_Some x m is in
        (subst (λ (z : Region). z.first ≤ first) same (leb-true x.first first parts.0), subst (λ (z : Region). end ≤ end_of z) same (leb-true end (end_of x) parts.1))
    | false ↦ λ fits is. around_from first end ms m is
  ] refl e

  module _ (first end : ℕ) (le : first ≤ end) where
    abbrev gone : Bool
    gone = is_between first end page || is_between first end (page + 1)

    above_gone : end ≤ page → (is_between first end page ≡ false) × (is_between first end (page + 1) ≡ false)
    above_gone e = (grind (arith, nat_tests, e), grind (arith, nat_tests, e))

    below_gone : page + 1 < first → (is_between first end page ≡ false) × (is_between first end (page + 1) ≡ false)
    below_gone e = (grind (arith, nat_tests, e), grind (arith, nat_tests, e))

    module _ (m : Region) (start : m.first ≤ first) (stop : end ≤ end_of m) where
      abbrev front : Region
      front = record m { pages = first - m.first }

      abbrev back : Region
      back = record m { first = end; pages = end_of m - end; source = moved_along m.source (end - m.first) }

      only_front : nat_lt end (end_of m) ≡ false → has_both front page ≡ cond gone false (has_both m page)
      only_front e = grind (arith, nat_tests)

      only_back : nat_lt m.first first ≡ false → has_both back page ≡ cond gone false (has_both m page)
      only_back e = grind (arith, nat_tests)

      neither : nat_lt m.first first ≡ false → nat_lt end (end_of m) ≡ false → false ≡ cond gone false (has_both m page)
      neither e f = grind (arith, nat_tests)

      or_none : (b : Bool) → (b || false) ≡ b
      or_none true = refl
      or_none false = refl

      by_ends : (a b : Bool) → nat_lt m.first first ≡ a → nat_lt end (end_of m) ≡ b → (a && b) ≡ false → in_one_of (cond a (front ∷ []) [] ++ cond b (back ∷ []) []) page ≡ cond gone false (has_both m page)
      by_ends true true e f hole = absurd cc
      by_ends true false e f hole = or_none (has_both front page) ∙ only_front f
      by_ends false true e f hole = or_none (has_both back page) ∙ only_back e
      by_ends false false e f hole = neither e f

      pieces_joined : leaves_hole m first end ≡ false → in_one_of (front_of m first ++ back_of m end) page ≡ cond gone false (has_both m page)
      pieces_joined hole = by_ends (nat_lt m.first first) (nat_lt end (end_of m)) refl refl hole

    pub instead_joined : (low high : ℕ) (ms : List Region) (m : Region) → Row 1 low ms high → mapping_around ms first end ≡ Some m → leaves_hole m first end ≡ false
        → in_one_of (with_instead ms m.first (front_of m first ++ back_of m end)) page ≡ cond gone false (in_one_of ms page)
    instead_joined low high [] m row e hole = absurd cc
    instead_joined low high (x ∷ ms) m row e hole =
        elim (nat_le x.first first && nat_le end (end_of x)) as (λ t. (nat_le x.first first && nat_le end (end_of x)) ≡ t → cond t (Some x) (mapping_around ms first end) ≡ Some m
        → in_one_of (with_instead (x ∷ ms) m.first (front_of m first ++ back_of m end)) page ≡ cond gone false (in_one_of (x ∷ ms) page)) [
          | true ↦ λ fits is.
              let parts = and_parts (nat_le x.first first) (nat_le end (end_of x)) fits in
              let stop = leb-true end (end_of x) parts.1 in
              let same : x ≡ m = same_Some x m is in
              let whole : leaves_hole x first end ≡ false = ap (λ (r : Region). leaves_hole r first end) same ∙ hole in
              let pieces = front_of x first ++ back_of x end in
              ap (λ (r : Region). in_one_of (with_instead (x ∷ ms) r.first (front_of r first ++ back_of r end)) page) (sym same)
              ∙ ap (λ t. in_one_of (cond t (pieces ++ ms) (x ∷ with_instead ms x.first pieces)) page) (eq-eqb x.first x.first refl)
              ∙ in_both pieces ms
              ∙ ap (λ t. t || in_one_of ms page) (pieces_joined x (leb-true x.first first parts.0) stop whole)
              ∙ ap (λ t. cond gone false (has_both x page) || t) (pick (is_between first end page) (is_between first end (page + 1)) (in_one_of ms page) (λ f. let above = joined_from (end_of x) high ms row.2 f in above_gone (omega (arith, above, stop))))
              ∙ either gone (has_both x page) (in_one_of ms page)
          | false ↦ λ fits is.
              let above : end_of x ≤ m.first = around_above (end_of x) high first end ms m row.2 is in
              let some : 1 ≤ x.pages = row.1 in
              let from = (around_from first end ms m is).0 in
              let apart : (x.first == m.first) ≡ false = ne_eqb x.first m.first (λ same. omega (arith, above, some, same)) in
              let new = front_of m first ++ back_of m end in
              ap (λ t. in_one_of (cond t (new ++ ms) (x ∷ with_instead ms m.first new)) page) apart
              ∙ ap (λ t. has_both x page || t) (instead_joined (end_of x) high ms m row.2 is hole)
              ∙ ap (λ t. t || cond gone false (in_one_of ms page)) (pick (is_between first end page) (is_between first end (page + 1)) (has_both x page) (λ f. let less = (both_in x f).1 in below_gone (omega (arith, less, above, from))))
              ∙ either gone (has_both x page) (in_one_of ms page)
        ] refl e

-- ---- exec

pub image_joined : (z : Scheme) (fresh : ℕ) (ls : List LoadSegment) (page : ℕ) → are_joined (process_of z fresh ls) page ≡ false
unfolding process_of
image_joined z fresh ls page = refl
