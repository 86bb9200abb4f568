-- Lemmas about the grant (rights, kind of region, source of bytes) of a page that sbrk, mmap or munmap maps or unmaps: what
-- it is afterwards; that it was none before or is none after; and that the page is not below the heap's base, or is above
-- the heap. Then about an image's process: its grants, no marks, nothing pending, its size and heap base.
use Rattle.std.proofs.Common.{◌≡◌, ◌⊎◌, ℕ, ℤ, pos, negsuc, Bool, true, false, cond, ◌&&◌, ◌||◌, ◌==◌, ◌+◌, ◌-◌, ◌*◌, ◌<◌, ◌≤◌, inl, inr, refl, sym, ap, subst, ◌∙◌, arith, List, [], ◌∷◌, ◌++◌, map, Option, None, Some}
use Rattle.std.specs.Prelude.{int_lt, nat_abs, Ok, nat_le, nat_lt, if◌then◌else◌}
use Rattle.std.specs.List.{list_all}
use Rattle.std.proofs.lemmas.Bool.{and_parts, cases_eq, eqb-true, eq-eqb, le-leb, leb-true, ltb-false, ltb-true, ne_eqb}
use Rattle.std.proofs.lemmas.Bool.Decides.{nat_tests}
use Rattle.std.proofs.lemmas.Option.{same_Some}
use Rattle.process_laws.proofs.Grants.{around_above, Found, here, skipped}
use Rattle.process_laws.specs.Pages.{Grant, grant, grant_in, has_cow_mark, has_mark, has_dirty_mark, heap_grant, image_size, is_between, loads_grant, mapping_grant}
use Rattle.process_model.specs.Bytes.{pages_for}
use Rattle.process_model.proofs.GrantLaws.{none_true, size_granted}
use Rattle.process_model.specs.Heap.{heap_limit, resized, size_refusal, without_pages}
use Rattle.process_model.specs.Images.{end_of_loads, end_page, LoadSegment}
use Rattle.process_model.specs.Insertion.{inserted_here, inserted_other}
use Rattle.process_model.specs.ImageProcess.{guard_at, image_pages, numbered, process_of, segment_region, stack_at}
use Rattle.process_model.specs.Mappings.{back_of, fits_at, front_of, is_apart, mapping_around, mapping_of, moved_along, with_instead, with_mapping}
use Rattle.process_model.specs.Order.{IsInOrder, Row}
use Rattle.process_model.specs.PageMap.{from_list, get, insert}
use Rattle.process_model.specs.Process.{heap_of, Page, Process}
use Rattle.process_model.proofs.RegionRows.{row_up}
use Rattle.process_model.specs.Regions.{end_of, file, guard, heap, holds_page, image, Region, region_at, segment, stack, zeros}
use Rattle.process_model.specs.World.{is_unserved_access}
use Rattle.process_model.specs.declared.reply.Refusal.TheVariants.{BadSize, NoRoom}
use Rattle.sv39_entry.specs.Address.{page_of}
use Rattle.sv39_entry.specs.declared.scheme.Scheme.{Scheme}
use Rattle.sv39_entry.specs.Schemes.{trapframe_page}

-- ---- rows

none_above : (least low high page : ℕ) (rs : List Region) → Row least low rs high → high ≤ page → Found rs page ≡ None
none_above least low high page [] row le = refl
none_above least low high page (r ∷ rs) row le =
    let end = row_up least (end_of r) high rs row.2 in
    let out : holds_page r page ≡ false = grind (arith, nat_tests, end, le) in
    skipped r rs page out ∙ none_above least (end_of r) high page rs row.2 le

pub none_below : (least low high page : ℕ) (rs : List Region) → Row least low rs high → page < low → Found rs page ≡ None
none_below least low high page [] row less = refl
none_below least low high page (r ∷ rs) row less =
    let start = row.0 in
    let out : holds_page r page ≡ false = grind (arith, nat_tests, start, less) in
    skipped r rs page out ∙ none_below least (end_of r) high page rs row.2 (omega (arith, start, less))

-- nor below the first
under_limit : (z : Scheme) (least low high limit page : ℕ) (rs : List Region) → Row least low rs high → limit ≤ heap_limit z rs → page < limit → Found rs page ≡ None
under_limit z least low high limit page [] row le less = refl
under_limit z least low high limit page (r ∷ rs) row le less = none_below least r.first high page (r ∷ rs) (omega arith, row.1, row.2) (omega (arith, le, less))

-- in front there is nothing
past_none : (front back : List Region) (page : ℕ) → Found front page ≡ None → Found (front ++ back) page ≡ Found back page
past_none [] back page e = refl
past_none (r ∷ front) back page e = elim (holds_page r page) as (λ b. grant_in (cond b (Some r) (region_at front page)) page ≡ None → grant_in (cond b (Some r) (region_at (front ++ back) page)) page ≡ Found back page) [
  | true ↦ λ some. absurd cc
  | false ↦ λ none. past_none front back page none
] e

append_again : (xs ys zs : List Region) → (xs ++ ys) ++ zs ≡ xs ++ (ys ++ zs)
append_again [] ys zs = refl
append_again (x ∷ xs) ys zs = ap (λ rs. x ∷ rs) (append_again xs ys zs)

-- ---- the heap

in_heap : (first new page : ℕ) → first ≤ page → page < new → (nat_le first page && nat_lt page (first + (new - first))) ≡ true
in_heap first new page le less = grind (arith, nat_tests)

above_heap : (first new page : ℕ) → first ≤ new → new ≤ page → (nat_le first page && nat_lt page (first + (new - first))) ≡ false
above_heap first new page le past = grind (arith, nat_tests)

either : (a b : Bool) → (a || b) ≡ true → a ≡ false → b ≡ true
either true b e f = absurd cc
either false b e f = e

between : (first end page : ℕ) → is_between first end page ≡ true → (first ≤ page) × (page < end)
between first end page e = let parts = and_parts (nat_le first page) (nat_lt page end) e in (leb-true first page parts.0, ltb-true page end parts.1)

module _ (p : Process) (order : IsInOrder p) (page : ℕ) where
  past_parts : (rest : List Region) → page_of p.heap_base ≤ page → Found (p.parts ++ rest) page ≡ Found rest page
  past_parts rest le = past_none p.parts rest page (none_above 1 0 (page_of p.heap_base) page p.parts order.parts le)

  module _ (wanted : ℤ) (none : size_refusal p wanted ≡ None) where
    abbrev new : ℕ
    new = pages_for (nat_abs wanted)

    abbrev old : ℕ
    old = pages_for p.size

    abbrev q : Process
    q = resized p (nat_abs wanted)

    resized_at : (b : Bool) → nat_lt page new ≡ b → (is_between new old page || is_between old new page) ≡ true → grant q page ≡ (if b then Some heap_grant else None)
    resized_at true less e =
        let below = ltb-true page new less in
        let not : is_between new old page ≡ false = grind (arith, nat_tests, below) in
        let t = between old new page (either (is_between new old page) (is_between old new page) e not) in
        let room = order.room in
        let le : page_of p.heap_base ≤ page = omega (arith, room, t.0) in
        past_parts (heap_of q ∷ p.mappings) le ∙ here (heap_of q) p.mappings page (in_heap (page_of p.heap_base) new page le below)
    resized_at false past e =
        let above = ltb-false page new past in
        let not : is_between old new page ≡ false = grind (arith, nat_tests, above) in
        let t = between new old page (first_of (is_between new old page) (is_between old new page) e not) in
        let base = (size_granted p wanted none).0 in
        let start : page_of p.heap_base ≤ new = omega (arith, base) in
        let le : page_of p.heap_base ≤ page = omega (arith, start, above) in
        past_parts (heap_of q ∷ p.mappings) le ∙ skipped (heap_of q) p.mappings page (above_heap (page_of p.heap_base) new page start above) ∙ none_below 1 old (trapframe_page p.scheme) page p.mappings order.above t.1
      where
        first_of : (a b : Bool) → (a || b) ≡ true → b ≡ false → a ≡ true
        first_of true b e f = refl
        first_of false b e f = absurd (let no : true ≡ false = sym e ∙ f in cc)

    -- it is not below the heap's base
    base_at : (b : Bool) → nat_lt page new ≡ b → (is_between new old page || is_between old new page) ≡ true → page_of p.heap_base ≤ page
    base_at true less e =
        let below = ltb-true page new less in
        let not : is_between new old page ≡ false = grind (arith, nat_tests, below) in
        let t = between old new page (either (is_between new old page) (is_between old new page) e not) in
        let room = order.room in
        omega (arith, room, t.0)
    base_at false past e =
        let above = ltb-false page new past in
        let base = (size_granted p wanted none).0 in
        let start : page_of p.heap_base ≤ new = omega (arith, base) in
        omega (arith, start, above)

    pub resized_base : (is_between new old page || is_between old new page) ≡ true → nat_le (page_of p.heap_base) page ≡ true
    resized_base e = le-leb (page_of p.heap_base) page (base_at (nat_lt page new) refl e)

    -- the size is what was asked for
    pub resized_size : pos (nat_abs wanted) ≡ wanted
    resized_size = whole wanted (none_true ((int_lt wanted (pos p.heap_base), BadSize) ∷ (nat_lt (heap_limit p.scheme p.mappings) (pages_for (nat_abs wanted)), NoRoom) ∷ []) none).0
      where
        whole : (z : ℤ) → int_lt z (pos p.heap_base) ≡ false → pos (nat_abs z) ≡ z
        whole (pos n) e = refl
        whole (negsuc n) e = absurd cc

    pub resized_given : (is_between new old page || is_between old new page) ≡ true → grant q page ≡ (if nat_lt page new then Some heap_grant else None)
    resized_given e = resized_at (nat_lt page new) refl e

    -- a page that the heap gets was nobody's, and one that it loses is
    vacant_at : (b : Bool) → nat_lt page new ≡ b → (is_between new old page || is_between old new page) ≡ true → (grant p page ≡ None) ⊎ (grant q page ≡ None)
    vacant_at true less e =
        let below = ltb-true page new less in
        let not : is_between new old page ≡ false = grind (arith, nat_tests, below) in
        let t = between old new page (either (is_between new old page) (is_between old new page) e not) in
        let room = order.room in
        let start : page_of p.heap_base ≤ old = room in
        inl (past_parts (heap_of p ∷ p.mappings) (omega (arith, start, t.0)) ∙ skipped (heap_of p) p.mappings page (above_heap (page_of p.heap_base) old page start t.0) ∙ under_limit p.scheme 1 old (trapframe_page p.scheme) new page p.mappings order.above (size_granted p wanted none).1 t.1)
    vacant_at false past e = inr (resized_given e ∙ ap (λ b. if b then Some heap_grant else None) past)

    pub resized_vacant : (is_between new old page || is_between old new page) ≡ true → (grant p page ≡ None) ⊎ (grant q page ≡ None)
    resized_vacant e = vacant_at (nat_lt page new) refl e

  -- above the heap
  pub past_heap : (rest : List Region) → pages_for p.size ≤ page → Found (p.parts ++ heap_of p ∷ rest) page ≡ Found rest page
  past_heap rest above =
      let room = order.room in
      past_parts (heap_of p ∷ rest) (omega (arith, room, above)) ∙ skipped (heap_of p) rest page (above_heap (page_of p.heap_base) (pages_for p.size) page room above)

  -- ---- mmap

  outside : (r m : Region) → holds_page r page ≡ true → is_apart r.first r.pages m ≡ true → holds_page m page ≡ false
  outside r m inside apart = grind (arith, nat_tests)

  with_there : (r : Region) (ms : List Region) → holds_page r page ≡ true → list_all (is_apart r.first r.pages) ms ≡ true → Found (with_mapping r ms) page ≡ grant_in (Some r) page
  with_there r [] inside apart = here r [] page inside
  with_there r (m ∷ ms) inside apart = elim (nat_lt r.first m.first) as (λ b. Found (cond b (r ∷ m ∷ ms) (m ∷ with_mapping r ms)) page ≡ grant_in (Some r) page) [
    | true ↦ here r (m ∷ ms) page inside
    | false ↦
        let parts = and_parts (is_apart r.first r.pages m) (list_all (is_apart r.first r.pages) ms) apart in
        let out : holds_page m page ≡ false = outside r m inside parts.0 in
        skipped m (with_mapping r ms) page out ∙ with_there r ms inside parts.1
  ]

  pub mapped_given : (r : Region) → fits_at p r.pages r.first ≡ true → holds_page r page ≡ true → grant (record p { mappings = with_mapping r p.mappings }) page ≡ grant_in (Some r) page
  mapped_given r fits inside =
      let outer = and_parts (nat_le (pages_for p.size) r.first && nat_le (r.first + r.pages) (trapframe_page p.scheme)) (list_all (is_apart r.first r.pages) p.mappings) fits in
      let inner = and_parts (nat_le (pages_for p.size) r.first) (nat_le (r.first + r.pages) (trapframe_page p.scheme)) outer.0 in
      let start = leb-true (pages_for p.size) r.first inner.0 in
      let in_it = between r.first (end_of r) page inside in
      past_heap (with_mapping r p.mappings) (omega (arith, start, in_it.0)) ∙ with_there r p.mappings inside outer.1

  pub mapped_above : (r : Region) → fits_at p r.pages r.first ≡ true → holds_page r page ≡ true → nat_le (pages_for p.size) page ≡ true
  mapped_above r fits inside =
      let outer = and_parts (nat_le (pages_for p.size) r.first && nat_le (r.first + r.pages) (trapframe_page p.scheme)) (list_all (is_apart r.first r.pages) p.mappings) fits in
      let inner = and_parts (nat_le (pages_for p.size) r.first) (nat_le (r.first + r.pages) (trapframe_page p.scheme)) outer.0 in
      let start = leb-true (pages_for p.size) r.first inner.0 in
      let in_it = between r.first (end_of r) page inside in
      le-leb (pages_for p.size) page (omega (arith, start, in_it.0))

  apart_none : (r : Region) (ms : List Region) → holds_page r page ≡ true → list_all (is_apart r.first r.pages) ms ≡ true → Found ms page ≡ None
  apart_none r [] inside apart = refl
  apart_none r (m ∷ ms) inside apart =
      let parts = and_parts (is_apart r.first r.pages m) (list_all (is_apart r.first r.pages) ms) apart in
      skipped m ms page (outside r m inside parts.0) ∙ apart_none r ms inside parts.1

  -- the pages were nobody's
  pub mapped_vacant : (r : Region) → fits_at p r.pages r.first ≡ true → holds_page r page ≡ true → grant p page ≡ None
  mapped_vacant r fits inside =
      let outer = and_parts (nat_le (pages_for p.size) r.first && nat_le (r.first + r.pages) (trapframe_page p.scheme)) (list_all (is_apart r.first r.pages) p.mappings) fits in
      let inner = and_parts (nat_le (pages_for p.size) r.first) (nat_le (r.first + r.pages) (trapframe_page p.scheme)) outer.0 in
      let start = leb-true (pages_for p.size) r.first inner.0 in
      let in_it = between r.first (end_of r) page inside in
      past_heap p.mappings (omega (arith, start, in_it.0)) ∙ apart_none r p.mappings inside outer.1

  -- ---- munmap

  module _ (first end : ℕ) (inside : is_between first end page ≡ true) where
    from : first ≤ page
    from = (between first end page inside).0

    to : page < end
    to = (between first end page inside).1

    front_out : (m : Region) → m.first ≤ first → holds_page (record m { pages = first - m.first }) page ≡ false
    front_out m le = let start = from in grind (arith, nat_tests, start, le)

    front_none : (m : Region) → m.first ≤ first → (b : Bool) (other : List Region) → Found (cond b (record m { pages = first - m.first } ∷ []) [] ++ other) page ≡ Found other page
    front_none m le true other = skipped (record m { pages = first - m.first }) other page (front_out m le)
    front_none m le false other = refl

    back_out : (m : Region) → holds_page (record m { first = end; pages = end_of m - end; source = moved_along m.source (end - m.first) }) page ≡ false
    back_out m = let stop = to in grind (arith, nat_tests, stop)

    back_none : (m : Region) (b : Bool) (other : List Region) → Found (cond b (record m { first = end; pages = end_of m - end; source = moved_along m.source (end - m.first) } ∷ []) [] ++ other) page ≡ Found other page
    back_none m true other = skipped (record m { first = end; pages = end_of m - end; source = moved_along m.source (end - m.first) }) other page (back_out m)
    back_none m false other = refl

    around_in : (ms : List Region) (m : Region) → mapping_around ms first end ≡ Some m → (m.first ≤ first) × (end ≤ end_of m)
    around_in [] m e = absurd cc
    around_in (x ∷ ms) m e = elim (nat_le x.first first && nat_le end (end_of x)) as (λ t. (nat_le x.first first && nat_le end (end_of x)) ≡ t → cond t (Some x) (mapping_around ms first end) ≡ Some m → (m.first ≤ first) × (end ≤ end_of m)) [
      | true ↦ λ fits is.
          let parts = and_parts (nat_le x.first first) (nat_le end (end_of x)) fits in
          subst (λ (r : Region). (r.first ≤ first) × (end ≤ end_of r)) (same_Some x m is) (leb-true x.first first parts.0, leb-true end (end_of x) parts.1)
      | false ↦ λ fits is. around_in ms m is
    ] refl e

    instead_none : (low high : ℕ) (ms : List Region) (m : Region) → Row 1 low ms high → mapping_around ms first end ≡ Some m → Found (with_instead ms m.first (front_of m first ++ back_of m end)) page ≡ None
    instead_none low high [] m row e = absurd cc
    instead_none low high (x ∷ ms) m row e =
        elim (nat_le x.first first && nat_le end (end_of x)) as (λ t. (nat_le x.first first && nat_le end (end_of x)) ≡ t → cond t (Some x) (mapping_around ms first end) ≡ Some m
        → Found (with_instead (x ∷ ms) m.first (front_of m first ++ back_of m end)) page ≡ None) [
          | true ↦ λ fits is.
              let parts = and_parts (nat_le x.first first) (nat_le end (end_of x)) fits in
              let stop = leb-true end (end_of x) parts.1 in
              let under = to in
              ap (λ (r : Region). Found (with_instead (x ∷ ms) r.first (front_of r first ++ back_of r end)) page) (sym (same_Some x m is))
              ∙ ap (λ t. Found (cond t ((front_of x first ++ back_of x end) ++ ms) (x ∷ with_instead ms x.first (front_of x first ++ back_of x end))) page) (eq-eqb x.first x.first refl)
              ∙ ap (λ rs. Found rs page) (append_again (front_of x first) (back_of x end) ms)
              ∙ front_none x (leb-true x.first first parts.0) (nat_lt x.first first) (back_of x end ++ ms)
              ∙ back_none x (nat_lt end (end_of x)) ms
              ∙ none_below 1 (end_of x) high page ms row.2 (omega (arith, stop, under))
          | false ↦ λ fits is.
              let above : end_of x ≤ m.first = around_above (end_of x) high first end ms m row.2 is in
              let some : 1 ≤ x.pages = row.1 in
              let apart : (x.first == m.first) ≡ false = ne_eqb x.first m.first (λ same. omega (arith, above, some, same)) in
              let start = from in
              let le = (around_in ms m is).0 in
              let out : holds_page x page ≡ false = grind (arith, nat_tests, above, start, le) in
              ap (λ t. Found (cond t ((front_of m first ++ back_of m end) ++ ms) (x ∷ with_instead ms m.first (front_of m first ++ back_of m end))) page) apart
              ∙ skipped x (with_instead ms m.first (front_of m first ++ back_of m end)) page out
              ∙ instead_none (end_of x) high ms m row.2 is
        ] refl e

    pub unmapped_given : (m : Region) → mapping_around p.mappings first end ≡ Some m → grant (record (without_pages p first end) { mappings = with_instead p.mappings m.first (front_of m first ++ back_of m end) }) page ≡ None
    unmapped_given m around =
        let above = around_above (pages_for p.size) (trapframe_page p.scheme) first end p.mappings m order.above around in
        let le = (around_in p.mappings m around).0 in
        let start = from in
        past_heap (with_instead p.mappings m.first (front_of m first ++ back_of m end)) (omega (arith, above, le, start)) ∙ instead_none (pages_for p.size) (trapframe_page p.scheme) p.mappings m order.above around

    pub unmapped_above : (m : Region) → mapping_around p.mappings first end ≡ Some m → nat_le (pages_for p.size) page ≡ true
    unmapped_above m around =
        let above = around_above (pages_for p.size) (trapframe_page p.scheme) first end p.mappings m order.above around in
        let le = (around_in p.mappings m around).0 in
        let start = from in
        le-leb (pages_for p.size) page (omega (arith, above, le, start))

-- ---- mmap, as it is asked for

pub mapping_given : (first pages protection flags n page : ℕ) → grant_in (Some (mapping_of first pages protection flags n)) page ≡ Some (mapping_grant protection flags n (page - first))
mapping_given first pages protection flags n page = ap (λ o. let g : Grant = record (mapping_grant protection flags n (page - first)) { source = file n o } in Some g) (omega arith)

-- ---- images

heap_none : (end page : ℕ) → (nat_le (page_of (4096 * (end + 2))) page && nat_lt page (page_of (4096 * (end + 2)) + (pages_for (4096 * (end + 2)) - page_of (4096 * (end + 2))))) ≡ false
heap_none end page = let first : page_of (4096 * (end + 2)) ≡ end + 2 = omega arith in let pages : pages_for (4096 * (end + 2)) ≡ end + 2 = omega arith in grind (arith, nat_tests, first, pages)

module _ (page : ℕ) (heap : ℕ → Region) (none : (end : ℕ) → holds_page (heap end) page ≡ false) where
  behind : ℕ → List Region
  behind end = guard_at end ∷ stack_at (end + 1) ∷ heap end ∷ []

  last_grant : (end : ℕ) → Found (behind end) page ≡ loads_grant end [] page
  unfolding behind
  last_grant end =
      elim (page == end) as (λ b. (page == end) ≡ b → Found (guard_at end ∷ stack_at (end + 1) ∷ heap end ∷ []) page
      ≡ (if b then Some (record { reads = false; writes = false; executes = false; kind = guard; source = zeros }) else if page == end + 1 then Some (record { reads = true; writes = true; executes = false; kind = stack; source = zeros }) else None)) [
        | true ↦ λ e. here (guard_at end) (stack_at (end + 1) ∷ heap end ∷ []) page (let same = eqb-true page end e in grind (arith, nat_tests, same))
        | false ↦ λ e. skipped (guard_at end) (stack_at (end + 1) ∷ heap end ∷ []) page (grind (arith, nat_tests, e))
            ∙ elim (page == end + 1) as (λ b. (page == end + 1) ≡ b → Found (stack_at (end + 1) ∷ heap end ∷ []) page
            ≡ (if b then Some (record { reads = true; writes = true; executes = false; kind = stack; source = zeros }) else None)) [
              | true ↦ λ f. here (stack_at (end + 1)) (heap end ∷ []) page (let same = eqb-true page (end + 1) f in grind (arith, nat_tests, same))
              | false ↦ λ f. skipped (stack_at (end + 1)) (heap end ∷ []) page (grind (arith, nat_tests, f)) ∙ skipped (heap end) [] page (none end)
            ] refl
      ] refl

  loads_at : (end : ℕ) (ls : List LoadSegment) → Found (map segment_region ls ++ behind (end_of_loads end ls)) page ≡ loads_grant end ls page
  loads_at end [] = last_grant end
  loads_at end (l ∷ ls) = elim (holds_page (segment_region l) page) as (λ b. grant_in (cond b (Some (segment_region l)) (region_at (map segment_region ls ++ behind (end_of_loads (end_page l) ls)) page)) page
      ≡ cond b (Some (record { reads = true; writes = l.writes; executes = l.executes; kind = segment; source = image })) (loads_grant (end_page l) ls page)) [
        | true ↦ refl
        | false ↦ loads_at (end_page l) ls
      ]

pub image_given : (z : Scheme) (fresh : ℕ) (ls : List LoadSegment) (page : ℕ) → grant (process_of z fresh ls) page ≡ loads_grant 0 ls page
unfolding process_of behind
image_given z fresh ls page =
    let heap : ℕ → Region = λ end. record { first = page_of (4096 * (end + 2)); pages = pages_for (4096 * (end + 2)) - page_of (4096 * (end + 2)); reads = true; writes = true; executes = false; kind = heap; source = zeros } in
    ap (λ rs. Found rs page) (append_again (map segment_region ls) (guard_at (end_of_loads 0 ls) ∷ stack_at (end_of_loads 0 ls + 1) ∷ []) (heap (end_of_loads 0 ls) ∷ []))
    ∙ loads_at page heap (λ end. heap_none end page) 0 ls

pub mark_at : (mark : Page → Bool) (o u : Option Page) → o ≡ u → has_mark mark o ≡ has_mark mark u
mark_at mark o u e = ap (has_mark mark) e

listed_unmarked : (fresh : ℕ) (es : List (ℕ × List ℕ)) (page : ℕ) → (has_mark (λ z. z.cow) (get (from_list (numbered fresh es)) page) ≡ false) × (has_mark (λ z. z.dirty) (get (from_list (numbered fresh es)) page) ≡ false)
listed_unmarked fresh [] page = (refl, refl)
listed_unmarked fresh (e ∷ es) page =
    let rest = from_list (numbered (fresh + 1) es) in
    let new : Page = record { bytes = e.1; copy = fresh; cow = false; dirty = false } in
    let later = listed_unmarked (fresh + 1) es page in
    elim (cases_eq page e.0) [
      | inl same ↦ let is = inserted_here e.0 new rest page same in (mark_at (λ z. z.cow) (get (insert rest e.0 new) page) (Some new) is, mark_at (λ z. z.dirty) (get (insert rest e.0 new) page) (Some new) is)
      | inr apart ↦ let is = inserted_other e.0 new rest page apart in (
        mark_at (λ z. z.cow) (get (insert rest e.0 new) page) (get rest page) is ∙ later.0,
        mark_at (λ z. z.dirty) (get (insert rest e.0 new) page) (get rest page) is ∙ later.1,
      )
    ]

pub image_unmarked : (z : Scheme) (fresh : ℕ) (ls : List LoadSegment) (page : ℕ) → (has_cow_mark (process_of z fresh ls) page ≡ false) × (has_dirty_mark (process_of z fresh ls) page ≡ false)
unfolding process_of
image_unmarked z fresh ls page = listed_unmarked fresh (image_pages ls) page

pub image_idle : (z : Scheme) (fresh : ℕ) (ls : List LoadSegment) → is_unserved_access (process_of z fresh ls).pending ≡ false
unfolding process_of
image_idle z fresh ls = refl

pub image_sized : (z : Scheme) (fresh : ℕ) (ls : List LoadSegment) → (process_of z fresh ls).size ≡ image_size (Ok ls)
unfolding process_of
image_sized z fresh ls = refl

-- its heap begins at its size
pub image_based : (z : Scheme) (fresh : ℕ) (ls : List LoadSegment) → (process_of z fresh ls).heap_base ≡ (process_of z fresh ls).size
unfolding process_of
image_based z fresh ls = refl
