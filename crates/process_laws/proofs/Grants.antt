-- Lemmas: a page outside the range that sbrk, mmap or munmap maps or unmaps keeps its grant (rights, kind of region, source
-- of bytes) and what it has in memory (`SameAt`). Also what is found for a page in a list of regions, and which pages stay
-- when a range is released.
use Rattle.std.proofs.Common.{◌≡◌, ℕ, Bool, true, false, cond, not, ◌&&◌, ◌||◌, ◌==◌, ◌+◌, ◌-◌, ◌≤◌, refl, sym, ap, ◌∙◌, arith, List, [], ◌∷◌, ◌++◌, Option, None, Some}
use Rattle.std.specs.Prelude.{nat_le, nat_lt}
use Rattle.std.specs.Ordering.{nat_cmp}
use Rattle.std.specs.FinMap.Entries.{find-where_key}
use Rattle.std.proofs.lemmas.Bool.{and_parts, eq-eqb, leb-true, ne_eqb}
use Rattle.std.proofs.lemmas.Bool.Decides.{nat_tests}
use Rattle.std.proofs.lemmas.Option.{same_Some}
use Rattle.process_laws.proofs.PageBytes.{tied_are_same}
use Rattle.process_laws.specs.Pages.{Grant, grant, grant_in, is_between, pages_on}
use Rattle.process_model.specs.Bytes.{pages_for}
use Rattle.process_model.specs.Heap.{resized, without_pages}
use Rattle.process_model.specs.Mappings.{back_of, front_of, mapping_around, moved_along, with_instead, with_mapping}
use Rattle.process_model.specs.Order.{Row}
use Rattle.process_model.specs.PageMap.{get, only}
use Rattle.process_model.specs.Process.{heap_of, Process}
use Rattle.process_model.specs.Regions.{end_of, file, holds_page, image, Region, region_at, Source, zeros}
use Rattle.sv39_entry.specs.Address.{page_of}

-- ---- one page

-- a page that is what it was, and on the same grant
pub record SameAt (p q : Process) (page : ℕ) : Type 0 where
  pub grants : grant q page ≡ grant p page
  pub settled : get q.settled page ≡ get p.settled page

-- ---- lists of regions

abbrev pub Found : List Region → ℕ → Option Grant
Found rs page = grant_in (region_at rs page) page

behind_same : (front back other : List Region) (page : ℕ) → Found back page ≡ Found other page → Found (front ++ back) page ≡ Found (front ++ other) page
behind_same [] back other page e = e
behind_same (r ∷ front) back other page e = elim (holds_page r page) as (λ b. grant_in (cond b (Some r) (region_at (front ++ back) page)) page ≡ grant_in (cond b (Some r) (region_at (front ++ other) page)) page) [
  | true ↦ refl
  | false ↦ behind_same front back other page e
]

first_same : (a b : Region) (rest : List Region) (page : ℕ) → holds_page a page ≡ holds_page b page → grant_in (Some a) page ≡ grant_in (Some b) page → Found (a ∷ rest) page ≡ Found (b ∷ rest) page
first_same a b rest page same grants =
    ap (λ t. grant_in (cond t (Some a) (region_at rest page)) page) same
    ∙ elim (holds_page b page) as (λ t. grant_in (cond t (Some a) (region_at rest page)) page ≡ grant_in (cond t (Some b) (region_at rest page)) page) [
      | true ↦ grants
      | false ↦ refl
    ]

pub skipped : (r : Region) (rest : List Region) (page : ℕ) → holds_page r page ≡ false → Found (r ∷ rest) page ≡ Found rest page
skipped r rest page e = ap (λ t. grant_in (cond t (Some r) (region_at rest page)) page) e

pub here : (r : Region) (rest : List Region) (page : ℕ) → holds_page r page ≡ true → Found (r ∷ rest) page ≡ grant_in (Some r) page
here r rest page e = ap (λ t. grant_in (cond t (Some r) (region_at rest page)) page) e

-- ---- pages that are kept

kept_get : (f : ℕ → Bool) (p : Process) (page : ℕ) → f page ≡ true → get (only f p.settled) page ≡ get p.settled page
kept_get f p page e = find-where_key nat_cmp f page (λ x e. ap f (sym (tied_are_same page x e))) p.settled.entries ∙ ap (λ b. cond b (get p.settled page) None) e

kept_out : (first end page : ℕ) → is_between first end page ≡ false → (nat_lt page first || nat_le end page) ≡ true
kept_out first end page e = grind (arith, nat_tests)

pub outside_settled : (p : Process) (first end page : ℕ) → is_between first end page ≡ false → get (without_pages p first end).settled page ≡ get p.settled page
outside_settled p first end page e = kept_get (λ n. nat_lt n first || nat_le end n) p page (kept_out first end page e)

none_out : (first end page : ℕ) → is_between first end page ≡ true → (nat_lt page first || nat_le end page) ≡ false
none_out first end page e = grind (arith, nat_tests)

pub inside_released : (p : Process) (first end page : ℕ) → is_between first end page ≡ true → get (without_pages p first end).settled page ≡ None
inside_released p first end page e =
    let f : ℕ → Bool = λ n. nat_lt n first || nat_le end n in
    find-where_key nat_cmp f page (λ x e. ap f (sym (tied_are_same page x e))) p.settled.entries ∙ ap (λ b. cond b (get p.settled page) None) (none_out first end page e)

-- ---- the heap

neither : (a b : Bool) → (a || b) ≡ false → (a ≡ false) × (b ≡ false)
neither true b e = absurd cc
neither false b e = (refl, e)

same_end : (first old new page : ℕ) → is_between new old page ≡ false → is_between old new page ≡ false → (nat_le first page && nat_lt page (first + (new - first))) ≡ (nat_le first page && nat_lt page (first + (old - first)))
same_end first old new page e f = grind (arith, nat_tests)

pub resized_same : (p : Process) (size page : ℕ) → (is_between (pages_for size) (pages_for p.size) page || is_between (pages_for p.size) (pages_for size) page) ≡ false → SameAt p (resized p size) page
resized_same p size page e =
    let both = neither (is_between (pages_for size) (pages_for p.size) page) (is_between (pages_for p.size) (pages_for size) page) e in
    let q = resized p size in
    record {
      grants = behind_same p.parts (heap_of q ∷ p.mappings) (heap_of p ∷ p.mappings) page
          (first_same (heap_of q) (heap_of p) p.mappings page (same_end (page_of p.heap_base) (pages_for p.size) (pages_for size) page both.0 both.1) refl);
      settled = outside_settled p (pages_for size) (pages_for p.size) page both.0;
    }

-- ---- mappings

with_same : (r : Region) (ms : List Region) (page : ℕ) → holds_page r page ≡ false → Found (with_mapping r ms) page ≡ Found ms page
with_same r [] page e = skipped r [] page e
with_same r (m ∷ ms) page e = elim (nat_lt r.first m.first) as (λ b. Found (cond b (r ∷ m ∷ ms) (m ∷ with_mapping r ms)) page ≡ Found (m ∷ ms) page) [
  | true ↦ skipped r (m ∷ ms) page e
  | false ↦ behind_same (m ∷ []) (with_mapping r ms) ms page (with_same r ms page e)
]

pub mapped_same : (p : Process) (r : Region) (page : ℕ) → holds_page r page ≡ false → SameAt p (record p { mappings = with_mapping r p.mappings }) page
mapped_same p r page e = record {
  grants = behind_same p.parts (heap_of p ∷ with_mapping r p.mappings) (heap_of p ∷ p.mappings) page (behind_same (heap_of p ∷ []) (with_mapping r p.mappings) p.mappings page (with_same r p.mappings page e));
  settled = refl;
}

-- a run that goes at the start or the end of a mapping

along : (s : Source) (a b c : ℕ) → a + b ≡ c → pages_on (moved_along s a) b ≡ pages_on s c
along zeros a b c e = refl
along image a b c e = refl
along (file n offset) a b c e = ap (file n) (omega (arith, e))

module _ (m : Region) (first end page : ℕ) (rest : List Region) (le : first ≤ end) (start : m.first ≤ first) (stop : end ≤ end_of m) (out : is_between first end page ≡ false) where
  abbrev front : Region
  front = record m { pages = first - m.first }

  abbrev back : Region
  back = record m { first = end; pages = end_of m - end; source = moved_along m.source (end - m.first) }

  back_grant : end ≤ page → grant_in (Some back) page ≡ grant_in (Some m) page
  back_grant l = ap (λ s. Some (record { reads = m.reads; writes = m.writes; executes = m.executes; kind = m.kind; source = s })) (along m.source (end - m.first) (page - end) (page - m.first) (omega (arith, l, le, start)))

  front_holds : holds_page front page ≡ (holds_page m page && nat_lt page first)
  front_holds = grind (arith, nat_tests)

  back_holds : holds_page back page ≡ (holds_page m page && nat_le end page)
  back_holds = grind (arith, nat_tests)

  where_out : nat_lt page first ≡ not (nat_le end page)
  where_out = grind (arith, nat_tests)

  front_there : (b : Bool) → nat_lt m.first first ≡ b → (other : List Region) → Found (cond b (front ∷ []) [] ++ other) page ≡ grant_in (cond (holds_page m page && nat_lt page first) (Some front) (region_at other page)) page
  front_there true e other = ap (λ t. grant_in (cond t (Some front) (region_at other page)) page) front_holds
  front_there false e other = ap (λ t. grant_in (cond t (Some front) (region_at other page)) page) none
    where
      none : false ≡ (holds_page m page && nat_lt page first)
      none = grind (arith, nat_tests)

  back_there : (b : Bool) → nat_lt end (end_of m) ≡ b → (other : List Region) → Found (cond b (back ∷ []) [] ++ other) page ≡ grant_in (cond (holds_page m page && nat_le end page) (Some back) (region_at other page)) page
  back_there true e other = ap (λ t. grant_in (cond t (Some back) (region_at other page)) page) back_holds
  back_there false e other = ap (λ t. grant_in (cond t (Some back) (region_at other page)) page) none
    where
      none : false ≡ (holds_page m page && nat_le end page)
      none = grind (arith, nat_tests)

  pieces : (h past : Bool) → nat_le end page ≡ past → grant_in (cond (h && not past) (Some front) (cond (h && past) (Some back) (region_at rest page))) page ≡ grant_in (cond h (Some m) (region_at rest page)) page
  pieces true true e = back_grant (leb-true end page e)
  pieces true false e = refl
  pieces false past e = refl

  append_again : (xs ys zs : List Region) → (xs ++ ys) ++ zs ≡ xs ++ (ys ++ zs)
  append_again [] ys zs = refl
  append_again (x ∷ xs) ys zs = ap (λ rs. x ∷ rs) (append_again xs ys zs)

  in_pieces : Found ((front_of m first ++ back_of m end) ++ rest) page ≡ Found (m ∷ rest) page
  in_pieces =
      ap (λ rs. Found rs page) (append_again (front_of m first) (back_of m end) rest)
      ∙ front_there (nat_lt m.first first) refl (back_of m end ++ rest)
      ∙ elim (holds_page m page && nat_lt page first) as (λ t. grant_in (cond t (Some front) (region_at (back_of m end ++ rest) page)) page
      ≡ grant_in (cond t (Some front) (cond (holds_page m page && nat_le end page) (Some back) (region_at rest page))) page) [
        | true ↦ refl
        | false ↦ back_there (nat_lt end (end_of m)) refl rest
      ]
      ∙ ap (λ t. grant_in (cond (holds_page m page && t) (Some front) (cond (holds_page m page && nat_le end page) (Some back) (region_at rest page))) page) where_out
      ∙ pieces (holds_page m page) (nat_le end page) refl

pub around_above : (low high first end : ℕ) (ms : List Region) (m : Region) → Row 1 low ms high → mapping_around ms first end ≡ Some m → low ≤ m.first
around_above low high first end [] m row e = absurd cc
around_above low high first end (x ∷ ms) m row e = elim (nat_le x.first first && nat_le end (end_of x)) as (λ t. cond t (Some x) (mapping_around ms first end) ≡ Some m → low ≤ m.first) [
  | true ↦ λ is. let same : x.first ≡ m.first = ap (λ (r : Region). r.first) (same_Some x m is) in let above = row.0 in omega (arith, above, same)
  | false ↦ λ is. let rest = around_above (end_of x) high first end ms m row.2 is in let above = row.0 in omega (arith, above, rest)
] e

instead_same : (low high first end page : ℕ) (ms : List Region) (m : Region) → first ≤ end → is_between first end page ≡ false → Row 1 low ms high → mapping_around ms first end ≡ Some m
    → Found (with_instead ms m.first (front_of m first ++ back_of m end)) page ≡ Found ms page
instead_same low high first end page [] m le out row e = absurd cc
instead_same low high first end page (x ∷ ms) m le out row e =
    elim (nat_le x.first first && nat_le end (end_of x)) as (λ t. (nat_le x.first first && nat_le end (end_of x)) ≡ t → cond t (Some x) (mapping_around ms first end) ≡ Some m
    → Found (with_instead (x ∷ ms) m.first (front_of m first ++ back_of m end)) page ≡ Found (x ∷ ms) page) [
      | true ↦ λ fits is.
          let parts = and_parts (nat_le x.first first) (nat_le end (end_of x)) fits in
          let same : x ≡ m = same_Some x m is in
          ap (λ (r : Region). Found (with_instead (x ∷ ms) r.first (front_of r first ++ back_of r end)) page) (sym same)
          ∙ ap (λ t. Found (cond t ((front_of x first ++ back_of x end) ++ ms) (x ∷ with_instead ms x.first (front_of x first ++ back_of x end))) page) (eq-eqb x.first x.first refl)
          ∙ in_pieces x first end page ms le (leb-true x.first first parts.0) (leb-true end (end_of x) parts.1) out
      | false ↦ λ fits is.
          let above : end_of x ≤ m.first = around_above (end_of x) high first end ms m row.2 is in
          let some : 1 ≤ x.pages = row.1 in
          let apart : (x.first == m.first) ≡ false = ne_eqb x.first m.first (λ same. omega (arith, above, some, same)) in
          ap (λ t. Found (cond t ((front_of m first ++ back_of m end) ++ ms) (x ∷ with_instead ms m.first (front_of m first ++ back_of m end))) page) apart
          ∙ behind_same (x ∷ []) (with_instead ms m.first (front_of m first ++ back_of m end)) ms page (instead_same (end_of x) high first end page ms m le out row.2 is)
    ] refl e

pub unmapped_same : (p : Process) (m : Region) (low high first end page : ℕ) → first ≤ end → is_between first end page ≡ false → Row 1 low p.mappings high → mapping_around p.mappings first end ≡ Some m
    → SameAt p (record (without_pages p first end) { mappings = with_instead p.mappings m.first (front_of m first ++ back_of m end) }) page
unmapped_same p m low high first end page le out row around =
    let now = with_instead p.mappings m.first (front_of m first ++ back_of m end) in
    record {
      grants = behind_same p.parts (heap_of p ∷ now) (heap_of p ∷ p.mappings) page (behind_same (heap_of p ∷ []) now p.mappings page (instead_same low high first end page p.mappings m le out row around));
      settled = outside_settled p first end page out;
    }
