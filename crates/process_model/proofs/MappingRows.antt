-- Laws of a process's mappings in order of address (`Row`): mmap adds one, munmap removes a run of pages from one, and the
-- order stays, as does what holds of each mapping (`IsMapping`). Also which mapping holds a page or a whole run, before and
-- after.
use Rattle.std.proofs.Common.{◌≡◌, ℕ, Bool, true, false, cond, ◌&&◌, ◌+◌, ◌-◌, ◌<◌, ◌≤◌, ◌⊎◌, inl, inr, refl, sym, ap, subst, ◌∙◌, arith}
use Rattle.std.proofs.Common.{List, [], ◌∷◌, ◌++◌, None, Some}
use Rattle.std.specs.Prelude.{◌==◌, nat_le, nat_lt}
use Rattle.std.specs.List.{list_all}
use Rattle.std.proofs.lemmas.Bool.{and_parts, cond-true, eq-eqb, leb-true, lt-ltb, ltb-false, ltb-true, ne_eqb, or_cases}
use Rattle.std.proofs.lemmas.Option.{same_Some}
use Rattle.process_model.specs.Heap.{heap_limit}
use Rattle.process_model.specs.Mappings.{back_of, front_of, is_apart, mapping_around, moved_along, with_instead, with_mapping}
use Rattle.process_model.specs.Order.{EachRegion, IsInReach, IsMapping, Row}
use Rattle.process_model.proofs.RegionRows.{each_append, held, here, here_or_later, holds, in_first, none_in_first, not_held, own_rights}
use Rattle.process_model.proofs.RegionRows.{passed, row_append, row_outside, row_within, SameRights}
use Rattle.process_model.specs.Regions.{Region, Source, end_of, file, image, region_at, zeros}
use Rattle.sv39_entry.specs.Schemes.{trapframe_page}
use Rattle.sv39_entry.specs.declared.scheme.Scheme.{Scheme}

-- ---- above the heap

pub above_limit : (s : Scheme) (low at : ℕ) (ms : List Region) → at ≤ heap_limit s ms → Row 1 low ms (trapframe_page s) → Row 1 at ms (trapframe_page s)
above_limit s low at [] le row = le
above_limit s low at (m ∷ ms) le row = (le, row.1, row.2)

-- ---- mmap adds a mapping

-- pages that are apart from a region end at or below its first page, or begin at or above its end
pub apart_sides : (first pages : ℕ) (m : Region) → is_apart first pages m ≡ true → (first + pages ≤ m.first) ⊎ (end_of m ≤ first)
apart_sides first pages m e = elim (or_cases (nat_le (first + pages) m.first) (nat_le (end_of m) first) e) [
  | inl l ↦ inl (leb-true (first + pages) m.first l)
  | inr l ↦ inr (leb-true (end_of m) first l)
]

-- adding a mapping that is apart from the others keeps the order
pub with_mapping_row : (low high : ℕ) (r : Region) (ms : List Region) → low ≤ r.first → 1 ≤ r.pages → end_of r ≤ high
    → list_all (is_apart r.first r.pages) ms ≡ true
    → Row 1 low ms high → Row 1 low (with_mapping r ms) high
with_mapping_row low high r [] from some to apart row = (from, some, to)
with_mapping_row low high r (m ∷ ms) from some to apart row =
    let parts = and_parts (is_apart r.first r.pages m) (list_all (is_apart r.first r.pages) ms) apart in
    let side : (r.first + r.pages ≤ m.first) ⊎ (m.first + m.pages ≤ r.first) = apart_sides r.first r.pages m parts.0 in
    let wide : 1 ≤ m.pages = row.1 in
    let low_m : low ≤ m.first = row.0 in
    elim (nat_lt r.first m.first) as (λ b. nat_lt r.first m.first ≡ b → Row 1 low (cond b (r ∷ m ∷ ms) (m ∷ with_mapping r ms)) high) [
      | true ↦ λ t.
          let lt : r.first < m.first = ltb-true r.first m.first t in
          (from, some, (omega arith, row.1, row.2))
      | false ↦ λ t.
          let ge : m.first ≤ r.first = ltb-false r.first m.first t in
          (row.0, row.1, with_mapping_row (end_of m) high r ms (omega arith) some to parts.1 row.2)
    ] refl

pub with_each : (P : Region → Type 0) (r : Region) (ms : List Region) → P r → EachRegion P ms → EachRegion P (with_mapping r ms)
with_each P r [] here all = (here, tt)
with_each P r (m ∷ ms) here all =
    elim (nat_lt r.first m.first) as (λ b. EachRegion P (cond b (r ∷ m ∷ ms) (m
    ∷ with_mapping r ms))) [ true ↦ (here, all) | false ↦ (all.0, with_each P r ms here all.1) ]

-- a page of another mapping stays in that mapping

apart_found : (r : Region) (ms : List Region) (n : ℕ) (x : Region) → list_all (is_apart r.first r.pages) ms ≡ true → region_at ms n ≡ Some x
    → (n < r.first) ⊎ (end_of r ≤ n)
apart_found r [] n x apart is = absurd (cc)
apart_found r (m ∷ ms) n x apart is =
    let parts = and_parts (is_apart r.first r.pages m) (list_all (is_apart r.first r.pages) ms) apart in
    elim (here_or_later m ms n x is) [
      | inl first ↦ let inside = held m n first.0 in elim (apart_sides r.first r.pages m parts.0) [
        | inl before ↦ inr (omega (arith, before, inside.0))
        | inr behind ↦ inl (omega (arith, behind, inside.1))
      ]
      | inr later ↦ apart_found r ms n x parts.1 later.1
    ]

pub with_mapping_at : (r : Region) (ms : List Region) (n : ℕ) (x : Region) → list_all (is_apart r.first r.pages) ms ≡ true → region_at ms n ≡ Some x
    → region_at (with_mapping r ms) n ≡ Some x
with_mapping_at r [] n x apart is = absurd (cc)
with_mapping_at r (m ∷ ms) n x apart is =
    elim (nat_lt r.first m.first) as (λ b. region_at (cond b (r ∷ m ∷ ms) (m ∷ with_mapping r ms)) n ≡ Some x) [
      | true ↦ passed r (m ∷ ms) n (not_held r n (apart_found r (m ∷ ms) n x apart is)) ∙ is
      | false ↦ elim (here_or_later m ms n x is) [
        | inl first ↦ here m (with_mapping r ms) n first.0 ∙ ap Some first.1
        | inr later ↦ passed m (with_mapping r ms) n later.0
            ∙ with_mapping_at r ms n x (and_parts (is_apart r.first r.pages m) (list_all (is_apart r.first r.pages) ms) apart).1 later.1
      ]
    ]

-- ---- the mapping that holds a run

-- it begins at or above the lower end of the row
pub around_above : (low high first end : ℕ) (ms : List Region) (m : Region) → Row 1 low ms high → mapping_around ms first end ≡ Some m → low ≤ m.first
around_above low high first end [] m row e = cc
around_above low high first end (r ∷ rs) m row e =
    let from : low ≤ r.first = row.0 in
    elim (nat_le r.first first && nat_le end (end_of r)) as (λ b. cond b (Some r) (mapping_around rs first end) ≡ Some m → low ≤ m.first) [
      | true ↦ λ t. subst (λ (x : Region). low ≤ x.first) (same_Some r m t) from
      | false ↦ λ t. let rest : r.first + r.pages ≤ m.first = around_above (end_of r) high first end rs m row.2 t in omega arith
    ] e

pub around_each : (P : Region → Type 0) (first end : ℕ) (ms : List Region) (m : Region) → EachRegion P ms → mapping_around ms first end ≡ Some m → P m
around_each P first end [] m all e = absurd (cc)
around_each P first end (r ∷ rs) m all e =
    elim (nat_le r.first first && nat_le end (end_of r)) as (λ b. cond b (Some r) (mapping_around rs first end) ≡ Some m → P m) [
      | true ↦ λ t. subst P (same_Some r m t) all.0
      | false ↦ λ t. around_each P first end rs m all.1 t
    ] e

pub around_holds : (first end : ℕ) (ms : List Region) (m : Region) → mapping_around ms first end ≡ Some m → (m.first ≤ first) × (end ≤ end_of m)
around_holds first end [] m e = absurd (cc)
around_holds first end (r ∷ rs) m e =
    elim (nat_le r.first first && nat_le end (end_of r)) as (λ b. (nat_le r.first first && nat_le end (end_of r)) ≡ b
    → cond b (Some r) (mapping_around rs first end) ≡ Some m → (m.first ≤ first) × (end ≤ end_of m)) [
      | true ↦ λ t is. let parts = and_parts (nat_le r.first first) (nat_le end (end_of r)) t in
          subst (λ (x : Region). (x.first ≤ first) × (end ≤ end_of x)) (same_Some r m is) (leb-true r.first first parts.0, leb-true end (end_of r) parts.1)
      | false ↦ λ t is. around_holds first end rs m is
    ] refl e

-- each page of the run is in that mapping
pub around_at : (low high first end n : ℕ) (ms : List Region) (m : Region) → Row 1 low ms high → mapping_around ms first end ≡ Some m → first ≤ n → n < end
    → region_at ms n ≡ Some m
around_at low high first end n [] m row e from to = absurd (cc)
around_at low high first end n (r ∷ rs) m row e from to =
    elim (nat_le r.first first && nat_le end (end_of r)) as (λ b. (nat_le r.first first && nat_le end (end_of r)) ≡ b
    → cond b (Some r) (mapping_around rs first end) ≡ Some m
    → region_at (r ∷ rs) n ≡ Some m) [
      | true ↦ λ t is.
          let parts = and_parts (nat_le r.first first) (nat_le end (end_of r)) t in
          let start = leb-true r.first first parts.0 in
          let stop = leb-true end (end_of r) parts.1 in
          here r rs n (holds r n (omega (arith, start, from)) (omega (arith, stop, to))) ∙ is
      | false ↦ λ t is.
          let rest = around_at (end_of r) high first end n rs m row.2 is from to in
          passed r rs n (not_held r n (inr (row_within 1 (end_of r) high n rs m row.2 rest).0)) ∙ rest
    ] refl e

-- ---- munmap removes a run

-- what is left of a mapping is in order, between `low` and the mapping's end
pub pieces_row : (m : Region) (low first end : ℕ) → low ≤ m.first → first ≤ end → m.first ≤ first → end ≤ end_of m
    → Row 1 low (front_of m first ++ back_of m end) (end_of m)
pieces_row m low first end from le start stop =
    elim (nat_lt m.first first) as (λ b. nat_lt m.first first ≡ b
    → Row 1 low (cond b (record m { pages = first - m.first } ∷ []) [] ++ back_of m end) (end_of m)) [
      | true ↦ λ t. let lt : m.first < first = ltb-true m.first first t in (from, omega arith, back_row m (m.first + (first - m.first)) end (omega arith) stop)
      | false ↦ λ t. back_row m low end (omega arith) stop
    ] refl
  where
    back_row : (m : Region) (low end : ℕ) → low ≤ end → end ≤ end_of m → Row 1 low (back_of m end) (end_of m)
    back_row m low end from stop =
        elim (nat_lt end (end_of m)) as (λ b. nat_lt end (end_of m) ≡ b
        → Row 1 low (cond b (record m { first = end; pages = end_of m - end; source = moved_along m.source (end - m.first) } ∷ []) []) (end_of m)) [
          | true ↦ λ t. let lt : end < m.first + m.pages = ltb-true end (end_of m) t in (from, omega arith, omega arith)
          | false ↦ λ t. omega arith
        ] refl

pub instead_row : (low high first end : ℕ) (ms : List Region) (m : Region) → first ≤ end → Row 1 low ms high → mapping_around ms first end ≡ Some m
    → Row 1 low (with_instead ms m.first (front_of m first ++ back_of m end)) high
instead_row low high first end [] m le row e = cc
instead_row low high first end (r ∷ rs) m le row e =
    elim (nat_le r.first first && nat_le end (end_of r)) as (λ b. (nat_le r.first first && nat_le end (end_of r)) ≡ b
    → cond b (Some r) (mapping_around rs first end) ≡ Some m
    → Row 1 low (with_instead (r ∷ rs) m.first (front_of m first ++ back_of m end)) high) [
      | true ↦ λ t is. subst (λ (x : Region). Row 1 low (with_instead (r ∷ rs) x.first (front_of x first
          ++ back_of x end)) high) (same_Some r m is) (first_goes low high first end r rs le row t)
      | false ↦ λ t is.
          let above : r.first + r.pages ≤ m.first = around_above (end_of r) high first end rs m row.2 is in
          let wide : 1 ≤ r.pages = row.1 in
          subst (λ (b : Bool). Row 1 low (cond b ((front_of m first ++ back_of m end) ++ rs) (r
          ∷ with_instead rs m.first (front_of m first ++ back_of m end))) high)
          (sym (ne_eqb r.first m.first (λ same. omega arith)))
          (row.0, row.1, instead_row (end_of r) high first end rs m le row.2 is)
    ] refl e
  where
    first_goes : (low high first end : ℕ) (r : Region) (rs : List Region) → first ≤ end → Row 1 low (r ∷ rs) high
        → (nat_le r.first first && nat_le end (end_of r)) ≡ true
        → Row 1 low (with_instead (r ∷ rs) r.first (front_of r first ++ back_of r end)) high
    first_goes low high first end r rs le row t =
        let parts = and_parts (nat_le r.first first) (nat_le end (end_of r)) t in
        subst (λ (b : Bool). Row 1 low (cond b ((front_of r first ++ back_of r end) ++ rs) (r
        ∷ with_instead rs r.first (front_of r first ++ back_of r end))) high)
        (sym (eq-eqb r.first r.first refl))
        (row_append 1 low (end_of r) high (front_of r first ++ back_of r end) rs
        (pieces_row r low first end row.0 le (leb-true r.first first parts.0) (leb-true end (end_of r) parts.1)) row.2)

-- what is left is a mapping as the whole was (`IsMapping`)

less_reach : (s : Source) (few many : ℕ) → few ≤ many → IsInReach s many → IsInReach s few
less_reach (file n offset) few many le reach = omega (arith, le, reach)
less_reach zeros few many le reach = tt
less_reach image few many le reach = tt

moved_reach : (s : Source) (moved left many : ℕ) → moved + left ≤ many → IsInReach s many → IsInReach (moved_along s moved) left
moved_reach (file n offset) moved left many le reach = omega (arith, le, reach)
moved_reach zeros moved left many le reach = tt
moved_reach image moved left many le reach = tt

pub pieces_are : (m : Region) (first end : ℕ) → m.first ≤ first → first ≤ end → end ≤ end_of m → IsMapping m
    → EachRegion IsMapping (front_of m first ++ back_of m end)
pieces_are m first end start le stop is =
    elim (nat_lt m.first first) as (λ b. EachRegion IsMapping (cond b (record m { pages = first - m.first } ∷ []) [] ++ back_of m end)) [
      | true ↦ (record { leaves = is.leaves; reach = less_reach m.source (first - m.first) m.pages (omega (arith, start, le, stop)) is.reach }, back)
      | false ↦ back
    ]
  where
    back : EachRegion IsMapping (back_of m end)
    back = elim (nat_lt end (end_of m)) as (λ b. EachRegion IsMapping (cond b (record m {
      first = end;
      pages = end_of m - end;
      source = moved_along m.source (end - m.first);
    } ∷ []) [])) [
      | true ↦ (
        record {
          leaves = is.leaves;
          reach = moved_reach m.source (end - m.first) (end_of m - end) m.pages (omega (arith, start, le, stop)) is.reach;
        },
        tt,
      )
      | false ↦ tt
    ]

pub instead_each : (P : Region → Type 0) (ms : List Region) (at : ℕ) (rs : List Region) → EachRegion P ms → EachRegion P rs
    → EachRegion P (with_instead ms at rs)
instead_each P [] at rs all new = tt
instead_each P (m ∷ ms) at rs all new = elim (m.first == at) as (λ b. EachRegion P (cond b (rs ++ ms) (m ∷ with_instead ms at rs))) [
  | true ↦ each_append P rs ms new all.1
  | false ↦ (all.0, instead_each P ms at rs all.1 new)
]

pub unmapped_each : (ms : List Region) (m : Region) (first end : ℕ) → first ≤ end → mapping_around ms first end ≡ Some m → EachRegion IsMapping ms
    → EachRegion IsMapping (with_instead ms m.first (front_of m first ++ back_of m end))
unmapped_each ms m first end le around all =
    let holds = around_holds first end ms m around in
    instead_each IsMapping ms m.first (front_of m first
    ++ back_of m end) all (pieces_are m first end holds.0 le holds.1 (around_each IsMapping first end ms m all around))

-- a page outside the run is in a region with the rights and the kind that its region had

none_in_front : (m : Region) (first n : ℕ) → first ≤ n → region_at (front_of m first) n ≡ None
none_in_front m first n le =
    let front : Region = record m { pages = first - m.first } in
    elim (nat_lt m.first first) as (λ b. nat_lt m.first first ≡ b → region_at (cond b (front ∷ []) []) n ≡ None) [
      | true ↦ λ t. let lt : m.first < first = ltb-true m.first first t in passed front [] n (not_held front n (inr (omega (arith, lt, le))))
      | false ↦ λ t. refl
    ] refl

pieces_at : (m : Region) (first end n : ℕ) → first ≤ end → m.first ≤ n → n < end_of m → (n < first) ⊎ (end ≤ n)
    → (y : Region) × (region_at (front_of m first ++ back_of m end) n ≡ Some y) × SameRights m y
pieces_at m first end n le from to (inl before) =
    let front : Region = record m { pages = first - m.first } in
    let there : front_of m first ≡ front ∷ [] = cond-true (nat_lt m.first first) (front ∷ []) [] (lt-ltb m.first first (omega (arith, from, before))) in (
      front,
      in_first (front_of m first) (back_of m end) n front (ap (λ rs. region_at rs n) there
          ∙ here front [] n (holds front n from (omega (arith, from, before)))),
      record { reads = refl; writes = refl; executes = refl; kind = refl },
    )
pieces_at m first end n le from to (inr behind) =
    let back : Region = record m { first = end; pages = end_of m - end; source = moved_along m.source (end - m.first) } in
    let there : back_of m end ≡ back ∷ [] = cond-true (nat_lt end (end_of m)) (back ∷ []) [] (lt-ltb end (end_of m) (omega (arith, to, behind))) in (
      back,
      none_in_first (front_of m first) (back_of m end) n (none_in_front m first n (omega (arith, le, behind)))
          ∙ ap (λ rs. region_at rs n) there
          ∙ here back [] n (holds back n behind (omega (arith, to, behind))),
      record { reads = refl; writes = refl; executes = refl; kind = refl },
    )

-- the run is in the first mapping
instead_first : (low high first end n : ℕ) (r : Region) (rs : List Region) (x : Region) → first ≤ end → Row 1 low (r ∷ rs) high
    → (nat_le r.first first && nat_le end (end_of r)) ≡ true → (n < first) ⊎ (end ≤ n) → region_at (r ∷ rs) n ≡ Some x
    → (y : Region) × (region_at (with_instead (r ∷ rs) r.first (front_of r first ++ back_of r end)) n ≡ Some y) × SameRights x y
instead_first low high first end n r rs x le row t out is =
    let left = front_of r first ++ back_of r end in
    let parts = and_parts (nat_le r.first first) (nat_le end (end_of r)) t in
    let now : with_instead (r ∷ rs) r.first left ≡ left ++ rs =
    ap (λ (b : Bool). cond b (left ++ rs) (r ∷ with_instead rs r.first left)) (eq-eqb r.first r.first refl) in
    elim (here_or_later r rs n x is) [
      | inl first_one ↦
          let inside = held r n first_one.0 in
          let piece = pieces_at r first end n le inside.0 inside.1 out in
          (piece.0, ap (λ ss. region_at ss n) now ∙ in_first left rs n piece.0 piece.1, subst (λ (z : Region). SameRights z piece.0) first_one.1 piece.2)
      | inr later ↦
          let row_left = pieces_row r r.first first end (omega arith) le (leb-true r.first first parts.0) (leb-true end (end_of r) parts.1) in
          let behind = (row_within 1 (end_of r) high n rs x row.2 later.1).0 in
          (x, ap (λ ss. region_at ss n) now ∙ none_in_first left rs n (row_outside 1 r.first (end_of r) n left row_left (inr behind)) ∙ later.1, own_rights x)
    ]

-- the run is in a later mapping
instead_later : (n at : ℕ) (r : Region) (rs left : List Region) (x : Region) → (r.first ≡ at → ⊥) → region_at (r ∷ rs) n ≡ Some x
    → (region_at rs n ≡ Some x → (y : Region) × (region_at (with_instead rs at left) n ≡ Some y) × SameRights x y)
    → (y : Region) × (region_at (with_instead (r ∷ rs) at left) n ≡ Some y) × SameRights x y
instead_later n at r rs left x other is rest =
    let now : with_instead (r ∷ rs) at left ≡ r ∷ with_instead rs at left =
    ap (λ (b : Bool). cond b (left ++ rs) (r ∷ with_instead rs at left)) (ne_eqb r.first at other) in
    elim (here_or_later r rs n x is) [
      | inl first_one ↦ (x, ap (λ ss. region_at ss n) now ∙ here r (with_instead rs at left) n first_one.0 ∙ ap Some first_one.1, own_rights x)
      | inr later ↦
          let found = rest later.1 in
          (found.0, ap (λ ss. region_at ss n) now ∙ passed r (with_instead rs at left) n later.0 ∙ found.1, found.2)
    ]

pub instead_at : (low high first end n : ℕ) (ms : List Region) (m x : Region) → first ≤ end → Row 1 low ms high → mapping_around ms first end ≡ Some m
    → (n < first) ⊎ (end ≤ n) → region_at ms n ≡ Some x
    → (y : Region) × (region_at (with_instead ms m.first (front_of m first ++ back_of m end)) n ≡ Some y) × SameRights x y
instead_at low high first end n [] m x le row e out is = absurd (cc)
instead_at low high first end n (r ∷ rs) m x le row e out is =
    elim (nat_le r.first first && nat_le end (end_of r)) as (λ b. (nat_le r.first first && nat_le end (end_of r)) ≡ b
    → cond b (Some r) (mapping_around rs first end) ≡ Some m
    → (y : Region) × (region_at (with_instead (r ∷ rs) m.first (front_of m first ++ back_of m end)) n ≡ Some y) × SameRights x y) [
      | true ↦ λ t around.
          subst (λ (z : Region). (y : Region) × (region_at (with_instead (r ∷ rs) z.first (front_of z first ++ back_of z end)) n ≡ Some y) × SameRights x y)
          (same_Some r m around) (instead_first low high first end n r rs x le row t out is)
      | false ↦ λ t around.
          let above : r.first + r.pages ≤ m.first = around_above (end_of r) high first end rs m row.2 around in
          let wide : 1 ≤ r.pages = row.1 in
          instead_later n m.first r rs (front_of m first ++ back_of m end) x (λ same. omega (arith, same, above, wide)) is
          (instead_at (end_of r) high first end n rs m x le row.2 around out)
    ] refl e
