-- Laws of which region holds a page after sbrk, mmap or munmap: a page that the call does not touch keeps the rights and
-- kind of its region. Before that: only mappings hold pages above the heap, and which mapping holds the pages of a run.
use Rattle.std.proofs.Common.{◌≡◌, ℕ, ℤ, true, false, ◌&&◌, ◌+◌, ◌<◌, ◌≤◌, ◌⊎◌, inl, inr, ap, ◌∙◌, arith, List, ◌∷◌, ◌++◌, None, Some}
use Rattle.std.specs.Prelude.{nat_abs, nat_le}
use Rattle.std.specs.List.{list_all}
use Rattle.std.proofs.lemmas.Bool.{and_parts}
use Rattle.process_model.specs.Bytes.{pages_for}
use Rattle.process_model.proofs.GrantLaws.{size_granted}
use Rattle.process_model.specs.Heap.{size_refusal}
use Rattle.process_model.proofs.MappingRows.{above_limit, around_at, instead_at, with_mapping_at}
use Rattle.process_model.specs.Mappings.{back_of, fits_at, front_of, is_apart, mapping_around, with_instead, with_mapping}
use Rattle.process_model.specs.Order.{HasOrder}
use Rattle.process_model.specs.Process.{Process, heap_of, regions}
use Rattle.process_model.proofs.RegionRows.{first_or_second, held, here, here_or_later, holds, in_first, none_in_first, not_held, own_rights}
use Rattle.process_model.proofs.RegionRows.{passed, row_outside, row_within, SameRights}
use Rattle.process_model.specs.Regions.{Region, holds_page, region_at}
use Rattle.sv39_entry.specs.Address.{page_of}
use Rattle.sv39_entry.specs.Schemes.{trapframe_page}

-- ---- the mappings

-- only mappings hold pages at or above the heap's end
pub behind_heap : (least : ℕ) (p : Process) (n : ℕ) → HasOrder least p → pages_for p.size ≤ n → region_at (regions p) n ≡ region_at p.mappings n
behind_heap least p n order above =
    let room = order.room in
    none_in_first p.parts (heap_of p ∷ p.mappings) n (row_outside least 0 (page_of p.heap_base) n p.parts order.parts (inr (omega (arith, room, above))))
    ∙ passed (heap_of p) p.mappings n (not_held (heap_of p) n (inr (omega (arith, room, above))))

-- the region that holds a page of a run inside a mapping is that mapping
pub mapping_at : (least : ℕ) (p : Process) (first end n : ℕ) (m : Region) → HasOrder least p → mapping_around p.mappings first end ≡ Some m
    → first ≤ n → n < end
    → region_at (regions p) n ≡ Some m
mapping_at least p first end n m order around from to =
    let there = around_at (pages_for p.size) (trapframe_page p.scheme) first end n p.mappings m order.above around from to in
    behind_heap least p n order (row_within 1 (pages_for p.size) (trapframe_page p.scheme) n p.mappings m order.above there).0 ∙ there

-- ---- other mappings in place of the process's

abbrev with_mappings : Process → List Region → Process
with_mappings p ms = record p { mappings = ms }

-- with other mappings, a page has the region that it had; or that was a mapping, and its region is to be looked up in the
-- others
mapping_or_same : (p : Process) (ms : List Region) (n : ℕ) (x : Region) → region_at (regions p) n ≡ Some x
    → (region_at (regions (with_mappings p ms)) n ≡ Some x)
    ⊎ ((region_at p.mappings n ≡ Some x) × (region_at (regions (with_mappings p ms)) n ≡ region_at ms n))
mapping_or_same p ms n x is = elim (first_or_second p.parts (heap_of p ∷ p.mappings) n x is) [
  | inl part ↦ inl (in_first p.parts (heap_of p ∷ ms) n x part)
  | inr behind ↦
      let passing = none_in_first p.parts (heap_of p ∷ ms) n behind.0 in
      elim (here_or_later (heap_of p) p.mappings n x behind.1) [
        | inl heap ↦ inl (passing ∙ here (heap_of p) ms n heap.0 ∙ ap Some heap.1)
        | inr mapping ↦ inr (mapping.1, passing ∙ passed (heap_of p) ms n mapping.0)
      ]
]

-- mmap: each page that had a region keeps it
pub region_with_mapping : (p : Process) (r : Region) (n : ℕ) (x : Region) → fits_at p r.pages r.first ≡ true → region_at (regions p) n ≡ Some x
    → region_at (regions (record p { mappings = with_mapping r p.mappings })) n ≡ Some x
region_with_mapping p r n x fits is =
    let apart = (and_parts (nat_le (pages_for p.size) r.first
    && nat_le (r.first + r.pages) (trapframe_page p.scheme)) (list_all (is_apart r.first r.pages) p.mappings) fits).1 in
    elim (mapping_or_same p (with_mapping r p.mappings) n x is) [
      | inl same ↦ same
      | inr mapping ↦ mapping.1 ∙ with_mapping_at r p.mappings n x apart mapping.0
    ]

-- munmap: each page outside the run that had a region is in one with the same rights and kind
pub region_left : (least : ℕ) (p : Process) (m : Region) (first end n : ℕ) (x : Region) → HasOrder least p
    → mapping_around p.mappings first end ≡ Some m → first ≤ end
    → (n < first) ⊎ (end ≤ n) → region_at (regions p) n ≡ Some x
    → (y : Region) × (region_at (regions (record p {
      mappings = with_instead p.mappings m.first (front_of m first
          ++ back_of m end);
    })) n ≡ Some y) × SameRights x y
region_left least p m first end n x order around le out is =
    elim (mapping_or_same p (with_instead p.mappings m.first (front_of m first ++ back_of m end)) n x is) [
      | inl same ↦ (x, same, own_rights x)
      | inr mapping ↦
          let left = instead_at (pages_for p.size) (trapframe_page p.scheme) first end n p.mappings m x le order.above around out mapping.0 in
          (left.0, mapping.1 ∙ left.1, left.2)
    ]

-- ---- sbrk moves the end of the heap

-- each page below the new end of the heap, or at or above the old one, that had a region is in one with the same rights and
-- kind
pub region_resized : (least : ℕ) (p : Process) (wanted : ℤ) (n : ℕ) (x : Region) → HasOrder least p → size_refusal p wanted ≡ None
    → (n < pages_for (nat_abs wanted)) ⊎ (pages_for p.size ≤ n) → region_at (regions p) n ≡ Some x
    → (y : Region) × (region_at (regions (record p { size = nat_abs wanted })) n ≡ Some y) × SameRights x y
region_resized least p wanted n x order none out is =
    elim (first_or_second p.parts (heap_of p ∷ p.mappings) n x is) [
      | inl part ↦ (x, in_first p.parts (heap_of q ∷ p.mappings) n x part, own_rights x)
      | inr behind ↦
          let passing = none_in_first p.parts (heap_of q ∷ p.mappings) n behind.0 in
          elim (here_or_later (heap_of p) p.mappings n x behind.1) [
            | inl heap ↦ (heap_of q, passing ∙ here (heap_of q) p.mappings n (still_held heap.0 out), like_heap heap.1)
            | inr mapping ↦ (x, passing ∙ passed (heap_of q) p.mappings n (not_grown mapping.1) ∙ mapping.1, own_rights x)
          ]
    ]
  where
    q : Process
    q = record p { size = nat_abs wanted }

    still_held : holds_page (heap_of p) n ≡ true → (n < pages_for (nat_abs wanted)) ⊎ (pages_for p.size ≤ n) → holds_page (heap_of q) n ≡ true
    still_held holding (inl below) = let inside = held (heap_of p) n holding in holds (heap_of q) n inside.0 (omega (arith, inside.0, below))
    still_held holding (inr above) = absurd (let inside = held (heap_of p) n holding in let room = order.room in omega (arith, inside.1, above, room))

    not_grown : region_at p.mappings n ≡ Some x → holds_page (heap_of q) n ≡ false
    not_grown there =
        let granted = size_granted p wanted none in
        let behind = (row_within 1 (pages_for p.size) (trapframe_page p.scheme) n p.mappings x order.above there).0 in
        let now = above_limit p.scheme (pages_for p.size) (pages_for (nat_abs wanted)) p.mappings granted.1 order.above in
        let above = (row_within 1 (pages_for (nat_abs wanted)) (trapframe_page p.scheme) n p.mappings x now there).0 in
        let room = order.room in
        not_held (heap_of q) n (inr (omega (arith, above, room, behind)))

    like_heap : heap_of p ≡ x → SameRights x (heap_of q)
    like_heap same = record {
      reads = ap (λ (r : Region). r.reads) same;
      writes = ap (λ (r : Region). r.writes) same;
      executes = ap (λ (r : Region). r.executes) same;
      kind = ap (λ (r : Region). r.kind) same;
    }
