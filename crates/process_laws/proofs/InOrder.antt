-- Lemmas: each kind of change of a process keeps its regions in ascending order (`IsInOrder`); and regions in this order
-- have no page in common (`AreApart`).
use Rattle.std.proofs.Common.{◌≡◌, ℕ, zero, suc, true, ◌+◌, ◌*◌, ◌<◌, ◌≤◌, refl, sym, ap, subst, ◌∙◌, arith, List, [], ◌∷◌, ◌++◌, Some, map}
use Rattle.std.specs.Prelude.{slice_get}
use Rattle.std.proofs.lemmas.Option.{same_Some}
use Rattle.process_laws.specs.DisjointRegions.{AreApart}
use Rattle.sv39_entry.specs.declared.scheme.Scheme.{Scheme}
use Rattle.process_model.specs.Bytes.{pages_for}
use Rattle.process_model.proofs.GrantLaws.{map_granted, place_fits}
use Rattle.process_model.specs.Images.{LoadSegment, end_page, end_of_loads}
use Rattle.process_model.specs.ImageProcess.{segment_region, guard_at, stack_at, process_of}
use Rattle.process_model.specs.Order.{EachRegion, HasLeaves, HasNoFile, InRow, IsInOrder, IsPlaced, Row}
use Rattle.process_model.proofs.OrderLaws.{mapped_order, regions_row, resized_order, same_order, unmapped_order}
use Rattle.process_model.specs.Process.{Process, regions}
use Rattle.process_model.proofs.RegionRows.{held, row_append}
use Rattle.process_model.specs.Regions.{Region, end_of, holds_page}
use Rattle.sv39_entry.specs.Address.{page_of}
use Rattle.sv39_entry.specs.Schemes.{trapframe_page}
use Rattle.process_laws.proofs.EveryChange.{IsKept}
use Rattle.process_laws.proofs.ImageOrder.{accepted_is_placed}
use Rattle.process_model.specs.declared.limits.TheConstants.{GUARD_PAGES, STACK_PAGES}

-- no page is in two regions of a row

-- a page of a region of a row is above the row's start
held_above : (low high i page : ℕ) (rs : List Region) (a : Region) → Row 0 low rs high → slice_get rs i ≡ Some a → holds_page a page ≡ true → low ≤ page
held_above low high i page [] a row e h = cc
held_above low high zero page (r ∷ rs) a row e h =
    let is = held r page (ap (λ (x : Region). holds_page x page) (same_Some r a e) ∙ h) in
    let from : low ≤ r.first = row.0 in
    let start : r.first ≤ page = is.0 in
    omega arith
held_above low high (suc i) page (r ∷ rs) a row e h =
    let rest : r.first + r.pages ≤ page = held_above (end_of r) high i page rs a row.2 e h in
    let from : low ≤ r.first = row.0 in
    omega arith

-- one in the first region is not in the others
not_later : (high j page : ℕ) (r : Region) (rs : List Region) (a b : Region) → Row 0 (end_of r) rs high → r ≡ a → slice_get rs j ≡ Some b → holds_page a page ≡ true → holds_page b page ≡ true → ⊥
not_later high j page r rs a b row same e g h =
    let is = held r page (ap (λ (x : Region). holds_page x page) same ∙ g) in
    let before : page < r.first + r.pages = is.1 in
    let after : r.first + r.pages ≤ page = held_above (end_of r) high j page rs b row e h in
    omega arith

row_apart : (low high : ℕ) (rs : List Region) → Row 0 low rs high → AreApart rs
row_apart low high [] row i j page a b e g h k = cc
row_apart low high (r ∷ rs) row zero zero page a b e g h k = refl
row_apart low high (r ∷ rs) row zero (suc j) page a b e g h k = absurd (not_later high j page r rs a b row.2 (same_Some r a e) g h k)
row_apart low high (r ∷ rs) row (suc i) zero page a b e g h k = absurd (not_later high i page r rs b a row.2 (same_Some r b g) e k h)
row_apart low high (r ∷ rs) row (suc i) (suc j) page a b e g h k = ap suc (row_apart (end_of r) high rs row.2 i j page a b e g h k)

pub order_is_apart : (p : Process) → IsInOrder p → AreApart (regions p)
order_is_apart p o = row_apart 0 (trapframe_page p.scheme) (regions p) (regions_row 1 p o)

-- images

segments_leaves : (ls : List LoadSegment) (rs : List Region) → EachRegion HasLeaves rs → EachRegion HasLeaves (map segment_region ls ++ rs)
segments_leaves [] rs rest = rest
segments_leaves (l ∷ ls) rs rest = (refl, segments_leaves ls rs rest)

segments_without_file : (ls : List LoadSegment) (rs : List Region) → EachRegion HasNoFile rs → EachRegion HasNoFile (map segment_region ls ++ rs)
segments_without_file [] rs rest = rest
segments_without_file (l ∷ ls) rs rest = (refl, segments_without_file ls rs rest)

segments_row : (low : ℕ) (ls : List LoadSegment) → InRow low ls → Row 1 low (map segment_region ls) (end_of_loads low ls)
segments_row low [] row = omega arith
segments_row low (l ∷ ls) row = (row.0.above, row.0.some, subst (λ n. Row 1 n (map segment_region ls) (end_of_loads (end_page l) ls)) (sym row.0.end) (segments_row (end_page l) ls row.1))

made_order : (z : Scheme) (n : ℕ) (ls : List LoadSegment) → IsPlaced z ls → IsInOrder (process_of z n ls)
unfolding process_of
made_order z n ls is =
    let below : end_of_loads 0 ls + (GUARD_PAGES + STACK_PAGES) ≤ trapframe_page z = is.below in
    record {
      parts = row_append 1 0 (end_of_loads 0 ls) (page_of (4096 * (end_of_loads 0 ls + (GUARD_PAGES + STACK_PAGES)))) (map segment_region ls) (guard_at (end_of_loads 0 ls) ∷ stack_at (end_of_loads 0 ls + GUARD_PAGES) ∷ []) (segments_row 0 ls is.row)
          (omega arith, omega arith, (omega arith, omega arith, omega arith));
      room = omega arith;
      above = omega arith;
      leaves = segments_leaves ls (guard_at (end_of_loads 0 ls) ∷ stack_at (end_of_loads 0 ls + GUARD_PAGES) ∷ []) (refl, (refl, tt));
      sources = segments_without_file ls (guard_at (end_of_loads 0 ls) ∷ stack_at (end_of_loads 0 ls + GUARD_PAGES) ∷ []) (refl, (refl, tt));
      mapped = tt;
    }

pub order_is_kept : (scheme : Scheme) → IsKept scheme (λ n p. IsInOrder p)
order_is_kept scheme = record {
  later = λ n m p le o. o;
  made = λ z same n image ls e. made_order z n ls (accepted_is_placed z image ls e);
  settled = λ n files p access address granted none o. same_order 1 p _ _ _ o;
  taken = λ n shared p page x e o. same_order 1 p _ _ _ o;
  written = λ n p page x bytes e long o. same_order 1 p _ _ _ o;
  awaiting = λ n p a o. same_order 1 p _ _ _ o;
  sized = λ n p wanted none o. resized_order 1 p wanted none o;
  mapping = λ counter files p len protection flags n first none place o.
      mapped_order 1 p files len protection flags n first (map_granted files p len protection flags n none).0 (place_fits p (pages_for len) first place) o;
  unmapping = λ n p m first end le around one o. unmapped_order 1 p m first end o around le;
  parent = λ n p o. same_order 1 p _ _ _ o;
  child = λ n p o. same_order 1 p _ _ _ o;
}
