-- Lemmas: if the regions of a process are in order, every page of a region lies below TRAPFRAME, and without mappings below
-- the end of the heap.
use Rattle.std.proofs.Common.{◌≡◌, ℕ, ◌<◌, ◌≤◌, ◌==◌, inl, inr, true, refl, sym, subst, ◌∙◌, arith, List, [], ◌∷◌, length, map, Some}
use Rattle.std.proofs.lemmas.Bool.{false≢true}
use Rattle.std.proofs.lemmas.Bool.Decides.{eqb_tells}
use Rattle.process_model.specs.Bytes.{pages_for}
use Rattle.process_model.specs.Order.{HasOrder, Row}
use Rattle.process_model.specs.Process.{heap_of, Process, regions}
use Rattle.process_model.proofs.RegionRows.{first_or_second, held, here_or_later, row_up, row_within}
use Rattle.process_model.specs.Regions.{Region, region_at}
use Rattle.address_space.specs.Layouts.{region_of}
use Rattle.address_space.specs.declared.region.Region.{Region as CodeRegion}
use Rattle.sv39_entry.specs.Schemes.{trapframe_page}

pub no_regions : (rs : List CodeRegion) → (length rs == 0) ≡ true → map region_of rs ≡ []
no_regions [] none = refl
no_regions (r ∷ rs) none = absurd (elim (eqb_tells (length (r ∷ rs)) 0) as (λ _. ⊥) [
  | inl t ↦ let is = t.1 in omega (arith, is)
  | inr t ↦ false≢true (sym t.0 ∙ none)
])

module _ (p : Process) (order : HasOrder 0 p) where
  pub heap_low : pages_for p.size ≤ (trapframe_page p.scheme)
  heap_low = row_up 1 (pages_for p.size) (trapframe_page p.scheme) p.mappings order.above

  region_below : (end : ℕ) → pages_for p.size ≤ end → Row 1 (pages_for p.size) p.mappings end → (n : ℕ) (r : Region) → region_at (regions p) n ≡ Some r → n < end
  region_below end low row n r is = elim (first_or_second p.parts (heap_of p ∷ p.mappings) n r is) [
    | inl part ↦ let inside = row_within 0 0 _ n p.parts r order.parts part in omega (arith, inside.1, order.room, low)
    | inr behind ↦ elim (here_or_later (heap_of p) p.mappings n r behind.1) [
      | inl heap ↦ let inside = held (heap_of p) n heap.0 in omega (arith, inside.1, order.room, low)
      | inr mapping ↦ (row_within 1 (pages_for p.size) end n p.mappings r row mapping.1).1
    ]
  ]

  pub below_mappings : (n : ℕ) (r : Region) → region_at (regions p) n ≡ Some r → n < (trapframe_page p.scheme)
  below_mappings = region_below (trapframe_page p.scheme) heap_low order.above

  pub below_heap : p.mappings ≡ [] → (n : ℕ) (r : Region) → region_at (regions p) n ≡ Some r → n < pages_for p.size
  below_heap none = region_below (pages_for p.size) (omega arith) (subst (λ ms. Row 1 (pages_for p.size) ms (pages_for p.size)) (sym none) (omega arith))
