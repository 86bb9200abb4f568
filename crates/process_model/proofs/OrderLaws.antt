-- Laws of the order of a process's regions (`HasOrder`): it does not depend on pages in memory or the pending access; all
-- regions are in order below the trapframe and have rights that fit a leaf; and sbrk, mmap and munmap keep the order.
use Rattle.std.proofs.Common.{◌≡◌, ◌≢◌, ℕ, ℤ, true, false, ◌&&◌, ◌+◌, ◌≤◌, arith, refl, List, ◌∷◌, ◌++◌, Option, None, Some}
use Rattle.std.specs.Prelude.{nat_abs, nat_le}
use Rattle.std.specs.List.{list_all}
use Rattle.std.proofs.lemmas.Bool.{and_parts, leb-true}
use Rattle.process_model.specs.Bytes.{pages_for}
use Rattle.process_model.specs.Files.{File}
use Rattle.process_model.proofs.GrantLaws.{good_mapping, new_mapping, size_granted}
use Rattle.process_model.specs.Heap.{resized, size_refusal, without_pages}
use Rattle.process_model.proofs.MappingRows.{above_limit, instead_row, unmapped_each, with_each, with_mapping_row}
use Rattle.process_model.specs.Mappings.{back_of, fits_at, front_of, is_apart, is_bad_mapping, mapping_around, mapping_of, with_instead, with_mapping}
use Rattle.process_model.specs.Order.{HasLeaves, HasOrder, IsMapping, Row}
use Rattle.process_model.specs.PageMap.{NumberSet, PageMap}
use Rattle.process_model.specs.Process.{Page, Pending, Process, heap_of, regions}
use Rattle.process_model.proofs.RegionRows.{each_append, each_as, each_at, row_append, row_least, row_lower}
use Rattle.process_model.specs.Regions.{makes_leaf, Region, region_at}
use Rattle.sv39_entry.specs.Address.{page_of}
use Rattle.sv39_entry.specs.Schemes.{trapframe_page}

-- the order does not depend on settled pages, tabled pages or the pending access
pub same_order : (least : ℕ) (p : Process) (settled : PageMap Page) (tabled : NumberSet) (pending : Option Pending) → HasOrder least p
    → HasOrder least (record p { settled = settled; tabled = tabled; pending = pending })
same_order least p settled tabled pending order =
    record { parts = order.parts; room = order.room; above = order.above; leaves = order.leaves; sources = order.sources; mapped = order.mapped }

-- all regions are in ascending order below the trapframe
pub regions_row : (least : ℕ) (p : Process) → HasOrder least p → Row 0 0 (regions p) (trapframe_page p.scheme)
regions_row least p order =
    let room : page_of p.heap_base ≤ pages_for p.size = order.room in
    let mappings = row_least 1 (pages_for p.size) (trapframe_page p.scheme) p.mappings order.above in
    row_append 0 0 (page_of p.heap_base) (trapframe_page p.scheme) p.parts (heap_of p ∷ p.mappings)
    (row_least least 0 (page_of p.heap_base) p.parts order.parts)
    (omega arith, omega arith, row_lower 0 _ (pages_for p.size) (trapframe_page p.scheme) p.mappings (omega (arith, room)) mappings)

-- each region can have leaves
pub leafy_at : (p : Process) → HasOrder 0 p → (n : ℕ) (r : Region) → region_at (regions p) n ≡ Some r → makes_leaf r ≡ true
leafy_at p order n r at =
    each_at HasLeaves (regions p) n r (each_append HasLeaves p.parts (heap_of p
    ∷ p.mappings) order.leaves (refl, each_as IsMapping HasLeaves (λ m is. is.leaves) p.mappings order.mapped)) at

-- ---- sbrk

pub sized_order : (least : ℕ) (p : Process) (wanted : ℤ) → size_refusal p wanted ≡ None → HasOrder least p → HasOrder least (record p { size = nat_abs wanted })
sized_order least p wanted none order =
    let granted = size_granted p wanted none in
    record {
      parts = order.parts;
      room = omega (arith, granted.0);
      above = above_limit p.scheme (pages_for p.size) (pages_for (nat_abs wanted)) p.mappings granted.1 order.above;
      leaves = order.leaves;
      sources = order.sources;
      mapped = order.mapped;
    }

pub resized_order : (least : ℕ) (p : Process) (wanted : ℤ) → size_refusal p wanted ≡ None → HasOrder least p → HasOrder least (resized p (nat_abs wanted))
resized_order least p wanted none order =
    let sized = sized_order least p wanted none order in
    record { parts = sized.parts; room = sized.room; above = sized.above; leaves = sized.leaves; sources = sized.sources; mapped = sized.mapped }

-- ---- mmap

pub with_mapping_order : (least : ℕ) (p : Process) (r : Region) → fits_at p r.pages r.first ≡ true → 1 ≤ r.pages → IsMapping r → HasOrder least p
    → HasOrder least (record p { mappings = with_mapping r p.mappings })
with_mapping_order least p r fits some is order =
    let outer = and_parts (nat_le (pages_for p.size) r.first
    && nat_le (r.first + r.pages) (trapframe_page p.scheme)) (list_all (is_apart r.first r.pages) p.mappings) fits in
    let inner = and_parts (nat_le (pages_for p.size) r.first) (nat_le (r.first + r.pages) (trapframe_page p.scheme)) outer.0 in
    record {
      parts = order.parts;
      room = order.room;
      above = with_mapping_row (pages_for p.size) (trapframe_page p.scheme) r p.mappings
          (leb-true (pages_for p.size) r.first inner.0) some (leb-true (r.first + r.pages) (trapframe_page p.scheme) inner.1) outer.1 order.above;
      leaves = order.leaves;
      sources = order.sources;
      mapped = with_each IsMapping r p.mappings is order.mapped;
    }

pub mapped_order : (least : ℕ) (p : Process) (files : List File) (len protection flags n first : ℕ) → is_bad_mapping files len protection flags n ≡ false
    → fits_at p (pages_for len) first ≡ true → HasOrder least p
    → HasOrder least (record p { mappings = with_mapping (mapping_of first (pages_for len) protection flags n) p.mappings })
mapped_order least p files len protection flags n first good fits order =
    let some : len ≢ 0 = (good_mapping files len protection flags n good).some in
    with_mapping_order least p (mapping_of first (pages_for len) protection flags n) fits (omega (arith, some))
    (new_mapping files len protection flags n first good) order

-- ---- munmap

pub unmapped_order : (least : ℕ) (p : Process) (m : Region) (first end : ℕ) → HasOrder least p → mapping_around p.mappings first end ≡ Some m → first ≤ end
    → HasOrder least (record (without_pages p first end) { mappings = with_instead p.mappings m.first (front_of m first ++ back_of m end) })
unmapped_order least p m first end order around le = record {
  parts = order.parts;
  room = order.room;
  above = instead_row (pages_for p.size) (trapframe_page p.scheme) first end p.mappings m le order.above around;
  leaves = order.leaves;
  sources = order.sources;
  mapped = unmapped_each p.mappings m first end le around order.mapped;
}
