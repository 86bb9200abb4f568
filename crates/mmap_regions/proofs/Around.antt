-- Lemmas on the mapping that holds a range of pages (`mapping_around`): found by a search of a list from the front; it ends
-- at TRAPFRAME or below; and what is found in the code's list is found in the process's.
use Rattle.std.proofs.Common.{◌≡◌, ℕ, zero, suc, true, false, ◌<◌, ◌≤◌, Option, None, Some, List, [], ◌∷◌, drop, get_or, length, map, refl, ap, sym, ◌∙◌, arith}
use Rattle.std.specs.Prelude.{◌&&◌, nat_le, option_map}
use Rattle.address_space.specs.Layouts.{LaysOut, Layout, region_of}
use Rattle.address_space.specs.declared.region.Region.{Region as CodeRegion}
use Rattle.process_model.specs.Bytes.{pages_for}
use Rattle.process_model.proofs.MappingRows.{around_each, around_holds}
use Rattle.process_model.specs.Mappings.{mapping_around}
use Rattle.process_model.specs.Order.{EachRegion, HasOrder, Row}
use Rattle.process_model.specs.Process.{Process}
use Rattle.process_model.proofs.RegionRows.{row_up}
use Rattle.process_model.specs.Regions.{end_of, Region}
use Rattle.sv39_entry.specs.Schemes.{trapframe_page}

module _ (first end : ℕ) where
  pub around_passed : (rs : List CodeRegion) (i : ℕ) (d : CodeRegion) → i < length rs → (nat_le (region_of (get_or rs i d)).first first && nat_le end (end_of (region_of (get_or rs i d)))) ≡ false
      → mapping_around (map region_of (drop i rs)) first end ≡ mapping_around (map region_of (drop (suc i) rs)) first end
  around_passed [] i d less other = absurd (omega arith)
  around_passed (r ∷ rs) zero d less other = rw other refl
  around_passed (r ∷ rs) (suc i) d less other = around_passed rs i d (omega arith) other

  pub around_met : (rs : List CodeRegion) (i : ℕ) (d : CodeRegion) → i < length rs → (nat_le (region_of (get_or rs i d)).first first && nat_le end (end_of (region_of (get_or rs i d)))) ≡ true
      → mapping_around (map region_of (drop i rs)) first end ≡ Some (region_of (get_or rs i d))
  around_met [] i d less held = absurd (omega arith)
  around_met (r ∷ rs) zero d less held = rw held refl
  around_met (r ∷ rs) (suc i) d less held = around_met rs i d (omega arith) held

  pub around_none : (rs : List CodeRegion) (i : ℕ) → length rs ≤ i → mapping_around (map region_of (drop i rs)) first end ≡ None
  around_none [] zero past = refl
  around_none [] (suc i) past = refl
  around_none (r ∷ rs) zero past = absurd (omega arith)
  around_none (r ∷ rs) (suc i) past = around_none rs i (omega arith)

-- mappings end below the trapframe

row_ends : (low high : ℕ) (ms : List Region) → Row 1 low ms high → EachRegion (λ m. end_of m ≤ high) ms
row_ends low high [] row = tt
row_ends low high (m ∷ ms) row = (row_up 1 (end_of m) high ms row.2, row_ends (end_of m) high ms row.2)

pub around_low : (p : Process) (first end : ℕ) (m : Region) → HasOrder 0 p → mapping_around p.mappings first end ≡ Some m → (end ≤ end_of m) × (end_of m ≤ trapframe_page p.scheme)
around_low p first end m order around = (
  (around_holds first end p.mappings m around).1,
  around_each (λ r. end_of r ≤ trapframe_page p.scheme) first end p.mappings m (row_ends (pages_for p.size) (trapframe_page p.scheme) p.mappings order.above) around,
)

-- what is found in the regions of the code is found in those of the process
pub found_around : (p : Process) (l : Layout) (rs : List CodeRegion) (first end : ℕ) (o : Option CodeRegion) (r : CodeRegion) → LaysOut l p → map region_of rs ≡ l.mappings
    → option_map region_of o ≡ mapping_around (map region_of rs) first end → o ≡ Some r → mapping_around p.mappings first end ≡ Some (region_of r)
found_around p l rs first end o r lays are is some =
    ap (λ ms. mapping_around ms first end) (lays.mappings ∙ sym are) ∙ sym is ∙ ap (option_map region_of) some
