-- Lemmas for `mapping_place`, the search for the place of a mapping from TRAPFRAME downwards (`Searched`): it begins, goes
-- on below a mapping, finds a place above a mapping or above the heap, or finds none. Before it, lemmas on lists of mappings
-- in order.
use Rattle.std.proofs.Common.{◌≡◌, ℕ, zero, suc, ◌+◌, ◌-◌, ◌<◌, ◌≤◌, None, Some, List, [], ◌∷◌, length, map, refl, ap, sym, ◌∙◌, inl, inr, arith, slice_index_or}
use Rattle.std.proofs.lemmas.Bool.{cases_eq, cases_lt}
use Rattle.std.proofs.lemmas.Option.{same_Some}
use Rattle.std.specs.Prelude.{slice_get}
use Rattle.address_space.specs.Layouts.{LaysOut, Layout, region_of}
use Rattle.address_space.specs.declared.region.Region.{Region as CodeRegion}
use Rattle.address_space.specs.declared.region.RegionKind.TheVariants as kind
use Rattle.address_space.specs.declared.region.Source.TheVariants as from
use Rattle.process_model.specs.Bytes.{pages_for}
use Rattle.process_model.specs.Mappings.{Fits, mapping_place}
use Rattle.process_model.specs.Order.{HasOrder, Row}
use Rattle.process_model.proofs.Places.{place_is, place_is_none}
use Rattle.process_model.specs.Process.{Process}
use Rattle.process_model.proofs.RegionRows.{row_up}
use Rattle.process_model.specs.Regions.{end_of, Region}
use Rattle.sv39_entry.specs.Schemes.{trapframe_page}

-- lists of regions

-- what stands for a region past the end of a list
abbrev pub blank : CodeRegion
blank = record { first = 0; pages = 0; rights = record { 0 = 0 }; kind = kind.Segment; source = from.Zeros }

pub at_index : (rs : List CodeRegion) (i : ℕ) (d : CodeRegion) → i < length rs → slice_get (map region_of rs) i ≡ Some (region_of (slice_index_or rs i d))
at_index [] i d less = absurd (omega (arith, less))
at_index (r ∷ rs) zero d less = refl
at_index (r ∷ rs) (suc i) d less = at_index rs i d (omega (arith, less))

pub mapping_at : (p : Process) (rs : List CodeRegion) (l : Layout) (i : ℕ) (d : CodeRegion) → map region_of rs ≡ l.mappings → LaysOut l p → i < length rs
    → slice_get p.mappings i ≡ Some (region_of (slice_index_or rs i d))
mapping_at p rs l i d is lays less = ap (λ ms. slice_get ms i) (lays.mappings ∙ sym is) ∙ at_index rs i d less

none_past : (ms : List Region) (j : ℕ) (m : Region) → length ms ≤ j → slice_get ms j ≡ Some m → ⊥
none_past [] j m past at = cc
none_past (x ∷ ms) zero m past at = omega (arith, past)
none_past (x ∷ ms) (suc j) m past at = none_past ms j m (omega (arith, past)) at

-- a mapping of a row lies in it
pub row_get : (low high j : ℕ) (ms : List Region) (m : Region) → Row 1 low ms high → slice_get ms j ≡ Some m → (low ≤ m.first) × (end_of m ≤ high)
row_get low high j [] m row at = absurd (cc)
row_get low high zero (x ∷ ms) m row at =
    let up = row_up 1 (end_of x) high ms row.2 in
    let is = same_Some x m at in
    let from : low ≤ x.first = row.0 in
    (rw (sym is) from, rw (sym is) up)
row_get low high (suc j) (x ∷ ms) m row at =
    let rest = row_get (end_of x) high j ms m row.2 at in
    let from : low ≤ x.first = row.0 in
    (omega (arith, from, rest.0), rest.1)

-- and behind those before it
pub row_before : (low high j k : ℕ) (ms : List Region) (a b : Region) → Row 1 low ms high → slice_get ms j ≡ Some a → slice_get ms k ≡ Some b → j < k → end_of a ≤ b.first
row_before low high j k [] a b row at to less = absurd (cc)
row_before low high j zero (x ∷ ms) a b row at to less = absurd (omega (arith, less))
row_before low high zero (suc k) (x ∷ ms) a b row at to less =
    let rest = row_get (end_of x) high k ms b row.2 to in
    let is = same_Some x a at in
    rw (sym is) rest.0
row_before low high (suc j) (suc k) (x ∷ ms) a b row at to less = row_before (end_of x) high j k ms a b row.2 at to (omega (arith, less))

-- the mappings from number i on begin at a page or above it, and where a mapping of so many pages fits it ends there or below
pub record Searched (p : Process) (pages i end : ℕ) : Type 0 where
  pub below : end ≤ trapframe_page p.scheme
  pub above : pages_for p.size ≤ end
  pub past : (j : ℕ) (m : Region) → slice_get p.mappings j ≡ Some m → i ≤ j → end ≤ m.first
  pub before : (j : ℕ) (m : Region) → slice_get p.mappings j ≡ Some m → j < i → end_of m ≤ end
  pub most : (other : ℕ) → Fits p pages other → other + pages ≤ end

module _ (p : Process) (order : HasOrder 0 p) (pages : ℕ) where
  within : (j : ℕ) (m : Region) → slice_get p.mappings j ≡ Some m → (pages_for p.size ≤ m.first) × (end_of m ≤ trapframe_page p.scheme)
  within j m at = row_get (pages_for p.size) (trapframe_page p.scheme) j p.mappings m order.above at

  pub search_begins : (n : ℕ) → n ≡ length p.mappings → Searched p pages n (trapframe_page p.scheme)
  search_begins n is = record {
    below = omega arith;
    above = row_up 1 (pages_for p.size) (trapframe_page p.scheme) p.mappings order.above;
    past = λ j m at past. absurd (none_past p.mappings j m (omega (arith, past, is)) at);
    before = λ j m at less. (within j m at).1;
    most = λ other fits. fits.below;
  }

  module _ (i end : ℕ) (m : Region) (s : Searched p pages i end) (some : 0 < i) (at : slice_get p.mappings (i - 1) ≡ Some m) where
    lower : (j : ℕ) (x : Region) → slice_get p.mappings j ≡ Some x → j < i - 1 → end_of x ≤ m.first
    lower j x there less = row_before (pages_for p.size) (trapframe_page p.scheme) j (i - 1) p.mappings x m order.above there at less

    its_end : end_of m ≤ end
    its_end = s.before (i - 1) m at (omega (arith, some))

    same_place : (j : ℕ) (x : Region) → slice_get p.mappings j ≡ Some x → j ≡ i - 1 → x ≡ m
    same_place j x there is = same_Some x m (sym there ∙ ap (slice_get p.mappings) is ∙ at)

    pub search_goes_on : end < end_of m + pages → Searched p pages (i - 1) m.first
    search_goes_on short = record {
      below = omega (arith, its_end, s.below);
      above = (within (i - 1) m at).0;
      past = λ j x there late. elim (cases_eq j (i - 1)) [
        | inl is ↦ rw (same_place j x there is) (omega arith)
        | inr apart ↦ let up = s.past j x there (omega (arith, late, apart, some)) in omega (arith, up, its_end)
      ];
      before = lower;
      most = λ other fits. elim (fits.apart (i - 1) m at) [
        | inl under ↦ under
        | inr over ↦ let up = s.most other fits in absurd (omega (arith, up, over, short))
      ];
    }

    fits_above : end_of m + pages ≤ end → Fits p pages (end - pages)
    fits_above room = record {
      above = let low = (within (i - 1) m at).0 in omega (arith, low, room);
      below = omega (arith, room, s.below);
      apart = λ j x there. elim (cases_lt j (i - 1)) [
        | inl less ↦ let under = lower j x there less in inr (omega (arith, under, room))
        | inr late ↦ elim (cases_eq j (i - 1)) [
          | inl is ↦ inr (rw (same_place j x there is) (omega (arith, room)))
          | inr apart ↦ let up = s.past j x there (omega (arith, late, apart, some)) in inl (omega (arith, up, room))
        ]
      ];
    }

    pub search_finds : end_of m + pages ≤ end → Some (end - pages) ≡ mapping_place p pages
    search_finds room = sym (place_is p pages (end - pages) (fits_above room) (λ other fits. let up = s.most other fits in omega (arith, up)))

  module _ (end : ℕ) (s : Searched p pages 0 end) where
    fits_lowest : pages_for p.size + pages ≤ end → Fits p pages (end - pages)
    fits_lowest room = record {
      above = omega (arith, room);
      below = omega (arith, room, s.below);
      apart = λ j x there. let up = s.past j x there (omega arith) in inl (omega (arith, up, room));
    }

    pub lowest_found : pages_for p.size + pages ≤ end → Some (end - pages) ≡ mapping_place p pages
    lowest_found room = sym (place_is p pages (end - pages) (fits_lowest room) (λ other fits. let up = s.most other fits in omega (arith, up)))

    pub none_found : end < pages_for p.size + pages → None ≡ mapping_place p pages
    none_found short = sym (place_is_none p pages (λ other fits. let up = s.most other fits in let low = fits.above in omega (arith, up, low, short)))
