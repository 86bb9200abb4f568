-- Lemmas for `frames_needed`, which counts part by part (a part is a region with its first bytes): the pages of one part
-- more and where it begins; the tables of one size so far (`CountsTables`), at the end with those of TRAMPOLINE and
-- TRAPFRAME; the pages so far (`CountsPages`).
use Rattle.std.proofs.Common.{◌≡◌, ℕ, zero, suc, ◌+◌, ◌<◌, ◌≤◌, refl, ap, sym, ◌∙◌, arith, List, [], ◌∷◌, ◌++◌, map, length, get_or, take, ◌-◌, ◌/◌, max, Fits, w64}
use Rattle.std.proofs.lemmas.List.{append-nil, length-append, map-append, take_all, take_more}
use Rattle.std.proofs.lemmas.List.Concat.{flat_map-cons}
use Rattle.std.proofs.lemmas.Grind.{flat_map-append}
use Rattle.process_model.specs.Bytes.{numbers_from}
use Rattle.process_model.proofs.ImageNeed.{run_length, run_numbers}
use Rattle.process_model.specs.PageMap.{count, numbers}
use Rattle.process_model.specs.Regions.{end_of}
use Rattle.address_space.specs.Layouts.{last_page, region_of}
use Rattle.std.proofs.Math.Nat.{div-le_self}
use Rattle.sv39_entry.specs.Schemes.{trampoline_page, trapframe_page, of_scheme}
use Rattle.sv39_entry.specs.declared.scheme.Scheme.{Scheme}
use Rattle.address_space.specs.Parts.{AreParts, IsAscending, numbers_of, pages_of, part_pages, region_in, regions_in}
use Rattle.address_space.specs.declared.part.Part.{Part}
use Rattle.address_space.specs.declared.region.Region.{Region as CodeRegion}
use Rattle.process_model.proofs.ValueSets.{AreCounted, div_near, div_up, none_counted, run_counted, two_more}

-- ---- one part more

last_behind : (end : ℕ) (ps : List Part) (p : Part) → last_page end (regions_in (ps ++ p ∷ [])) ≡ end_of (region_in p)
last_behind end [] p = refl
last_behind end (q ∷ ps) p = last_behind (end_of (region_in q)) ps p

begins_from : (ps : List Part) (end i : ℕ) (d : Part) → IsAscending end ps → i < length ps → last_page end (regions_in (take i ps)) ≤ (get_or ps i d).region.first
begins_from [] end i d up less = absurd (omega arith)
begins_from (p ∷ ps) end zero d up less = up.0
begins_from (p ∷ ps) end (suc i) d up less = begins_from ps (end_of (region_in p)) i d up.1 (omega arith)

module _ (ps : List Part) (i : ℕ) (d : Part) (less : i < length ps) where
  pub pages_more : pages_of (take (i + 1) ps) ≡ pages_of (take i ps) ++ part_pages (get_or ps i d)
  pages_more =
      ap pages_of (take_more ps i d less) ∙ flat_map-append part_pages (take i ps) (get_or ps i d ∷ [])
      ∙ ap (λ es. pages_of (take i ps) ++ es) (flat_map-cons part_pages (get_or ps i d) [] ∙ append-nil (part_pages (get_or ps i d)))

  pub numbers_more : numbers_of (take (i + 1) ps) ≡ numbers_of (take i ps) ++ numbers_from (get_or ps i d).region.first (get_or ps i d).region.pages
  numbers_more =
      ap (map (λ (e : ℕ × List ℕ). e.0)) pages_more ∙ map-append (λ (e : ℕ × List ℕ). e.0) (pages_of (take i ps)) (part_pages (get_or ps i d))
      ∙ ap (λ ns. numbers_of (take i ps) ++ ns) (run_numbers (get_or ps i d).region.pages (get_or ps i d).region.first (get_or ps i d).bytes.now)

  pub length_more : length (pages_of (take (i + 1) ps)) ≡ length (pages_of (take i ps)) + (get_or ps i d).region.pages
  length_more =
      ap length pages_more ∙ length-append (pages_of (take i ps)) (part_pages (get_or ps i d))
      ∙ ap (λ n. length (pages_of (take i ps)) + n) (run_length (get_or ps i d).region.pages (get_or ps i d).region.first (get_or ps i d).bytes.now)

  pub region_more : (rs ss : List CodeRegion) → ss ≡ rs ++ (get_or ps i d).region ∷ [] → map region_of rs ≡ regions_in (take i ps) → map region_of ss ≡ regions_in (take (i + 1) ps)
  region_more rs ss more so_far =
      ap (map region_of) more ∙ map-append region_of rs ((get_or ps i d).region ∷ []) ∙ ap (λ xs. xs ++ region_in (get_or ps i d) ∷ []) so_far
      ∙ sym (ap regions_in (take_more ps i d less) ∙ map-append region_in (take i ps) (get_or ps i d ∷ []))

  pub last_more : last_page 0 (regions_in (take (i + 1) ps)) ≡ (get_or ps i d).region.first + (get_or ps i d).region.pages
  last_more = ap (λ qs. last_page 0 (regions_in qs)) (take_more ps i d less) ∙ last_behind 0 (take i ps) (get_or ps i d)

  pub begins : IsAscending 0 ps → last_page 0 (regions_in (take i ps)) ≤ (get_or ps i d).region.first
  begins up = begins_from ps 0 i d up less

-- ---- tables of so many pages

-- of the first parts so many tables are counted, and the numbers of those that come later are not below a bound by more than one
pub record CountsTables (z : Scheme) (size : ℕ) (ps : List Part) (i n bound : ℕ) : Type 0 where
  pub tables : AreCounted (λ m. m / size) (numbers_of (take i ps)) n bound
  pub few : n ≤ bound
  pub low : last_page 0 (regions_in (take i ps)) ≤ (trapframe_page z)
  pub near : (m : ℕ) → last_page 0 (regions_in (take i ps)) ≤ m → bound ≤ m / size + 1

pub counts_none : (z : Scheme) (size : ℕ) (ps : List Part) → CountsTables z size ps 0 0 0
counts_none z size ps = record { tables = none_counted (λ m. m / size); few = omega arith; low = omega arith; near = λ m le. omega arith }

module _ (z : Scheme) (size : ℕ) (some : 0 < size) (ps : List Part) (i : ℕ) (d : Part) (less : i < length ps) (are : AreParts z ps) (n bound : ℕ) (so_far : CountsTables z size ps i n bound) where
  abbrev part : Part
  part = get_or ps i d

  from_here : bound ≤ part.region.first / size + 1
  from_here = so_far.near part.region.first (begins ps i d less are.ascending)

  pub counts_empty : part.region.pages ≤ 0 → CountsTables z size ps (i + 1) n bound
  counts_empty empty =
      let zero_pages : part.region.pages ≡ 0 = omega (arith, empty) in
      let numbers : numbers_of (take (i + 1) ps) ≡ numbers_of (take i ps) = numbers_more ps i d less ∙ ap (λ k. numbers_of (take i ps) ++ numbers_from part.region.first k) zero_pages ∙ append-nil (numbers_of (take i ps)) in
      let last = last_more ps i d less in
      let before = begins ps i d less are.ascending in
      let low = are.low i d less in
      record {
        tables = rw numbers so_far.tables;
        few = so_far.few;
        low = omega (arith, last, low);
        near = λ m le. so_far.near m (omega (arith, le, last, before));
      }

  module _ (full : 0 < part.region.pages) where
    last_up : part.region.first / size ≤ (part.region.first + part.region.pages - 1) / size
    last_up = div_up size some part.region.first (part.region.first + part.region.pages - 1) (omega (arith, full))

    pub starts_below : max (part.region.first / size) bound ≤ (part.region.first + part.region.pages - 1) / size + 1
    starts_below = let up = last_up in let here = from_here in omega (arith, up, here)

    pub counts_run : CountsTables z size ps (i + 1) (n + ((part.region.first + part.region.pages - 1) / size + 1 - max (part.region.first / size) bound)) ((part.region.first + part.region.pages - 1) / size + 1)
    counts_run =
        let last = last_more ps i d less in
        let low = are.low i d less in
        let up = last_up in
        let here = from_here in
        let few = so_far.few in
        record {
          tables = rw (numbers_more ps i d less)
              (run_counted (λ m. m / size) (div_up size some) (div_near size some) part.region.first part.region.pages (part.region.first + part.region.pages - 1)
              (numbers_of (take i ps)) n bound so_far.tables here (omega (arith, full)) (omega (arith, full)));
          few = omega (arith, up, here, few);
          low = omega (arith, last, low);
          near = λ m le. let far = div_up size some (part.region.first + part.region.pages - 1) m (omega (arith, le, last)) in omega (arith, far);
        }

    pub counts_few : n + ((part.region.first + part.region.pages - 1) / size + 1 - max (part.region.first / size) bound) ≤ (trapframe_page z)
    counts_few =
        let up = last_up in
        let here = from_here in
        let few = so_far.few in
        let low = are.low i d less in
        let quotient = div-le_self (part.region.first + part.region.pages - 1) size in
        omega (arith, up, here, few, low, quotient, full)

-- with the two pages of the kernel, which share their tables
module _ (z : Scheme) (size : ℕ) (ps : List Part) (i n bound : ℕ) (all : length ps ≤ i) (top : (trampoline_page z) / size ≡ (trapframe_page z) / size) (so_far : CountsTables z size ps i n bound) where
  counts_top : count (numbers (map (λ m. m / size) ((trampoline_page z) ∷ (trapframe_page z) ∷ numbers_of ps))) ≡ n + ((trapframe_page z) / size + 1 - max ((trapframe_page z) / size) bound)
  counts_top =
      let tables = rw (take_all i ps all) at so_far.tables in
      two_more (λ m. m / size) (numbers_of ps) n bound (trapframe_page z) (trampoline_page z) tables (so_far.near (trapframe_page z) so_far.low) top

  pub top_counted : (page : ℕ) → page ≡ (trapframe_page z) → page / size < bound → n ≡ count (numbers (map (λ m. m / size) ((trampoline_page z) ∷ (trapframe_page z) ∷ numbers_of ps)))
  top_counted page is less = let test = rw is at less in sym (counts_top ∙ omega (arith, test))

  pub top_new : (page : ℕ) → page ≡ (trapframe_page z) → bound ≤ page / size → n + 1 ≡ count (numbers (map (λ m. m / size) ((trampoline_page z) ∷ (trapframe_page z) ∷ numbers_of ps)))
  top_new page is le = let test = rw is at le in sym (counts_top ∙ omega (arith, test))

-- ---- pages

pub record CountsPages (z : Scheme) (ps : List Part) (i n : ℕ) : Type 0 where
  pub counted : n ≡ length (pages_of (take i ps))
  pub below : n ≤ last_page 0 (regions_in (take i ps))
  pub few : n ≤ (trapframe_page z)

pub pages_none : (z : Scheme) (ps : List Part) → CountsPages z ps 0 0
pages_none z ps = record { counted = refl; below = omega arith; few = omega arith }

module _ (z : Scheme) (ps : List Part) (i : ℕ) (d : Part) (less : i < length ps) (are : AreParts z ps) (n : ℕ) (so_far : CountsPages z ps i n) where
  few_more : n + (get_or ps i d).region.pages ≤ (trapframe_page z)
  few_more =
      let below = so_far.below in
      let next = begins ps i d less are.ascending in
      let low = are.low i d less in
      omega (arith, below, next, low)

  pub pages_fit : Fits w64 (n + (get_or ps i d).region.pages)
  pages_fit = let few = few_more in omega (arith, few, of_scheme z)

  pub pages_counted : CountsPages z ps (i + 1) (n + (get_or ps i d).region.pages)
  pages_counted =
      let below = so_far.below in
      let next = begins ps i d less are.ascending in
      let last = last_more ps i d less in
      let more = length_more ps i d less in
      let counted = so_far.counted in
      record { counted = omega (arith, counted, more); below = omega (arith, below, next, last); few = few_more }

pub all_pages : (z : Scheme) (ps : List Part) (i n : ℕ) → length ps ≤ i → CountsPages z ps i n → n ≡ length (pages_of ps)
all_pages z ps i n all so_far = so_far.counted ∙ ap (λ qs. length (pages_of qs)) (take_all i ps all)
