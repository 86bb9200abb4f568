-- Lemma `sound_whole`: the process that parts (regions with their first bytes) make is sound: its regions are in order, and
-- each settled page (one in memory) is among those whose page tables it has.
use Rattle.std.proofs.Common.{◌≡◌, ℕ, suc, ◌+◌, ◌*◌, ◌/◌, ◌≤◌, inl, inr, ap, sym, ◌∙◌, subst, arith, List, [], ◌∷◌, Some}
use Rattle.std.specs.Prelude.{All, true, false, is_some}
use Rattle.std.proofs.lemmas.Bool.{cases_eq}
use Rattle.process_model.specs.Insertion.{inserted_here, inserted_other}
use Rattle.process_model.specs.ImageProcess.{numbered}
use Rattle.process_model.specs.Order.{EachRegion, HasLeaves, HasNoFile, is_file, IsSound, Row}
use Rattle.process_model.specs.PageMap as pages
use Rattle.process_model.specs.PageMap.{from_list, numbers}
use Rattle.process_model.specs.Process.{Page}
use Rattle.process_model.specs.Regions.{end_of, makes_leaf}
use Rattle.address_space.specs.Layouts.{last_page}
use Rattle.address_space.specs.Parts.{AreParts, IsAscending, pages_of, process_of_parts, region_in, regions_in}
use Rattle.address_space.specs.declared.part.Part.{Part}
use Rattle.address_space.proofs.BuildPages.{page_numbers, Pages}
use Rattle.sv39_entry.specs.Schemes.{trapframe_page}
use Rattle.sv39_entry.specs.declared.scheme.Scheme.{Scheme}

tail : (P : Part → Type 0) (p : Part) (ps : List Part) → All P (p ∷ ps) → All P ps
tail P p ps all k d less = all (suc k) d (omega (arith, less))

row_parts : (ps : List Part) (end : ℕ) → IsAscending end ps → Row 0 end (regions_in ps) (last_page end (regions_in ps))
row_parts [] end up = omega arith
row_parts (p ∷ ps) end up = (up.0, omega arith, row_parts ps (end_of (region_in p)) up.1)

last_low : (z : Scheme) (ps : List Part) (end : ℕ) → end ≤ (trapframe_page z) → All (λ p. p.region.first + p.region.pages ≤ (trapframe_page z)) ps → last_page end (regions_in ps) ≤ (trapframe_page z)
last_low z [] end low all = low
last_low z (p ∷ ps) end low all = last_low z ps (end_of (region_in p)) (all 0 p (omega arith)) (tail (λ x. x.region.first + x.region.pages ≤ (trapframe_page z)) p ps all)

each_leafy : (ps : List Part) → All (λ p. makes_leaf (region_in p) ≡ true) ps → EachRegion HasLeaves (regions_in ps)
each_leafy [] all = tt
each_leafy (p ∷ ps) all = (all 0 p (omega arith), each_leafy ps (tail (λ x. makes_leaf (region_in x) ≡ true) p ps all))

each_without_file : (ps : List Part) → All (λ p. is_file (region_in p).source ≡ false) ps → EachRegion HasNoFile (regions_in ps)
each_without_file [] all = tt
each_without_file (p ∷ ps) all = (all 0 p (omega arith), each_without_file ps (tail (λ x. is_file (region_in x).source ≡ false) p ps all))

tabled_from : (es : Pages) (fresh n : ℕ) (s : Page) → pages.get (from_list (numbered fresh es)) n ≡ Some s → pages.contains (numbers (page_numbers es)) n ≡ true
tabled_from [] fresh n s at = absurd (cc)
tabled_from (e ∷ es) fresh n s at = elim (cases_eq n e.0) [
  | inl same ↦ ap is_some (inserted_here e.0 tt (numbers (page_numbers es)) n same)
  | inr apart ↦
      ap is_some (inserted_other e.0 tt (numbers (page_numbers es)) n apart)
      ∙ tabled_from es (fresh + 1) n s (sym (inserted_other e.0 _ (from_list (numbered (fresh + 1) es)) n apart) ∙ at)
]

pub sound_whole : (z : Scheme) (ps : List Part) → AreParts z ps → (fresh : ℕ) → IsSound (process_of_parts z fresh ps)
sound_whole z ps are fresh =
    let end = last_page 0 (regions_in ps) in
    let low = last_low z ps 0 (omega arith) are.low in
    let base : 4096 * end / 4096 ≡ end = omega arith in
    record {
      order = record {
        parts = subst (Row 0 0 (regions_in ps)) (sym base) (row_parts ps 0 are.ascending);
        room = omega arith;
        above = omega (arith, low);
        leaves = each_leafy ps are.leafy;
        sources = each_without_file ps are.sources;
        mapped = tt;
      };
      tabled = λ n s at. tabled_from (pages_of ps) fresh n s at;
    }
