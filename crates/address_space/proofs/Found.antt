-- Lemmas on the region of a page (`region_at`): in a list, in two lists one after the other, and in a process, among its
-- parts, its heap or its mappings; and for a search of a list of regions from the front.
use Rattle.std.proofs.Common.{◌≡◌, ℕ, zero, suc, ◌<◌, ◌≤◌, length, get_or, arith, true, false, List, [], ◌∷◌, ◌++◌, map, drop, refl, ap, sym, ◌∙◌, inl, inr, Option, Some, None}
use Rattle.std.proofs.lemmas.Bool.{cases_Bool}
use Rattle.address_space.specs.Layouts.{region_of}
use Rattle.address_space.specs.declared.region.Region.{Region as CodeRegion}
use Rattle.process_model.specs.Process.{Process, heap_of, regions}
use Rattle.process_model.specs.Regions.{Region, holds_page, region_at}

pub first_found : (r : Region) (rs : List Region) (page : ℕ) → holds_page r page ≡ true → region_at (r ∷ rs) page ≡ Some r
first_found r rs page held = rw held refl

pub first_passed : (r : Region) (rs : List Region) (page : ℕ) → holds_page r page ≡ false → region_at (r ∷ rs) page ≡ region_at rs page
first_passed r rs page other = rw other refl

pub in_front : (rs ss : List Region) (page : ℕ) (r : Region) → region_at rs page ≡ Some r → region_at (rs ++ ss) page ≡ Some r
in_front [] ss page r is = absurd (cc)
in_front (x ∷ rs) ss page r is = elim (cases_Bool (holds_page x page)) [
  | inl held ↦ rw held (rw held at is)
  | inr other ↦ rw other (in_front rs ss page r (rw other at is))
]

pub behind : (rs ss : List Region) (page : ℕ) → region_at rs page ≡ None → region_at (rs ++ ss) page ≡ region_at ss page
behind [] ss page none = refl
behind (x ∷ rs) ss page none = elim (cases_Bool (holds_page x page)) [
  | inl held ↦ absurd (let both = rw held at none in cc)
  | inr other ↦ rw other (behind rs ss page (rw other at none))
]

-- the region of a page of a process, by where it stands
module _ (p : Process) (parts : List Region) (page : ℕ) (is : p.parts ≡ parts) where
  pub part_found : (r : Region) → region_at parts page ≡ Some r → Some r ≡ region_at (regions p) page
  part_found r found = sym (rw is (in_front parts (heap_of p ∷ p.mappings) page r found))

  module _ (none : region_at parts page ≡ None) (h : Region) (heap : h ≡ heap_of p) where
    after_parts : region_at (regions p) page ≡ region_at (heap_of p ∷ p.mappings) page
    after_parts = rw is (behind parts (heap_of p ∷ p.mappings) page none)

    pub heap_found : holds_page h page ≡ true → Some h ≡ region_at (regions p) page
    heap_found held = sym (after_parts ∙ first_found (heap_of p) p.mappings page (ap (λ r. holds_page r page) (sym heap) ∙ held) ∙ ap Some (sym heap))

    pub mapping_found : (o : Option Region) → holds_page h page ≡ false → o ≡ region_at p.mappings page → o ≡ region_at (regions p) page
    mapping_found o other found = found ∙ sym (after_parts ∙ first_passed (heap_of p) p.mappings page (ap (λ r. holds_page r page) (sym heap) ∙ other))

-- a region that does not hold the page is passed by
pub passed : (rs : List CodeRegion) (i page : ℕ) (d : CodeRegion) → i < length rs → holds_page (region_of (get_or rs i d)) page ≡ false
    → region_at (map region_of (drop i rs)) page ≡ region_at (map region_of (drop (suc i) rs)) page
passed [] i page d less other = absurd (omega arith)
passed (r ∷ rs) zero page d less other = rw other refl
passed (r ∷ rs) (suc i) page d less other = passed rs i page d (omega arith) other

pub met : (rs : List CodeRegion) (i page : ℕ) (d : CodeRegion) → i < length rs → holds_page (region_of (get_or rs i d)) page ≡ true
    → region_at (map region_of (drop i rs)) page ≡ Some (region_of (get_or rs i d))
met [] i page d less held = absurd (omega arith)
met (r ∷ rs) zero page d less held = rw held refl
met (r ∷ rs) (suc i) page d less held = met rs i page d (omega arith) held

pub none_left : (rs : List CodeRegion) (i page : ℕ) → length rs ≤ i → region_at (map region_of (drop i rs)) page ≡ None
none_left [] zero page past = refl
none_left [] (suc i) page past = refl
none_left (r ∷ rs) zero page past = absurd (omega arith)
none_left (r ∷ rs) (suc i) page past = none_left rs i page (omega arith)
