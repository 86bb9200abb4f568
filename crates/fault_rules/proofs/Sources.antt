-- Lemmas on the bytes with which a page begins: a source that is no file has zeros and reads no page; a file has those of its
-- page, which are read; a whole page is not padded; and a page of a process lies in its region, whose bytes of a file are in reach (`HoldsPage`).
use Rattle.std.proofs.Common.{◌≡◌, ℕ, true, false, ◌+◌, ◌*◌, ◌-◌, ◌<◌, ◌≤◌, inl, inr, refl, ap, sym, subst, ◌∙◌, arith, List, [], ◌∷◌, Option, Some, length, option_map, replicate, take}
use Rattle.std.proofs.lemmas.Grind.{common_steps}
use Rattle.std.proofs.lemmas.List.{append-nil, take_all}
use Rattle.std.proofs.lemmas.Option.{same_Some}
use Rattle.address_space.specs.Layouts.{region_of, source_of}
use Rattle.address_space.specs.declared.region.Region.{Region as CodeRegion}
use Rattle.address_space.specs.declared.region.Source.{Source as From}
use Rattle.address_space.specs.declared.region.Source.TheVariants as from
use Rattle.fault_rules.specs.MadeResident.{moves_from}
use Rattle.process_model.specs.Bytes.{padded}
use Rattle.process_model.specs.Files.{File, file_page}
use Rattle.process_model.specs.Order.{HasNoFile, HasOrder, IsInReach, is_file, IsMapping}
use Rattle.process_model.specs.PageMoves.{page_read}
use Rattle.process_model.specs.Process.{Process, heap_of, regions}
use Rattle.process_model.proofs.RegionRows.{each_at, first_or_second, held, here_or_later}
use Rattle.process_model.specs.Regions.{end_of, file, holds_page, image, Region, region_at, Source, zeros}
use Rattle.process_model.specs.Residence.{source_page}

-- ---- a source that is no file

pub no_file_page : (files : List File) (s : From) (at : ℕ) → ((n offset : ℕ) → s ≡ from.File n offset → ⊥) → source_page files (source_of s) at ≡ padded 4096 []
no_file_page files from.Zeros at none = refl
no_file_page files from.Image at none = refl
no_file_page files (from.File n offset) at none = absurd (none n offset refl)

pub no_file_moves : (files : List File) (s : From) (at : ℕ) → ((n offset : ℕ) → s ≡ from.File n offset → ⊥) → moves_from files (source_of s) at ≡ []
no_file_moves files from.Zeros at none = refl
no_file_moves files from.Image at none = refl
no_file_moves files (from.File n offset) at none = absurd (none n offset refl)

-- ---- a source that is a file

module _ (files : List File) (r : Region) (n offset at page : ℕ) (is : r.source ≡ file n offset) (there : at ≡ offset + 4096 * (page - r.first)) where
  -- a page begins with the bytes of its file from this place on
  pub file_begins : source_page files r.source (4096 * (page - r.first)) ≡ file_page files n at
  file_begins = ap (λ s. source_page files s (4096 * (page - r.first))) is ∙ ap (file_page files n) (sym there)

  -- and they are what is read for it
  pub file_moves : moves_from files r.source (4096 * (page - r.first)) ≡ page_read n at (file_page files n at) ∷ []
  file_moves = ap (λ s. moves_from files s (4096 * (page - r.first))) is ∙ ap (λ a. page_read n a (file_page files n a) ∷ []) (sym there)

-- ---- bytes of a page

pub zeros_of_none : (n : ℕ) → replicate n 0 ≡ padded n []
zeros_of_none n = grind (arith, common_steps)

-- a whole page gets no zeros behind it
pub padded_whole : (bytes : List ℕ) → length bytes ≡ 4096 → padded 4096 bytes ≡ bytes
padded_whole bytes whole =
    let all : take 4096 bytes ≡ bytes = take_all 4096 bytes (omega (arith, whole)) in
    let none : 4096 - length bytes ≡ 0 = omega (arith, whole) in
    rw (all, none) (append-nil bytes)

-- ---- the region of a page

-- the page is one of the region's, and where that is of a file its pages are in reach
pub record HoldsPage (r : Region) (page : ℕ) : Type 0 where
  pub from : r.first ≤ page
  pub to : page < end_of r
  pub reach : IsInReach r.source r.pages

far : (s : Source) (pages : ℕ) → is_file s ≡ false → IsInReach s pages
far zeros pages none = tt
far image pages none = tt
far (file n offset) pages none = absurd (cc)

region_holds : (rs : List Region) (n : ℕ) (r : Region) → region_at rs n ≡ Some r → holds_page r n ≡ true
region_holds [] n r is = absurd (cc)
region_holds (x ∷ rs) n r is = elim (here_or_later x rs n r is) [
  | inl first ↦ subst (λ y. holds_page y n ≡ true) first.1 first.0
  | inr later ↦ region_holds rs n r later.1
]

in_reach : (p : Process) (n : ℕ) (r : Region) → HasOrder 0 p → region_at (regions p) n ≡ Some r → IsInReach r.source r.pages
in_reach p n r order is = elim (first_or_second p.parts (heap_of p ∷ p.mappings) n r is) [
  | inl part ↦ far r.source r.pages (each_at HasNoFile p.parts n r order.sources part)
  | inr behind ↦ elim (here_or_later (heap_of p) p.mappings n r behind.1) [
    | inl heap ↦ subst (λ (y : Region). IsInReach y.source y.pages) heap.1 tt
    | inr mapping ↦ (each_at IsMapping p.mappings n r order.mapped mapping.1).reach
  ]
]

region_of_page : (p : Process) (n : ℕ) (r : Region) → HasOrder 0 p → region_at (regions p) n ≡ Some r → HoldsPage r n
region_of_page p n r order is =
    let inside = held r n (region_holds (regions p) n r is) in
    record { from = inside.0; to = inside.1; reach = in_reach p n r order is }

-- the region that was found
pub found_region : (o : Option CodeRegion) (r : CodeRegion) (rs : List Region) (n m : ℕ) (x : Region) → o ≡ Some r → option_map region_of o ≡ region_at rs m → m ≡ n → region_at rs n ≡ Some x
    → region_of r ≡ x
found_region o r rs n m x is found same at = same_Some (region_of r) x (sym (ap (option_map region_of) is) ∙ found ∙ ap (region_at rs) same ∙ at)

-- and what it says of the page, by either of its equal numbers
pub found_holds : (o : Option CodeRegion) (r : CodeRegion) (p : Process) (n m k : ℕ) (x : Region) → o ≡ Some r → option_map region_of o ≡ region_at (regions p) m → m ≡ n → k ≡ n → HasOrder 0 p
    → region_at (regions p) n ≡ Some x → HoldsPage (region_of r) k
found_holds o r p n m k x is found same again order at =
    subst (λ y. HoldsPage y k) (sym (found_region o r (regions p) n m x is found same at)) (region_of_page p k x order (ap (region_at (regions p)) again ∙ at))
