-- Record `Layout`, the regions of a space as contracts see them, and `LaysOut`: they are those of a process of the model.
-- Functions from the code's region types to the model's (`region_of`, `source_of`, ..); codings of the model's types by
-- numbers; filler; the result of a check (`granted_unless`); and the page after the last region of a list.
use Rattle.std.specs.Prelude.{◌≡◌, ℕ, zero, suc, Bool, List, [], ◌∷◌, Option, None, Some, Result, Ok, Err, refl}
use Rattle.std.specs.Coded.{Coded, code_by, coded×, coded_ℕ, coded_bool, coded_list}
use Rattle.process_model.specs.Regions.{Region, RegionKind, end_of, Source, segment, guard, stack, heap, shared_mapping, private_mapping, zeros, image, file}
use Rattle.process_model.specs.Process.{Process}
use Rattle.sv39_entry.specs.declared.rule.Rule.{Rule}
use Rattle.sv39_entry.specs.Rights.{reads, writes, executes}
use Rattle.sv39_entry.specs.declared.scheme.Scheme.{Scheme}
use Rattle.sv39_entry.specs.declared.scheme.Scheme.TheVariants.{Sv39, Sv48}
use Rattle.address_space.specs.declared.region.Region.{Region as CodeRegion}
use Rattle.address_space.specs.declared.region.RegionKind.{RegionKind as Kind}
use Rattle.address_space.specs.declared.region.RegionKind.TheVariants as kind
use Rattle.address_space.specs.declared.region.Source.{Source as From}
use Rattle.address_space.specs.declared.region.Source.TheVariants as from

abbrev pub region_kind : Kind → RegionKind
region_kind kind.Segment = segment
region_kind kind.Guard = guard
region_kind kind.Stack = stack
region_kind kind.Heap = heap
region_kind kind.SharedMapping = shared_mapping
region_kind kind.PrivateMapping = private_mapping

abbrev pub source_of : From → Source
source_of from.Zeros = zeros
source_of from.Image = image
source_of (from.File n offset) = file n offset

-- filler for an unused place of a fixed-size list
abbrev pub no_region : CodeRegion
no_region = record { first = 0; pages = 0; rights = record { 0 = 1 }; kind = kind.Segment; source = from.Zeros }

-- the model's region that a region of the code is
abbrev pub region_of : CodeRegion → Region
region_of r = record {
  first = r.first;
  pages = r.pages;
  reads = reads r.rights.0;
  writes = writes r.rights.0;
  executes = executes r.rights.0;
  kind = region_kind r.kind;
  source = source_of r.source;
}

-- the model's data, coded by numbers

abbrev pub kind_number : RegionKind → ℕ
kind_number segment = 0
kind_number guard = 1
kind_number stack = 2
kind_number heap = 3
kind_number shared_mapping = 4
kind_number private_mapping = 5

abbrev pub kind_at : ℕ → RegionKind
kind_at zero = segment
kind_at (suc zero) = guard
kind_at (suc (suc zero)) = stack
kind_at (suc (suc (suc zero))) = heap
kind_at (suc (suc (suc (suc zero)))) = shared_mapping
kind_at (suc (suc (suc (suc (suc n))))) = private_mapping

pub kind_back : (k : RegionKind) → kind_at (kind_number k) ≡ k
kind_back segment = refl
kind_back guard = refl
kind_back stack = refl
kind_back heap = refl
kind_back shared_mapping = refl
kind_back private_mapping = refl

abbrev pub source_numbers : Source → ℕ × (ℕ × ℕ)
source_numbers zeros = (0, (0, 0))
source_numbers image = (1, (0, 0))
source_numbers (file n offset) = (2, (n, offset))

abbrev pub source_at : ℕ × (ℕ × ℕ) → Source
source_at (zero, p) = zeros
source_at (suc zero, p) = image
source_at (suc (suc n), p) = file p.0 p.1

pub source_back : (s : Source) → source_at (source_numbers s) ≡ s
source_back zeros = refl
source_back image = refl
source_back (file n offset) = refl

abbrev pub kind_code : Coded RegionKind
kind_code = code_by ℕ coded_ℕ kind_number kind_at kind_back

abbrev pub source_code : Coded Source
source_code = code_by (ℕ × (ℕ × ℕ)) (coded× coded_ℕ (coded× coded_ℕ coded_ℕ)) source_numbers source_at source_back

abbrev pub region_code : Coded Region
region_code = code_by (ℕ × (ℕ × (Bool × (Bool × (Bool × (RegionKind × Source))))))
    (coded× coded_ℕ (coded× coded_ℕ (coded× coded_bool (coded× coded_bool (coded× coded_bool (coded× kind_code source_code))))))
    (λ r. (r.first, (r.pages, (r.reads, (r.writes, (r.executes, (r.kind, r.source)))))))
    (λ p. record { first = p.0; pages = p.1.0; reads = p.1.1.0; writes = p.1.1.1.0; executes = p.1.1.1.1.0; kind = p.1.1.1.1.1.0; source = p.1.1.1.1.1.1 })
    (λ _. refl)

abbrev pub scheme_number : Scheme → ℕ
scheme_number Sv39 = 0
scheme_number Sv48 = 1

abbrev pub scheme_at : ℕ → Scheme
scheme_at zero = Sv39
scheme_at (suc n) = Sv48

pub scheme_back : (z : Scheme) → scheme_at (scheme_number z) ≡ z
scheme_back Sv39 = refl
scheme_back Sv48 = refl

abbrev pub scheme_code : Coded Scheme
scheme_code = code_by ℕ coded_ℕ scheme_number scheme_at scheme_back

-- the scheme and the regions of a process, with the heap by the addresses at which it begins and ends
pub record Layout : Type 0 where
  pub scheme : Scheme
  pub parts : List Region
  pub mappings : List Region
  pub heap_base : ℕ
  pub size : ℕ

abbrev pub layout_code : Coded Layout
layout_code = code_by (Scheme × (List Region × (List Region × (ℕ × ℕ))))
    (coded× scheme_code (coded× (coded_list region_code) (coded× (coded_list region_code) (coded× coded_ℕ coded_ℕ))))
    (λ l. (l.scheme, (l.parts, (l.mappings, (l.heap_base, l.size)))))
    (λ p. record { scheme = p.0; parts = p.1.0; mappings = p.1.1.0; heap_base = p.1.1.1.0; size = p.1.1.1.1 })
    (λ _. refl)

-- the process p of the model has this scheme and these regions
pub record LaysOut (l : Layout) (p : Process) : Type 0 where
  pub scheme : p.scheme ≡ l.scheme
  pub parts : p.parts ≡ l.parts
  pub mappings : p.mappings ≡ l.mappings
  pub heap_base : p.heap_base ≡ l.heap_base
  pub size : p.size ≡ l.size

-- the result of asking for an access: the rule that denies it as an error, if there is one
abbrev pub granted_unless : Option Rule → Result (Unit {0}) Rule
granted_unless None = Ok tt
granted_unless (Some r) = Err r

-- the page after the last region of a list, `end` if the list is empty
abbrev pub last_page : ℕ → List Region → ℕ
last_page end [] = end
last_page end (r ∷ rs) = last_page (end_of r) rs
