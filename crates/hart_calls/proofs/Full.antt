-- Lemmas: only a process that has a mapping reads pages of files in an access (`read_maps`) or writes them back at its end
-- (`written_maps`).
use Rattle.std.proofs.Common.{◌≡◌, ◌<◌, ℕ, Bool, true, false, Option, None, Some, List, [], ◌∷◌, ◌++◌, length, refl, ap, sym, subst, arith}
use Rattle.std.specs.Prelude.{flat_map}
use Rattle.fault_rules.specs.MadeResident.{moves_for, moves_from}
use Rattle.fault_rules.specs.Serves.{served_moves}
use Rattle.hart_calls.specs.CallKinds.{IsAccessCall}
use Rattle.hart_calls.specs.CallOutcomes.{access_reads, request, reads_of, rule_for}
use Rattle.hart_calls.specs.TurnCases.{HasMapping}
use Rattle.hart_calls.specs.Shortages.{nothing}
use Rattle.process_model.specs.Bytes.{is_width}
use Rattle.process_model.specs.Files.{File}
use Rattle.process_model.specs.Order.{EachRegion, HasNoFile, HasOrder, is_file}
use Rattle.process_model.specs.PageMap.{get}
use Rattle.process_model.specs.PageMoves.{all_moves, mapping_moves, PageMove}
use Rattle.process_model.specs.Process.{heap_of, Page, Process, regions}
use Rattle.process_model.specs.Regions.{file, holds_page, image, Region, region_at, Source, zeros}
use Rattle.process_model.specs.Service.{AccessRequest}
use Rattle.process_model.specs.declared.call.Call.{Call}
use Rattle.process_model.specs.declared.call.Call.TheVariants as call
use Rattle.sv39_entry.specs.Address.{page_of}
use Rattle.sv39_entry.specs.declared.access.Access.TheVariants.{Fetch, Load, Store}
use Rattle.sv39_entry.specs.declared.rule.Rule.{Rule}

-- ---- what an end would write

pub no_moves : (p : Process) (ms : List Region) → p.mappings ≡ ms → (HasMapping ms → ⊥) → all_moves p ≡ []
no_moves p [] is none = ap (λ (ms : List Region). flat_map (mapping_moves p) ms) is
no_moves p (m ∷ ms) is none = absurd (none tt)

-- a process that writes pages of files has a mapping
pub written_maps : (p : Process) → 0 < length (all_moves p) → HasMapping p.mappings
written_maps p some = go p.mappings refl
  where
    go : (ms : List Region) → p.mappings ≡ ms → HasMapping p.mappings
    go [] is = let none = ap (λ (ms : List PageMove). length ms) (no_moves p [] is (λ h. h)) in absurd (omega (arith, some, none))
    go (m ∷ ms) is = subst HasMapping (sym is) tt

-- ---- what an access would read

no_file_moves : (files : List File) (s : Source) (at : ℕ) → is_file s ≡ false → moves_from files s at ≡ []
no_file_moves files zeros at none = refl
no_file_moves files image at none = refl
no_file_moves files (file n offset) at none = absurd (cc)

-- the regions, of which none is of a file, hold a page that is of none
found_no_file : (rs : List Region) → EachRegion HasNoFile rs → (files : List File) (page : ℕ) (o : Option Page) → moves_for files (region_at rs page) o page ≡ []
found_no_file rs each files page (Some s) = still (region_at rs page)
  where
    still : (r : Option Region) → moves_for files r (Some s) page ≡ []
    still None = refl
    still (Some r) = refl
found_no_file [] each files page None = refl
found_no_file (r ∷ rs) each files page None = by (holds_page r page) refl (found_no_file rs each.1 files page None)
  where
    by : (b : Bool) → holds_page r page ≡ b → moves_for files (region_at rs page) None page ≡ [] → moves_for files (region_at (r ∷ rs) page) None page ≡ []
    by true is later = rw is (no_file_moves files r.source _ each.0)
    by false is later = rw is later

parts_and_heap : (rs : List Region) (h : Region) → EachRegion HasNoFile rs → HasNoFile h → EachRegion HasNoFile (rs ++ h ∷ [])
parts_and_heap [] h each none = (none, tt)
parts_and_heap (r ∷ rs) h each none = (each.0, parts_and_heap rs h each.1 none)

module _ (p : Process) (order : HasOrder 0 p) (files : List File) where
  served_maps : (page : ℕ) (o : Option Rule) → 0 < length (served_moves files p page o) → HasMapping p.mappings
  served_maps page (Some r) some = absurd (omega (arith, some))
  served_maps page None some = go p.mappings refl
    where
      go : (ms : List Region) → p.mappings ≡ ms → HasMapping p.mappings
      go [] is =
          let each = parts_and_heap p.parts (heap_of p) order.sources refl in
          let none : moves_for files (region_at (regions p) page) (get p.settled page) page ≡ [] = rw is (found_no_file (p.parts ++ heap_of p ∷ []) each files page (get p.settled page)) in
          let long = ap (λ (ms : List PageMove). length ms) none in
          absurd (omega (arith, some, long))
      go (m ∷ ms) is = subst HasMapping (sym is) tt

  accessed_maps : (a : AccessRequest) (wide : Bool) → 0 < length (access_reads files p a wide) → HasMapping p.mappings
  accessed_maps a true some = served_maps (page_of a.address) (rule_for p a) some
  accessed_maps a false some = absurd (omega (arith, some))

  -- a process that reads a page of a file has a mapping
  pub read_maps : (c : Call) → IsAccessCall c → 0 < length (reads_of files nothing p c) → HasMapping p.mappings
  read_maps (call.Fetch address) access some = accessed_maps (request Fetch address 4 0) (is_width 4) some
  read_maps (call.Load address width) access some = accessed_maps (request Load address width 0) (is_width width) some
  read_maps (call.Store address width value) access some = accessed_maps (request Store address width value) (is_width width) some
  read_maps (call.Exec i) access some = absurd access
  read_maps (call.Sbrk delta) access some = absurd access
  read_maps (call.Mmap len protection flags f) access some = absurd access
  read_maps (call.Munmap address len) access some = absurd access
  read_maps (call.CopyIn address count) access some = absurd access
  read_maps (call.CopyOut address bytes) access some = absurd access
  read_maps (call.Exit status) access some = absurd access
  read_maps (call.Fork list) access some = absurd access
