-- Lemmas: a settled page (one in memory) is resident (ready) for a fetch or load and stays as it is, without a frame
-- (`still_resides`); no page of a file is read for it; and a page of a region lies below TRAPFRAME.
use Rattle.std.proofs.Common.{◌≡◌, ◌<◌, ℕ, Bool, false, true, refl, ap, sym, subst, ◌∙◌, List, [], Option, None, Some}
use Rattle.address_space.specs.Agreement.{Body, IsSpace}
use Rattle.address_space.specs.Steps.{TakesFrames}
use Rattle.fault_rules.specs.MadeResident.{CanMakeResident, gets_frame, is_counted, IsOnItsFrame, moves_for, resident_reads, MakesResident}
use Rattle.frame_store.specs.Tallies.{taken_none}
use Rattle.process_model.specs.Files.{File}
use Rattle.process_model.specs.Frames.{resident_need, resident_need_of, unless_through}
use Rattle.process_model.proofs.OrderLaws.{regions_row}
use Rattle.process_model.specs.PageMap.{get}
use Rattle.process_model.specs.Process.{Page, Process, regions}
use Rattle.process_model.proofs.RegionRows.{row_within}
use Rattle.process_model.specs.Regions.{Region}
use Rattle.process_model.specs.Residence.{can_complete, made_resident, made_resident_from, parts_from, region_on, taken_over_unless}
use Rattle.sv39_entry.specs.Schemes.{trapframe_page}
use Rattle.sv39_entry.specs.declared.access.Access.{Access}
use Rattle.sv39_entry.specs.declared.access.Access.TheVariants as access
use Rattle.table_walk.specs.Tables.{Tables}

-- regions lie below the trapframe
pub page_low : (x : Body) (t : Tables) (p : Process) (a : Access) (page : ℕ) → CanMakeResident x t p a page → page < trapframe_page p.scheme
page_low x t p a page can = (row_within 0 0 (trapframe_page p.scheme) page (regions p) can.region (regions_row 0 p can.agrees.sound.order) can.in_region).1

-- what is said of a store

through : (a : Access) (r : Option Region) (s : Page) → (a ≡ access.Store → ⊥) → can_complete a r s ≡ true
through access.Fetch r s other = refl
through access.Load r s other = refl
through access.Store r s other = absurd (other refl)

uncounted : (a : Access) (s : Page) → (a ≡ access.Store → ⊥) → is_counted a (Some s) ≡ false
uncounted access.Fetch s other = refl
uncounted access.Load s other = refl
uncounted access.Store s other = absurd (other refl)

no_frame : (a : Access) (s : Page) → (a ≡ access.Store → ⊥) → gets_frame false a (Some s) ≡ false
no_frame access.Fetch s other = refl
no_frame access.Load s other = refl
no_frame access.Store s other = absurd (other refl)

module _ {x : Body} {t : Tables} {p : Process} {a : Access} {page : ℕ} (can : CanMakeResident x t p a page) (s : Page) (settled : get p.settled page ≡ Some s) where
  -- nothing is read from a file
  pub still_moves : (files : List File) → resident_reads files p page ≡ []
  still_moves files = ap (λ o. moves_for files (region_on p page) o page) settled ∙ ap (λ o. moves_for files o (Some s) page) can.in_region

  module _ (other : a ≡ access.Store → ⊥) where
    pub still_need : (shared : Bool) → resident_need shared p a page ≡ 0
    still_need shared = ap (resident_need_of shared p a page) settled ∙ ap (unless_through (parts_from shared s)) (through a (region_on p page) s other)

    made_is : (files : List File) (fresh : ℕ) → made_resident files fresh false p a page ≡ p
    made_is files fresh = ap (made_resident_from files fresh false p a page) settled ∙ ap (taken_over_unless fresh false p page s) (through a (region_on p page) s other)

    pub still_resides : (files : List File) → MakesResident x.view x t t p files a page None
    still_resides files = record {
      agrees = λ fresh. subst (IsSpace x t) (sym (made_is files fresh)) can.agrees;
      placed = subst (IsOnItsFrame x.view x.view t t page) (sym (ap (gets_frame false a) settled ∙ no_frame a s other)) (λ f on. on);
      others = λ k apart. refl;
      counted = sym (ap (is_counted a) settled ∙ uncounted a s other);
      takes = subst (λ n. TakesFrames x.view x.view n []) (sym (still_need false)) (record { tallies = taken_none x.view.tallies });
    }
