-- Lemmas for `make_resident` of a page without a frame: it can be settled (brought into memory), no reference count is read,
-- the frames that it needs, the page of a file that is read; and settled with its initial bytes it is made resident
-- (`first_resides`).
use Rattle.std.proofs.Common.{◌≡◌, ℕ, Bool, false, true, ◌-◌, ◌*◌, refl, ap, sym, subst, ◌∙◌, List, [], Option, None, Some}
use Rattle.std.specs.Prelude.{is_some, option_to_list}
use Rattle.address_space.specs.Agreement.{Body, IsSpace}
use Rattle.address_space.specs.Layouts.{region_of}
use Rattle.address_space.specs.declared.region.Region.{Region as CodeRegion}
use Rattle.address_space.specs.declared.region.Source.TheVariants as from
use Rattle.address_space.specs.Steps.{CanSettle, RunsDry, TakesFrames}
use Rattle.fault_rules.specs.MadeResident.{CanMakeResident, gets_frame, is_counted, is_shared_by, IsOnItsFrame, moves_for, moves_from, resident_reads, MakesResident}
use Rattle.fault_rules.specs.SettlePage.{settled_as, SettlesAs}
use Rattle.fault_rules.proofs.Sources.{no_file_moves}
use Rattle.frame_store.specs.View.{View}
use Rattle.process_model.specs.Bytes.{padded}
use Rattle.process_model.specs.Files.{File}
use Rattle.process_model.specs.Frames.{resident_need, resident_need_of, settle_need}
use Rattle.process_model.specs.PageMap.{get, insert}
use Rattle.process_model.specs.Process.{Process}
use Rattle.process_model.specs.Regions.{keeps_stores, Region}
use Rattle.process_model.specs.Residence.{leaves_mark, made_resident, made_resident_from, region_on, region_page, source_page}
use Rattle.sv39_entry.specs.declared.access.Access.{Access}
use Rattle.sv39_entry.specs.declared.access.Access.TheVariants as access
use Rattle.table_walk.specs.Tables.{Tables}

-- no count is read of a page without a frame
none_counted : (a : Access) → is_counted a None ≡ false
none_counted access.Fetch = refl
none_counted access.Load = refl
none_counted access.Store = refl

-- an access leaves the mark only where stores go back to a file
pub keeps_of_mark : (a : Access) (o : Option Region) → leaves_mark a o ≡ true → keeps_stores o ≡ true
keeps_of_mark access.Fetch o is = absurd (cc)
keeps_of_mark access.Load o is = absurd (cc)
keeps_of_mark access.Store o is = is

module _ {x : Body} {t : Tables} {p : Process} {a : Access} {page : ℕ} (can : CanMakeResident x t p a page) (unsettled : get p.settled page ≡ None) where
  pub can_settle : CanSettle x t p page
  can_settle = record { agrees = can.agrees; unsettled = unsettled; region = can.region; in_region = can.in_region }

  pub counts_none : false ≡ is_counted a (get p.settled page)
  counts_none = sym (ap (is_counted a) unsettled ∙ none_counted a)

  pub first_need : (shared : Bool) → resident_need shared p a page ≡ settle_need p page
  first_need shared = ap (resident_need_of shared p a page) unsettled

  pub first_short : (v w : View) → RunsDry v w (settle_need p page) []
      → (count : Option ℕ) × (is_some count ≡ is_counted a (get p.settled page)) × RunsDry v w (resident_need (is_shared_by count) p a page) (option_to_list count)
  first_short v w dry = (None, counts_none, subst (λ n. RunsDry v w n []) (sym (first_need false)) dry)

  pub first_moves : (files : List File) (r : Region) (n : ℕ) → r ≡ can.region → n ≡ page → moves_from files r.source (4096 * (n - r.first)) ≡ resident_reads files p page
  first_moves files r n is same =
      ap (λ m. moves_from files r.source (4096 * (m - r.first))) same
      ∙ ap (λ (x : Region). moves_from files x.source (4096 * (page - x.first))) is
      ∙ sym (ap (λ o. moves_for files (region_on p page) o page) unsettled ∙ ap (λ o. moves_for files o None page) can.in_region)

  pub first_moves_none : (files : List File) (r : CodeRegion) → region_of r ≡ can.region → ((n offset : ℕ) → r.source ≡ from.File n offset → ⊥) → [] ≡ resident_reads files p page
  first_moves_none files r is none = sym (no_file_moves files r.source (4096 * (page - r.first)) none) ∙ first_moves files (region_of r) page is refl

  abbrev anew : ℕ → List ℕ → Bool → Process
  anew fresh bytes mark = record p {
    settled = insert p.settled page (record { bytes = bytes; copy = fresh; cow = false; dirty = mark });
    tabled = insert p.tabled page tt;
  }

  module _ (y : Body) (u : Tables) (files : List File) (bytes : List ℕ) (mark : Bool) (f : ℕ)
      (begins : padded 4096 bytes ≡ source_page files can.region.source (4096 * (page - can.region.first)))
      (marks : mark ≡ leaves_mark a (Some can.region))
      (settles : SettlesAs x.view y t u p page bytes mark f) where
    made_is : (fresh : ℕ) (shared : Bool) → settled_as fresh bytes mark p page ≡ made_resident files fresh shared p a page
    made_is fresh shared =
        ap (λ bs. anew fresh bs mark) begins
        ∙ ap (λ b. anew fresh (region_page files (Some can.region) page) b) marks
        ∙ ap (λ o. anew fresh (region_page files o page) (leaves_mark a o)) (sym can.in_region)
        ∙ sym (ap (made_resident_from files fresh shared p a page) unsettled)

    pub first_resides : MakesResident x.view y t u p files a page None
    first_resides = record {
      agrees = λ fresh. subst (IsSpace y u) (made_is fresh false) (settles.agrees fresh);
      placed = subst (λ o. IsOnItsFrame x.view y.view t u page (gets_frame false a o)) (sym unsettled) (f, settles.on, settles.fresh, settles.sole);
      others = settles.others;
      counted = counts_none;
      takes = subst (λ n. TakesFrames x.view y.view n []) (sym (first_need false)) settles.takes;
    }
