-- Lemmas for `settle_as`: a page that `Space::settle` settled (brought into memory) is as `SettlesAs` says without dirty
-- mark (D), and once `mark_stored` has set that mark, as it says with the mark.
use Rattle.std.proofs.Common.{◌≡◌, ℕ, true, false, refl, add-zero, ap, sym, subst, ◌∙◌, List, [], Some}
use Rattle.std.proofs.lemmas.Bool.{and_parts}
use Rattle.std.proofs.lemmas.Option.{same_Some}
use Rattle.address_space.specs.Agreement.{Body, IsSpace}
use Rattle.address_space.specs.Steps.{CanSettle, CanWrite, MarksStored, settled_with, Settles}
use Rattle.frame_store.specs.Tallies.{taken_on}
use Rattle.frame_store.specs.View.{taken}
use Rattle.process_model.specs.Bytes.{padded}
use Rattle.process_model.specs.Insertion.{inserted_here, put_again}
use Rattle.process_model.specs.PageMap.{insert}
use Rattle.process_model.specs.Process.{Page, Process}
use Rattle.process_model.specs.Regions.{is_shared_kind, keeps_stores, Region}
use Rattle.process_model.specs.Residence.{marked_stored, region_on}
use Rattle.table_walk.specs.Tables.{Tables}
use Rattle.fault_rules.specs.SettlePage.{settled_as, SettlesAs}
use Rattle.fault_rules.proofs.Pages.{page_sole, recopied}

module _ {x y : Body} {t u : Tables} {p : Process} {page f : ℕ} {bytes : List ℕ} (can : CanSettle x t p page) (settles : Settles x.view y t u p page bytes f) where
  pub settles_as : SettlesAs x.view y t u p page bytes false f
  settles_as = record {
    agrees = settles.agrees;
    on = settles.on;
    fresh = settles.fresh;
    sole = settles.sole;
    others = settles.others;
    takes = settles.takes;
  }

  -- where stores go back to a file
  module _ (kept : keeps_stores (region_on p page) ≡ true) where
    here : keeps_stores (Some can.region) ≡ true
    here = ap keeps_stores (sym can.in_region) ∙ kept

    writes : can.region.writes ≡ true
    writes = (and_parts can.region.writes (is_shared_kind can.region.kind) here).0

    abbrev pub anew : ℕ → Page
    anew fresh = record { bytes = padded 4096 bytes; copy = fresh; cow = false; dirty = false }

    abbrev pub before : Process
    before = settled_with 0 bytes p page

    pub can_mark : CanWrite y u before page (anew 0)
    can_mark = record {
      read = record { agrees = settles.agrees 0; settled = inserted_here page (anew 0) p.settled page refl };
      unmarked = refl;
      region = can.region;
      in_region = can.in_region;
      writes = writes;
    }

    pub settles_marked : (z : Body) (w : Tables) → MarksStored y.view z u w before page (anew 0) → SettlesAs x.view z t w p page bytes true f
    settles_marked z w marks =
        let on = marks.on f settles.on in
        let its : Page = marked_stored (region_on p page) (anew 0) in
        record {
          agrees = λ fresh.
              subst (λ b. IsSpace z w (settled_as fresh bytes b p page)) kept
              (recopied z w (record p { tabled = insert p.tabled page tt }) page its fresh
              (subst (λ m. IsSpace z w (record before { settled = m })) (put_again p.settled page (anew 0) its) marks.agrees));
          on = on;
          fresh = settles.fresh;
          sole = page_sole z w _ page its f marks.agrees (inserted_here page its before.settled page refl) refl
              (λ r in_region. ap (λ (k : Region). k.writes) (same_Some r can.region (sym in_region ∙ can.in_region)) ∙ writes) on;
          others = λ k apart. marks.others k apart ∙ settles.others k apart;
          takes = record {
            tallies = taken_on _ _ _ _ 0 [] [] settles.takes.tallies marks.takes.tallies ∙ ap (λ (i : ℕ). taken i [] x.view.tallies) (add-zero _);
          };
        }
