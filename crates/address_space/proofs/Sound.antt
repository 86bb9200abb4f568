-- Lemmas: every page of a region lies below TRAPFRAME; and a process stays sound (its regions are in order, and it has the
-- page tables of each settled page) with fewer settled pages (those in memory), with a changed one, and with one more.
use Rattle.std.proofs.Common.{◌≡◌, ℕ, ◌<◌, inl, inr, ap, sym, ◌∙◌, List, Some}
use Rattle.std.proofs.lemmas.Bool.{cases_eq}
use Rattle.std.specs.Prelude.{is_some}
use Rattle.process_model.specs.Insertion.{inserted_here, inserted_other}
use Rattle.process_model.specs.Order.{HasOrder, IsSound}
use Rattle.process_model.proofs.OrderLaws.{regions_row, same_order}
use Rattle.process_model.specs.PageMap as pages
use Rattle.process_model.specs.PageMap.{PageMap}
use Rattle.process_model.specs.Process.{Page, Process, regions}
use Rattle.process_model.proofs.RegionRows.{row_within}
use Rattle.process_model.specs.Regions.{Region, region_at}
use Rattle.process_model.specs.Residence.{with_page}
use Rattle.address_space.specs.Steps.{settled_with}
use Rattle.sv39_entry.specs.Schemes.{trapframe_page}

-- ---- the regions of a process

module _ (p : Process) (order : HasOrder 0 p) where
  pub low_at : (n : ℕ) (r : Region) → region_at (regions p) n ≡ Some r → n < (trapframe_page p.scheme)
  low_at n r at = (row_within 0 0 (trapframe_page p.scheme) n (regions p) r (regions_row 0 p order) at).1

-- ---- what keeps a process sound

-- fewer pages are settled
pub sound_fewer : (p : Process) (new : PageMap Page) → ((n : ℕ) (s : Page) → pages.get new n ≡ Some s → pages.get p.settled n ≡ Some s)
    → IsSound p → IsSound (record p { settled = new })
sound_fewer p new fewer sound = record { order = same_order 0 p new p.tabled p.pending sound.order; tabled = λ n s at. sound.tabled n s (fewer n s at) }

-- a settled page changes
pub sound_page : (p : Process) (page : ℕ) (s x : Page) → pages.get p.settled page ≡ Some s → IsSound p → IsSound (with_page p page x)
sound_page p page s x there sound = record {
  order = same_order 0 p (pages.insert p.settled page x) p.tabled p.pending sound.order;
  tabled = λ n y at. elim (cases_eq n page) [
    | inl same ↦ rw same (sound.tabled page s there)
    | inr apart ↦ sound.tabled n y (sym (inserted_other page x p.settled n apart) ∙ at)
  ];
}

-- one more page is settled
pub sound_more : (fresh : ℕ) (bytes : List ℕ) (p : Process) (page : ℕ) → IsSound p → IsSound (settled_with fresh bytes p page)
sound_more fresh bytes p page sound =
    let next = settled_with fresh bytes p page in
    record {
      order = same_order 0 p next.settled next.tabled p.pending sound.order;
      tabled = λ n s at. elim (cases_eq n page) [
        | inl same ↦ ap is_some (inserted_here page tt p.tabled n same)
        | inr apart ↦ ap is_some (inserted_other page tt p.tabled n apart) ∙ sound.tabled n s (sym (inserted_other page _ p.settled n apart) ∙ at)
      ];
    }
