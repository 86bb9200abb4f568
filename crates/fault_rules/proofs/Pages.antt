-- Lemmas on a settled page (one in memory) of a space: if it has no copy-on-write mark and its region grants writing, the
-- seat is the sole holder of its frame (`page_sole`); and the space is also the process with another copy number of the page
-- (which copy of it this is), `recopied`.
use Rattle.std.proofs.Common.{◌≡◌, ℕ, not, ◌&&◌, true, false, inl, inr, ap, sym, ◌∙◌, Some}
use Rattle.std.proofs.lemmas.Bool.{cases_eq}
use Rattle.std.proofs.lemmas.Option.{same_Some}
use Rattle.address_space.specs.Agreement.{Body, IsLeafNumber, IsFrameOfPage, IsShown, IsSpace}
use Rattle.frame_store.specs.View.{IsSole}
use Rattle.process_model.specs.Insertion.{inserted_here, inserted_other}
use Rattle.process_model.proofs.OrderLaws.{same_order}
use Rattle.process_model.specs.PageMap.{get}
use Rattle.process_model.specs.Process.{Page, Process, regions}
use Rattle.process_model.specs.Regions.{region_at}
use Rattle.process_model.specs.Residence.{with_page}
use Rattle.sv39_entry.specs.Address.{has}
use Rattle.table_walk.specs.Tables.{Tables}

-- of the frame of a page that may be written the seat is the sole holder
pub page_sole : (x : Body) (t : Tables) (p : Process) (n : ℕ) (s : Page) (f : ℕ) → IsSpace x t p → get p.settled n ≡ Some s → s.cow ≡ false
    → ((r : _) → region_at (regions p) n ≡ Some r → r.writes ≡ true) → IsFrameOfPage t n f → IsSole x.view f
page_sole x t p n s f space settled unmarked writes on =
    let shown = space.stands.shows.settled n s settled in
    let leaf : shown.leaf ≡ on.0 = same_Some shown.leaf on.0 (sym shown.mapped ∙ on.1) in
    let written : has on.0 2 ≡ true =
    ap (λ w. has w 2) (sym leaf) ∙ shown.made.write ∙ ap (λ b. b && not s.cow) (writes shown.region shown.in_region) ∙ ap (λ b. true && not b) unmarked in
    space.stands.owns.writable f _ on.0 on.1 on.2 written

-- a page with another copy number
module _ (x : Body) (t : Tables) (p : Process) (page : ℕ) (s : Page) (copy : ℕ) (space : IsSpace x t (with_page p page s)) where
  abbrev copied : Page
  copied = record s { copy = copy }

  abbrev before : Process
  before = with_page p page s

  abbrev after : Process
  after = with_page p page copied

  settled_then : (n : ℕ) (y : Page) → get after.settled n ≡ Some y → IsShown x.view t after n y
  settled_then n y at = elim (cases_eq n page) [
    | inl same ↦
        let is : copied ≡ y = same_Some copied y (sym (inserted_here page copied p.settled n same) ∙ at) in
        let shown = space.stands.shows.settled n s (inserted_here page s p.settled n same) in
        rw (← is) (record {
          region = shown.region;
          frame = shown.frame;
          leaf = shown.leaf;
          in_region = shown.in_region;
          mapped = shown.mapped;
          made = shown.made;
          bytes = shown.bytes;
        })
    | inr apart ↦
        let shown = space.stands.shows.settled n y (inserted_other page s p.settled n apart ∙ sym (inserted_other page copied p.settled n apart) ∙ at) in
        record {
          region = shown.region;
          frame = shown.frame;
          leaf = shown.leaf;
          in_region = shown.in_region;
          mapped = shown.mapped;
          made = shown.made;
          bytes = shown.bytes;
        }
  ]

  -- a page that is settled then was settled before
  was_settled : (n : ℕ) (y : Page) → get after.settled n ≡ Some y → (z : Page) × (get before.settled n ≡ Some z)
  was_settled n y at = elim (cases_eq n page) [
    | inl same ↦ (s, inserted_here page s p.settled n same)
    | inr apart ↦ (y, inserted_other page s p.settled n apart ∙ sym (inserted_other page copied p.settled n apart) ∙ at)
  ]

  still_settled : (n : ℕ) (y : Page) → get before.settled n ≡ Some y → (z : Page) × (get after.settled n ≡ Some z)
  still_settled n y at = elim (cases_eq n page) [
    | inl same ↦ (copied, inserted_here page copied p.settled n same)
    | inr apart ↦ (y, inserted_other page copied p.settled n apart ∙ sym (inserted_other page s p.settled n apart) ∙ at)
  ]

  of_leaf : (k : ℕ) → IsLeafNumber before k → IsLeafNumber after k
  of_leaf k (inl is) = inl is
  of_leaf k (inr (inl is)) = inr (inl is)
  of_leaf k (inr (inr (n, y, is, at))) = let there = still_settled n y at in inr (inr (n, there.0, is, there.1))

  pub recopied : IsSpace x t after
  recopied = record {
    sound = record {
      order = same_order 0 before after.settled after.tabled after.pending space.sound.order;
      tabled = λ n y at. let was = was_settled n y at in space.sound.tabled n was.0 was.1;
    };
    lays = record { parts = space.lays.parts; mappings = space.lays.mappings; heap_base = space.lays.heap_base; size = space.lays.size; scheme = space.lays.scheme };
    stands = record {
      tables = space.stands.tables;
      owns = space.stands.owns;
      shows = record {
        on_trampoline = space.stands.shows.on_trampoline;
        on_trapframe = space.stands.shows.on_trapframe;
        settled = settled_then;
        only = λ k w at. of_leaf k (space.stands.shows.only k w at);
        low = λ n y at. let was = was_settled n y at in space.stands.shows.low n was.0 was.1;
      };
      tabled = space.stands.tabled;
      tabled_low = space.stands.tabled_low;
    };
    credits = space.credits;
  }
