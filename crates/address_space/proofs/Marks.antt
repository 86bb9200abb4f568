-- Lemmas for `mark_stored`: a page that may be written gets a leaf with D over the frame that it has, of which the seat is
-- the sole holder. The page then has the dirty mark (D) if its stores are written back (`marks`).
use Rattle.std.proofs.Common.{◌≡◌, ℕ, Option, Some, Bool, true, false, not, ◌&&◌, ◌||◌, refl, ap, sym, subst, ◌∙◌}
use Rattle.std.proofs.lemmas.Option.{same_Some}
use Rattle.std.specs.FinMap.{get}
use Rattle.std.specs.Prelude.{option_and_then, option_map}
use Rattle.frame_store.specs.View.{AllKnown, IsSole, View, with_word}
use Rattle.process_model.proofs.OrderLaws.{leafy_at}
use Rattle.process_model.specs.Process.{Page, Process, regions}
use Rattle.process_model.specs.Regions.{is_shared_kind, keeps_stores, makes_leaf, Region, region_at}
use Rattle.process_model.specs.Residence.{marked_stored, region_on}
use Rattle.sv39_entry.specs.Address.{vpn}
use Rattle.sv39_entry.specs.Frame.{frame_at}
use Rattle.sv39_entry.specs.Word.{has_flag, ppn}
use Rattle.sv39_entry.specs.declared.frame.FrameNo.{FrameNo}
use Rattle.table_walk.specs.Tables.{HasTables, Tables, last_table, leaf_node, with_leaf}
use Rattle.table_walk.specs.Keys.{insert_other, insert_same}
use Rattle.address_space.specs.Agreement.{body, is_dirty_page, IsPageLeaf, no_extra}
use Rattle.address_space.specs.Layouts.{Layout}
use Rattle.address_space.specs.ProcessLeaves.{bytes_known}
use Rattle.address_space.specs.Steps.{CanWrite, MarksStored}
use Rattle.address_space.proofs.Owned.{no_table}
use Rattle.address_space.proofs.Owning.{owns_same, turned_stands, turned_words}
use Rattle.address_space.proofs.Sound.{sound_page}
use Rattle.address_space.proofs.Writing.{HasPage, lays_with, page_found, page_here, page_sole, words_take}

-- what stores go back from is marked, and all else is dirty from the start
all_dirty : (a b : Bool) → (((a || (true && b)) || not b) && true) ≡ true
all_dirty false false = refl
all_dirty false true = refl
all_dirty true b = refl

module _ {v : View} {root trapframe : ℕ} {l : Layout} {t : Tables} {p : Process} {page : ℕ} {s : Page} (can : CanWrite (body v root trapframe l) t p page s) where
  pub found : (f : ℕ) × HasPage v t p page s f
  found = page_here v root trapframe no_extra t p page s can.read.agrees.stands can.read.settled

  pub mark_some : (o : Option (FrameNo × Bool)) → o ≡ option_and_then (λ w. option_map (λ f. (f, has_flag w 128)) (frame_at (ppn w))) (get t.leaves (leaf_node page))
      → o ≡ Some (record { 0 = found.0 }, is_dirty_page found.1.region s)
  mark_some o is = page_found v t p page s found.0 found.1 o is

  pub mark_frame : (o : Option (FrameNo × Bool)) (x : FrameNo × Bool) → o ≡ option_and_then (λ w. option_map (λ f. (f, has_flag w 128)) (frame_at (ppn w))) (get t.leaves (leaf_node page))
      → o ≡ Some x → (x.0).0 ≡ found.0
  mark_frame o x is some = ap (λ (y : FrameNo × Bool). (y.0).0) (same_Some x _ (sym some ∙ mark_some o is))

  pub mark_known : AllKnown v found.0
  mark_known = bytes_known v found.0 s.bytes found.1.bytes

  pub mark_sole : IsSole v found.0
  mark_sole = page_sole v root trapframe l t p page s found.0 can found.1

  module _ (r : Region) (in_region : region_at (regions p) page ≡ Some r) where
    pub mark_leafy : makes_leaf r ≡ true
    mark_leafy = leafy_at p can.read.agrees.sound.order page r in_region

    writes : r.writes ≡ true
    writes = ap (λ (x : Region). x.writes) (same_Some r can.region (sym in_region ∙ can.in_region)) ∙ can.writes

    abbrev marked : Page
    marked = marked_stored (region_on p page) s

    dirty_is : (true && r.writes) ≡ is_dirty_page r marked
    dirty_is =
        let same : keeps_stores (region_on p page) ≡ (true && is_shared_kind r.kind) = ap keeps_stores in_region ∙ ap (λ b. b && is_shared_kind r.kind) writes in
        writes ∙ sym (ap (λ b. ((s.dirty || b) || not (is_shared_kind r.kind)) && r.writes) same
        ∙ ap (λ b. ((s.dirty || (true && is_shared_kind r.kind)) || not (is_shared_kind r.kind)) && b) writes
        ∙ all_dirty s.dirty (is_shared_kind r.kind))

    module _ (w : View) (x : FrameNo × Bool) (o : Option (FrameNo × Bool)) (is : o ≡ option_and_then (λ w. option_map (λ f. (f, has_flag w 128)) (frame_at (ppn w))) (get t.leaves (leaf_node page)))
        (some : o ≡ Some x) (leaf : ℕ) (made : IsPageLeaf leaf (x.0).0 r false (true && r.writes)) (tables : HasTables p.scheme w root (with_leaf t (leaf_node page) leaf))
        (word : (y : ℕ) → get t.tables (last_table p.scheme page) ≡ Some y → w ≡ with_word y (vpn page 0) leaf v) where
      same_frame : (x.0).0 ≡ found.0
      same_frame = mark_frame o x is some

      shown : IsPageLeaf leaf found.0 r marked.cow (is_dirty_page r marked)
      shown =
          subst (λ b. IsPageLeaf leaf found.0 r b (is_dirty_page r marked)) (sym can.unmarked)
          (subst (λ b. IsPageLeaf leaf found.0 r false b) dirty_is
          (subst (λ f. IsPageLeaf leaf f r false (true && r.writes)) same_frame made))

      here : HasPage v t p page s found.0
      here = found.1

      pub marks : MarksStored v (body w root trapframe l) t (with_leaf t (leaf_node page) leaf) p page s
      marks =
          let space = can.read.agrees in
          let changes = turned_words v w root trapframe no_extra t p page s r found.0 leaf space.stands can.read.settled in_region tables word in
          record {
            agrees = record {
              sound = sound_page p page s marked can.read.settled space.sound;
              lays = lays_with l p page marked space.lays;
              stands = turned_stands v w root trapframe no_extra t p page s r found.0 leaf space.stands can.read.settled in_region tables word marked shown no_extra
                  (no_table v t root no_extra space.stands.tables space.stands.owns (leaf_node page) here.leaf found.0 here.mapped here.made.names) here.bytes
                  (owns_same v root t space.stands.tables page here.leaf leaf found.0 found.0 here.mapped here.made.names shown.names refl
                  (λ _. mark_sole) no_extra space.stands.owns);
              credits = ap (λ (x : View). x.credits) changes.1.1 ∙ space.credits;
            };
            on = λ f on. (
              leaf,
              insert_same t.leaves (leaf_node page) leaf (leaf_node page) refl,
              shown.names ∙ sym here.made.names ∙ ap ppn (same_Some here.leaf on.0 (sym here.mapped ∙ on.1)) ∙ on.2,
            );
            others = λ k ne. insert_other t.leaves (leaf_node page) leaf k ne;
            takes = words_take changes.0 v w changes.1;
          }
