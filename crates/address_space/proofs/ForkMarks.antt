-- Lemmas for `mark_forked`: a settled page (one in memory) gets the copy-on-write mark, its leaf over the frame that it has but
-- without W (`fork_turned`); if its region grants no writing, nothing changes (`fork_kept`).
use Rattle.std.proofs.Common.{◌≡◌, ℕ, Some, Bool, true, false, not, ◌&&◌, ◌||◌, refl, ap, sym, subst, ◌∙◌, inl, inr}
use Rattle.std.proofs.lemmas.Bool.{cases_eq}
use Rattle.std.proofs.lemmas.Option.{same_Some}
use Rattle.std.specs.FinMap.{get}
use Rattle.std.specs.Prelude.{IsSome}
use Rattle.frame_store.specs.View.{AllKnown, View, with_word}
use Rattle.process_model.specs.Insertion.{put_back}
use Rattle.process_model.proofs.OrderLaws.{leafy_at}
use Rattle.process_model.specs.PageMap as pages
use Rattle.process_model.specs.Process.{Page, Process, regions}
use Rattle.process_model.specs.Regions.{is_shared_kind, lacks_right, makes_leaf, Region, region_at}
use Rattle.process_model.specs.Residence.{marked_page, with_page}
use Rattle.sv39_entry.specs.Address.{has, vpn}
use Rattle.sv39_entry.specs.Word.{ppn}
use Rattle.sv39_entry.specs.declared.access.Access.TheVariants.{Store}
use Rattle.table_walk.specs.LeafBacking.{IsBacked}
use Rattle.table_walk.specs.Tables.{HasTables, Tables, last_table, leaf_node, with_leaf}
use Rattle.table_walk.specs.Keys.{insert_other, insert_same}
use Rattle.address_space.specs.Agreement.{body, is_dirty_page, IsFrameOfPage, IsPageLeaf}
use Rattle.address_space.specs.ProcessLeaves.{bytes_known, page_backed}
use Rattle.address_space.specs.SettledLists.{IsSettledPage}
use Rattle.address_space.specs.SpacesInCalls.{IsSpaceInCall, MarksForked}
use Rattle.address_space.specs.Layouts.{Layout}
use Rattle.address_space.specs.declared.settled_pages.SettledPage.{SettledPage}
use Rattle.address_space.proofs.Owned.{no_table, one_ppn}
use Rattle.address_space.proofs.Owning.{owns_same, turned_other, turned_references, turned_stands, turned_words}
use Rattle.address_space.proofs.Sound.{sound_page}
use Rattle.address_space.proofs.Writing.{HasPage, lays_with, page_here}

or_false : (b : Bool) → (b || false) ≡ b
or_false false = refl
or_false true = refl

or_true : (b : Bool) → (b || true) ≡ true
or_true false = refl
or_true true = refl

kept_dirty : (a w : Bool) → ((a && w) && w) ≡ (a && w)
kept_dirty false w = refl
kept_dirty true false = refl
kept_dirty true true = refl

never : (w : Bool) → (w && false) ≡ true → ⊥
never false e = cc
never true e = cc

module _ {v : View} {root trapframe : ℕ} {l : Layout} {t : Tables} {p : Process} {extra : ℕ → ℕ} (a : SettledPage) (can : IsSpaceInCall (body v root trapframe l) t p extra)
    (is : IsSettledPage t p a) where
  abbrev page : ℕ
  page = a.page

  abbrev s : Page
  s = is.page

  settled : pages.get p.settled page ≡ Some s
  settled = is.settled

  found : (f : ℕ) × HasPage v t p page s f
  found = page_here v root trapframe extra t p page s can.stands settled

  pub fork_mapped : IsSome (get t.leaves (leaf_node a.page))
  fork_mapped = rw is.on.1 refl

  -- its frame has its bytes, and a leaf with the mark may not be stored to
  pub fork_backed : (leaf : ℕ) (r : Region) (dirty : Bool) → IsPageLeaf leaf (a.frame).0 r true dirty → IsBacked v leaf
  fork_backed leaf r dirty made =
      let here = found.1 in
      let same : found.0 ≡ (a.frame).0 = one_ppn found.0 (a.frame).0 (sym here.made.names ∙ ap ppn (same_Some here.leaf is.on.0 (sym here.mapped ∙ is.on.1)) ∙ is.on.2) in
      page_backed v leaf (a.frame).0 r true dirty made (subst (AllKnown v) same (bytes_known v found.0 s.bytes here.bytes)) (λ writes. absurd (never r.writes writes))

  module _ (r : Region) (in_region : region_at (regions p) page ≡ Some r) where
    pub fork_leafy : makes_leaf r ≡ true
    fork_leafy = leafy_at p can.sound.order page r in_region

    -- the region grants no writing, and nothing changes
    module _ (lacks : lacks_right Store (Some r) ≡ true) where
      same_page : marked_page p page s ≡ s
      same_page =
          ap (λ b. record s { cow = s.cow || b }) (ap (λ o. not (lacks_right Store o)) in_region ∙ ap not lacks)
          ∙ ap (λ b. record s { cow = b }) (or_false s.cow)

      same_process : with_page p page (marked_page p page s) ≡ p
      same_process = ap (with_page p page) same_page ∙ ap (λ m. record p { settled = m }) (put_back p.settled page s settled)

      pub fork_kept : MarksForked (body v root trapframe l) (body v root trapframe l) t t p extra page s
      fork_kept = record {
        forking = subst (λ q. IsSpaceInCall (body v root trapframe l) t q extra) (sym same_process) can;
        turns = record {
          on = λ n f on. on;
          tables = refl;
          same = λ f apart. refl;
          count = λ f. refl;
          credits = refl;
          tallies = refl;
          size = refl;
        };
      }

    -- the region grants writing, and the leaf is turned
    module _ (lacks : lacks_right Store (Some r) ≡ false) (w : View) (leaf : ℕ)
        (made : IsPageLeaf leaf (a.frame).0 r true (a.dirty && r.writes)) (tables : HasTables p.scheme w root (with_leaf t (leaf_node page) leaf))
        (word : (y : ℕ) → get t.tables (last_table p.scheme page) ≡ Some y → w ≡ with_word y (vpn page 0) leaf v) where
      abbrev marked : Page
      marked = marked_page p page s

      here : HasPage v t p page s found.0
      here = found.1

      is_marked : marked.cow ≡ true
      is_marked = ap (λ b. s.cow || b) (ap (λ o. not (lacks_right Store o)) in_region ∙ ap not lacks) ∙ or_true s.cow

      same_frame : (a.frame).0 ≡ found.0
      same_frame = one_ppn (a.frame).0 found.0 (sym is.on.2 ∙ ap ppn (same_Some is.on.0 here.leaf (sym is.on.1 ∙ here.mapped)) ∙ here.made.names)

      dirty_is : (a.dirty && r.writes) ≡ is_dirty_page r marked
      dirty_is =
          ap (λ b. b && r.writes) is.dirty
          ∙ ap (λ q. is_dirty_page q s && r.writes) (same_Some is.region r (sym is.in_region ∙ in_region))
          ∙ kept_dirty (s.dirty || not (is_shared_kind r.kind)) r.writes

      shown : IsPageLeaf leaf found.0 r marked.cow (is_dirty_page r marked)
      shown =
          subst (λ b. IsPageLeaf leaf found.0 r b (is_dirty_page r marked)) (sym is_marked)
          (subst (λ b. IsPageLeaf leaf found.0 r true b) dirty_is
          (subst (λ f. IsPageLeaf leaf f r true (a.dirty && r.writes)) same_frame made))

      not_written : has leaf 2 ≡ true → ⊥
      not_written writes = never r.writes (sym made.write ∙ writes)

      on_before : (n f : ℕ) → IsFrameOfPage (with_leaf t (leaf_node page) leaf) n f → IsFrameOfPage t n f
      on_before n f on = elim (cases_eq (leaf_node n) (leaf_node page)) [
        | inl same ↦ (
          here.leaf,
          ap (get t.leaves) same ∙ here.mapped,
          here.made.names ∙ sym shown.names ∙ ap ppn (same_Some leaf on.0 (sym (insert_same t.leaves (leaf_node page) leaf (leaf_node n) same) ∙ on.1)) ∙ on.2,
        )
        | inr ne ↦ (on.0, sym (insert_other t.leaves (leaf_node page) leaf (leaf_node n) ne) ∙ on.1, on.2)
      ]

      pub fork_turned : MarksForked (body v root trapframe l) (body w root trapframe l) t (with_leaf t (leaf_node page) leaf) p extra page s
      fork_turned =
          let changes = turned_words v w root trapframe extra t p page s r found.0 leaf can.stands settled in_region tables word in
          record {
            forking = record {
              sound = sound_page p page s marked settled can.sound;
              lays = lays_with l p page marked can.lays;
              stands = turned_stands v w root trapframe extra t p page s r found.0 leaf can.stands settled in_region tables word marked shown extra
                  (no_table v t root extra can.stands.tables can.stands.owns (leaf_node page) here.leaf found.0 here.mapped here.made.names) here.bytes
                  (owns_same v root t can.stands.tables page here.leaf leaf found.0 found.0 here.mapped here.made.names shown.names refl
                  (λ writes. absurd (not_written writes)) extra can.stands.owns);
            };
            turns = record {
              on = on_before;
              tables = refl;
              same = turned_other v w root trapframe extra t p page s r found.0 leaf can.stands settled in_region tables word;
              count = turned_references v w root trapframe extra t p page s r found.0 leaf can.stands settled in_region tables word;
              credits = ap (λ (x : View). x.credits) changes.1.1;
              tallies = ap (λ (x : View). x.tallies) changes.1.1;
              size = ap (λ (x : View). x.size) changes.1.1;
            };
          }
