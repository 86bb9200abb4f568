-- Lemma `adds`, for the call `add_page`: once a frame is claimed and filled, the missing tables are made and a leaf names the
-- frame, the process with this page settled is in memory, as `AddsPage` says.
use Rattle.std.proofs.Common.{◌≡◌, ℕ, ◌<◌, None, Some, List, ◌∷◌, not, ◌&&◌, false, refl, ap, sym, ◌∙◌, inl, inr, arith}
use Rattle.std.proofs.lemmas.Bool.{cases_eq}
use Rattle.std.proofs.lemmas.Option.{same_Some}
use Rattle.std.specs.FinMap.{get}
use Rattle.frame_bytes.specs.Contents.{HasBytes}
use Rattle.frame_store.specs.Tallies.{spent_on}
use Rattle.frame_store.specs.View.{View, IsHeld, hold_of}
use Rattle.process_model.specs.Bytes.{padded}
use Rattle.process_model.specs.PageMap as pages
use Rattle.process_model.specs.Process.{Page, Process}
use Rattle.process_model.specs.Regions.{Region, is_shared_kind}
use Rattle.sv39_entry.specs.Frame.{ppn_of}
use Rattle.sv39_entry.specs.Word.{ppn}
use Rattle.table_walk.specs.TableCounts.{AreTablesOf, same_members}
use Rattle.table_walk.specs.Tables.{ChangesTables, HasTables, Tables, IsGrown, leaf_node, missing, with_leaf}
use Rattle.table_walk.specs.Keys.{insert_other, insert_same, is_none}
use Rattle.sv39_entry.specs.Schemes.{top_level, trampoline_page, trapframe_page, of_scheme}
use Rattle.address_space.specs.Agreement.{IsLeafNumber, IsPageLeaf, no_extra, one_extra, KeepsOtherLeaves, ShowsPages}
use Rattle.address_space.specs.Steps.{AddsPage, CanAdd, settled_with}
use Rattle.address_space.proofs.AddingFrames.{Comes, come_owns, come_tables, come_unnamed, f_same, leaf_owns, leaf_same, not_held_before}
use Rattle.address_space.proofs.Owned.{named_held, same_bytes, same_sole}
use Rattle.process_model.specs.Insertion.{all_keys, inserted_here, inserted_other, key_in, key_out}
use Rattle.table_walk.specs.Nodes.{one_page}

module _ (v : View) (root trapframe : ℕ) (t : Tables) (p : Process) (page : ℕ) (region : Region) (can : CanAdd v root trapframe t p page region) where
  -- the page's leaf is no other one
  leaf_apart : (n : ℕ) → (n ≡ page → ⊥) → leaf_node n ≡ leaf_node page → ⊥
  leaf_apart n apart same = apart (one_page n page same)

  not_settled : (n : ℕ) (s : Page) → pages.get p.settled n ≡ Some s → n ≡ page → ⊥
  not_settled n s found same = let none = rw (same, can.unsettled) at found in cc

  settled_apart : (n : ℕ) (s : Page) → pages.get p.settled n ≡ Some s → leaf_node n ≡ leaf_node page → ⊥
  settled_apart n s found = leaf_apart n (not_settled n s found)

  trampoline_apart : leaf_node (trampoline_page p.scheme) ≡ leaf_node page → ⊥
  trampoline_apart = leaf_apart (trampoline_page p.scheme) (λ same. omega (arith, same, can.low, of_scheme p.scheme))

  trapframe_apart : leaf_node (trapframe_page p.scheme) ≡ leaf_node page → ⊥
  trapframe_apart = leaf_apart (trapframe_page p.scheme) (λ same. omega (arith, same, can.low, of_scheme p.scheme))

  no_number : IsLeafNumber p (leaf_node page) → ⊥
  no_number (inl is) = trampoline_apart (sym is)
  no_number (inr (inl is)) = trapframe_apart (sym is)
  no_number (inr (inr (n, s, is, found))) = settled_apart n s found (sym is)

  unmapped : get t.leaves (leaf_node page) ≡ None
  unmapped = is_none (get t.leaves (leaf_node page)) (λ y leaf. no_number (can.stands.shows.only (leaf_node page) y leaf))

  module _ (r w : View) (u : Tables) (x f : ℕ) (bytes : List ℕ) (c : Comes v r f) (has : HasBytes r f (padded 4096 bytes)) (made : IsPageLeaf x f region false (not (is_shared_kind region.kind) && region.writes))
      (grown : IsGrown p.scheme t u page (top_level p.scheme)) (tables : HasTables p.scheme w root (with_leaf u (leaf_node page) x)) (changes : ChangesTables r w t u (missing p.scheme t page)) where
    keeps : KeepsOtherLeaves t (with_leaf u (leaf_node page) x) page
    keeps k apart = insert_other u.leaves (leaf_node page) x k apart ∙ ap (λ leaves. get leaves k) grown.leaves

    here : get (with_leaf u (leaf_node page) x).leaves (leaf_node page) ≡ Some x
    here = insert_same u.leaves (leaf_node page) x (leaf_node page) refl

    filled_same : hold_of w f ≡ hold_of r f
    filled_same = f_same r w t u (missing p.scheme t page) root page x f (one_extra f) no_extra (come_owns v r f c t can.stands.owns) (come_unnamed v r f c t can.stands.owns) (λ g. omega arith) (come_tables v r f c root t can.stands.tables) grown changes tables made.names unmapped (λ writes. c.sole)

    old_same : (m y g : ℕ) → get t.leaves m ≡ Some y → ppn y ≡ ppn_of g → hold_of w g ≡ hold_of v g
    old_same m y g leaf names =
        let held : IsHeld v g = named_held v t no_extra can.stands.owns g m (inr (y, leaf, names)) in
        leaf_same r w t u (missing p.scheme t page) root page x f (one_extra f) no_extra (come_owns v r f c t can.stands.owns) (come_unnamed v r f c t can.stands.owns) (λ g. omega arith) (come_tables v r f c root t can.stands.tables) grown changes tables made.names unmapped (λ writes. c.sole) m y g leaf names
        ∙ c.others g (not_held_before v r f c g held)

    module _ (fresh : ℕ) where
      added_shows : ShowsPages w trapframe (with_leaf u (leaf_node page) x) (settled_with fresh bytes p page)
      added_shows =
          let s = can.stands.shows in
          let new : Page = record { bytes = padded 4096 bytes; copy = fresh; cow = false; dirty = false } in
          record {
            on_trampoline = (s.on_trampoline.0, keeps _ trampoline_apart ∙ s.on_trampoline.1, s.on_trampoline.2);
            on_trapframe = (s.on_trapframe.0, keeps _ trapframe_apart ∙ s.on_trapframe.1, s.on_trapframe.2);
            settled = λ n q at. elim (cases_eq n page) [
              | inl same ↦
                  let is : new ≡ q = same_Some new q (sym (inserted_here page new p.settled n same) ∙ at) in
                  record {
                    region = region;
                    frame = f;
                    leaf = x;
                    in_region = rw same can.in_region;
                    mapped = rw same here;
                    made = rw (← is) made;
                    bytes = rw (← is) (same_bytes r w f (padded 4096 bytes) filled_same has);
                  }
              | inr apart ↦
                  let found = sym (inserted_other page new p.settled n apart) ∙ at in
                  let shown = s.settled n q found in
                  record {
                    region = shown.region;
                    frame = shown.frame;
                    leaf = shown.leaf;
                    in_region = shown.in_region;
                    mapped = keeps (leaf_node n) (settled_apart n q found) ∙ shown.mapped;
                    made = shown.made;
                    bytes = same_bytes v w shown.frame q.bytes (old_same (leaf_node n) shown.leaf shown.frame shown.mapped shown.made.names) shown.bytes;
                  }
            ];
            only = λ k y leaf. elim (cases_eq k (leaf_node page)) [
              | inl same ↦ inr (inr (page, new, same, inserted_here page new p.settled page refl))
              | inr apart ↦ elim (s.only k y (sym (keeps k apart) ∙ leaf)) [
                | inl is ↦ inl is
                | inr (inl is) ↦ inr (inl is)
                | inr (inr (n, q, is, found)) ↦ inr (inr (n, q, is, inserted_other page new p.settled n (not_settled n q found) ∙ found))
              ]
            ];
            low = λ n q at. elim (cases_eq n page) [
              | inl same ↦ rw same can.low
              | inr apart ↦ s.low n q (sym (inserted_other page new p.settled n apart) ∙ at)
            ];
          }

    pub adds : AreTablesOf p.scheme u (page ∷ pages.keys p.tabled) → AddsPage v w root trapframe t (with_leaf u (leaf_node page) x) p page bytes f
    adds tabled = record {
      stands = λ fresh. record {
        tables = tables;
        owns = leaf_owns r w t u (missing p.scheme t page) root page x f (one_extra f) no_extra (come_owns v r f c t can.stands.owns) (come_unnamed v r f c t can.stands.owns) (λ g. omega arith) (come_tables v r f c root t can.stands.tables) grown changes tables made.names unmapped (λ writes. c.sole);
        shows = added_shows fresh;
        tabled = same_members p.scheme u (page ∷ pages.keys p.tabled) (pages.keys (pages.insert p.tabled page tt)) (key_in page tt p.tabled) (key_out page tt p.tabled) tabled;
        tabled_low = all_keys (λ n. n < (trapframe_page p.scheme)) p.tabled page tt can.low can.stands.tabled_low;
      };
      on = (x, here, made.names);
      fresh = c.fresh;
      sole = same_sole r w f filled_same c.sole;
      others = keeps;
      saved = let leaf = can.stands.shows.on_trapframe in old_same (leaf_node (trapframe_page p.scheme)) leaf.0 trapframe leaf.1 leaf.2.names;
      spends = record {
        credits = omega (arith, changes.credits, c.spends.credits);
        tallies = spent_on _ _ _ 1 (missing p.scheme t page) c.spends.tallies changes.tallies;
      };
    }
