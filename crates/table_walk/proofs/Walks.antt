-- Lemmas about walks over the page tables that a seat has: they find exactly the tables' leaves, each at level 0; a leaf is
-- global if and only if it has G itself; no walk leaves the memory; and all tables on a way may be read.
use Rattle.std.proofs.Common.{◌≡◌, ◌↔◌, ℕ, zero, suc, ◌+◌, ◌-◌, ◌*◌, ◌/◌, ◌%◌, ◌^◌, ◌<◌, ◌≤◌, inl, inr, refl, ap, sym, subst, ◌∙◌, arith, true, false, Option, Some, None, IsSome, unwrap_or}
use Rattle.std.specs.Prelude.{option_and_then}
use Rattle.std.proofs.lemmas.Bool.{cases_eq, le-leb, lt-ltb}
use Rattle.std.proofs.lemmas.Option.{same_Some}
use Rattle.std.specs.FinMap.{get}
use Rattle.frame_store.specs.View.{View, known_word}
use Rattle.sv39_entry.specs.Address.{has, vpn}
use Rattle.sv39_entry.specs.Frame.{frame_at, ppn_of}
use Rattle.sv39_entry.specs.Schemes.{top_level}
use Rattle.sv39_entry.specs.Word.{kind_of, pointer_word, ppn}
use Rattle.sv39_entry.specs.declared.scheme.Scheme.{Scheme}
use Rattle.sv39_entry.specs.declared.entry.Kind.TheVariants.{Leaf, Pointer}
use Rattle.sv39_entry.specs.declared.frame.FrameNo.{FrameNo}
use Rattle.table_walk.specs.HeldMemory.{held_memory, IsReadable}
use Rattle.table_walk.specs.Tables.{HasTables, Tables, node, pointer_or_zero, walk_leaf, word_in}
use Rattle.table_walk.specs.Walk.{CanWalk, IsAt, IsGlobal, LeavesMemory, Maps, Reads}
use Rattle.table_walk.proofs.Children.{pointer_kind, pointer_ppn}
use Rattle.table_walk.proofs.TableWords.{kind-zero, word_high, word_leaf}
use Rattle.table_walk.specs.Nodes.{above, leaf_number, not_root, table_number, vpn_low}

-- what a word of a table that is a pointer or a leaf comes from

from_pointer : (o : Option ℕ) (w : ℕ) → w ≡ pointer_or_zero o → kind_of w ≡ Pointer → (f : ℕ) × (o ≡ Some f) × (w ≡ pointer_word f)
from_pointer None w is kind = absurd (let invalid = ap kind_of is ∙ kind-zero in cc)
from_pointer (Some f) w is kind = (f, refl, is)

no_leaf : (o : Option ℕ) (w : ℕ) → ((f : ℕ) → o ≡ Some f → f < 2 ^ 16) → w ≡ pointer_or_zero o → kind_of w ≡ Leaf → ⊥
no_leaf None w low is kind = let invalid = ap kind_of is ∙ kind-zero in cc
no_leaf (Some f) w low is kind = let pointer = ap kind_of is ∙ pointer_kind f (low f refl) in cc

from_leaf : (o : Option ℕ) (w : ℕ) → w ≡ unwrap_or o 0 → kind_of w ≡ Leaf → o ≡ Some w
from_leaf None w is kind = absurd (let invalid = ap kind_of is ∙ kind-zero in cc)
from_leaf (Some x) w is kind = ap Some (sym is)

-- ---- frames and their words

frame_at-ppn_of : (f : ℕ) → f < 2 ^ 16 → frame_at (ppn_of f) ≡ Some (record { 0 = f })
frame_at-ppn_of f low =
    rw (le-leb 0x80000 (ppn_of f) (omega arith), lt-ltb (ppn_of f) (0x80000 + 2 ^ 16) (omega arith)) (ap (λ (n : ℕ). Some (record { 0 = n })) (omega arith))

word_of : (v : View) (f i : ℕ) → f < 2 ^ 16 → held_memory v (ppn_of f) i ≡ known_word v f i
word_of v f i low = ap (option_and_then (λ (frame : FrameNo). known_word v frame.0 i)) (frame_at-ppn_of f low)

some_is : {X : Type 0} (o : Option X) (x : X) → o ≡ Some x → IsSome o
some_is None x e = cc
some_is (Some y) x e = refl

module _ {s : Scheme} (v : View) (root : ℕ) (t : Tables) (h : HasTables s v root t) where
  small : (k f : ℕ) → get t.tables k ≡ Some f → f < 2 ^ 16
  small k f at = (h.known.below k f at).2

  -- the word of a table that is read through the memory
  word_there : (k f i : ℕ) → get t.tables k ≡ Some f → i < 512 → held_memory v (ppn_of f) i ≡ Some (word_in t (k * 512 + i))
  word_there k f i at low = word_of v f i (small k f at) ∙ h.known.words k f i at low

  -- the walk comes to these tables
  table_at : (page k table : ℕ) → k ≤ (top_level s) → IsAt s (held_memory v) (ppn_of root) page k table
      → (f : ℕ) × (get t.tables (node s page k) ≡ Some f) × (table ≡ ppn_of f)
  table_at page zero table low way = (root, h.known.rooted, way)
  table_at page (suc k) table low way =
      let up = table_at page k way.0 (omega arith) way.2 in
      let i = vpn page ((top_level s) - k) in
      let word : way.1 ≡ word_in t (node s page (suc k)) =
      same_Some _ _ (sym (rw up.2 at way.3) ∙ word_there (node s page k) up.0 i up.1 (vpn_low page ((top_level s) - k))) in
      let from = from_pointer _ way.1 (word ∙ word_high t _ (table_number s page (suc k) low)) way.4 in
      (from.0, from.1, way.5 ∙ ap ppn from.2 ∙ pointer_ppn from.0 (small _ from.0 from.1))

  -- and to each of them
  way_to : (page k f : ℕ) → k ≤ (top_level s) → get t.tables (node s page k) ≡ Some f → IsAt s (held_memory v) (ppn_of root) page k (ppn_of f)
  way_to page zero f low at = ap ppn_of (same_Some f root (sym at ∙ h.known.rooted))
  way_to page (suc k) f low at = elim (h.known.hung (node s page (suc k)) f at) [
    | inl one ↦ absurd (not_root s page k one)
    | inr up ↦
        let table : get t.tables (node s page k) ≡ Some up.0 = subst (λ n. get t.tables n ≡ Some up.0) (above s page k) up.1 in
        let word = word_there (node s page k) up.0 (vpn page ((top_level s) - k)) table (vpn_low page ((top_level s) - k)) in
        let pointer : word_in t (node s page (suc k)) ≡ pointer_word f = word_high t _ (table_number s page (suc k) low) ∙ ap pointer_or_zero at in
        let low_frame = small _ f at in
        (ppn_of up.0, pointer_word f, way_to page k up.0 (omega arith) table, word ∙ ap Some pointer, pointer_kind f low_frame, sym (pointer_ppn f low_frame))
  ]

  -- each word that a walk comes to is one of these tables
  at_depth : (page k table : ℕ) (word : Option ℕ) → k ≤ (top_level s) → IsAt s (held_memory v) (ppn_of root) page k table
      → held_memory v table (vpn page ((top_level s) - k)) ≡ word → word ≡ Some (word_in t (node s page (suc k)))
  at_depth page k table word low way is =
      let at = table_at page k table low way in
      let i = vpn page ((top_level s) - k) in
      sym is ∙ ap (λ (n : ℕ). held_memory v n i) at.2 ∙ word_there (node s page k) at.0 i at.1 (vpn_low page ((top_level s) - k))

  reads_word : (page level : ℕ) (word : Option ℕ) → Reads s (held_memory v) (ppn_of root) page level word
      → word ≡ Some (word_in t (node s page (suc ((top_level s) - level))))
  reads_word page level word r =
      let low = r.low in
      let back : (top_level s) - ((top_level s) - level) ≡ level = omega (arith, low) in
      at_depth page ((top_level s) - level) r.table word (omega (arith, low)) r.way (rw back r.read)

  pub inside : (page : ℕ) → LeavesMemory s (held_memory v) (ppn_of root) page → ⊥
  inside page out = let word = reads_word page out.0 None out.1 in cc

  -- the walk finds their leaves alone
  found : (page leaf level : ℕ) → Maps s (held_memory v) (ppn_of root) page leaf level
      → (level ≡ 0) × (get t.leaves (walk_leaf s page) ≡ Some leaf)
  found page leaf level maps =
      let word = same_Some _ _ (reads_word page level (Some leaf) maps.reads) in
      elim (cases_eq level 0) [
        | inl same ↦
            let bottom : (top_level s) - level ≡ top_level s = omega (arith, same) in
            (same, from_leaf _ leaf (rw bottom at word ∙ word_leaf t (walk_leaf s page) (leaf_number s page)) maps.kind)
        | inr ne ↦ absurd (
            let low = maps.reads.low in
            no_leaf _ leaf (λ f. small _ f) (word ∙ word_high t _ (table_number s page (suc ((top_level s) - level)) (omega (arith, low, ne)))) maps.kind)
      ]

  -- and all of them
  finds : (page leaf : ℕ) → get t.leaves (walk_leaf s page) ≡ Some leaf → Maps s (held_memory v) (ppn_of root) page leaf 0
  finds page leaf is =
      let hung = h.known.leaf_hung (walk_leaf s page) leaf is in
      let table : get t.tables (node s page (top_level s)) ≡ Some hung.2.0 = subst (λ n. get t.tables n ≡ Some hung.2.0) (above s page (top_level s)) hung.2.1 in
      let i = vpn page (top_level s - top_level s) in
      let word = word_there (node s page (top_level s)) hung.2.0 i table (vpn_low page (top_level s - top_level s)) in
      let all : top_level s - 0 ≡ top_level s = omega arith in
      let last : top_level s - top_level s ≡ 0 = omega arith in
      record {
        reads = record {
          low = omega arith;
          table = ppn_of hung.2.0;
          way = rw all (way_to page (top_level s) hung.2.0 (omega arith) table);
          read = ap (λ (level : ℕ). held_memory v (ppn_of hung.2.0) (vpn page level)) (sym last) ∙ word ∙ ap Some (word_leaf t (walk_leaf s page) (leaf_number s page) ∙ ap (λ o. unwrap_or o 0) is);
        };
        kind = hung.0;
        aligned = omega arith;
      }

  pub walk : (page leaf level : ℕ) →
      Maps s (held_memory v) (ppn_of root) page leaf level ↔ (level ≡ 0) × (get t.leaves (walk_leaf s page) ≡ Some leaf)
  walk page leaf level = (found page leaf level, λ is. rw is.0 (finds page leaf is.1))

  -- a word above the last table has no G
  unmarked : (o : Option ℕ) → has (pointer_or_zero o) 5 ≡ false
  unmarked None = refl
  unmarked (Some f) = let clear : pointer_word f / 2 ^ 5 % 2 ≡ 0 = omega arith in rw clear refl

  pub global : (page leaf : ℕ) → get t.leaves (walk_leaf s page) ≡ Some leaf → IsGlobal s (held_memory v) (ppn_of root) page 0 ↔ (has leaf 5 ≡ true)
  global page leaf is = (
    (λ g.
        let word = same_Some _ _ (at_depth page g.0 g.1 (Some g.2) (omega (arith, g.3)) g.4 g.5) in
        elim (cases_eq g.0 (top_level s)) [
          | inl last ↦
              let same : g.2 ≡ leaf = rw last at word ∙ word_leaf t (walk_leaf s page) (leaf_number s page) ∙ ap (λ o. unwrap_or o 0) is in
              rw same at g.6
          | inr ne ↦
              let high = table_number s page (suc g.0) (omega (arith, ne, g.3)) in
              let clear = unmarked (get t.tables (node s page (suc g.0))) in
              let pointer : g.2 ≡ pointer_or_zero (get t.tables (node s page (suc g.0))) = word ∙ word_high t _ high in
              absurd (let set = rw pointer at g.6 in cc)
        ]),
    (λ set.
        let found = finds page leaf is in
        let all : top_level s - 0 ≡ top_level s = omega arith in
        let last : top_level s - top_level s ≡ 0 = omega arith in (
          top_level s,
          found.reads.table,
          leaf,
          omega arith,
          rw all at found.reads.way,
          ap (λ (level : ℕ). held_memory v found.reads.table (vpn page level)) last ∙ found.reads.read,
          set,
        )),
  )

  -- the tables on the way may be read
  pub readable : (page : ℕ) → CanWalk s (IsReadable v) (held_memory v) (ppn_of root) page
  readable page k table low way = λ frame is.
      let at = table_at page k table low way in
      let named = sym is ∙ ap frame_at at.2 ∙ frame_at-ppn_of at.0 (small _ at.0 at.1) in
      let same : frame.0 ≡ at.0 = ap (λ (f : FrameNo). f.0) (same_Some frame _ named) in
      rw same ((h.own _ at.0 at.1).0, λ index small. some_is _ _ (h.known.words _ at.0 index at.1 small))
