-- Lemmas for `separate`, which moves a page to another frame: that frame is claimed, gets the page's bytes, the leaf is
-- rewritten to name it, and the reference to the old frame is dropped. What is in memory after each step, and the result
-- (`part_done`).
use Rattle.std.proofs.Common.{◌≡◌, ◌<◌, ℕ, ◌+◌, Some, Bool, false, refl, ap, sym, subst, ◌∙◌, inl, List, arith}
use Rattle.std.proofs.lemmas.Option.{same_Some}
use Rattle.std.specs.FinMap.{get}
use Rattle.frame_bytes.specs.Contents.{ChangesWords, HasBytes}
use Rattle.frame_store.specs.Laws.{IsAnchored}
use Rattle.frame_store.specs.View.{Hold, View, claimed, hold_of, IsHeld, IsSole, references, released, with_word}
use Rattle.process_model.specs.Process.{Page, Process}
use Rattle.process_model.specs.Regions.{Region}
use Rattle.process_model.specs.Residence.{unmarked, with_page}
use Rattle.sv39_entry.specs.Address.{vpn}
use Rattle.sv39_entry.specs.Word.{ppn}
use Rattle.table_walk.specs.Tables.{HasTables, Tables, last_table, leaf_node, with_leaf}
use Rattle.table_walk.specs.Keys.{insert_other, insert_same}
use Rattle.address_space.specs.Agreement.{is_dirty_page, IsPageLeaf, NamesFrame, no_extra, one_extra, IsInMemory}
use Rattle.address_space.specs.CopyOnWrite.{CanSeparate, Separates}
use Rattle.address_space.specs.Steps.{SpendsCredits}
use Rattle.address_space.proofs.Owned.{anchored, apart_by, beside, claimed_here, claimed_other, one_ppn, one_here, recounted_stands, released_here, released_once, released_other, same_bytes, same_references, same_sole, spare_comes, spare_goes, unnamed}
use Rattle.address_space.proofs.Owning.{nameless, owns_other, turned_sole, turned_stands, turned_words}
use Rattle.address_space.proofs.Writing.{HasPage, page_here, words_other, words_references, words_sole}

-- what is spent

claimed_spends : (f : ℕ) (v : View) → SpendsCredits v (claimed f v) 1
claimed_spends f v = record { credits = refl; tallies = refl }

pub words_spend : (f n : ℕ) (u v w : View) → ChangesWords f v w → SpendsCredits u v n → SpendsCredits u w n
words_spend f n u v w changes first = record {
  credits = ap (λ (x : View). x.credits) changes.1 ∙ first.credits;
  tallies = ap (λ (x : View). x.tallies) changes.1 ∙ first.tallies;
}

released_spends : (f n : ℕ) (u v : View) → references v f ≡ 1 → SpendsCredits u v n → SpendsCredits u (released f v) n
released_spends f n u v one first = record {
  credits = ap (λ (x : View). x.credits) (released_once f v one) ∙ first.credits;
  tallies = ap (λ (x : View). x.tallies) (released_once f v one) ∙ first.tallies;
}

-- what stands after each step

pub claimed_stands : (v : View) (root trapframe : ℕ) (t : Tables) (p : Process) (g : ℕ) → references v g ≡ 0
    → IsInMemory v root trapframe no_extra t p → IsInMemory (claimed g v) root trapframe (one_extra g) t p
claimed_stands v root trapframe t p g none s =
    let one = ap (λ (h : Hold). h.references) (claimed_here g v) in
    let comes = spare_comes v (claimed g v) t g none one (λ x ne. claimed_other g x v ne) (unnamed v t no_extra s.owns g none) in
    recounted_stands v (claimed g v) t no_extra (one_extra g) comes root trapframe p s

-- words of a frame that has no name
pub filled_stands : (v w : View) (root trapframe : ℕ) (t : Tables) (p : Process) (g : ℕ) (extra : ℕ → ℕ) → ChangesWords g v w → ((k : ℕ) → NamesFrame t g k → ⊥)
    → IsInMemory v root trapframe extra t p → IsInMemory w root trapframe extra t p
filled_stands v w root trapframe t p g extra changes free s =
    let same = ap (λ n. n + extra g) (words_references g v w changes g) in
    recounted_stands v w t extra extra (beside v w t extra extra g (λ x ne. (words_other g v w changes x ne, refl)) free same) root trapframe p s

-- and its only reference goes
pub released_stands : (v : View) (root trapframe : ℕ) (t : Tables) (p : Process) (f : ℕ) → ((k : ℕ) → NamesFrame t f k → ⊥)
    → IsInMemory v root trapframe (one_extra f) t p → IsInMemory (released f v) root trapframe no_extra t p
released_stands v root trapframe t p f free s =
    let one = s.owns.bare f free ∙ one_here f f refl in
    let goes = spare_goes v (released f v) t f one (released_here f v one) (λ g ne. released_other f g v one ne) free in
    recounted_stands v (released f v) t (one_extra f) no_extra goes root trapframe p s

-- the frame of a page that may leave it
pub parting_page : (v : View) (root trapframe : ℕ) (t : Tables) (p : Process) (page : ℕ) (s : Page) (r : Region) (f : ℕ) (dirty : Bool)
    → CanSeparate v root trapframe t p page s r f dirty → HasPage v t p page s f
parting_page v root trapframe t p page s r f dirty can =
    let here = page_here v root trapframe no_extra t p page s can.stands can.settled in
    let leaf = same_Some here.1.leaf can.on.0 (sym here.1.mapped ∙ can.on.1) in
    subst (HasPage v t p page s) (one_ppn here.0 f (sym here.1.made.names ∙ ap ppn leaf ∙ can.on.2)) here.1

-- `a` is the view after the claim of frame g, `b` after its words were copied, `d` after the leaf was turned.
module _ {v : View} {root trapframe : ℕ} {t : Tables} {p : Process} {page : ℕ} {s : Page} {r : Region} {f : ℕ} {dirty : Bool} (can : CanSeparate v root trapframe t p page s r f dirty)
    (g : ℕ) (fresh : references v g ≡ 0) where
  here : HasPage v t p page s f
  here = parting_page v root trapframe t p page s r f dirty can

  pub part_apart : f ≡ g → ⊥
  part_apart same = apart_by v g f fresh here.held same

  module _ (a : View) (claim : a ≡ claimed g v) where
    other : hold_of a f ≡ hold_of v f
    other = ap (λ x. hold_of x f) claim ∙ claimed_other g f v part_apart

    pub part_yet : IsHeld a f
    part_yet = subst (λ n. 0 < n) (sym (same_references v a f other)) here.held

    pub part_bytes : HasBytes a f s.bytes
    part_bytes = same_bytes v a f s.bytes other here.bytes

    pub part_sole : IsSole a g
    part_sole = ap (λ x. (hold_of x g).sole) claim ∙ ap (λ (h : Hold). h.sole) (claimed_here g v)

    spends : SpendsCredits v a 1
    spends = subst (λ x. SpendsCredits v x 1) (sym claim) (claimed_spends g v)

    module _ (b : View) (copied : ChangesWords g a b) (bytes : (bs : List ℕ) → HasBytes a f bs → HasBytes b g bs) where
      part_free : (k : ℕ) → NamesFrame t g k → ⊥
      part_free = unnamed v t no_extra can.stands.owns g fresh

      pub part_copied : IsInMemory b root trapframe (one_extra g) t p
      part_copied =
          filled_stands a b root trapframe t p g (one_extra g) copied part_free
          (subst (λ x. IsInMemory x root trapframe (one_extra g) t p) (sym claim) (claimed_stands v root trapframe t p g fresh can.stands))

      module _ (d : View) (leaf : ℕ) (made : IsPageLeaf leaf g r false (is_dirty_page r s)) (tables : HasTables p.scheme d root (with_leaf t (leaf_node page) leaf))
          (word : (x : ℕ) → get t.tables (last_table p.scheme page) ≡ Some x → d ≡ with_word x (vpn page 0) leaf b) where
        sole : IsSole b g
        sole = words_sole g a b copied g part_sole

        turned : (new : ℕ) (shared : Bool) → IsInMemory d root trapframe (one_extra f) (with_leaf t (leaf_node page) leaf) (with_page p page (unmarked new shared s))
        turned new shared =
            turned_stands b d root trapframe (one_extra g) t p page s r g leaf part_copied can.settled can.in_region tables word
            (unmarked new shared s) made (one_extra f) (λ k table. part_free k (inl table)) (bytes s.bytes part_bytes)
            (owns_other b root t part_copied.tables page can.on.0 leaf f g can.on.1 can.on.2 made.names (one_extra g) (one_extra f) part_copied.owns part_free (λ x. omega arith) sole)

        freed : (k : ℕ) → NamesFrame (with_leaf t (leaf_node page) leaf) f k → ⊥
        freed = nameless b root t part_copied.tables page can.on.0 leaf f g can.on.1 can.on.2 made.names (one_extra g) (one_extra f) part_copied.owns part_free (λ x. omega arith)

        pub part_held : references d f ≡ 1
        part_held = (turned 0 false).owns.bare f freed ∙ one_here f f refl

        pub part_anchored : IsAnchored (released f d)
        part_anchored x held = anchored _ root trapframe no_extra _ _ (released_stands d root trapframe _ _ f freed (turned 0 false))

        pub part_done : (e : View) → e ≡ released f d → Separates v e root trapframe t (with_leaf t (leaf_node page) leaf) p page s g
        part_done e release =
            let changes = turned_words b d root trapframe (one_extra g) t p page s r g leaf part_copied can.settled can.in_region tables word in
            subst (λ x. Separates v x root trapframe t (with_leaf t (leaf_node page) leaf) p page s g) (sym release)
            (record {
              stands = λ new shared. released_stands d root trapframe _ _ f freed (turned new shared);
              on = (leaf, insert_same t.leaves (leaf_node page) leaf (leaf_node page) refl, made.names);
              fresh = fresh;
              sole = same_sole d (released f d) g (released_other f g d part_held (λ same. part_apart (sym same)))
                  (turned_sole b d root trapframe (one_extra g) t p page s r g leaf part_copied can.settled can.in_region tables word g sole);
              others = λ k ne. insert_other t.leaves (leaf_node page) leaf k ne;
              spends = released_spends f 1 v d part_held (words_spend changes.0 1 v b d changes.1 (words_spend g 1 v a b copied spends));
            })
