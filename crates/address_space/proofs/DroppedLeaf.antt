-- Lemmas on one leaf that is removed and the frame that it named: no other leaf or table names that frame; its reference is
-- dropped, and the seat owns the others as before (`drops_leaf`). Also lemmas on tallies (counts of claims and reads) of
-- calls that claim no frame.
use Rattle.std.proofs.Common.{◌≡◌, ℕ, Bool, true, false, ◌+◌, ◌-◌, ◌≤◌, ◌^◌, ◌&&◌, cond, Option, None, Some, refl, ap, sym, subst, ◌∙◌, inl, inr, arith}
use Rattle.std.specs.Prelude.{nat_le, nat_lt, []}
use Rattle.std.proofs.lemmas.Bool.{cases_eq}
use Rattle.std.specs.FinMap.{get}
use Rattle.frame_store.specs.Laws.{IsAnchored}
use Rattle.frame_store.specs.Tallies.{spent_taken, taken_none, taken_on}
use Rattle.frame_store.specs.View.{View, hold_of, IsHeld, references, released, taken}
use Rattle.sv39_entry.specs.Frame.{frame_at, ppn_of}
use Rattle.sv39_entry.specs.Word.{ppn}
use Rattle.sv39_entry.specs.declared.frame.FrameNo.{FrameNo}
use Rattle.sv39_entry.specs.Schemes.{trampoline_page}
use Rattle.sv39_entry.specs.declared.scheme.Scheme.{Scheme}
use Rattle.table_walk.specs.Tables.{ChangesTables, HasTables, Tables, leaf_node, without_leaf}
use Rattle.table_walk.specs.Keys.{remove_same, remove_other}
use Rattle.table_walk.specs.SameFrames.{same_tables}
use Rattle.address_space.specs.Agreement.{NamesFrame, no_extra, one_extra, OwnsFrames}
use Rattle.address_space.specs.SpaceTeardown.{CanDrop, DropsLeaf}
use Rattle.address_space.specs.Steps.{TakesFrames}
use Rattle.address_space.proofs.Owned.{named_held, no_table, one_else, one_ppn, one_here, recounted_owns, released_here, released_once, released_other, same_references, same_sole, spare_goes}

frame_if : (b : Bool) (fr x : FrameNo) → cond b (Some x) None ≡ Some fr → (b ≡ true) × (x ≡ fr)
frame_if true fr x is = (refl, cc)
frame_if false fr x is = absurd (cc)

-- the frame of a leaf's page number
pub frame_named : (w p : ℕ) (o : Option FrameNo) (fr : FrameNo) → p ≡ ppn w → o ≡ frame_at p → o ≡ Some fr → ppn w ≡ ppn_of fr.0
frame_named w p o fr number at is =
    let found = frame_if (nat_le 0x80000 p && nat_lt p (0x80000 + 2 ^ 16)) fr (record { 0 = p - 0x80000 }) (sym at ∙ is) in
    let same : p - 0x80000 ≡ fr.0 = ap (λ (x : FrameNo). x.0) found.1 in
    let low : 0x80000 ≤ p = grind (arith, found.0) in
    omega (arith, number, same, low)

-- what is left is what was there, but for the leaf that went
pub left : (t : Tables) (n m y : ℕ) → get (without_leaf t n).leaves m ≡ Some y → (get t.leaves m ≡ Some y) × (m ≡ n → ⊥)
left t n m y at = elim (cases_eq m n) [
  | inl same ↦ absurd (let none = remove_same t.leaves n m same in cc)
  | inr other ↦ (sym (remove_other t.leaves n m other) ∙ at, other)
]

named_before : (t : Tables) (n f k : ℕ) → NamesFrame (without_leaf t n) f k → NamesFrame t f k
named_before t n f k names = elim names as (λ _. NamesFrame t f k) [
  | inl table ↦ inl table
  | inr leaf ↦ inr (leaf.0, (left t n k leaf.0 leaf.1).0, leaf.2)
]

-- a leaf of a space, and the frame that it names
module _ {z : Scheme} (v : View) (root : ℕ) (t : Tables) (n x f : ℕ) (h : HasTables z v root t) (extra : ℕ → ℕ) (o : OwnsFrames v t extra) (leaf : get t.leaves n ≡ Some x) (names : ppn x ≡ ppn_of f) where
  -- nothing else names the frame
  pub no_name : (k : ℕ) → NamesFrame (without_leaf t n) f k → ⊥
  no_name k still = elim still as (λ _. ⊥) [
    | inl table ↦ no_table v t root extra h o n x f leaf names k table
    | inr other ↦
        let was = left t n k other.0 other.1 in
        was.1 (o.once f k n (inr (other.0, was.0, other.2)) (inr (x, leaf, names)))
  ]

  -- the leaf goes
  module _ (w : View) (c : ChangesTables v w t t 0) where
    same_count : (g k : ℕ) → NamesFrame t g k → references w g ≡ references v g
    same_count g k known = elim known as (λ _. references w g ≡ references v g) [
      | inl table ↦ c.old k g table
      | inr other ↦ same_references v w g (c.apart g (no_table v t root extra h o k other.0 g other.1 other.2))
    ]

    -- one reference more of its frame is beside the others
    module _ (after : ℕ → ℕ) (moves : (g : ℕ) → after g ≡ extra g + one_extra f g) where
      f_count : references w f ≡ after f
      f_count =
          let was = same_count f n (inr (x, leaf, names)) in
          let one = o.named f n (inr (x, leaf, names)) in
          let here = one_here f f refl in
          let m = moves f in
          omega (arith, was, one, here, m)

      other_after : (g : ℕ) → (g ≡ f → ⊥) → after g ≡ extra g
      other_after g apart = let none = one_else f g apart in let m = moves g in omega (arith, none, m)

      pub leaf_goes : OwnsFrames w (without_leaf t n) after
      leaf_goes = record {
        once = λ g j k first second. o.once g j k (named_before t n g j first) (named_before t n g k second);
        named = λ g k known.
            let was = named_before t n g k known in
            let count = same_count g k was in
            let one = o.named g k was in
            let more = other_after g (λ same. no_name k (subst (λ y. NamesFrame (without_leaf t n) y k) same known)) in
            omega (arith, count, one, more);
        bare = λ g none. elim (cases_eq g f) [
          | inl same ↦ rw same f_count
          | inr apart ↦
              let was : references v g ≡ extra g = o.bare g (λ k known. elim known as (λ _. ⊥) [
                | inl table ↦ none k (inl table)
                | inr other ↦ elim (cases_eq k n) [
                  | inl same ↦
                      let is : Some x ≡ Some other.0 = sym leaf ∙ ap (get t.leaves) (sym same) ∙ other.1 in
                      let word : x ≡ other.0 = cc in
                      apart (sym (one_ppn f g (sym names ∙ ap ppn word ∙ other.2)))
                  | inr differ ↦ none k (inr (other.0, remove_other t.leaves n k differ ∙ other.1, other.2))
                ]
              ]) in
              same_references v w g (c.apart g (λ k table. none k (inl table))) ∙ was ∙ sym (other_after g apart)
        ];
        writable = λ g m y at is writes.
            let was = left t n m y at in
            same_sole v w g (c.apart g (no_table v t root extra h o m y g was.0 is)) (o.writable g m y was.0 is writes);
      }

-- and then its frame
module _ {z : Scheme} (v w : View) (root : ℕ) (t : Tables) (n x f : ℕ) (h : HasTables z v root t) (o : OwnsFrames v t no_extra) (leaf : get t.leaves n ≡ Some x) (names : ppn x ≡ ppn_of f)
    (c : ChangesTables v w t t 0) where
  pub unmapped : OwnsFrames w (without_leaf t n) (one_extra f)
  unmapped = leaf_goes v root t n x f h no_extra o leaf names w c (one_extra f) (λ g. omega arith)

  nameless : (k : ℕ) → NamesFrame (without_leaf t n) f k → ⊥
  nameless = no_name v root t n x f h no_extra o leaf names

  pub once_held : references w f ≡ 1
  once_held = unmapped.bare f nameless ∙ one_here f f refl

  module _ (after : View) (is : after ≡ released f w) where
    away : (g : ℕ) → (g ≡ f → ⊥) → hold_of after g ≡ hold_of w g
    away g apart = ap (λ u. hold_of u g) is ∙ released_other f g w once_held apart

    frame_goes : OwnsFrames after (without_leaf t n) no_extra
    frame_goes =
        let goes = spare_goes w after (without_leaf t n) f once_held (ap (λ u. references u f) is ∙ released_here f w once_held) away nameless in
        recounted_owns w after (without_leaf t n) (one_extra f) no_extra goes unmapped

    tables_left : HasTables z w root (without_leaf t n) → HasTables z after root (without_leaf t n)
    tables_left has = same_tables w after root (without_leaf t n) (λ k g at. away g (λ same. nameless k (inl (at ∙ ap Some same)))) has

    others_left : (m y g : ℕ) → get (without_leaf t n).leaves m ≡ Some y → ppn y ≡ ppn_of g → hold_of after g ≡ hold_of v g
    others_left m y g at is_g =
        let was = left t n m y at in
        away g (λ same. nameless m (inr (y, at, is_g ∙ ap ppn_of same))) ∙ c.apart g (no_table v t root no_extra h o m y g was.0 is_g)

-- tallies that no call changes

pub takes_none : (v w : View) → w.tallies ≡ v.tallies → TakesFrames v w 0 []
takes_none v w same = record { tallies = same ∙ taken_none v.tallies }

pub takes_then : (u v w : View) → TakesFrames u v 0 [] → TakesFrames v w 0 [] → TakesFrames u w 0 []
takes_then u v w first second = record { tallies = taken_on u.tallies v.tallies w.tallies 0 0 [] [] first.tallies second.tallies }

-- frames are taken after none was
pub takes_after : (u v w : View) (n : ℕ) → TakesFrames u v 0 [] → TakesFrames v w n [] → TakesFrames u w n []
takes_after u v w n first second =
    let same : 0 + n ≡ n = omega arith in
    record { tallies = taken_on u.tallies v.tallies w.tallies 0 n [] [] first.tallies second.tallies ∙ ap (λ k. taken k [] u.tallies) same }

pub changes_take : (v w : View) (t u : Tables) → ChangesTables v w t u 0 → TakesFrames v w 0 []
changes_take v w t u c = record { tallies = spent_taken v.tallies w.tallies 0 c.tallies }

pub released_credits : (f : ℕ) (v : View) → references v f ≡ 1 → (released f v).credits ≡ v.credits
released_credits f v one = ap (λ (u : View). u.credits) (released_once f v one)

pub released_takes : (f : ℕ) (v : View) → references v f ≡ 1 → TakesFrames v (released f v) 0 []
released_takes f v one = takes_none v (released f v) (ap (λ (u : View). u.tallies) (released_once f v one))

-- a page is unmapped, and its frame let go
module _ {z : Scheme} (v w : View) (root : ℕ) (t : Tables) (page x f : ℕ) (d : CanDrop z v root t page) (leaf : get t.leaves (leaf_node page) ≡ Some x) (names : ppn x ≡ ppn_of f) (c : ChangesTables v w t t 0) where
  once_yet : references w f ≡ 1
  once_yet = once_held v w root t (leaf_node page) x f d.tables d.owns leaf names c

  pub held_yet : IsHeld w f
  held_yet = let one = once_yet in omega (arith, one)

  anchor : NamesFrame (without_leaf t (leaf_node page)) 0 (leaf_node (trampoline_page z))
  anchor = inr (d.anchor.0, remove_other t.leaves (leaf_node page) (leaf_node (trampoline_page z)) (λ same. d.apart (sym same)) ∙ d.anchor.1, d.anchor.2)

  pub anchored_yet : IsAnchored (released f w)
  anchored_yet g held =
      named_held (released f w) (without_leaf t (leaf_node page)) no_extra (frame_goes v w root t (leaf_node page) x f d.tables d.owns leaf names c (released f w) refl)
      0 (leaf_node (trampoline_page z)) anchor

  pub drops_leaf : (after : View) → HasTables z w root (without_leaf t (leaf_node page)) → after ≡ released f w → DropsLeaf z v after root t page
  drops_leaf after has is =
      let one = once_yet in
      let credits = c.credits in
      record {
        tables = tables_left v w root t (leaf_node page) x f d.tables d.owns leaf names c after is has;
        owns = frame_goes v w root t (leaf_node page) x f d.tables d.owns leaf names c after is;
        others = others_left v w root t (leaf_node page) x f d.tables d.owns leaf names c after is;
        credits = ap (λ (u : View). u.credits) is ∙ released_credits f w one ∙ omega (arith, credits);
        takes = takes_then v w after (changes_take v w t t c) (subst (λ u. TakesFrames w u 0 []) (sym is) (released_takes f w one));
      }
