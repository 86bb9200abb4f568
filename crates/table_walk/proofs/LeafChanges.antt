-- Lemmas about writing one word of a last-level page table: the seat then has the tables with that leaf put (`put_page`) or
-- removed (`drop_page`); and walks find that leaf for the page, or none, and for pages with other table indices what they
-- found.
use Rattle.std.proofs.Common.{◌≡◌, ℕ, ◌+◌, ◌*◌, ◌/◌, ◌<◌, ◌≤◌, inl, inr, refl, ap, sym, subst, ◌∙◌, arith, Option, Some, None, unwrap_or}
use Rattle.std.proofs.lemmas.Bool.{cases_eq, cases_lt}
use Rattle.std.proofs.lemmas.Option.{same_Some}
use Rattle.std.specs.FinMap.{get, insert}
use Rattle.frame_store.specs.Holds.{hold_of-with_hold_same, hold_of-with_hold_other}
use Rattle.frame_store.specs.View.{Hold, View, hold_of, IsHeld, IsSole, known_word, references, with_word}
use Rattle.sv39_entry.specs.Address.{vpn}
use Rattle.sv39_entry.specs.Frame.{ppn_of}
use Rattle.sv39_entry.specs.Schemes.{top_level}
use Rattle.sv39_entry.specs.Word.{kind_of}
use Rattle.sv39_entry.specs.declared.scheme.Scheme.{Scheme}
use Rattle.sv39_entry.specs.declared.entry.Kind.TheVariants.{Leaf}
use Rattle.table_walk.specs.TableChanges.{OthersStay}
use Rattle.table_walk.specs.HeldMemory.{held_memory}
use Rattle.table_walk.specs.Tables.{ChangesTables, HasTables, Tables, AreTables, first_leaf, last_table, walk_leaf, with_leaf, without_leaf, word_in}
use Rattle.table_walk.specs.Walk.{Maps}
use Rattle.table_walk.proofs.TableWords.{Writes, kind-zero, rewritten, with_word-writes, word_high, word_leaf}
use Rattle.table_walk.specs.Keys.{insert_same, insert_other, is_none, remove_same, remove_other}
use Rattle.table_walk.specs.Nodes.{above, leaf_number, vpn_low, walk_leaf_step}
use Rattle.table_walk.proofs.Walks.{walk}

-- a word that is read and is not 0 is there
pub some_word : (o : Option ℕ) (w : ℕ) → w ≡ unwrap_or o 0 → (w ≡ 0 → ⊥) → o ≡ Some w
some_word None w is some = absurd (some is)
some_word (Some x) w is some = ap Some (sym is)

module _ {s : Scheme} (m : ℕ → ℕ → Option ℕ) (root : ℕ) (t : Tables) (h : AreTables s m root t) (m' : ℕ → ℕ → Option ℕ)
    (k f i : ℕ) (at : get t.tables k ≡ Some f) (low : i < 512) (leafy : first_leaf ≤ k * 512 + i) where
  -- the words of tables that differ at this word alone
  words_after : (u : Tables) (w : ℕ) → Writes m m' f i w → ((n : ℕ) → (n ≡ k * 512 + i → ⊥) → word_in u n ≡ word_in t n)
      → unwrap_or (get u.leaves (k * 512 + i)) 0 ≡ w → (j g a : ℕ) → get t.tables j ≡ Some g → a < 512 → m' g a ≡ Some (word_in u (j * 512 + a))
  words_after u w writes same here = rewritten m root t h m' k f i at low u w writes same (word_leaf u (k * 512 + i) leafy ∙ here)

  leaf_elsewhere : (w n : ℕ) → (n ≡ k * 512 + i → ⊥) → word_in (with_leaf t (k * 512 + i) w) n ≡ word_in t n
  leaf_elsewhere w n ne = elim (cases_lt n first_leaf) [
    | inl s ↦ word_high _ n s ∙ sym (word_high t n s)
    | inr s ↦ word_leaf _ n s ∙ ap (λ o. unwrap_or o 0) (insert_other t.leaves _ w n ne) ∙ sym (word_leaf t n s)
  ]

  up : (n : ℕ) → n ≡ k * 512 + i → n / 512 ≡ k
  up n same = omega arith

  pub put_leaf : (w : ℕ) → kind_of w ≡ Leaf → Writes m m' f i w → AreTables s m' root (with_leaf t (k * 512 + i) w)
  put_leaf w leaf writes = record {
    rooted = h.rooted;
    words = words_after (with_leaf t (k * 512 + i) w) w writes (leaf_elsewhere w) (ap (λ o. unwrap_or o 0) (insert_same t.leaves _ w _ refl));
    apart = h.apart;
    below = h.below;
    hung = h.hung;
    leaf_hung = λ n x is. elim (cases_eq n (k * 512 + i)) [
      | inl s ↦
          let same : w ≡ x = same_Some w x (sym (insert_same t.leaves _ w n s) ∙ is) in
          (ap kind_of (sym same) ∙ leaf, omega (arith, s, leafy), (f, rw (up n s) at))
      | inr ne ↦ h.leaf_hung n x (sym (insert_other t.leaves _ w n ne) ∙ is)
    ];
  }

  leaf_gone : (n : ℕ) → (n ≡ k * 512 + i → ⊥) → word_in (without_leaf t (k * 512 + i)) n ≡ word_in t n
  leaf_gone n ne = elim (cases_lt n first_leaf) [
    | inl s ↦ word_high _ n s ∙ sym (word_high t n s)
    | inr s ↦ word_leaf _ n s ∙ ap (λ o. unwrap_or o 0) (remove_other t.leaves _ n ne) ∙ sym (word_leaf t n s)
  ]

  pub drop_leaf : Writes m m' f i 0 → AreTables s m' root (without_leaf t (k * 512 + i))
  drop_leaf writes = record {
    rooted = h.rooted;
    words = words_after (without_leaf t (k * 512 + i)) 0 writes leaf_gone (ap (λ o. unwrap_or o 0) (remove_same t.leaves _ _ refl));
    apart = h.apart;
    below = h.below;
    hung = h.hung;
    leaf_hung = λ n x is. elim (cases_eq n (k * 512 + i)) [
      | inl s ↦ absurd (let none = remove_same t.leaves _ n s in cc)
      | inr ne ↦ h.leaf_hung n x (sym (remove_other t.leaves _ n ne) ∙ is)
    ];
  }

-- ---- the view of the seat that stores the word

module _ (f i w : ℕ) (v : View) where
  abbrev new_hold : Hold
  new_hold = record (hold_of v f) { words = insert (hold_of v f).words i w }

  hold_here : hold_of (with_word f i w v) f ≡ new_hold
  hold_here = hold_of-with_hold_same f new_hold v

  pub hold_elsewhere : (g : ℕ) → (g ≡ f → ⊥) → hold_of (with_word f i w v) g ≡ hold_of v g
  hold_elsewhere g ne = hold_of-with_hold_other f new_hold v g ne

  pub same_references : (g : ℕ) → references (with_word f i w v) g ≡ references v g
  same_references g = elim (cases_eq g f) [
    | inl same ↦ rw same (ap (λ (k : Hold). k.references) hold_here)
    | inr ne ↦ ap (λ (k : Hold). k.references) (hold_elsewhere g ne)
  ]

  still_sole : (g : ℕ) → IsSole v g → IsSole (with_word f i w v) g
  still_sole g sole = elim (cases_eq g f) [
    | inl same ↦ rw same (ap (λ (k : Hold). k.sole) hold_here ∙ rw same at sole)
    | inr ne ↦ ap (λ (k : Hold). k.sole) (hold_elsewhere g ne) ∙ sole
  ]

  pub still_own : (g : ℕ) → IsHeld v g × IsSole v g → IsHeld (with_word f i w v) g × IsSole (with_word f i w v) g
  still_own g own = (rw (same_references g) own.0, still_sole g own.1)

-- a word of a table is no further change
pub word_changes : (v w : View) (t u : Tables) (n : ℕ) → ChangesTables v w t u n → (k f i x : ℕ) → get u.tables k ≡ Some f
    → ChangesTables v (with_word f i x w) t u n
word_changes v w t u n c k f i x at = record {
  apart = λ g none. hold_elsewhere f i x w g (λ same. none k (at ∙ ap Some (sym same))) ∙ c.apart g none;
  old = λ j g there. same_references f i x w g ∙ c.old j g there;
  new = λ j g there none. ((c.new j g there none).0, same_references f i x w g ∙ (c.new j g there none).1);
  credits = c.credits;
  tallies = c.tallies;
}

-- ---- the leaf of a page

module _ {s : Scheme} (v : View) (root : ℕ) (t : Tables) (h : HasTables s v root t) (page : ℕ) where
  -- where the last table is missing, so is the leaf
  pub no_table : get t.tables (last_table s page) ≡ None → get t.leaves (walk_leaf s page) ≡ None
  no_table none = is_none _ (λ w is.
      let hung = (h.known.leaf_hung (walk_leaf s page) w is).2 in
      let there = subst (λ n. get t.tables n ≡ Some hung.0) (above s page (top_level s)) hung.1 in
      cc)

  -- what is not there is dropped
  pub drop_none : get t.leaves (walk_leaf s page) ≡ None → HasTables s v root (without_leaf t (walk_leaf s page))
  drop_none none = record {
    known = record {
      rooted = h.known.rooted;
      words = λ k f i at low. h.known.words k f i at low ∙ ap Some (sym (same_words (k * 512 + i)));
      apart = h.known.apart;
      below = h.known.below;
      hung = h.known.hung;
      leaf_hung = λ n w is. h.known.leaf_hung n w (sym (same_leaves n) ∙ is);
    };
    own = h.own;
  } where
    same_leaves : (n : ℕ) → get (without_leaf t (walk_leaf s page)).leaves n ≡ get t.leaves n
    same_leaves n = elim (cases_eq n (walk_leaf s page)) [
      | inl same ↦ remove_same t.leaves _ n same ∙ rw same (sym none)
      | inr ne ↦ remove_other t.leaves _ n ne
    ]

    same_words : (n : ℕ) → word_in (without_leaf t (walk_leaf s page)) n ≡ word_in t n
    same_words n = elim (cases_lt n first_leaf) [
      | inl s ↦ word_high _ n s ∙ sym (word_high t n s)
      | inr s ↦ word_leaf _ n s ∙ ap (λ o. unwrap_or o 0) (same_leaves n) ∙ sym (word_leaf t n s)
    ]

  module _ (f : ℕ) (at : get t.tables (last_table s page) ≡ Some f) where
    leafy_number : first_leaf ≤ last_table s page * 512 + vpn page 0
    leafy_number = subst (λ (n : ℕ). first_leaf ≤ n) (sym (walk_leaf_step s page)) (leaf_number s page)

    -- the word of the page's leaf
    pub leaf_word_is : known_word v f (vpn page 0) ≡ Some (unwrap_or (get t.leaves (walk_leaf s page)) 0)
    leaf_word_is =
        h.known.words (last_table s page) f (vpn page 0) at (vpn_low page 0) ∙ ap (λ (n : ℕ). Some (word_in t n)) (walk_leaf_step s page) ∙ ap Some (word_leaf t (walk_leaf s page) (leaf_number s page))

    pub put_page : (w : View) (leaf : ℕ) → kind_of leaf ≡ Leaf → w ≡ with_word f (vpn page 0) leaf v
        → HasTables s w root (with_leaf t (walk_leaf s page) leaf)
    put_page w leaf kind is = subst (λ x. HasTables s x root (with_leaf t (walk_leaf s page) leaf)) (sym is) record {
      known = subst (λ (n : ℕ). AreTables s (known_word (with_word f (vpn page 0) leaf v)) root (with_leaf t n leaf)) (walk_leaf_step s page)
          (put_leaf _ root t h.known _ (last_table s page) f (vpn page 0) at (vpn_low page 0) leafy_number leaf kind (with_word-writes v f _ leaf));
      own = λ k g there. still_own f (vpn page 0) leaf v g (h.own k g there);
    }

    pub drop_page : (w : View) → w ≡ with_word f (vpn page 0) 0 v → HasTables s w root (without_leaf t (walk_leaf s page))
    drop_page w is = subst (λ x. HasTables s x root (without_leaf t (walk_leaf s page))) (sym is) record {
      known = subst (λ (n : ℕ). AreTables s (known_word (with_word f (vpn page 0) 0 v)) root (without_leaf t n)) (walk_leaf_step s page)
          (drop_leaf _ root t h.known _ (last_table s page) f (vpn page 0) at (vpn_low page 0) leafy_number (with_word-writes v f _ 0));
      own = λ k g there. still_own f (vpn page 0) 0 v g (h.own k g there);
    }

  -- where 0 is read there is no leaf
  pub none_read : unwrap_or (get t.leaves (walk_leaf s page)) 0 ≡ 0 → get t.leaves (walk_leaf s page) ≡ None
  none_read zero = is_none _ (λ w is.
      let kind = (h.known.leaf_hung (walk_leaf s page) w is).0 in
      let same : w ≡ 0 = ap (λ o. unwrap_or o 0) (sym is) ∙ zero in
      let invalid = ap kind_of same ∙ kind-zero in
      cc)

-- ---- the walks of a page

pub maps_leaf : {s : Scheme} (w : View) (root : ℕ) (u : Tables) → HasTables s w root u → (page leaf : ℕ) → get u.leaves (walk_leaf s page) ≡ Some leaf
    → Maps s (held_memory w) (ppn_of root) page leaf 0
maps_leaf w root u h page leaf is = (walk w root u h page leaf 0).1 (refl, is)

pub maps_nothing : {s : Scheme} (w : View) (root : ℕ) (u : Tables) → HasTables s w root u → (page : ℕ) → get u.leaves (walk_leaf s page) ≡ None
    → (leaf level : ℕ) → Maps s (held_memory w) (ppn_of root) page leaf level → ⊥
maps_nothing w root u h page none leaf level maps = let is = ((walk w root u h page leaf level).0 maps).1 in cc

pub others_stay : {s : Scheme} (v w : View) (root : ℕ) (t u : Tables) → HasTables s v root t → HasTables s w root u → (page : ℕ)
    → ((n : ℕ) → (n ≡ walk_leaf s page → ⊥) → get u.leaves n ≡ get t.leaves n) → OthersStay s (held_memory v) (held_memory w) (ppn_of root) page
others_stay {s} v w root t u h k page same other leaf level ne =
    let before = walk v root t h other leaf level in
    let after = walk w root u k other leaf level in
    let leaves = same (walk_leaf s other) ne in (
      (λ maps. let is = after.0 maps in before.1 (is.0, sym leaves ∙ is.1)),
      (λ maps. let is = before.0 maps in after.1 (is.0, leaves ∙ is.1)),
    )
