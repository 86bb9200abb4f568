-- Lemmas about the words of page tables: the word at an index is that of the table or leaf with this number (`word_in`); and
-- if one word is written and nothing else (`Writes`), all words are those of tables that differ at that one number.
use Rattle.std.proofs.Common.{◌≡◌, ℕ, ◌+◌, ◌*◌, ◌<◌, ◌≤◌, ◌⊎◌, inl, inr, refl, ap, sym, subst, ◌∙◌, Option, Some, unwrap_or}
use Rattle.std.proofs.lemmas.Bool.{cases_eq, le-ltb, lt-ltb}
use Rattle.std.proofs.lemmas.Nat.{same_from_place}
use Rattle.std.proofs.lemmas.Option.{same_Some}
use Rattle.std.specs.FinMap as map
use Rattle.std.specs.FinMap.{get}
use Rattle.frame_store.specs.Holds.{hold_of-with_hold_same, hold_of-with_hold_other}
use Rattle.frame_store.specs.View.{Hold, View, hold_of, known_word, with_word}
use Rattle.sv39_entry.specs.Word.{kind_of}
use Rattle.sv39_entry.specs.declared.scheme.Scheme.{Scheme}
use Rattle.sv39_entry.specs.declared.entry.Kind.TheVariants.{Invalid}
use Rattle.table_walk.specs.Tables.{Tables, AreTables, first_leaf, pointer_or_zero, word_in}
use Rattle.table_walk.specs.Keys.{insert_same, insert_other}

-- ---- one word of a table

pub word_high : (t : Tables) (n : ℕ) → n < first_leaf → word_in t n ≡ pointer_or_zero (get t.tables n)
word_high t n low = rw (lt-ltb n first_leaf low)

pub word_leaf : (t : Tables) (n : ℕ) → first_leaf ≤ n → word_in t n ≡ unwrap_or (get t.leaves n) 0
word_leaf t n high = rw (le-ltb n first_leaf high)

pub kind-zero : kind_of 0 ≡ Invalid
unfolding kind_of
kind-zero = refl

-- ---- a word is written

pub record Writes (m m' : ℕ → ℕ → Option ℕ) (f i w : ℕ) : Type 0 where
  pub here : m' f i ≡ Some w
  pub others : (g j : ℕ) → (g ≡ f → j ≡ i → ⊥) → m' g j ≡ m g j

pub with_word-writes : (v : View) (f i w : ℕ) → Writes (known_word v) (known_word (with_word f i w v)) f i w
with_word-writes v f i w =
    let h : Hold = record (hold_of v f) { words = map.insert (hold_of v f).words i w } in
    record {
      here = ap (λ (k : Hold). get k.words i) (hold_of-with_hold_same f h v) ∙ insert_same (hold_of v f).words i w i refl;
      others = λ g j apart. elim (cases_eq g f) [
        | inl same ↦
            ap (λ (k : Hold). get k.words j) (ap (hold_of (with_word f i w v)) same ∙ hold_of-with_hold_same f h v)
            ∙ insert_other (hold_of v f).words i w j (apart same) ∙ ap (λ n. get (hold_of v n).words j) (sym same)
        | inr ne ↦ ap (λ (k : Hold). get k.words j) (hold_of-with_hold_other f h v g ne)
      ];
    }

module _ {s : Scheme} (m : ℕ → ℕ → Option ℕ) (root : ℕ) (t : Tables) (h : AreTables s m root t) where
  -- the word that was read
  pub read : (k f i w : ℕ) → get t.tables k ≡ Some f → i < 512 → m f i ≡ Some w → w ≡ word_in t (k * 512 + i)
  read k f i w at low is = same_Some w _ (sym is ∙ h.words k f i at low)

  module _ (m' : ℕ → ℕ → Option ℕ) (k f i : ℕ) (at : get t.tables k ≡ Some f) (low : i < 512) where
    -- another place of a table is another word
    apart_words : (j g a : ℕ) → get t.tables j ≡ Some g → a < 512 → (j * 512 + a ≡ k * 512 + i → ⊥) → g ≡ f → a ≡ i → ⊥
    apart_words j g a there small other e d = other (let same = h.apart j k f (there ∙ ap Some e) at in rw (same, d))

    other_place : (j a : ℕ) → a < 512 → (j * 512 + a ≡ k * 512 + i → ⊥) ⊎ ((j ≡ k) × (a ≡ i))
    other_place j a small = elim (cases_eq (j * 512 + a) (k * 512 + i)) [
      | inl e ↦ inr (same_from_place j a k i 512 small low e)
      | inr ne ↦ inl ne
    ]

    -- a word of the tables changes at one place alone
    pub rewritten : (u : Tables) (w : ℕ) → Writes m m' f i w
        → ((n : ℕ) → (n ≡ k * 512 + i → ⊥) → word_in u n ≡ word_in t n) → word_in u (k * 512 + i) ≡ w
        → (j g a : ℕ) → get t.tables j ≡ Some g → a < 512 → m' g a ≡ Some (word_in u (j * 512 + a))
    rewritten u w writes same here j g a there small = elim (other_place j a small) [
      | inl ne ↦ writes.others g a (apart_words j g a there small ne) ∙ h.words j g a there small ∙ ap Some (sym (same _ ne))
      | inr e ↦ let frames : g ≡ f = same_Some g f (sym there ∙ ap (get t.tables) e.0 ∙ at) in
          subst (λ x. m' x a ≡ Some (word_in u (j * 512 + a))) (sym frames) (rw (e.0, e.1) (writes.here ∙ ap Some (sym here)))
    ]
