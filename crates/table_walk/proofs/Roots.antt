-- Lemmas about a new root: a seat that holds its frame once and knows each of its words as 0 has the page tables of a bare
-- root (`bare_root`), which are that one table and no leaf; and it holds frame 0 as before.
use Rattle.std.proofs.Common.{◌≡◌, ℕ, ◌+◌, ◌*◌, ◌^◌, ◌<◌, refl, ap, sym, subst, ◌∙◌, arith, inl, inr, Option, None, Some, lit<}
use Rattle.std.proofs.lemmas.Bool.{cases_eq}
use Rattle.std.proofs.lemmas.Option.{same_Some}
use Rattle.std.specs.FinMap as map
use Rattle.std.specs.FinMap.{get}
use Rattle.std.specs.Ordering.{nat_cmp}
use Rattle.frame_store.specs.Holds.{hold_of-frames, hold_of-with_hold_other}
use Rattle.frame_store.specs.View.{Hold, View, claimed, hold_of, IsHeld, known_word, references, sole_hold, with_hold}
use Rattle.sv39_entry.specs.declared.scheme.Scheme.{Scheme}
use Rattle.table_walk.specs.Nodes.{root_few, root_some}
use Rattle.table_walk.specs.Tables.{bare_root, blank_hold, HasTables, pointer_or_zero, root_node, word_in}
use Rattle.table_walk.proofs.Blank.{zero_word}
use Rattle.table_walk.proofs.TableWords.{word_high}
use Rattle.table_walk.specs.Keys.{insert_other, insert_same}

module _ (s : Scheme) (root : ℕ) where
  pub no_table : (k : ℕ) → (k ≡ root_node s → ⊥) → get (bare_root s root).tables k ≡ None
  no_table k ne = insert_other map.empty (root_node s) root k ne ∙ map.get-empty {X = ℕ} nat_cmp k

  pub one_table : (k f : ℕ) → get (bare_root s root).tables k ≡ Some f → (k ≡ root_node s) × (f ≡ root)
  one_table k f is = elim (cases_eq k (root_node s)) [
    | inl same ↦ (same, same_Some f root (sym is ∙ insert_same map.empty (root_node s) root k same))
    | inr ne ↦ absurd (let none : ◌≡◌ {A = Option ℕ} (Some f) None = sym is ∙ no_table k ne in cc)
  ]

  no_leaf : (n x : ℕ) → get (bare_root s root).leaves n ≡ Some x → ⊥
  no_leaf n x is = let none : ◌≡◌ {A = Option ℕ} (Some x) None = sym is ∙ map.get-empty {X = ℕ} nat_cmp n in absurd (cc)

  no_word : (i : ℕ) → i < 512 → word_in (bare_root s root) (root_node s * 512 + i) ≡ 0
  no_word i low =
      let some = root_some s in
      let few = root_few s in
      word_high (bare_root s root) (root_node s * 512 + i) (omega (arith, low, few)) ∙ ap pointer_or_zero (no_table (root_node s * 512 + i) (λ e. omega (arith, e, some)))

  module _ (w : View) (small : root < 2 ^ 16) (blank : hold_of w root ≡ blank_hold) where
    zero_known : (i : ℕ) → i < 512 → known_word w root i ≡ Some 0
    zero_known i low = ap (λ (h : Hold). get h.words i) blank ∙ zero_word 512 i low

    root_words : (k f i : ℕ) → get (bare_root s root).tables k ≡ Some f → i < 512 → known_word w f i ≡ Some (word_in (bare_root s root) (k * 512 + i))
    root_words k f i at low =
        let one = one_table k f at in
        ap (λ (g : ℕ). known_word w g i) one.1 ∙ zero_known i low ∙ ap Some (sym (no_word i low)) ∙ ap (λ (n : ℕ). Some (word_in (bare_root s root) (n * 512 + i))) (sym one.0)

    pub root_tables : HasTables s w root (bare_root s root)
    root_tables = record {
      known = record {
        rooted = insert_same map.empty (root_node s) root (root_node s) refl;
        words = root_words;
        apart = λ j k f a b. (one_table j f a).0 ∙ sym (one_table k f b).0;
        below = λ k f at. let one = one_table k f at in let few = root_few s in (omega (arith, one.0), omega (arith, one.0, few), omega (arith, one.1, small));
        hung = λ k f at. inl (one_table k f at).0;
        leaf_hung = λ n x at. absurd (no_leaf n x at);
      };
      own = λ k f at.
          let here : hold_of w f ≡ blank_hold = ap (hold_of w) (one_table k f at).1 ∙ blank in
          (subst (λ (h : Hold). 0 < h.references) (sym here) (lit< tt), ap (λ (h : Hold). h.sole) here);
    }

-- frame 0 is held as before
pub anchored_still : (f : ℕ) (v w : View) → references v f ≡ 0 → w ≡ with_hold f blank_hold (claimed f v) → IsHeld v 0 → IsHeld w 0
anchored_still f v w fresh is held =
    let apart : 0 ≡ f → ⊥ = λ e. (let none = ap (references v) e ∙ fresh in omega (arith, none, held)) in
    let same : hold_of w 0 ≡ hold_of v 0 = ap (λ u. hold_of u 0) is ∙ hold_of-with_hold_other f blank_hold _ 0 apart ∙ hold_of-with_hold_other f sole_hold _ 0 apart ∙ hold_of-frames _ v refl 0 in
    subst (λ (h : Hold). 0 < h.references) (sym same) held
