-- Lemmas: what a seat knows of the tables below a root says which leaves there are, so two descriptions of them have the same
-- leaves (`one_tables`), and every access has the same outcome (`one_answer`).
use Rattle.std.proofs.Common.{◌≡◌, ℕ, zero, suc, ◌+◌, ◌*◌, ◌/◌, ◌%◌, ◌≤◌, nat_lt, true, false, Option, None, Some, option_map, refl, ap, sym, subst, ◌∙◌, inl, inr, arith, if◌then◌else◌}
use Rattle.std.specs.Prelude.{unwrap_or}
use Rattle.std.specs.FinMap.{get}
use Rattle.std.proofs.lemmas.Bool.{le-ltb, lt-ltb}
use Rattle.std.proofs.lemmas.Option.{same_Some}
use Rattle.frame_store.specs.View.{View}
use Rattle.sv39_entry.specs.Address.{page_of}
use Rattle.sv39_entry.specs.Word.{kind_of}
use Rattle.sv39_entry.specs.declared.entry.Kind.TheVariants.{Leaf}
use Rattle.sv39_entry.specs.declared.access.Access.{Access}
use Rattle.sv39_entry.specs.declared.access.Mode.{Mode}
use Rattle.table_walk.specs.Leaves.{answer, page_leaf, walk_answer}
use Rattle.table_walk.specs.Nodes.{root_some}
use Rattle.table_walk.specs.Tables.{first_leaf, HasTables, pointer_or_zero, Tables, walk_leaf, word_in}
use Rattle.sv39_entry.specs.Schemes.{is_canonical}
use Rattle.sv39_entry.specs.declared.scheme.Scheme.{Scheme}
use Rattle.hart_machine.specs.Worlds.{HaveSameLeaves}

-- a word says whether a frame is there, and which
one_pointer : (a b : Option ℕ) → pointer_or_zero a ≡ pointer_or_zero b → a ≡ b
one_pointer None None e = refl
one_pointer None (Some g) e = absurd (omega (arith, e))
one_pointer (Some f) None e = absurd (omega (arith, e))
one_pointer (Some f) (Some g) e = ap Some (omega (arith, e))

zero_invalid : kind_of 0 ≡ Leaf → ⊥
unfolding kind_of
zero_invalid e = cc

-- and whether a leaf is there
one_leaf : (a b : Option ℕ) → ((w : ℕ) → a ≡ Some w → kind_of w ≡ Leaf) → ((w : ℕ) → b ≡ Some w → kind_of w ≡ Leaf) → unwrap_or a 0 ≡ unwrap_or b 0 → a ≡ b
one_leaf None None of_a of_b e = refl
one_leaf None (Some w) of_a of_b e = absurd (zero_invalid (subst (λ (k : ℕ). kind_of k ≡ Leaf) (sym e) (of_b w refl)))
one_leaf (Some w) None of_a of_b e = absurd (zero_invalid (subst (λ (k : ℕ). kind_of k ≡ Leaf) e (of_a w refl)))
one_leaf (Some w) (Some x) of_a of_b e = ap Some e

module _ {s : Scheme} (v : View) (root : ℕ) (t u : Tables) (a : HasTables s v root t) (b : HasTables s v root u) where
  -- the word of a number, below a table that both have
  same_word : (n g : ℕ) → get t.tables (n / 512) ≡ Some g → get u.tables (n / 512) ≡ Some g → word_in t n ≡ word_in u n
  same_word n g at_t at_u =
      let whole : n / 512 * 512 + n % 512 ≡ n = omega arith in
      let words = same_Some _ _ (sym (a.known.words (n / 512) g (n % 512) at_t (omega arith)) ∙ b.known.words (n / 512) g (n % 512) at_u (omega arith)) in
      rw whole at words

  -- a table of the one is one of the other: so is the table above it, down from the root
  same_table : (most k f : ℕ) → k ≤ most → get t.tables k ≡ Some f → get u.tables k ≡ Some f
  same_table zero k f low at = absurd (let from = (a.known.below k f at).0 in let some = root_some s in omega (arith, from, some, low))
  same_table (suc most) k f low at = elim (a.known.hung k f at) [
    | inl is ↦ ap (get u.tables) is ∙ b.known.rooted ∙ sym a.known.rooted ∙ ap (get t.tables) (sym is) ∙ at
    | inr hung ↦
        let below = a.known.below k f at in
        let from = below.0 in
        let some = root_some s in
        let upper = same_table most (k / 512) hung.0 (omega (arith, low, from, some)) hung.1 in
        let table : nat_lt k first_leaf ≡ true = lt-ltb k first_leaf below.1 in
        sym (one_pointer (get t.tables k) (get u.tables k) (rw table at (same_word k hung.0 hung.1 upper))) ∙ at
  ]

  same_leaf : (n w : ℕ) → get t.leaves n ≡ Some w → get u.leaves n ≡ Some w
  same_leaf n w at =
      let hung = a.known.leaf_hung n w at in
      let table = same_table (n / 512) (n / 512) hung.2.0 (omega arith) hung.2.1 in
      let leaf : nat_lt n first_leaf ≡ false = le-ltb n first_leaf hung.1 in
      sym (one_leaf (get t.leaves n) (get u.leaves n) (λ x is. (a.known.leaf_hung n x is).0) (λ x is. (b.known.leaf_hung n x is).0) (rw leaf at (same_word n hung.2.0 hung.2.1 table))) ∙ at

-- two tables that a seat has below one root
pub one_tables : {s : Scheme} (v : View) (root : ℕ) (t u : Tables) → HasTables s v root t → HasTables s v root u → HaveSameLeaves t u
one_tables v root t u a b n = go (get t.leaves n) refl (get u.leaves n) refl where
  go : (o : Option ℕ) → get t.leaves n ≡ o → (r : Option ℕ) → get u.leaves n ≡ r → get u.leaves n ≡ get t.leaves n
  go (Some w) at r is = same_leaf v root t u a b n w at ∙ sym at
  go None at None is = is ∙ sym at
  go None at (Some x) is = absurd (let both : None ≡ Some x = sym at ∙ same_leaf v root u t b a n x is in cc)

-- by tables that have the same leaves, an access comes to the same
pub one_answer : (s : Scheme) (t u : Tables) (address : ℕ) (access : Access) (mode : Mode) → HaveSameLeaves t u → walk_answer s t address access mode ≡ walk_answer s u address access mode
one_answer s t u address access mode same =
    ap (λ (o : Option ℕ). answer (if is_canonical s address then option_map page_leaf o else None) address access mode) (sym (same (walk_leaf s (page_of address))))
