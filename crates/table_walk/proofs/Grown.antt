-- Lemmas about growth of page tables on the way to a page, one empty table after another (`Grows`): the seat still has the
-- tables, with the new one; each takes one credit (reserved frame); and a credit is left for each that is missing.
use Rattle.std.proofs.Common.{◌≡◌, ℕ, zero, suc, ◌+◌, ◌-◌, ◌*◌, ◌/◌, ◌^◌, ◌<◌, ◌≤◌, ◌⊎◌, inl, inr, refl, ap, sym, subst, ◌∙◌, arith, Option, Some, None, IsTrue, unwrap_or}
use Rattle.std.proofs.lemmas.Bool.{cases_eq, cases_lt}
use Rattle.std.proofs.lemmas.Option.{same_Some}
use Rattle.std.specs.FinMap.{FinMap, get, insert}
use Rattle.std.specs.Ordering.{nat_cmp}
use Rattle.frame_store.specs.Holds.{hold_of-with_hold_other, hold_of-with_hold_same}
use Rattle.frame_store.specs.Tallies.{spent_none, spent_on}
use Rattle.frame_store.specs.View.{Hold, View, hold_of, IsHeld, IsSole, known_word, references, with_word}
use Rattle.sv39_entry.specs.Address.{vpn}
use Rattle.sv39_entry.specs.Schemes.{top_level}
use Rattle.sv39_entry.specs.Word.{pointer_word}
use Rattle.sv39_entry.specs.declared.scheme.Scheme.{Scheme}
use Rattle.table_walk.specs.Tables.{ChangesTables, HasTables, Tables, IsGrown, AreTables, blank_hold, first_leaf, missing_to, node, pointer_or_zero, root_node, with_table, word_in}
use Rattle.table_walk.proofs.Blank.{blanked, blank_known, hold_of-blanked_other, hold_of-blanked_same, not_fresh, others_known}
use Rattle.table_walk.proofs.TableWords.{Writes, rewritten, with_word-writes, word_high, word_leaf}
use Rattle.table_walk.specs.Keys.{insert_other, insert_same, is_none}
use Rattle.table_walk.proofs.Children.{back, next_depth}
use Rattle.table_walk.specs.Nodes.{one_depth, root_some, table_number, vpn_low}

-- ---- known tables, where the words of other frames change, and where a table of zeros is added

-- what is written in a frame that is no table leaves the tables
elsewhere : {s : Scheme} (m : ℕ → ℕ → Option ℕ) (root : ℕ) (t : Tables) → AreTables s m root t
    → (n : ℕ → ℕ → Option ℕ) (g : ℕ) → ((j : ℕ) → get t.tables j ≡ Some g → ⊥)
    → ((f i : ℕ) → (f ≡ g → ⊥) → n f i ≡ m f i) → AreTables s n root t
elsewhere m root t h n g fresh same = record {
  rooted = h.rooted;
  words = λ k f i at low. same f i (λ e. fresh k (at ∙ ap Some e)) ∙ h.words k f i at low;
  apart = h.apart;
  below = h.below;
  hung = h.hung;
  leaf_hung = h.leaf_hung;
}

-- a table of the new ones is the new one or an old one
pub which : (t : Tables) (n g j x : ℕ) → get (with_table t n g).tables j ≡ Some x
    → ((j ≡ n) × (x ≡ g)) ⊎ ((j ≡ n → ⊥) × (get t.tables j ≡ Some x))
which t n g j x is = elim (cases_eq j n) [
  | inl e ↦ inl (e, same_Some x g (sym is ∙ insert_same t.tables n g j e))
  | inr ne ↦ inr (ne, sym (insert_other t.tables n g j ne) ∙ is)
]

-- an old table is there still
pub kept : (t : Tables) (n g j x : ℕ) → get t.tables n ≡ None → get t.tables j ≡ Some x → get (with_table t n g).tables j ≡ Some x
kept t n g j x none is = insert_other t.tables n g j (λ e. let gone = rw e at is in cc) ∙ is

module _ {s : Scheme} (m : ℕ → ℕ → Option ℕ) (root : ℕ) (t : Tables) (h : AreTables s m root t) (k f i : ℕ) (at : get t.tables k ≡ Some f) (low : i < 512)
    (high : k * 512 + i < first_leaf) (none : get t.tables (k * 512 + i) ≡ None) where
  -- nothing hangs on a table that isn't there
  no_child : (a x : ℕ) → a < 512 → get t.tables ((k * 512 + i) * 512 + a) ≡ Some x → ⊥
  no_child a x small is = elim (h.hung _ x is) [
    | inl e ↦ (let one = (h.below k f at).0 in let some = root_some s in omega (arith, e, one, some))
    | inr p ↦ (let up : ((k * 512 + i) * 512 + a) / 512 ≡ k * 512 + i = omega arith in let there = rw up at p.1 in cc)
  ]

  no_leaf_child : (a x : ℕ) → a < 512 → get t.leaves ((k * 512 + i) * 512 + a) ≡ Some x → ⊥
  no_leaf_child a x small is =
      let p = (h.leaf_hung _ x is).2 in
      let up : ((k * 512 + i) * 512 + a) / 512 ≡ k * 512 + i = omega arith in
      let there = rw up at p.1 in
      cc

  not_itself : (a : ℕ) → (k * 512 + i) * 512 + a ≡ k * 512 + i → ⊥
  not_itself a e = let one = (h.below k f at).0 in let some = root_some s in omega (arith, e, one, some)

  module _ (g : ℕ) where
    empty_word : (a : ℕ) → a < 512 → word_in (with_table t (k * 512 + i) g) ((k * 512 + i) * 512 + a) ≡ 0
    empty_word a small = elim (cases_lt ((k * 512 + i) * 512 + a) first_leaf) [
      | inl s ↦ word_high _ _ s ∙ ap pointer_or_zero (insert_other t.tables _ g _ (not_itself a) ∙ is_none _ (λ x. no_child a x small))
      | inr s ↦ word_leaf _ _ s ∙ ap (λ o. unwrap_or o 0) (is_none _ (λ x. no_leaf_child a x small))
    ]

    table_elsewhere : (j : ℕ) → (j ≡ k * 512 + i → ⊥) → word_in (with_table t (k * 512 + i) g) j ≡ word_in t j
    table_elsewhere j ne = elim (cases_lt j first_leaf) [
      | inl s ↦ word_high _ j s ∙ ap pointer_or_zero (insert_other t.tables _ g j ne) ∙ sym (word_high t j s)
      | inr s ↦ word_leaf _ j s ∙ sym (word_leaf t j s)
    ]

    pub put_table : (n : ℕ → ℕ → Option ℕ) → ((j : ℕ) → get t.tables j ≡ Some g → ⊥) → g < 2 ^ 16
        → ((a : ℕ) → a < 512 → m g a ≡ Some 0) → Writes m n f i (pointer_word g) → AreTables s n root (with_table t (k * 512 + i) g)
    put_table n fresh fits blank writes = record {
      rooted = kept t _ g (root_node s) root none h.rooted;
      words = λ j x a is small. elim (which t _ g j x is) [
        | inl e ↦ rw (e.0, e.1)
            (writes.others g a (λ s _. fresh k (at ∙ ap Some (sym s))) ∙ blank a small ∙ ap Some (sym (empty_word a small)))
        | inr o ↦ rewritten m root t h n k f i at low (with_table t (k * 512 + i) g) (pointer_word g) writes table_elsewhere
            (word_high _ _ high ∙ ap pointer_or_zero (insert_same t.tables _ g _ refl)) j x a o.1 small
      ];
      apart = λ i' j x ai aj. elim (which t _ g i' x ai) [
        | inl e ↦ elim (which t _ g j x aj) [ inl d ↦ e.0 ∙ sym d.0 | inr d ↦ absurd (fresh j (d.1 ∙ ap Some e.1)) ]
        | inr e ↦ elim (which t _ g j x aj) [ inl d ↦ absurd (fresh i' (e.1 ∙ ap Some d.1)) | inr d ↦ h.apart i' j x e.1 d.1 ]
      ];
      below = λ j x is. elim (which t _ g j x is) [
        | inl e ↦ (let one = (h.below k f at).0 in omega (arith, e.0, one), rw e.0 high, rw e.1 fits)
        | inr e ↦ h.below j x e.1
      ];
      hung = λ j x is. elim (which t _ g j x is) [
        | inl e ↦ inr (f, let up : j / 512 ≡ k = omega (arith, e.0, low) in rw up (kept t _ g k f none at))
        | inr e ↦ elim (h.hung j x e.1) [ inl o ↦ inl o | inr p ↦ inr (p.0, kept t _ g _ _ none p.1) ]
      ];
      leaf_hung = λ j e is. let l = h.leaf_hung j e is in (l.0, l.1, (l.2.0, kept t _ g _ _ none l.2.1));
    }

-- ---- the view after a table was made

-- frame g is an empty table, to which a pointer was written at an index of frame f
abbrev pub with_child : ℕ → ℕ → ℕ → View → View
with_child f i g v = with_word f i (pointer_word g) (blanked g v)

module _ {s : Scheme} (v : View) (root : ℕ) (t : Tables) (h : HasTables s v root t) (k f i g : ℕ) (at : get t.tables k ≡ Some f)
    (fresh : references v g ≡ 0) where
  apart_from : (j x : ℕ) → get t.tables j ≡ Some x → x ≡ g → ⊥
  apart_from j x is e = not_fresh g x v fresh (h.own j x is).0 e

  no_table : (j : ℕ) → get t.tables j ≡ Some g → ⊥
  no_table j is = apart_from j g is refl

  -- what the seat has of a frame, but for words
  same_part : {A : Type 0} (part : Hold → A) → ((u : Hold) (words : FinMap nat_cmp ℕ) → part (record u { words = words }) ≡ part u)
      → (x : ℕ) → (x ≡ g → ⊥) → part (hold_of (with_child f i g v) x) ≡ part (hold_of v x)
  same_part part wordless x ne =
      let h : Hold = record (hold_of (blanked g v) f) { words = insert (hold_of (blanked g v) f).words i (pointer_word g) } in
      elim (cases_eq x f) [
        | inl e ↦
            ap (λ y. part (hold_of (with_child f i g v) y)) e ∙ ap part (hold_of-with_hold_same f h (blanked g v))
            ∙ wordless (hold_of (blanked g v) f) _ ∙ ap part (hold_of-blanked_other g v f (apart_from k f at)) ∙ ap (λ y. part (hold_of v y)) (sym e)
        | inr apart ↦ ap part (hold_of-with_hold_other f h (blanked g v) x apart ∙ hold_of-blanked_other g v x ne)
      ]

  same_references : (x : ℕ) → (x ≡ g → ⊥) → references (with_child f i g v) x ≡ references v x
  same_references x ne = same_part (λ u. u.references) (λ u words. refl) x ne

  same_sole : (x : ℕ) → (x ≡ g → ⊥) → IsSole v x → IsSole (with_child f i g v) x
  same_sole x ne sole = same_part (λ u. u.sole) (λ u words. refl) x ne ∙ sole

  new_hold : hold_of (with_child f i g v) g ≡ blank_hold
  new_hold = hold_of-with_hold_other f _ (blanked g v) g (λ e. apart_from k f at (sym e)) ∙ hold_of-blanked_same g v

  pub still_held : (x : ℕ) → IsHeld v x → IsHeld (with_child f i g v) x
  still_held x held = let same = same_references x (not_fresh g x v fresh held) in omega (arith, same, held)

  module _ (low : i < 512) (high : k * 512 + i < first_leaf) (none : get t.tables (k * 512 + i) ≡ None) where
    pub has_new : g < 2 ^ 16 → HasTables s (with_child f i g v) root (with_table t (k * 512 + i) g)
    has_new fits = record {
      known = put_table (known_word (blanked g v)) root t
          (elsewhere (known_word v) root t h.known (known_word (blanked g v)) g no_table (others_known g v)) k f i at low high none g
          (known_word (with_child f i g v)) no_table fits (blank_known g v) (with_word-writes (blanked g v) f i (pointer_word g));
      own = λ j x is. elim (which t _ g j x is) [
        | inl e ↦ rw (e.1) (subst (λ (u : Hold). (0 < u.references) × IsTrue u.sole) (sym new_hold) (omega arith, refl))
        | inr o ↦
            let own = h.own j x o.1 in
            let ne = apart_from j x o.1 in
            let same = same_references x ne in
            (omega (arith, same, own.0), same_sole x ne own.1)
      ];
    }

    pub changes_new : ChangesTables v (with_child f i g v) t (with_table t (k * 512 + i) g) 1
    changes_new = record {
      apart = λ x not.
          let not_f : x ≡ f → ⊥ = λ e. not k (kept t _ g k f none at ∙ ap Some (sym e)) in
          let not_g : x ≡ g → ⊥ = λ e. not (k * 512 + i) (insert_same t.tables _ g _ refl ∙ ap Some (sym e)) in
          hold_of-with_hold_other f _ (blanked g v) x not_f ∙ hold_of-blanked_other g v x not_g;
      old = λ j x is. same_references x (apart_from j x is);
      new = λ j x is gone. elim (which t _ g j x is) [
        | inl e ↦ rw (e.1) (fresh, ap (λ (u : Hold). u.references) new_hold)
        | inr o ↦ absurd (let there = o.1 in cc)
      ];
      credits = refl;
      tallies = refl;
    }

-- ---- one change after another

pub no_change : (v : View) (t : Tables) → ChangesTables v v t t 0
no_change v t = record {
  apart = λ f not. refl;
  old = λ k f is. refl;
  new = λ k f is none. absurd (cc);
  credits = omega arith;
  tallies = spent_none v.tallies;
}

module _ (u v w : View) (r s t : Tables) (m n : ℕ) (first : ChangesTables u v r s m) (second : ChangesTables v w s t n)
    (stay : (k f : ℕ) → get s.tables k ≡ Some f → get t.tables k ≡ Some f)
    (on : (k f : ℕ) → get r.tables k ≡ Some f → get s.tables k ≡ Some f)
    (apart : (j k f : ℕ) → get t.tables j ≡ Some f → get t.tables k ≡ Some f → j ≡ k) where
  -- a table that is new in one of the changes
  new_in : (k f : ℕ) (o : Option ℕ) → get s.tables k ≡ o → get t.tables k ≡ Some f → get r.tables k ≡ None
      → (references u f ≡ 0) × (references w f ≡ 1)
  new_in k f (Some x) is at none =
      let same : x ≡ f = same_Some x f (sym (stay k x is) ∙ at) in
      let there = rw same at is in
      let made = first.new k f there none in
      (made.0, second.old k f there ∙ made.1)
  new_in k f None is at none =
      let made = second.new k f at is in
      let not_before : (j : ℕ) → get s.tables j ≡ Some f → ⊥ = λ j there.
      let same = apart j k f (stay j f there) at in
      let here = rw same at there in
      cc
      in
      (ap (λ (h : Hold). h.references) (sym (first.apart f not_before)) ∙ made.0, made.1)

  pub changes_both : ChangesTables u w r t (m + n)
  changes_both = record {
    apart = λ f not. second.apart f not ∙ first.apart f (λ k is. not k (stay k f is));
    old = λ k f is. second.old k f (on k f is) ∙ first.old k f is;
    new = λ k f at none. new_in k f _ refl at none;
    credits = let a = first.credits in let b = second.credits in omega (arith, a, b);
    tallies = spent_on u.tallies v.tallies w.tallies m n first.tallies second.tallies;
  }

-- ---- the tables on the way to a page, down to a depth

-- those that were missing down to there were made
pub record Grows (s : Scheme) (v w : View) (root : ℕ) (t u : Tables) (page depth : ℕ) : Type 0 where
  pub grown : IsGrown s t u page depth
  pub tables : HasTables s w root u
  pub changes : ChangesTables v w t u (missing_to s t page depth)

abbrev pub HasGrown : Scheme → View → View → ℕ → Tables → ℕ → ℕ → ℕ → Type 0
HasGrown s v w root t page depth table = (u : Tables) × Grows s v w root t u page depth × (get u.tables (node s page depth) ≡ Some table)

pub grown_none : {s : Scheme} (v : View) (root : ℕ) (t : Tables) (page : ℕ) → HasTables s v root t → HasGrown s v v root t page 0 root
grown_none v root t page h = (
  t,
  record {
    grown = record {
      leaves = refl;
      kept = λ k f is. is;
      new = λ k f is. inl is;
      whole = λ i low. let first : i ≡ 0 = omega arith in (root, rw first h.known.rooted);
    };
    tables = h;
    changes = no_change v t;
  },
  h.known.rooted,
)

module _ {s : Scheme} (v w : View) (root : ℕ) (t u : Tables) (page depth table : ℕ) (g : Grows s v w root t u page depth)
    (at : get u.tables (node s page depth) ≡ Some table) where
  deeper : {A : Type 0} {k : ℕ} → A ⊎ ((get t.tables k ≡ None) × ((i : ℕ) × (i ≤ depth) × (k ≡ node s page i)))
      → A ⊎ ((get t.tables k ≡ None) × ((i : ℕ) × (i ≤ suc depth) × (k ≡ node s page i)))
  deeper (inl a) = inl a
  deeper (inr p) = inr (p.0, (p.1.0, (let low = p.1.1 in omega (arith, low)), p.1.2))

  whole_to : (after : Tables) → ((k f : ℕ) → get u.tables k ≡ Some f → get after.tables k ≡ Some f)
      → (f : ℕ) → get after.tables (node s page (suc depth)) ≡ Some f → (i : ℕ) → i ≤ suc depth → (x : ℕ) × (get after.tables (node s page i) ≡ Some x)
  whole_to after stay f here i low = elim (cases_eq i (suc depth)) [
    | inl same ↦ (f, rw same here)
    | inr ne ↦ let p = g.grown.whole i (omega (arith, ne, low)) in (p.0, stay _ _ p.1)
  ]

  -- a table that is there at the next depth was there before
  was_there : (f : ℕ) → get u.tables (node s page (suc depth)) ≡ Some f → get t.tables (node s page (suc depth)) ≡ Some f
  was_there f is = elim (g.grown.new _ f is) [
    | inl old ↦ old
    | inr p ↦ absurd (let same = one_depth s page page (suc depth) p.1.0 p.1.2 in let low = p.1.1 in omega (arith, same, low))
  ]

  none_more : (f : ℕ) → get t.tables (node s page (suc depth)) ≡ Some f → missing_to s t page depth ≡ missing_to s t page (suc depth)
  none_more f is = rw is (omega arith)

  one_more : get t.tables (node s page (suc depth)) ≡ None → missing_to s t page depth + 1 ≡ missing_to s t page (suc depth)
  one_more none = rw none refl

  pub goes_to : (f : ℕ) → get u.tables (node s page (suc depth)) ≡ Some f → HasGrown s v w root t page (suc depth) f
  goes_to f is = (
    u,
    record {
      grown = record {
        leaves = g.grown.leaves;
        kept = g.grown.kept;
        new = λ k x there. deeper (g.grown.new k x there);
        whole = whole_to u (λ k x there. there) f is;
      };
      tables = g.tables;
      changes = rw (← none_more f (was_there f is)) g.changes;
    },
    is,
  )

  none_before : get u.tables (node s page (suc depth)) ≡ None → get t.tables (node s page (suc depth)) ≡ None
  none_before none = is_none _ (λ x is. let there = g.grown.kept _ x is in cc)

  module _ (f : ℕ) (low : suc depth ≤ (top_level s)) (none : get u.tables (node s page (suc depth)) ≡ None) (fresh : references w f ≡ 0)
      (fits : f < 2 ^ 16) where
    -- the tables and the view with the new one
    abbrev larger : Tables
    larger = with_table u (node s page (suc depth)) f

    abbrev after : View
    after = with_child table (vpn page ((top_level s) - depth)) f w

    here : get larger.tables (node s page (suc depth)) ≡ Some f
    here = insert_same u.tables _ f _ refl

    stays : (k x : ℕ) → get u.tables k ≡ Some x → get larger.tables k ≡ Some x
    stays k x is = kept u (node s page (suc depth)) f k x none is

    new_table : HasTables s after root larger
    new_table =
        has_new w root u g.tables (node s page depth) table (vpn page ((top_level s) - depth)) f at fresh
        (vpn_low page ((top_level s) - depth)) (table_number s page (suc depth) low) none fits

    new_changes : ChangesTables v after t larger (missing_to s t page depth + 1)
    new_changes =
        changes_both v w after t u larger (missing_to s t page depth) 1 g.changes
        (changes_new w root u g.tables (node s page depth) table (vpn page ((top_level s) - depth)) f at fresh
        (vpn_low page ((top_level s) - depth)) (table_number s page (suc depth) low) none)
        stays g.grown.kept new_table.known.apart

    pub grows_to : HasGrown s v (with_child table (vpn page ((top_level s) - depth)) f w) root t page (suc depth) f
    grows_to = (
      larger,
      record {
        grown = record {
          leaves = g.grown.leaves;
          kept = λ k x is. stays k x (g.grown.kept k x is);
          new = λ k x is. elim (which u (node s page (suc depth)) f k x is) [
            | inl e ↦ inr (rw e.0 (none_before none), (suc depth, omega arith, e.0))
            | inr o ↦ deeper (g.grown.new k x o.1)
          ];
          whole = whole_to larger stays f here;
        };
        tables = new_table;
        changes = subst (λ n. ChangesTables v after t larger n) (one_more (none_before none)) new_changes;
      },
      here,
    )

-- fewer tables are missing on a part of the way
missing_up : (s : Scheme) (t : Tables) (page k d : ℕ) → missing_to s t page k ≤ missing_to s t page (k + d)
missing_up s t page k zero = let same : k + 0 ≡ k = omega arith in rw same (omega arith)
missing_up s t page k (suc d) =
    let more : k + suc d ≡ suc (k + d) = omega arith in
    let so_far = missing_up s t page k d in
    rw more (omega (arith, so_far))

-- ---- the same, by the level of a table's entries

module _ {s : Scheme} (v w : View) (root : ℕ) (t : Tables) (page level table : ℕ) (one : 1 ≤ level) (low : level ≤ (top_level s))
    (h : HasGrown s v w root t page ((top_level s) - level) table) where
  pub table_own : IsHeld w table × IsSole w table
  table_own = h.1.tables.own (node s page ((top_level s) - level)) table h.2

  -- what stands at the page's index of the table
  abbrev entry : Option ℕ
  entry = get h.0.tables (node s page ((top_level s) - level) * 512 + vpn page level)

  at_depth : (o : Option ℕ) → o ≡ entry → get h.0.tables (node s page (suc ((top_level s) - level))) ≡ o
  at_depth o is = rw (back s level one low) (sym is)

  pub found_next : (f : ℕ) → Some f ≡ get h.0.tables (node s page ((top_level s) - level) * 512 + vpn page level)
      → HasGrown s v w root t page ((top_level s) - (level - 1)) f
  found_next f is =
      subst (λ k. HasGrown s v w root t page k f) (sym (next_depth s level one low))
      (goes_to v w root t h.0 page ((top_level s) - level) table h.1 h.2 f (at_depth (Some f) is))

  module _ (gone : None ≡ get h.0.tables (node s page ((top_level s) - level) * 512 + vpn page level)) where
    pub made_next : (f : ℕ) → references w f ≡ 0 → f < 2 ^ 16
        → HasGrown s v (with_child table (vpn page level) f w) root t page ((top_level s) - (level - 1)) f
    made_next f fresh fits =
        subst (λ k. HasGrown s v (with_child table (vpn page level) f w) root t page k f) (sym (next_depth s level one low))
        (subst (λ l. HasGrown s v (with_child table (vpn page l) f w) root t page (suc ((top_level s) - level)) f) (back s level one low)
        (grows_to v w root t h.0 page ((top_level s) - level) table h.1 h.2 f (omega arith) (at_depth None gone) fresh fits))

    -- a credit is left for each table that is missing
    pub next_credit : missing_to s t page (top_level s) ≤ v.credits → 0 < w.credits
    next_credit enough =
        let depth = (top_level s) - level in
        let none = none_before v w root t h.0 page depth table h.1 h.2 (at_depth None gone) in
        let more = one_more v w root t h.0 page depth table h.1 h.2 none in
        let whole : suc depth + ((top_level s) - suc depth) ≡ (top_level s) = omega arith in
        let up = rw whole at (missing_up s t page (suc depth) ((top_level s) - suc depth)) in
        let spent = h.1.changes.credits in
        omega (arith, more, up, spent, enough)

-- frame 0 is held still
pub still_anchored : (v w : View) (t u : Tables) (n : ℕ) → ChangesTables v w t u n → ((k f : ℕ) → get u.tables k ≡ Some f → IsHeld w f × IsSole w f) → IsHeld v 0 → IsHeld w 0
still_anchored v w t u n changes own held = elim (cases_eq (references w 0) 0) [
  | inl none ↦
      let free : (k : ℕ) → get u.tables k ≡ Some 0 → ⊥ = λ k at. (let there = (own k 0 at).0 in omega (arith, none, there)) in
      let same = ap (λ (h : Hold). h.references) (changes.apart 0 free) in
      absurd (omega (arith, none, same, held))
  | inr some ↦ omega (arith, some)
]
