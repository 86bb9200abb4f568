-- Lemmas about release of page tables one by one, each after the tables below it and after the pointer to it is cleared, the
-- root last: the seat then holds none of their frames, and has the other frames, credits and tallies that it had.
use Rattle.std.proofs.Common.{◌≡◌, ℕ, zero, suc, ◌+◌, ◌-◌, ◌*◌, ◌/◌, ◌%◌, ◌^◌, ◌<◌, ◌≤◌, inl, inr, refl, ap, sym, subst, ◌∙◌, arith, cond, true, Option, Some, None}
use Rattle.std.proofs.lemmas.Bool.{cases_eq, cases_lt, eq-eqb}
use Rattle.std.proofs.lemmas.Option.{same_Some}
use Rattle.std.specs.FinMap.{get}
use Rattle.frame_store.specs.Holds.{hold_of-without_hold_other, hold_of-without_hold_same}
use Rattle.frame_store.specs.Laws.{IsAnchored}
use Rattle.frame_store.specs.View.{Hold, View, hold_of, IsHeld, IsSole, known_word, not_held, references, released, with_hold, with_word, without_hold}
use Rattle.sv39_entry.specs.Schemes.{top_level}
use Rattle.sv39_entry.specs.Word.{pointer_word}
use Rattle.sv39_entry.specs.declared.scheme.Scheme.{Scheme}
use Rattle.table_walk.specs.TableChanges.{IsTableAt}
use Rattle.table_walk.specs.Tables.{HasTables, Tables, AreTables, first_leaf, pointer_or_zero, root_node, word_in}
use Rattle.table_walk.specs.Keys.{is_none, remove_other, remove_same}
use Rattle.table_walk.specs.TableRelease.{AreLast, ReleasesTables, SameTallies, without_table}
use Rattle.table_walk.specs.Nodes.{power_next, root_some}
use Rattle.table_walk.proofs.Next.{table_child}
use Rattle.table_walk.proofs.TableWords.{rewritten, with_word-writes, word_high, word_leaf}
use Rattle.table_walk.proofs.LeafChanges.{hold_elsewhere, same_references, still_own}

-- ---- the last reference of a frame is let go

module _ (f : ℕ) (v : View) (once : references v f ≡ 1) where
  released_last : released f v ≡ without_hold f v
  released_last = ap (λ b. cond b (without_hold f v) (with_hold f (record (hold_of v f) { references = references v f - 1 }) v)) (eq-eqb (references v f) 1 once)

  released_same : hold_of (released f v) f ≡ not_held
  released_same = ap (λ w. hold_of w f) released_last ∙ hold_of-without_hold_same f v

  released_elsewhere : (g : ℕ) → (g ≡ f → ⊥) → hold_of (released f v) g ≡ hold_of v g
  released_elsewhere g ne = ap (λ w. hold_of w g) released_last ∙ hold_of-without_hold_other f v g ne

  released_tallies : SameTallies v (released f v)
  released_tallies = subst (λ w. SameTallies v w) (sym released_last) record { credits = refl; tallies = refl }

  released_anchored : IsHeld v 0 → (f ≡ 0 → ⊥) → IsAnchored (released f v)
  released_anchored held ne g some = subst (λ (h : Hold). 0 < h.references) (sym (released_elsewhere 0 (λ e. ne (sym e)))) held

-- ---- one change after another

tallies_both : (u v w : View) → SameTallies u v → SameTallies v w → SameTallies u w
tallies_both u v w first second = record {
  credits = second.credits ∙ first.credits;
  tallies = second.tallies ∙ first.tallies;
}

pub lets_none : {z : Scheme} (v : View) (root k : ℕ) (t : Tables) → HasTables z v root t → ReleasesTables z v v root k t t
lets_none v root k t has = record {
  tables = has;
  leaves = refl;
  fewer = λ j f at. at;
  stay = λ j f low at. at;
  gone = λ j f at none. absurd (cc);
  old = λ j f at. refl;
  apart = λ f not. refl;
  tallies = record { credits = refl; tallies = refl };
}

module _ {z : Scheme} (u v w : View) (root j k : ℕ) (r s t : Tables) (has : HasTables z u root r) (first : ReleasesTables z u v root j r s) (second : ReleasesTables z v w root k s t) where
  gone_in : (n f : ℕ) (o : Option ℕ) → get s.tables n ≡ o → get r.tables n ≡ Some f → get t.tables n ≡ None → hold_of w f ≡ not_held
  gone_in n f (Some x) is at none =
      let same : x ≡ f = same_Some x f (sym (first.fewer n x is) ∙ at) in
      second.gone n f (rw same at is) none
  gone_in n f None is at none =
      let not_there : (m : ℕ) → get s.tables m ≡ Some f → ⊥ = λ m there.
      let same = has.known.apart m n f (first.fewer m f there) at in
      let here = rw same at there in
      cc
      in
      second.apart f not_there ∙ first.gone n f at is

  -- what stays in both changes: tables with numbers up to both bounds
  lets_both : (l : ℕ) → l ≤ j → l ≤ k → ReleasesTables z u w root l r t
  lets_both l low small = record {
    tables = second.tables;
    leaves = second.leaves ∙ first.leaves;
    fewer = λ n f at. first.fewer n f (second.fewer n f at);
    stay = λ n f le at. second.stay n f (omega (arith, le, small)) (first.stay n f (omega (arith, le, low)) at);
    gone = λ n f at none. gone_in n f _ refl at none;
    old = λ n f at. second.old n f at ∙ first.old n f (second.fewer n f at);
    apart = λ f not. second.apart f (λ n at. not n (first.fewer n f at)) ∙ first.apart f not;
    tallies = tallies_both u v w first.tallies second.tallies;
  }

-- those that are left may be let go too
pub still_last : {z : Scheme} (v w : View) (root k : ℕ) (t u : Tables) → ReleasesTables z v w root k t u → AreLast v t → AreLast w u
still_last v w root k t u goes last = record {
  bare = λ n. ap (λ leaves. get leaves n) goes.leaves ∙ last.bare n;
  once = λ j f at. goes.old j f at ∙ last.once j f (goes.fewer j f at);
  anchored = subst (λ (h : Hold). 0 < h.references) (sym (goes.apart 0 last.apart)) last.anchored;
  apart = λ j at. last.apart j (goes.fewer j 0 at);
}

-- ---- a table below which there is none is let go, after the pointer to it

module _ {z : Scheme} (v : View) (root : ℕ) (t : Tables) (has : HasTables z v root t) (last : AreLast v t) (k f i g : ℕ) (at : get t.tables k ≡ Some f) (low : i < 512)
    (high : k * 512 + i < first_leaf) (there : get t.tables (k * 512 + i) ≡ Some g)
    (none : (a : ℕ) → a < 512 → get t.tables ((k * 512 + i) * 512 + a) ≡ None) where
  from_root : root_node z ≤ k
  from_root = (has.known.below k f at).0

  some : 1 ≤ k
  some = let root_is = root_some z in omega (arith, root_is, from_root)

  other_frame : (j x : ℕ) → get t.tables j ≡ Some x → (j ≡ k * 512 + i → ⊥) → x ≡ g → ⊥
  other_frame j x is ne e = ne (has.known.apart j (k * 512 + i) g (is ∙ ap Some e) there)

  child_once : references (with_word f i 0 v) g ≡ 1
  child_once = same_references f i 0 v g ∙ last.once (k * 512 + i) g there

  abbrev fewer : Tables
  fewer = without_table t (k * 512 + i)

  abbrev after : View
  after = released g (with_word f i 0 v)

  -- a table that is left was there, at another number
  was : (j x : ℕ) → get fewer.tables j ≡ Some x → (j ≡ k * 512 + i → ⊥) × (get t.tables j ≡ Some x)
  was j x is = elim (cases_eq j (k * 512 + i)) [
    | inl e ↦ absurd (let gone = remove_same t.tables (k * 512 + i) j e in cc)
    | inr ne ↦ (ne, sym (remove_other t.tables (k * 512 + i) j ne) ∙ is)
  ]

  word_elsewhere : (n : ℕ) → (n ≡ k * 512 + i → ⊥) → word_in fewer n ≡ word_in t n
  word_elsewhere n ne = elim (cases_lt n first_leaf) [
    | inl s ↦ word_high _ n s ∙ ap pointer_or_zero (remove_other t.tables (k * 512 + i) n ne) ∙ sym (word_high t n s)
    | inr s ↦ word_leaf _ n s ∙ sym (word_leaf t n s)
  ]

  word_here : word_in fewer (k * 512 + i) ≡ 0
  word_here = word_high _ _ high ∙ ap pointer_or_zero (remove_same t.tables (k * 512 + i) _ refl)

  same_hold : (j x : ℕ) → get fewer.tables j ≡ Some x → hold_of after x ≡ hold_of (with_word f i 0 v) x
  same_hold j x is = released_elsewhere g (with_word f i 0 v) child_once x (other_frame j x (was j x is).1 (was j x is).0)

  -- its parent is another table than the one that goes
  still_hung : (j x y : ℕ) → get t.tables j ≡ Some x → get t.tables (j / 512) ≡ Some y → get fewer.tables (j / 512) ≡ Some y
  still_hung j x y is up = elim (cases_eq (j / 512) (k * 512 + i)) [
    | inl e ↦ absurd (
        let same : (k * 512 + i) * 512 + j % 512 ≡ j = omega (arith, e) in
        let gone = rw same at (none (j % 512) (omega arith)) in
        cc)
    | inr ne ↦ remove_other t.tables (k * 512 + i) (j / 512) ne ∙ up
  ]

  tables_left : HasTables z after root fewer
  tables_left = record {
    known = record {
      rooted = remove_other t.tables (k * 512 + i) (root_node z) (λ e. omega (arith, e, some, from_root)) ∙ has.known.rooted;
      words = λ j x a is small.
          ap (λ (h : Hold). get h.words a) (same_hold j x is)
          ∙ rewritten (known_word v) root t has.known (known_word (with_word f i 0 v)) k f i at low fewer 0 (with_word-writes v f i 0) word_elsewhere word_here j x a (was j x is).1 small;
      apart = λ m n x a b. has.known.apart m n x (was m x a).1 (was n x b).1;
      below = λ j x is. has.known.below j x (was j x is).1;
      hung = λ j x is. elim (has.known.hung j x (was j x is).1) [
        | inl one ↦ inl one
        | inr p ↦ inr (p.0, still_hung j x p.0 (was j x is).1 p.1)
      ];
      leaf_hung = λ n w is. absurd (let bare = last.bare n in cc);
    };
    own = λ j x is.
        let own = still_own f i 0 v x (has.own j x (was j x is).1) in
        subst (λ (h : Hold). (0 < h.references) × (h.sole ≡ true)) (sym (same_hold j x is)) own;
  }

  lets_child : ReleasesTables z v (released g (with_word f i 0 v)) root k t (without_table t (k * 512 + i))
  lets_child = record {
    tables = tables_left;
    leaves = refl;
    fewer = λ j x is. (was j x is).1;
    stay = λ j x le is. remove_other t.tables (k * 512 + i) j (λ e. omega (arith, e, le, some)) ∙ is;
    gone = λ j x is not. elim (cases_eq j (k * 512 + i)) [
      | inl e ↦
          let same : x ≡ g = same_Some x g (sym is ∙ ap (get t.tables) e ∙ there) in
          ap (hold_of after) same ∙ released_same g (with_word f i 0 v) child_once
      | inr ne ↦ absurd (let left = remove_other t.tables (k * 512 + i) j ne ∙ is in cc)
    ];
    old = λ j x is. ap (λ (h : Hold). h.references) (same_hold j x is) ∙ same_references f i 0 v x;
    apart = λ x not.
        released_elsewhere g (with_word f i 0 v) child_once x (λ e. not (k * 512 + i) (there ∙ ap Some (sym e)))
        ∙ hold_elsewhere f i 0 v x (λ e. not k (at ∙ ap Some (sym e)));
    tallies = tallies_both v (with_word f i 0 v) after record { credits = refl; tallies = refl } (released_tallies g (with_word f i 0 v) child_once);
  }

  child_held : IsHeld (with_word f i 0 v) g
  child_held = omega (arith, child_once)

  child_anchored : IsAnchored (released g (with_word f i 0 v))
  child_anchored = released_anchored g (with_word f i 0 v) child_once
      (subst (λ n. 0 < n) (sym (same_references f i 0 v 0)) last.anchored) (λ e. last.apart (k * 512 + i) (there ∙ ap Some e))

-- ---- the tables below a table of a level, index by index

-- the tables at the first so many indices of table k, and those below them, are gone
abbrev pub LetsGoTo : Scheme → View → View → ℕ → ℕ → Tables → ℕ → Type 0
LetsGoTo z v w root k t n = (u : Tables) × ReleasesTables z v w root k t u × ((i : ℕ) → i < n → get u.tables (k * 512 + i) ≡ None)

-- the next index
pub lets_next : {z : Scheme} (u v w : View) (root k n : ℕ) (t : Tables) → HasTables z u root t → (below : LetsGoTo z u v root k t n)
    → (here : (s : Tables) × ReleasesTables z v w root k below.0 s × (get s.tables (k * 512 + n) ≡ None)) → LetsGoTo z u w root k t (n + 1)
lets_next u v w root k n t has below here = (
  here.0,
  lets_both u v w root k k t below.0 here.0 has below.1 here.1 k (omega arith) (omega arith),
  λ i less. elim (cases_eq i n) [
    | inl e ↦ rw e here.2
    | inr ne ↦ is_none _ (λ x is. let there = here.1.fewer _ x is in let none = below.2 i (omega (arith, ne, less)) in cc)
  ],
)

-- below a last table there is none
pub lets_last : {z : Scheme} (v : View) (root k f : ℕ) (t : Tables) → HasTables z v root t → IsTableAt k 0 → LetsGoTo z v v root k t 512
lets_last v root k f t has is = (t, lets_none v root k t has, λ i less. is_none _ (λ x at. let high = (has.known.below _ x at).1 in omega (arith, high, is.0)))

-- tables below index i of table k are gone, and the table at the index is the next
pub record AtIndex (z : Scheme) (v w : View) (root k f g i : ℕ) (t : Tables) : Type 0 where
  pub has : HasTables z v root t
  pub last : AreLast v t
  pub at : get t.tables k ≡ Some f
  pub low : i < 512
  pub high : k * 512 + i < first_leaf
  pub there : get t.tables (k * 512 + i) ≡ Some g
  pub below : LetsGoTo z v w root (k * 512 + i) t 512

pub some_level : (level : ℕ) → 0 < level → level ≡ 0 → ⊥
some_level level some e = omega (arith, some, e)

-- by what the calls for the table at the index say
pub at_index : (z : Scheme) (v x w : View) (root k f g i level : ℕ) (t : Tables) → x ≡ v → HasTables z v root t → AreLast v t → get t.tables k ≡ Some f → IsTableAt k level
    → level ≤ 3 → 0 < level → i < 512
    → ((r n : ℕ) (s : Tables) → HasTables z v r s → get s.tables n ≡ Some f → n * 512 + i < first_leaf → Some g ≡ get s.tables (n * 512 + i))
    → ((r n : ℕ) (s : Tables) → HasTables z x r s → AreLast x s → get s.tables n ≡ Some g → IsTableAt n (level - 1) → LetsGoTo z x w r n s 512)
    → AtIndex z v w root k f g i t
at_index z v x w root k f g i level t same has last at is low some small found below =
    let next = table_child k level i is low small (some_level level some) in
    let there = sym (found root k t has at next.0) in
    record {
      has = has;
      last = last;
      at = at;
      low = small;
      high = next.0;
      there = there;
      below = subst (λ y. LetsGoTo z y w root (k * 512 + i) t 512) same (below root (k * 512 + i) t (rw same has) (rw same last) there next.1);
    }

module _ {z : Scheme} (v w : View) (root k f g i : ℕ) (t : Tables) (a : AtIndex z v w root k f g i t) where
  abbrev left : Tables
  left = a.below.0

  last_left : AreLast w left
  last_left = still_last v w root (k * 512 + i) t left a.below.1 a.last

  at_left : get left.tables k ≡ Some f
  at_left = a.below.1.stay k f (omega arith) a.at

  there_left : get left.tables (k * 512 + i) ≡ Some g
  there_left = a.below.1.stay (k * 512 + i) g (omega arith) a.there

  pub above_sole : IsSole w f
  above_sole = (a.below.1.tables.own k f at_left).1

  pub index_held : IsHeld (with_word f i 0 w) g
  index_held = child_held w root left a.below.1.tables last_left k f i g at_left a.low a.high there_left a.below.2

  pub index_anchored : IsAnchored (released g (with_word f i 0 w))
  index_anchored = child_anchored w root left a.below.1.tables last_left k f i g at_left a.low a.high there_left a.below.2

  pub lets_index : (s : Tables) × ReleasesTables z v (released g (with_word f i 0 w)) root k t s × (get s.tables (k * 512 + i) ≡ None)
  lets_index = (
    without_table left (k * 512 + i),
    lets_both v w (released g (with_word f i 0 w)) root (k * 512 + i) k t left (without_table left (k * 512 + i)) a.has a.below.1
        (lets_child w root left a.below.1.tables last_left k f i g at_left a.low a.high there_left a.below.2) k (omega arith) (omega arith),
    remove_same left.tables (k * 512 + i) _ refl,
  )

-- ---- the root is let go

pub root_level : (z : Scheme) → IsTableAt (root_node z) (top_level z)
root_level z = let some = root_some z in (omega arith, omega (arith, some))

-- where no table hangs on the root there is no other
only_root : {z : Scheme} (m : ℕ → ℕ → Option ℕ) (root : ℕ) (t : Tables) → AreTables z m root t → ((i : ℕ) → i < 512 → get t.tables (root_node z * 512 + i) ≡ None)
    → (d j f : ℕ) → j < 512 ^ d → get t.tables j ≡ Some f → j ≡ root_node z
only_root {z} m root t h none zero j f less at = absurd (let one = (h.below j f at).0 in let some = root_some z in omega (arith, one, less, some))
only_root {z} m root t h none (suc d) j f less at = elim (h.hung j f at) [
  | inl one ↦ one
  | inr p ↦ absurd (
      let next = power_next d in
      let up = only_root m root t h none d (j / 512) p.0 (omega (arith, less, next)) p.1 in
      let same : root_node z * 512 + j % 512 ≡ j = omega (arith, up) in
      let gone = rw same at (none (j % 512) (omega arith)) in
      cc)
]

pointer_of : (o : Option ℕ) (f : ℕ) → pointer_or_zero o ≡ pointer_word f → o ≡ Some f
pointer_of None f same = absurd (omega (arith, same))
pointer_of (Some g) f same = ap Some (omega (arith, same))

-- the same words are those of the same tables
module _ {z : Scheme} (m : ℕ → ℕ → Option ℕ) (root : ℕ) (t s : Tables) (h : AreTables z m root t) (i : AreTables z m root s) where
  table_in : (d k f : ℕ) → k < 512 ^ d → get t.tables k ≡ Some f → get s.tables k ≡ Some f
  table_in zero k f less at = absurd (let one = (h.below k f at).0 in let some = root_some z in omega (arith, one, less, some))
  table_in (suc d) k f less at = elim (h.hung k f at) [
    | inl one ↦ ap (get s.tables) one ∙ i.rooted ∙ ap Some (sym (same_Some f root (sym at ∙ ap (get t.tables) one ∙ h.rooted)))
    | inr p ↦
        let next = power_next d in
        let up = table_in d (k / 512) p.0 (omega (arith, less, next)) p.1 in
        let whole : k / 512 * 512 + k % 512 ≡ k = omega arith in
        let high = (h.below k f at).1 in
        let before = rw whole at (h.words (k / 512) p.0 (k % 512) p.1 (omega arith)) in
        let after = rw whole at (i.words (k / 512) p.0 (k % 512) up (omega arith)) in
        let word : word_in s k ≡ word_in t k = same_Some _ _ (sym after ∙ before) in
        pointer_of (get s.tables k) f (sym (word_high s k high) ∙ word ∙ word_high t k high ∙ ap pointer_or_zero at)
  ]

  same_table : (k f : ℕ) → get t.tables k ≡ Some f → get s.tables k ≡ Some f
  same_table k f at = table_in 4 k f (h.below k f at).1 at

module _ {z : Scheme} (v w : View) (root : ℕ) (t : Tables) (has : HasTables z v root t) (last : AreLast v t) (below : LetsGoTo z v w root (root_node z) t 512) where
  root_once : references w root ≡ 1
  root_once = (still_last v w root (root_node z) t below.0 below.1 last).once (root_node z) root below.1.tables.known.rooted

  pub root_held : IsHeld w root
  root_held = omega (arith, root_once)

  pub root_anchored : IsAnchored (released root w)
  root_anchored = released_anchored root w root_once (still_last v w root (root_node z) t below.0 below.1 last).anchored (λ e. last.apart (root_node z) (has.known.rooted ∙ ap Some e))

  gone_by : (k f : ℕ) (o : Option ℕ) → get below.0.tables k ≡ o → get t.tables k ≡ Some f → hold_of (released root w) f ≡ not_held
  gone_by k f None is at = elim (cases_eq f root) [
    | inl e ↦ rw e (released_same root w root_once)
    | inr ne ↦ released_elsewhere root w root_once f ne ∙ below.1.gone k f at is
  ]
  gone_by k f (Some x) is at =
      let one = only_root _ root below.0 below.1.tables.known below.2 4 k x (below.1.tables.known.below k x is).1 is in
      let same : f ≡ root = same_Some f root (sym at ∙ ap (get t.tables) one ∙ has.known.rooted) in
      rw same (released_same root w root_once)

  pub all_gone : (s : Tables) → HasTables z v root s → (k f : ℕ) → get s.tables k ≡ Some f → hold_of (released root w) f ≡ not_held
  all_gone s h k f at = gone_by k f _ refl (same_table (known_word v) root s t h.known has.known k f at)

  pub others_same : (s : Tables) → HasTables z v root s → (f : ℕ) → ((k : ℕ) → get s.tables k ≡ Some f → ⊥) → hold_of (released root w) f ≡ hold_of v f
  others_same s h f not =
      released_elsewhere root w root_once f (λ e. not (root_node z) (h.known.rooted ∙ ap Some (sym e)))
      ∙ below.1.apart f (λ k at. not k (same_table (known_word v) root t s has.known h.known k f at))

  pub all_tallies : SameTallies v (released root w)
  all_tallies = tallies_both v w (released root w) below.1.tallies (released_tallies root w root_once)
