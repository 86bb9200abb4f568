-- Lemmas: the invariant of shared frames (`Kept`) is kept as a view (what a seat holds and knows) is split in two
-- (`splits`) and as two become one (`joins`); and the frames that the parts, or the whole, hold have their words in the
-- table (`IsWithin`).
use Rattle.std.proofs.Common.{◌≡◌, ◌≢◌, ◌⊎◌, inl, inr, ⊎_elim, ℕ, zero, suc, ◌+◌, ◌-◌, ◌<◌, ◌≤◌, ◌==◌, Bool, true, false, cond, List, [], ◌∷◌, ◌++◌, slice_index, set, refl, sym, ap, ◌∙◌, subst, arith, Option, Some, None}
use Rattle.std.specs.Prelude.{IsTrue, ◌||◌}
use Rattle.std.proofs.lemmas.Bool.Decides.{eqb_tells}
use Rattle.std.specs.FinMap as map
use mathlib.Core.Option.{some}
use lib.ListN.{get_elem?}
use Rattle.atomic_table.specs.Table.{Splits, Joins}
use Rattle.atomic_table.proofs.Lists.{at_snoc, set_else}
use Rattle.frame_store.specs.Laws.{IsAnchored}
use Rattle.frame_store.specs.View.{View, Hold, hold_of, with_hold, without_hold, references, IsHeld, empty_view, added, either, joined, moved_from, moved_to, split_off, CanSplit}
use Rattle.frame_store.specs.Holds.{hold_of-empty}
use Rattle.frame_store.specs.ViewJoin.{get-union, hold_of-joined}
use Rattle.frame_store.specs.ViewChanges.{SetsHold, fewer, stays, goes, moved_from-puts, moved_to-puts}
use Rattle.shared_frames.specs.SeatsOfTable.{FrameFits, IsWithin}
use Rattle.shared_frames.specs.Invariant.{memory_at, all_references, FrameAgrees, ViewAgrees, IsSharedInvariant, Kept}
use Rattle.shared_frames.proofs.Sums.{total-set, total-snoc, total-one, total-two}
use Rattle.shared_frames.proofs.Changes.{each_set, not_held_agrees}
use Rattle.shared_frames.proofs.Within.{within_puts, not_held_fits}

moved_from-credits : (f : ℕ) (v : View) → (moved_from f v).credits ≡ v.credits
moved_from-credits f v = elim (references v f == 1) as (λ b. (cond b (without_hold f v) (with_hold f (fewer f v) v)).credits ≡ v.credits) [ true ↦ refl | false ↦ refl ]

-- The parts a and b have all that v has, and what each has of a frame is so
pub record AreParts (words : List ℕ) (all : ℕ → ℕ) (v a b : View) : Type 0 where
  pub counts : (g : ℕ) → references a g + references b g ≡ references v g
  pub credited : a.credits + b.credits ≡ v.credits
  pub left : (g : ℕ) → FrameAgrees words g (all g) (hold_of a g)
  pub right : (g : ℕ) → FrameAgrees words g (all g) (hold_of b g)

put_agrees : (words : List ℕ) (all : ℕ → ℕ) (f : ℕ) (h : Hold) (v w : View) → SetsHold f h v w → FrameAgrees words f (all f) h → ((g : ℕ) → FrameAgrees words g (all g) (hold_of v g)) → (g : ℕ) → FrameAgrees words g (all g) (hold_of w g)
put_agrees words all f h v w p here was g = elim (eqb_tells g f) as (λ _. FrameAgrees words g (all g) (hold_of w g)) [
  | inl e ↦ subst (λ m. FrameAgrees words m (all m) (hold_of w m)) (sym e.1) (subst (FrameAgrees words f (all f)) (sym p.here) here)
  | inr e ↦ subst (FrameAgrees words g (all g)) (sym (p.apart g e.1)) (was g)
]

module _ (words : List ℕ) (all : ℕ → ℕ) (v : View) (most : (g : ℕ) → references v g ≤ all g) where
  parts_move : (f : ℕ) (a b : View) → IsHeld a f → AreParts words all v a b → AreParts words all v (moved_from f a) (moved_to f (hold_of a f) b)
  parts_move f a b held p =
      let from = moved_from-puts f a in
      let to = moved_to-puts f a b in
      let l = p.left f in
      let m = most f in
      let c = p.counts f in
      let left_references : (stays f a).references ≡ references a f - 1 = elim (eqb_tells (references a f) 1) as (λ _. (stays f a).references ≡ references a f - 1) [ inl t ↦ rw t.0 (omega (arith, t.1)) | inr t ↦ rw t.0 refl ] in
      record {
        counts = λ g. elim (eqb_tells g f) as (λ _. references (moved_from f a) g + references (moved_to f (hold_of a f) b) g ≡ references v g) [
          | inl e ↦ subst (λ k. references (moved_from f a) k + references (moved_to f (hold_of a f) b) k ≡ references v k) (sym e.1)
              (let x = ap (λ (z : Hold). z.references) from.here in let y = ap (λ (z : Hold). z.references) to.here in omega (arith, x, y, left_references, c, held))
          | inr e ↦ let x = ap (λ (z : Hold). z.references) (from.apart g e.1) in let y = ap (λ (z : Hold). z.references) (to.apart g e.1) in let d = p.counts g in omega (arith, x, y, d)
        ];
        credited = let x = moved_from-credits f a in omega (arith, x, p.credited);
        left = put_agrees words all f (stays f a) a (moved_from f a) from
            (elim (eqb_tells (references a f) 1) as (λ _. FrameAgrees words f (all f) (stays f a)) [
              | inl t ↦ rw t.0 (not_held_agrees words f (all f))
              | inr t ↦ rw t.0 record { known = l.known; sole = λ s. absurd (cc); bare = λ none. absurd (let more : references a f ≢ 1 = t.1 in omega (arith, held, more, none)) }
            ])
            p.left;
        right = put_agrees words all f (goes f a b) b (moved_to f (hold_of a f) b) to
            (elim (eqb_tells (references a f) 1) as (λ _. FrameAgrees words f (all f) (goes f a b)) [
              | inl t ↦ rw t.0 record { known = l.known; sole = λ s. let k = l.sole s in (omega arith, omega (arith, t.1, k.1, m, c)); bare = λ none. absurd (omega arith) }
              | inr t ↦ rw t.0 record { known = l.known; sole = λ s. absurd (cc); bare = λ none. absurd (omega arith) }
            ])
            p.right;
      }

  parts_split : (fs : List ℕ) (a b : View) → CanSplit fs a → AreParts words all v a b → AreParts words all v (split_off fs a b).0 (split_off fs a b).1
  parts_split [] a b can p = p
  parts_split (f ∷ fs) a b can p = parts_split fs (moved_from f a) (moved_to f (hold_of a f) b) can.1 (parts_move f a b can.0 p)

empty_agrees : (words : List ℕ) (size g all : ℕ) → FrameAgrees words g all (hold_of (empty_view size) g)
empty_agrees words size g all = subst (FrameAgrees words g all) (sym (hold_of-empty size g)) (not_held_agrees words g all)

empty-references : (size g : ℕ) → references (empty_view size) g ≡ 0
empty-references size g = ap (λ (z : Hold). z.references) (hold_of-empty size g)

each_snoc : (P : View → Type 0) (views : List View) (w : View) → P w → ((j : ℕ) (u : View) → get_elem? views j ≡ some u → P u)
    → (j : ℕ) (u : View) → get_elem? (views ++ w ∷ []) j ≡ some u → P u
each_snoc P views w mine others j u e = ⊎_elim (λ was. others j u was) (λ same. subst P same mine) (at_snoc views w u j e)

-- the sums of all references are as they were, and so is what a view has
same_sums : (n : ℕ) (words : List ℕ) (all all' : ℕ → ℕ) (u : View) → ((g : ℕ) → all' g ≡ all g) → ViewAgrees n words all u → ViewAgrees n words all' u
same_sums n words all all' u same a = record { within = a.within; anchored = a.anchored; frames = λ g. subst (λ t. FrameAgrees words g t (hold_of u g)) (sym (same g)) (a.frames g) }

kept_split : (n : ℕ) (words : List ℕ) (views : List View) (id : ℕ) (v a b : View) → IsSharedInvariant n words views → get_elem? views id ≡ some v
    → AreParts words (λ f. all_references f views) v a b → IsAnchored a → IsAnchored b → IsSharedInvariant n words (set views id a ++ b ∷ [])
kept_split n words views id v a b k at p left right = record {
  narrow = k.narrow;
  wide = k.wide;
  counted = λ g l. k.counted g l ∙ sym (same g);
  few = λ g l. let s = same g in let q = k.few g l in omega (arith, s, q);
  balanced = let t = total-snoc (λ u. u.credits) (set views id a) b in let s = total-set (λ u. u.credits) views id v a at in omega (arith, t, s, k.balanced, p.credited);
  agrees = each_snoc (ViewAgrees n words (λ g. all_references g after)) (set views id a) b
      (same_sums n words _ _ b same record { within = λ g q. mine.within g (let c = p.counts g in omega (arith, c, q)); anchored = right; frames = p.right })
      (each_set (ViewAgrees n words (λ g. all_references g after)) views id a
      (same_sums n words _ _ a same record { within = λ g q. mine.within g (let c = p.counts g in omega (arith, c, q)); anchored = left; frames = p.left })
      (λ j u _ e. same_sums n words _ _ u same (k.agrees j u e)));
}
  where
    after : List View
    after = set views id a ++ b ∷ []

    mine : ViewAgrees n words (λ f. all_references f views) v
    mine = k.agrees id v at

    same : (g : ℕ) → all_references g after ≡ all_references g views
    same g = let t = total-snoc (λ u. references u g) (set views id a) b in let s = total-set (λ u. references u g) views id v a at in let c = p.counts g in omega (arith, t, s, c)

pub splits : (n id : ℕ) (fs : List ℕ) (v : View) → CanSplit fs v → IsAnchored (split_off fs v (empty_view v.size)).0 → IsAnchored (split_off fs v (empty_view v.size)).1
    → Splits (Kept n) id v (split_off fs v (empty_view v.size)).0 (split_off fs v (empty_view v.size)).1
splits n id fs v can left right s r at =
    let all : ℕ → ℕ = λ f. all_references f s.views in
    let whole : AreParts s.words all v v (empty_view v.size) = record {
      counts = λ g. let e = empty-references v.size g in omega (arith, e);
      credited = omega arith;
      left = (r.agrees id v at).frames;
      right = λ g. empty_agrees s.words v.size g (all g);
    } in
    kept_split n s.words s.views id v _ _ r at (parts_split s.words all v (λ g. total-one (λ u. references u g) s.views id v at) fs v (empty_view v.size) can whole) left right

-- ---- two views become one
either_known : (words : List ℕ) (f all : ℕ) (h k : Hold) → FrameAgrees words f all h → FrameAgrees words f all k → (i w : ℕ) (a : Option ℕ) → map.get h.words i ≡ a → either a (map.get k.words i) ≡ Some w → (i < 512) × (slice_index words (memory_at f i) ≡ w)
either_known words f all h k p q i w (Some x) e is = p.known i w (e ∙ is)
either_known words f all h k p q i w None e is = q.known i w is

either_true : (a b : Bool) → IsTrue (a || b) → IsTrue a ⊎ IsTrue b
either_true true b t = inl refl
either_true false b t = inr t

added_agrees : (words : List ℕ) (f all : ℕ) (h k : Hold) → h.references + k.references ≤ all → FrameAgrees words f all h → FrameAgrees words f all k → FrameAgrees words f all (added h k)
added_agrees words f all h k le p q =
    elim (eqb_tells k.references 0) as (λ _. FrameAgrees words f all (added h k)) [
      | inl t ↦ rw t.0 p
      | inr t ↦ elim (eqb_tells h.references 0) as (λ _. FrameAgrees words f all (added h k)) [
        | inl u ↦ rw (t.0, u.0) q
        | inr u ↦ rw (t.0, u.0) record {
          known = λ i w e. either_known words f all h k p q i w _ refl (sym (get-union h.words k.words i) ∙ e);
          sole = λ s. elim (either_true h.sole k.sole s) as (λ _. (0 < h.references + k.references) × (all ≡ h.references + k.references)) [
            | inl a ↦ let x = p.sole a in absurd (omega (arith, x.1, t.1))
            | inr b ↦ let x = q.sole b in absurd (omega (arith, x.1, u.1))
          ];
          bare = λ none. absurd (omega (arith, t.1));
        }
      ]
    ]

added_references : (h k : Hold) → (added h k).references ≡ h.references + k.references
added_references h k =
    elim (eqb_tells k.references 0) as (λ _. (added h k).references ≡ h.references + k.references) [
      | inl t ↦ rw t.0 (omega (arith, t.1))
      | inr t ↦ elim (eqb_tells h.references 0) as (λ _. (added h k).references ≡ h.references + k.references) [
        | inl u ↦ rw (t.0, u.0) (omega (arith, u.1))
        | inr u ↦ rw (t.0, u.0) refl
      ]
    ]

joined-references : (v w : View) (g : ℕ) → references (joined v w) g ≡ references v g + references w g
joined-references v w g = ap (λ (z : Hold). z.references) (hold_of-joined v w g) ∙ added_references (hold_of v g) (hold_of w g)

-- of two views that have something between them, one has it
one_has : (a b : ℕ) → 0 < a + b → (0 < a) ⊎ (0 < b)
one_has zero b h = inr (omega arith)
one_has (suc a) b h = inl (omega arith)

pub joins : (n id other : ℕ) (v w : View) → Joins (Kept n) id v other w (joined v w) (empty_view 0)
joins n id other v w s k at ne there = record {
  narrow = k.narrow;
  wide = k.wide;
  counted = λ g l. k.counted g l ∙ sym (same g);
  few = λ g l. let t = same g in let q = k.few g l in omega (arith, t, q);
  balanced = let t = total-set (λ u. u.credits) (set s.views id (joined v w)) other w (empty_view 0) there in let q = total-set (λ u. u.credits) s.views id v (joined v w) at in omega (arith, t, q, k.balanced);
  agrees = each_set (ViewAgrees n s.words (λ g. all_references g after)) (set s.views id (joined v w)) other (empty_view 0)
      record {
        within = λ g q. absurd (let e = empty-references 0 g in omega (arith, e, q));
        anchored = λ g q. absurd (let e = empty-references 0 g in omega (arith, e, q));
        frames = λ g. empty_agrees s.words 0 g (all_references g after);
      }
      (λ j u _ e. each_set (ViewAgrees n s.words (λ g. all_references g after)) s.views id (joined v w) (same_sums n s.words _ _ (joined v w) same both) (λ j' u' _ e'. same_sums n s.words _ _ u' same (k.agrees j' u' e')) j u e);
}
  where
    after : List View
    after = set (set s.views id (joined v w)) other (empty_view 0)

    was : get_elem? s.views other ≡ some w
    was = sym (set_else s.views id other (joined v w) ne) ∙ there

    same : (g : ℕ) → all_references g after ≡ all_references g s.views
    same g =
        let t = total-set (λ u. references u g) (set s.views id (joined v w)) other w (empty_view 0) there in
        let q = total-set (λ u. references u g) s.views id v (joined v w) at in
        let e = empty-references 0 g in let c = joined-references v w g in omega (arith, t, q, e, c)

    both : ViewAgrees n s.words (λ g. all_references g s.views) (joined v w)
    both = let a = k.agrees id v at in let b = k.agrees other w was in record {
      within = λ g q. ⊎_elim (a.within g) (b.within g) (one_has (references v g) (references w g) (let c = joined-references v w g in omega (arith, c, q)));
      anchored = λ g q. let c = joined-references v w 0 in ⊎_elim
          (λ (m : IsHeld v g). let z = a.anchored g m in omega (arith, c, z))
          (λ (m : IsHeld w g). let z = b.anchored g m in omega (arith, c, z))
          (one_has (references v g) (references w g) (let d = joined-references v w g in omega (arith, d, q)));
      frames = λ g. subst (FrameAgrees s.words g (all_references g s.views)) (sym (hold_of-joined v w g))
          (added_agrees s.words g (all_references g s.views) (hold_of v g) (hold_of w g) (let two = total-two (λ u. references u g) s.views other id w v ne was at in omega (arith, two)) (a.frames g) (b.frames g));
    }

-- ---- what the parts, and the whole, hold has its place
pub within-split : (words : ℕ) (fs : List ℕ) (a b : View) → CanSplit fs a → IsWithin words a → IsWithin words b → IsWithin words (split_off fs a b).0 × IsWithin words (split_off fs a b).1
within-split words [] a b can p q = (p, q)
within-split words (f ∷ fs) a b can p q = let place = (p f).0 can.0 in within-split words fs (moved_from f a) (moved_to f (hold_of a f) b) can.1
    (within_puts words f (stays f a) a _ (moved_from-puts f a)
    (elim (eqb_tells (references a f) 1) as (λ _. FrameFits words f (stays f a)) [
      | inl t ↦ rw t.0 (not_held_fits words f)
      | inr t ↦ rw t.0 ((λ _. place), (λ s. absurd (cc)))
    ])
    p)
    (within_puts words f (goes f a b) b _ (moved_to-puts f a b) ((λ _. place), (λ _. omega arith)) q)

pub within-empty : (words size : ℕ) → IsWithin words (empty_view size)
within-empty words size f = subst (FrameFits words f) (sym (hold_of-empty size f)) (not_held_fits words f)

added_fits : (words f : ℕ) (h k : Hold) → FrameFits words f h → FrameFits words f k → FrameFits words f (added h k)
added_fits words f h k p q =
    elim (eqb_tells k.references 0) as (λ _. FrameFits words f (added h k)) [
      | inl t ↦ rw t.0 p
      | inr t ↦ elim (eqb_tells h.references 0) as (λ _. FrameFits words f (added h k)) [
        | inl u ↦ rw (t.0, u.0) q
        | inr u ↦ rw (t.0, u.0) ((λ _. q.0 (let more : k.references ≢ 0 = t.1 in omega (arith, more))), (λ _. let more : k.references ≢ 0 = t.1 in omega (arith, more)))
      ]
    ]

pub within-joined : (words : ℕ) (v w : View) → IsWithin words v → IsWithin words w → IsWithin words (joined v w)
within-joined words v w p q f = subst (FrameFits words f) (sym (hold_of-joined v w f)) (added_fits words f (hold_of v f) (hold_of w f) (p f) (q f))
