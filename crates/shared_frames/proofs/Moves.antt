-- Lemmas: each kind of atomic step on the table of shared frames (load the free count, give back, reserve, look, release,
-- claim, share, load, learn, store) keeps the invariant (`Kept`) and changes the view of its seat as
-- `specs/StepEffects.antt` says.
use Rattle.std.proofs.Common.{◌≡◌, ◌≢◌, ◌⊎◌, inl, inr, ⊎_elim, ℕ, ◌+◌, ◌-◌, ◌%◌, ◌^◌, ◌<◌, ◌≤◌, ◌==◌, Bool, true, false, cond, List, [], ◌∷◌, length, slice_index, get_or, set, refl, sym, ap, ◌∙◌, subst, arith, get_or-set_same, get_or-set_other, length-set, Some, lit<}
use Rattle.std.specs.Prelude.{IsTrue}
use Rattle.std.proofs.lemmas.Bool.Decides.{eqb_tells}
use Rattle.std.proofs.lemmas.List.{set-get_or}
use Rattle.std.specs.FinMap as map
use Rattle.std.specs.Ordering.{nat_cmp}
use Rattle.std.specs.Cmp.{nat_cmp_total, unsigned_tied}
use mathlib.Core.Option.{some, none}
use lib.ListN.{get_elem?}
use prog.Atomic.{either}
use Rattle.atomic_table.specs.Table.{State, Me, step, keeps, Allows}
use Rattle.atomic_table.proofs.Lists.{set_again}
use Rattle.frame_store.specs.Laws.{IsAnchored}
use Rattle.frame_store.specs.View.{counted, spent, View, Hold, hold_of, sole_hold, references, IsHeld, IsSole, with_word, with_credits, without_credits, saw_none, claimed, shared, looked, read_full, released}
use Rattle.frame_store.specs.Holds.{hold_of-frames}
use Rattle.frame_store.specs.ViewChanges.{SetsHold, puts, left_of, left-references, released-puts}
use Rattle.shared_frames.specs.Invariant.{count_at, memory_at, one_at_zero, FrameAgrees, IsSharedInvariant, Kept}
use Rattle.shared_frames.specs.StepEffects.{saw_free, let_go, unshared, LoadsFree, GivesBack, Looks, Releases, Learns, Loads, Stores, Reserves, Claims, Shares}
use Rattle.shared_frames.proofs.Sums.{total-one}
use Rattle.shared_frames.proofs.Zeros.{one_at_zero-zero, one_at_zero-more, zero_counts-le, zero_counts-same, zero_counts-set}
use Rattle.shared_frames.proofs.Changes.{kept_step, kept_free, not_held_agrees, bare_agrees}

abbrev M : Type 0
M = Me (Unit {0}) View

abbrev St : Type 0
St = State (Unit {0}) View

pub same_frame : (f g : ℕ) → count_at f ≡ count_at g → f ≡ g
same_frame f g e = omega arith

-- where f stays held, frame 0 does
pub still_anchored : (f : ℕ) (h : Hold) (v w : View) → SetsHold f h v w → 0 < h.references → IsHeld v 0 → IsAnchored w
still_anchored f h v w p more base g q = elim (eqb_tells 0 f) as (λ _. IsHeld w 0) [
  | inl e ↦ subst (λ m. IsHeld w m) (sym e.1) (subst (λ (z : Hold). 0 < z.references) (sym p.here) more)
  | inr e ↦ subst (λ (z : Hold). 0 < z.references) (sym (p.apart 0 e.1)) base
]

let_go-puts : (f found : ℕ) (v : View) → SetsHold f (left_of f v) v (let_go f found v)
let_go-puts f found v = let p = released-puts f v in record {
  here = hold_of-frames (let_go f found v) (released f v) refl f ∙ p.here;
  apart = λ g ne. hold_of-frames (let_go f found v) (released f v) refl g ∙ p.apart g ne;
}

pub saw_free-frames : (found : ℕ) (v : View) → (saw_free found v).frames ≡ v.frames
saw_free-frames found v = elim (found == 0) as (λ b. (cond b (saw_none v.credits v) v).frames ≡ v.frames) [ true ↦ refl | false ↦ refl ]

saw_free-credits : (found : ℕ) (v : View) → (saw_free found v).credits ≡ v.credits
saw_free-credits found v = elim (found == 0) as (λ b. (cond b (saw_none v.credits v) v).credits ≡ v.credits) [ true ↦ refl | false ↦ refl ]

pub reserved-frames : (old new found : ℕ) (v : View) → (cond (found == old) (with_credits (old - new) v) v).frames ≡ v.frames
reserved-frames old new found v = elim (found == old) as (λ b. (cond b (with_credits (old - new) v) v).frames ≡ v.frames) [ true ↦ refl | false ↦ refl ]

pub unshared-frames : (found : ℕ) (v : View) → (unshared found v).frames ≡ v.frames
unshared-frames found v = elim (found == 65535) as (λ b. (cond b (read_full v) v).frames ≡ v.frames) [ true ↦ refl | false ↦ refl ]

unshared-credits : (found : ℕ) (v : View) → (unshared found v).credits ≡ v.credits
unshared-credits found v = elim (found == 65535) as (λ b. (cond b (read_full v) v).credits ≡ v.credits) [ true ↦ refl | false ↦ refl ]

module _ (n : ℕ) (s : St) (r : Kept n s) (id : ℕ) (v : View) (at : get_elem? s.views id ≡ some v) where
  abbrev now : ℕ → ℕ
  now f = get_or s.words (count_at f) 0

  held_frame : (f : ℕ) → IsHeld v f → f < n
  held_frame f h = (r.agrees id v at).within f h

  -- the count of a held frame
  held_count : (f : ℕ) → IsHeld v f → (references v f ≤ now f) × (now f ≤ 65535)
  held_count f h = let l = held_frame f h in let t = total-one (λ u. references u f) s.views id v at in let c = r.counted f l in let b = r.few f l in (omega (arith, t, c), omega (arith, c, b))

  mine : (f : ℕ) → f < n → FrameAgrees s.words f (now f) (hold_of v f)
  mine f l = subst (λ t. FrameAgrees s.words f t (hold_of v f)) (sym (r.counted f l)) ((r.agrees id v at).frames f)

  -- a step that changes nothing
  kept_same : (i : ℕ) → IsSharedInvariant n (set s.words i (get_or s.words i 0)) (set s.views id v)
  kept_same i = subst (λ ws. IsSharedInvariant n ws (set s.views id v)) (sym (set-get_or s.words i 0)) (subst (λ vs. IsSharedInvariant n s.words vs) (sym (set_again s.views id v at)) r)

  -- a step that changes tallies alone
  kept_seen : (i : ℕ) (w : View) → w.frames ≡ v.frames → w.credits ≡ v.credits → IsSharedInvariant n (set s.words i (get_or s.words i 0)) (set s.views id w)
  kept_seen i w same as_many = subst (λ ws. IsSharedInvariant n ws (set s.views id w)) (sym (set-get_or s.words i 0))
      (kept_free n s.words s.words s.views r id v w at same record { long = refl; count = λ g. refl; memory = λ g j. refl } (omega (arith, as_many)))

  -- the free word becomes x
  kept_word : (x : ℕ) (w : View) → w.frames ≡ v.frames → x + w.credits ≡ get_or s.words 0 0 + v.credits → IsSharedInvariant n (set s.words 0 x) (set s.views id w)
  kept_word x w same is = let l = r.wide in let here : get_or (set s.words 0 x) 0 0 ≡ x = get_or-set_same s.words 0 x 0 (omega arith) in
      kept_free n s.words (set s.words 0 x) s.views r id v w at same
      record {
        long = length-set s.words 0 x;
        count = λ g. get_or-set_other s.words 0 (count_at g) x 0 (λ q. omega arith);
        memory = λ g j. get_or-set_other s.words 0 (memory_at g j) x 0 (λ q. omega arith);
      }
      (omega (arith, here, is))

  -- what has to be said where the count of f becomes c, and the seat has h of it then
  pub record Counts (f c : ℕ) (h : Hold) (w : View) : Type 0 where
    pub frame : f < n
    pub puts : SetsHold f h v w
    pub count : c + references v f ≡ now f + h.references
    pub few : c ≤ 65535
    pub balanced : one_at_zero c + v.credits ≡ one_at_zero (now f) + w.credits
    pub alone : (IsHeld v f) ⊎ (now f ≡ 0)
    pub agrees : FrameAgrees s.words f c h
    pub anchored : IsAnchored w

  kept_count : (f c : ℕ) (h : Hold) (w : View) → Counts f c h w → IsSharedInvariant n (set s.words (count_at f) c) (set s.views id w)
  kept_count f c h w k = kept_step n s.words words' s.views r id v w at f h record {
    frame = k.frame;
    outside = record {
      long = length-set s.words (count_at f) c;
      free = get_or-set_other s.words (count_at f) 0 c 0 (λ q. omega arith);
      count = λ g ne. get_or-set_other s.words (count_at f) (count_at g) c 0 (λ q. ne (omega arith));
      memory = λ g i ne low. get_or-set_other s.words (count_at f) (memory_at g i) c 0 (λ q. omega arith);
    };
    here = k.puts.here;
    apart = k.puts.apart;
    count = let e = here in omega (arith, e, k.count);
    few = let e = here in omega (arith, e, k.few);
    balanced = let z = zero_counts-set s.words n f c k.frame inside in omega (arith, z, k.balanced);
    anchored = k.anchored;
    mine = moved h k.agrees;
    theirs = λ u le a. moved u record {
      known = a.known;
      sole = λ q. absurd (let o = a.sole q in ⊎_elim (λ (m : IsHeld v f). omega (arith, o.0, o.1, le, m)) (λ (m : now f ≡ 0). omega (arith, o.0, o.1, le, m)) k.alone);
      bare = a.bare;
    };
  }
    where
      words' : List ℕ
      words' = set s.words (count_at f) c

      inside : count_at f < length s.words
      inside = let l = r.wide in let b = k.frame in omega arith

      here : slice_index words' (count_at f) ≡ c
      here = get_or-set_same s.words (count_at f) c 0 inside

      moved : (u : Hold) → FrameAgrees s.words f c u → FrameAgrees words' f (slice_index words' (count_at f)) u
      moved u a = record {
        known = λ i x e. ((a.known i x e).0, get_or-set_other s.words (count_at f) (memory_at f i) c 0 (λ q. omega arith) ∙ (a.known i x e).1);
        sole = λ q. ((a.sole q).0, here ∙ (a.sole q).1);
        bare = a.bare;
      }

  look_counts : (f : ℕ) → IsHeld v f → Counts f (now f) (record (hold_of v f) { sole = cond (now f == 1) true (hold_of v f).sole }) (looked f (now f) v)
  look_counts f held =
      let h : Hold = record (hold_of v f) { sole = cond (now f == 1) true (hold_of v f).sole } in
      let c = held_count f held in
      let a = mine f (held_frame f held) in
      let p = puts f h v (record v { tallies = counted (now f ∷ []) v.tallies }) refl in
      record {
        frame = held_frame f held;
        puts = p;
        count = refl;
        few = c.1;
        balanced = refl;
        alone = inl held;
        agrees = record {
          known = a.known;
          sole = elim (eqb_tells (now f) 1) as (λ _. IsTrue (cond (now f == 1) true (hold_of v f).sole) → (0 < references v f) × (now f ≡ references v f)) [
            | inl t ↦ λ q. (held, omega (arith, t.1, c.0, held))
            | inr t ↦ λ q. a.sole (subst (λ b. IsTrue (cond b true (hold_of v f).sole)) t.0 q)
          ];
          bare = λ none. absurd (omega (arith, held, none));
        };
        anchored = still_anchored f h v _ p held ((r.agrees id v at).anchored f held);
      }

  release_counts : (f c : ℕ) → IsHeld v f → IsAnchored (released f v) → c + 1 ≡ now f → Counts f c (left_of f v) (let_go f (now f) v)
  release_counts f c held stays is =
      let b = held_count f held in
      let e = left-references f v in
      let a = mine f (held_frame f held) in
      let w : View = let_go f (now f) v in
      record {
        frame = held_frame f held;
        puts = let_go-puts f (now f) v;
        count = omega (arith, e, held, is);
        few = omega (arith, b.1, is);
        balanced = let p = one_at_zero-more (now f) (omega (arith, is)) in elim (eqb_tells (now f) 1) as (λ _. one_at_zero c + v.credits ≡ one_at_zero (now f) + (v.credits + cond (now f == 1) 1 0)) [
          | inl t ↦ let z = one_at_zero-zero c (omega (arith, t.1, is)) in rw t.0 (omega (arith, p, z))
          | inr t ↦ let z = one_at_zero-more c (λ q. t.1 (omega (arith, is, q))) in rw t.0 (omega (arith, p, z))
        ];
        alone = inl held;
        agrees = elim (eqb_tells (references v f) 1) as (λ _. FrameAgrees s.words f c (left_of f v)) [
          | inl t ↦ rw t.0 (not_held_agrees s.words f c)
          | inr t ↦ rw t.0 record {
            known = a.known;
            sole = λ q. let k = a.sole q in let more : references v f ≢ 1 = t.1 in (omega (arith, held, more), omega (arith, k.1, is));
            bare = λ none. absurd (let more : references v f ≢ 1 = t.1 in omega (arith, held, more, none));
          }
        ];
        anchored = λ g q. subst (λ (z : Hold). 0 < z.references) (sym (hold_of-frames w (released f v) refl 0)) (stays g (subst (λ (z : Hold). 0 < z.references) (hold_of-frames w (released f v) refl g) q));
      }

  claim_counts : (f : ℕ) → f < n → IsHeld v 0 → 0 < v.credits → now f ≡ 0 → Counts f 1 sole_hold (claimed f v)
  claim_counts f l base rich is =
      let t = r.counted f l in
      let o = total-one (λ u. references u f) s.views id v at in
      let z = one_at_zero-zero (now f) is in
      let p = puts f sole_hold v (record v { credits = v.credits - 1; tallies = spent 1 v.tallies }) refl in
      record {
        frame = l;
        puts = p;
        count = omega (arith, t, o, is);
        few = omega arith;
        balanced = omega (arith, rich, z);
        alone = inr is;
        agrees = record {
          known = λ i w e. let n = map.get-empty {X = ℕ} nat_cmp i in absurd (cc);
          sole = λ _. (lit< tt, refl);
          bare = λ q. absurd (omega arith);
        };
        anchored = still_anchored f sole_hold v _ p (lit< tt) base;
      }

  share_counts : (f : ℕ) → IsHeld v f → now f < 65535 → Counts f (now f + 1) (record (hold_of v f) { references = references v f + 1 }) (shared f v)
  share_counts f held room =
      let h : Hold = record (hold_of v f) { references = references v f + 1 } in
      let b = held_count f held in
      let a = mine f (held_frame f held) in
      let p = one_at_zero-more (now f) (λ q. omega (arith, b.0, held, q)) in
      let q = one_at_zero-more (now f + 1) (λ q. omega (arith, q)) in
      record {
        frame = held_frame f held;
        puts = puts f h v v refl;
        count = omega arith;
        few = omega (arith, room);
        balanced = omega (arith, p, q);
        alone = inl held;
        agrees = record {
          known = a.known;
          sole = λ s. let k = a.sole s in (omega arith, omega (arith, k.1));
          bare = λ none. absurd (omega arith);
        };
        anchored = still_anchored f h v _ (puts f h v v refl) (omega arith) ((r.agrees id v at).anchored f held);
      }

  kept_memory : (f i x : ℕ) → i < 512 → IsSole v f → IsSharedInvariant n (set s.words (memory_at f i) x) (set s.views id (with_word f i x v))
  kept_memory f i x low mark =
      let first = ((r.agrees id v at).frames f).sole mark in
      let l = held_frame f first.0 in
      let a = mine f l in
      let own = a.sole mark in
      let ws : map.FinMap nat_cmp ℕ = (hold_of v f).words in
      let h : Hold = record (hold_of v f) { words = map.insert ws i x } in
      let p = puts f h v v refl in
      let words' : List ℕ = set s.words (memory_at f i) x in
      let inside : memory_at f i < length s.words = omega (arith, r.wide, l, low) in
      let counts : (g : ℕ) → slice_index words' (count_at g) ≡ slice_index s.words (count_at g) = λ g. get_or-set_other s.words (memory_at f i) (count_at g) x 0 (λ q. omega (arith, q, low)) in
      kept_step n s.words words' s.views r id v (with_word f i x v) at f h record {
        frame = l;
        outside = record {
          long = length-set s.words (memory_at f i) x;
          free = get_or-set_other s.words (memory_at f i) 0 x 0 (λ q. omega arith);
          count = λ g ne. counts g;
          memory = λ g j ne jlow. get_or-set_other s.words (memory_at f i) (memory_at g j) x 0 (λ q. ne (omega (arith, q, low, jlow)));
        };
        here = p.here;
        apart = p.apart;
        count = let e = counts f in omega (arith, e);
        few = let e = counts f in let b = held_count f own.0 in omega (arith, e, b.1);
        balanced = let z = zero_counts-same s.words words' n (λ g k. counts g) in omega (arith, z);
        anchored = still_anchored f h v _ p own.0 ((r.agrees id v at).anchored f own.0);
        mine = record {
          known = λ j y e. elim (eqb_tells j i) as (λ _. (j < 512) × (slice_index words' (memory_at f j) ≡ y)) [
            | inl t ↦
                let there : map.get (map.insert ws i x) j ≡ Some x = map.get-insert nat_cmp_total ws i x j ∙ ap (λ b. cond b (Some x) (map.get ws j)) (unsigned_tied j i ∙ t.0) in
                let same : y ≡ x = cc in
                (omega (arith, t.1, low), subst (λ k. slice_index words' (memory_at f k) ≡ y) (sym t.1) (get_or-set_same s.words (memory_at f i) x 0 inside ∙ sym same))
            | inr t ↦
                let there : map.get (map.insert ws i x) j ≡ map.get ws j = map.get-insert nat_cmp_total ws i x j ∙ ap (λ b. cond b (Some x) (map.get ws j)) (unsigned_tied j i ∙ t.0) in
                let k = a.known j y (sym there ∙ e) in
                (k.0, get_or-set_other s.words (memory_at f i) (memory_at f j) x 0 (λ q. t.1 (omega arith)) ∙ k.1)
          ];
          sole = λ q. (own.0, counts f ∙ own.1);
          bare = λ none. absurd (omega (arith, own.0, none));
        };
        theirs = λ u le b. bare_agrees s.words words' f _ _ u (omega (arith, le, own.1)) b;
      }

  -- an exchange that found the word expected, and one that did not
  reserve_keeps : (old new : ℕ) → new ≤ old → (b : Bool) → (b ≡ true → get_or s.words 0 0 ≡ old) → IsSharedInvariant n (set s.words 0 (either b new (get_or s.words 0 0))) (set s.views id (cond b (with_credits (old - new) v) v))
  reserve_keeps old new le true is = let e = is refl in kept_word new (with_credits (old - new) v) refl (omega (arith, le, e))
  reserve_keeps old new le false is = kept_same 0

  claim_keeps : (f : ℕ) → f < n → IsHeld v 0 → 0 < v.credits → (b : Bool) → (b ≡ true → now f ≡ 0) → IsSharedInvariant n (set s.words (count_at f) (either b 1 (now f))) (set s.views id (cond b (claimed f v) v))
  claim_keeps f l base rich true is = kept_count f 1 sole_hold (claimed f v) (claim_counts f l base rich (is refl))
  claim_keeps f l base rich false is = kept_same (count_at f)

  share_keeps : (f old : ℕ) → IsHeld v f → old < 65535 → (b : Bool) → (b ≡ true → now f ≡ old) → IsSharedInvariant n (set s.words (count_at f) (either b (old + 1) (now f))) (set s.views id (cond b (shared f v) (unshared (now f) v)))
  share_keeps f old held room true is = subst (λ z. IsSharedInvariant n (set s.words (count_at f) (z + 1)) (set s.views id (shared f v))) (is refl)
      (kept_count f (now f + 1) _ (shared f v) (share_counts f held (let e = is refl in omega (arith, e, room))))
  share_keeps f old held room false is = kept_seen (count_at f) (unshared (now f) v) (unshared-frames (now f) v) (unshared-credits (now f) v)

found : (x y : ℕ) → (x == y) ≡ true → x ≡ y
found x y e = elim (eqb_tells x y) as (λ _. x ≡ y) [ inl t ↦ t.1 | inr t ↦ absurd (let u = t.0 in cc) ]

module _ (n slots id : ℕ) (me : M) where
  pub sees : Allows (Kept n) slots id me 0 (λ x. x) (LoadsFree (step slots 0 0 0 none) me)
  sees s r _ at small = let x = get_or s.words 0 0 in (saw_free x me.0, keeps, tt, kept_seen n s r id me.0 at 0 (saw_free x me.0) (saw_free-frames x me.0) (saw_free-credits x me.0), refl)

  pub gives_back : (k : ℕ) → k ≤ me.0.credits → Allows (Kept n) slots id me 0 (λ x. (x + k) % 2 ^ 64) (GivesBack (step slots 0 k 0 none) me)
  gives_back k enough s r _ at small =
      let x = get_or s.words 0 0 in
      let t = total-one (λ u. u.credits) s.views id me.0 at in
      let b = zero_counts-le s.words n in
      let is : x + k ≡ (x + k) % 18446744073709551616 = omega (arith, t, b, r.balanced, r.narrow, enough) in
      (without_credits k me.0, keeps, tt, subst (λ z. IsSharedInvariant n (set s.words 0 z) (set s.views id (without_credits k me.0))) is (kept_word n s r id me.0 at (x + k) (without_credits k me.0) refl (omega (arith, enough))), refl)

  pub reserves : (old new : ℕ) → new ≤ old → Allows (Kept n) slots id me 0 (λ x. either (x == old) new x) (Reserves (step slots 0 old new none) me)
  reserves old new le s r _ at small = let x = get_or s.words 0 0 in
      (cond (x == old) (with_credits (old - new) me.0) me.0, keeps, tt, reserve_keeps n s r id me.0 at old new le (x == old) (found x old), refl)

  pub looks : (f : ℕ) → IsHeld me.0 f → Allows (Kept n) slots id me (count_at f) (λ x. x) (Looks (step slots (count_at f) 0 0 none) me)
  looks f held s r _ at small = let x = get_or s.words (count_at f) 0 in (
    looked f x me.0,
    keeps,
    tt,
    kept_count n s r id me.0 at f x _ (looked f x me.0) (look_counts n s r id me.0 at f held),
    ((held_count n s r id me.0 at f held).1, (λ g e. ap (λ (m : ℕ). (looked m x me.0, me.1)) (same_frame f g e)), let b = held_count n s r id me.0 at f held in omega (arith, b.0, held)),
  )

  pub releases : (f : ℕ) → IsHeld me.0 f → IsAnchored (released f me.0) → Allows (Kept n) slots id me (count_at f) (λ x. (x + (2 ^ 64 - 1)) % 2 ^ 64) (Releases (step slots (count_at f) 1 0 none) me)
  releases f held stays s r _ at small =
      let x = get_or s.words (count_at f) 0 in
      let b = held_count n s r id me.0 at f held in
      let is : x - 1 ≡ (x + 18446744073709551615) % 18446744073709551616 = omega (arith, b.0, b.1, held) in (
        let_go f x me.0,
        keeps,
        tt,
        subst (λ z. IsSharedInvariant n (set s.words (count_at f) z) (set s.views id (let_go f x me.0))) is
            (kept_count n s r id me.0 at f (x - 1) _ (let_go f x me.0) (release_counts n s r id me.0 at f (x - 1) held stays (omega (arith, b.0, held)))),
        λ g e. ap (λ (m : ℕ). (let_go m x me.0, me.1)) (same_frame f g e),
      )

  pub claims : (f : ℕ) → f < n → IsHeld me.0 0 → 0 < me.0.credits → Allows (Kept n) slots id me (count_at f) (λ x. either (x == 0) 1 x) (Claims (step slots (count_at f) 0 1 none) me)
  claims f l base rich s r _ at small = let x = get_or s.words (count_at f) 0 in (
    cond (x == 0) (claimed f me.0) me.0,
    keeps,
    tt,
    claim_keeps n s r id me.0 at f l base rich (x == 0) (found x 0),
    λ g e. (
      ap (λ (m : ℕ). (cond (x == 0) (claimed m me.0) me.0, me.1)) (same_frame f g e),
      λ z. subst (λ m. references me.0 m ≡ 0) (same_frame f g e) (let t = r.counted f l in let o = total-one (λ u. references u f) s.views id me.0 at in omega (arith, t, o, z)),
    ),
  )

  pub shares : (f old : ℕ) → IsHeld me.0 f → old < 65535 → Allows (Kept n) slots id me (count_at f) (λ x. either (x == old) (old + 1) x) (Shares (step slots (count_at f) old (old + 1) none) me)
  shares f old held room s r _ at small = let x = get_or s.words (count_at f) 0 in (
    cond (x == old) (shared f me.0) (unshared x me.0),
    keeps,
    tt,
    share_keeps n s r id me.0 at f old held room (x == old) (found x old),
    ((held_count n s r id me.0 at f held).1, λ g e. ap (λ (m : ℕ). (cond (x == old) (shared m me.0) (unshared x me.0), me.1)) (same_frame f g e)),
  )

  pub loads : (i : ℕ) → Allows (Kept n) slots id me i (λ x. x) (Loads (step slots i 0 0 none) me)
  loads i s r _ at small = (me.0, keeps, tt, kept_same n s r id me.0 at i, (refl, λ f j x e q. ap (λ m. get_or s.words m 0) e ∙ (((r.agrees id me.0 at).frames f).known j x q).1))

  pub learns : (f i : ℕ) → i < 512 → IsSole me.0 f → Allows (Kept n) slots id me (memory_at f i) (λ x. x) (Learns (step slots (memory_at f i) 0 0 none) me)
  learns f i low mark s r _ at small = let x = get_or s.words (memory_at f i) 0 in (
    with_word f i x me.0,
    keeps,
    tt,
    kept_memory n s r id me.0 at f i x low mark,
    λ g j b e. let ef : f ≡ g = omega (arith, e, b, low) in let ei : i ≡ j = omega (arith, e, b, low, ef) in λ k. (with_word (ef k) (ei k) x me.0, me.1),
  )

  pub stores : (f i x : ℕ) → i < 512 → IsSole me.0 f → Allows (Kept n) slots id me (memory_at f i) (λ _. x) (λ _. Stores (step slots (memory_at f i) x 0 none) me x)
  stores f i x low mark s r _ at small = (
    with_word f i x me.0,
    keeps,
    tt,
    kept_memory n s r id me.0 at f i x low mark,
    λ g j b e. let ef : f ≡ g = omega (arith, e, b, low) in let ei : i ≡ j = omega (arith, e, b, low, ef) in λ k. (with_word (ef k) (ei k) x me.0, me.1),
  )
