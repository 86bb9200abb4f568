-- Lemmas: the invariant of shared frames (`IsSharedInvariant`) is kept as one seat's hold of one frame changes, together with this
-- frame's count and words (`kept_step`), and as only the free count and the seat's credits change (`kept_free`).
use Rattle.std.proofs.Common.{◌≡◌, ◌≢◌, inl, inr, ⊎_elim, ℕ, ◌+◌, ◌<◌, ◌≤◌, List, length, slice_index, set, refl, sym, ap, ◌∙◌, subst, arith}
use Rattle.std.proofs.lemmas.Bool.Decides.{eqb_tells}
use Rattle.std.specs.FinMap as map
use Rattle.std.specs.Ordering.{nat_cmp}
use mathlib.Core.Option.{some}
use lib.ListN.{get_elem?}
use Rattle.atomic_table.proofs.Lists.{at_set}
use Rattle.frame_store.specs.Laws.{IsAnchored}
use Rattle.frame_store.specs.View.{View, Hold, hold_of, not_held, references}
use Rattle.frame_store.specs.Holds.{hold_of-frames}
use Rattle.shared_frames.specs.Invariant.{count_at, memory_at, all_references, zero_counts, FrameAgrees, ViewAgrees, IsSharedInvariant}
use Rattle.shared_frames.proofs.Sums.{total-set, total-two}
use Rattle.shared_frames.proofs.Zeros.{zero_counts-same}

-- a fact of each view, after a change of one
pub each_set : (P : View → Type 0) (views : List View) (id : ℕ) (w : View) → P w → ((j : ℕ) (u : View) → j ≢ id → get_elem? views j ≡ some u → P u)
    → (j : ℕ) (u : View) → get_elem? (set views id w) j ≡ some u → P u
each_set P views id w mine others j u e =
    ⊎_elim
    (λ (x : (j ≡ id) × (w ≡ u)). subst P x.1 mine)
    (λ (x : (j ≢ id) × (get_elem? views j ≡ some u)). others j u x.0 x.1)
    (at_set views id j w u e)

-- nothing is known of a frame that is not held
pub not_held_agrees : (words : List ℕ) (f all : ℕ) → FrameAgrees words f all not_held
not_held_agrees words f all = record {
  known = λ i w e. let n = map.get-empty {X = ℕ} nat_cmp i in absurd (cc);
  sole = λ s. absurd (cc);
  bare = λ _. refl;
}

pub bare_agrees : (words words' : List ℕ) (f all all' : ℕ) (k : Hold) → k.references ≡ 0 → FrameAgrees words f all k → FrameAgrees words' f all' k
bare_agrees words words' f all all' k none a = subst (λ (h : Hold). FrameAgrees words' f all' h) (sym (a.bare none)) (not_held_agrees words' f all')

-- words that are as they were but for those of the frame f
pub record Outside (f : ℕ) (words words' : List ℕ) : Type 0 where
  pub long : length words' ≡ length words
  pub free : slice_index words' 0 ≡ slice_index words 0
  pub count : (g : ℕ) → g ≢ f → slice_index words' (count_at g) ≡ slice_index words (count_at g)
  pub memory : (g i : ℕ) → g ≢ f → i < 512 → slice_index words' (memory_at g i) ≡ slice_index words (memory_at g i)

pub frame_apart : (f : ℕ) (words words' : List ℕ) → Outside f words words' → (g all all' : ℕ) (h : Hold) → g ≢ f → all' ≡ all → FrameAgrees words g all h → FrameAgrees words' g all' h
frame_apart f words words' o g all all' h ne same a = record {
  known = λ i w e. ((a.known i w e).0, o.memory g i ne (a.known i w e).0 ∙ (a.known i w e).1);
  sole = λ s. ((a.sole s).0, same ∙ (a.sole s).1);
  bare = a.bare;
}

module _ (n : ℕ) (words words' : List ℕ) (views : List View) (k : IsSharedInvariant n words views) (id : ℕ) (v w : View) (at : get_elem? views id ≡ some v) where
  -- The seat has h of the frame f then. The other seats have what they had, and it is still so
  pub record Step (f : ℕ) (h : Hold) : Type 0 where
    pub frame : f < n
    pub outside : Outside f words words'
    pub here : hold_of w f ≡ h
    pub apart : (g : ℕ) → g ≢ f → hold_of w g ≡ hold_of v g
    pub count : slice_index words' (count_at f) + references v f ≡ slice_index words (count_at f) + h.references
    pub few : slice_index words' (count_at f) ≤ 65535
    pub balanced : zero_counts words' n + v.credits ≡ zero_counts words n + w.credits
    pub anchored : IsAnchored w
    pub mine : FrameAgrees words' f (slice_index words' (count_at f)) h
    pub theirs : (u : Hold) → u.references + references v f ≤ slice_index words (count_at f) → FrameAgrees words f (slice_index words (count_at f)) u → FrameAgrees words' f (slice_index words' (count_at f)) u

  pub kept_step : (f : ℕ) (h : Hold) → Step f h → IsSharedInvariant n words' (set views id w)
  kept_step f h s = record {
    narrow = k.narrow;
    wide = s.outside.long ∙ k.wide;
    counted = λ g l. elim (eqb_tells g f) as (λ _. slice_index words' (count_at g) ≡ all_references g after) [
      | inl e ↦ subst (λ m. slice_index words' (count_at m) ≡ all_references m after) (sym e.1) (sym sum)
      | inr e ↦ s.outside.count g e.1 ∙ k.counted g l ∙ sym (same g e.1)
    ];
    few = λ g l. elim (eqb_tells g f) as (λ _. all_references g after ≤ 65535) [
      | inl e ↦ subst (λ m. all_references m after ≤ 65535) (sym e.1) (let b = s.few in let t = sum in omega (arith, b, t))
      | inr e ↦ let t = same g e.1 in let b = k.few g l in omega (arith, t, b)
    ];
    balanced = let t = total-set (λ u. u.credits) views id v w at in omega (arith, t, k.balanced, s.balanced, s.outside.free);
    agrees = each_set (ViewAgrees n words' (λ g. all_references g after)) views id w
        record {
          within = λ g q. elim (eqb_tells g f) as (λ _. g < n) [
            | inl e ↦ omega (arith, e.1, s.frame)
            | inr e ↦ (k.agrees id v at).within g (subst (λ (z : Hold). 0 < z.references) (s.apart g e.1) q)
          ];
          anchored = s.anchored;
          frames = λ g. elim (eqb_tells g f) as (λ _. FrameAgrees words' g (all_references g after) (hold_of w g)) [
            | inl e ↦ subst (λ m. FrameAgrees words' m (all_references m after) (hold_of w m)) (sym e.1) (subst (λ a. FrameAgrees words' f a (hold_of w f)) (sym sum) (subst (λ z. FrameAgrees words' f (slice_index words' (count_at f)) z) (sym s.here) s.mine))
            | inr e ↦ subst (λ z. FrameAgrees words' g (all_references g after) z) (sym (s.apart g e.1)) (frame_apart f words words' s.outside g _ _ _ e.1 (same g e.1) ((k.agrees id v at).frames g))
          ];
        }
        (λ j u ne there. let a = k.agrees j u there in record {
          within = a.within;
          anchored = a.anchored;
          frames = λ g. elim (eqb_tells g f) as (λ _. FrameAgrees words' g (all_references g after) (hold_of u g)) [
            | inl e ↦ subst (λ m. FrameAgrees words' m (all_references m after) (hold_of u m)) (sym e.1) (subst (λ t. FrameAgrees words' f t (hold_of u f)) (sym sum)
                (s.theirs (hold_of u f) (let two = total-two (λ x. references x f) views j id u v ne there at in let c = was in omega (arith, two, c)) (subst (λ t. FrameAgrees words f t (hold_of u f)) (sym was) (a.frames f))))
            | inr e ↦ frame_apart f words words' s.outside g _ _ _ e.1 (same g e.1) (a.frames g)
          ];
        });
  }
    where
      after : List View
      after = set views id w

      was : slice_index words (count_at f) ≡ all_references f views
      was = k.counted f s.frame

      sum : all_references f after ≡ slice_index words' (count_at f)
      sum = let t = total-set (λ u. references u f) views id v w at in let r = ap (λ (z : Hold). z.references) s.here in let c = was in omega (arith, t, r, c, s.count)

      same : (g : ℕ) → g ≢ f → all_references g after ≡ all_references g views
      same g ne = let t = total-set (λ u. references u g) views id v w at in let r = ap (λ (z : Hold). z.references) (s.apart g ne) in omega (arith, t, r)

-- words that are as they were but for the free word
pub record FreeAlone (words words' : List ℕ) : Type 0 where
  pub long : length words' ≡ length words
  pub count : (g : ℕ) → slice_index words' (count_at g) ≡ slice_index words (count_at g)
  pub memory : (g i : ℕ) → slice_index words' (memory_at g i) ≡ slice_index words (memory_at g i)

-- the free word and the seat's credits change, and what the seat has of the frames does not
pub kept_free : (n : ℕ) (words words' : List ℕ) (views : List View) → IsSharedInvariant n words views → (id : ℕ) (v w : View) → get_elem? views id ≡ some v
    → w.frames ≡ v.frames → FreeAlone words words' → slice_index words' 0 + w.credits ≡ slice_index words 0 + v.credits → IsSharedInvariant n words' (set views id w)
kept_free n words words' views k id v w at frames o credits = record {
  narrow = k.narrow;
  wide = o.long ∙ k.wide;
  counted = λ g l. o.count g ∙ k.counted g l ∙ sym (same g);
  few = λ g l. let t = same g in let b = k.few g l in omega (arith, t, b);
  balanced = let t = total-set (λ u. u.credits) views id v w at in let z = zero_counts-same words words' n (λ f l. o.count f) in omega (arith, t, z, k.balanced, credits);
  agrees = each_set (ViewAgrees n words' (λ g. all_references g after)) views id w (moved w (mine (k.agrees id v at))) (λ j u ne there. moved u (k.agrees j u there));
}
  where
    after : List View
    after = set views id w

    held : (g : ℕ) → hold_of w g ≡ hold_of v g
    held g = hold_of-frames w v frames g

    same : (g : ℕ) → all_references g after ≡ all_references g views
    same g = let t = total-set (λ u. references u g) views id v w at in let r = ap (λ (z : Hold). z.references) (held g) in omega (arith, t, r)

    mine : ViewAgrees n words (λ g. all_references g views) v → ViewAgrees n words (λ g. all_references g views) w
    mine a = record {
      within = λ g q. a.within g (subst (λ (z : Hold). 0 < z.references) (held g) q);
      anchored = λ g q. subst (λ (z : Hold). 0 < z.references) (sym (held 0)) (a.anchored g (subst (λ (z : Hold). 0 < z.references) (held g) q));
      frames = λ g. subst (λ z. FrameAgrees words g (all_references g views) z) (sym (held g)) (a.frames g);
    }

    moved : (u : View) → ViewAgrees n words (λ g. all_references g views) u → ViewAgrees n words' (λ g. all_references g after) u
    moved u a = record {
      within = a.within;
      anchored = a.anchored;
      frames = λ g. let b = a.frames g in record {
        known = λ i x e. ((b.known i x e).0, o.memory g i ∙ (b.known i x e).1);
        sole = λ s. ((b.sole s).0, same g ∙ (b.sole s).1);
        bare = b.bare;
      };
    }
