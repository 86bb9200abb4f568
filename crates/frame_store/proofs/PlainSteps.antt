-- Lemmas: the invariant of plain frames (`PlainInvariant`: words, counts and the views of all seats agree) holds of a new store
-- and is kept as one seat stores a word or a run of words, looks at a count, shares, claims or releases a frame, or changes
-- only its credits or tallies. Also: a held frame lies in the store, and a word that a seat knows is the word there.
use Rattle.std.proofs.Common.{◌≡◌, ◌⊎◌, ℕ, ◌+◌, ◌-◌, ◌*◌, ◌<◌, ◌≤◌, ◌==◌, true, cond, refl, ap, sym, subst, ◌∙◌, Some, List, [], ◌∷◌, inl, inr, length, slice_index, arith, lit<}
use Rattle.std.specs.Prelude.{slice_set, count_by, IsTrue, replicate}
use Rattle.std.proofs.lemmas.List.Folds.{sum_by-replicate}
use Rattle.std.proofs.lemmas.List.{get_or-set_same, get_or-set_other, length-set, get_or_past, get_or-replicate, length-replicate}
use Rattle.std.proofs.lemmas.Bool.{cases_lt}
use Rattle.std.proofs.lemmas.List.Sums.{sum_by-set}
use Rattle.std.proofs.lemmas.Bool.{ne_eqb, eq-eqb}
use Rattle.std.proofs.lemmas.Bool.Decides.{eqb_tells}
use Rattle.std.proofs.lemmas.Option.{same_Some}
use Rattle.std.specs.Cmp.{nat_cmp_total, unsigned_tied}
use Rattle.std.specs.Ordering.{nat_cmp}
use Rattle.std.specs.FinMap as map
use Rattle.frame_store.specs.View.{spent, View, Hold, hold_of, with_hold, without_hold, not_held, references, IsSole, IsHeld, known_word, put_many, with_many, with_word, claimed, shared, looked, released, empty_view, opening_view}
use Rattle.frame_store.specs.Plain.{total_references, total_credits, FrameAgrees, Agrees, AllAgree, AllSay, PlainInvariant, is_zero, not_held_agrees}
use Rattle.frame_store.specs.StoredRuns.{put_inside, put_outside}
use Rattle.frame_store.specs.Holds.{hold_of-with_hold_same, hold_of-with_hold_other, hold_of-without_hold_same, hold_of-without_hold_other, hold_of-frames, hold_of-empty}

-- an index is among n from the first on, or it is not
within_tells : (first n q : ℕ) → (first ≤ q × q < first + n) ⊎ (first ≤ q → q < first + n → ⊥)
within_tells first n q = elim (cases_lt q first) [
  | inl before ↦ inr (λ a b. omega arith)
  | inr from ↦ elim (cases_lt q (first + n)) [
    | inl below ↦ inl (from, below)
    | inr past ↦ inr (λ a b. omega arith)
  ]
]

-- words and counts are as before but at the frame f
pub record Outside (f : ℕ) (words counts words' counts' : List ℕ) : Type 0 where
  pub page : (g i : ℕ) → (g ≡ f → ⊥) → i < 512 → slice_index words' (512 * g + i) ≡ slice_index words (512 * g + i)
  pub count : (g : ℕ) → (g ≡ f → ⊥) → slice_index counts' g ≡ slice_index counts g

-- a view is as before but has h of the frame f
pub record Changes (f : ℕ) (h : Hold) (v w : View) : Type 0 where
  pub here : hold_of w f ≡ h
  pub apart : (g : ℕ) → (g ≡ f → ⊥) → hold_of w g ≡ hold_of v g
  pub size : w.size ≡ v.size

pub changed : (f : ℕ) (h : Hold) (v : View) → Changes f h v (with_hold f h v)
changed f h v = record { here = hold_of-with_hold_same f h v; apart = hold_of-with_hold_other f h v; size = refl }

pub removed : (f : ℕ) (v : View) → Changes f not_held v (without_hold f v)
removed f v = record { here = hold_of-without_hold_same f v; apart = hold_of-without_hold_other f v; size = refl }

module _ (words counts words' counts' : List ℕ) (f : ℕ) (o : Outside f words counts words' counts') where
  frame_apart : (g : ℕ) (h : Hold) → (g ≡ f → ⊥) → FrameAgrees words counts g h → FrameAgrees words' counts' g h
  frame_apart g h ne a = record {
    known = λ i w e. ((a.known i w e).0, o.page g i ne (a.known i w e).0 ∙ (a.known i w e).1);
    sole = λ s. ((a.sole s).0, (a.sole s).1 ∙ sym (o.count g ne));
    bare = a.bare;
  }

  -- the seat that steps
  pub own : (v w : View) (h : Hold) → Changes f h v w → FrameAgrees words' counts' f h → Agrees words counts v → Agrees words' counts' w
  own v w h c here a g =
      elim (eqb_tells g f) as (λ _. FrameAgrees words' counts' g (hold_of w g)) [
        | inl e ↦ subst (λ k. FrameAgrees words' counts' k (hold_of w k)) (sym e.1) (subst (λ k. FrameAgrees words' counts' f k) (sym c.here) here)
        | inr e ↦ subst (λ k. FrameAgrees words' counts' g k) (sym (c.apart g e.1)) (frame_apart g _ e.1 (a g))
      ]

  -- the others
  pub others : (vs : List View) → ((h : Hold) → h.references ≤ total_references f vs → FrameAgrees words counts f h → FrameAgrees words' counts' f h)
      → AllAgree words counts vs → AllAgree words' counts' vs
  others [] p a = tt
  others (v ∷ vs) p a = (
    (λ g. elim (eqb_tells g f) as (λ _. FrameAgrees words' counts' g (hold_of v g)) [
      | inl e ↦ subst (λ k. FrameAgrees words' counts' k (hold_of v k)) (sym e.1) (p (hold_of v f) (omega arith) (a.0 f))
      | inr e ↦ frame_apart g _ e.1 (a.0 g)
    ]),
    others vs (λ h le. p h (omega arith)) a.1,
  )

  pub step : (free free' : ℕ) (v w : View) (vs : List View) (h : Hold) → PlainInvariant words counts free (v ∷ vs) → Changes f h v w
      → length words' ≡ length words → length counts' ≡ length counts
      → h.references + total_references f vs ≡ slice_index counts' f
      → count_by is_zero counts' ≡ free' + (w.credits + total_credits vs)
      → FrameAgrees words' counts' f h
      → ((k : Hold) → k.references ≤ total_references f vs → FrameAgrees words counts f k → FrameAgrees words' counts' f k)
      → PlainInvariant words' counts' free' (w ∷ vs)
  step free free' v w vs h r c lw lc total balanced here p = record {
    few = omega (arith, r.few);
    sized = lw ∙ r.sized ∙ ap (λ n. 512 * n) (sym lc);
    counted = λ g. elim (eqb_tells g f) as (λ _. references w g + total_references g vs ≡ slice_index counts' g) [
      | inl e ↦ subst (λ k. references w k + total_references k vs ≡ slice_index counts' k) (sym e.1) (ap (λ (k : Hold). k.references + total_references f vs) c.here ∙ total)
      | inr e ↦ ap (λ (k : Hold). k.references + total_references g vs) (c.apart g e.1) ∙ r.counted g ∙ sym (o.count g e.1)
    ];
    balanced = balanced;
    sizes = (c.size ∙ r.sizes.0 ∙ sym lc, subst (λ n. AllSay n vs) (sym lc) r.sizes.1);
    agrees = (own v w h c here r.agrees.0, others vs p r.agrees.1);
  }

pub in_counts : (counts : List ℕ) (f : ℕ) → 0 < slice_index counts f → f < length counts
in_counts counts f h = elim (cases_lt f (length counts)) as (λ _. f < length counts) [
  | inl lt ↦ lt
  | inr ge ↦ absurd (omega (arith, get_or_past counts f 0 ge))
]

pub nothing_held : (words counts words' counts' : List ℕ) (f : ℕ) (h : Hold) → h.references ≡ 0 → FrameAgrees words counts f h → FrameAgrees words' counts' f h
nothing_held words counts words' counts' f h none a = subst (λ (k : Hold). FrameAgrees words' counts' f k) (sym (a.bare none)) (not_held_agrees words' counts' f)

pub same_outside : (f : ℕ) (words counts : List ℕ) → Outside f words counts words counts
same_outside f words counts = record { page = λ g i ne low. refl; count = λ g ne. refl }

pub count_outside : (f : ℕ) (words counts : List ℕ) (c : ℕ) → Outside f words counts words (slice_set counts f c)
count_outside f words counts c = record { page = λ g i ne low. refl; count = λ g ne. get_or-set_other counts f g c 0 ne }

pub zeros-set : (counts : List ℕ) (f c : ℕ) → f < length counts → count_by is_zero (slice_set counts f c) + cond (is_zero (slice_index counts f)) 1 0 ≡ count_by is_zero counts + cond (is_zero c) 1 0
zeros-set counts f c lt = sum_by-set (λ x. cond (is_zero x) 1 0) counts f c 0 lt

-- a count that stays above 0 is no more free than it was
pub held_zeros : (counts : List ℕ) (f c : ℕ) → f < length counts → (slice_index counts f ≡ 0 → ⊥) → (c ≡ 0 → ⊥) → count_by is_zero (slice_set counts f c) ≡ count_by is_zero counts
held_zeros counts f c lt was is =
    let z = zeros-set counts f c lt in
    let a = ne_eqb (slice_index counts f) 0 was in
    let b = ne_eqb c 0 is in
    let z2 = rw (a, b) at z in
    omega (arith, z2)

pub last_zero : (c : ℕ) → 0 < c → ◌≡◌ {A = ℕ} (cond (is_zero (c - 1)) 1 0) (cond (c == 1) 1 0)
last_zero c pos = elim (eqb_tells c 1) as (λ _. ◌≡◌ {A = ℕ} (cond (is_zero (c - 1)) 1 0) (cond (c == 1) 1 0)) [
  | inl t ↦ rw (t.0, eq-eqb (c - 1) 0 (omega (arith, t.1)))
  | inr t ↦ rw (t.0, ne_eqb (c - 1) 0 (omega (arith, t.1)))
]

-- nothing that others know of f changes where this seat holds it
pub others_count : (words counts : List ℕ) (f c total : ℕ) → ((n : ℕ) → n ≤ total → 0 < n → n ≡ slice_index counts f → ⊥)
    → (k : Hold) → k.references ≤ total → FrameAgrees words counts f k → FrameAgrees words (slice_set counts f c) f k
others_count words counts f c total p k le a = record {
  known = a.known;
  sole = λ s. absurd (p k.references le (a.sole s).0 (a.sole s).1);
  bare = a.bare;
}

module _ (words counts : List ℕ) (free : ℕ) (v : View) (vs : List View) (f : ℕ) (r : PlainInvariant words counts free (v ∷ vs)) where
  mine : FrameAgrees words counts f (hold_of v f)
  mine = r.agrees.0 f

  pub invariant-store : (i w : ℕ) → i < 512 → IsSole v f → PlainInvariant (slice_set words (512 * f + i) w) counts free (with_word f i w v ∷ vs)
  invariant-store i w low sole =
      let m = mine.sole sole in
      let total = r.counted f in
      let lt = in_counts counts f (omega arith) in
      let inside : 512 * f + i < length words = omega (arith, r.sized) in
      let ws : map.FinMap nat_cmp ℕ = (hold_of v f).words in
      let h : Hold = record (hold_of v f) { words = map.insert ws i w } in
      let words' : List ℕ = slice_set words (512 * f + i) w in
      let o : Outside f words counts words' counts = record {
        page = λ g j ne jlow. get_or-set_other words (512 * f + i) (512 * g + j) w 0 (λ e. ne (omega arith));
        count = λ g ne. refl;
      } in
      step words counts words' counts f o free free v (with_word f i w v) vs h r (changed f h v) (length-set words (512 * f + i) w) refl total r.balanced
      record {
        known = λ j x e. elim (eqb_tells j i) as (λ _. (j < 512) × (slice_index words' (512 * f + j) ≡ x)) [
          | inl t ↦ let at : map.get (map.insert ws i w) j ≡ Some w = map.get-insert nat_cmp_total ws i w j ∙ ap (λ b. cond b (Some w) (map.get ws j)) (unsigned_tied j i ∙ t.0) in
              let same : x ≡ w = cc in
              (omega arith, subst (λ k. slice_index words' (512 * f + k) ≡ x) (sym t.1) (get_or-set_same words (512 * f + i) w 0 inside ∙ sym same))
          | inr t ↦ let at : map.get (map.insert ws i w) j ≡ map.get ws j = map.get-insert nat_cmp_total ws i w j ∙ ap (λ b. cond b (Some w) (map.get ws j)) (unsigned_tied j i ∙ t.0) in
              let k = mine.known j x (sym at ∙ e) in
              (k.0, get_or-set_other words (512 * f + i) (512 * f + j) w 0 (λ q. t.1 (omega arith)) ∙ k.1)
        ];
        sole = mine.sole;
        bare = λ none. absurd (omega arith);
      }
      (λ k le a. nothing_held words counts words' counts f k (omega arith) a)

  -- a frame that the seat is the sole holder of has words
  pub sole_room : IsSole v f → 512 * f + 512 ≤ length words
  sole_room sole =
      let m = mine.sole sole in
      let total = r.counted f in
      let lt = in_counts counts f (omega arith) in
      omega (arith, r.sized)

  -- and so has a held one
  pub held_room : IsHeld v f → 512 * f + 512 ≤ length words
  held_room held =
      let total = r.counted f in
      let lt = in_counts counts f (omega arith) in
      omega (arith, r.sized)

  -- a word that is known is there
  pub known_there : (i w : ℕ) → known_word v f i ≡ Some w → slice_index words (512 * f + i) ≡ w
  known_there i w is = (mine.known i w is).1

  -- many words of the frame, and no others
  pub invariant-many : (first n : ℕ) (word : ℕ → ℕ) (words' : List ℕ) → first + n ≤ 512 → IsSole v f → length words' ≡ length words
      → ((q : ℕ) → first ≤ q → q < first + n → slice_index words' (512 * f + q) ≡ word q)
      → ((p : ℕ) → (512 * f + first ≤ p → p < 512 * f + (first + n) → ⊥) → slice_index words' p ≡ slice_index words p)
      → PlainInvariant words' counts free (with_many f first n word v ∷ vs)
  invariant-many first n word words' low sole same_length inside outside =
      let m = mine.sole sole in
      let total = r.counted f in
      let ws : map.FinMap nat_cmp ℕ = (hold_of v f).words in
      let h : Hold = record (hold_of v f) { words = put_many first n word ws } in
      let o : Outside f words counts words' counts = record {
        page = λ g j ne jlow. outside (512 * g + j) (λ a b. ne (omega arith));
        count = λ g ne. refl;
      } in
      step words counts words' counts f o free free v (with_many f first n word v) vs h r (changed f h v) same_length refl total r.balanced
      record {
        known = λ j x e. elim (within_tells first n j) as (λ _. (j < 512) × (slice_index words' (512 * f + j) ≡ x)) [
          | inl t ↦ (omega (arith, t), inside j t.0 t.1 ∙ same_Some _ x (sym (put_inside first word ws n j t.0 t.1) ∙ e))
          | inr t ↦ let k = mine.known j x (sym (put_outside first word ws n j t) ∙ e) in
              (k.0, outside (512 * f + j) (λ a b. t (omega arith) (omega arith)) ∙ k.1)
        ];
        sole = mine.sole;
        bare = λ none. absurd (omega arith);
      }
      (λ k le a. nothing_held words counts words' counts f k (omega arith) a)

  pub invariant-look : (c : ℕ) → c ≡ slice_index counts f → IsHeld v f → PlainInvariant words counts free (looked f c v ∷ vs)
  invariant-look c is held =
      let h : Hold = record (hold_of v f) { sole = cond (c == 1) true (hold_of v f).sole } in
      let total = r.counted f in
      step words counts words counts f (same_outside f words counts) free free v (looked f c v) vs h r
      record { here = hold_of-with_hold_same f h record v { tallies = (looked f c v).tallies }; apart = λ g ne. hold_of-with_hold_other f h record v { tallies = (looked f c v).tallies } g ne ∙ hold_of-frames _ _ refl g; size = refl }
      refl refl total r.balanced
      record {
        known = mine.known;
        sole = elim (eqb_tells c 1) as (λ _. IsTrue (cond (c == 1) true (hold_of v f).sole) → (0 < references v f) × (references v f ≡ slice_index counts f)) [
          | inl t ↦ λ s. (held, omega arith)
          | inr t ↦ λ s. mine.sole (subst (λ b. IsTrue (cond b true (hold_of v f).sole)) t.0 s)
        ];
        bare = λ none. absurd (omega arith);
      }
      (λ k le a. a)

-- the tallies change and no frame does
pub tallied : (words counts : List ℕ) (free free' : ℕ) (v w : View) (vs : List View) → w.frames ≡ v.frames → w.size ≡ v.size → free' + w.credits ≡ free + v.credits
    → PlainInvariant words counts free (v ∷ vs) → PlainInvariant words counts free' (w ∷ vs)
tallied words counts free free' v w vs e as_many same r = record {
  few = r.few;
  sized = r.sized;
  counted = λ g. ap (λ (k : Hold). k.references + total_references g vs) (hold_of-frames w v e g) ∙ r.counted g;
  balanced = omega (arith, r.balanced);
  sizes = (as_many ∙ r.sizes.0, r.sizes.1);
  agrees = ((λ g. subst (λ k. FrameAgrees words counts g k) (sym (hold_of-frames w v e g)) (r.agrees.0 g)), r.agrees.1);
}

module _ (words counts : List ℕ) (free : ℕ) (v : View) (vs : List View) (f : ℕ) (r : PlainInvariant words counts free (v ∷ vs)) where
  pub invariant-share : IsHeld v f → PlainInvariant words (slice_set counts f (slice_index counts f + 1)) free (shared f v ∷ vs)
  invariant-share held =
      let h : Hold = record (hold_of v f) { references = references v f + 1 } in
      let total = r.counted f in
      let lt = in_counts counts f (omega arith) in
      let m = r.agrees.0 f in
      let set = get_or-set_same counts f (slice_index counts f + 1) 0 lt in
      let z = zeros-set counts f (slice_index counts f + 1) lt in
      step words counts words (slice_set counts f (slice_index counts f + 1)) f (count_outside f words counts _) free free v (shared f v) vs h r (changed f h v)
      refl (length-set counts f _) (omega (arith, set))
      (held_zeros counts f (slice_index counts f + 1) lt (omega arith) (omega arith) ∙ r.balanced)
      record {
        known = m.known;
        sole = λ s. (omega arith, omega (arith, set, (m.sole s).1));
        bare = λ none. absurd (omega arith);
      }
      (others_count words counts f _ (total_references f vs) (λ n le pos e. omega arith))

  pub invariant-claim : f < length counts → slice_index counts f ≡ 0 → 0 < v.credits → PlainInvariant words (slice_set counts f 1) free (claimed f v ∷ vs)
  invariant-claim lt none credit =
      let h : Hold = record { references = 1; sole = true; words = map.empty } in
      let u : View = record v { credits = v.credits - 1; tallies = spent 1 v.tallies } in
      let total = r.counted f in
      let set = get_or-set_same counts f 1 0 lt in
      let z = zeros-set counts f 1 lt in
      let z2 = rw (eq-eqb (slice_index counts f) 0 none) at z in
      step words counts words (slice_set counts f 1) f (count_outside f words counts _) free free v (claimed f v) vs h r
      record { here = hold_of-with_hold_same f h u; apart = λ g ne. hold_of-with_hold_other f h u g ne ∙ hold_of-frames u v refl g; size = refl }
      refl (length-set counts f _) (omega (arith, set))
      (omega (arith, z2, r.balanced))
      record {
        known = λ i w e. let n = map.get-empty {X = ℕ} nat_cmp i in absurd (cc);
        sole = λ s. (omega arith, sym set);
        bare = λ none. absurd (omega arith);
      }
      (others_count words counts f _ (total_references f vs) (λ n le pos e. omega arith))

  pub unheld : slice_index counts f ≡ 0 → references v f ≡ 0
  unheld none = let total = r.counted f in omega arith

  -- the count after a reference is let go
  pub invariant-release : IsHeld v f → (free' : ℕ) → free' ≡ free + cond (slice_index counts f == 1) 1 0
      → PlainInvariant words (slice_set counts f (slice_index counts f - 1)) free' (released f v ∷ vs)
  invariant-release held free' is =
      let c : ℕ = slice_index counts f in
      let total = r.counted f in
      let lt = in_counts counts f (omega arith) in
      let m = r.agrees.0 f in
      let set = get_or-set_same counts f (slice_index counts f - 1) 0 lt in
      let z = zeros-set counts f (slice_index counts f - 1) lt in
      let w : ℕ = cond (is_zero (slice_index counts f - 1)) 1 0 in
      let z2 = rw (ne_eqb (slice_index counts f) 0 (omega arith)) at z in
      let same = last_zero (slice_index counts f) (omega arith) in
      let less : Hold = record (hold_of v f) { references = references v f - 1 } in
      let W : View → Type 0 = λ u. PlainInvariant words (slice_set counts f (slice_index counts f - 1)) free' (u ∷ vs) in
      elim (eqb_tells (references v f) 1) as (λ _. W (released f v)) [
        | inl t ↦ rw t.0 (step words counts words (slice_set counts f (slice_index counts f - 1)) f (count_outside f words counts _) free free' v (without_hold f v) vs not_held r
            (removed f v)
            refl (length-set counts f _) (omega (arith, set)) (omega (arith, z2, same, r.balanced))
            (not_held_agrees words (slice_set counts f (slice_index counts f - 1)) f)
            (others_count words counts f _ (total_references f vs) (λ n le pos e. omega arith)))
        | inr t ↦ rw t.0 (step words counts words (slice_set counts f (slice_index counts f - 1)) f (count_outside f words counts _) free free' v (with_hold f less v) vs less r (changed f less v)
            refl (length-set counts f _) (omega (arith, set)) (omega (arith, z2, same, r.balanced))
            record {
              known = m.known;
              sole = λ s. let k = m.sole s in (omega (arith, t.1), omega (arith, set, k.1));
              bare = λ none. absurd (omega (arith, t.1));
            }
            (others_count words counts f _ (total_references f vs) (λ n le pos e. omega arith)))
      ]

-- a replicated 0 is 0 everywhere
pub zero_at : (n f : ℕ) → slice_index (replicate n 0) f ≡ 0
zero_at n f = elim (cases_lt f n) as (λ _. slice_index (replicate n 0) f ≡ 0) [
  | inl lt ↦ get_or-replicate n f 0 0 lt
  | inr ge ↦ get_or_past (replicate n 0) f 0 (rw length-replicate ge)
]

pub invariant-bare : (n : ℕ) → n ≤ 1024 → PlainInvariant (replicate (512 * n) 0) (replicate n 0) n (empty_view n ∷ [])
invariant-bare n few = record {
  few = rw length-replicate few;
  sized = rw (length-replicate, length-replicate) refl;
  counted = λ g. ap (λ (k : Hold). k.references + 0) (hold_of-empty n g) ∙ sym (zero_at n g);
  balanced = omega (arith, sum_by-replicate (λ x. cond (is_zero x) 1 0) n 0);
  sizes = (sym (length-replicate {A = ℕ} n 0), tt);
  agrees = ((λ g. subst (λ k. FrameAgrees (replicate (512 * n) 0) (replicate n 0) g k) (sym (hold_of-empty n g)) (not_held_agrees _ _ g)), tt);
}

pub invariant-open : (n : ℕ) → 0 < n → n ≤ 1024 → PlainInvariant (replicate (512 * n) 0) (slice_set (replicate n 0) 0 1) (n - 1) (opening_view n ∷ [])
invariant-open n some few =
    let W : List ℕ = replicate (512 * n) 0 in
    let C : List ℕ = replicate n 0 in
    let v : View = record (empty_view n) { credits = 1 } in
    let one : PlainInvariant W C (n - 1) (v ∷ []) = tallied W C n (n - 1) (empty_view n) v [] refl refl (omega arith) (invariant-bare n few) in
    let two : PlainInvariant W (slice_set C 0 1) (n - 1) (claimed 0 v ∷ []) = invariant-claim W C (n - 1) v [] 0 one (rw length-replicate some) (zero_at n 0) (lit< tt) in
    tallied W (slice_set C 0 1) (n - 1) (n - 1) (claimed 0 v) (opening_view n) [] refl refl refl two
