-- Lemmas: the list of unused frames (`ListsUnused`: each frame of count 0 exactly once) is right at first, with all
-- frames but frame 0, and stays right as its last frame is taken, as a frame is appended whose count becomes 0, and as a
-- count stays above 0. While a frame has a count above 0, the list has fewer than 1,024 frames.
use Rattle.std.proofs.Common.{◌≡◌, ◌≢◌, ℕ, ◌+◌, ◌*◌, ◌<◌, ◌≤◌, cond, refl, ap, sym, subst, ◌∙◌, List, [], ◌∷◌, ◌++◌, ◌⊎◌, inl, inr, length, slice_index, arith}
use Rattle.std.specs.Prelude.{slice_set, count_by, replicate}
use Rattle.std.proofs.lemmas.Bool.{cases_lt, ne_eqb, eq-eqb}
use Rattle.std.proofs.lemmas.List.{get_or-set_same, get_or-set_other, length-set, length-append, get_or_append_left, length-replicate}
use Rattle.std.proofs.Math.Seq.{get_or-append_seam}
use Rattle.std.proofs.lemmas.List.Sums.{count_by-le-length}
use Rattle.std.proofs.lemmas.List.Folds.{sum_by-replicate}
use Rattle.frame_store.specs.Plain.{ListsUnused, is_zero}
use Rattle.frame_store.proofs.PlainSteps.{zeros-set, held_zeros, zero_at}

-- the last of the list is taken, and its count is no longer 0
pub one_taken : (us counts : List ℕ) (f c : ℕ) → c ≢ 0 → ListsUnused (us ++ f ∷ []) counts → ListsUnused us (slice_set counts f c)
one_taken us counts f c is l =
    let long : length (us ++ f ∷ []) ≡ length us + 1 = length-append us (f ∷ []) in
    let last : slice_index (us ++ f ∷ []) (length us) ≡ f = get_or-append_seam us f [] 0 in
    let at : (i : ℕ) → i < length us → slice_index (us ++ f ∷ []) i ≡ slice_index us i = λ i lt. get_or_append_left us (f ∷ []) 0 i lt in
    let inside : f < length counts = subst (λ n. n < length counts) last (l.inside (length us) (omega (arith, long))) in
    let was : slice_index counts f ≡ 0 = ap (λ n. slice_index counts n) (sym last) ∙ l.unused_ones (length us) (omega (arith, long)) in
    let other : (i : ℕ) → i < length us → slice_index us i ≢ f = λ i lt e. l.once i (length us) lt (omega (arith, long)) (at i lt ∙ e ∙ sym last) in
    let z = zeros-set counts f c inside in
    let z2 = rw (eq-eqb (slice_index counts f) 0 was, ne_eqb c 0 is) at z in
    record {
      few = rw (length-set counts f c) l.few;
      inside = λ i lt. rw (length-set counts f c) (subst (λ n. n < length counts) (at i lt) (l.inside i (omega (arith, long))));
      unused_ones = λ i lt. get_or-set_other counts f (slice_index us i) c 0 (other i lt) ∙ ap (λ n. slice_index counts n) (sym (at i lt)) ∙ l.unused_ones i (omega (arith, long));
      once = λ i j lt low e. l.once i j lt (omega (arith, long)) (at i (omega arith) ∙ e ∙ sym (at j low));
      all = omega (arith, z2, long, l.all);
    }

-- the last of the list is a frame of count 0
pub last_unused : (us counts : List ℕ) (f : ℕ) → ListsUnused (us ++ f ∷ []) counts → (f < length counts) × (slice_index counts f ≡ 0)
last_unused us counts f l =
    let long : length (us ++ f ∷ []) ≡ length us + 1 = length-append us (f ∷ []) in
    let last : slice_index (us ++ f ∷ []) (length us) ≡ f = get_or-append_seam us f [] 0 in
    (subst (λ n. n < length counts) last (l.inside (length us) (omega (arith, long))), ap (λ n. slice_index counts n) (sym last) ∙ l.unused_ones (length us) (omega (arith, long)))

-- a frame whose count stays above 0 is in no list
pub none_taken : (us counts : List ℕ) (f c : ℕ) → slice_index counts f ≢ 0 → c ≢ 0 → f < length counts → ListsUnused us counts → ListsUnused us (slice_set counts f c)
none_taken us counts f c was is lt l = record {
  few = rw (length-set counts f c) l.few;
  inside = λ i low. rw (length-set counts f c) (l.inside i low);
  unused_ones = λ i low. get_or-set_other counts f (slice_index us i) c 0 (λ e. was (ap (λ n. slice_index counts n) (sym e) ∙ l.unused_ones i low)) ∙ l.unused_ones i low;
  once = l.once;
  all = l.all ∙ sym (held_zeros counts f c lt was is);
}

at_end : (us : List ℕ) (f i : ℕ) → i < length (us ++ f ∷ []) → (i < length us) ⊎ (i ≡ length us)
at_end us f i lt = let long : length (us ++ f ∷ []) ≡ length us + 1 = length-append us (f ∷ []) in elim (cases_lt i (length us)) [ inl low ↦ inl low | inr ge ↦ inr (omega (arith, long)) ]

-- a frame whose count becomes 0 goes last
pub one_back : (us counts : List ℕ) (f : ℕ) → slice_index counts f ≢ 0 → f < length counts → ListsUnused us counts → ListsUnused (us ++ f ∷ []) (slice_set counts f 0)
one_back us counts f was lt l =
    let long : length (us ++ f ∷ []) ≡ length us + 1 = length-append us (f ∷ []) in
    let last : slice_index (us ++ f ∷ []) (length us) ≡ f = get_or-append_seam us f [] 0 in
    let at : (i : ℕ) → i < length us → slice_index (us ++ f ∷ []) i ≡ slice_index us i = λ i low. get_or_append_left us (f ∷ []) 0 i low in
    let other : (i : ℕ) → i < length us → slice_index us i ≢ f = λ i low e. was (ap (λ n. slice_index counts n) (sym e) ∙ l.unused_ones i low) in
    let z = zeros-set counts f 0 lt in
    let z2 = rw (ne_eqb (slice_index counts f) 0 was) at z in
    let C : List ℕ = slice_set counts f 0 in
    record {
      few = rw (length-set counts f 0) l.few;
      inside = λ i low. rw (length-set counts f 0) (elim (at_end us f i low) as (λ _. slice_index (us ++ f ∷ []) i < length counts) [
        | inl k ↦ rw (at i k) (l.inside i k)
        | inr k ↦ rw (k, last) lt
      ]);
      unused_ones = λ i low. elim (at_end us f i low) as (λ _. slice_index C (slice_index (us ++ f ∷ []) i) ≡ 0) [
        | inl k ↦ rw (at i k) (get_or-set_other counts f (slice_index us i) 0 0 (other i k) ∙ l.unused_ones i k)
        | inr k ↦ rw (k, last) (get_or-set_same counts f 0 0 lt)
      ];
      once = λ i j less low e. elim (at_end us f j low) as (λ _. ⊥) [
        | inl k ↦ l.once i j less k (sym (at i (omega arith)) ∙ e ∙ at j k)
        | inr k ↦ other i (omega (arith, k)) (sym (at i (omega (arith, k))) ∙ e ∙ ap (λ n. slice_index (us ++ f ∷ []) n) k ∙ last)
      ];
      all = omega (arith, z2, long, l.all);
    }

-- frames from 1 on, as they are listed at first
pub record ListsFrom (us : List ℕ) (frame : ℕ) : Type 0 where
  pub long : length us + 1 ≡ frame
  pub each : (i : ℕ) → i < length us → slice_index us i ≡ i + 1

pub none_listed : ListsFrom [] 1
none_listed = record { long = refl; each = λ i lt. absurd (omega arith) }

-- all but frame 0
pub all_listed : (us : List ℕ) (frames : ℕ) → 0 < frames → frames ≤ 1024 → ListsFrom us frames → ListsUnused us (slice_set (replicate frames 0) 0 1)
all_listed us frames some few l =
    let C : List ℕ = replicate frames 0 in
    let long : length C ≡ frames = length-replicate frames 0 in
    let first : 0 < length C = rw long some in
    let z = zeros-set C 0 1 first in
    let zero : slice_index C 0 ≡ 0 = zero_at frames 0 in
    let z2 = rw (eq-eqb (slice_index C 0) 0 zero) at z in
    let whole : count_by is_zero C ≡ frames * 1 = sum_by-replicate (λ x. cond (is_zero x) 1 0) frames 0 in
    record {
      few = rw (length-set C 0 1, long) few;
      inside = λ i lt. rw (length-set C 0 1, long, l.each i lt) (omega (arith, l.long));
      unused_ones = λ i lt. rw (l.each i lt) (get_or-set_other C 0 (i + 1) 1 0 (λ e. omega arith) ∙ zero_at frames (i + 1));
      once = λ i j lt low e. let a = l.each i (omega arith) in let b = l.each j low in omega (arith, a, b, e);
      all = omega (arith, z2, whole, l.long);
    }

-- a list that is not full has room
pub room_left : (us counts : List ℕ) (f : ℕ) → slice_index counts f ≢ 0 → f < length counts → ListsUnused us counts → length us < 1024
room_left us counts f was lt l =
    let z = zeros-set counts f 0 lt in
    let z2 = rw (ne_eqb (slice_index counts f) 0 was) at z in
    let most = count_by-le-length is_zero (slice_set counts f 0) in
    omega (arith, z2, most, length-set counts f 0, l.few, l.all)
