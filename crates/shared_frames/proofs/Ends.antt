-- Lemmas: a new table of shared frames, with its first seat, meets the invariant (`begins`); what is read as it is closed
-- are its totals (`totals`); if the closing seat has all references to frame 0, the frames of count 0 and those that it
-- holds are all frames (`final`); if it also has a credit for each frame of count 0, no other seat has anything
-- (`last_totals`).
use Rattle.std.proofs.Common.{◌≡◌, ◌≢◌, inl, inr, ℕ, zero, suc, ◌+◌, ◌-◌, ◌*◌, ◌<◌, ◌≤◌, List, [], ◌∷◌, length, get_or, set, replicate, refl, sym, ap, ◌∙◌, subst, arith, get_or-set_same, get_or-set_other, length-set, lit<}
use Rattle.std.proofs.lemmas.Bool.Decides.{eqb_tells}
use Rattle.std.proofs.lemmas.List.{get_or-replicate}
use Rattle.std.specs.FinMap as map
use Rattle.std.specs.Ordering.{nat_cmp}
use mathlib.Core.Option.{some, some-ne-none, some-injective}
use lib.ListN.{get_elem?, length-replicate}
use Rattle.atomic_table.specs.Table.{Final, Seen}
use Rattle.frame_store.specs.View.{View, Hold, hold_of, not_held, sole_hold, references, IsHeld, IsSole, empty_view, opening_view}
use Rattle.frame_store.specs.Holds.{hold_of-with_hold_same, hold_of-with_hold_other, hold_of-empty}
use Rattle.shared_frames.specs.Invariant.{count_at, all_references, one_at_zero, zero_counts, FrameAgrees, ViewAgrees, IsSharedInvariant, Kept}
use Rattle.shared_frames.specs.Totals.{AreTotals, AreLastTotals, first_words, held_frames}
use Rattle.shared_frames.specs.SeatsOfTable.{FrameFits, IsWithin}
use Rattle.shared_frames.proofs.Sums.{total-one, total-two, total-lone}
use Rattle.shared_frames.proofs.Zeros.{one_at_zero-le}
use Rattle.shared_frames.proofs.Changes.{not_held_agrees}
use Rattle.shared_frames.proofs.Within.{not_held_fits}

-- ---- the first seat
first_here : (size : ℕ) → hold_of (opening_view size) 0 ≡ sole_hold
first_here size = hold_of-with_hold_same 0 sole_hold (empty_view size)

first_apart : (size f : ℕ) → f ≢ 0 → hold_of (opening_view size) f ≡ not_held
first_apart size f ne = hold_of-with_hold_other 0 sole_hold (empty_view size) f ne ∙ hold_of-empty size f

first_held : (size f : ℕ) → IsHeld (opening_view size) f → f ≡ 0
first_held size f h = elim (eqb_tells f 0) as (λ _. f ≡ 0) [ inl e ↦ e.1 | inr e ↦ absurd (let o = ap (λ (z : Hold). z.references) (first_apart size f e.1) in omega (arith, o, h)) ]

base_held : (size : ℕ) → IsHeld (opening_view size) 0
base_held size = subst (λ (z : Hold). 0 < z.references) (sym (first_here size)) (lit< tt)

pub within-opening : (words size : ℕ) → 513 < words → IsWithin words (opening_view size)
within-opening words size l f = elim (eqb_tells f 0) as (λ _. FrameFits words f (hold_of (opening_view size) f)) [
  | inl e ↦ subst (λ m. FrameFits words m (hold_of (opening_view size) m)) (sym e.1) (subst (FrameFits words 0) (sym (first_here size)) ((λ _. l), (λ _. lit< tt)))
  | inr e ↦ subst (FrameFits words f) (sym (first_apart size f e.1)) (not_held_fits words f)
]

sole_agrees : (words : List ℕ) (f : ℕ) → FrameAgrees words f 1 sole_hold
sole_agrees words f = record {
  known = λ i w e. let n = map.get-empty {X = ℕ} nat_cmp i in absurd (cc);
  sole = λ _. (lit< tt, refl);
  bare = λ q. absurd (omega arith);
}

module _ (n : ℕ) (some_frame : 1 ≤ n) (few : n ≤ 256) where
  -- how many words there are
  pub wide : length (first_words n) ≡ 513 * n + 1
  wide = length-set (set (replicate (513 * n + 1) 0) 0 (n - 1)) 1 1 ∙ (length-set (replicate (513 * n + 1) 0) 0 (n - 1) ∙ length-replicate (513 * n + 1) 0)

  at_zero : get_or (first_words n) 0 0 ≡ n - 1
  at_zero = get_or-set_other (set (replicate (513 * n + 1) 0) 0 (n - 1)) 1 0 1 0 (λ e. omega arith)
      ∙ get_or-set_same (replicate (513 * n + 1) 0) 0 (n - 1) 0 (let l = length-replicate {A = ℕ} (513 * n + 1) 0 in omega (arith, l))

  at_one : get_or (first_words n) 1 0 ≡ 1
  at_one = get_or-set_same (set (replicate (513 * n + 1) 0) 0 (n - 1)) 1 1 0 (let l = length-replicate {A = ℕ} (513 * n + 1) 0 in let s = length-set (replicate (513 * n + 1) 0) 0 (n - 1) in omega (arith, l, s))

  at_more : (i : ℕ) → 1 < i → i < 513 * n + 1 → get_or (first_words n) i 0 ≡ 0
  at_more i more l = get_or-set_other (set (replicate (513 * n + 1) 0) 0 (n - 1)) 1 i 1 0 (λ e. omega arith)
      ∙ (get_or-set_other (replicate (513 * n + 1) 0) 0 i (n - 1) 0 (λ e. omega arith) ∙ get_or-replicate (513 * n + 1) i 0 0 l)

  count : (f : ℕ) → f < n → get_or (first_words n) (count_at f) 0 ≡ references (opening_view n) f
  count f l = elim (eqb_tells f 0) as (λ _. get_or (first_words n) (count_at f) 0 ≡ references (opening_view n) f) [
    | inl e ↦ subst (λ m. get_or (first_words n) (count_at m) 0 ≡ references (opening_view n) m) (sym e.1) (at_one ∙ sym (ap (λ (z : Hold). z.references) (first_here n)))
    | inr e ↦ let ne : f ≢ 0 = e.1 in at_more (count_at f) (omega (arith, ne)) (omega (arith, l)) ∙ sym (ap (λ (z : Hold). z.references) (first_apart n f e.1))
  ]

  free : (m : ℕ) → m < n → zero_counts (first_words n) (suc m) ≡ m
  free zero l = let b = ap one_at_zero at_one in omega (arith, b)
  free (suc m) l = let r = free m (omega arith) in let b = ap one_at_zero (at_more (count_at (suc m)) (omega arith) (omega arith)) in omega (arith, r, b)

  small : (f : ℕ) → references (opening_view n) f ≤ 1
  small f = elim (eqb_tells f 0) as (λ _. references (opening_view n) f ≤ 1) [
    | inl e ↦ subst (λ m. references (opening_view n) m ≤ 1) (sym e.1) (let o = ap (λ (z : Hold). z.references) (first_here n) in omega (arith, o))
    | inr e ↦ let o = ap (λ (z : Hold). z.references) (first_apart n f e.1) in omega (arith, o)
  ]

  lone : (P : View → Type 0) → P (opening_view n) → (id : ℕ) (v : View) → get_elem? (opening_view n ∷ []) id ≡ some v → P v
  lone P p zero v e = subst P (some-injective (opening_view n) v e) p
  lone P p (suc id) v e = absurd (some-ne-none v (sym e))

  agreed : (f : ℕ) → FrameAgrees (first_words n) f (all_references f (opening_view n ∷ [])) (hold_of (opening_view n) f)
  agreed f = elim (eqb_tells f 0) as (λ _. FrameAgrees (first_words n) f (all_references f (opening_view n ∷ [])) (hold_of (opening_view n) f)) [
    | inl e ↦ subst (λ m. FrameAgrees (first_words n) m (all_references m (opening_view n ∷ [])) (hold_of (opening_view n) m)) (sym e.1)
        (subst (λ (h : Hold). FrameAgrees (first_words n) 0 (h.references + 0) h) (sym (first_here n)) (sole_agrees (first_words n) 0))
    | inr e ↦ subst (FrameAgrees (first_words n) f (all_references f (opening_view n ∷ []))) (sym (first_apart n f e.1)) (not_held_agrees (first_words n) f _)
  ]

  -- the rule holds at the start
  pub begins : IsSharedInvariant n (first_words n) (opening_view n ∷ [])
  begins = record {
    narrow = few;
    wide = wide;
    counted = λ f l. let c = count f l in omega (arith, c);
    few = λ f l. let s = small f in omega (arith, s);
    balanced = let z = at_zero in let b = free (n - 1) (omega arith) in let s : suc (n - 1) ≡ n = omega arith in let c = ap (zero_counts (first_words n)) s in omega (arith, z, b, c);
    agrees = lone (ViewAgrees n (first_words n) (λ f. all_references f (opening_view n ∷ []))) record {
      within = λ f h. let z = first_held n f h in omega (arith, z);
      anchored = λ f h. base_held n;
      frames = agreed;
    };
  }

-- ---- the end
module _ (n : ℕ) (words : List ℕ) (views : List View) (k : IsSharedInvariant n words views) (id : ℕ) (v : View) (at : get_elem? views id ≡ some v) (own : get_or words 1 0 ≡ references v 0) where
  -- no other seat has a reference of frame 0, so that none has any
  none : (f j : ℕ) (u : View) → j ≢ id → get_elem? views j ≡ some u → references u f ≡ 0
  none f j u ne e = elim (eqb_tells (references u f) 0) as (λ _. references u f ≡ 0) [
    | inl z ↦ z.1
    | inr z ↦ absurd (
        let more : references u f ≢ 0 = z.1 in
        let h = (k.agrees j u e).anchored f (omega (arith, more)) in
        let two = total-two (λ x. references x 0) views j id u v ne e at in
        let l = (k.agrees j u e).within 0 h in
        let c = k.counted 0 l in omega (arith, h, two, c, own))
  ]

  alone : (f : ℕ) → all_references f views ≡ references v f
  alone f = total-lone (λ u. references u f) views id v at (λ j u ne e. none f j u ne e)

  ends : (m : ℕ) → m ≤ n → zero_counts words m + held_frames m v ≡ m
  ends zero l = omega arith
  ends (suc m) l =
      let r = ends m (omega arith) in
      let b : one_at_zero (get_or words (count_at m) 0) ≡ one_at_zero (references v m) = ap one_at_zero (k.counted m (omega arith) ∙ alone m) in
      let s = one_at_zero-le (references v m) in omega (arith, r, b, s)

  -- nor has another a credit, if the closing seat has one for each frame that it does not hold
  module _ (full : n ≤ held_frames n v + v.credits) where
    no_credit : (j : ℕ) (u : View) → j ≢ id → get_elem? views j ≡ some u → u.credits ≡ 0
    no_credit j u ne e =
        let two = total-two (λ x. x.credits) views j id u v ne e at in
        omega (arith, two, k.balanced, ends n (omega arith), full)

    all_credit : zero_counts words n ≡ v.credits
    all_credit =
        let one = total-one (λ x. x.credits) views id v at in
        omega (arith, one, k.balanced, ends n (omega arith), full)

-- a sole holder of frame 0 has all references to it
sole_count : (n : ℕ) (words : List ℕ) (views : List View) → IsSharedInvariant n words views → (id : ℕ) (v : View) → get_elem? views id ≡ some v → IsSole v 0 → get_or words 1 0 ≡ references v 0
sole_count n words views k id v at sole =
    let agreed = k.agrees id v at in
    let h = (agreed.frames 0).sole sole in
    k.counted 0 (agreed.within 0 h.0) ∙ h.1

-- the closing seat has all frames
pub last_totals : (n : ℕ) (v : View) (free trampoline : ℕ) → AreTotals n v free trampoline → IsSole v 0 → n ≤ held_frames n v + v.credits → AreLastTotals n v free trampoline
last_totals n v free trampoline t sole full =
    let own : get_or t.words 1 0 ≡ references v 0 = sole_count n t.words t.views t.kept t.seated.0 v t.seated.1 sole in record {
      totals = t;
      others = λ j u ne e. ((λ f. none n t.words t.views t.kept t.seated.0 v t.seated.1 own f j u ne e), no_credit n t.words t.views t.kept t.seated.0 v t.seated.1 own full j u ne e);
      reserved = t.unheld ∙ all_credit n t.words t.views t.kept t.seated.0 v t.seated.1 own full;
      own = t.base ∙ own;
    }

pub final : (n : ℕ) (ws : List ℕ) (xs : List (Unit {0})) (id : ℕ) (v : View) → Final (Seen (Kept n) id v) ws xs → get_or ws 1 0 ≡ references v 0 → zero_counts ws n + held_frames n v ≡ n
final n ws xs id v last own = let s = last.0 in let h = last.1 in let is = last.2 in
    subst (λ (w : List ℕ). zero_counts w n + held_frames n v ≡ n) is (ends n s.words s.views h.0 id v h.1 (ap (λ (w : List ℕ). get_or w 1 0) is ∙ own) n (omega arith))

-- what is read of the last words are the totals, where the closing seat has the view v
pub totals : (n : ℕ) (ws : List ℕ) (xs : List (Unit {0})) (id : ℕ) (v : View) (free trampoline : ℕ)
    → Final (Seen (Kept n) id v) ws xs → free ≡ zero_counts ws n → get_or ws 1 0 ≡ trampoline → AreTotals n v free trampoline
totals n ws xs id v free trampoline last counted read = let s = last.0 in let h = last.1 in let is = last.2 in record {
  words = s.words;
  views = s.views;
  kept = h.0;
  seated = (id, h.1);
  unheld = counted ∙ sym (ap (λ (w : List ℕ). zero_counts w n) is);
  base = sym read ∙ sym (ap (λ (w : List ℕ). get_or w 1 0) is);
}

pub at_get : (l : List ℕ) (i a : ℕ) → get_elem? l i ≡ some a → get_or l i 0 ≡ a
at_get [] i a e = absurd (some-ne-none a (sym e))
at_get (x ∷ xs) zero a e = some-injective x a e
at_get (x ∷ xs) (suc i) a e = at_get xs i a e

pub zero_counts-next : (ws : List ℕ) (f x : ℕ) → get_elem? ws (513 * f + 1) ≡ some x → zero_counts ws (f + 1) ≡ one_at_zero x + zero_counts ws f
zero_counts-next ws f x e = let s : f + 1 ≡ suc f = omega arith in ap (zero_counts ws) s ∙ ap (λ (y : ℕ). one_at_zero y + zero_counts ws f) (at_get ws (513 * f + 1) x e)
