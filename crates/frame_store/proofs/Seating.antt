-- Lemmas: the invariant of plain frames (`PlainInvariant`) is kept as one reference moves from one seat to another
-- (`invariant-move`), as a seat is split in two (`invariant-split`), and as two seats are joined (`invariant-join`); in general, as the
-- views of two seats change at one frame and no count changes (`step_two`).
use Rattle.std.proofs.Common.{◌≡◌, ℕ, ◌+◌, ◌-◌, ◌*◌, ◌<◌, ◌≤◌, Bool, true, false, cond, refl, ap, sym, subst, ◌∙◌, Option, None, Some, List, [], ◌∷◌, ◌⊎◌, inl, inr, slice_index, arith}
use Rattle.std.specs.Prelude.{IsTrue, ◌||◌}
use Rattle.std.proofs.lemmas.Bool.Decides.{eqb_tells}
use Rattle.std.specs.FinMap as map
use Rattle.frame_store.specs.View.{View, Hold, hold_of, with_hold, without_hold, not_held, references, IsHeld, added, either, joined, moved_from, moved_to, split_off, CanSplit}
use Rattle.frame_store.specs.Plain.{total_references, FrameAgrees, not_held_agrees, PlainInvariant}
use Rattle.frame_store.specs.ViewJoin.{get-union, hold_of-joined}
use Rattle.frame_store.proofs.PlainSteps.{Changes, changed, own, removed, same_outside}

module _ (words counts : List ℕ) (free : ℕ) where
  -- two views change at the frame f, and no count
  pub step_two : (f : ℕ) (v w v' w' : View) (vs : List View) (h k : Hold) → PlainInvariant words counts free (v ∷ w ∷ vs) → Changes f h v v' → Changes f k w w'
      → h.references + k.references ≡ references v f + references w f → v'.credits + w'.credits ≡ v.credits + w.credits
      → FrameAgrees words counts f h → FrameAgrees words counts f k → PlainInvariant words counts free (v' ∷ w' ∷ vs)
  step_two f v w v' w' vs h k r c d sum credits ah ak = record {
    few = r.few;
    sized = r.sized;
    counted = λ g. elim (eqb_tells g f) as (λ _. references v' g + (references w' g + total_references g vs) ≡ slice_index counts g) [
      | inl e ↦ subst (λ n. references v' n + (references w' n + total_references n vs) ≡ slice_index counts n) (sym e.1)
          (let a = ap (λ (x : Hold). x.references) c.here in let b = ap (λ (x : Hold). x.references) d.here in omega (arith, r.counted f))
      | inr e ↦ let a = ap (λ (x : Hold). x.references) (c.apart g e.1) in let b = ap (λ (x : Hold). x.references) (d.apart g e.1) in omega (arith, r.counted g)
    ];
    balanced = omega (arith, r.balanced);
    sizes = (c.size ∙ r.sizes.0, (d.size ∙ r.sizes.1.0, r.sizes.1.1));
    agrees = (own words counts words counts f (same_outside f words counts) v v' h c ah r.agrees.0, (own words counts words counts f (same_outside f words counts) w w' k d ak r.agrees.1.0, r.agrees.1.1));
  }

  -- one reference goes over
  pub invariant-move : (f : ℕ) (v w : View) (vs : List View) → IsHeld v f → PlainInvariant words counts free (v ∷ w ∷ vs) → PlainInvariant words counts free (moved_from f v ∷ moved_to f (hold_of v f) w ∷ vs)
  invariant-move f v w vs held r =
      let m = r.agrees.0 f in
      let n = r.agrees.1.0 f in
      let total = r.counted f in
      let left : Hold = record { references = references v f - 1; sole = false; words = (hold_of v f).words } in
      let right : Bool → Hold = λ b. record { references = references w f + 1; sole = cond b (hold_of v f).sole false; words = (hold_of v f).words } in
      elim (eqb_tells (references v f) 1) as (λ _. PlainInvariant words counts free (moved_from f v ∷ moved_to f (hold_of v f) w ∷ vs)) [
        | inl t ↦ rw t.0 (step_two f v w (without_hold f v) (with_hold f (right true) w) vs not_held (right true) r
            (removed f v) (changed f (right true) w)
            (omega (arith, t.1)) refl (not_held_agrees words counts f)
            record { known = m.known; sole = λ s. let k = m.sole s in (omega arith, omega (arith, t.1, k.1)); bare = λ none. absurd (omega arith) })
        | inr t ↦ rw t.0 (step_two f v w (with_hold f left v) (with_hold f (right false) w) vs left (right false) r
            (changed f left v) (changed f (right false) w)
            (omega (arith, t.1)) refl
            record { known = m.known; sole = λ s. absurd (cc); bare = λ none. absurd (omega (arith, t.1)) }
            record { known = m.known; sole = λ s. absurd (cc); bare = λ none. absurd (omega arith) })
      ]

  pub invariant-split : (fs : List ℕ) (v w : View) (vs : List View) → CanSplit fs v → PlainInvariant words counts free (v ∷ w ∷ vs) → PlainInvariant words counts free ((split_off fs v w).0 ∷ (split_off fs v w).1 ∷ vs)
  invariant-split [] v w vs can r = r
  invariant-split (f ∷ fs) v w vs can r = invariant-split fs (moved_from f v) (moved_to f (hold_of v f) w) vs can.1 (invariant-move f v w vs can.0 r)

  either_known : (h k : Hold) (f : ℕ) → FrameAgrees words counts f h → FrameAgrees words counts f k → (i w : ℕ) (a : Option ℕ) → map.get h.words i ≡ a → either a (map.get k.words i) ≡ Some w → (i < 512) × (slice_index words (512 * f + i) ≡ w)
  either_known h k f p q i w (Some x) e is = p.known i w (e ∙ is)
  either_known h k f p q i w None e is = q.known i w is

  either_true : (a b : Bool) → IsTrue (a || b) → IsTrue a ⊎ IsTrue b
  either_true true b t = inl refl
  either_true false b t = inr t

  added_agrees : (f : ℕ) (h k : Hold) → h.references + k.references ≤ slice_index counts f → FrameAgrees words counts f h → FrameAgrees words counts f k → FrameAgrees words counts f (added h k)
  added_agrees f h k le p q =
      elim (eqb_tells k.references 0) as (λ _. FrameAgrees words counts f (added h k)) [
        | inl t ↦ rw t.0 p
        | inr t ↦ elim (eqb_tells h.references 0) as (λ _. FrameAgrees words counts f (added h k)) [
          | inl u ↦ rw (t.0, u.0) q
          | inr u ↦ rw (t.0, u.0) record {
            known = λ i w e. either_known h k f p q i w _ refl (sym (get-union h.words k.words i) ∙ e);
            sole = λ s. elim (either_true h.sole k.sole s) as (λ _. (0 < h.references + k.references) × (h.references + k.references ≡ slice_index counts f)) [
              | inl a ↦ let x = p.sole a in absurd (omega (arith, x.1, t.1))
              | inr b ↦ let x = q.sole b in absurd (omega (arith, x.1, u.1))
            ];
            bare = λ none. absurd (omega (arith, t.1));
          }
        ]
      ]

  added_references : (h k : Hold) → (added h k).references ≡ h.references + k.references
  added_references h k =
      elim (eqb_tells k.references 0) as (λ _. (added h k).references ≡ h.references + k.references) [
        | inl t ↦ rw t.0 (omega (arith, t.1))
        | inr t ↦ elim (eqb_tells h.references 0) as (λ _. (added h k).references ≡ h.references + k.references) [
          | inl u ↦ rw (t.0, u.0) (omega (arith, u.1))
          | inr u ↦ rw (t.0, u.0) refl
        ]
      ]

  pub invariant-join : (v w : View) (vs : List View) → PlainInvariant words counts free (v ∷ w ∷ vs) → PlainInvariant words counts free (joined v w ∷ vs)
  invariant-join v w vs r = record {
    few = r.few;
    sized = r.sized;
    counted = λ f. let e = ap (λ (x : Hold). x.references) (hold_of-joined v w f) ∙ added_references (hold_of v f) (hold_of w f) in omega (arith, r.counted f);
    balanced = omega (arith, r.balanced);
    sizes = (r.sizes.0, r.sizes.1.1);
    agrees = ((λ f. subst (λ k. FrameAgrees words counts f k) (sym (hold_of-joined v w f)) (added_agrees f (hold_of v f) (hold_of w f) (omega (arith, r.counted f)) (r.agrees.0 f) (r.agrees.1.0 f))), r.agrees.1.1);
  }
