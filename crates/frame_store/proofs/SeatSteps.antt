-- Lemmas for `opened_seat`: if frame 0 is shared and the new reference split off, the split is allowed, the two views are
-- `opener` and `opened`, and each of the two seats holds frame 0 if it holds any frame; a refused share leaves frame 0
-- held.
use Rattle.std.proofs.Common.{◌≡◌, ℕ, ◌+◌, ◌-◌, ◌<◌, ◌==◌, false, cond, [], ◌∷◌, ap, refl, sym, subst, ◌∙◌, arith}
use Rattle.std.proofs.lemmas.Bool.{ne_eqb}
use Rattle.frame_store.specs.View.{View, Hold, hold_of, IsHeld, read_full, with_hold, without_hold, shared, split_off, empty_view, references, CanSplit}
use Rattle.frame_store.specs.Holds.{hold_of-with_hold_same, hold_of-empty, hold_of-frames, with_hold-with_hold}
use Rattle.frame_store.specs.Laws.{IsAnchored}
use Rattle.frame_store.specs.SeatOpening.{opener, opened, opener_held, opened_held}

-- one more reference
abbrev one_more : Hold → Hold
one_more h = record h { references = h.references + 1 }

left_of : (h : Hold) (w : View) → 0 < h.references
    → cond (h.references + 1 == 1) (without_hold 0 w) (with_hold 0 record { references = h.references + 1 - 1; sole = false; words = h.words } w) ≡ with_hold 0 (record h { sole = false }) w
left_of h w some =
    let back : h.references + 1 - 1 ≡ h.references = omega arith in
    rw (ne_eqb (h.references + 1) 1 (λ e. omega arith)) (ap (λ n. with_hold 0 record { references = n; sole = false; words = h.words } w) back)

right_of : (size : ℕ) (h k : Hold) → 0 < h.references → k.references ≡ 0
    → with_hold 0 record { references = k.references + 1; sole = cond (h.references + 1 == 1) h.sole false; words = h.words } (empty_view size) ≡ with_hold 0 record { references = 1; sole = false; words = h.words } (empty_view size)
right_of size h k some none =
    let one : k.references + 1 ≡ 1 = omega arith in
    rw (ne_eqb (h.references + 1) 1 (λ e. omega arith)) (ap (λ n. with_hold 0 record { references = n; sole = false; words = h.words } (empty_view size)) one)

-- a refused share leaves frame 0 held
pub full_held : (v w : View) → w ≡ read_full v → IsHeld v 0 → IsHeld w 0
full_held v w is held = subst (λ (h : Hold). 0 < h.references) (sym (ap (λ u. hold_of u 0) is ∙ hold_of-frames (read_full v) v refl 0)) held

module _ (v w : View) (held : IsHeld v 0) (is : w ≡ shared 0 v) where
  hold_now : hold_of w 0 ≡ one_more (hold_of v 0)
  hold_now = ap (λ u. hold_of u 0) is ∙ hold_of-with_hold_same 0 (one_more (hold_of v 0)) v

  -- the seat that opens the other
  pub split_left : (split_off (0 ∷ []) w (empty_view w.size)).0 ≡ opener v
  split_left =
      ap (λ (h : Hold). cond (h.references == 1) (without_hold 0 w) (with_hold 0 record { references = h.references - 1; sole = false; words = h.words } w)) hold_now
      ∙ left_of (hold_of v 0) w held
      ∙ ap (with_hold 0 (record (hold_of v 0) { sole = false })) is
      ∙ with_hold-with_hold 0 (record (hold_of v 0) { sole = false }) (one_more (hold_of v 0)) v

  -- the other
  pub split_right : (split_off (0 ∷ []) w (empty_view w.size)).1 ≡ opened v
  split_right =
      ap (λ (h : Hold). with_hold 0 record { references = references (empty_view w.size) 0 + 1; sole = cond (h.references == 1) h.sole false; words = h.words } (empty_view w.size)) hold_now
      ∙ right_of w.size (hold_of v 0) (hold_of (empty_view w.size) 0) held (ap (λ (h : Hold). h.references) (hold_of-empty w.size 0))
      ∙ ap (λ (u : View). with_hold 0 record { references = 1; sole = false; words = (hold_of v 0).words } (empty_view u.size)) is

  pub can_split : CanSplit (0 ∷ []) w
  can_split = (subst (λ (h : Hold). 0 < h.references) (sym hold_now) (omega arith), tt)

  pub left_anchored : IsAnchored (split_off (0 ∷ []) w (empty_view w.size)).0
  left_anchored = λ f _. subst (λ u. IsHeld u 0) (sym split_left) (opener_held v held)

  pub right_anchored : IsAnchored (split_off (0 ∷ []) w (empty_view w.size)).1
  right_anchored = λ f _. subst (λ u. IsHeld u 0) (sym split_right) (opened_held v)
