-- Lemmas on `split_off`: what each of the two seats has of a frame that is listed once, or not at all, after one reference to
-- each listed frame went to the second; credits and tallies; and when it can be done (`can_split`).
use Rattle.std.proofs.Common.{◌≡◌, ℕ, ◌+◌, ◌-◌, ◌<◌, ◌≤◌, cond, true, false, refl, ap, sym, subst, ◌∙◌, inl, inr, List, [], ◌∷◌, arith}
use Rattle.std.specs.Prelude.{◌==◌}
use Rattle.std.proofs.lemmas.Bool.{cases_eq}
use Rattle.frame_store.specs.Holds.{hold_of-with_hold_other, hold_of-with_hold_same, hold_of-without_hold_other, hold_of-without_hold_same}
use Rattle.frame_store.specs.View.{CanSplit, Hold, hold_of, IsHeld, moved_from, moved_to, not_held, references, split_off, View, with_hold, without_hold}
use Rattle.cow_fork.specs.Occurrences.{times}
use Rattle.cow_fork.proofs.Releasing.{times_other, times_same}

-- what is left of a hold, and what goes
abbrev pub left_of : Hold → Hold
left_of h = cond (h.references == 1) not_held record { references = h.references - 1; sole = false; words = h.words }

abbrev pub gone_to : Hold → Hold → Hold
gone_to h k = record { references = k.references + 1; sole = cond (h.references == 1) h.sole false; words = h.words }

module _ (g : ℕ) (v w : View) where
  abbrev less : Hold
  less = record { references = references v g - 1; sole = false; words = (hold_of v g).words }

  from_here : hold_of (moved_from g v) g ≡ left_of (hold_of v g)
  from_here = elim (references v g == 1) as (λ b. hold_of (cond b (without_hold g v) (with_hold g less v)) g ≡ cond b not_held less) [
    | true ↦ hold_of-without_hold_same g v
    | false ↦ hold_of-with_hold_same g less v
  ]

  from_other : (f : ℕ) → (f ≡ g → ⊥) → hold_of (moved_from g v) f ≡ hold_of v f
  from_other f apart = elim (references v g == 1) as (λ b. hold_of (cond b (without_hold g v) (with_hold g less v)) f ≡ hold_of v f) [
    | true ↦ hold_of-without_hold_other g v f apart
    | false ↦ hold_of-with_hold_other g less v f apart
  ]

  from_credits : (moved_from g v).credits ≡ v.credits
  from_credits = elim (references v g == 1) as (λ b. (cond b (without_hold g v) (with_hold g less v)).credits ≡ v.credits) [ true ↦ refl | false ↦ refl ]

  from_tallies : (moved_from g v).tallies ≡ v.tallies
  from_tallies = elim (references v g == 1) as (λ b. (cond b (without_hold g v) (with_hold g less v)).tallies ≡ v.tallies) [ true ↦ refl | false ↦ refl ]

  to_here : hold_of (moved_to g (hold_of v g) w) g ≡ gone_to (hold_of v g) (hold_of w g)
  to_here = hold_of-with_hold_same g (gone_to (hold_of v g) (hold_of w g)) w

  to_other : (f : ℕ) → (f ≡ g → ⊥) → hold_of (moved_to g (hold_of v g) w) f ≡ hold_of w f
  to_other f apart = hold_of-with_hold_other g (gone_to (hold_of v g) (hold_of w g)) w f apart

-- a frame that is not listed stays
pub split_stays : (L : List ℕ) (v w : View) (f : ℕ) → times f L ≡ 0 → (hold_of (split_off L v w).0 f ≡ hold_of v f) × (hold_of (split_off L v w).1 f ≡ hold_of w f)
split_stays [] v w f none = (refl, refl)
split_stays (g ∷ gs) v w f none =
    let apart : f ≡ g → ⊥ = λ same. let one = times_same g gs in let here = ap (λ k. times k (g ∷ gs)) same in omega (arith, one, here, none) in
    let later = times_other f g gs (λ e. apart (sym e)) in
    let rest = split_stays gs (moved_from g v) (moved_to g (hold_of v g) w) f (omega (arith, later, none)) in
    (rest.0 ∙ from_other g v w f apart, rest.1 ∙ to_other g v w f apart)

-- a frame that is listed once loses a reference to the other seat
pub split_goes : (L : List ℕ) (v w : View) (f : ℕ) → times f L ≡ 1
    → (hold_of (split_off L v w).0 f ≡ left_of (hold_of v f)) × (hold_of (split_off L v w).1 f ≡ gone_to (hold_of v f) (hold_of w f))
split_goes [] v w f one = absurd (omega (arith, one))
split_goes (g ∷ gs) v w f one = elim (cases_eq f g) [
  | inl same ↦ (
      let first = times_same g gs in
      let here = ap (λ k. times k (g ∷ gs)) same in
      let rest = split_stays gs (moved_from g v) (moved_to g (hold_of v g) w) g (omega (arith, first, here, one)) in (
        ap (hold_of (split_off gs (moved_from g v) (moved_to g (hold_of v g) w)).0) same ∙ rest.0 ∙ from_here g v w ∙ ap (λ k. left_of (hold_of v k)) (sym same),
        ap (hold_of (split_off gs (moved_from g v) (moved_to g (hold_of v g) w)).1) same ∙ rest.1 ∙ to_here g v w ∙ ap (λ k. gone_to (hold_of v k) (hold_of w k)) (sym same),
      ))
  | inr apart ↦ (
      let later = times_other f g gs (λ e. apart (sym e)) in
      let rest = split_goes gs (moved_from g v) (moved_to g (hold_of v g) w) f (omega (arith, later, one)) in (
        rest.0 ∙ ap left_of (from_other g v w f apart),
        rest.1 ∙ ap (λ h. gone_to h (hold_of (moved_to g (hold_of v g) w) f)) (from_other g v w f apart) ∙ ap (gone_to (hold_of v f)) (to_other g v w f apart),
      ))
]

pub split_credits : (L : List ℕ) (v w : View) → (((split_off L v w).0).credits ≡ v.credits) × (((split_off L v w).1).credits ≡ w.credits)
split_credits [] v w = (refl, refl)
split_credits (g ∷ gs) v w = let rest = split_credits gs (moved_from g v) (moved_to g (hold_of v g) w) in (rest.0 ∙ from_credits g v w, rest.1)

pub split_tallies : (L : List ℕ) (v w : View) → (((split_off L v w).0).tallies ≡ v.tallies) × (((split_off L v w).1).tallies ≡ w.tallies)
split_tallies [] v w = (refl, refl)
split_tallies (g ∷ gs) v w = let rest = split_tallies gs (moved_from g v) (moved_to g (hold_of v g) w) in (rest.0 ∙ from_tallies g v w, rest.1)

-- the references are there to go
pub can_split : (L : List ℕ) (v w : View) → ((f : ℕ) → times f L ≤ 1) → ((f : ℕ) → 0 < times f L → IsHeld v f) → CanSplit L v
can_split [] v w once held = tt
can_split (g ∷ gs) v w once held =
    let one = times_same g gs in (
      held g (omega (arith, one)),
      can_split gs (moved_from g v) w (λ f. let most = once f in omega (arith, most)) (λ f some.
          let apart : f ≡ g → ⊥ = λ same. let most = once g in let here = ap (λ k. times k gs) same in omega (arith, one, most, here, some) in
          let was : IsHeld v f = held f (omega (arith, some)) in
          subst (λ (h : Hold). 0 < h.references) (sym (from_other g v w f apart)) was),
    )
