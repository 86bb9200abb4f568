-- `SetsHold`, a predicate: a view has a given hold (references, sole-holder flag, known words) of one frame, and another
-- view's hold of every other frame. Laws: which hold is set by `with_hold`, by `released` (a reference is dropped), and
-- by `moved_from` and `moved_to` (a reference moves to another seat).
use Rattle.std.proofs.Common.{◌≡◌, ◌≢◌, inl, inr, ℕ, ◌+◌, ◌-◌, ◌==◌, true, false, cond, refl, ◌∙◌, arith}
use Rattle.std.proofs.lemmas.Bool.Decides.{eqb_tells}
use Rattle.frame_store.specs.View.{View, Hold, hold_of, with_hold, without_hold, not_held, references, moved_from, moved_to, released}
use Rattle.frame_store.specs.Holds.{hold_of-with_hold_same, hold_of-with_hold_other, hold_of-without_hold_same, hold_of-without_hold_other, hold_of-frames}

-- the view w has h as its hold of frame f, and of every other frame what v has
pub record SetsHold (f : ℕ) (h : Hold) (v w : View) : Type 0 where
  pub here : hold_of w f ≡ h
  pub apart : (g : ℕ) → g ≢ f → hold_of w g ≡ hold_of v g

pub puts : (f : ℕ) (h : Hold) (v u : View) → u.frames ≡ v.frames → SetsHold f h v (with_hold f h u)
puts f h v u e = record { here = hold_of-with_hold_same f h u; apart = λ g ne. hold_of-with_hold_other f h u g ne ∙ hold_of-frames u v e g }

-- the hold of frame f after one reference was dropped: `less` if others are left, and `left_of` in any case
abbrev pub less : ℕ → View → Hold
less f v = record (hold_of v f) { references = references v f - 1 }

abbrev pub left_of : ℕ → View → Hold
left_of f v = cond (references v f == 1) not_held (less f v)

pub released-puts : (f : ℕ) (v : View) → SetsHold f (left_of f v) v (released f v)
released-puts f v = record {
  here = elim (references v f == 1) as (λ b. hold_of (cond b (without_hold f v) (with_hold f (less f v) v)) f ≡ cond b not_held (less f v)) [
    | true ↦ hold_of-without_hold_same f v
    | false ↦ hold_of-with_hold_same f (less f v) v
  ];
  apart = λ g ne. elim (references v f == 1) as (λ b. hold_of (cond b (without_hold f v) (with_hold f (less f v) v)) g ≡ hold_of v g) [
    | true ↦ hold_of-without_hold_other f v g ne
    | false ↦ hold_of-with_hold_other f (less f v) v g ne
  ];
}

pub left-references : (f : ℕ) (v : View) → (left_of f v).references ≡ references v f - 1
left-references f v = elim (eqb_tells (references v f) 1) as (λ _. (left_of f v).references ≡ references v f - 1) [
  | inl t ↦ rw t.0 (omega (arith, t.1))
  | inr t ↦ rw t.0 refl
]

-- ---- one reference moves to another seat: `fewer` and `stays` are what the first seat has of the frame afterwards, `goes`
-- what the second has
abbrev pub fewer : ℕ → View → Hold
fewer f v = record { references = references v f - 1; sole = false; words = (hold_of v f).words }

abbrev pub stays : ℕ → View → Hold
stays f v = cond (references v f == 1) not_held (fewer f v)

abbrev pub goes : ℕ → View → View → Hold
goes f v w = record { references = references w f + 1; sole = cond (references v f == 1) (hold_of v f).sole false; words = (hold_of v f).words }

pub moved_from-puts : (f : ℕ) (v : View) → SetsHold f (stays f v) v (moved_from f v)
moved_from-puts f v = record {
  here = elim (references v f == 1) as (λ b. hold_of (cond b (without_hold f v) (with_hold f (fewer f v) v)) f ≡ cond b not_held (fewer f v)) [
    | true ↦ hold_of-without_hold_same f v
    | false ↦ hold_of-with_hold_same f (fewer f v) v
  ];
  apart = λ g ne. elim (references v f == 1) as (λ b. hold_of (cond b (without_hold f v) (with_hold f (fewer f v) v)) g ≡ hold_of v g) [
    | true ↦ hold_of-without_hold_other f v g ne
    | false ↦ hold_of-with_hold_other f (fewer f v) v g ne
  ];
}

pub moved_to-puts : (f : ℕ) (v w : View) → SetsHold f (goes f v w) w (moved_to f (hold_of v f) w)
moved_to-puts f v w = puts f (goes f v w) w w refl
