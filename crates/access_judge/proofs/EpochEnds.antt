-- Lemmas of how long a walk goes on: its last moment is the end of the epoch of its ASID in which it began.
use Rattle.std.proofs.Common.{◌≡◌, ℕ, suc, ◌≤◌, ◌==◌, false, List, [], ◌∷◌, length, refl, sym, ◌∙◌, ap, subst, inl, inr, arith, Some, None}
use Rattle.std.proofs.lemmas.Bool.{cases_Bool, cases_eq, eq-eqb, eqb-true, ne_eqb, both_ways}
use Rattle.sv39_entry.specs.Satp.{asid}
use Rattle.access_history.specs.Held.{EndsWalks, IsUnder, goes_on, is_active}
use Rattle.access_history.specs.History.{First, IsPast, now, older, satp_at}
use Rattle.access_history.specs.declared.event.Event.{Event}
use Rattle.access_history.specs.declared.event.Event.TheVariants.{Store, WriteSatp, WritePmp, Fence}
use Rattle.access_judge.specs.Search.{IsUnfenced, epoch_end, space_fence, until}
use Rattle.access_judge.proofs.FenceNumbers.{space_fence_low}
use Rattle.access_judge.proofs.Moments.{not_full, past_length, unfenced_tail, until_now, until_older}

pub epoch_end_low : (h : List Event) (space epoch : ℕ) → epoch_end h space epoch ≤ length h
epoch_end_low [] space epoch = omega arith
epoch_end_low (e ∷ h) space epoch = let up = epoch_end_low h space epoch in elim (cases_Bool (space_fence (e ∷ h) space == epoch)) [
  | inl here ↦ rw here (omega arith)
  | inr other ↦ rw other (omega (arith, up))
]

-- a moment at which the number is another is not the last one
not_now : (e : Event) (h : List Event) (space epoch k : ℕ) → k ≤ suc (length h) → space_fence (until (e ∷ h) k) space ≡ epoch
    → (space_fence (e ∷ h) space == epoch) ≡ false → (k ≤ length h) × (space_fence (until h k) space ≡ epoch)
not_now e h space epoch k low is other = elim (cases_eq k (suc (length h))) [
  | inl last ↦
      let whole = ap (until (e ∷ h)) last ∙ until_now (e ∷ h) in
      let same = ap (λ (g : List Event). space_fence g space) (sym whole) ∙ is in
      absurd (both_ways (space_fence (e ∷ h) space == epoch) other (eq-eqb (space_fence (e ∷ h) space) epoch same))
  | inr before ↦
      let short : k ≤ length h = omega (arith, low, before) in
      (short, ap (λ (g : List Event). space_fence g space) (sym (until_older e h k short)) ∙ is)
]

-- no moment of the epoch is after it
pub epoch_end_late : (h : List Event) (space epoch k : ℕ) → k ≤ length h → space_fence (until h k) space ≡ epoch → k ≤ epoch_end h space epoch
epoch_end_late [] space epoch k low is = low
epoch_end_late (e ∷ h) space epoch k low is = elim (cases_Bool (space_fence (e ∷ h) space == epoch)) [
  | inl here ↦ rw here low
  | inr other ↦ let up = not_now e h space epoch k low is other in rw other (epoch_end_late h space epoch k up.0 up.1)
]

-- and it is one of them
pub epoch_end_is : (h : List Event) (space epoch k : ℕ) → k ≤ length h → space_fence (until h k) space ≡ epoch
    → space_fence (until h (epoch_end h space epoch)) space ≡ epoch
epoch_end_is [] space epoch k low is =
    let first : k ≡ 0 = omega (arith, low) in
    subst (λ (n : ℕ). space_fence (until [] n) space ≡ epoch) first is
epoch_end_is (e ∷ h) space epoch k low is = elim (cases_Bool (space_fence (e ∷ h) space == epoch)) [
  | inl here ↦ rw here (ap (λ (g : List Event). space_fence g space) (until_now (e ∷ h)) ∙ eqb-true (space_fence (e ∷ h) space) epoch here)
  | inr other ↦
      let up = not_now e h space epoch k low is other in
      let before = epoch_end_low h space epoch in
      rw other (ap (λ (g : List Event). space_fence g space) (until_older e h (epoch_end h space epoch) before) ∙ epoch_end_is h space epoch k up.0 up.1)
]

-- a walk that began at a moment goes on while no fence of its ASID comes
pub under_still : (f : First) (satp : ℕ) (h k : List Event) → IsPast h k → IsUnfenced h → satp_at f.satp k ≡ satp
    → space_fence h (asid satp) ≡ space_fence k (asid satp) → IsUnder f satp h
under_still f satp h k now un is same = is_active is
under_still f satp h k (older {h = before} {e = Store p i w} was) un is same = goes_on (under_still f satp before k was (unfenced_tail _ before un) is same) (λ ends. ends)
under_still f satp h k (older {h = before} {e = WriteSatp w} was) un is same = goes_on (under_still f satp before k was (unfenced_tail _ before un) is same) (λ ends. ends)
under_still f satp h k (older {h = before} {e = WritePmp n e} was) un is same = goes_on (under_still f satp before k was (unfenced_tail _ before un) is same) (λ ends. ends)
under_still f satp h k (older {h = before} {e = Fence (Some a) s} was) un is same =
    goes_on (under_still f satp before k was (unfenced_tail _ before un) is same) (λ ends. ends)
under_still f satp h k (older {h = before} {e = Fence None None} was) un is same = absurd (not_full before un)
under_still f satp h k (older {h = before} {e = Fence None (Some s)} was) un is same = elim (cases_eq s (asid satp)) [
  | inl own ↦
      let here = rw (eq-eqb s (asid satp) own) at same in
      let low = space_fence_low k (asid satp) in
      let short = past_length before k was in
      absurd (omega (arith, here, low, short))
  | inr other ↦
      let here = rw (ne_eqb s (asid satp) other) at same in
      goes_on (under_still f satp before k was (unfenced_tail _ before un) is here) other
]

-- a walk that goes on began at a moment
pub under_since : (f : First) (satp : ℕ) (h : List Event) → IsUnfenced h → IsUnder f satp h
    → (k : List Event) × IsPast h k × (satp_at f.satp k ≡ satp) × (space_fence h (asid satp) ≡ space_fence k (asid satp))
under_since f satp h un (is_active is) = (h, now, is, refl)
under_since f satp h un (goes_on {h = before} {e = e} under free) =
    let up = under_since f satp before (unfenced_tail e before un) under in
    (up.0, older up.1, up.2, same e before un free ∙ up.3) where
      same : (e : Event) (g : List Event) → IsUnfenced (e ∷ g) → (EndsWalks e (asid satp) → ⊥) → space_fence (e ∷ g) (asid satp) ≡ space_fence g (asid satp)
      same (Store p i w) g un free = refl
      same (WriteSatp w) g un free = refl
      same (WritePmp n e) g un free = refl
      same (Fence (Some a) s) g un free = refl
      same (Fence None None) g un free = absurd (free tt)
      same (Fence None (Some s)) g un free = rw (ne_eqb s (asid satp) free) refl
