-- Lemmas of moments: each is what is left of the history behind its number of events, and of two the shorter one is the past of the other.
use Rattle.std.proofs.Common.{◌≡◌, ℕ, zero, suc, ◌-◌, ◌≤◌, List, [], ◌∷◌, drop, length, sym, ◌∙◌, ap, arith, None}
use Rattle.std.proofs.lemmas.List.{length-drop}
use Rattle.access_history.specs.History.{IsPast, now, older}
use Rattle.access_history.specs.declared.event.Event.{Event}
use Rattle.access_history.specs.declared.event.Event.TheVariants.{Fence}
use Rattle.access_judge.specs.Search.{IsUnfenced, stores, writes_satp, writes_pmp, fences_address, fences_space, until}

pub past_length : (h k : List Event) → IsPast h k → length k ≤ length h
past_length h k now = omega arith
past_length h k (older {h = before} was) = let up = past_length before k was in omega (arith, up)

pub past_trans : (h k g : List Event) → IsPast h k → IsPast k g → IsPast h g
past_trans h k g now second = second
past_trans h k g (older {h = before} first) second = older (past_trans before k g first second)

drop_past : (n : ℕ) (h : List Event) → IsPast h (drop n h)
drop_past zero h = now
drop_past (suc n) [] = now
drop_past (suc n) (e ∷ h) = older (drop_past n h)

pub until_past : (h : List Event) (k : ℕ) → IsPast h (until h k)
until_past h k = drop_past (length h - k) h

pub until_length : (h : List Event) (k : ℕ) → k ≤ length h → length (until h k) ≡ k
until_length h k low = omega (arith, length-drop (length h - k) h)

pub until_now : (h : List Event) → until h (length h) ≡ h
until_now h = let none : length h - length h ≡ 0 = omega arith in ap (λ (n : ℕ). drop n h) none

pub until_older : (e : Event) (h : List Event) (k : ℕ) → k ≤ length h → until (e ∷ h) k ≡ until h k
until_older e h k low = let one : suc (length h) - k ≡ suc (length h - k) = omega arith in ap (λ (n : ℕ). drop n (e ∷ h)) one

-- a past moment is the history until its number
pub past_until : (h k : List Event) → IsPast h k → k ≡ until h (length k)
past_until h k now = sym (until_now h)
past_until h k (older {h = before} {e = e} was) =
    past_until before k was ∙ sym (until_older e before (length k) (past_length before k was))

pub past_between : (h k g : List Event) → IsPast h k → IsPast h g → length g ≤ length k → IsPast k g
past_between h k g now second low = second
past_between h k g (older {h = before} first) now low = let up = past_length before k first in absurd (omega (arith, up, low))
past_between h k g (older {h = before} first) (older second) low = past_between before k g first second low

-- ---- no fence of everything

pub unfenced_tail : (e : Event) (h : List Event) → IsUnfenced (e ∷ h) → IsUnfenced h
unfenced_tail e h (stores p i w rest) = rest
unfenced_tail e h (writes_satp w rest) = rest
unfenced_tail e h (writes_pmp n entry rest) = rest
unfenced_tail e h (fences_address a s rest) = rest
unfenced_tail e h (fences_space s rest) = rest

pub unfenced_past : (h k : List Event) → IsUnfenced h → IsPast h k → IsUnfenced k
unfenced_past h k un now = un
unfenced_past h k un (older {h = before} {e = e} was) = unfenced_past before k (unfenced_tail e before un) was

pub not_full : (h : List Event) → IsUnfenced (Fence None None ∷ h) → ⊥
not_full h un = elim un [ ]
