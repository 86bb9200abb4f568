-- Moments of a history: before and after one more event.
use Rattle.std.proofs.Common.{◌≡◌, ℕ, zero, suc, ◌+◌, ◌-◌, ◌≤◌, List, ◌∷◌, length, drop, ap, ◌∙◌, arith}
use Rattle.std.proofs.lemmas.List.{drop-drop, length-drop}
use Rattle.access_history.specs.declared.event.Event.{Event}
use Rattle.access_judge.specs.Search.{until}

pub until_now : (h : List Event) (k : ℕ) → length h ≤ k → until h k ≡ h
until_now h k le = let none : length h - k ≡ zero = omega (arith, le) in ap (λ (n : ℕ). drop n h) none

pub until_more : (e : Event) (h : List Event) (k : ℕ) → k ≤ length h → until (e ∷ h) k ≡ until h k
until_more e h k le = let one : suc (length h) - k ≡ suc (length h - k) = omega (arith, le) in ap (λ (n : ℕ). drop n (e ∷ h)) one

pub length-until : (h : List Event) (k : ℕ) → k ≤ length h → length (until h k) ≡ k
length-until h k le = let rest = length-drop (length h - k) h in omega (arith, le, rest)

pub until-until : (h : List Event) (m k : ℕ) → k ≤ m → m ≤ length h → until (until h m) k ≡ until h k
until-until h m k less le =
    let long = length-until h m le in
    let both : (length h - m) + (length (until h m) - k) ≡ length h - k = omega (arith, less, le, long) in
    drop-drop (length (until h m) - k) (length h - m) h ∙ ap (λ (n : ℕ). drop n h) both
