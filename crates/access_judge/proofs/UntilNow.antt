-- Moments of a history.
use Rattle.std.specs.Prelude.{◌≡◌, ◌-◌, List, length}
use Rattle.std.proofs.Common.{arith, refl}
use Rattle.access_history.specs.declared.event.Event.{Event}
use Rattle.access_judge.specs.Search.{until}

pub until_now : (h : List Event) → until h (length h) ≡ h
until_now h = let e : length h - length h ≡ 0 = omega arith in rw e refl
