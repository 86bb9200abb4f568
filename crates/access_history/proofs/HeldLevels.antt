-- No PTE that a hart may hold is of a level above 4, the highest of Sv57.
use Rattle.std.proofs.Common.{◌≡◌, ℕ, ◌≤◌, ◌==◌, Bool, true, false, arith, None, Some, List, if◌then◌else◌}
use Rattle.std.proofs.lemmas.Option.{same_Some}
use Rattle.sv39_entry.specs.Satp.{mode}
use Rattle.walk_rules.specs.Addresses.{top_of}
use Rattle.walk_rules.specs.declared.extensions.Extensions.{Extensions}
use Rattle.access_history.specs.Held.{IsHeld, Read, at_root, below, stays, updated}
use Rattle.access_history.specs.History.{First}
use Rattle.access_history.specs.declared.event.Event.{Event}

top_by : (a b c : Bool) (top : ℕ) → (if a then Some 2 else (if b then Some 3 else (if c then Some 4 else None))) ≡ Some top → top ≤ 4
top_by true b c top is = let same = same_Some 2 top is in omega (arith, same)
top_by false true c top is = let same = same_Some 3 top is in omega (arith, same)
top_by false false true top is = let same = same_Some 4 top is in omega (arith, same)
top_by false false false top is = absurd (cc)

pub top_low : (w top : ℕ) → top_of w ≡ Some top → top ≤ 4
top_low w top is = top_by (mode w == 8) (mode w == 9) (mode w == 10) top is

pub held_low : (x : Extensions) (f : First) (va : ℕ) (h past : List Event) (r : Read) → IsHeld x f va h r past → r.level ≤ 4
held_low x f va h past r (at_root may root) = top_low root.satp r.level root.highest
held_low x f va h past r (below {since = since} {above = above} was may step) =
    let low = held_low x f va h since above was in
    let level = step.next_level in
    omega (arith, low, level)
held_low x f va h past r (stays {h = earlier} was free) = held_low x f va earlier past r was
held_low x f va h past r (updated {h = earlier} {past = since} {r = b} was is) = held_low x f va earlier since b was
