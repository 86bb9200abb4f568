-- `RosterView`, a record: the roster (list of unfinished and ended processes) as contracts see it. Then how many slots are in
-- use after one call (`one_more`, `one_less`), and the reply to a fork that asks for one (`Admits`).
use Rattle.std.specs.Prelude.{◌≡◌, ℕ, ◌+◌, ◌-◌, ◌<◌}
use Rattle.run_roster.specs.declared.roster.Admission.{Admission}
use Rattle.run_roster.specs.declared.roster.Admission.TheVariants as admission

-- starts that were neither made nor refused yet; slots of the run; slots in use, by an unfinished process or kept for a fork
pub record RosterView : Type 0 where
  pub left : ℕ
  pub slots : ℕ
  pub out : ℕ

abbrev pub one_more : RosterView → RosterView
one_more v = record v { out = v.out + 1 }

abbrev pub one_less : RosterView → RosterView
one_less v = record v { out = v.out - 1 }

abbrev pub one_made : RosterView → RosterView
one_made v = record v { left = v.left - 1 }

-- NoSlot exactly if every slot is in use. Only an admission changes the roster: one slot more is in use
abbrev pub Admits : RosterView → RosterView → Admission → Type 0
Admits v w (admission.Kept token) = (v.out < v.slots) × (w ≡ one_more v)
Admits v w admission.NoSlot = (v.out ≡ v.slots) × (w ≡ v)
Admits v w admission.Memory = (v.out < v.slots) × (w ≡ v)
