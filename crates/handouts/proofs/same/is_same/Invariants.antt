use Rattle.std.proofs.Common.{◌≡◌, length}
use Rattle.std.specs.Prelude.{◌↔◌}
use Rattle.handouts.specs.Lines.{IsSame}
use Rattle.handouts.proofs.same.is_same.Given as goal

-- the fields so far are the same
abbrev pub invariant-fields : goal.invariant-fields
invariant-fields l = IsSame l.fn.one l.fn.other ↔ IsSame l.one l.other

abbrev pub decreases-fields : goal.decreases-fields
decreases-fields l = length l.one
