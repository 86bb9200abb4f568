use Rattle.std.proofs.Common.{◌≡◌, drop}
use Rattle.walk_rules.specs.Pmp as pmp
use Rattle.walk_rules.proofs.Deciding.{left}
use Rattle.walk_rules.proofs.pmp.pmp_permits.Given as goal

-- no entry so far matches: the rest decide
abbrev pub invariant-loop-entry : goal.invariant-loop-entry
invariant-loop-entry l =
    left l.entries l.privilege l.access l.pa l.width l.below (drop l.entry-index l.entries) ≡ pmp.pmp_permits l.entries l.privilege l.access l.pa l.width
