use Rattle.std.proofs.Common.{◌≡◌, ◌+◌}
use Rattle.handouts.proofs.marks.count.Given as goal

-- each line so far is counted
abbrev pub invariant-lines : goal.invariant-lines
invariant-lines l = l.kept + l.changed + l.missing ≡ l.one-index
