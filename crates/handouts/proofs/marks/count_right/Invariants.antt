use Rattle.std.proofs.Common.{◌≡◌, ◌+◌, ◌≤◌, drop}
use Rattle.handouts.specs.Marks.{rights_of}
use Rattle.handouts.proofs.marks.count_right.Given as goal

-- the right answers so far are counted
abbrev pub invariant-blanks : goal.invariant-blanks
invariant-blanks l = record {
  counted : l.right + rights_of (drop l.blank-index l.blanks) ≡ rights_of l.blanks;
  small : l.right ≤ l.blank-index;
}
