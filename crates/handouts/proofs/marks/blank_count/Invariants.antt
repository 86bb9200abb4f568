use Rattle.std.proofs.Common.{◌≡◌, ◌+◌, ◌≤◌, drop}
use Rattle.handouts.specs.Marks.{blanks_of}
use Rattle.handouts.proofs.marks.blank_count.Given as goal

-- the blanks so far are counted
abbrev pub invariant-lines : goal.invariant-lines
invariant-lines l = record {
  counted : l.blanks + blanks_of (drop l.asked-index l.handout) ≡ blanks_of l.handout;
  small : l.blanks ≤ l.asked-index;
}
