use Rattle.std.proofs.Common.{◌≡◌, ◌+◌, drop}
use Rattle.std.specs.Prelude.{All, vec_len}
use Rattle.handouts.specs.Marks.{IsMarked, blanks_of}
use Rattle.handouts.proofs.marks.marks_of.Given as goal

-- the blanks so far are marked
abbrev pub invariant-lines : goal.invariant-lines
invariant-lines l = record {
  counted : vec_len l.blanks + blanks_of (drop l.place l.handout) ≡ blanks_of l.handout;
  marked : All (IsMarked l.handout l.student) l.blanks.items;
}
