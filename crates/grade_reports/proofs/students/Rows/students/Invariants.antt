use Rattle.std.proofs.Common.{◌<◌}
use Rattle.std.specs.Prelude.{All, string_len}
use Rattle.grade_reports.proofs.students.Rows.students.Given as goal

-- each student so far has an id
abbrev pub invariant-rows : goal.invariant-rows
invariant-rows l = All (λ s. 0 < string_len s.id) l.students.items
