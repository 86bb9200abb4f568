use Rattle.std.proofs.Common.{◌≡◌}
use Rattle.std.specs.Prelude.{vec_len}
use Rattle.grade_reports.proofs.file_grade.texts_of.Given as goal

-- a text for each blank so far
abbrev pub invariant-blanks : goal.invariant-blanks
invariant-blanks l = vec_len l.texts ≡ l.blank-index
