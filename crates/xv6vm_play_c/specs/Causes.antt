-- The numbers by which C programs name the causes of a refused script.
use Rattle.std.specs.Prelude.{ℕ}
use Rattle.script_language.specs.declared.script.Cause.{Cause}
use Rattle.script_language.specs.declared.script.Cause.TheVariants as cause

abbrev pub cause_number : Cause → ℕ
cause_number cause.TooLong = 1
cause_number cause.NotAscii = 2
cause_number cause.Word = 3
cause_number cause.Order = 4
cause_number cause.Count = 5
cause_number cause.Number = 6
cause_number cause.Field = 7
cause_number cause.Limits = 8
cause_number cause.TooMany = 9
