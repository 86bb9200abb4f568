-- `listed`: the values of a line's fields, or the line's fault, with the vector that the reader returns seen as a list.
use Rattle.std.specs.Prelude.{List, Result, Ok, Err, Vec}
use Rattle.script_language.specs.declared.script.Cause.{Cause}
use Rattle.script_language.specs.declared.script.FieldValue.{FieldValue}

abbrev pub listed : {A : Type 0} → Result (Vec FieldValue A) Cause → Result (List FieldValue) Cause
listed (Ok values) = Ok values.items
listed (Err c) = Err c
