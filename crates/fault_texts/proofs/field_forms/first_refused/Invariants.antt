use Rattle.std.proofs.Common.{◌≡◌, ◌+◌, ◌≤◌, length, drop, Err}
use Rattle.script_language.specs.Fields.{kinds_for, values_of}
use Rattle.script_language.specs.Lines.{fields_of}
use Rattle.script_reader.specs.Rows.{seen}
use Rattle.fault_texts.specs.Causes.{OfField}
use Rattle.line_fields.specs.Columns.{IsEndOf}
use Rattle.fault_texts.proofs.Awaits.{Awaits}
use Rattle.fault_texts.proofs.field_forms.first_refused.Given as goal

-- the fields so far are not refused for this cause
abbrev pub invariant-fields : goal.invariant-fields
invariant-fields l = record {
  end : IsEndOf l.line l.rest;
  counted : l.place + length (fields_of l.rest) ≡ length (fields_of l.fields);
  small : l.place + length l.rest ≤ length l.fields;
  awaits : OfField l.cause → values_of (seen l.row) (fields_of l.fields) ≡ Err l.cause → Awaits l.cause (drop l.place (kinds_for (seen l.row).kinds (seen l.row).tail (length (fields_of l.fields)))) (fields_of l.rest);
}

abbrev pub decreases-fields : goal.decreases-fields
decreases-fields l = length l.rest
