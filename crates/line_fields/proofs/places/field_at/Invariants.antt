use Rattle.std.proofs.Common.{◌≡◌, drop}
use Rattle.script_language.specs.Lines.{fields_of}
use Rattle.line_fields.specs.Columns.{IsEndOf}
use Rattle.line_fields.proofs.places.field_at.Given as goal

-- the fields so far are passed over
abbrev pub invariant-fields : goal.invariant-fields
invariant-fields l = record {
  end : IsEndOf l.line l.rest;
  passed : drop l._index (fields_of l.line) ≡ fields_of l.rest;
}
