use Rattle.std.proofs.Common.{◌≡◌, ◌+◌, ◌≤◌, length}
use Rattle.script_language.specs.Lines.{fields_of}
use Rattle.line_fields.proofs.places.field_count.Given as goal

-- the fields so far are counted
abbrev pub invariant-fields : goal.invariant-fields
invariant-fields l = record {
  counted : l.count + length (fields_of l.rest) ≡ length (fields_of l.fn.rest);
  small : l.count + length l.rest ≤ length l.fn.rest;
}

abbrev pub decreases-fields : goal.decreases-fields
decreases-fields l = length l.rest
