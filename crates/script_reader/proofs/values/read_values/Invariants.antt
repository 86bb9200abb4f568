use Rattle.std.proofs.Common.{◌≡◌, ◌+◌, ◌≤◌, length, drop, Ok, []}
use Rattle.script_language.specs.Fields.{values_from}
use Rattle.script_language.specs.Lines.{fields_of}
use Rattle.script_reader.specs.ValueLists.{listed}
use Rattle.script_reader.specs.Rows.{seen}
use Rattle.script_reader.proofs.FieldKinds.{MayHave}
use Rattle.script_reader.proofs.FieldValues.{kinds_of}
use Rattle.script_reader.proofs.values.read_values.Given as goal

abbrev pub invariant-fields : goal.invariant-fields
invariant-fields l = record {
  says : values_from (listed l.so_far) (drop l.place (kinds_of (seen l.row) (fields_of l.fields))) (fields_of l.rest) ≡ values_from (Ok []) (kinds_of (seen l.row) (fields_of l.fields)) (fields_of l.fields);
  counted : l.place + length (fields_of l.rest) ≡ length (fields_of l.fields);
  allowed : MayHave (length (seen l.row).kinds) (seen l.row).tail l.place;
  small : l.place + length l.rest ≤ length l.fields;
}

abbrev pub decreases-fields : goal.decreases-fields
decreases-fields l = length l.rest
