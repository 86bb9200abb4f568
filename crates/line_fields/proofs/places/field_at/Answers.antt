use Rattle.std.proofs.Common.{rules, ◌≡◌, ◌∙◌, ap, sym, None, Some, arith}
use Rattle.std.specs.Prelude.{slice_get}
use Rattle.script_language.specs.Lines.{fields_of}
use Rattle.line_fields.proofs.Drops.{none_there, some_there, left_after}
use Rattle.line_fields.proofs.Ends.{end_after, end_of_end}
use Rattle.line_fields.proofs.places.field_at.Goals as goal

pub returns-in_err-after-clause-field : goal.returns-in_err-after-clause-field
returns-in_err-after-clause-field c =
    let told : c.from_residual.result ≡ None = search rules in
    rw told (none_there _ c.fields._index c.args.number (c.fields.invariant.passed ∙ c.in_err-after.ensures.field) (omega arith))

pub fields-preserved : goal.fields-preserved
fields-preserved c = record {
  end = end_after c.args.line.now _ c.in_ok-after.after.now (end_of_end c.args.line.now c.fields.rest.now _ c.fields.invariant.end c.in_ok-after.ensures.place);
  passed = left_after (fields_of c.args.line.now) c.fields._index _ (fields_of c.in_ok-after.after.now) (c.fields.invariant.passed ∙ c.in_ok-after.ensures.field);
}

pub returns-in_err-bytes-clause-field : goal.returns-in_err-bytes-clause-field
returns-in_err-bytes-clause-field c =
    let told : c.from_residual-in_err-bytes.result ≡ None = search rules in
    rw told (none_there _ c.fields._index c.args.number (c.fields.invariant.passed ∙ c.in_err-bytes.ensures.field) (omega arith))

pub returns-clause-field : goal.returns-clause-field
returns-clause-field c =
    let at : c.fields._index ≡ c.args.number = omega arith in
    let fields = fields_of c.args.line.now in
    ap (slice_get fields) (sym at) ∙ some_there fields c.fields._index c.in_ok-bytes.bytes.now (fields_of c.in_ok-bytes.after.now) (c.fields.invariant.passed ∙ c.in_ok-bytes.ensures.field) ∙ ap Some (sym c.before-2.ensures.bytes)
