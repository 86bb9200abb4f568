use Rattle.std.proofs.Common.{◌≡◌, length, sym, ap, ◌∙◌, arith}
use Rattle.script_language.specs.Lines.{fields_of}
use Rattle.script_reader.specs.ValueLists.{listed}
use Rattle.script_reader.specs.Rows.{seen}
use Rattle.script_reader.proofs.FieldKinds.{found, may_have, too_many, too_few, just_right}
use Rattle.script_reader.proofs.FieldValues.{next_value, kinds_of, wrong_count, all_read, one_taken}
use Rattle.script_reader.proofs.values.read_values.Goals as goal

pub fields-preserved : goal.fields-preserved
fields-preserved c =
    let r = seen c.args.row.now in
    let all = fields_of c.args.fields.now in
    let p = c.fields.place in
    let k = c.in-Some-kind_at.kind in
    let here = sym c.kind_at.ensures ∙ c.in-Some-kind_at.is in
    let one_more = one_taken (fields_of c.fields.rest.now) c.in-Some.field.now (fields_of c.in-Some.after.now) c.in-Some.ensures.field in
    let has = found r.kinds r.tail (length all) p k (omega (arith, one_more, c.fields.invariant.counted)) here in
    record {
      says = rw (c.in_ok-so_far.ensures, c.in_ok-read_value.ensures) (next_value (kinds_of r all) p k (listed c.fields.so_far) _ c.in-Some.field.now (fields_of c.in-Some.after.now) has (rw c.in-Some.ensures.field at c.fields.invariant.says));
      counted = omega (arith, one_more, c.fields.invariant.counted);
      allowed = may_have r.kinds r.tail p k here;
      small = omega (arith, c.in-Some.ensures.less, c.fields.invariant.small);
    }

pub returns-in_default-kind_at : goal.returns-in_default-kind_at
returns-in_default-kind_at c =
    let r = seen c.args.row.now in
    let all = fields_of c.args.fields.now in
    let one_more = one_taken (fields_of c.fields.rest.now) c.in-Some.field.now (fields_of c.in-Some.after.now) c.in-Some.ensures.field in
    wrong_count r all (too_many r.kinds r.tail (length all) c.fields.place (omega (arith, one_more, c.fields.invariant.counted)) (sym c.kind_at.ensures ∙ c.in_default-kind_at.is))

pub returns-then-place-row : goal.returns-then-place-row
returns-then-place-row c =
    let r = seen c.args.row.now in
    let all = fields_of c.args.fields.now in
    let none : length (fields_of c.fields.rest.now) ≡ 0 = ap length c.in_default.ensures.field in
    wrong_count r all (too_few r.kinds r.tail (length all) (omega (arith, none, c.fields.invariant.counted, c.if-place-row.true)))

pub returns : goal.returns
returns c =
    let r = seen c.args.row.now in
    let all = fields_of c.args.fields.now in
    let none : length (fields_of c.fields.rest.now) ≡ 0 = ap length c.in_default.ensures.field in
    let whole : c.fields.place ≡ length all = omega (arith, none, c.fields.invariant.counted) in
    all_read r all (fields_of c.fields.rest.now) _ (listed c.fields.so_far) c.in_default.ensures.field
    (just_right r.kinds r.tail (length all) (omega (arith, whole, c.if-place-row.false)) (rw whole at c.fields.invariant.allowed)) c.fields.invariant.says
