use Rattle.std.proofs.Common.{◌≡◌, ◌+◌, ◌<◌, ◌∙◌, length, drop, ap, sym, arith}
use Rattle.script_language.specs.Fields.{kinds_for}
use Rattle.script_language.specs.Lines.{fields_of}
use Rattle.script_reader.specs.Rows.{seen}
use Rattle.fault_texts.proofs.Awaits.{awaits_next, next_kind, right_count}
use Rattle.line_fields.proofs.Ends.{end_after, end_of_end}
use Rattle.fault_texts.proofs.field_forms.first_refused.Goals as goal

pub fields-preserved : goal.fields-preserved
fields-preserved c =
    let r = seen c.args.row.now in
    let all = fields_of c.args.fields.now in
    let kinds = kinds_for r.kinds r.tail (length all) in
    let place = c.fields.place in
    let kind = c.in-Some-kind_at.kind in
    let split = c.in-Some.ensures.field in
    let fewer = ap length split in
    let less = c.in-Some.ensures.less in
    let one : c.saturating_add-place.result ≡ place + 1 = omega arith in
    let within : place < length all = omega arith in
    record {
      end = end_after c.args.line.now c.in-Some.bytes.now c.in-Some.after.now (end_of_end c.args.line.now c.fields.rest.now _ c.fields.invariant.end c.in-Some.ensures.place);
      counted = omega arith;
      small = omega arith;
      awaits = λ field is.
          let next = next_kind r (length all) place kind within (right_count r all c.args.cause field is) (sym c.kind_at.ensures ∙ c.in-Some-kind_at.is) in
          let before = rw (split, next) at (c.fields.invariant.awaits field is) in
          rw one (awaits_next c.args.cause kind (drop (place + 1) kinds) c.in-Some.bytes.now (fields_of c.in-Some.after.now) before (c.in_ok-is_refused.ensures c.if-branch.false));
    }
