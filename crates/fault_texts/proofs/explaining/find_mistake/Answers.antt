use Rattle.std.proofs.Common.{◌≡◌, ◌∙◌, Err, ap, true}
use Rattle.std.specs.Prelude.{slice_get, is_none, nat_le, length}
use Rattle.script_language.specs.Lines.{fields_of}
use Rattle.script_language.specs.ReadLines.{is_ascii}
use Rattle.script_language.specs.declared.script.Cause.TheVariants as cause
use Rattle.fault_texts.specs.Unknown.{is_unknown}
use Rattle.fault_texts.proofs.Found.{none_if, some_if}
use Rattle.fault_texts.proofs.RefusedLines.{line_wrong, too_long, not_ascii, unknown_word, is_after, after_the_word}
use Rattle.fault_texts.proofs.explaining.find_mistake.Goals as goal
use Rattle.script_language.specs.declared.limits.TheConstants.{LONGEST_LINE}

pub returns-in-TooLong-clause-found : goal.returns-in-TooLong-clause-found
returns-in-TooLong-clause-found c = λ refused.
    let wrong = line_wrong c.args.draft.now c.args.line.now cause.TooLong (refused ∙ ap Err c.in-TooLong.is) in
    none_if c.too_long.result (nat_le (length c.args.line.now) LONGEST_LINE) c.too_long.ensures.found (too_long c.args.draft.now c.args.line.now wrong)

pub returns-in-NotAscii-clause-found : goal.returns-in-NotAscii-clause-found
returns-in-NotAscii-clause-found c = λ refused.
    let wrong = line_wrong c.args.draft.now c.args.line.now cause.NotAscii (refused ∙ ap Err c.in-NotAscii.is) in
    none_if c.not_ascii.result (is_ascii c.args.line.now) c.not_ascii.ensures.found (not_ascii c.args.draft.now c.args.line.now wrong)

pub returns-in-Word-clause-found : goal.returns-in-Word-clause-found
returns-in-Word-clause-found c = λ refused.
    let wrong = line_wrong c.args.draft.now c.args.line.now cause.Word (refused ∙ ap Err c.in-Word.is) in
    let found = unknown_word c.args.draft.now c.args.line.now wrong in
    let is : is_unknown (slice_get (fields_of c.args.line.now) 0) ≡ true = ap (λ fs. is_unknown (slice_get fs 0)) found.2 ∙ ap is_none found.3 in
    some_if c.unknown_word.result (is_unknown (slice_get (fields_of c.args.line.now) 0)) c.unknown_word.ensures.found is

pub returns-in_default : goal.returns-in_default
returns-in_default c = record {
  found = λ refused.
      let wrong = line_wrong c.args.draft.now c.args.line.now c.args.cause refused in
      let found = after_the_word c.args.draft.now c.args.line.now c.args.cause c.in_default.not-TooLong c.in_default.not-NotAscii c.in_default.not-Word wrong in
      c.after_the_word.ensures.found found.0 found.1 found.2 found.3 found.4 found.5 (is_after c.args.cause c.in_default.not-TooLong c.in_default.not-NotAscii c.in_default.not-Word);
  column = c.after_the_word.ensures.column;
}
