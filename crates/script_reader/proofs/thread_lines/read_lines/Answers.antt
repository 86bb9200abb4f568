use Rattle.std.proofs.Common.{◌∙◌, arith, refl, sym}
use Rattle.std.proofs.lemmas.Result.{err_from_is_err_and}
use Rattle.script_language.specs.Lines.{raw_lines}
use Rattle.script_language.specs.ThreadScript.{line_of, with_item}
use Rattle.script_reader.proofs.AsciiLines.{ascii_lines}
use Rattle.script_reader.proofs.Faults.{refused}
use Rattle.script_reader.proofs.thread_lines.read_lines.Goals as goal

pub lines-init : goal.lines-init
lines-init c = record { says = refl; few = omega arith; ascii = λ is. ascii_lines c.args.text.now (sym c.is_ascii-ascii.ensures ∙ is) }

pub returns-in_err-add_line-clause-read : goal.returns-in_err-add_line-clause-read
returns-in_err-add_line-clause-read c =
    let p = err_from_is_err_and c.from_residual.result c.from_residual.ensures.1 in
    rw (p.1, p.2) (refused line_of with_item c.in_err-add_line.field-0.0 _ (raw_lines c.first_line.result.1.now) _ (rw c.trim_return.ensures at c.in_err-add_line.ensures) (rw c.first_line.ensures.line at c.lines.invariant.says))
