use Rattle.std.proofs.Common.{arith}
use Rattle.std.proofs.lemmas.Bool.{le-leb}
use Rattle.std.proofs.lemmas.Result.{err_from_is_err_and}
use Rattle.script_language.specs.declared.limits.TheConstants.{LONGEST_SCRIPT}
use Rattle.script_reader.proofs.ThreadsKept.{answer_playable, script_answers, script_refused}
use Rattle.script_reader.proofs.thread_script.ThreadScript.read.Goals as goal

pub returns-in_err-lines-clause-read : goal.returns-in_err-lines-clause-read
returns-in_err-lines-clause-read c =
    let p = err_from_is_err_and c.from_residual.result c.from_residual.ensures.1 in
    rw (p.1, p.2) (script_refused c.args.bytes.now c.in_err-lines.field-0.0 (le-leb _ LONGEST_SCRIPT (omega (arith, c.if-bytes-gt-LONGEST_SCRIPT.false))) (rw (c.new-draft.ensures, c.lists_named.ensures) at c.in_err-lines.ensures.read))

pub returns-clause-read : goal.returns-clause-read
returns-clause-read c =
    script_answers c.args.bytes.now c.of.result _ c.in_ok-lines.lines (le-leb _ LONGEST_SCRIPT (omega (arith, c.if-bytes-gt-LONGEST_SCRIPT.false))) (rw (c.new-draft.ensures, c.lists_named.ensures) at c.in_ok-lines.ensures.read) c.of.ensures

pub returns-clause-playable : goal.returns-clause-playable
returns-clause-playable c = answer_playable c.args.bytes.now c.of.result (returns-clause-read c)
