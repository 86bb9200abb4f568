use Rattle.std.proofs.lemmas.Result.{err_from_is_err_and}
use Rattle.script_language.specs.ThreadScript.{item_line, line_of}
use Rattle.script_reader.proofs.Splitting.{err_said, none_said, item_err, item_said}
use Rattle.script_reader.proofs.ThreadsKept.{has_its_room}
use Rattle.script_reader.proofs.thread_lines.read_line.Goals as goal

pub returns-in_err-text-clause-line : goal.returns-in_err-text-clause-line
unfolding line_of
returns-in_err-text-clause-line c =
    let p = err_from_is_err_and c.from_residual.result c.from_residual.ensures.1 in
    rw (p.1, p.2) (err_said (item_line c.args.draft.now) c.args.line.now c.in_err-text.field-0.0 c.in_err-text.ensures)

pub returns-in_default-clause-line : goal.returns-in_default-clause-line
unfolding line_of
returns-in_default-clause-line c = none_said (item_line c.args.draft.now) c.args.line.now (rw c.in_default.is at c.in_ok-text.ensures)

pub returns-in_err-item-clause-line : goal.returns-in_err-item-clause-line
unfolding line_of
returns-in_err-item-clause-line c =
    let p = err_from_is_err_and c.from_residual-in_err-item.result c.from_residual-in_err-item.ensures.1 in
    rw (p.1, p.2) (item_err (item_line c.args.draft.now) c.args.line.now _ _ c.in_err-item.field-0.0 (rw c.in-Some.is at c.in_ok-text.ensures) c.in_err-item.ensures)

pub returns-clause-line : goal.returns-clause-line
unfolding line_of
returns-clause-line c = item_said (item_line c.args.draft.now) c.args.line.now _ _ c.in_ok-item.item (rw c.in-Some.is at c.in_ok-text.ensures) c.in_ok-item.ensures

pub returns-clause-room : goal.returns-clause-room
returns-clause-room c = has_its_room c.args.draft.now c.args.line.now c.in_ok-item.item (returns-clause-line c)
