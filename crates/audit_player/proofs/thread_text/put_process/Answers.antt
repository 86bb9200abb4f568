use Rattle.std.proofs.Common.{◌++◌, List, ℕ, true, false, length, refl, rules}
use Rattle.std.specs.Prelude.{codes}
use Rattle.script_language.specs.Text.{line_text}
use Rattle.script_language.specs.Threads.{name_text, end_text}
use Rattle.audit_player.specs.ThreadText.{ended_line}
use Rattle.audit_player.proofs.Blocks.{putting_begins, putting_fails, putting_more, putting_last, parts_of_line, name_same, calls_same}
use Rattle.audit_player.proofs.thread_text.put_process.Goals as goal

pub returns-then-not-put-clause-puts : goal.returns-then-not-put-clause-puts
returns-then-not-put-clause-puts g c =
    let f = c.args.finished.now in
    let end : List ℕ = end_text (length f.journal.items) f.outcome in
    putting_fails _ _ _ _ _ c.put.new.self (codes "process ") _ (name_text f.name.items ++ line_text end) _ (putting_begins _ c.args.block.now (ended_line f)) (parts_of_line f) c.put.new.self c.if-not-put.ensures.puts

pub returns-then-not-put_name-clause-puts : goal.returns-then-not-put_name-clause-puts
returns-then-not-put_name-clause-puts g c =
    let f = c.args.finished.now in
    let end : List ℕ = end_text (length f.journal.items) f.outcome in
    putting_fails _ _ _ _ _ c.put_name.new.block (name_text f.name.items) _ (line_text end) _ (putting_more _ _ _ _ _ _ (codes "process ") _ (name_text f.name.items ++ line_text end) _ (putting_begins _ c.args.block.now (ended_line f)) (parts_of_line f) c.if-not-put.ensures.puts)
    refl c.put_name.new.block (name_same false _ _ _ c.put_name.new.block _ f.name.items c.as_slice.ensures.value c.if-not-put_name.ensures.puts)

pub returns-clause-puts : goal.returns-clause-puts
returns-clause-puts g c =
    let f = c.args.finished.now in
    let end : List ℕ = end_text (length f.journal.items) f.outcome in
    putting_last _ _ _ _ _ _ c.put_end.new.self (line_text end) _ (putting_more _ _ _ _ _ _ (name_text f.name.items) _ (line_text end) _ (putting_more _ _ _ _ _ _ (codes "process ") _ (name_text f.name.items ++ line_text end) _ (putting_begins _ c.args.block.now (ended_line f)) (parts_of_line f) c.if-not-put.ensures.puts)
    refl (name_same true _ _ _ c.put_name.new.block _ f.name.items c.as_slice.ensures.value c.if-not-put_name.ensures.puts)) (calls_same c.put_end.result _ _ _ c.put_end.new.self _ (length f.journal.items) f.outcome (search rules) c.put_end.ensures.puts)
