use Rattle.std.proofs.Common.{drop}
use Rattle.std.proofs.lemmas.List.{at_drop_more}
use Rattle.script_language.specs.Threads.{dotted_text, name_text}
use Rattle.audit_player.proofs.Blocks.{putting_begins, putting_fails, putting_more, putting_last, behind_first, dotted_same}
use Rattle.audit_player.proofs.thread_text.put_name.Goals as goal

pub returns-then-not-put_number-clause-puts : goal.returns-then-not-put_number-clause-puts
returns-then-not-put_number-clause-puts g c =
    let name = c.args.name.now in
    putting_fails _ _ _ _ _ c.put_number.new.self _ _ (dotted_text (drop 1 name)) _ (putting_begins _ c.args.block.now (name_text name)) (at_drop_more name_text name 0 0 c.in-len1-up.len_at_least) c.put_number.new.self c.if-not-put_number.ensures.puts

pub returns-clause-puts : goal.returns-clause-puts
returns-clause-puts g c =
    let name = c.args.name.now in
    putting_last _ _ _ _ _ _ c.put_dotted.new.block (dotted_text (drop 1 name)) _ (putting_more _ _ _ _ _ _ _ _ (dotted_text (drop 1 name)) _ (putting_begins _ c.args.block.now (name_text name)) (at_drop_more name_text name 0 0 c.in-len1-up.len_at_least) c.if-not-put_number.ensures.puts) (dotted_same c.put_dotted.result _ _ _ c.put_dotted.new.block _ (drop 1 name) (behind_first name) c.put_dotted.ensures.puts)
