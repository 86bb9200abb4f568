use Rattle.std.proofs.Common.{sym, ◌∙◌}
use Rattle.script_reader.proofs.ListLines.{begins_none}
use Rattle.script_reader.proofs.thread_lines.may_begin_list.Goals as goal

pub returns-else-is_blank : goal.returns-else-is_blank
returns-else-is_blank c other k = begins_none k c.args.line.now (sym c.is_blank.ensures ∙ c.if-is_blank.false) (sym c.begins_with_list.ensures ∙ other)
