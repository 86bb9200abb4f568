use Rattle.std.proofs.Common.{◌≡◌, drop}
use Rattle.script_language.specs.ThreadScript.{has_list}
use Rattle.script_reader.proofs.thread_draft.ThreadDraft.has_list.Given as goal

abbrev pub invariant-loop-list : goal.invariant-loop-list
invariant-loop-list l = has_list (drop l.list-index l.list-items) l.number ≡ has_list l.list-items l.number
