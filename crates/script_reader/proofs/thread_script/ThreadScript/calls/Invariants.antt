use Rattle.std.proofs.Common.{◌≡◌, drop}
use Rattle.script_language.specs.ThreadScript.{calls_of}
use Rattle.script_reader.proofs.thread_script.ThreadScript.calls.Given as goal

abbrev pub invariant-loop-list : goal.invariant-loop-list
invariant-loop-list l = calls_of (drop l.list-index l.list-items) l.number ≡ calls_of l.list-items l.number
