use Rattle.std.proofs.Common.{arith}
use Rattle.script_reader.proofs.OpenList.{pushed}
use Rattle.script_reader.proofs.thread_draft.push_call.Goals as goal

pub returns-in-Some : goal.returns-in-Some
returns-in-Some c = pushed c.push.result c.args.lists.now.items c.in-Some.last c.index_mut.result.now c.push.new.self c.args.call (omega (arith, c.len.ensures, c.in-Some.ensures)) c.index_mut.ensures.value c.push.ensures.added
