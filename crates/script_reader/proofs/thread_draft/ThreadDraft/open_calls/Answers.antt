use Rattle.std.proofs.Common.{sym}
use Rattle.script_reader.proofs.OpenList.{open_last}
use Rattle.script_reader.proofs.thread_draft.ThreadDraft.open_calls.Goals as goal

pub returns-in-Some : goal.returns-in-Some
returns-in-Some c =
    rw (sym c.self.view_is, c.as_slice.ensures) (open_last c.deref.result.now c.self.inside.lists.items c.in-Some.list.now c.deref.ensures.value c.in-Some.ensures.value)
