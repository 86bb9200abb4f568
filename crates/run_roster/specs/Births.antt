-- How processes began (`Birth`: a list of calls and the process of the model at first): an unfinished one (`began`), the child
-- that an entry of a journal (a process's calls with their replies) names (`birth_of`, `heir`), all children that a journal
-- names, in order (`births_of`).
use Rattle.std.specs.Prelude.{ℕ, List, [], ◌∷◌, ◌++◌}
use Rattle.hart_calls.specs.ProcessCodes.{code_of}
use Rattle.hart_calls.specs.Replay.{call_of}
use Rattle.hart_calls.specs.Track.{Track}
use Rattle.hart_calls.specs.declared.journal_entry.JournalEntry.{JournalEntry}
use Rattle.process_model.specs.Residence.{child_of}
use Rattle.process_model.specs.declared.call.Call.{Call}
use Rattle.process_model.specs.declared.call.Call.TheVariants as call
use Rattle.process_model.specs.declared.reply.Reply.{Reply}
use Rattle.process_model.specs.declared.reply.ScalarReply.TheVariants as scalar
use Rattle.process_model.specs.declared.reply.Reply.TheVariants as reply
use Rattle.vouchers.specs.Entries.{Birth, birth}

-- an unfinished process: its list, and the process that it began as
abbrev pub began : Track → Birth
began t = birth t.list (code_of t.opening)

-- the list that a fork names
abbrev pub fork_list : Call → ℕ
fork_list (call.Fork list) = list
fork_list c = 0

-- the child that a fork names: the fork's list, and `child_of` the process before the fork
abbrev pub birth_of : JournalEntry → Birth
birth_of e = birth (fork_list (call_of e)) (code_of (child_of e.before.state))

-- the child that an entry with this reply names, if it names one
abbrev pub heir : Birth → Reply → List Birth
heir b (reply.Scalar (scalar.Forked n)) = b ∷ []
heir b r = []

-- the children that a journal names, in order
abbrev pub births_of : List JournalEntry → List Birth
births_of [] = []
births_of (e ∷ es) = heir (birth_of e) e.reply ++ births_of es
