-- `Replays`: a journal (a process's calls with their replies) leads in the model from one process to another: each entry has
-- the list's next call and is a step of the model (`IsReplayStep`: reply, process before and after, pages read, mmap's file).
-- Also call k of a list (`call_at`), an entry's call (`call_of`), list k (`list_at`), and how many children a journal names
-- (`forks`).
use Rattle.std.specs.Prelude.{◌≡◌, ℕ, pos, suc, ◌+◌, List, [], ◌∷◌, Option, None, Some, slice_get}
use Rattle.hart_calls.specs.CallOutcomes.{file_of, reads_of, call_outcome}
use Rattle.hart_calls.specs.Shortages.{CanBeShort, Shortage}
use Rattle.hart_calls.specs.declared.journal_entry.JournalEntry.{JournalEntry}
use Rattle.hart_calls.specs.declared.journal_entry.Listed.{Listed}
use Rattle.process_model.specs.Files.{File}
use Rattle.process_model.specs.Process.{Process}
use Rattle.process_model.specs.declared.call.Call.{Call}
use Rattle.process_model.specs.declared.call.Call.TheVariants as call
use Rattle.process_model.specs.declared.reply.Reply.{Reply}
use Rattle.process_model.specs.declared.reply.ScalarReply.TheVariants as scalar
use Rattle.process_model.specs.declared.reply.Reply.TheVariants as reply

-- call k of a list, `exit 0` after the last

abbrev pub or_exit : Option Call → Call
or_exit None = call.Exit (pos 0)
or_exit (Some c) = c

abbrev pub call_at : List Call → ℕ → Call
call_at calls k = or_exit (slice_get calls k)

-- the call at a place of a list, and the call of an entry

abbrev pub listed_call : Listed → Call
listed_call l = call_at l.list.now l.number

abbrev pub call_of : JournalEntry → Call
call_of e = call_at e.list.now e.number

-- list k, empty if there is none
abbrev pub or_none : Option (List Call) → List Call
or_none None = []
or_none (Some calls) = calls

abbrev pub list_at : List (List Call) → ℕ → List Call
list_at lists k = or_none (slice_get lists k)

-- how many children a reply names, and a journal

abbrev pub forked : Reply → ℕ
forked (reply.Scalar (scalar.Forked n)) = 1
forked r = 0

abbrev pub forks : List JournalEntry → ℕ
forks [] = 0
forks (e ∷ es) = forked e.reply + forks es

-- Entry e leads from process p, of which n children were named before, to process q: for these files and some shortage that is
-- possible, reply and process are the model's. The entry has p, the pages that the call reads from the files, and for an mmap
-- whether its file may be written.
pub record IsReplayStep (files : List File) (n : ℕ) (p : Process) (e : JournalEntry) (q : Process) : Type 0 where
  pub before : e.before.state ≡ p
  pub shortage : Shortage
  pub possible : CanBeShort files p (call_of e) shortage
  pub reply : e.reply ≡ (call_outcome files shortage n p (call_of e)).reply
  pub process : q ≡ (call_outcome files shortage n p (call_of e)).process
  pub pages : e.pages ≡ reads_of files shortage p (call_of e)
  pub file : e.file ≡ file_of files (call_of e)

-- the journal leads from process p, with n children named and k calls made before, to process q: each entry has the list's
-- next call and is a replay step for some files
abbrev pub Replays : Process → ℕ → ℕ → List Call → List JournalEntry → Process → Type 0
Replays p n k calls [] q = q ≡ p
Replays p n k calls (e ∷ es) q = (call_of e ≡ call_at calls k)
    × ((files : List File) × (r : Process) × IsReplayStep files n p e r × Replays r (n + forked e.reply) (suc k) calls es q)
