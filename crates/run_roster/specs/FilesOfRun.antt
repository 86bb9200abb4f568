-- Files of a run: those that right page moves give from the files at first (`AreReached`). A journal (a process's calls with
-- their replies) whose calls are answered over such files, but for those that need none (`ReplaysOver`, `RunsOver`); and one
-- call that is (`GoesOver`, `EndsOver`, `HasGoneOver`).
use Rattle.std.specs.Prelude.{◌≡◌, ◌⊎◌, ℕ, suc, ◌+◌, ◌∷◌, [], ◌++◌, List, Option}
use Rattle.std.proofs.Common.{subst, sym}
use Rattle.std.proofs.lemmas.Grind.{merely}
use Rattle.file_shelf.specs.Histories.{HistoryReplays}
use Rattle.hart_calls.specs.Replay.{call_at, call_of, forked, forks, IsReplayStep}
use Rattle.hart_calls.specs.Track.{calls_of, next_of, Track}
use Rattle.hart_calls.specs.TurnCases.{HasMapping, IsMmap}
use Rattle.hart_calls.specs.declared.finished.Finished.{Finished}
use Rattle.hart_calls.specs.declared.journal_entry.JournalEntry.{JournalEntry}
use Rattle.hart_calls.specs.declared.turn.Turn.{Turn}
use Rattle.hart_calls.specs.declared.turn.Turn.TheVariants as turn
use Rattle.process_model.specs.Files.{File}
use Rattle.process_model.specs.PageMoves.{files_after, PageMove}
use Rattle.process_model.specs.Process.{Process}
use Rattle.process_model.specs.declared.call.Call.{Call}
use Rattle.process_model.specs.declared.call.ProcessEnd.{ProcessEnd}
use Rattle.process_model.specs.declared.call.ProcessEnd.TheVariants as outcome

-- from the files at first some moves give these files; each page read among them has the bytes that the writes before it left
pub record AreReached (first files : List File) : Type 0 where
  pub moves : List PageMove
  pub right : HistoryReplays first moves
  pub are : files ≡ files_after first moves

-- the call is no mmap, and the process has no mapping
abbrev pub NeedsNone : Process → Call → Type 0
NeedsNone p c = (IsMmap c → ⊥) × (HasMapping p.mappings → ⊥)

-- the files over which a call of the process is answered: some that the run reached, or any if the call needs none
abbrev pub AreFilesFor : List File → Process → Call → List File → Type 0
AreFilesFor first p c files = AreReached first files ⊎ NeedsNone p c

-- `Replays`, each call over files that the run reached, if it needs any
abbrev pub ReplaysOver : List File → Process → ℕ → ℕ → List Call → List JournalEntry → Process → Type 0
ReplaysOver first p n k calls [] q = q ≡ p
ReplaysOver first p n k calls (e ∷ es) q = (call_of e ≡ call_at calls k)
    × ((files : List File) × (r : Process) × IsReplayStep files n p e r × AreFilesFor first p (call_of e) files
    × ReplaysOver first r (n + forked e.reply) (suc k) calls es q)

-- the journal replays so from process p
abbrev pub RunsOver : List File → List Call → Process → List JournalEntry → Type 0
RunsOver first calls p journal = ∥ ((q : Process) × ReplaysOver first p 0 0 calls journal q) ∥₁

-- law: that of a process which has made no call does
pub runs_new : (first : List File) (t : Track) → t.journal ≡ [] → t.state ≡ t.opening → ∥ ReplaysOver first t.opening 0 0 (calls_of t) t.journal t.state ∥₁
runs_new first t none is = merely (subst (λ (es : List JournalEntry). ReplaysOver first t.opening 0 0 (calls_of t) es t.state) (sym none) is)

-- one call

-- t becomes u by one entry more, over files that the run reached
pub record GoesOver (first : List File) (t u : Track) : Type 0 where
  pub entry : JournalEntry
  pub files : List File
  pub adds : u.journal ≡ t.journal ++ entry ∷ []
  pub next : call_of entry ≡ next_of t
  pub leads : IsReplayStep files (forks t.journal) t.state entry u.state
  pub given : AreFilesFor first t.state (call_of entry) files

-- f is the end of t by one entry more, over files that the run reached
pub record EndsOver (first : List File) (t : Track) (f : Finished) : Type 0 where
  pub entry : JournalEntry
  pub files : List File
  pub after : Process
  pub adds : f.journal.items ≡ t.journal ++ entry ∷ []
  pub next : call_of entry ≡ next_of t
  pub leads : IsReplayStep files (forks t.journal) t.state entry after
  pub given : AreFilesFor first t.state (call_of entry) files

abbrev pub HasEndedOver : List File → Track → Finished → ProcessEnd → Type 0
HasEndedOver first t f (outcome.Exited status) = EndsOver first t f
HasEndedOver first t f (outcome.Ended rule) = EndsOver first t f
HasEndedOver first t f o = Unit {0}

abbrev pub HasGoneOver : {B : Type 0} → List File → Track → Turn B → Type 0
HasGoneOver first t (turn.Continues u c) = GoesOver first t u
HasGoneOver first t (turn.Over f) = HasEndedOver first t f f.outcome
