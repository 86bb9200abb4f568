-- What one call leaves: the process, perhaps with a child (`ContinuesTurn`), or its end (`IsOver`); the files and their
-- history (`KeepsFilesOn`, `KeepsFilesByOutcome`); when the journal or the history was full (`LacksJournalRoom`,
-- `HasNoRoom`, `IsCutFor`). Before it: whether it needs files (`NeedsFiles`), and a fork's reply by its slot (`ForkAnswer`).
use Rattle.std.specs.Prelude.{◌≡◌, ◌⊎◌, ℕ, ◌+◌, ◌<◌, ◌≤◌, ◌∷◌, [], ◌++◌, List, Option, None, Some, length}
use Rattle.address_space.specs.Steps.{IsBare}
use Rattle.atomic_table.specs.Seated.{TableId}
use Rattle.file_shelf.specs.ShelfStates.{HasMoves, CanRefuse, ShelfState}
use Rattle.file_cabinet.specs.declared.promise.PromiseError.TheVariants as error
use Rattle.frame_store.specs.View.{View}
use Rattle.hart_calls.specs.ShortageReports.{ReportsShortage}
use Rattle.hart_calls.specs.Replay.{call_at, call_of, forked, forks, IsReplayStep, Replays}
use Rattle.hart_calls.specs.CallKinds.{IsAccessCall}
use Rattle.hart_calls.specs.CallOutcomes.{reads_of, call_outcome, writes_of}
use Rattle.hart_calls.specs.CallResults.{ClaimsNone, RefusesPromise}
use Rattle.hart_calls.specs.Shortages.{CanBeShort, nothing, Shortage, WasAsked}
use Rattle.hart_calls.specs.Track.{AppendsEntry, calls_of, IsChild, next_of, Track}
use Rattle.hart_calls.specs.declared.journal_entry.JournalEntry.{JournalEntry}
use Rattle.hart_calls.specs.declared.finished.Finished.{Finished}
use Rattle.process_model.specs.declared.call.ProcessEnd.{ProcessEnd}
use Rattle.process_model.specs.declared.call.ProcessEnd.TheVariants as outcome
use Rattle.hart_calls.specs.declared.fork_slot.ForkSlot.{ForkSlot}
use Rattle.hart_calls.specs.declared.fork_slot.ForkSlot.TheVariants as slot
use Rattle.process_model.specs.Files.{File}
use Rattle.process_model.specs.PageMoves.{all_moves, PageMove}
use Rattle.process_model.specs.Process.{Process}
use Rattle.process_model.specs.Regions.{Region}
use Rattle.process_model.specs.declared.call.Call.{Call}
use Rattle.process_model.specs.declared.call.Call.TheVariants as call
use Rattle.process_model.specs.declared.reply.Refusal.TheVariants as refusal
use Rattle.process_model.specs.declared.reply.Reply.{Reply}
use Rattle.process_model.specs.declared.reply.ScalarReply.TheVariants as scalar
use Rattle.process_model.specs.declared.reply.Reply.TheVariants as reply
use Rattle.shared_frames.specs.SeatsOfTable.{FitsIn, view_of}
use Rattle.process_model.specs.declared.limits.TheConstants.{MOST_ENTRIES}

-- what a call needs beside frames: a slot, files

-- a free slot has this name for the child
abbrev pub IsNamed : ForkSlot → List ℕ → Type 0
IsNamed (slot.Free v place) name = v.items ≡ name
IsNamed s name = Unit {0}

abbrev pub IsMmap : Call → Type 0
IsMmap (call.Mmap len protection flags file) = Unit {0}
IsMmap c = ⊥

abbrev pub IsFork : Call → Type 0
IsFork (call.Fork list) = Unit {0}
IsFork c = ⊥

abbrev pub HasMapping : List Region → Type 0
HasMapping [] = ⊥
HasMapping (m ∷ ms) = Unit {0}

-- the next call is mmap, or the process has a mapping
abbrev pub NeedsFiles : Track → Type 0
NeedsFiles t = IsMmap (next_of t) ⊎ HasMapping t.state.mappings

-- the reply to a fork: NoSlot exactly if it has no slot, Memory exactly if the host has no memory for a child; else the
-- child, or NoFrame or SharersFull
abbrev pub ForkAnswer : ForkSlot → Reply → Type 0
ForkAnswer slot.NoSlot r = r ≡ reply.Scalar (scalar.Refused refusal.NoSlot)
ForkAnswer slot.Memory r = r ≡ reply.Scalar (scalar.Refused refusal.Memory)
ForkAnswer (slot.Free v place) r =
    (forked r ≡ 1) ⊎ ((r ≡ reply.Scalar (scalar.Refused refusal.NoFrame)) ⊎ (r ≡ reply.Scalar (scalar.Refused refusal.SharersFull)))

-- if the call is a fork, its reply is as `ForkAnswer` says for the slot
abbrev pub BySlot : ForkSlot → Call → Reply → Type 0
BySlot s (call.Fork list) r = ForkAnswer s r
BySlot s c r = Unit {0}

-- the reply does not end the process
abbrev pub LeavesRunning : Reply → Type 0
LeavesRunning (reply.Scalar (scalar.Ended rule)) = ⊥
LeavesRunning (reply.Scalar (scalar.Exited status)) = ⊥
LeavesRunning r = Unit {0}

-- ---- the process continues, with one entry more, and perhaps a child

-- there is a child exactly if the reply names one; it has the list of the fork
abbrev pub IsChildOf : Option Track → Track → JournalEntry → Type 0
IsChildOf None t e = forked e.reply ≡ 0
IsChildOf (Some c) t e = (forked e.reply ≡ 1) × ((list : ℕ) × (call_of e ≡ call.Fork list) × IsChild t c list)

-- t becomes u, with child c if there is one, when the fork's slot is s
pub record ContinuesTurn (t u : Track) (c : Option Track) (s : ForkSlot) : Type 0 where
  pub entry : JournalEntry
  pub files : List File
  pub adds : AppendsEntry t u entry
  pub leads : IsReplayStep files (forks t.journal) t.state entry u.state
  pub on : LeavesRunning entry.reply
  pub child : IsChildOf c t entry
  pub slot : BySlot s (call_of entry) entry.reply
  pub lack : ReportsShortage t.seat u.seat files t.state (call_of entry) leads.shortage

-- ---- the process ends

-- f has the journal of t and one entry more: the list's next call, with reply r
pub record EndsBy (t : Track) (f : Finished) (r : Reply) : Type 0 where
  pub entry : JournalEntry
  pub files : List File
  pub after : Process
  pub journal : f.journal.items ≡ t.journal ++ entry ∷ []
  pub next : call_of entry ≡ next_of t
  pub leads : IsReplayStep files (forks t.journal) t.state entry after
  pub reply : entry.reply ≡ r
  pub lack : ReportsShortage t.seat (view_of f.seat) files t.state (call_of entry) leads.shortage

-- there is no entry more, and the seat has claimed no frame since
abbrev pub EndsUntold : Track → Finished → Type 0
EndsUntold t f = (f.journal.items ≡ t.journal) × ClaimsNone t.seat (view_of f.seat)

-- the journal by the outcome: after an exit or an end by a rule one entry more says so; after Memory or JournalFull there is
-- none more (`EndsUntold`). No call has the outcome Refused
abbrev pub IsLastEntry : Track → Finished → ProcessEnd → Type 0
IsLastEntry t f (outcome.Exited status) = EndsBy t f (reply.Scalar (scalar.Exited status))
IsLastEntry t f (outcome.Ended rule) = EndsBy t f (reply.Scalar (scalar.Ended rule))
IsLastEntry t f (outcome.Refused r) = ⊥
IsLastEntry t f outcome.Memory = EndsUntold t f
IsLastEntry t f outcome.JournalFull = EndsUntold t f

-- the reply ends the process
abbrev pub EndsIt : Reply → Type 0
EndsIt (reply.Scalar (scalar.Ended rule)) = Unit {0}
EndsIt (reply.Scalar (scalar.Exited status)) = Unit {0}
EndsIt r = ⊥

-- the history has no room for the page that an access reads from a file
abbrev pub LacksPageRoom : Process → Call → ShelfState → Type 0
LacksPageRoom p c a = IsAccessCall c × (0 < length (reads_of a.files nothing p c)) × CanRefuse a 1 error.JournalFull

-- for some shortage that is possible the call ends its process, and the history has no room for the pages that it reads and
-- those that the end writes. Views v and w of the seat, before and after, are the evidence for the shortage
abbrev pub LacksEndRoom : View → View → Process → Call → ShelfState → Type 0
LacksEndRoom v w p c a = (shortage : Shortage) × CanBeShort a.files p c shortage × EndsIt (call_outcome a.files shortage 0 p c).reply
    × ReportsShortage v w a.files p c shortage
    × CanRefuse a (length (reads_of a.files shortage p c) + length (all_moves p)) error.JournalFull

-- the process has a mapping, and the call asks a promise of files, for which some history has no room. w is the seat's view
-- at the end
abbrev pub AsksMoreRoom : View → Process → Call → Type 0
AsksMoreRoom w p c = HasMapping p.mappings × ((v : View) × (a : ShelfState) × (LacksPageRoom p c a ⊎ LacksEndRoom v w p c a))

-- The process p has a journal of the first of these calls, and ends with no entry more. After JournalFull the journal has
-- `MOST_ENTRIES` entries, or the next call asks a promise for which a history has no room; after Memory it has fewer. w is the
-- seat's view at the end
abbrev pub LacksJournalRoom : View → Process → List Call → List JournalEntry → ProcessEnd → Type 0
LacksJournalRoom w p calls journal outcome.JournalFull = (length journal ≡ MOST_ENTRIES) ⊎ AsksMoreRoom w p (call_at calls (length journal))
LacksJournalRoom w p calls journal outcome.Memory = length journal < MOST_ENTRIES
LacksJournalRoom w p calls journal o = Unit {0}

-- the same before the process ends, for a call that is not made
abbrev pub IsCutFor : Process → Call → List JournalEntry → ProcessEnd → Type 0
IsCutFor p c journal outcome.JournalFull = (length journal ≡ MOST_ENTRIES) ⊎ (HasMapping p.mappings × ((a : ShelfState) × LacksPageRoom p c a))
IsCutFor p c journal outcome.Memory = length journal < MOST_ENTRIES
IsCutFor p c journal o = Unit {0}

-- f is the end of t: its seat is at this table and holds nothing, and its journal replays
pub record IsOver (table : TableId) (t : Track) (f : Finished) : Type 0 where
  pub name : f.name.items ≡ t.name
  pub seat : FitsIn table f.seat
  pub bare : IsBare (view_of f.seat)
  pub state : Process
  pub replays : Replays t.opening 0 0 (calls_of t) f.journal.items state
  pub last : IsLastEntry t f f.outcome
  pub full : LacksJournalRoom (view_of f.seat) state (calls_of t) f.journal.items f.outcome
  pub few : length f.journal.items ≤ MOST_ENTRIES

-- ---- the files

-- The files' history gets exactly the pages that the entry has as read, then those that the call writes; at an end, those of
-- every mapping. A call that was refused for a promise had asked one that the files could refuse thus.

-- the files after a call that does not end the process
pub record KeepsFilesOn (t u : Track) (a b : ShelfState) : Type 0 where
  pub entry : JournalEntry
  pub adds : u.journal ≡ t.journal ++ entry ∷ []
  pub leads : IsReplayStep a.files (forks t.journal) t.state entry u.state
  pub files : b.files ≡ (call_outcome a.files leads.shortage (forks t.journal) t.state (call_of entry)).files
  pub becomes : HasMoves a (entry.pages ++ writes_of a.files leads.shortage t.state (call_of entry)) b
  pub request : WasAsked (RefusesPromise HasMoves CanRefuse a entry.pages) (λ n. n ≤ b.room) t.state (call_of entry) leads.shortage

-- the files after an exit or an end by a rule: every mapping is written back
pub record KeepsFilesAtEnd (t : Track) (f : Finished) (a b : ShelfState) : Type 0 where
  pub entry : JournalEntry
  pub after : Process
  pub adds : f.journal.items ≡ t.journal ++ entry ∷ []
  pub leads : IsReplayStep a.files (forks t.journal) t.state entry after
  pub files : b.files ≡ (call_outcome a.files leads.shortage (forks t.journal) t.state (call_of entry)).files
  pub becomes : HasMoves a (entry.pages ++ all_moves t.state) b

-- no file is changed; the history gets the pages that the call reads, or nothing
pub record Unwritten (p : Process) (c : Call) (a b : ShelfState) : Type 0 where
  pub reads : List PageMove
  pub by : (reads ≡ []) ⊎ ((shortage : Shortage) × (reads ≡ reads_of a.files shortage p c))
  pub becomes : HasMoves a reads b
  pub files : b.files ≡ a.files

-- the history has no room for the page that an access reads from a file, or for what a call that ends the process reads and
-- the end writes
abbrev pub HasNoRoom : Track → Finished → ShelfState → Type 0
HasNoRoom t f a = LacksPageRoom t.state (next_of t) a ⊎ LacksEndRoom t.seat (view_of f.seat) t.state (next_of t) a

-- the files after the end of a process, by its outcome
abbrev pub KeepsFilesByOutcome : Track → Finished → ProcessEnd → ShelfState → ShelfState → Type 0
KeepsFilesByOutcome t f (outcome.Exited status) a b = KeepsFilesAtEnd t f a b
KeepsFilesByOutcome t f (outcome.Ended rule) a b = KeepsFilesAtEnd t f a b
KeepsFilesByOutcome t f (outcome.Refused r) a b = ⊥
KeepsFilesByOutcome t f outcome.Memory a b = Unwritten t.state (next_of t) a b
KeepsFilesByOutcome t f outcome.JournalFull a b = Unwritten t.state (next_of t) a b × ((length t.journal ≡ MOST_ENTRIES) ⊎ HasNoRoom t f a)

-- without a shelf, JournalFull ends a process only if its journal has `MOST_ENTRIES` entries
abbrev pub IsFullByOutcome : Track → ProcessEnd → Type 0
IsFullByOutcome t outcome.JournalFull = length t.journal ≡ MOST_ENTRIES
IsFullByOutcome t o = Unit {0}
