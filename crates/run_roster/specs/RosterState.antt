-- Predicates on lives (a life is the roster's record of a process: its name, how it began, how its children began): the
-- roster's invariant (`IsRostered`), what `run_harts` returns (`ComesBack`), the end of a life (`IsEnded`: name, journal by
-- outcome, bare seat at the run's table), why a start is refused (`RefusesStart`), what a voucher proves (`IsOut`,
-- `IsEndedWithToken`, `IsBirth`).
use base.Stored.{Gv}
use Rattle.hart_calls.specs.ProcessCodes.{code_of}
use Rattle.std.specs.Prelude.{◌≡◌, ◌⊎◌, ℕ, ◌+◌, ◌<◌, ◌≤◌, ◌∷◌, [], ◌++◌, cond, List, length, Some, Ok, Err, slice_get, Bool, true, false, ◌&&◌}
use Rattle.address_space.specs.Steps.{IsBare}
use Rattle.atomic_table.specs.Seated.{TableId}
use Rattle.frame_store.specs.View.{View}
use Rattle.shared_frames.specs.SeatsOfTable.{FitsIn, view_of}
use Rattle.process_model.specs.Frames.{start_need}
use Rattle.process_model.specs.Images.{image_loads, LoadSegment}
use Rattle.process_model.specs.declared.call.ProcessEnd.{ProcessEnd}
use Rattle.process_model.specs.declared.call.ProcessEnd.TheVariants as outcome
use Rattle.process_model.specs.declared.call.Start.{Start}
use Rattle.process_model.specs.declared.image.Image.{Image}
use Rattle.process_model.specs.declared.reply.Refusal.{Refusal}
use Rattle.process_model.specs.declared.reply.Refusal.TheVariants as refusal
use Rattle.sv39_entry.specs.declared.scheme.Scheme.TheVariants.{Sv39}
use Rattle.vouchers.specs.Entries.{Birth, birth, TokenEntry as Life, entry, Has, nameless, same_name}
use Rattle.vouchers.specs.IssuerSeats.{HoldsAt, held_of}
use Rattle.hart_calls.specs.declared.journal_entry.JournalEntry.{JournalEntry}
use Rattle.hart_calls.specs.declared.finished.Finished.{Finished}
use Rattle.hart_calls.specs.Replay.{list_at, Replays}
use Rattle.hart_calls.specs.TurnCases.{LacksJournalRoom}
use Rattle.run_roster.specs.Births.{began, births_of}
use Rattle.run_roster.specs.FilesOfRun.{ReplaysOver, RunsOver}
use Rattle.hart_calls.specs.Track.{calls_of, Track}
use Rattle.process_model.specs.Files.{File}
use Rattle.process_model.specs.Process.{Process}
use Rattle.process_model.specs.declared.call.Call.{Call}
use Rattle.process_model.specs.declared.reply.Reply.{Reply}
use Rattle.process_model.specs.declared.reply.ScalarReply.TheVariants as scalar
use Rattle.process_model.specs.declared.reply.Reply.TheVariants as reply
use Rattle.run_roster.specs.Slots.{Unrefused}
use Rattle.run_roster.specs.Starts.{IsProcessOf, IsStarved}
use Rattle.run_roster.specs.declared.roster.Admission.{Admission}
use Rattle.run_roster.specs.declared.roster.Admission.TheVariants as admission
use Rattle.process_model.specs.declared.limits.TheConstants.{MOST_ENTRIES}

-- one of the lives has this name and began so
abbrev pub Knows : List Life → List ℕ → Birth → Type 0
Knows lives name b = (children : List Birth) × Has (entry name b children) lives

-- each child that a life has named is among the lives, and began as its fork says
abbrev pub Closed : List Life → Type 0
Closed lives = (l : Life) (j : ℕ) (b : Birth) → Has l lives → slice_get l.children j ≡ Some b → Knows lives (l.name ++ j ∷ []) b

-- the first n starts are among the lives, each with its number as name and with its list
abbrev pub Started : List Start → ℕ → List Life → Type 0
Started starts n lives = (i : ℕ) (s : Start) → i < n → slice_get starts i ≡ Some s → (opening : Gv) × Knows lives (i ∷ []) (birth s.list opening)

-- the name is the number of this start
abbrev pub IsOfStart : List Start → List ℕ → Start → Type 0
IsOfStart starts name s = (i : ℕ) × (name ≡ i ∷ []) × (slice_get starts i ≡ Some s)

-- l is a child that m has named: m's name with the child's number after it; it began as the fork says
pub record IsChildOf (m l : Life) : Type 0 where
  pub number : ℕ
  pub name : l.name ≡ m.name ++ number ∷ []
  pub birth : slice_get m.children number ≡ Some l.birth

-- l is a start with its list, or a child of one of the lives
abbrev pub IsStartOrChild : List Start → List Life → Life → Type 0
IsStartOrChild starts lives l = ((s : Start) × IsOfStart starts l.name s × (l.birth.list ≡ s.list)) ⊎ ((m : Life) × Has m lives × IsChildOf m l)

-- each life that has a name is a start with its list, or a child of one of the lives; a slot that is kept for a fork has no
-- name
abbrev pub AreStartsOrChildren : List Start → List Life → Type 0
AreStartsOrChildren starts lives = (l : Life) → Has l lives → (l.name ≡ [] → ⊥) → IsStartOrChild starts lives l

-- each life has a name
abbrev pub AreNamed : List Life → Type 0
AreNamed lives = (l : Life) → Has l lives → l.name ≡ [] → ⊥

-- how many lives have the name
abbrev pub times : List ℕ → List Life → ℕ
times name [] = 0
times name (l ∷ ls) = cond (same_name name l.name) 1 0 + times name ls

-- no two lives have one name, except slots that are kept, which have none
abbrev pub AreApart : List Life → Type 0
AreApart lives = (name : List ℕ) → (name ≡ [] → ⊥) → times name lives ≤ 1

-- of the starts only the first n are among the lives
abbrev pub AreBelow : ℕ → List Life → Type 0
AreBelow n lives = (l : Life) (i : ℕ) → Has l lives → l.name ≡ i ∷ [] → i < n

-- n starts were made or refused: they, and the children that lives have named, are unfinished (`out`) or have ended, each
-- once, and there are no others
pub record IsRostered (starts : List Start) (n : ℕ) (out ended : List Life) : Type 0 where
  pub started : Started starts n (out ++ ended)
  pub closed : Closed (out ++ ended)
  pub kin : AreStartsOrChildren starts (out ++ ended)
  pub named : AreNamed ended
  pub below : AreBelow n (out ++ ended)
  pub once : AreApart (out ++ ended)

-- why a start may be refused, by its image and the view of the seat that is left. NoSlot, SharersFull: nothing is said here.
-- BadImage: the image fails this check. NoFrame: it passes all, and the free count was read as 0 with fewer frames reserved
-- than it needs, and none was claimed. There is no other reason
abbrev pub RefusesStart : Image → View → Refusal → Type 0
RefusesStart image v refusal.NoSlot = Unit {0}
RefusesStart image v refusal.SharersFull = Unit {0}
RefusesStart image v (refusal.BadImage part) = image_loads Sv39 image ≡ Err part
RefusesStart image v refusal.NoFrame = (ls : List LoadSegment) × (image_loads Sv39 image ≡ Ok ls) × IsStarved (start_need Sv39 ls) v
RefusesStart image v r = ⊥

-- if the name is that of a start, the process is that of the start's image
abbrev pub BeginsAsImage : List Start → List ℕ → Process → Type 0
BeginsAsImage starts name p = (s : Start) → IsOfStart starts name s → ∥ IsProcessOf s.image p ∥₁

-- the journal is of the first calls of the list, and replays from the process with this code, which of a start is its image's;
-- each call is answered over files that the run reached, if it needs any
abbrev pub HasRun : List File → List Start → List Call → List ℕ → Gv → List JournalEntry → Type 0
HasRun files starts calls name opening journal = (p q : Process) × (code_of p ≡ opening) × BeginsAsImage starts name p
    × Replays p 0 0 calls journal q × RunsOver files calls p journal

-- `HasRun`, and at the end the journal has `MOST_ENTRIES` entries, or the process has a mapping and its next call asks a promise for
-- which a history of the files has no room. v is the seat's view then
abbrev pub HasRunFull : List File → List Start → List Call → View → List ℕ → Gv → List JournalEntry → Type 0
HasRunFull files starts calls v name opening journal = (p q : Process) × (code_of p ≡ opening) × BeginsAsImage starts name p
    × Replays p 0 0 calls journal q × LacksJournalRoom v q calls journal outcome.JournalFull × RunsOver files calls p journal

-- the reply does not end the process; `GoOn`: no reply of the journal does
abbrev pub lets_go_on : Reply → Bool
lets_go_on (reply.Scalar (scalar.Ended rule)) = false
lets_go_on (reply.Scalar (scalar.Exited status)) = false
lets_go_on r = true

abbrev pub all_go_on : List JournalEntry → Bool
all_go_on [] = true
all_go_on (e ∷ es) = lets_go_on e.reply && all_go_on es

abbrev pub GoOn : List JournalEntry → Type 0
GoOn es = all_go_on es ≡ true

-- the last entry has this reply, and none before it ends the process
abbrev pub EndsIn : Reply → List JournalEntry → Type 0
EndsIn r journal = (es : List JournalEntry) × (e : JournalEntry) × (journal ≡ es ++ e ∷ []) × (e.reply ≡ r) × GoOn es

-- the journal by the outcome: a process that was started has made the first calls of its list; after Memory it has fewer
-- than `MOST_ENTRIES` entries; only a start is refused, and then it has made no call
abbrev pub AsEnded : List File → List Start → List Call → View → ProcessEnd → List ℕ → Gv → List JournalEntry → Type 0
AsEnded files starts calls v (outcome.Exited status) name opening journal = HasRun files starts calls name opening journal
    × EndsIn (reply.Scalar (scalar.Exited status)) journal
AsEnded files starts calls v (outcome.Ended rule) name opening journal =
    HasRun files starts calls name opening journal × EndsIn (reply.Scalar (scalar.Ended rule)) journal
AsEnded files starts calls v (outcome.Refused r) name opening journal = (journal ≡ []) × ((s : Start) × IsOfStart starts name s × RefusesStart s.image v r)
AsEnded files starts calls v outcome.Memory name opening journal = HasRun files starts calls name opening journal × GoOn journal
    × (length journal < MOST_ENTRIES)
AsEnded files starts calls v outcome.JournalFull name opening journal = HasRunFull files starts calls v name opening journal × GoOn journal

-- f is the end of life l, which may be a start that was refused: it has the name, its journal is as the outcome says and
-- names the life's children, and its seat is at this table and holds nothing
pub record IsEnded (table : TableId) (files : List File) (lists : List (List Call)) (starts : List Start) (l : Life) (f : Finished) : Type 0 where
  pub name : f.name.items ≡ l.name
  pub children : births_of f.journal.items ≡ l.children
  pub seat : FitsIn table f.seat
  pub bare : IsBare (view_of f.seat)
  pub ended : AsEnded files starts (list_at lists l.birth.list) (view_of f.seat) f.outcome l.name l.birth.opening f.journal.items
  pub few : length f.journal.items ≤ MOST_ENTRIES

-- the ends are those of the lives, one for each, in the same order
abbrev pub Each : TableId → List File → List (List Call) → List Start → List Life → List Finished → Type 0
Each table files lists starts [] [] = Unit {0}
Each table files lists starts (l ∷ ls) (f ∷ fs) = IsEnded table files lists starts l f × Each table files lists starts ls fs
Each table files lists starts ls fs = ⊥

-- The processes are the ends of lives: of each start with its list, of each child that a journal names with the list of its
-- fork and as `child_of` the process before the fork, and of no others. No two have one name. Each seat is at this table.
pub record ComesBack (table : TableId) (files : List File) (lists : List (List Call)) (starts : List Start) (ended : List Finished) : Type 0 where
  pub lives : List Life
  pub each : Each table files lists starts lives ended
  pub started : Started starts (length starts) lives
  pub children : Closed lives
  pub kin : (l : Life) → Has l lives → IsStartOrChild starts lives l
  pub once : (name : List ℕ) → times name lives ≤ 1

-- if a slot is kept, its voucher is of this table and has no name
abbrev pub IsAdmitted : TableId → Admission → Type 0
IsAdmitted token_table (admission.Kept v) = HoldsAt token_table v × (held_of v ≡ nameless ∷ [])
IsAdmitted token_table a = Unit {0}

-- an unfinished process and what its voucher has: its name, how it began and how its children began. A start began as the
-- process of its image, and no call has ended the process
pub record IsOut (files : List File) (all : List (List Call)) (starts : List Start) (held : List Life) (t : Track) : Type 0 where
  pub holds : held ≡ entry t.name (began t) (births_of t.journal) ∷ []
  pub lists : t.lists ≡ all
  pub named : t.name ≡ [] → ⊥
  pub opens : BeginsAsImage starts t.name t.opening
  pub runs : ∥ ReplaysOver files t.opening 0 0 (calls_of t) t.journal t.state ∥₁
  pub goes : GoOn t.journal

-- an ended process and the life that its voucher has: it is the end of that life, which has a name, and its outcome is no
-- refusal
abbrev pub IsEndedWithToken : TableId → List File → List (List Call) → List Start → List Life → Finished → Type 0
IsEndedWithToken table files lists starts held f = (l : Life) × (held ≡ l ∷ []) × (l.name ≡ [] → ⊥) × IsEnded table files lists starts l f × Unrefused f.outcome

-- the parent has named the child, which the parent's voucher does not list yet
pub record IsBirth (held : List Life) (parent child : Track) : Type 0 where
  pub before : List Birth
  pub holds : held ≡ entry parent.name (began parent) before ∷ []
  pub named : parent.name ≡ [] → ⊥
  pub journal : births_of parent.journal ≡ before ++ began child ∷ []
  pub name : child.name ≡ parent.name ++ length before ∷ []
  pub none : child.journal ≡ []
