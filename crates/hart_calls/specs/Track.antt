-- `Track` (record): an unfinished process as contracts see it: name, lists, first and present process, journal (its calls
-- with their replies), view of its seat. Its next call and next child's name; forks name lists that exist (`NameLists`);
-- relations: one entry more (`AppendsEntry`), the next child (`IsChild`), unchanged but for the memory of its journal
-- (`SameTrack`), and for what its seat read (`SameButSeat`).
use Rattle.std.specs.Prelude.{◌≡◌, ℕ, ◌<◌, ◌∷◌, [], ◌++◌, All, List, length}
use Rattle.frame_store.specs.View.{View}
use Rattle.hart_calls.specs.Replay.{call_at, call_of, forks, list_at}
use Rattle.hart_calls.specs.declared.journal_entry.JournalEntry.{JournalEntry}
use Rattle.process_model.specs.Process.{Process}
use Rattle.process_model.specs.Residence.{child_of}
use Rattle.process_model.specs.declared.call.Call.{Call}
use Rattle.process_model.specs.declared.call.Call.TheVariants as call

pub record Track : Type 0 where
  pub name : List ℕ
  pub lists : List (List Call)
  -- the number of its list in `lists`
  pub list : ℕ
  -- the process that it began with
  pub opening : Process
  -- the process that it is: the journal leads to it
  pub state : Process
  pub journal : List JournalEntry
  -- the view of its seat
  pub seat : View
  -- how many entries more the journal has memory for
  pub room : ℕ

-- its list
abbrev pub calls_of : Track → List Call
calls_of t = list_at t.lists t.list

-- its next call
abbrev pub next_of : Track → Call
next_of t = call_at (calls_of t) (length t.journal)

-- the name of its next child
abbrev pub child_name : Track → List ℕ
child_name t = t.name ++ forks t.journal ∷ []

-- each fork names a list that exists

abbrev pub NamesList : ℕ → Call → Type 0
NamesList n (call.Fork list) = list < n
NamesList n c = Unit {0}

abbrev pub NameLists : List (List Call) → Type 0
NameLists lists = All (λ calls. All (NamesList (length lists)) calls) lists

-- u is t with entry e more in its journal, for the list's next call: name, lists and opening process are unchanged
pub record AppendsEntry (t u : Track) (e : JournalEntry) : Type 0 where
  pub name : u.name ≡ t.name
  pub lists : u.lists ≡ t.lists
  pub list : u.list ≡ t.list
  pub opening : u.opening ≡ t.opening
  pub journal : u.journal ≡ t.journal ++ e ∷ []
  pub next : call_of e ≡ next_of t

-- c is the next child of t and has list k. It begins as `child_of` the process that t is, with an empty journal
pub record IsChild (t c : Track) (k : ℕ) : Type 0 where
  pub name : c.name ≡ child_name t
  pub lists : c.lists ≡ t.lists
  pub list : c.list ≡ k
  pub opening : c.opening ≡ child_of t.state
  pub state : c.state ≡ child_of t.state
  pub journal : c.journal ≡ []

-- u is t, but for the memory of its journal
pub record SameTrack (t u : Track) : Type 0 where
  pub name : u.name ≡ t.name
  pub lists : u.lists ≡ t.lists
  pub list : u.list ≡ t.list
  pub opening : u.opening ≡ t.opening
  pub state : u.state ≡ t.state
  pub journal : u.journal ≡ t.journal
  pub seat : u.seat ≡ t.seat

-- u is t, but for the memory of its journal and the view of its seat: what the seat read of counts, and the frames that it
-- holds
pub record SameButSeat (t u : Track) : Type 0 where
  pub name : u.name ≡ t.name
  pub lists : u.lists ≡ t.lists
  pub list : u.list ≡ t.list
  pub opening : u.opening ≡ t.opening
  pub state : u.state ≡ t.state
  pub journal : u.journal ≡ t.journal
