-- Predicates that hold of each file for threads that the reader accepts (`IsThreadPlayable`): its pool can be shared
-- (`CanShare`), its files and its lists of calls keep their limits (`IsList`), and what its lines name is declared, with at
-- most 256 bytes in a `copyout` (`IsDeclaredLine`, `IsStart`). So only a start or a call can still be refused.
use Rattle.std.specs.Prelude.{ℕ, ◌<◌, ◌≤◌, List, length, IsTrue, All}
use Rattle.process_model.specs.declared.limits.TheConstants.{LONGEST_COPY, MOST_FILES}
use Rattle.process_model.specs.Frames.{can_share}
use Rattle.script_language.specs.ThreadScript.{ThreadScript, has_list}
use Rattle.process_model.specs.declared.call.Call.{Call}
use Rattle.process_model.specs.declared.call.Call.TheVariants as call
use Rattle.script_language.specs.declared.declarations.CallList.{CallList}
use Rattle.script_language.specs.declared.declarations.ListedCall.{ListedCall}
use Rattle.script_language.specs.declared.declarations.ListedCall.TheVariants as listed
use Rattle.script_language.specs.declared.declarations.ListedStart.{ListedStart}
use Rattle.script_language.specs.declared.declarations.Pool.{Pool}
use Rattle.script_language.specs.declared.declarations.OwnedImage.{OwnedImage}
use Rattle.script_reader.specs.Playable.{FitsFile}
use Rattle.script_language.specs.declared.limits.TheConstants.{MOST_CALLS, MOST_LISTS}

abbrev pub CanShare : Pool → Type 0
CanShare p = IsTrue (can_share p.frames p.slots)

abbrev pub HasList : List CallList → ℕ → Type 0
HasList lists k = IsTrue (has_list lists k)

-- the list that a fork names is one of the file's
abbrev pub IsDeclaredCall : List CallList → Call → Type 0
IsDeclaredCall lists (call.Fork k) = HasList lists k
IsDeclaredCall lists c = Unit {0}

-- the list or the image that the line names is declared; a `copyout` has at most `LONGEST_COPY` bytes
abbrev pub IsDeclaredLine : List OwnedImage → List CallList → ListedCall → Type 0
IsDeclaredLine images lists (listed.One c) = IsDeclaredCall lists c
IsDeclaredLine images lists (listed.Exec n) = n < length images
IsDeclaredLine images lists (listed.CopyOut a bytes) = length bytes ≤ LONGEST_COPY

pub record IsList (images : List OwnedImage) (lists : List CallList) (l : CallList) : Type 0 where
  pub number : l.number < MOST_LISTS
  pub few : length l.calls ≤ MOST_CALLS
  pub calls : All (IsDeclaredLine images lists) l.calls

abbrev pub IsStart : List OwnedImage → List CallList → ListedStart → Type 0
IsStart images lists s = (s.image < length images) × HasList lists s.list

pub record IsThreadPlayable (s : ThreadScript) : Type 0 where
  pub shares : CanShare s.pool
  pub few : length s.files ≤ MOST_FILES
  pub files : All FitsFile s.files
  pub few_lists : length s.lists ≤ MOST_LISTS
  pub lists : All (IsList s.images s.lists) s.lists
  pub starts : All (IsStart s.images s.lists) s.starts
