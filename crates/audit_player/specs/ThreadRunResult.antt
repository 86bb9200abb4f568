-- What `play_threads` returns and writes, by the bytes of the file for threads (`PlaysThreads`, `PlaysLists`): a text of a
-- run that the file allows (`IsTextOf`), its refusal, or a prefix after a failed read or write; that all user frames are free
-- after a run (`LeavesFree`).
use Rattle.std.specs.Prelude.{◌≡◌, ◌⊎◌, ℕ, ◌-◌, List, map, Option, None, Some, Result, Ok, Err}
use Rattle.std.specs.Io.KnownBytes.{Appends, Keeps}
use Rattle.std.specs.List.Sorted.{IsPermutation}
use Rattle.atomic_table.specs.Seated.{TableId}
use Rattle.frame_store.specs.View.{View}
use Rattle.hart_calls.specs.declared.finished.Finished.{Finished}
use Rattle.run_roster.specs.RosterState.{ComesBack}
use Rattle.run_roster.specs.StartFrames.{ArePoolStarts}
use Rattle.process_model.specs.Frames.{kernel_frames}
use Rattle.process_model.specs.Files.{file_of}
use Rattle.script_language.specs.ThreadScript.{ThreadScript, thread_script_of}
use Rattle.process_model.specs.declared.call.Call.{Call}
use Rattle.script_language.specs.declared.declarations.Pool.{Pool}
use Rattle.process_model.specs.declared.call.Start.{Start}
use Rattle.script_language.specs.declared.script.Cause.{Cause}
use Rattle.shared_frames.specs.Totals.{AreLastTotals, held_frames}
use Rattle.audit_player.specs.InputOutput.{WroteSome}
use Rattle.audit_player.specs.ThreadLists.{AreListsOf, AreStartsOf}
use Rattle.audit_player.specs.ThreadText.{AreInOrder, threads_text}
use Rattle.audit_player.specs.declared.fault.PlayError.{PlayError}
use Rattle.audit_player.specs.declared.fault.PlayError.TheVariants as error
use Rattle.sv39_entry.specs.declared.scheme.Scheme.TheVariants.{Sv39}

abbrev pub kernel_of : Pool → ℕ
kernel_of p = kernel_frames Sv39 p.frames p.slots

abbrev pub user_frames : Pool → ℕ
user_frames p = p.frames - kernel_of p

-- How a run leaves the frames of its pool. The kernel's seat holds as many frames as the kernel takes, and is the sole holder
-- of frame 0, the trampoline's, whose count is 1. No other seat holds a frame or has a credit (`AreLastTotals`). So `free`,
-- how many frames have count 0, is all user frames.
pub record LeavesFree (pool : Pool) (free : ℕ) : Type 0 where
  pub view : View
  pub kernel : held_frames pool.frames view ≡ kernel_of pool
  pub totals : AreLastTotals pool.frames view free 1
  pub all : free ≡ user_frames pool

-- A text that playing the file may write: how processes ended, a line for each start and each child, sorted by their names, and
-- last that all user frames are free, as in a pool that was left so (`LeavesFree`). The processes are those of a run of the
-- file's lists and starts over its declared files (`ComesBack`), in its slots and frames (`ArePoolStarts`); their seats are at
-- one table of frames.
pub record IsTextOf (s : ThreadScript) (whole : List ℕ) : Type 0 where
  pub lists : List (List Call)
  pub are_lists : AreListsOf s.images s.lists lists
  pub starts : List Start
  pub are_starts : AreStartsOf s.images s.starts starts
  pub ended : List Finished
  pub table : TableId
  pub comes : ComesBack table (map file_of s.files) lists starts ended
  pub refusals : ArePoolStarts s.pool.slots (user_frames s.pool) starts ended
  pub shown : List Finished
  pub same : IsPermutation ended shown
  pub order : AreInOrder shown
  pub leaves : LeavesFree s.pool (user_frames s.pool)
  pub text : whole ≡ threads_text shown (user_frames s.pool) (user_frames s.pool)

-- after `Ok`: the file is accepted, and all of a text of it was written
abbrev pub WritesThreads : Option (List ℕ) → Option (List ℕ) → Result ThreadScript (ℕ × Cause) → Type 0
WritesThreads old new (Ok s) = (text : List ℕ) × IsTextOf s text × Appends old new text
WritesThreads old new (Err f) = ⊥

-- after `Io`: nothing was written or, if the file is accepted, a prefix of a text of it
abbrev pub BreaksOff : Option (List ℕ) → Option (List ℕ) → Result ThreadScript (ℕ × Cause) → Type 0
BreaksOff old new (Ok s) = Keeps old new ⊎ ((text : List ℕ) × IsTextOf s text × WroteSome old new text)
BreaksOff old new (Err f) = Keeps old new

-- After an error. `Script`: the file is refused, by this line and cause, and nothing was written. `Memory`:
-- nothing was written. `Io`: `BreaksOff`.
abbrev pub RefusesThreads : Option (List ℕ) → Option (List ℕ) → PlayError → Result ThreadScript (ℕ × Cause) → Type 0
RefusesThreads old new (error.Script n c) script = (script ≡ Err (n, c)) × Keeps old new
RefusesThreads old new error.Memory script = Keeps old new
RefusesThreads old new error.Io script = BreaksOff old new script

abbrev pub PlaysLists : Option (List ℕ) → Option (List ℕ) → Result (Unit {0}) PlayError → Result ThreadScript (ℕ × Cause) → Type 0
PlaysLists old new (Ok u) script = WritesThreads old new script
PlaysLists old new (Err e) script = RefusesThreads old new e script

-- The bytes that the reader has left, what the writer holds before and after, and the result. If the bytes of the reader are
-- not known, there are some for which it holds.
abbrev pub PlaysThreads : Option (List ℕ) → Option (List ℕ) → Option (List ℕ) → Result (Unit {0}) PlayError → Type 0
PlaysThreads None old new result = (bytes : List ℕ) × PlaysLists old new result (thread_script_of bytes)
PlaysThreads (Some bytes) old new result = PlaysLists old new result (thread_script_of bytes)
