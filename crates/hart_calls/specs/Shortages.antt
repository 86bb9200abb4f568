-- `Shortage` (data type): what a call needed and did not get: nothing, frames at a page, or a refusal. `CanBeShort`: the
-- shortages that a call can meet (other processes take frames, slots and memory too); `WasAsked`: the promise (reservation
-- of file I/O) that was asked; `call_environment`: the model's input; the refusals of promises and of forks.
use Rattle.std.specs.Prelude.{◌≡◌, ◌⊎◌, ℕ, ◌+◌, ◌<◌, ◌==◌, Bool, true, false, length, None, take}
use Rattle.fault_rules.specs.Serves.{served_moves}
use Rattle.mmap_regions.specs.MunmapEffect.{unmap_moves}
use Rattle.process_model.specs.Environment.{Environment, need_at, Progress}
use Rattle.process_model.specs.Copies.{Copied, copied_in, copied_out}
use Rattle.process_model.specs.Files.{File}
use Rattle.process_model.specs.PageMoves.{all_moves}
use Rattle.process_model.specs.Process.{Process, regions}
use Rattle.process_model.specs.Regions.{copy_rule}
use Rattle.process_model.specs.declared.call.Call.{Call}
use Rattle.process_model.specs.declared.call.Call.TheVariants as call
use Rattle.process_model.specs.declared.reply.Refusal.{Refusal}
use Rattle.process_model.specs.declared.reply.Refusal.TheVariants as refusal
use Rattle.std.specs.Prelude.{List}
use Rattle.sv39_entry.specs.Address.{page_of}
use Rattle.sv39_entry.specs.declared.access.Access.{Access}
use Rattle.sv39_entry.specs.declared.access.Access.TheVariants.{Fetch, Load, Store}

pub data Shortage : Type 0 where
  nothing : Shortage
  -- too few frames were free when the call reached this page
  frames_at : ℕ → Shortage
  -- the call was refused thus; a copy, after this number of bytes
  refused : ℕ → Refusal → Shortage

abbrev pub is_dry_at : Shortage → ℕ → Bool
is_dry_at (frames_at n) page = page == n
is_dry_at _ page = false

-- what the model of a call takes from outside its process: these files, and the shortage of frames. Every page counts as one
-- that another process has too, so the need is the greatest possible; copy numbers mean nothing to a process alone
abbrev pub call_environment : List File → Shortage → Environment
call_environment files shortage = record { files = files; others_have = λ copy. true; is_dry = λ page total. is_dry_at shortage page }

abbrev pub initial_progress : Process → Progress
initial_progress p = record { process = p; fresh = 0; taken = 0 }

-- making the page resident for the access takes frames, if each settled page counts as one that another process has too
abbrev pub CanTakeFrames : List File → Process → Access → ℕ → Type 0
CanTakeFrames files p access page = 0 < need_at (call_environment files nothing) access page p

-- the copy has not stopped, and asks a promise for its next byte: no rule denies the byte, and its page is an unsettled one
-- of a file
abbrev pub AsksNext : List File → Copied → Access → ℕ → Type 0
AsksNext files c access address = let p = c.progress.process in (c.stop ≡ None)
    × (0 < length (served_moves files p (page_of address) (copy_rule p.scheme (regions p) access address)))

-- the refusals of a promise of the files
abbrev pub IsUnpromised : Refusal → Type 0
IsUnpromised refusal.Memory = Unit {0}
IsUnpromised refusal.JournalFull = Unit {0}
IsUnpromised _ = ⊥

-- the refusals of a fork
abbrev pub IsForkRefusal : Refusal → Type 0
IsForkRefusal refusal.NoFrame = Unit {0}
IsForkRefusal refusal.NoSlot = Unit {0}
IsForkRefusal refusal.SharersFull = Unit {0}
IsForkRefusal refusal.Memory = Unit {0}
IsForkRefusal _ = ⊥

-- the process as a copy leaves it that stopped at this page for want of frames: CopyIn, then CopyOut
abbrev pub in_progress : List File → Process → ℕ → ℕ → ℕ → Process
in_progress files p page address n = (copied_in (call_environment files (frames_at page)) (initial_progress p) address n).progress.process

abbrev pub out_progress : List File → Process → ℕ → ℕ → List ℕ → Process
out_progress files p page address bytes = (copied_out (call_environment files (frames_at page)) (initial_progress p) address bytes).progress.process

-- a call that was refused while its process continues: the promise that it asked could be refused thus. Or, for exec, the
-- promise was kept and frames were missing
abbrev pub AskedBy : (ℕ → Refusal → Type 0) → (ℕ → Type 0) → Process → Call → Refusal → Type 0
AskedBy Refused Promised p (call.Munmap address len) r = Refused (length (unmap_moves p address len)) r
AskedBy Refused Promised p (call.Exec image) r = ((r ≡ refusal.NoFrame) × Promised (length (all_moves p))) ⊎ Refused (length (all_moves p)) r
AskedBy Refused Promised p (call.CopyIn address n) r = Refused 1 r
AskedBy Refused Promised p (call.CopyOut address bytes) r = Refused 1 r
AskedBy Refused Promised p c r = Unit {0}

-- if the shortage is a refusal, `AskedBy` holds of it
abbrev pub WasAsked : (ℕ → Refusal → Type 0) → (ℕ → Type 0) → Process → Call → Shortage → Type 0
WasAsked Refused Promised p c (refused done r) = AskedBy Refused Promised p c r
WasAsked Refused Promised p c shortage = Unit {0}

-- the shortages that a call of a process can meet
abbrev pub CanBeShort : List File → Process → Call → Shortage → Type 0
CanBeShort files p c nothing = Unit {0}
CanBeShort files p (call.Fetch address) (frames_at page) = (page ≡ page_of address) × CanTakeFrames files p Fetch page
CanBeShort files p (call.Load address width) (frames_at page) = (page ≡ page_of address) × CanTakeFrames files p Load page
CanBeShort files p (call.Store address width value) (frames_at page) = (page ≡ page_of address) × CanTakeFrames files p Store page
CanBeShort files p (call.CopyIn address n) (frames_at page) = CanTakeFrames files (in_progress files p page address n) Load page
CanBeShort files p (call.CopyOut address bytes) (frames_at page) = CanTakeFrames files (out_progress files p page address bytes.now) Store page
CanBeShort files p (call.CopyIn address n) (refused done r) = (done < n) × IsUnpromised r
    × AsksNext files (copied_in (call_environment files nothing) (initial_progress p) address done) Load (address + done)
CanBeShort files p (call.CopyOut address bytes) (refused done r) = (done < length bytes.now) × IsUnpromised r
    × AsksNext files (copied_out (call_environment files nothing) (initial_progress p) address (take done bytes.now)) Store (address + done)
CanBeShort files p (call.Munmap address len) (refused done r) = IsUnpromised r × (0 < length (unmap_moves p address len))
CanBeShort files p (call.Exec image) (refused done r) = (r ≡ refusal.NoFrame) ⊎ (IsUnpromised r × (0 < length (all_moves p)))
CanBeShort files p (call.Fork list) (refused done r) = IsForkRefusal r
CanBeShort files p c shortage = ⊥
