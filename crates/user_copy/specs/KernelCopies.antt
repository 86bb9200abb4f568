-- Records for the contracts of the kernel copies (copyin, copyout), with the access as a parameter: what a copy of bytes
-- does (`IsKernelCopy`), and why and where it stopped (`StopsCopy`). Also functions of a copy's result: what stopped it, and
-- how many bytes were copied.
use Rattle.std.specs.Prelude.{◌≡◌, ◌≢◌, ℕ, false, true, ◌+◌, ◌<◌, IfErr, List, length, None, Option, Some, Result, Ok, Err}
use Rattle.address_space.specs.Agreement.{IsSpace}
use Rattle.fault_rules.specs.MadeResident.{resident_reads}
use Rattle.fault_rules.specs.PageService.{body_at, Moment, StoreModel}
use Rattle.frame_store.specs.Laws.{KeepsSeats}
use Rattle.process_model.specs.Copies.{Copied}
use Rattle.process_model.specs.Frames.{resident_need}
use Rattle.process_model.specs.Process.{Process, regions}
use Rattle.process_model.specs.Regions.{copy_rule}
use Rattle.process_model.specs.Residence.{is_resident}
use Rattle.process_model.specs.declared.reply.Refusal.{Refusal}
use Rattle.sv39_entry.specs.Address.{page_of}
use Rattle.sv39_entry.specs.declared.access.Access.{Access}
use Rattle.sv39_entry.specs.declared.rule.Rule.{Rule}
use Rattle.sv39_entry.specs.declared.rule.Rule.TheVariants.{NoFrame}
use Rattle.table_walk.specs.Tables.{Tables}
use Rattle.user_copy.specs.CopyModel.{IsModelCopy, stop_in}
use Rattle.user_copy.specs.CopyOfProcess.{AreGranted, IsAfterCopy, RanShort}
use Rattle.user_copy.specs.ReachedPage.{StillStands}
use Rattle.user_copy.specs.declared.short.Short.{Short}
use Rattle.user_copy.specs.declared.short.Stop.{Stop}
use Rattle.user_copy.specs.declared.short.Stop.TheVariants.{Denied, Unpromised}

-- what stopped a part of a copy, None if nothing did
abbrev pub stop_told : {A : Type 0} → Result A Stop → Option Stop
stop_told (Ok a) = None
stop_told (Err stop) = Some stop

-- how many bytes were copied to a process: all, which are n, or those before the stop
abbrev pub count_or : {A : Type 0} → ℕ → Result A Short → ℕ
count_or n (Ok a) = n
count_or n (Err short) = short.done

-- a copy at `address`, from moment a to moment b, stopped after `done` bytes, for the reason `stop`; the space was process p
pub record StopsCopy {Seat Frames Cabinet : Type 0} (l : StoreModel Seat Frames Cabinet) (a b : Moment Seat Frames Cabinet) (p : Process)
    (access : Access) (address done : ℕ) (stop : Stop) : Type 0 where
  -- a rule: it is the first that denies the address
  pub first : (rule : Rule) → stop ≡ Denied rule → rule ≢ NoFrame → copy_rule p.scheme (regions p) access (address + done) ≡ Some rule
  -- NoFrame: no rule denies the address, and its page was not resident
  pub dry : stop ≡ Denied NoFrame → (copy_rule p.scheme (regions p) access (address + done) ≡ None)
      × (is_resident p access (page_of (address + done)) ≡ false)
  -- a refused promise: no rule denies the address, and its page begins with a page of a file
  pub unpromised : (e : Refusal) → stop ≡ Unpromised e → (copy_rule p.scheme (regions p) access (address + done) ≡ None)
      × (0 < length (resident_reads (l.files a.files) p (page_of (address + done))))
  -- NoFrame: the process after the bytes before the stop, q, needs more frames for the page than could be reserved
  pub lacks : stop ≡ Denied NoFrame → (u : Tables) × (q : Process) × IsSpace (body_at l b) u q × IsAfterCopy access address done p q
      × RanShort (l.view a.space.seat) (l.view b.space.seat) q access (page_of (address + done))
      × (l.alone → l.free b.store < resident_need true q access (page_of (address + done)))

-- a copy of n bytes at `address`, from moment a to moment b, has this result, and `bytes` are those that were copied;
-- `copied` is the model's copy of a process, and `Has p q` says which bytes the process q after it has, by those of p, the
-- process before it
pub record IsKernelCopy {Seat Frames Cabinet A : Type 0} (l : StoreModel Seat Frames Cabinet) (a b : Moment Seat Frames Cabinet) (access : Access)
    (address n : ℕ) (bytes : List ℕ) (result : Result A Short) (copied : Process → Copied) (Has : Process → Process → Type 0) : Type 0 where
  -- it is the model's copy
  pub model : (t : Tables) (p : Process) → IsSpace (body_at l a) t p → IsModelCopy (body_at l b) (copied p) bytes (stop_in result)
  -- no rule denies an address of these bytes
  pub granted : (t : Tables) (p : Process) → IsSpace (body_at l a) t p → AreGranted p access address (length bytes)
  -- the process after it: regions stay, the pages of these bytes are resident, the others are settled as they were
  pub after : (t : Tables) (p : Process) → IsSpace (body_at l a) t p → (u : Tables) × (q : Process) × IsSpace (body_at l b) u q
      × IsAfterCopy access address (length bytes) p q × Has p q
  -- why it stopped, if it did, and that it was then not whole
  pub stops : (t : Tables) (p : Process) → IsSpace (body_at l a) t p
      → IfErr result (λ short. StopsCopy l a b p access address short.done short.rule)
  pub fewer : IfErr result (λ short. short.done < n)
  -- the files stay, a process stays one, and the store's invariant is kept for all other seats
  pub same_files : l.files b.files ≡ l.files a.files
  pub space : StillStands (body_at l a) (body_at l b)
  pub keeps : KeepsSeats l.invariant a.store a.space.seat b.store b.space.seat
