-- The words of the headline, predicates and functions: steps, with their harts and phases (idle, user mode, kernel, the way
-- between), and buffers and marks after them; `UserAccess`, and whether it is granted, resident or forbidden; kinds of
-- replies; which steps take frames; how a process or a forked child begins; and what a step writes back to files.
use Rattle.std.specs.Prelude.{◌≡◌, ◌≢◌, ◌⊎◌, ℕ, Bool, true, false, ◌+◌, ◌<◌, ◌≤◌, ◌%◌, ◌==◌, Option, None, Some, List, length, option_map}
use Rattle.std.specs.Prelude.{pos, remove, slice_get, if◌then◌else◌}
use Rattle.std.specs.Borrow.{Bor}
use Rattle.process_laws.specs.RuleDenials.{IsFirst}
use Rattle.process_laws.specs.Moments.{Moment, slot_on}
use Rattle.process_laws.specs.FilePlaces.{file_bytes}
use Rattle.process_laws.specs.Latest.{byte_at, byte_had}
use Rattle.process_laws.specs.Pages.{Grant, grant as grant_of, grant_after, has_cow_mark, has_dirty_mark, is_between, is_ready_page, size_after}
use Rattle.process_model.specs.Bytes.{pages_for}
use Rattle.process_model.specs.Files.{File, is_writable}
use Rattle.process_model.specs.Harts.{fenced, Hart, Key, present_asid, with_key}
use Rattle.process_model.specs.Process.{Process, regions}
use Rattle.process_model.specs.Regions.{file, Region, region_at, shared_mapping}
use Rattle.process_model.specs.World.{has_slot, World, is_unserved_access, process_in}
use Rattle.process_model.specs.Stale.{is_changed}
use Rattle.process_model.specs.declared.config.Policy.{Policy}
use Rattle.process_model.specs.declared.config.Policy.TheVariants.{Asid, Full}
use Rattle.process_model.specs.declared.phase.Phase.{Phase}
use Rattle.process_model.specs.declared.phase.Phase.TheVariants.{Kernel}
use Rattle.process_model.specs.declared.reply.Refusal.{Refusal}
use Rattle.process_model.specs.declared.reply.Refusal.TheVariants as refusal
use Rattle.process_model.specs.declared.reply.Reply.{Reply}
use Rattle.process_model.specs.declared.reply.ScalarReply.TheVariants.{CopiedOut, Done, Ended, Exited, Fault, Filled, Forked, InFrame, MappedAt}
use Rattle.process_model.specs.declared.reply.ScalarReply.TheVariants.{OldSize, Ready, Refused, ShortOut, Started, Stored, Value}
use Rattle.process_model.specs.declared.reply.Reply.TheVariants.{CopiedIn, ShortIn, Scalar}
use Rattle.process_model.specs.declared.step.Step.{Step}
use Rattle.process_model.specs.declared.step.Step.TheVariants.{CopyIn, CopyOut, Evict, Exec, Exit, Fetch, Fill, Fork, Load, Mmap, Munmap}
use Rattle.process_model.specs.declared.step.Step.TheVariants.{Next, Sbrk, Serve, Start, Store, Switch, TrampolineFetch, Trap}
use Rattle.sv39_entry.specs.Address.{page_of}
use Rattle.sv39_entry.specs.Causes.{misaligned_cause, page_fault_cause}
use Rattle.sv39_entry.specs.declared.access.Access.{Access}
use Rattle.sv39_entry.specs.declared.access.Access.TheVariants as access
use Rattle.sv39_entry.specs.declared.rule.Rule.{Rule}
use Rattle.sv39_entry.specs.declared.rule.Rule.TheVariants.{NoFrame}

-- steps

-- the reply is no refusal: the step was made
abbrev pub IsMade : Reply → Type 0
IsMade r = (e : Refusal) → r ≢ Scalar (Refused e)

-- process p, in slot s, is on hart h
pub record IsOnHart (w : World) (h s : ℕ) (p : Process) : Type 0 where
  pub there : slot_on w h ≡ Some s
  pub lives : process_in w s ≡ Some p

-- the phase of hart h; None if there is no such hart
abbrev pub phase_on : World → ℕ → Option Phase
phase_on w h = option_map (λ hart. hart.phase) (slice_get w.harts h)

-- hart h is in that phase
abbrev pub IsInPhase : World → ℕ → Phase → Type 0
IsInPhase w h phase = phase_on w h ≡ Some phase

-- the hart whose process makes the step, or for whose process the kernel makes it; None for any other step
abbrev pub hart_of_step : Step → Option ℕ
hart_of_step (Trap h) = Some h
hart_of_step (Fetch h address via) = Some h
hart_of_step (Load h address width via) = Some h
hart_of_step (Store h address width value via) = Some h
hart_of_step (Serve h) = Some h
hart_of_step (Fork h) = Some h
hart_of_step (Exec h image) = Some h
hart_of_step (Sbrk h delta) = Some h
hart_of_step (Mmap h len protection flags n) = Some h
hart_of_step (Munmap h address len) = Some h
hart_of_step (CopyIn h address n) = Some h
hart_of_step (CopyOut h address bytes) = Some h
hart_of_step (Exit h status) = Some h
hart_of_step _ = None

-- the hart that makes the step; a start is made by none
abbrev pub hart_of : Step → Option ℕ
hart_of (Switch h slot) = Some h
hart_of (Next h) = Some h
hart_of (Fill h address) = Some h
hart_of (Evict h n) = Some h
hart_of (TrampolineFetch h offset via) = Some h
hart_of x = hart_of_step x

-- the hart whose phase or process the step may change
abbrev pub moved_hart : Step → Reply → Option ℕ
moved_hart (Switch h slot) r = Some h
moved_hart (Next h) r = Some h
moved_hart (Trap h) r = Some h
moved_hart x (Scalar (Fault cause)) = hart_of_step x
moved_hart x (Scalar (Ended rule)) = hart_of_step x
moved_hart x (Scalar (Exited status)) = hart_of_step x
moved_hart x r = None

-- whether the step is made on hart k
abbrev pub is_on_hart : Step → ℕ → Bool
is_on_hart x k = has_slot k (hart_of x)

-- the keys (page and ASID) of the entries in the buffer of hart k, in the order of filling; None if there is no such hart
abbrev pub keys_on : World → ℕ → Option (List Key)
keys_on w k = option_map (λ hart. hart.keys) (slice_get w.harts k)

-- the keys after a step on the hart: a fill adds one, last, and a full buffer loses its first; an eviction removes one, and the
-- instructions of entry and return those that their fences say (`fenced`)
abbrev pub keys_after : Policy → Hart → Step → List Key
keys_after policy hart (Fill h address) = with_key hart.keys (record { page = page_of address; asid = present_asid policy hart })
keys_after policy hart (Evict h n) = remove hart.keys n
keys_after policy hart (Next h) = (fenced policy hart).keys
keys_after policy hart x = hart.keys

-- whether hart k is marked for slot t: its buffer may have stale entries of the process there; None if there is no such hart
abbrev pub stale_on : World → ℕ → ℕ → Option Bool
stale_on w k t = option_map (λ hart. hart.stale t) (slice_get w.harts k)

-- the slots for which a hart is marked, after a step on the hart: with policy `asid` the last fence of a return takes the mark
-- of the process that returns (`fenced`)
abbrev pub stale_after : Policy → Hart → Step → ℕ → Bool
stale_after policy hart (Next h) = (fenced policy hart).stale
stale_after policy hart x = hart.stale

-- a slot before and after a step: a process started there, or its map from pages to copy numbers and marks changed
abbrev pub changed_at : Option (Option Process) → Option (Option Process) → Bool
changed_at None q = false
changed_at (Some p) None = false
changed_at (Some p) (Some q) = is_changed p q

-- whether a step marks every hart for slot t: with policy `asid`, if the slot changed
abbrev pub marks_slot : Policy → World → World → ℕ → Bool
marks_slot Full before after t = false
marks_slot Asid before after t = changed_at (slice_get before.slots t) (slice_get after.slots t)

-- the reply says that the process ended
abbrev pub is_end : Reply → Bool
is_end (Scalar (Ended rule)) = true
is_end (Scalar (Exited status)) = true
is_end _ = false

-- the reply says that the access faulted
abbrev pub is_fault : Reply → Bool
is_fault (Scalar (Fault cause)) = true
is_fault _ = false

-- the step may write back pages of shared mappings
abbrev pub writes_back : Step → Reply → Bool
writes_back (Munmap h address len) (Scalar Done) = true
writes_back (Exec h image) (Scalar Done) = true
writes_back x r = is_end r

-- the reply says that a process began in slot s
abbrev pub starts_in_slot : Reply → ℕ → Bool
starts_in_slot (Scalar (Started t)) s = t == s
starts_in_slot (Scalar (Forked t)) s = t == s
starts_in_slot r s = false

-- the kernel may be called for process p on hart h: the hart is in phase Kernel, and p waits for no service
pub record MayCall (w : World) (h : ℕ) (p : Process) : Type 0 where
  pub in_kernel : IsInPhase w h Kernel
  pub quiet : is_unserved_access p.pending ≡ false

-- the step is a kernel copy of n bytes for the process on hart h
pub data CopiesBytes (h : ℕ) : ℕ → Step → Type 0 where
  copy_in : {address n : ℕ} → CopiesBytes h n (CopyIn h address n)
  copy_out : {address : ℕ} {bytes : Bor (List ℕ)} → CopiesBytes h (length bytes.now) (CopyOut h address bytes)

-- accesses

-- a fetch, a load or a store of `width` bytes at `address`
pub record UserAccess : Type 0 where
  pub access : Access
  pub address : ℕ
  pub width : ℕ

-- the step is that user access on hart h: by buffer entry n (`Some n`), or by a walk (`None`)
pub data IsAccessStep (h : ℕ) (via : Option ℕ) : UserAccess → Step → Type 0 where
  fetch : {address : ℕ} → IsAccessStep h via (record { access = access.Fetch; address = address; width = 4 }) (Fetch h address via)
  load : {address width : ℕ} → IsAccessStep h via (record { access = access.Load; address = address; width = width }) (Load h address width via)
  store : {address width value : ℕ} → IsAccessStep h via (record { access = access.Store; address = address; width = width }) (Store h address width value via)

-- the region grants the right that the access needs
abbrev pub has_right : Region → Access → Bool
has_right r access.Fetch = r.executes
has_right r access.Load = r.reads
has_right r access.Store = r.writes

-- a region of p holds the page and grants the right, and the address is a multiple of the width
pub record IsGranted (p : Process) (a : UserAccess) : Type 0 where
  pub region : Region
  pub has : region_at (regions p) (page_of a.address) ≡ Some region
  pub right : has_right region a.access ≡ true
  pub aligned : a.address % a.width ≡ 0

-- its page is settled and ready for it (`is_ready` in `Pages`)
abbrev pub IsResident : Process → UserAccess → Type 0
IsResident p a = is_ready_page p a.access (page_of a.address) ≡ true

-- the rule forbids the access, and no rule before it does (`RuleDenials`)
abbrev pub Forbids : Process → UserAccess → Rule → Type 0
Forbids p a rule = IsFirst p.scheme (regions p) a.access a.address a.width rule

-- p, with the access a pending and not yet served
abbrev pub with_pending_access : Process → UserAccess → Process
with_pending_access p a = record p { pending = Some (record { access = a.access; address = a.address; width = a.width; served = false }) }

-- process p makes the access, and it is not refused
pub record Tries (m : Moment) (h s : ℕ) (p : Process) (a : UserAccess) : Type 0 where
  pub on : IsOnHart m.before h s p
  pub via : Option ℕ
  pub asks : IsAccessStep h via a m.step
  pub made : IsMade m.reply

-- the kernel serves the access a, for which the process in slot s waits, and is not refused; p is that process but for what is
-- pending
pub record Serves (m : Moment) (h s : ℕ) (p : Process) (a : UserAccess) : Type 0 where
  pub on : IsOnHart m.before h s (with_pending_access p a)
  pub serves : m.step ≡ Serve h
  pub made : IsMade m.reply

-- the cause of a fault of the access: the misaligned one if the address is not a multiple of the width, else the page
-- fault's
abbrev pub cause : UserAccess → ℕ
cause a = if a.address % a.width == 0 then page_fault_cause a.access else misaligned_cause a.access

-- one byte of a kernel copy, as an access
abbrev pub byte : Access → ℕ → UserAccess
byte access address = record { access = access; address = address; width = 1 }

-- replies

-- the answers to an access that succeeds
pub data IsAnswer : Access → Reply → Type 0 where
  fetched : {v : ℕ} → IsAnswer access.Fetch (Scalar (Value v))
  loaded : {v : ℕ} → IsAnswer access.Load (Scalar (Value v))
  stored : IsAnswer access.Store (Scalar Stored)

-- the replies that a step may get: a refusal, or one of its own
abbrev pub is_reply : Step → Reply → Bool
is_reply x (Scalar (Refused e)) = true
is_reply (Start image) (Scalar (Started s)) = true
is_reply (Switch h slot) (Scalar Done) = true
is_reply (Trap h) (Scalar Done) = true
is_reply (Next h) (Scalar Done) = true
is_reply (Fill h address) (Scalar (Filled n)) = true
is_reply (Evict h n) (Scalar Done) = true
is_reply (Fetch h address via) (Scalar (Value v)) = true
is_reply (Fetch h address via) (Scalar (Fault cause)) = true
is_reply (Load h address width via) (Scalar (Value v)) = true
is_reply (Load h address width via) (Scalar (Fault cause)) = true
is_reply (Store h address width value via) (Scalar Stored) = true
is_reply (Store h address width value via) (Scalar (Fault cause)) = true
is_reply (TrampolineFetch h offset via) (Scalar (InFrame n)) = true
is_reply (Serve h) (Scalar Ready) = true
is_reply (Serve h) (Scalar (Ended rule)) = true
is_reply (Fork h) (Scalar (Forked s)) = true
is_reply (Exec h image) (Scalar Done) = true
is_reply (Sbrk h delta) (Scalar (OldSize n)) = true
is_reply (Mmap h len protection flags n) (Scalar (MappedAt address)) = true
is_reply (Munmap h address len) (Scalar Done) = true
is_reply (CopyIn h address n) (CopiedIn bytes) = true
is_reply (CopyIn h address n) (ShortIn rule bytes) = true
is_reply (CopyOut h address bytes) (Scalar (CopiedOut n)) = true
is_reply (CopyOut h address bytes) (Scalar (ShortOut rule n)) = true
is_reply (Exit h status) (Scalar (Exited code)) = true
is_reply x r = false

-- a kernel copy: how many bytes were copied, and which rule stopped it

abbrev pub copied : Reply → ℕ
copied (CopiedIn bytes) = length bytes.items
copied (ShortIn rule bytes) = length bytes.items
copied (Scalar (CopiedOut n)) = n
copied (Scalar (ShortOut rule n)) = n
copied _ = 0

abbrev pub stopped_by : Reply → Option Rule
stopped_by (ShortIn rule bytes) = Some rule
stopped_by (Scalar (ShortOut rule n)) = Some rule
stopped_by _ = None

-- frames

-- the reply says NoFrame: a refusal, an end, or a copy that stopped
abbrev pub is_no_frame_reply : Reply → Bool
is_no_frame_reply (Scalar (Refused refusal.NoFrame)) = true
is_no_frame_reply (Scalar (Ended NoFrame)) = true
is_no_frame_reply (ShortIn NoFrame bytes) = true
is_no_frame_reply (Scalar (ShortOut NoFrame n)) = true
is_no_frame_reply _ = false

-- the steps that take frames, exec aside
abbrev pub takes_frames : Step → Bool
takes_frames (Start image) = true
takes_frames (Serve h) = true
takes_frames (Fork h) = true
takes_frames (CopyIn h address n) = true
takes_frames (CopyOut h address bytes) = true
takes_frames _ = false

-- the same world with n frames of memory
abbrev pub in_memory : World → ℕ → World
in_memory w n = record w { frames = n }

-- processes that begin

-- a process that was started: each page has its image's grant, and no mark; it waits for nothing, and its heap is empty,
-- above the stack
pub record Begins (m : Moment) (p : Process) : Type 0 where
  pub grants : (page : ℕ) → grant_of p page ≡ grant_after (m.before).scheme m.step m.reply page
  pub unmarked : (page : ℕ) → (has_cow_mark p page ≡ false) × (has_dirty_mark p page ≡ false)
  pub quiet : is_unserved_access p.pending ≡ false
  pub size : pos p.size ≡ size_after (m.before).scheme m.step m.reply 0
  pub base : p.heap_base ≡ p.size

-- the child of a fork, its bytes aside: `latest` says that they are its parent's
pub record IsChild (p c : Process) : Type 0 where
  pub same : regions c ≡ regions p
  pub base : c.heap_base ≡ p.heap_base
  pub size : c.size ≡ p.size
  pub quiet : is_unserved_access c.pending ≡ false
  pub unstored : (page : ℕ) → has_dirty_mark c page ≡ false

-- files

-- the pages that a step writes back, if it does: munmap those that it unmaps, exec and an end all
abbrev pub is_page_written_back : Step → ℕ → Bool
is_page_written_back (Munmap h address len) page = is_between (page_of address) (page_of address + pages_for len) page
is_page_written_back x page = true

-- b is the byte that p has at an address that maps byte i of file n, in a writable shared mapping, on a page with the dirty
-- mark that step x writes back (`is_page_written_back`)
pub record WroteBack (x : Step) (p : Process) (n i b : ℕ) : Type 0 where
  pub address : ℕ
  pub grant : Grant
  pub has : grant_of p (page_of address) ≡ Some grant
  pub writes : grant.writes ≡ true
  pub shared : grant.kind ≡ shared_mapping
  pub offset : ℕ
  pub of_file : grant.source ≡ file n offset
  pub place : offset + address % 4096 ≡ i
  pub goes : is_page_written_back x (page_of address) ≡ true
  pub stored : has_dirty_mark p (page_of address) ≡ true
  pub byte : byte_had (Some p) address ≡ Some b

-- no file comes or goes; each keeps its length and whether it may be written, and each byte of it stays or becomes one that p
-- writes back (`WroteBack`)
pub record Written (x : Step) (p : Process) (files later : List File) : Type 0 where
  pub count : length later ≡ length files
  pub mode : (n : ℕ) → is_writable (slice_get later n) ≡ is_writable (slice_get files n)
  pub long : (n : ℕ) → length (file_bytes later n) ≡ length (file_bytes files n)
  pub bytes : (n i : ℕ) → i < length (file_bytes files n) → (byte_at (file_bytes later n) i ≡ byte_at (file_bytes files n) i)
      ⊎ WroteBack x p n i (byte_at (file_bytes later n) i)

-- what p has to write back to a place of a file (`WroteBack`) is there: the byte becomes such a byte; if several pages map the
-- place, that of the page at the greatest address, which is written last. After two mmaps of file 0, the second below the
-- first, and stores to one place of it, 0x61 through the first and 0x62 through the second, an exit leaves 0x61 there
pub record IsWritten (x : Step) (p : Process) (files later : List File) : Type 0 where
  pub goes : (n i b : ℕ) → i < length (file_bytes files n) → (v : WroteBack x p n i b)
      → (w : WroteBack x p n i (byte_at (file_bytes later n) i)) × (v.address ≤ w.address)
