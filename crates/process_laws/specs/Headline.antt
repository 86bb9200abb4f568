-- THE HEADLINE: what a process of xv6 on Sv39 or Sv48 may rely on, whatever the harts do. Of one step: (a) answers and
-- faults of user accesses, (b) kernel copies, (c) frames that steps take, (d) the latest bytes are read, (e) other processes
-- stay, (f) what a process's own step changes, (g) steps that are made. `Holds` joins them; `Headline` says it of each step
-- of a run.
--
-- The harts have made any list of steps since boot, and make one more. `past` has the moments before it, the newest first. `m`
-- is the moment of this step: the step, its reply, the world before it and the world after it. The reply of `m` is what the
-- machine answered; worlds, and the replies of the past and of each `moment_of`, are the model's. A world has files and, in its
-- slots, processes; a process has regions, and the bytes of its settled pages (xv6: those with a valid leaf: an image's from
-- the start, others by a service or a copy). `Words` has the words, `Pages` what a region gives to a page, `Latest` the latest
-- byte at an address, `FrameNeeds` what is counted in frames, `CallReplies` what calls reply, and `MadeSteps` part (g).
use Rattle.std.specs.Prelude.{◌≡◌, ◌≢◌, ◌⊎◌, ℕ, false, true, ◌+◌, ◌-◌, ◌<◌, ◌≤◌, nat_lt, ◌||◌, Option, None, Some, List, [], ◌∷◌, length}
use Rattle.std.specs.Prelude.{option_map, slice_get, take, pos, Ok, if◌then◌else◌}
use Rattle.std.specs.Borrow.{Bor}
use Rattle.process_laws.specs.Latest.{AreLatest, byte_had, bytes_in, IsLatest, latest}
use Rattle.process_laws.specs.Moments.{Moment, moment_of, moments_from, slot_on}
use Rattle.process_laws.specs.Pages.{are_joined, grant, grant_after, has_cow_mark, has_dirty_mark, is_remapped, is_stored_to, joins, may_remap, size_after}
use Rattle.process_laws.specs.FrameNeeds.{copy_on, frames_for_child, frames_for_image, frames_for_page, HasNewFrames, IsSharedPage}
use Rattle.process_laws.specs.FrameNeeds.{KeepsFrames, LacksFrames, MayLackFrames, SharesFrames}
use Rattle.process_laws.specs.Words.{UserAccess, IsAccessStep, byte, cause, copied, CopiesBytes, Forbids, in_memory, is_end, is_fault}
use Rattle.process_laws.specs.Words.{IsAnswer, IsChild, IsGranted, IsInPhase, IsMade, IsOnHart, IsResident, IsWritten, MayCall, is_on_hart}
use Rattle.process_laws.specs.Words.{keys_after, keys_on, marks_slot, stale_after, stale_on, starts_in_slot, hart_of_step, moved_hart}
use Rattle.process_laws.specs.Words.{phase_on, Serves, stopped_by, takes_frames, is_no_frame_reply, Tries, with_pending_access, writes_back}
use Rattle.process_laws.specs.Words.{Written}
use Rattle.process_model.specs.Files.{File}
use Rattle.process_model.specs.Harts.{Hart}
use Rattle.process_model.specs.Order.{IsInOrder}
use Rattle.process_model.specs.Process.{Process}
use Rattle.process_model.specs.Steps.{run}
use Rattle.process_model.specs.Images.{image_loads, LoadSegment}
use Rattle.process_model.specs.World.{booted, free, free_slot, is_unserved_access, process_in, without_process, World}
use Rattle.process_model.specs.declared.config.Config.{Config}
use Rattle.process_model.specs.declared.image.Image.{Image}
use Rattle.process_model.specs.declared.phase.Phase.TheVariants.{Enter0, Idle}
use Rattle.process_model.specs.declared.reply.Refusal.{Refusal}
use Rattle.process_model.specs.declared.reply.Reply.{Reply}
use Rattle.process_model.specs.declared.reply.ScalarReply.TheVariants.{Done, Ended, Fault, Filled, Forked, Ready, Refused, Started, Value}
use Rattle.process_model.specs.declared.reply.Reply.TheVariants.{Scalar}
use Rattle.process_model.specs.declared.step.Step.{Step}
use Rattle.process_model.specs.declared.step.Step.TheVariants.{CopyIn, CopyOut, Exec, Fill, Fork, Start}
use Rattle.sv39_entry.specs.Address.{page_of}
use Rattle.sv39_entry.specs.declared.access.Access.{Access}
use Rattle.sv39_entry.specs.declared.access.Access.TheVariants.{Load, Store}
use Rattle.sv39_entry.specs.declared.rule.Rule.{Rule}
use Rattle.sv39_entry.specs.declared.rule.Rule.TheVariants.{NoFrame}
use Rattle.process_laws.specs.MadeSteps.{MakesOwn, MakesSteps}

-- (a) The user access a of process p, in slot s, on hart h. If its page at 0x1000 begins with the byte 0x61, and its guard
-- is after it, `load 0 0x1000 1` answers `value 0x61`; `load 0 0x2000 1` answers `fault 13`, and its
-- service `ended 4 GuardPage`
pub record AnswersUser (m : Moment) (h s : ℕ) (p : Process) (a : UserAccess) : Type 0 where
  -- No access is both granted and forbidden
  pub apart : process_in m.before s ≡ Some p → (rule : Rule) → IsGranted p a → Forbids p a rule → ⊥
  -- If it is granted and its page is resident, it is answered: a fetch or a load by a value, a store by `Stored`
  pub answered : Tries m h s p a → IsGranted p a → IsResident p a → IsAnswer a.access m.reply
  -- Otherwise it faults, with the misaligned cause (0, 4, 6) if it is misaligned, else with the page fault's (12, 13, 15),
  -- and waits for service; nothing else of p changes, and the hart is at the first instruction of the kernel's entry
  pub faults : Tries m h s p a → (IsGranted p a → IsResident p a → ⊥) → (m.reply ≡ Scalar (Fault (cause a)))
      × IsOnHart m.after h s (with_pending_access p a) × IsInPhase m.after h Enter0
  -- If the kernel serves a, for which p waits, and a is granted, then its page is resident, and one fault is enough unless p
  -- itself calls the kernel first; or p ends by NoFrame
  pub served : Serves m h s p a → IsGranted p a → ((m.reply ≡ Scalar Ready) × ((q : Process) → process_in m.after s ≡ Some q → IsResident q a))
      ⊎ (m.reply ≡ Scalar (Ended NoFrame))
  -- If a is not granted, p ends by the first rule that forbids it
  pub ended : Serves m h s p a → (IsGranted p a → ⊥) → (rule : Rule) × (m.reply ≡ Scalar (Ended rule)) × Forbids p a rule

-- (b) A kernel copy of n bytes stops after k: all are copied; or the next is forbidden; or the next lacks frames: fewer are
-- free then than its page needs (`LacksFrames`). `copyin 0 0x1ffd 8`, whose last five bytes are the guard's, answers
-- `short 4 GuardPage done 3 000000`
pub data StopsAfter (p : Process) (access : Access) (address n k : ℕ) (Lacks : Type 0) : Option Rule → Type 0 where
  whole : k ≡ n → StopsAfter p access address n k Lacks None
  forbidden : {rule : Rule} → k < n → Forbids p (byte access (address + k)) rule → StopsAfter p access address n k Lacks (Some rule)
  no_frame : k < n → IsGranted p (byte access (address + k)) → Lacks → StopsAfter p access address n k Lacks (Some NoFrame)

-- Each of the k bytes that are copied is granted, and the copy stops after them
pub record Copies (p : Process) (access : Access) (address n k : ℕ) (Lacks : Type 0) (stop : Option Rule) : Type 0 where
  pub granted : (i : ℕ) → i < k → IsGranted p (byte access (address + i))
  pub stops : StopsAfter p access address n k Lacks stop

pub record CopiesForKernel (m : Moment) (h s address k : ℕ) (p : Process) : Type 0 where
  -- CopyIn is such a copy by loads, CopyOut by stores. One that stops early changes what a copy of the first k bytes changes:
  -- it neither undoes them nor takes a frame for the rest. (`front` has the first k bytes)
  pub from : (n : ℕ) → m.step ≡ CopyIn h address n → Copies p Load address n k (LacksFrames m.after s Load (address + k)) (stopped_by m.reply)
  pub from_front : (n : ℕ) → m.step ≡ CopyIn h address n → m.after ≡ (moment_of m.before (CopyIn h address k)).after
  pub to : (bytes : Bor (List ℕ)) → m.step ≡ CopyOut h address bytes
      → Copies p Store address (length bytes.now) k (LacksFrames m.after s Store (address + k)) (stopped_by m.reply)
  pub to_front : (bytes front : Bor (List ℕ)) → m.step ≡ CopyOut h address bytes → front.now ≡ take k bytes.now
      → m.after ≡ (moment_of m.before (CopyOut h address front)).after
  -- After a copy to p the page of each copied byte is ready for a store, even if the copy put there what was there: with no
  -- frame free, `copyout 0 0x1000 00` to a page that is shared since a fork answers `short 9 NoFrame done 0`
  pub to_ready : (bytes : Bor (List ℕ)) (q : Process) (i : ℕ) → m.step ≡ CopyOut h address bytes → i < k → process_in m.after s ≡ Some q
      → IsResident q (byte Store (address + i))

-- (c) A reply says NoFrame exactly when fewer frames are free than the step needs, n; and `FrameNeeds` counts n, but for
-- copies. A start of nine pages in the first two megabytes needs 17: these, guard and stack, five page tables and the
-- trapframe; under Sv48 19
abbrev pub IsDry : Moment → ℕ → Type 0
IsDry m n = is_no_frame_reply m.reply ≡ nat_lt (free m.before) n

abbrev pub TakesExactly : Moment → ℕ → Type 0
TakesExactly m n = IsDry m n × (is_no_frame_reply m.reply ≡ false → free m.before - free m.after ≡ n)

abbrev pub with_frames : Moment → ℕ → Moment
with_frames m frames = moment_of (in_memory m.before frames) m.step

pub record CountsFrames (m : Moment) : Type 0 where
  -- A start of a good image takes the image's frames and one for the trapframe
  pub start : (image : Image) (s : ℕ) (ls : List LoadSegment) → free_slot m.before ≡ Some s → image_loads (m.before).scheme image ≡ Ok ls
      → m.step ≡ Start image → TakesExactly m (1 + frames_for_image (m.before).scheme ls)
  -- An exec needs one less, since the process keeps its trapframe; the frames of its old pages and tables do not count as
  -- free. If it is done, they are free: there are as many as if the process had ended and the image had been started
  pub exec : (h s : ℕ) (p : Process) (image : Image) (ls : List LoadSegment) → IsOnHart m.before h s p → MayCall m.before h p
      → image_loads (m.before).scheme image ≡ Ok ls → m.step ≡ Exec h image
      → IsDry m (frames_for_image (m.before).scheme ls)
      × (m.reply ≡ Scalar Done → free m.after + (1 + frames_for_image (m.before).scheme ls) ≡ free (without_process m.before s))
  -- A fork takes frames for the child, and none for a page
  pub fork : (h s t : ℕ) (p : Process) → IsOnHart m.before h s p → MayCall m.before h p → free_slot m.before ≡ Some t → m.step ≡ Fork h
      → TakesExactly m (frames_for_child p)
  -- The service of a granted access takes those that its page needs
  pub serve : (h s : ℕ) (p : Process) (a : UserAccess) → Serves m h s p a → IsGranted p a
      → TakesExactly m (frames_for_page m.before s p a.access (page_of a.address))
  -- A copy needs a number that is the same for the same step in a memory of any other size ((b) says what the page needs at
  -- which it stops)
  pub copy : (h k : ℕ) → CopiesBytes h k m.step → (n : ℕ) × TakesExactly m n × ((frames : ℕ) → TakesExactly (with_frames m frames) n)
  -- And a copy that does not say NoFrame takes no more frames than are free. Since `free` stops at 0, what it takes is counted
  -- in a memory of any size: with one frame free, a copy to a page that lacks a page table too answers `short 9 NoFrame done 0`
  pub room : (h k : ℕ) → CopiesBytes h k m.step → is_no_frame_reply m.reply ≡ false → (frames : ℕ)
      → free (in_memory m.before frames) ≤ free (in_memory m.after frames) + free m.before
  -- Only these steps say NoFrame, and no other step takes a frame
  pub only : is_no_frame_reply m.reply ≡ true → MayLackFrames m.before m.step
  pub no_other : takes_frames m.step ≡ false → ((h : ℕ) (image : Image) → m.step ≢ Exec h image) → free m.before ≤ free m.after

-- What `free` counts of a process: the trapframe, its page tables, and the frames of its settled pages. Two settled pages are
-- on one frame if they have one copy number
pub record HoldsFrames (m : Moment) : Type 0 where
  -- No process has two pages on one frame, and two processes only the same page, with the same bytes, and with the
  -- copy-on-write mark where it may be written: so no store changes what another process has
  pub once : (s one two copy : ℕ) (p : Process) → process_in m.after s ≡ Some p → copy_on p one ≡ Some copy → copy_on p two ≡ Some copy → one ≡ two
  pub shared : (s t one two copy : ℕ) (p q : Process) → s ≢ t → process_in m.after s ≡ Some p → process_in m.after t ≡ Some q
      → copy_on p one ≡ Some copy → copy_on q two ≡ Some copy → IsSharedPage p q one two
  -- A process that was started is on new frames, and so is one after an exec that is done; a child is on its parent's. By any
  -- other step of its own a process keeps its frames, but for pages that go or are taken over
  pub started : (image : Image) (s : ℕ) (p : Process) → m.step ≡ Start image
      → m.reply ≡ Scalar (Started s) → process_in m.after s ≡ Some p → HasNewFrames m.before p
  pub replaced : (h s : ℕ) (p q : Process) (image : Image) → IsOnHart m.before h s p → m.step ≡ Exec h image → m.reply ≡ Scalar Done
      → process_in m.after s ≡ Some q → HasNewFrames m.before q
  pub child : (h s t : ℕ) (p c : Process) → IsOnHart m.before h s p
      → m.step ≡ Fork h → m.reply ≡ Scalar (Forked t) → process_in m.after t ≡ Some c → SharesFrames p c
  pub kept : (h s : ℕ) (p q : Process) → IsOnHart m.before h s p → hart_of_step m.step ≡ Some h
      → ((image : Image) → m.step ≡ Exec h image → m.reply ≢ Scalar Done) → process_in m.after s ≡ Some q → KeepsFrames m.before s p q

-- (d) At each address a process has the latest byte that was left there since the page was settled, else the page's initial
-- byte; none if the page is not settled. These bytes are what is read. A forked child reads what its parent stored before
-- the fork, and nothing that the parent stores later
pub record ReadsLatest (past : List Moment) (m : Moment) : Type 0 where
  -- (A load reads what the process had before the step; a CopyIn what it has after it, since it settles pages)
  pub has : (s a : ℕ) → byte_had (process_in m.after s) a ≡ latest (m ∷ past) s a
  pub read : (h s v : ℕ) (a : UserAccess) (via : Option ℕ) → slot_on m.before h ≡ Some s → IsAccessStep h via a m.step → m.reply ≡ Scalar (Value v)
      → IsLatest past s a.address a.width v
  pub brought : (h s address n : ℕ) → slot_on m.before h ≡ Some s → m.step ≡ CopyIn h address n → AreLatest (m ∷ past) s address (bytes_in m.reply)

-- (e) Only its own steps change a process q: its bytes, its regions and all else. (The bytes with which a page of a file
-- will begin are those that the file has then, and other processes change a file by what they write back)
pub record LeavesOthers (m : Moment) : Type 0 where
  pub kept : (s : ℕ) (q : Process) → ((h : ℕ) → hart_of_step m.step ≡ Some h → slot_on m.before h ≢ Some s)
      → process_in m.before s ≡ Some q → process_in m.after s ≡ Some q
  -- A refused step changes nothing
  pub refused : (e : Refusal) → m.reply ≡ Scalar (Refused e) → m.after ≡ m.before
  -- A slot stays empty but for a start and a fork
  pub empty : (s : ℕ) → process_in m.before s ≡ None → starts_in_slot m.reply s ≡ false → process_in m.after s ≡ None
  -- A hart keeps its process and its phase but for its own switch, trap, next instruction of entry or return (`Next`), fault or
  -- end
  pub harts : (k : ℕ) → moved_hart m.step m.reply ≢ Some k → (slot_on m.after k ≡ slot_on m.before k) × (phase_on m.after k ≡ phase_on m.before k)
  -- Its buffer has entries of the keys (page and ASID) that it had, but for its own fills, evictions and fences (`keys_after`);
  -- a fill replies the number of the entry that it added, the last
  pub buffers : (k : ℕ) (hart : Hart) → IsMade m.reply → slice_get (m.before).harts k ≡ Some hart
      → keys_on m.after k ≡ Some (if is_on_hart m.step k then keys_after (m.before).policy hart m.step else hart.keys)
  pub filled : (h address n : ℕ) → m.step ≡ Fill h address → m.reply ≡ Scalar (Filled n) → option_map length (keys_on m.after h) ≡ Some (n + 1)
  -- With policy `asid`, when a process starts in a slot or the leaves of its process change (`changed_at`), the slot is stale
  -- on every hart, until that hart's last fence of a return to it. With entry 0 filled for page 1 before a fork, after `fork 0`
  -- and `leave 0` the access `load 0 0x1000 1 @0` answers `refused 20 NoEntry`
  pub stale : (k t : ℕ) (hart : Hart) → IsMade m.reply → slice_get (m.before).harts k ≡ Some hart
      → stale_on m.after k t ≡ Some (marks_slot (m.before).policy m.before m.after t
      || (if is_on_hart m.step k then stale_after (m.before).policy hart m.step t else hart.stale t))
  -- A process is on one hart at a time
  pub one_hart : (h k s : ℕ) → slot_on m.after h ≡ Some s → slot_on m.after k ≡ Some s → h ≡ k
  -- Files stay but for what munmap, exec, an exit and an end write back; the memory keeps its
  -- size, and the process table its slots
  pub files : writes_back m.step m.reply ≡ false → (m.after).files ≡ (m.before).files
  pub memory : (m.after).frames ≡ (m.before).frames
  pub slots : length (m.after).slots ≡ length (m.before).slots
  -- Each process is `IsInOrder`: its regions are in ascending order and apart, parts below the heap, mappings above it, all
  -- below the trapframe, each part and mapping of a page or more. So no list of `MOST_MAPPINGS` empty mappings makes the first mmap answer
  -- MappingsFull
  pub order : (s : ℕ) (q : Process) → process_in m.after s ≡ Some q → IsInOrder q
  -- Scheme and policy stay, and each process has the scheme
  pub scheme : (m.after).scheme ≡ (m.before).scheme
  pub policy : (m.after).policy ≡ (m.before).policy
  pub schemes : (s : ℕ) (q : Process) → process_in m.after s ≡ Some q → q.scheme ≡ (m.after).scheme

-- (f) By its own step on hart h a process p becomes q
pub record Becomes (m : Moment) (h : ℕ) (p q : Process) : Type 0 where
  -- If the step is made, q waits for service exactly when the step faulted
  pub waits : IsMade m.reply → is_unserved_access q.pending ≡ is_fault m.reply
  -- Each page keeps its grant (rights, kind of region, source of its initial bytes) and its dirty mark, but those that
  -- exec, sbrk, mmap and munmap remap
  pub stays : (page : ℕ) → is_remapped m.step m.reply page ≡ false → (grant q page ≡ grant p page)
      × (has_dirty_mark p page ≡ true → has_dirty_mark q page ≡ true)
  -- A page and the next are in one mapping exactly if they were; but if the step remaps one of them, exactly if it is an mmap
  -- of both. So no step cuts or merges mappings unasked; after `mmap 0 8192 1 2 0` the two pages are in one
  pub joined : (page : ℕ) → are_joined q page ≡ (if is_remapped m.step m.reply page
      || is_remapped m.step m.reply (page + 1) then joins m.step m.reply page else are_joined p page)
  -- A remapped page has what the call gives; only exec puts one grant in the place of another; sbrk leaves the pages below the
  -- heap as they are, mmap and munmap the heap too
  pub remapped : (page : ℕ) → is_remapped m.step m.reply page ≡ true → grant q page ≡ grant_after (m.before).scheme m.step m.reply page
  pub vacant : (page : ℕ) → is_remapped m.step m.reply page ≡ true → ((image : Image) → m.step ≢ Exec h image) → (grant p page ≡ None) ⊎ (grant q page ≡ None)
  pub below : (page : ℕ) → is_remapped m.step m.reply page ≡ true → may_remap p m.step page ≡ true
  -- Only a fork adds a copy-on-write mark; on a page that is not remapped only the service of a store and a copy to the page
  -- remove it. These two alone add a dirty mark. After exec there is neither mark
  pub forked : m.step ≢ Fork h → (page : ℕ) → has_cow_mark q page ≡ true → has_cow_mark p page ≡ true
  pub unforked : (page : ℕ) → is_remapped m.step m.reply page ≡ false → has_cow_mark p page ≡ true → (has_cow_mark q page ≡ true)
      ⊎ (is_stored_to p m.step page ≡ true)
  pub stored : (page : ℕ) → has_dirty_mark q page ≡ true → (has_dirty_mark p page ≡ true) ⊎ (is_stored_to p m.step page ≡ true)
  pub cleared : (image : Image) → m.step ≡ Exec h image → m.reply ≡ Scalar Done → (page : ℕ) → (has_cow_mark q page ≡ false) × (has_dirty_mark q page ≡ false)
  -- The size is what sbrk or exec makes of it, else what it was. The heap's base stays; after an exec that is done the heap is
  -- empty
  pub size : pos q.size ≡ size_after (m.before).scheme m.step m.reply p.size
  pub base : ((image : Image) → m.step ≢ Exec h image) → q.heap_base ≡ p.heap_base
  pub new_base : (image : Image) → m.step ≡ Exec h image → m.reply ≡ Scalar Done → q.heap_base ≡ q.size

-- What its own step on hart h does to process p, in slot s
pub record ChangesOwn (m : Moment) (h s : ℕ) (p : Process) : Type 0 where
  -- Unless the reply says that it ended, it is still in its slot
  pub lives : is_end m.reply ≡ false → (q : Process) × (process_in m.after s ≡ Some q) × Becomes m h p q
  -- After an exit, and after an end by a rule, the slot is empty and the hart idle
  pub gone : is_end m.reply ≡ true → (process_in m.after s ≡ None) × (slot_on m.after h ≡ None) × IsInPhase m.after h Idle
  -- A byte of a file that changes becomes the byte that p had at that place, on a page with the dirty mark of a writable shared
  -- mapping (of the range, if the step is munmap). No file comes, goes, or changes its length or whether it may be written
  pub files : Written m.step p (m.before).files (m.after).files
  -- And if the step writes back, every byte of such a page is written, up to the file's length, pages in order of address: if
  -- two map one place, the upper one's byte stays
  pub written : writes_back m.step m.reply ≡ true → IsWritten m.step p (m.before).files (m.after).files
  -- A child has its parent's regions, heap base and size, waits for nothing, and has no dirty mark
  pub child : (t : ℕ) → m.step ≡ Fork h → m.reply ≡ Scalar (Forked t) → (c : Process) × (process_in m.after t ≡ Some c) × IsChild p c

-- Parts (a) to (g) hold of a moment, after those of the past
pub record Holds (past : List Moment) (m : Moment) : Type 0 where
  pub users : (h s : ℕ) (p : Process) (a : UserAccess) → AnswersUser m h s p a
  pub copies : (h s address : ℕ) (p : Process) → IsOnHart m.before h s p → IsMade m.reply → CopiesForKernel m h s address (copied m.reply) p
  pub frames : CountsFrames m
  pub held : HoldsFrames m
  pub bytes : ReadsLatest past m
  pub others : LeavesOthers m
  pub own : (h s : ℕ) (p : Process) → IsOnHart m.before h s p → hart_of_step m.step ≡ Some h → ChangesOwn m h s p
  pub made_own : (h s : ℕ) (p : Process) → IsOnHart m.before h s p → MakesOwn m h s p
  pub made : MakesSteps m

-- Each step of a list, made from world w on, has one of the replies, in order, and no reply is left over; with its reply it
-- meets the parts of the headline
abbrev pub AllHold : List Moment → World → List Step → List Reply → Type 0
AllHold past w [] rs = rs ≡ []
AllHold past w (x ∷ xs) [] = ⊥
AllHold past w (x ∷ xs) (r ∷ rs) = let m = record (moment_of w x) { reply = r } in Holds past m × AllHold (m ∷ past) m.after xs rs

-- After boot the harts made the steps `earlier`; of `steps`, which they make next, `replies` has the reply to each, and each
-- meets the headline
abbrev pub Headline : Config → List File → List Step → List Step → List Reply → Type 0
Headline c files earlier steps replies = AllHold (moments_from [] (booted c files) earlier) (run (booted c files) earlier).world steps replies
