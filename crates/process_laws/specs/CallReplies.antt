-- What a step is refused with before its own refusals (`refusal_on`: BadArgument, Impossible, NoEntry), and then: what a start
-- replies (`StartReply`), and a fork, exec, sbrk, mmap and munmap when the kernel may be called (`ForkReply`, `ExecReply`,
-- `SizeReply`, `MapReply`, `UnmapReply`). Each case has what holds for it, in the order of the refusals; how many frames are too
-- few says part (c).
use Rattle.std.specs.Prelude.{◌≡◌, ◌⊎◌, ℕ, ℤ, pos, ◌+ℤ◌, nat_abs, int_lt, Bool, false, true, not, ◌+◌, ◌*◌, ◌/◌, ◌%◌, ◌==◌, ◌<◌, ◌≤◌, ◌&&◌}
use Rattle.std.specs.Prelude.{nat_le, nat_lt, Option, None, Some, is_some, List, [], ◌∷◌, Ok, Err, length, slice_get}
use Rattle.process_laws.specs.Pages.{grant}
use Rattle.process_model.specs.Bytes.{first_true, is_width, pages_for}
use Rattle.process_model.specs.declared.limits.TheConstants.{LONGEST_COPY, MOST_MAPPINGS}
use Rattle.process_model.specs.Files.{File, is_writable}
use Rattle.process_model.specs.Harts.{entry_serves, Hart, in_trampoline, is_kernel, is_user, may_switch, next_phase}
use Rattle.process_model.specs.Images.{image_loads, LoadSegment}
use Rattle.process_model.specs.Mappings.{is_bad_mapping}
use Rattle.process_model.specs.Mappings.{Fits}
use Rattle.process_model.specs.Process.{Process}
use Rattle.process_model.specs.Regions.{end_of, Region}
use Rattle.process_model.specs.World.{awaits_service, can_run, free_slot, World}
use Rattle.process_model.specs.declared.image.BadImage.{BadImage}
use Rattle.process_model.specs.declared.image.Image.{Image}
use Rattle.process_model.specs.declared.reply.Refusal.{Refusal}
use Rattle.process_model.specs.declared.reply.Refusal.TheVariants.{BadArgument, BadSize, FileNotWritable, HoleInMapping, Impossible}
use Rattle.process_model.specs.declared.reply.Refusal.TheVariants.{MappingsFull, NoEntry, NoFrame, NoRoom, NoSlot}
use Rattle.process_model.specs.declared.reply.Refusal.TheVariants as refusal
use Rattle.process_model.specs.declared.reply.Reply.{Reply}
use Rattle.process_model.specs.declared.reply.ScalarReply.TheVariants.{Done, Forked, MappedAt, OldSize, Refused, Started}
use Rattle.process_model.specs.declared.reply.Reply.TheVariants.{Scalar}
use Rattle.process_model.specs.declared.step.Step.{Step}
use Rattle.process_model.specs.declared.step.Step.TheVariants.{CopyIn, CopyOut, Evict, Exec, Fetch, Fill, Fork, Load, Mmap, Munmap, Next}
use Rattle.process_model.specs.declared.step.Step.TheVariants.{Sbrk, Serve, Store, Switch, TrampolineFetch, Trap}
use Rattle.sv39_entry.specs.Address.{page_of}
use Rattle.sv39_entry.specs.Schemes.{trampoline_page, trapframe_page}

-- steps on a hart

-- the arguments are proper, whatever the world is: an access has 1, 2, 4 or 8 bytes, a copy at most 256, and a fetch in the
-- trampoline is at a multiple of 4 below 4,096
abbrev pub is_proper : Step → Bool
is_proper (Load h address width via) = is_width width
is_proper (Store h address width value via) = is_width width
is_proper (TrampolineFetch h offset via) = offset % 4 == 0 && nat_lt offset 4096
is_proper (CopyIn h address n) = nat_le n LONGEST_COPY
is_proper (CopyOut h address bytes) = nat_le (length bytes.now) LONGEST_COPY
is_proper x = true

-- the step is possible on the hart as it is: a switch if the hart is idle or in the kernel, to a process that is on no hart;
-- the next instruction of entry and return, but not out of the kernel while an access waits; a trap and accesses in user mode; a
-- fetch in the trampoline on the way between; in the kernel service of an access that waits, and while none waits a call; fills
-- and evictions always
abbrev pub is_possible : World → Hart → Step → Bool
is_possible w hart (Switch h slot) = may_switch hart.phase && can_run w slot
is_possible w hart (Next h) = is_some (next_phase hart.phase) && not (is_kernel hart.phase && awaits_service w hart)
is_possible w hart (Trap h) = is_user hart.phase
is_possible w hart (Fetch h address via) = is_user hart.phase
is_possible w hart (Load h address width via) = is_user hart.phase
is_possible w hart (Store h address width value via) = is_user hart.phase
is_possible w hart (TrampolineFetch h offset via) = in_trampoline hart.phase
is_possible w hart (Serve h) = is_kernel hart.phase && awaits_service w hart
is_possible w hart (Fill h address) = true
is_possible w hart (Evict h n) = true
is_possible w hart x = is_kernel hart.phase && not (awaits_service w hart)

-- the buffer entry that the step names, if it names one, serves: it is there, filled for the page of the address under the ASID
-- that satp has; to be evicted it has to be there
abbrev pub has_entry : World → Hart → Step → Bool
has_entry w hart (Fetch h address via) = entry_serves w.policy hart address via
has_entry w hart (Load h address width via) = entry_serves w.policy hart address via
has_entry w hart (Store h address width value via) = entry_serves w.policy hart address via
has_entry w hart (TrampolineFetch h offset via) = entry_serves w.policy hart (4096 * trampoline_page w.scheme + offset) via
has_entry w hart (Evict h n) = nat_lt n (length hart.keys)
has_entry w hart x = true

-- the first of these refusals that applies to a step on a hart; None if none does
abbrev pub refusal_on : World → Step → Option Hart → Option Refusal
refusal_on w x None = Some BadArgument
refusal_on w x (Some hart) = first_true (
    (not (is_proper x), BadArgument)
    ∷ (not (is_possible w hart x), Impossible hart.phase)
    ∷ (not (has_entry w hart x), NoEntry)
    ∷ [])

-- the calls that have refusals of their own, below
abbrev pub has_refusals : Step → Bool
has_refusals (Fork h) = true
has_refusals (Exec h image) = true
has_refusals (Sbrk h delta) = true
has_refusals (Mmap h len protection flags n) = true
has_refusals (Munmap h address len) = true
has_refusals x = false

-- start, fork, exec

-- if no slot is free, NoSlot; else if the image fails a check, that check; else NoFrame, or the lowest free slot
pub data StartReply (w : World) (image : Image) : Reply → Type 0 where
  no_slot : free_slot w ≡ None → StartReply w image (Scalar (Refused NoSlot))
  bad : {s : ℕ} {e : BadImage} → free_slot w ≡ Some s → image_loads w.scheme image ≡ Err e → StartReply w image (Scalar (Refused (refusal.BadImage e)))
  no_frame : {s : ℕ} {ls : List LoadSegment} → free_slot w ≡ Some s → image_loads w.scheme image ≡ Ok ls → StartReply w image (Scalar (Refused NoFrame))
  started : {s : ℕ} {ls : List LoadSegment} → free_slot w ≡ Some s → image_loads w.scheme image ≡ Ok ls → StartReply w image (Scalar (Started s))

pub data ForkReply (w : World) : Reply → Type 0 where
  no_slot : free_slot w ≡ None → ForkReply w (Scalar (Refused NoSlot))
  no_frame : {t : ℕ} → free_slot w ≡ Some t → ForkReply w (Scalar (Refused NoFrame))
  forked : {t : ℕ} → free_slot w ≡ Some t → ForkReply w (Scalar (Forked t))

pub data ExecReply (w : World) (image : Image) : Reply → Type 0 where
  bad : {e : BadImage} → image_loads w.scheme image ≡ Err e → ExecReply w image (Scalar (Refused (refusal.BadImage e)))
  no_frame : {ls : List LoadSegment} → image_loads w.scheme image ≡ Ok ls → ExecReply w image (Scalar (Refused NoFrame))
  done : {ls : List LoadSegment} → image_loads w.scheme image ≡ Ok ls → ExecReply w image (Scalar Done)

-- sbrk

-- the size that is asked for is below the heap's base
abbrev pub is_below_base : Process → ℤ → Bool
is_below_base p delta = int_lt (pos p.size +ℤ delta) (pos p.heap_base)

-- the page is one that the heap would get
abbrev pub IsGained : Process → ℤ → ℕ → Type 0
IsGained p delta page = (pages_for p.size ≤ page) × (page < pages_for (nat_abs (pos p.size +ℤ delta)))

-- if the size would be below the heap's base, BadSize; else if a page that the heap would get has a grant, or is the
-- trapframe's or above, NoRoom; else the old size
pub data SizeReply (p : Process) (delta : ℤ) : Reply → Type 0 where
  bad_size : is_below_base p delta ≡ true → SizeReply p delta (Scalar (Refused BadSize))
  no_room : {page : ℕ} → is_below_base p delta ≡ false → IsGained p delta page → (grant p page ≡ None → ⊥)
      ⊎ (trapframe_page p.scheme ≤ page) → SizeReply p delta (Scalar (Refused NoRoom))
  sized : is_below_base p delta ≡ false → ((page : ℕ) → IsGained p delta page → (grant p page ≡ None) × (page < trapframe_page p.scheme))
      → SizeReply p delta (Scalar (OldSize p.size))

-- mmap

-- the mapping would be shared and writable, and the file may not be written
abbrev pub is_read_only : List File → ℕ → ℕ → ℕ → Bool
is_read_only files protection flags n = flags == 1 && protection / 2 % 2 == 1 && not (is_writable (slice_get files n))

-- if the arguments are bad (`is_bad_mapping`), BadArgument; else if the file may not be written so, FileNotWritable; else
-- if the process has `MOST_MAPPINGS` mappings, MappingsFull; else if the pages fit nowhere above the heap, below the trapframe and apart
-- from the mappings (`Fits`), NoRoom; else the greatest address at which they fit
pub data MapReply (files : List File) (p : Process) (len protection flags n : ℕ) : Reply → Type 0 where
  bad : is_bad_mapping files len protection flags n ≡ true → MapReply files p len protection flags n (Scalar (Refused BadArgument))
  read_only : is_bad_mapping files len protection flags n ≡ false → is_read_only files protection flags n ≡ true
      → MapReply files p len protection flags n (Scalar (Refused FileNotWritable))
  full : is_bad_mapping files len protection flags n ≡ false → is_read_only files protection flags n ≡ false
      → MOST_MAPPINGS ≤ length p.mappings → MapReply files p len protection flags n (Scalar (Refused MappingsFull))
  no_room : is_bad_mapping files len protection flags n ≡ false → is_read_only files protection flags n ≡ false
      → length p.mappings < MOST_MAPPINGS → ((first : ℕ) → Fits p (pages_for len) first → ⊥) → MapReply files p len protection flags n (Scalar (Refused NoRoom))
  mapped : {first : ℕ} → is_bad_mapping files len protection flags n ≡ false → is_read_only files protection flags n ≡ false
      → length p.mappings < MOST_MAPPINGS → Fits p (pages_for len) first → ((other : ℕ) → Fits p (pages_for len) other → other ≤ first)
      → MapReply files p len protection flags n (Scalar (MappedAt (4096 * first)))

-- munmap

-- m is a mapping of p that has all pages from `first` up to, and without, `end`
pub record HasRange (p : Process) (first end : ℕ) (m : Region) : Type 0 where
  pub number : ℕ
  pub there : slice_get p.mappings number ≡ Some m
  pub from : m.first ≤ first
  pub to : end ≤ end_of m

-- a range of pages: it begins with a page, and has one
abbrev pub is_range : ℕ → ℕ → Bool
is_range address len = address % 4096 == 0 && nat_lt 0 len

-- if it is no range of pages, or no mapping has all of it, BadArgument; else if it touches neither end of the mapping,
-- HoleInMapping; else it is done
pub data UnmapReply (p : Process) (address len : ℕ) : Reply → Type 0 where
  no_range : is_range address len ≡ false → UnmapReply p address len (Scalar (Refused BadArgument))
  outside : is_range address len ≡ true → ((m : Region) → HasRange p (page_of address) (page_of address + pages_for len) m → ⊥)
      → UnmapReply p address len (Scalar (Refused BadArgument))
  hole : {m : Region} → is_range address len ≡ true → HasRange p (page_of address) (page_of address + pages_for len) m
      → m.first < page_of address → page_of address + pages_for len < end_of m → UnmapReply p address len (Scalar (Refused HoleInMapping))
  unmapped : {m : Region} → is_range address len ≡ true → HasRange p (page_of address) (page_of address + pages_for len) m
      → (m.first ≡ page_of address) ⊎ (page_of address + pages_for len ≡ end_of m) → UnmapReply p address len (Scalar Done)
