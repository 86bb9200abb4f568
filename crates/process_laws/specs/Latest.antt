-- `latest`: the byte that was last left at an address of a process. It is computed step by step (`left_by`) from the steps,
-- their replies, and the regions, files and pending accesses before them, never from what the model has settled (put in
-- memory). Also the bytes of an image and of a file mapping, the initial byte, the byte that a process has (`byte_had`), and
-- `IsLatest`, for the value of a load.
use Rattle.std.specs.Prelude.{◌≡◌, ℕ, ℤ, pos, ◌+ℤ◌, nat_abs, Bool, false, ◌+◌, ◌-◌, ◌*◌, ◌%◌, ◌<◌, nat_le, nat_lt, ◌==◌, ◌&&◌, Option, None}
use Rattle.std.specs.Prelude.{Some, Result, Ok, Err, List, [], ◌∷◌, length, get_or, slice_get, if◌then◌else◌}
use Rattle.process_model.specs.Bytes.{low_bytes, number, pages_for}
use Rattle.process_model.specs.Files.{File, bytes_of}
use Rattle.process_model.specs.Images.{LoadSegment, end_page, image_loads}
use Rattle.process_model.specs.PageMap.{get}
use Rattle.process_model.specs.Process.{Page, Pending, Process}
use Rattle.process_model.specs.Regions.{Source, file}
use Rattle.process_model.specs.World.{World, has_slot, process_in}
use Rattle.process_model.specs.declared.image.BadImage.{BadImage}
use Rattle.process_model.specs.declared.reply.Reply.{Reply}
use Rattle.process_model.specs.declared.reply.ScalarReply.TheVariants.{CopiedOut, Done, Ended, Exited, Forked, OldSize, Ready, ShortOut, Started}
use Rattle.process_model.specs.declared.reply.ScalarReply.TheVariants.{Stored}
use Rattle.process_model.specs.declared.reply.Reply.TheVariants.{CopiedIn, ShortIn, Scalar}
use Rattle.process_model.specs.declared.step.Step.{Step}
use Rattle.process_model.specs.declared.step.Step.TheVariants.{CopyIn, CopyOut, Exec, Exit, Fork, Munmap, Sbrk, Serve, Start, Store}
use Rattle.process_laws.specs.Moments.{Moment, slot_on}
use Rattle.process_laws.specs.Pages.{Grant, grant, has_some_of, is_between}
use Rattle.sv39_entry.specs.Address.{page_of}

-- bytes

-- byte i of a list, 0 past its end
abbrev pub byte_at : List ℕ → ℕ → ℕ
byte_at bytes i = get_or bytes i 0

-- the byte that an image has at an address: that of its segment, zero after the segment's bytes and in guard and stack; none
-- outside its pages. `end` is the end page of the segments before those listed
abbrev pub loads_byte : ℕ → List LoadSegment → ℕ → Option ℕ
loads_byte end [] a = if is_between end (end + 2) (page_of a) then Some 0 else None
loads_byte end (l ∷ ls) a =
    if is_between (page_of l.address) (page_of l.address + pages_for l.memory_size) (page_of a)
    then Some (byte_at l.bytes (a - 4096 * page_of l.address)) else loads_byte (end_page l) ls a

-- the byte that an image has at an address; none for a bad image
abbrev pub image_byte : Result (List LoadSegment) BadImage → ℕ → Option ℕ
image_byte (Err e) a = None
image_byte (Ok ls) a = loads_byte 0 ls a

-- byte i of the initial bytes of a page: in a mapping that of the file at this place, zero past its end; elsewhere zero
abbrev pub source_byte : List File → Source → ℕ → ℕ
source_byte files (file n offset) i = byte_at (bytes_of (slice_get files n)) (offset + i)
source_byte files _ i = 0

abbrev pub grant_byte : List File → Option Grant → ℕ → ℕ
grant_byte files None i = 0
grant_byte files (Some g) i = source_byte files g.source i

-- the initial byte at an address of a process
abbrev pub initial_byte : List File → Option Process → ℕ → ℕ
initial_byte files None a = 0
initial_byte files (Some p) a = grant_byte files (grant p (page_of a)) (a % 4096)

-- the byte that a process has at an address (`byte_had`); none if the page is not settled
abbrev pub page_byte : Option Page → ℕ → Option ℕ
page_byte None i = None
page_byte (Some x) i = Some (byte_at x.bytes i)

abbrev pub byte_had : Option Process → ℕ → Option ℕ
byte_had None a = None
byte_had (Some p) a = page_byte (get p.settled (page_of a)) (a % 4096)

-- addresses

-- a is one of the n addresses from `first` on
abbrev pub is_among : ℕ → ℕ → ℕ → Bool
is_among first n a = nat_le first a && nat_lt a (first + n)

-- a is in a page that has one of these addresses
abbrev pub is_in_their_pages : ℕ → ℕ → ℕ → Bool
is_in_their_pages first n a = has_some_of first n (page_of a)

-- a is in a page that sbrk releases, if it changes the size from n by `delta`
abbrev pub is_released : ℕ → ℤ → ℕ → Bool
is_released n delta a = nat_le (pages_for (nat_abs (pos n +ℤ delta))) (page_of a) && nat_lt (page_of a) (pages_for n)

-- a is in a page that munmap releases
abbrev pub is_unmapped : ℕ → ℕ → ℕ → Bool
is_unmapped address len a = nat_le (page_of address) (page_of a) && nat_lt (page_of a) (page_of address + pages_for len)

-- a is in the page of the pending access
abbrev pub is_in_pending : Option Pending → ℕ → Bool
is_in_pending None a = false
is_in_pending (Some x) a = page_of x.address == page_of a

-- a is in the page of the pending access of the process
abbrev pub is_in_served : Option Process → ℕ → Bool
is_in_served None a = false
is_in_served (Some p) a = is_in_pending p.pending a

-- what is left at an address

-- for each slot and address the latest byte, if there is one
abbrev pub LatestBytes : Type 0
LatestBytes = ℕ → ℕ → Option ℕ

-- the latest byte of the process in a slot; none without a slot
abbrev pub of_slot : LatestBytes → Option ℕ → ℕ → Option ℕ
of_slot old None a = None
of_slot old (Some s) a = old s a

-- the latest byte or, if there is none, the initial one: what an address has after its page is settled
abbrev pub or_initial : World → ℕ → ℕ → Option ℕ → Option ℕ
or_initial w s a (Some b) = Some b
or_initial w s a None = Some (initial_byte w.files (process_in w s) a)

-- a copy on hart h settles the pages of n addresses from `first` on
abbrev pub settled_by : World → ℕ → ℕ → ℕ → LatestBytes → ℕ → ℕ → Option ℕ
settled_by w h first n old s a = if has_slot s (slot_on w h) && is_in_their_pages first n a then or_initial w s a (old s a) else old s a

-- a copy to the process settles these pages too, and puts the first n of `bytes` at the addresses
abbrev pub put_by : World → ℕ → ℕ → List ℕ → ℕ → LatestBytes → ℕ → ℕ → Option ℕ
put_by w h first bytes n old s a = if has_slot s (slot_on w h) && is_among first n a then Some (byte_at bytes (a - first)) else settled_by w h first n old s a

-- no byte is left to the process on hart h
abbrev pub forgotten : World → ℕ → LatestBytes → ℕ → ℕ → Option ℕ
forgotten w h old s a = if has_slot s (slot_on w h) then None else old s a

-- the latest byte after a step with its reply, `old` being those before it. A process begins with its image's bytes, a child
-- with its parent's. A store and a copy to the process put their bytes. A service and a copy settle pages. sbrk and munmap
-- release pages; exec and an end release all. No other step changes a byte or removes one
abbrev pub left_by : World → Step → Reply → LatestBytes → ℕ → ℕ → Option ℕ
left_by w (Start image) (Scalar (Started t)) old s a = if t == s then image_byte (image_loads w.scheme image) a else old s a
left_by w (Exec h image) (Scalar Done) old s a = if has_slot s (slot_on w h) then image_byte (image_loads w.scheme image) a else old s a
left_by w (Fork h) (Scalar (Forked t)) old s a = if t == s then of_slot old (slot_on w h) a else old s a
left_by w (Store h address width value via) (Scalar Stored) old s a =
    if has_slot s (slot_on w h) && is_among address width a then Some (byte_at (low_bytes value width) (a - address)) else old s a
left_by w (CopyOut h address bytes) (Scalar (CopiedOut n)) old s a = put_by w h address bytes.now n old s a
left_by w (CopyOut h address bytes) (Scalar (ShortOut r n)) old s a = put_by w h address bytes.now n old s a
left_by w (CopyIn h address n) (CopiedIn bytes) old s a = settled_by w h address (length bytes.items) old s a
left_by w (CopyIn h address n) (ShortIn r bytes) old s a = settled_by w h address (length bytes.items) old s a
left_by w (Serve h) (Scalar Ready) old s a = if has_slot s (slot_on w h) && is_in_served (process_in w s) a then or_initial w s a (old s a) else old s a
left_by w (Sbrk h delta) (Scalar (OldSize n)) old s a = if has_slot s (slot_on w h) && is_released n delta a then None else old s a
left_by w (Munmap h address len) (Scalar Done) old s a = if has_slot s (slot_on w h) && is_unmapped address len a then None else old s a
left_by w (Serve h) (Scalar (Ended r)) old s a = forgotten w h old s a
left_by w (Exit h status) (Scalar (Exited code)) old s a = forgotten w h old s a
left_by w _ _ old s a = old s a

-- the latest byte at an address of the process in slot s; none if its page is not settled
abbrev pub latest : List Moment → ℕ → ℕ → Option ℕ
latest [] s a = None
latest (m ∷ past) s a = left_by m.before m.step m.reply (latest past) s a

-- these bytes are the latest ones from `address` on
abbrev pub AreLatest : List Moment → ℕ → ℕ → List ℕ → Type 0
AreLatest past s address bytes = (i : ℕ) → i < length bytes → latest past s (address + i) ≡ Some (byte_at bytes i)

-- v is the little-endian number of the latest `width` bytes from `address` on
pub record IsLatest (past : List Moment) (s address width v : ℕ) : Type 0 where
  pub bytes : List ℕ
  pub long : length bytes ≡ width
  pub theirs : v ≡ number bytes width
  pub latest_ones : AreLatest past s address bytes

-- the bytes in the reply to a copy from the process
abbrev pub bytes_in : Reply → List ℕ
bytes_in (CopiedIn bytes) = bytes.items
bytes_in (ShortIn r bytes) = bytes.items
bytes_in _ = []
