-- Functions for one page of a process: its `Grant` (rights, kind of region, source of the initial bytes), whether it is ready
-- for an access, its copy-on-write mark (left by a fork: copy first) and dirty mark (D), and whether one mapping has it and the
-- next (`are_joined`, `joins`); then for one step which pages it remaps, the grants and the process's size after it, and which
-- pages it makes ready for a store.
use Rattle.std.specs.Prelude.{ℕ, ℤ, pos, ◌+ℤ◌, nat_abs, Bool, true, false, not, ◌+◌, ◌-◌, ◌*◌, ◌/◌, ◌%◌, ◌==◌, nat_le, nat_lt, ◌&&◌, ◌||◌}
use Rattle.std.specs.Prelude.{Option, None, Some, Result, Ok, Err, List, [], ◌∷◌, length, if◌then◌else◌}
use Rattle.process_model.specs.Bytes.{pages_for}
use Rattle.process_model.specs.Images.{end_of_loads, end_page, image_loads, LoadSegment}
use Rattle.process_model.specs.PageMap.{get}
use Rattle.process_model.specs.Process.{Page, Pending, Process, regions}
use Rattle.process_model.specs.Regions.{file, guard, heap, holds_page, image, keeps_stores, private_mapping, Region, region_at, RegionKind}
use Rattle.process_model.specs.Regions.{segment, shared_mapping, Source, stack, zeros}
use Rattle.process_model.specs.declared.image.BadImage.{BadImage}
use Rattle.process_model.specs.declared.reply.Reply.{Reply}
use Rattle.process_model.specs.declared.reply.ScalarReply.TheVariants.{Done, MappedAt, OldSize, Started}
use Rattle.process_model.specs.declared.reply.Reply.TheVariants.{Scalar}
use Rattle.process_model.specs.declared.step.Step.{Step}
use Rattle.process_model.specs.declared.step.Step.TheVariants.{CopyOut, Exec, Mmap, Munmap, Sbrk, Serve, Start}
use Rattle.sv39_entry.specs.Address.{page_of}
use Rattle.sv39_entry.specs.declared.access.Access.{Access}
use Rattle.sv39_entry.specs.declared.access.Access.TheVariants.{Store}
use Rattle.sv39_entry.specs.declared.scheme.Scheme.{Scheme}

-- what a region gives to one page: rights, the region's kind, and the source of the page's initial bytes. Regions that are
-- cut, moved or merged give the same if each page's grant is the same
pub record Grant : Type 0 where
  pub reads : Bool
  pub writes : Bool
  pub executes : Bool
  pub kind : RegionKind
  pub source : Source

-- the source of a page that is `pages` pages into a region
abbrev pub pages_on : Source → ℕ → Source
pages_on (file n offset) pages = file n (offset + 4096 * pages)
pages_on s pages = s

abbrev pub grant_in : Option Region → ℕ → Option Grant
grant_in None page = None
grant_in (Some r) page = Some (record { reads = r.reads; writes = r.writes; executes = r.executes; kind = r.kind; source = pages_on r.source (page - r.first) })

-- what a process has at a page; None if no region holds the page
abbrev pub grant : Process → ℕ → Option Grant
grant p page = grant_in (region_at (regions p) page) page

-- a page is ready for an access if it is settled and, for a store, has no copy-on-write mark and, in a writable shared mapping,
-- has the dirty mark
abbrev pub is_ready : Access → Option Region → Page → Bool
is_ready Store r x = not x.cow && (x.dirty || not (keeps_stores r))
is_ready _ r x = true

abbrev pub is_ready_on : Access → Option Region → Option Page → Bool
is_ready_on access r None = false
is_ready_on access r (Some x) = is_ready access r x

abbrev pub is_ready_page : Process → Access → ℕ → Bool
is_ready_page p access page = is_ready_on access (region_at (regions p) page) (get p.settled page)

-- marks of a settled page: the copy-on-write mark, and the dirty mark
abbrev pub has_mark : (Page → Bool) → Option Page → Bool
has_mark mark None = false
has_mark mark (Some x) = mark x

abbrev pub has_cow_mark : Process → ℕ → Bool
has_cow_mark p page = has_mark (λ x. x.cow) (get p.settled page)

abbrev pub has_dirty_mark : Process → ℕ → Bool
has_dirty_mark p page = has_mark (λ x. x.dirty) (get p.settled page)

-- runs of pages

-- the page is `first` or after it, and before `end`
abbrev pub is_between : ℕ → ℕ → ℕ → Bool
is_between first end page = nat_le first page && nat_lt page end

-- the page has one of the n addresses from `first` on
abbrev pub has_some_of : ℕ → ℕ → ℕ → Bool
has_some_of first n page = nat_lt 0 n && nat_le (page_of first) page && nat_le page (page_of (first + n - 1))

-- the pages that a call maps or unmaps: exec all, sbrk those between the old size and the new,
-- mmap and munmap those of their range
abbrev pub is_remapped : Step → Reply → ℕ → Bool
is_remapped (Exec h i) (Scalar Done) page = true
is_remapped (Sbrk h delta) (Scalar (OldSize n)) page =
    let old = pages_for n in
    let new = pages_for (nat_abs (pos n +ℤ delta)) in
    is_between new old page || is_between old new page
is_remapped (Mmap h len protection flags n) (Scalar (MappedAt at)) page = is_between (page_of at) (page_of at + pages_for len) page
is_remapped (Munmap h address len) (Scalar Done) page = is_between (page_of address) (page_of address + pages_for len) page
is_remapped _ _ page = false

-- the pages that a call may remap: sbrk from the heap's base on, mmap and munmap above the heap
abbrev pub may_remap : Process → Step → ℕ → Bool
may_remap p (Sbrk h delta) page = nat_le (page_of p.heap_base) page
may_remap p (Mmap h len protection flags n) page = nat_le (pages_for p.size) page
may_remap p (Munmap h address len) page = nat_le (pages_for p.size) page
may_remap p x page = true

-- neighboring pages in one mapping

-- one of the regions has the page and the next
abbrev pub in_one_of : List Region → ℕ → Bool
in_one_of [] page = false
in_one_of (m ∷ ms) page = (holds_page m page && holds_page m (page + 1)) || in_one_of ms page

-- one mapping of the process has the page and the next
abbrev pub are_joined : Process → ℕ → Bool
are_joined p page = in_one_of p.mappings page

-- the step puts the page and the next into one mapping: mmap those of its range
abbrev pub joins : Step → Reply → ℕ → Bool
joins (Mmap h len protection flags n) (Scalar (MappedAt at)) page =
    is_between (page_of at) (page_of at + pages_for len) page && is_between (page_of at) (page_of at + pages_for len) (page + 1)
joins _ r page = false

-- the grant of a remapped page after the call

abbrev pub heap_grant : Grant
heap_grant = record { reads = true; writes = true; executes = false; kind = heap; source = zeros }

-- PROT_READ is 1, PROT_WRITE 2, PROT_EXEC 4; MAP_SHARED is 1, MAP_PRIVATE 2. A mapping that may be written may be read
abbrev pub mapping_grant : ℕ → ℕ → ℕ → ℕ → Grant
mapping_grant protection flags n pages = record {
  reads = protection % 2 == 1 || protection / 2 % 2 == 1;
  writes = protection / 2 % 2 == 1;
  executes = protection / 4 % 2 == 1;
  kind = if flags == 1 then shared_mapping else private_mapping;
  source = file n (4096 * pages);
}

-- an image: its segments, and after the last one a guard and a stack of one page each; a gap between segments grants
-- nothing. `end` is the end page of the segments before those listed
abbrev pub loads_grant : ℕ → List LoadSegment → ℕ → Option Grant
loads_grant end [] page =
    if page == end then Some (record { reads = false; writes = false; executes = false; kind = guard; source = zeros })
    else if page == end + 1 then Some (record { reads = true; writes = true; executes = false; kind = stack; source = zeros })
    else None
loads_grant end (l ∷ ls) page =
    if is_between (page_of l.address) (page_of l.address + pages_for l.memory_size) page
    then Some (record { reads = true; writes = l.writes; executes = l.executes; kind = segment; source = image })
    else loads_grant (end_page l) ls page

abbrev pub image_grant : Result (List LoadSegment) BadImage → ℕ → Option Grant
image_grant (Err e) page = None
image_grant (Ok ls) page = loads_grant 0 ls page

abbrev pub grant_after : Scheme → Step → Reply → ℕ → Option Grant
grant_after s (Start i) r page = image_grant (image_loads s i) page
grant_after s (Exec h i) r page = image_grant (image_loads s i) page
grant_after s (Sbrk h delta) (Scalar (OldSize n)) page = if nat_lt page (pages_for (nat_abs (pos n +ℤ delta))) then Some heap_grant else None
grant_after s (Mmap h len protection flags n) (Scalar (MappedAt at)) page = Some (mapping_grant protection flags n (page - page_of at))
grant_after s _ r page = None

-- the size of a process after its step, as a whole number

-- an image: the heap begins, empty, at the top of the stack
abbrev pub image_size : Result (List LoadSegment) BadImage → ℕ
image_size (Err e) = 0
image_size (Ok ls) = 4096 * (end_of_loads 0 ls + 2)

abbrev pub size_after : Scheme → Step → Reply → ℕ → ℤ
size_after s (Start i) (Scalar (Started t)) size = pos (image_size (image_loads s i))
size_after s (Exec h i) (Scalar Done) size = pos (image_size (image_loads s i))
size_after s (Sbrk h delta) (Scalar (OldSize n)) size = pos size +ℤ delta
size_after s _ r size = pos size

-- the pages that a step may make ready for a store: the page of the store that is served, and all pages of a copy to the
-- process (of one that stops early, those of the bytes before: `to_front` of the headline)

abbrev pub is_store : Access → Bool
is_store Store = true
is_store _ = false

abbrev pub is_store_at : Option Pending → ℕ → Bool
is_store_at None page = false
is_store_at (Some a) page = is_store a.access && page_of a.address == page

abbrev pub is_stored_to : Process → Step → ℕ → Bool
is_stored_to p (Serve h) page = is_store_at p.pending page
is_stored_to p (CopyOut h address bytes) page = has_some_of address (length bytes.now) page
is_stored_to p _ page = false
