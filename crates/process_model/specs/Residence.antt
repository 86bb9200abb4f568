-- Settled: a page is in memory. Resident for an access: settled and, for a store, without copy-on-write mark and, in a writable
-- shared mapping, with the dirty mark (`is_resident`). `made_resident`: the process with the page made so, in one fault;
-- its initial bytes; loads and stores on it; parent and child after a fork (`marked`, `child_of`). Sources: the xv6 book,
-- "Page-fault exceptions"; copy-on-write and mmap labs. Own choice: copy-on-write marks on shared mappings too.
use Rattle.std.specs.Prelude.{ℕ, Bool, true, false, not, ◌-◌, ◌+◌, ◌*◌, ◌&&◌, ◌||◌, Option, None, Some, List, [], drop, if◌then◌else◌}
use Rattle.process_model.specs.Bytes.{padded, number, low_bytes, write_bytes}
use Rattle.process_model.specs.PageMap.{get, insert, with_values, keys, numbers}
use Rattle.process_model.specs.Files.{File, file_page}
use Rattle.process_model.specs.Regions.{Region, Source, zeros, image, file, keeps_stores, region_at}
use Rattle.process_model.specs.Process.{Process, Page, regions, grants_write}
use Rattle.sv39_entry.specs.declared.access.Access.{Access}
use Rattle.sv39_entry.specs.declared.access.Access.TheVariants.{Store}
use Rattle.process_model.specs.declared.reply.Reply.{Reply}
use Rattle.process_model.specs.declared.reply.ScalarReply.TheVariants.{Value, Stored}
use Rattle.process_model.specs.declared.reply.Reply.TheVariants.{Scalar}

-- the 4,096 bytes that a source has `at` bytes past its beginning. Pages of an image are settled when the process starts, so
-- only zeros and files are ever asked
abbrev pub source_page : List File → Source → ℕ → List ℕ
source_page files zeros at = padded 4096 []
source_page files image at = padded 4096 []
source_page files (file n offset) at = file_page files n (offset + at)

abbrev pub region_page : List File → Option Region → ℕ → List ℕ
region_page files None page = padded 4096 []
region_page files (Some r) page = source_page files r.source (4096 * (page - r.first))

-- the initial bytes of a page: those that it gets when it is settled
abbrev pub initial_page : List File → Process → ℕ → List ℕ
initial_page files p page = region_page files (region_at (regions p) page) page

abbrev pub region_on : Process → ℕ → Option Region
region_on p page = region_at (regions p) page

-- whether a granted access to a settled page s of region r completes without a fault: a store exactly if the page has no
-- copy-on-write mark and, if stores to r are written back, has the dirty mark; any other access always
abbrev pub can_complete : Access → Option Region → Page → Bool
can_complete Store r s = not s.cow && (s.dirty || not (keeps_stores r))
can_complete _ r s = true

abbrev pub is_resident_page : Access → Option Region → Option Page → Bool
is_resident_page access r None = false
is_resident_page access r (Some s) = can_complete access r s

-- whether a page is resident for an access: it is settled, and the access can complete
abbrev pub is_resident : Process → Access → ℕ → Bool
is_resident p access page = is_resident_page access (region_on p page) (get p.settled page)

abbrev pub with_page : Process → ℕ → Page → Process
with_page p n page = record p { settled = insert p.settled n page }

-- whether an access leaves the dirty mark on a page of the region when it is settled
abbrev pub leaves_mark : Access → Option Region → Bool
leaves_mark Store r = keeps_stores r
leaves_mark _ r = false

-- the process after a page is settled: with its initial bytes, copy number `fresh`, no copy-on-write mark, and the dirty mark
-- if the access leaves one
abbrev pub settled_anew : List File → ℕ → Process → Access → ℕ → Process
settled_anew files fresh p access page = record p {
  settled = insert p.settled page (record { bytes = initial_page files p page; copy = fresh; cow = false; dirty = leaves_mark access (region_on p page) });
  tabled = insert p.tabled page tt;
}

-- whether a page that is taken over needs a copy of its own: it has the copy-on-write mark, and another process has its copy
-- number (`shared`)
abbrev pub parts_from : Bool → Page → Bool
parts_from shared s = s.cow && shared

-- the page without the copy-on-write mark; with copy number `fresh` if it had the mark and another process has its copy number
abbrev pub unmarked : ℕ → Bool → Page → Page
unmarked fresh shared s = record s { copy = if parts_from shared s then fresh else s.copy; cow = false }

-- the page with the dirty mark, if stores to its region are written back
abbrev pub marked_stored : Option Region → Page → Page
marked_stored r s = record s { dirty = s.dirty || keeps_stores r }

-- a page taken over for a store: both in one service, so that one fault is enough
abbrev pub taken_over : ℕ → Bool → Option Region → Page → Page
taken_over fresh shared r s = marked_stored r (unmarked fresh shared s)

abbrev pub taken_over_unless : ℕ → Bool → Process → ℕ → Page → Bool → Process
taken_over_unless fresh shared p page s true = p
taken_over_unless fresh shared p page s false = with_page p page (taken_over fresh shared (region_on p page) s)

abbrev pub made_resident_from : List File → ℕ → Bool → Process → Access → ℕ → Option Page → Process
made_resident_from files fresh shared p access page None = settled_anew files fresh p access page
made_resident_from files fresh shared p access page (Some s) = taken_over_unless fresh shared p page s (can_complete access (region_on p page) s)

-- the process after a page was made resident for an access; `fresh` is a copy number that no page has, and `shared` says
-- whether another process has the page's copy number
abbrev pub made_resident : List File → ℕ → Bool → Process → Access → ℕ → Process
made_resident files fresh shared p access page = made_resident_from files fresh shared p access page (get p.settled page)

-- the value of the `width` bytes at `offset` in the page: little-endian, without sign
abbrev pub loaded : Page → ℕ → ℕ → ℕ
loaded s offset width = number (drop offset s.bytes) width

-- the page with these bytes in place of its own, from an offset on
abbrev pub stored : Page → ℕ → List ℕ → Page
stored s offset bytes = record s { bytes = write_bytes s.bytes offset bytes }

-- what a resident access does: its reply, and its page afterwards
abbrev pub access_answer : Access → Page → ℕ → ℕ → ℕ → Reply × Page
access_answer Store s offset width value = (Scalar Stored, stored s offset (low_bytes value width))
access_answer _ s offset width value = (Scalar (Value (loaded s offset width)), s)

-- fork (the xv6 book, "Page-fault exceptions"): parent and child have the copy-on-write mark on every settled page whose region
-- grants writing, a shared mapping's too (own choice)
abbrev pub marked_page : Process → ℕ → Page → Page
marked_page p page s = record s { cow = s.cow || grants_write p page }

abbrev pub marked : Process → Process
marked p = record p { settled = with_values (marked_page p) p.settled; pending = None }

-- a page of the child has no dirty mark: what the parent stored, the parent writes back
abbrev pub child_page : Process → ℕ → Page → Page
child_page p page s = record (marked_page p page s) { dirty = false }

-- the child has the parent's regions, size and settled pages, with the same copy numbers, and no dirty mark; nothing is
-- pending, and its tabled pages are the settled ones
abbrev pub child_of : Process → Process
child_of p = record p { settled = with_values (child_page p) p.settled; tabled = numbers (keys p.settled); pending = None }
