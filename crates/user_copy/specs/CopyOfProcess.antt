-- What a kernel copy (copyin, copyout) is to the process that the space was before the call: the byte that a process has at
-- an address (`process_byte`), the bytes that were copied, whether their addresses are granted, and the process after the
-- copy (`IsAfterCopy`, `HasPut`). Sources: the xv6 book, "Code: exec" and "Page-fault exceptions".
use Rattle.std.specs.Prelude.{◌≡◌, ◌⊎◌, ℕ, true, ◌+◌, ◌%◌, ◌<◌, ◌≤◌, is_some, Option, None, Some, Result, Ok, Err, List, get_or, length, map, take}
use Rattle.arrayvec.specs.ArrayVec.{ArrayVec}
use Rattle.fault_rules.specs.MadeResident.{is_counted, is_shared_by}
use Rattle.frame_store.specs.View.{View}
use Rattle.process_model.specs.Bytes.{numbers_from}
use Rattle.process_model.specs.Files.{File}
use Rattle.process_model.specs.Frames.{resident_need}
use Rattle.process_model.specs.PageMap.{get}
use Rattle.process_model.specs.Process.{Page, Process, regions}
use Rattle.process_model.specs.Regions.{copy_rule}
use Rattle.process_model.specs.Residence.{initial_page, is_resident}
use Rattle.sv39_entry.specs.Address.{page_of}
use Rattle.sv39_entry.specs.declared.access.Access.{Access}
use Rattle.user_copy.specs.declared.short.Short.{Short}

-- the bytes of a page of a process: those in memory if it is settled, else its initial bytes
abbrev pub page_bytes : List File → Process → ℕ → Option Page → List ℕ
page_bytes files p page None = initial_page files p page
page_bytes files p page (Some s) = s.bytes

-- the byte that a process has at an address
abbrev pub process_byte : List File → Process → ℕ → ℕ
process_byte files p address = get_or (page_bytes files p (page_of address) (get p.settled (page_of address))) (address % 4096) 0

-- the n bytes that a process has from an address on
abbrev pub process_bytes : List File → Process → ℕ → ℕ → List ℕ
process_bytes files p address n = map (process_byte files p) (numbers_from address n)

-- the bytes that were copied from a process: all, or those before the stop
abbrev pub bytes_in : Result (ArrayVec ℕ) Short → List ℕ
bytes_in (Ok bytes) = bytes.items
bytes_in (Err short) = short.bytes.items

-- of these bytes those that were copied to a process: all, or those before the stop
abbrev pub bytes_out : List ℕ → Result (Unit {0}) Short → List ℕ
bytes_out bytes (Ok u) = bytes
bytes_out bytes (Err short) = take short.done bytes

-- no rule denies a kernel copy at any of the n addresses from `address` on
abbrev pub AreGranted : Process → Access → ℕ → ℕ → Type 0
AreGranted p access address n = (k : ℕ) → k < n → copy_rule p.scheme (regions p) access (address + k) ≡ None

-- q is the process p after a kernel copy of n bytes at `address`: the pages that have one of these bytes are resident for the
-- access, every other page is settled as it was, and the regions stay. Of bytes nothing is said
pub record IsAfterCopy (access : Access) (address n : ℕ) (p q : Process) : Type 0 where
  pub scheme : q.scheme ≡ p.scheme
  pub parts : q.parts ≡ p.parts
  pub mappings : q.mappings ≡ p.mappings
  pub heap_base : q.heap_base ≡ p.heap_base
  pub size : q.size ≡ p.size
  pub resident : (k : ℕ) → k < n → is_resident q access (page_of (address + k)) ≡ true
  pub others : (page : ℕ) → ((k : ℕ) → k < n → page ≡ page_of (address + k) → ⊥) → get q.settled page ≡ get p.settled page

-- q has at each address the byte that p has
abbrev pub HasSameBytes : List File → Process → Process → Type 0
HasSameBytes files p q = (address : ℕ) → process_byte files q address ≡ process_byte files p address

-- q has these bytes from `address` on, and at every other address the byte that p has
pub record HasPut (files : List File) (address : ℕ) (bytes : List ℕ) (p q : Process) : Type 0 where
  pub put : process_bytes files q address (length bytes) ≡ bytes
  pub others : (at : ℕ) → (at < address) ⊎ (address + length bytes ≤ at) → process_byte files q at ≡ process_byte files p at

-- v and w are the views of a seat before and after a call that ran out of frames at a page of the process q: the free count
-- was read as 0, the last time while fewer frames were reserved than the page needs
pub record RanShort (v w : View) (q : Process) (access : Access) (page : ℕ) : Type 0 where
  pub count : Option ℕ
  pub counted : is_some count ≡ is_counted access (get q.settled page)
  pub zeros : v.tallies.zeros < w.tallies.zeros
  pub short : w.tallies.short < resident_need (is_shared_by count) q access page
