-- Records `Process`: its regions, heap, settled pages and pending access, no page table and no reference count; `Page`: a
-- settled page, its bytes, copy number (names one copy in memory), copy-on-write mark (a store takes the page over first) and
-- dirty mark (a shared mapping's page was made ready for a store); `Pending`: an access that faulted. Also the heap as a
-- region, and whether a page's region grants writing.
use Rattle.std.specs.Prelude.{ℕ, Bool, true, false, not, ◌-◌, Option, None, List, ◌∷◌, ◌++◌}
use Rattle.process_model.specs.Bytes.{pages_for}
use Rattle.process_model.specs.PageMap.{PageMap, NumberSet}
use Rattle.process_model.specs.Regions.{Region, heap, zeros, region_at, lacks_right}
use Rattle.sv39_entry.specs.Address.{page_of}
use Rattle.sv39_entry.specs.declared.access.Access.{Access}
use Rattle.sv39_entry.specs.declared.access.Access.TheVariants.{Store}
use Rattle.sv39_entry.specs.declared.scheme.Scheme.{Scheme}

-- a settled page, with its 4,096 bytes as this process sees them. Copy number: two settled pages are one copy in memory exactly
-- when their copy numbers are equal. Copy-on-write mark: left by a fork; the next store takes the page over first (the xv6
-- book, "Page-fault exceptions"). Dirty mark: this page of a writable shared mapping was made ready for a store since it was
-- settled (the mmap lab)
pub record Page : Type 0 where
  pub bytes : List ℕ
  pub copy : ℕ
  pub cow : Bool
  pub dirty : Bool

-- an access that faulted, and whether the kernel has served it
pub record Pending : Type 0 where
  pub access : Access
  pub address : ℕ
  pub width : ℕ
  pub served : Bool

pub record Process : Type 0 where
  -- the scheme by which its addresses are translated: the world's
  pub scheme : Scheme
  -- segments, guard and stack, in ascending order
  pub parts : List Region
  -- in ascending order, and above the heap
  pub mappings : List Region
  pub heap_base : ℕ
  -- the address at which the heap ends; sbrk changes it
  pub size : ℕ
  pub settled : PageMap Page
  -- all pages that were settled since start or exec, in a child at the fork or since: their page tables stay
  pub tabled : NumberSet
  pub pending : Option Pending

-- the heap: the pages from the heap base up to the size rounded up
abbrev pub heap_of : Process → Region
heap_of p = record {
  first = page_of p.heap_base;
  pages = pages_for p.size - page_of p.heap_base;
  reads = true;
  writes = true;
  executes = false;
  kind = heap;
  source = zeros;
}

abbrev pub regions : Process → List Region
regions p = p.parts ++ heap_of p ∷ p.mappings

-- whether the page has a region that grants writing
abbrev pub grants_write : Process → ℕ → Bool
grants_write p page = not (lacks_right Store (region_at (regions p) page))

abbrev pub without_pending : Process → Process
without_pending p = record p { pending = None }
