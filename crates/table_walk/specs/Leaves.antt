-- `Leaf`, a record of a leaf's word and level. Then the outcome of an access by a leaf or without one (`answer`), and by the
-- page tables that a seat has (`walk_answer`); and predicates of these tables: each leaf names a frame (`LeavesAreThere`),
-- none has G (`LeavesAreLocal`).
use Rattle.std.specs.Prelude.{◌≡◌, ℕ, ◌/◌, false, true, is_some, Option, None, Some, option_map, if◌then◌else◌}
use Rattle.std.proofs.Common.{arith}
use Rattle.std.specs.FinMap.{get}
use Rattle.sv39_entry.specs.Address.{has, page_of}
use Rattle.sv39_entry.specs.Causes.{page_fault_cause}
use Rattle.sv39_entry.specs.Frame.{frame_at}
use Rattle.sv39_entry.specs.Schemes.{is_canonical}
use Rattle.sv39_entry.specs.Word.{permits, ppn}
use Rattle.sv39_entry.specs.declared.scheme.Scheme.{Scheme}
use Rattle.sv39_entry.specs.declared.access.Access.{Access}
use Rattle.sv39_entry.specs.declared.access.Mode.{Mode}
use Rattle.table_walk.specs.Memory.{Extent, physical_address}
use Rattle.table_walk.specs.Tables.{Tables, walk_leaf}
use Rattle.table_walk.specs.declared.walk.Walk.{Walk}
use Rattle.table_walk.specs.declared.walk.Walk.TheVariants as walk

-- the leaf that a walk found: its word and its level
pub record Leaf : Type 0 where
  pub word : ℕ
  pub level : ℕ

-- the outcome of an access by a leaf, or without one (the standard, 4.3.2, steps 3 to 8): a page fault without a leaf, or if
-- its rights do not permit the access
abbrev pub answer : Option Leaf → ℕ → Access → Mode → Walk
answer None address access mode = walk.PageFault (page_fault_cause access)
answer (Some leaf) address access mode =
    if permits mode access leaf.word
    then walk.Leaf leaf.word leaf.level (physical_address leaf.word leaf.level address)
    else walk.PageFault (page_fault_cause access)

-- a leaf of tables that a kernel builds is at level 0
abbrev pub page_leaf : ℕ → Leaf
page_leaf word = record { word = word; level = 0 }

-- the leaf of the page of an address; an address that is not canonical has none
abbrev pub leaf_at : Scheme → Tables → ℕ → Option Leaf
leaf_at s t address = if is_canonical s address then option_map page_leaf (get t.leaves (walk_leaf s (page_of address))) else None

-- the outcome of an access by the tables that a seat has
abbrev pub walk_answer : Scheme → Tables → ℕ → Access → Mode → Walk
walk_answer s t address access mode = answer (leaf_at s t address) address access mode

-- the leaf of each page that has one names a frame
abbrev pub LeavesAreThere : Scheme → Tables → Type 0
LeavesAreThere s t = (page w : ℕ) → get t.leaves (walk_leaf s page) ≡ Some w → is_some (frame_at (ppn w)) ≡ true

-- no leaf of a page has G
abbrev pub LeavesAreLocal : Scheme → Tables → Type 0
LeavesAreLocal s t = (page w : ℕ) → get t.leaves (walk_leaf s page) ≡ Some w → has w 5 ≡ false

-- each word of each frame is inside the memory
abbrev pub frames_there : Extent
frames_there ppn index = is_some (frame_at ppn)

-- the physical address by a leaf at level 0 lies in the frame that the leaf names
pub lands : (w a : ℕ) → physical_address w 0 a / 4096 ≡ ppn w
lands w a = omega arith
