-- The child's page tables while a fork builds them on the parent's seat: when it can begin (`CanOpen`, `CanCopy`), the leaf
-- of a settled page, one in memory (`HasChildLeaf`), and tables, leaves and credits after some of these pages (`CopiesPages`)
-- and after all (`CopiesTree`).
use Rattle.std.specs.Prelude.{◌≡◌, ◌≢◌, ℕ, ◌-◌, ◌<◌, ◌≤◌, Contains, List, Some, ◌+◌, true}
use Rattle.std.specs.FinMap.{get}
use Rattle.frame_store.specs.View.{AllKnown, hold_of, IsHeld, references, spent, View}
use Rattle.process_model.specs.Frames.{tables_needed}
use Rattle.process_model.specs.Order.{HasOrder}
use Rattle.process_model.specs.PageMap as pages
use Rattle.process_model.specs.Process.{Page, Process, regions}
use Rattle.process_model.specs.Regions.{holds_page, Region, region_at}
use Rattle.process_model.specs.Residence.{child_page}
use Rattle.sv39_entry.specs.Schemes.{trampoline_page, trapframe_page, top_level}
use Rattle.sv39_entry.specs.declared.scheme.Scheme.{Scheme}
use Rattle.table_walk.specs.TableCounts.{AreTablesOf}
use Rattle.table_walk.specs.Tables.{HasTables, leaf_node, Tables}
use Rattle.address_space.specs.Agreement.{code_rights, data_rights, HasKernelLeaf, is_dirty_page, IsLeafNumber, IsFrameOfPage, IsPageLeaf}
use Rattle.address_space.specs.Layouts.{Layout, LaysOut}
use Rattle.address_space.specs.SettledLists.{AreSettled}
use Rattle.address_space.specs.declared.settled_pages.SettledPage.{SettledPage}

-- page n of the child has a leaf in u, on the frame that it has in the parent's t. W is clear; the copy-on-write mark is set if
-- the page had it or its region grants writing; D is set exactly when the region grants writing and is no shared mapping
pub record HasChildLeaf (t u : Tables) (p : Process) (n : ℕ) (s : Page) : Type 0 where
  pub region : Region
  pub frame : ℕ
  pub leaf : ℕ
  pub in_region : region_at (regions p) n ≡ Some region
  pub on : IsFrameOfPage t n frame
  pub mapped : get u.leaves (leaf_node n) ≡ Some leaf
  pub made : IsPageLeaf leaf frame region (child_page p n s).cow (is_dirty_page region (child_page p n s))

-- each page that the region holds is in this region of the process
abbrev pub IsRegionOf : Process → Region → Type 0
IsRegionOf p r = (n : ℕ) → holds_page r n ≡ true → region_at (regions p) n ≡ Some r

-- tables for the kernel's two pages can be made: the seat holds frame 0 and another frame, for the trapframe, and has at
-- least one credit for each level
pub record CanOpen (z : Scheme) (v : View) (trapframe : ℕ) : Type 0 where
  pub anchored : IsHeld v 0
  pub saved : IsHeld v trapframe
  pub apart : trapframe ≢ 0
  pub credits : 1 + top_level z ≤ v.credits

-- the child's tables can be made: the seat holds frame 0 and another frame, for the trapframe, and has the credits for the
-- tables of all settled pages; these are listed, lie below TRAPFRAME, and each is on a frame that the seat holds and of which
-- it knows each word
pub record CanCopy (v : View) (l : Layout) (t : Tables) (p : Process) (trapframe : ℕ) (list : List SettledPage) : Type 0 where
  pub anchored : IsHeld v 0
  pub saved : IsHeld v trapframe
  pub apart : trapframe ≢ 0
  pub order : HasOrder 0 p
  pub lays : LaysOut l p
  pub settled : AreSettled t p 0 (trapframe_page p.scheme) list
  pub low : (n : ℕ) (s : Page) → pages.get p.settled n ≡ Some s → n < (trapframe_page p.scheme)
  pub known : (n : ℕ) (s : Page) → pages.get p.settled n ≡ Some s → (f : ℕ) → IsFrameOfPage t n f → IsHeld v f × AllKnown v f
  pub credits : tables_needed p.scheme (pages.keys p.settled) ≤ v.credits

-- The child's tables u, made of credits while the seat's view went from v to w, have leaves for the settled pages below a
-- bound, for TRAMPOLINE and, on the child's own frame, for TRAPFRAME. `done` has each of these settled pages, and only
-- settled pages; the tables are those for `done`. Each table is a frame of which the seat had no reference before and has one
-- after; of every other frame it has what it had.
pub record CopiesPages (v w : View) (t u : Tables) (p : Process) (root trapframe bound : ℕ) (done : List ℕ) : Type 0 where
  pub tables : HasTables p.scheme w root u
  pub on_trampoline : HasKernelLeaf u (trampoline_page p.scheme) 0 code_rights
  pub on_trapframe : HasKernelLeaf u (trapframe_page p.scheme) trapframe data_rights
  pub settled : (n : ℕ) (s : Page) → pages.get p.settled n ≡ Some s → n < bound → HasChildLeaf t u p n s
  pub only : (k x : ℕ) → get u.leaves k ≡ Some x → IsLeafNumber p k
  pub all : (n : ℕ) (s : Page) → pages.get p.settled n ≡ Some s → n < bound → Contains done n
  pub there : (n : ℕ) → Contains done n → (s : Page) × (pages.get p.settled n ≡ Some s)
  pub tabled : AreTablesOf p.scheme u done
  pub fresh : (k f : ℕ) → get u.tables k ≡ Some f → (references v f ≡ 0) × (references w f ≡ 1)
  pub same : (f : ℕ) → ((k : ℕ) → get u.tables k ≡ Some f → ⊥) → hold_of w f ≡ hold_of v f
  pub credits : w.credits ≡ v.credits - tables_needed p.scheme done
  pub tallies : w.tallies ≡ spent (tables_needed p.scheme done) v.tallies

-- `CopiesPages` for all settled pages: the child's tables are complete
pub record CopiesTree (v w : View) (t u : Tables) (p : Process) (root trapframe : ℕ) : Type 0 where
  pub tables : HasTables p.scheme w root u
  pub on_trampoline : HasKernelLeaf u (trampoline_page p.scheme) 0 code_rights
  pub on_trapframe : HasKernelLeaf u (trapframe_page p.scheme) trapframe data_rights
  pub settled : (n : ℕ) (s : Page) → pages.get p.settled n ≡ Some s → HasChildLeaf t u p n s
  pub only : (k x : ℕ) → get u.leaves k ≡ Some x → IsLeafNumber p k
  pub tabled : AreTablesOf p.scheme u (pages.keys p.settled)
  pub fresh : (k f : ℕ) → get u.tables k ≡ Some f → (references v f ≡ 0) × (references w f ≡ 1)
  pub same : (f : ℕ) → ((k : ℕ) → get u.tables k ≡ Some f → ⊥) → hold_of w f ≡ hold_of v f
  pub credits : w.credits ≡ v.credits - tables_needed p.scheme (pages.keys p.settled)
  pub tallies : w.tallies ≡ spent (tables_needed p.scheme (pages.keys p.settled)) v.tallies
