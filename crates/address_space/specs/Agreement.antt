-- The relation `IsSpace`: a space in memory is this process of the model (`IsAlive`: some process). Its parts: the references
-- that the seat has; leaf, frame and bytes of each settled page (one in memory); which page tables there are. Also what a
-- seat holds before a build and after a teardown, record `Body` (a space as contracts see it), the leaf of a region's page,
-- and what a step keeps of the leaves; with two small laws.
use Rattle.std.specs.Prelude.{◌≡◌, ◌≢◌, ◌⊎◌, ℕ, Bool, true, false, not, ◌&&◌, ◌||◌, ◌^◌, ◌<◌, ◌+◌, ◌==◌, if◌then◌else◌, Some, All}
use Rattle.std.proofs.Common.{ap, sym, ◌∙◌, arith}
use Rattle.std.proofs.lemmas.Option.{same_Some}
use Rattle.std.specs.FinMap.{get}
use Rattle.frame_bytes.specs.Contents.{HasBytes}
use Rattle.frame_store.specs.View.{View, IsSole, references}
use Rattle.process_model.specs.Order.{IsSound}
use Rattle.process_model.specs.PageMap as pages
use Rattle.process_model.specs.Process.{Page, Process, regions}
use Rattle.process_model.specs.Regions.{Region, is_guard_kind, is_shared_kind, region_at}
use Rattle.sv39_entry.specs.Address.{has}
use Rattle.sv39_entry.specs.Frame.{ppn_of}
use Rattle.sv39_entry.specs.Word.{IsLeafOf, ppn}
use Rattle.sv39_entry.specs.Schemes.{trampoline_page, trapframe_page}
use Rattle.table_walk.specs.TableCounts.{AreTablesOf}
use Rattle.table_walk.specs.Tables.{HasTables, Tables, leaf_node}
use Rattle.address_space.specs.Layouts.{Layout, LaysOut}
use Rattle.address_space.specs.declared.space.Space.{Space}

-- frames

-- table number k is in frame f, or leaf number k names frame f
abbrev pub NamesFrame : Tables → ℕ → ℕ → Type 0
NamesFrame t f k = (get t.tables k ≡ Some f) ⊎ ((w : ℕ) × (get t.leaves k ≡ Some w) × (ppn w ≡ ppn_of f))

-- references that a seat has beside those of a space: none, or one of a single frame
abbrev pub no_extra : ℕ → ℕ
no_extra f = 0

abbrev pub one_extra : ℕ → ℕ → ℕ
one_extra f g = if g == f then 1 else 0

-- The tables name no frame twice. The seat has one reference of each frame f that they name, and beside it `extra f`; of any
-- other frame f it has `extra f`. Extra references are for a call in progress: of a frame that is about to be named, that is
-- no longer named, or that another space names. The seat is the sole holder of each frame whose leaf has W.
pub record OwnsFrames (v : View) (t : Tables) (extra : ℕ → ℕ) : Type 0 where
  pub once : (f j k : ℕ) → NamesFrame t f j → NamesFrame t f k → j ≡ k
  pub named : (f k : ℕ) → NamesFrame t f k → references v f ≡ 1 + extra f
  pub bare : (f : ℕ) → ((k : ℕ) → NamesFrame t f k → ⊥) → references v f ≡ extra f
  pub writable : (f n w : ℕ) → get t.leaves n ≡ Some w → ppn w ≡ ppn_of f → has w 2 ≡ true → IsSole v f

-- before a space or the kernel's table is built: the seat holds frame 0 once, for TRAMPOLINE, and no other frame, and has no
-- credits
pub record HoldsTrampoline (v : View) : Type 0 where
  pub once : references v 0 ≡ 1
  pub others : (f : ℕ) → f ≢ 0 → references v f ≡ 0
  pub credits : v.credits ≡ 0

-- before a space is built by reserved credits, and after one is taken apart: the seat holds frame 0 once, the trapframe's
-- frame once, as its sole holder, and no other frame
pub record HoldsTrapframe (v : View) (trapframe : ℕ) : Type 0 where
  pub code : references v 0 ≡ 1
  pub saved : references v trapframe ≡ 1
  pub sole : IsSole v trapframe
  pub apart : trapframe ≢ 0
  pub others : (f : ℕ) → f ≢ 0 → f ≢ trapframe → references v f ≡ 0

-- leaves

-- whether the leaf of page s of region r has D: if the region grants writing; in a shared mapping only with the dirty mark
-- as well
abbrev pub is_dirty_page : Region → Page → Bool
is_dirty_page r s = (s.dirty || not (is_shared_kind r.kind)) && r.writes

-- w has the page number of frame f and the flags of a leaf of a page of region r (4.4.1; of the two bits for software, RSW, bit
-- 8 is the copy-on-write mark and bit 9 is clear: own choice). The guard's leaf has R and lacks U: only the kernel may read the
-- page.
pub record IsPageLeaf (w f : ℕ) (r : Region) (is_cow is_dirty : Bool) : Type 0 where
  pub names : ppn w ≡ ppn_of f
  pub small : f < 2 ^ 16
  pub read : has w 1 ≡ (is_guard_kind r.kind || r.reads)
  pub write : has w 2 ≡ (r.writes && not is_cow)
  pub execute : has w 3 ≡ r.executes
  pub for_user : has w 4 ≡ not (is_guard_kind r.kind)
  pub global : has w 5 ≡ false
  pub accessed : has w 6 ≡ true
  pub dirty : has w 7 ≡ is_dirty
  pub cow : has w 8 ≡ is_cow
  pub unused : has w 9 ≡ false

-- the rights of code, R and X, and those of data, R and W, as sets of bits
abbrev pub code_rights : ℕ
code_rights = 5

abbrev pub data_rights : ℕ
data_rights = 3

-- the leaf of one of the kernel's two pages in each space (the xv6 book, "Process address space"), over frame f: without U,
-- with D if the rights have W
abbrev pub HasKernelLeaf : Tables → ℕ → ℕ → ℕ → Type 0
HasKernelLeaf t page f rights = (w : ℕ) × (get t.leaves (leaf_node page) ≡ Some w) × IsLeafOf w f rights false false true

-- page n is mapped as the settled page s requires: by the leaf that its region and marks require, over a frame with its
-- bytes
pub record IsShown (v : View) (t : Tables) (p : Process) (n : ℕ) (s : Page) : Type 0 where
  pub region : Region
  pub frame : ℕ
  pub leaf : ℕ
  pub in_region : region_at (regions p) n ≡ Some region
  pub mapped : get t.leaves (leaf_node n) ≡ Some leaf
  pub made : IsPageLeaf leaf frame region s.cow (is_dirty_page region s)
  pub bytes : HasBytes v frame s.bytes

-- k is the number of a leaf that the process has: TRAMPOLINE's, TRAPFRAME's or that of a settled page
abbrev pub IsLeafNumber : Process → ℕ → Type 0
IsLeafNumber p k =
    (k ≡ leaf_node (trampoline_page p.scheme))
    ⊎ ((k ≡ leaf_node (trapframe_page p.scheme)) ⊎ ((n : ℕ) × (s : Page) × (k ≡ leaf_node n) × (pages.get p.settled n ≡ Some s)))

-- the leaves are those of the settled pages, which lie below TRAPFRAME, of TRAMPOLINE and of TRAPFRAME, and no others
pub record ShowsPages (v : View) (trapframe : ℕ) (t : Tables) (p : Process) : Type 0 where
  pub on_trampoline : HasKernelLeaf t (trampoline_page p.scheme) 0 code_rights
  pub on_trapframe : HasKernelLeaf t (trapframe_page p.scheme) trapframe data_rights
  pub settled : (n : ℕ) (s : Page) → pages.get p.settled n ≡ Some s → IsShown v t p n s
  pub only : (k w : ℕ) → get t.leaves k ≡ Some w → IsLeafNumber p k
  pub low : (n : ℕ) (s : Page) → pages.get p.settled n ≡ Some s → n < (trapframe_page p.scheme)

-- The process p is in memory by the tables t, which are those of its tabled pages. The seat may have any credits, and beside
-- the references that p takes those of `extra`. Copy numbers, the regions' order and pending accesses do not matter.
pub record IsInMemory (v : View) (root trapframe : ℕ) (extra : ℕ → ℕ) (t : Tables) (p : Process) : Type 0 where
  pub tables : HasTables p.scheme v root t
  pub owns : OwnsFrames v t extra
  pub shows : ShowsPages v trapframe t p
  pub tabled : AreTablesOf p.scheme t (pages.keys p.tabled)
  pub tabled_low : All (λ n. n < (trapframe_page p.scheme)) (pages.keys p.tabled)

-- agreement

-- a space as contracts see it: the view of its seat, the frames of its root table and of its trapframe, and its layout
pub record Body : Type 0 where
  pub view : View
  pub root : ℕ
  pub trapframe : ℕ
  pub layout : Layout

abbrev pub body : View → ℕ → ℕ → Layout → Body
body v root trapframe l = record { view = v; root = root; trapframe = trapframe; layout = l }

-- the body of a `Space`, by the function that gives a seat's view
abbrev pub body_of : {S : Type 0} → (S → View) → Space S → Body
body_of view x = body (view x.seat) x.root.0 x.trapframe.0 x.layout

-- a law: a space's body depends on its seat's view, its root, its trapframe and its layout alone
pub same_body : {S : Type 0} (view : S → View) (x y : Space S) → view x.seat ≡ view y.seat → x.root ≡ y.root → x.trapframe ≡ y.trapframe
    → x.layout ≡ y.layout → body_of view x ≡ body_of view y
same_body view x y seat root trapframe layout = λ i. record { view = seat i; root = (root i).0; trapframe = (trapframe i).0; layout = layout i }

-- the space x is the process p, by the tables t: p is sound (its regions are in order, each settled page is tabled), x has
-- its layout, and p is in memory; the seat has no references beside those that p takes, and no credits
pub record IsSpace (x : Body) (t : Tables) (p : Process) : Type 0 where
  pub sound : IsSound p
  pub lays : LaysOut x.layout p
  pub stands : IsInMemory x.view x.root x.trapframe no_extra t p
  pub credits : x.view.credits ≡ 0

-- the space is some process of the model, by some page tables
abbrev pub IsAlive : Body → Type 0
IsAlive x = (t : Tables) × (p : Process) × IsSpace x t p

-- steps

-- page n has a leaf, which names frame f
abbrev pub IsFrameOfPage : Tables → ℕ → ℕ → Type 0
IsFrameOfPage t n f = (w : ℕ) × (get t.leaves (leaf_node n) ≡ Some w) × (ppn w ≡ ppn_of f)

-- a law: the leaf of a page names one frame
pub one_frame : (t : Tables) (n f g : ℕ) → IsFrameOfPage t n f → IsFrameOfPage t n g → f ≡ g
one_frame t n f g on at =
    let same : on.0 ≡ at.0 = same_Some on.0 at.0 (sym on.1 ∙ at.1) in
    let ppns : ppn_of f ≡ ppn_of g = sym on.2 ∙ ap ppn same ∙ at.2 in
    omega (arith, ppns)

-- every leaf but that of one page is in u as in t
abbrev pub KeepsOtherLeaves : Tables → Tables → ℕ → Type 0
KeepsOtherLeaves t u page = (k : ℕ) → (k ≡ leaf_node page → ⊥) → get u.leaves k ≡ get t.leaves k
