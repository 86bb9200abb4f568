-- Predicates for the steps that release pages and whole spaces: the leaves of a range are gone (`Drops`); before and after
-- one leaf is removed with its frame's reference, the first of a range, or a run of pages (`DropsRun`); a space that may be
-- taken apart (`CanEnd`), one without pages, and what the seat holds once the tables are released.
use Rattle.std.specs.Prelude.{◌≡◌, ◌≢◌, ◌⊎◌, ℕ, ◌^◌, ◌<◌, ◌≤◌, Bool, true, false, IsSome, Option, None, Some, []}
use Rattle.std.specs.FinMap.{get}
use Rattle.frame_store.specs.View.{View, hold_of}
use Rattle.process_model.specs.Heap.{without_pages}
use Rattle.process_model.specs.Process.{Process}
use Rattle.sv39_entry.specs.Frame.{ppn_of}
use Rattle.sv39_entry.specs.Word.{ppn}
use Rattle.sv39_entry.specs.Schemes.{trampoline_page, trapframe_page}
use Rattle.sv39_entry.specs.declared.scheme.Scheme.{Scheme}
use Rattle.table_walk.specs.Tables.{HasTables, Tables, leaf_node, without_leaf}
use Rattle.address_space.specs.Agreement.{Body, code_rights, data_rights, HasKernelLeaf, HoldsTrapframe, IsFrameOfPage, no_extra, OwnsFrames, IsInMemory}
use Rattle.address_space.specs.SettledLists.{AreUnsettled}
use Rattle.address_space.specs.Steps.{TakesFrames}

-- no page from `first` up to, and without, `end` has a leaf
abbrev pub AreUnmapped : Tables → ℕ → ℕ → Type 0
AreUnmapped t first end = (n : ℕ) → first ≤ n → n < end → get t.leaves (leaf_node n) ≡ None

-- the first page of a range that has a leaf, and the leaf; None if no page has one
abbrev pub IsFirstMapped : Tables → ℕ → ℕ → Option (ℕ × ℕ) → Type 0
IsFirstMapped t first end None = AreUnmapped t first end
IsFirstMapped t first end (Some p) = (first ≤ p.0) × (p.0 < end) × (get t.leaves (leaf_node p.0) ≡ Some p.1) × AreUnmapped t first p.0

-- the first settled page of a range, and its leaf; None if no page of the range is settled
abbrev pub IsFirstLeaf : Tables → Process → ℕ → ℕ → Option (ℕ × ℕ) → Type 0
IsFirstLeaf t p first end None = AreUnsettled p first end
IsFirstLeaf t p first end (Some found) = IsFirstMapped t first end (Some found)

-- the leaves of the pages from `first` up to, and without, `end` are gone; every other leaf and every table is as it was
pub record Drops (t u : Tables) (first end : ℕ) : Type 0 where
  pub tables : u.tables ≡ t.tables
  pub gone : AreUnmapped u first end
  pub others : (k : ℕ) → ((n : ℕ) → first ≤ n → n < end → k ≡ leaf_node n → ⊥) → get u.leaves k ≡ get t.leaves k

-- a page's leaf may be removed: the page is on a frame, and it is not TRAMPOLINE's page, whose leaf names frame 0
pub record CanDrop (z : Scheme) (v : View) (root : ℕ) (t : Tables) (page : ℕ) : Type 0 where
  pub tables : HasTables z v root t
  pub owns : OwnsFrames v t no_extra
  pub anchor : IsFrameOfPage t (trampoline_page z) 0
  pub apart : leaf_node page ≢ leaf_node (trampoline_page z)
  pub frame : ℕ
  pub on : IsFrameOfPage t page frame
  pub small : frame < 2 ^ 16

-- the page's leaf is removed and the reference to its frame dropped; what the seat has of the frames that other leaves name
-- is as it was
pub record DropsLeaf (z : Scheme) (v w : View) (root : ℕ) (t : Tables) (page : ℕ) : Type 0 where
  pub tables : HasTables z w root (without_leaf t (leaf_node page))
  pub owns : OwnsFrames w (without_leaf t (leaf_node page)) no_extra
  pub others : (n x f : ℕ) → get (without_leaf t (leaf_node page)).leaves n ≡ Some x → ppn x ≡ ppn_of f → hold_of w f ≡ hold_of v f
  pub credits : w.credits ≡ v.credits
  pub takes : TakesFrames v w 0 []

-- the leaf of a page below `end` may be removed, if it has one
abbrev pub MayDrop : Scheme → View → ℕ → Tables → ℕ → ℕ → Type 0
MayDrop z v root t page end = page < end → IsSome (get t.leaves (leaf_node page)) → CanDrop z v root t page

-- true: the page is below `end` and had a leaf, which is removed. false: it is not below `end`, or has no leaf, and nothing
-- changed
abbrev pub DropsIf : Scheme → Bool → View → View → ℕ → Tables → ℕ → ℕ → Type 0
DropsIf z true v w root t page end = (page < end) × IsSome (get t.leaves (leaf_node page)) × DropsLeaf z v w root t page
DropsIf z false v w root t page end = (page < end → get t.leaves (leaf_node page) ≡ None) × (w ≡ v)

-- the first page of a range that had a leaf, which is removed. None: no page of the range has one, and nothing changed
abbrev pub DropsFirst : Scheme → Option ℕ → View → View → ℕ → Tables → ℕ → ℕ → Type 0
DropsFirst z None v w root t first end = AreUnmapped t first end × (w ≡ v)
DropsFirst z (Some page) v w root t first end = (leaf : ℕ) × IsFirstMapped t first end (Some (page, leaf)) × DropsLeaf z v w root t page

-- the process without the pages of the range is in memory, and the seat has of the trapframe's frame what it had
pub record DropsRun (v w : View) (root trapframe : ℕ) (t u : Tables) (p : Process) (first end : ℕ) : Type 0 where
  pub stands : IsInMemory w root trapframe no_extra u (without_pages p first end)
  pub drops : Drops t u first end
  pub saved : hold_of w trapframe ≡ hold_of v trapframe
  pub credits : w.credits ≡ v.credits
  pub takes : TakesFrames v w 0 []

-- the process p is in memory, and by the scheme of the layout: its space may be taken apart. The seat may have credits
abbrev pub CanEnd : Body → Tables → Process → Type 0
CanEnd x t p = (p.scheme ≡ x.layout.scheme) × IsInMemory x.view x.root x.trapframe no_extra t p

-- the tables have the leaves of TRAMPOLINE and TRAPFRAME, and no others
pub record IsEmptied (z : Scheme) (v : View) (root trapframe : ℕ) (t : Tables) : Type 0 where
  pub tables : HasTables z v root t
  pub owns : OwnsFrames v t no_extra
  pub on_trampoline : HasKernelLeaf t (trampoline_page z) 0 code_rights
  pub on_trapframe : HasKernelLeaf t (trapframe_page z) trapframe data_rights
  pub only : (k w : ℕ) → get t.leaves k ≡ Some w → (k ≡ leaf_node (trampoline_page z)) ⊎ (k ≡ leaf_node (trapframe_page z))

-- the tables are released: the seat holds the frames of TRAMPOLINE and TRAPFRAME, the latter as it was, and no other frame
pub record IsStripped (v w : View) (trapframe : ℕ) : Type 0 where
  pub holds : HoldsTrapframe w trapframe
  pub saved : hold_of w trapframe ≡ hold_of v trapframe
  pub credits : w.credits ≡ v.credits
  pub takes : TakesFrames v w 0 []
