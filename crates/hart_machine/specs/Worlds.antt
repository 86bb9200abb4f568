-- When a machine is in a world (state) of the model (`IsWorldButBuffers`): its page tables and frames make the world's processes, its
-- harts and files are the world's. What steps keep of a machine: its page tables and slots, the places in the process table
-- (`KeepsTables`, `StaysOnFrames`, `KeepsOtherSlots`, `SameTables`, `SamePlaces`), and its world (`KeepsWorld`). When reply and machine are
-- those of the model's step (`IsModelOutcome`).
use Rattle.std.specs.Prelude.{◌≡◌, ◌↔◌, ℕ, ◌<◌, ◌≤◌, false, Option, None, Some, List, ◌∷◌, length, map, slice_get, Contains}
use Rattle.std.specs.FinMap.{get}
use Rattle.frame_store.specs.Plain.{PlainStateInvariant}
use Rattle.frame_store.specs.Seats.{present}
use Rattle.frame_store.specs.View.{View}
use Rattle.process_model.specs.PageMap as pages
use Rattle.process_model.specs.Process.{Page, Process}
use Rattle.process_model.specs.Stale.{is_changed}
use Rattle.process_model.specs.World.{StepOutcome, World}
use Rattle.process_model.specs.declared.phase.Phase.TheVariants as phase
use Rattle.process_model.specs.declared.reply.Reply.{Reply}
use Rattle.hart_tlb.specs.declared.entry.TlbEntry.{TlbEntry}
use Rattle.sv39_entry.specs.Schemes.{trapframe_page}
use Rattle.table_walk.specs.Tables.{Tables}
use Rattle.address_space.specs.Agreement.{IsFrameOfPage}
use Rattle.address_space.specs.Kernel.{IsKernelTable}
use Rattle.hart_machine.specs.Harts.{hart_of}
use Rattle.hart_machine.specs.SlotProcesses.{IsSlotProcess, view_of}
use Rattle.process_model.specs.declared.limits.TheConstants.{MOST_SLOTS}
use Rattle.hart_machine.specs.declared.hart.Hart.{Hart}
use Rattle.hart_machine.specs.declared.machine.Machine.{Machine}
use Rattle.hart_machine.specs.declared.slot_process.SlotProcess.{SlotProcess}

-- processes

-- a slot of machine and model: it is missing in both, or empty in both, or the machine's process there is the model's, by the
-- tables t
abbrev pub IsSlotContent : Option (Option SlotProcess) → Option (Option Process) → Tables → Type 0
IsSlotContent None None t = Unit {0}
IsSlotContent (Some None) (Some None) t = Unit {0}
IsSlotContent (Some (Some x)) (Some (Some p)) t = IsSlotProcess x t p
IsSlotContent _ _ t = ⊥

-- two settled pages, of any processes, are on one frame exactly when their copy numbers are equal
abbrev pub HaveCopies : List (Option Process) → (ℕ → Tables) → Type 0
HaveCopies slots tables =
    (i j m n f g : ℕ) (p q : Process) (a b : Page) → slice_get slots i ≡ Some (Some p) → slice_get slots j ≡ Some (Some q)
    → pages.get p.settled m ≡ Some a → pages.get q.settled n ≡ Some b → IsFrameOfPage (tables i) m f → IsFrameOfPage (tables j) n g
    → (f ≡ g) ↔ (a.copy ≡ b.copy)

-- the counter is above the copy number of each settled page
abbrev pub AreCounted : List (Option Process) → ℕ → Type 0
AreCounted slots counter = (i n : ℕ) (p : Process) (a : Page) → slice_get slots i ≡ Some (Some p) → pages.get p.settled n ≡ Some a → a.copy < counter

-- the views of the seats of all processes
abbrev pub seats_of : List (Option SlotProcess) → List View
seats_of places = map view_of (present places)

-- memory, processes, files and harts of the machine are those of the world. Of buffer entries it says that their pages and
-- ASIDs are the model's keys and that none is global, but not what they map to: that is in `IsInWorld`
pub record IsWorldButBuffers (m : Machine) (w : World) : Type 0 where
  -- the page tables of the process in each slot, and the kernel's
  pub tables : ℕ → Tables
  pub kernel : Tables
  pub stacks : List ℕ
  pub policy : m.policy ≡ w.policy
  pub scheme : m.kernel.scheme ≡ w.scheme
  -- each process has the scheme of the machine
  pub schemes : (s : ℕ) (p : Process) → slice_get w.slots s ≡ Some (Some p) → p.scheme ≡ w.scheme
  pub few : length w.slots ≤ MOST_SLOTS
  pub frames : m.kernel.seat.size ≡ w.frames
  pub invariant : PlainStateInvariant m.frames (m.kernel.seat ∷ seats_of m.slots.items)
  pub of_kernel : IsKernelTable m.kernel.scheme m.kernel.seat m.kernel.root.0 w.frames (length w.slots) stacks kernel
  pub places : (s : ℕ) → IsSlotContent (slice_get m.slots.items s) (slice_get w.slots s) (tables s)
  pub copies : HaveCopies w.slots tables
  pub counted : AreCounted w.slots w.counter
  pub files : m.files ≡ w.files
  pub harts : map hart_of m.harts.items ≡ w.harts
  -- the slot of a hart has a process
  pub hosted : (h s : ℕ) (x : Hart) → slice_get m.harts.items h ≡ Some x → x.slot ≡ Some s → (y : SlotProcess) × (slice_get m.slots.items s ≡ Some (Some y))
  -- which is on no other hart
  pub alone : (s h k : ℕ) (x y : Hart) → slice_get m.harts.items h ≡ Some x → slice_get m.harts.items k ≡ Some y → x.slot ≡ Some s → y.slot ≡ Some s → h ≡ k
  -- a hart without a process is idle
  pub idle : (h : ℕ) (x : Hart) → slice_get m.harts.items h ≡ Some x → x.slot ≡ None → x.phase ≡ phase.Idle
  -- no buffer entry is global
  pub local : (h : ℕ) (x : Hart) (e : TlbEntry) → slice_get m.harts.items h ≡ Some x → Contains x.buffer e → e.global ≡ false

-- what steps keep of page tables, of which buffers may have entries

-- both tables have the same leaves, number by number
abbrev pub HaveSameLeaves : Tables → Tables → Type 0
HaveSameLeaves t u = (n : ℕ) → get u.leaves n ≡ get t.leaves n

-- by tables t and u, before and after a step, process p and the q that it becomes have TRAPFRAME's page, and each settled page
-- whose copy number stays, on the same frame
pub record StaysOnFrames (t u : Tables) (p q : Process) : Type 0 where
  pub trapframe : (f : ℕ) → IsFrameOfPage u (trapframe_page p.scheme) f → IsFrameOfPage t (trapframe_page p.scheme) f
  pub pages : (n f : ℕ) (a b : Page) → pages.get p.settled n ≡ Some a → pages.get q.settled n ≡ Some b → b.copy ≡ a.copy
      → IsFrameOfPage u n f → IsFrameOfPage t n f

-- the kernel keeps its table, each process its frames (`StaysOnFrames`), and its leaves if the model changes none of its copy
-- numbers and marks (`is_changed`)
pub record KeepsTables (m n : Machine) (before after : List (Option Process)) : Type 0 where
  pub many : length n.slots.items ≡ length m.slots.items
  pub kernel : (frames slots : ℕ) (stacks : List ℕ) (t : Tables)
      → IsKernelTable m.kernel.scheme m.kernel.seat m.kernel.root.0 frames slots stacks t
      → IsKernelTable n.kernel.scheme n.kernel.seat n.kernel.root.0 frames slots stacks t
  pub leaves : (s : ℕ) (x y : SlotProcess) (p q : Process) (t u : Tables) → slice_get m.slots.items s ≡ Some (Some x)
      → slice_get n.slots.items s ≡ Some (Some y) → slice_get before s ≡ Some (Some p)
      → slice_get after s ≡ Some (Some q) → is_changed (Some p) (Some q) ≡ false → IsSlotProcess x t p → IsSlotProcess y u q → HaveSameLeaves t u
  pub frames : (s : ℕ) (x y : SlotProcess) (p q : Process) (t u : Tables) → slice_get m.slots.items s ≡ Some (Some x)
      → slice_get n.slots.items s ≡ Some (Some y) → slice_get before s ≡ Some (Some p)
      → slice_get after s ≡ Some (Some q) → IsSlotProcess x t p → IsSlotProcess y u q → StaysOnFrames t u p q

-- each slot but s is unchanged, and the kernel keeps its table
pub record KeepsOtherSlots (m n : Machine) (s : ℕ) : Type 0 where
  pub many : length n.slots.items ≡ length m.slots.items
  pub kernel : (frames slots : ℕ) (stacks : List ℕ) (t : Tables)
      → IsKernelTable m.kernel.scheme m.kernel.seat m.kernel.root.0 frames slots stacks t
      → IsKernelTable n.kernel.scheme n.kernel.seat n.kernel.root.0 frames slots stacks t
  pub others : (r : ℕ) → (r ≡ s → ⊥) → slice_get n.slots.items r ≡ slice_get m.slots.items r

-- the kernel's table is unchanged, and by tables by which the process in a slot was one of the model, the process there after
-- the step is one
pub record SameTables (m n : Machine) : Type 0 where
  pub many : length n.slots.items ≡ length m.slots.items
  pub kernel : n.kernel ≡ m.kernel
  pub below : (s : ℕ) (x y : SlotProcess) (p : Process) (t : Tables) → slice_get m.slots.items s ≡ Some (Some x)
      → slice_get n.slots.items s ≡ Some (Some y) → IsSlotProcess x t p → (q : Process) × IsSlotProcess y t q

-- all slots, and the kernel's table, are unchanged
abbrev pub SamePlaces : Machine → Machine → Type 0
SamePlaces m n = (n.slots.items ≡ m.slots.items) × (n.kernel ≡ m.kernel)

-- in each world that the machine was in it still is, by the same page tables
abbrev pub KeepsWorld : Machine → Machine → Type 0
KeepsWorld m n = (w : World) (is : IsWorldButBuffers m w) → (after : IsWorldButBuffers n w) × (after.tables ≡ is.tables)

-- the reply is the model's, and the machine is in the world after the model's step
abbrev pub IsModelOutcome : Machine → Reply → StepOutcome → Type 0
IsModelOutcome m reply o = (reply ≡ o.reply) × IsWorldButBuffers m o.world
