-- Kernel calls for the process on a hart: when the kernel can make one (`IsInKernel`, `IsCaller`, `call_while`), the
-- replies, and the process after munmap and sbrk (`HasUnmapped`, `HasResized`). Also pages before and after a call
-- (`Follows`): each was in memory before, on the same frame, or is new, with a new copy number (which names one copy of a
-- page in memory).
use Rattle.std.specs.Prelude.{◌≡◌, ◌⊎◌, ℕ, ◌+◌, ◌<◌, ◌≤◌, Err, false, not, ◌&&◌, Bool, true, List, ℤ, Ok, Result, Some, slice_get}
use Rattle.frame_store.specs.View.{View, IsSole}
use Rattle.process_model.specs.Bytes.{pages_for}
use Rattle.process_model.specs.Files.{File}
use Rattle.process_model.specs.Harts as harts
use Rattle.process_model.specs.Heap.{sbrk_result}
use Rattle.process_model.specs.Mappings.{Unmapped, unmapped}
use Rattle.process_model.specs.PageMap as pages
use Rattle.process_model.specs.Process.{Page, Process, without_pending}
use Rattle.process_model.specs.World.{always, awaits_service, is_unserved_access, on_hart, StepOutcome, with_its_process, World}
use Rattle.process_model.specs.declared.phase.Phase.TheVariants as phase
use Rattle.process_model.specs.declared.reply.Refusal.{Refusal}
use Rattle.process_model.specs.declared.reply.Reply.{Reply}
use Rattle.process_model.specs.declared.reply.ScalarReply.TheVariants.{Done, MappedAt, OldSize, Refused}
use Rattle.process_model.specs.declared.reply.Reply.TheVariants.{Scalar}
use Rattle.sv39_entry.specs.Address.{page_of}
use Rattle.table_walk.specs.Tables.{Tables}
use Rattle.address_space.specs.Agreement.{IsFrameOfPage}
use Rattle.address_space.specs.SpaceTeardown.{Drops}
use Rattle.hart_machine.specs.SlotProcesses.{IsSlotProcess}
use Rattle.hart_machine.specs.declared.hart.Hart.{Hart}
use Rattle.hart_machine.specs.declared.machine.Machine.{Machine}
use Rattle.hart_machine.specs.declared.slot_process.SlotProcess.{SlotProcess}

-- pages

-- page n, with the content a, was settled before with the same copy number, and is on the frame that it was on
pub record KeepsPage (t u : Tables) (p : Process) (n : ℕ) (a : Page) : Type 0 where
  pub before : Page
  pub settled : pages.get p.settled n ≡ Some before
  pub copy : before.copy ≡ a.copy
  pub on : (f : ℕ) → IsFrameOfPage u n f → IsFrameOfPage t n f

-- page n, with the content a, has a copy number from `low` up to, but without, `high`, and is on a frame of which the seat is
-- the sole holder
pub record IsNew (v : View) (u : Tables) (low high n : ℕ) (a : Page) : Type 0 where
  pub given : low ≤ a.copy
  pub below : a.copy < high
  pub sole : (f : ℕ) → IsFrameOfPage u n f → IsSole v f

-- Process q, by tables u, comes after p, by tables t: each of its pages was there before (`KeepsPage`) or is new (`IsNew`). New
-- copy numbers lie between the counters before and after, and no two pages have the same one.
pub record Follows (v : View) (t u : Tables) (p q : Process) (low high : ℕ) : Type 0 where
  pub each : (n : ℕ) (a : Page) → pages.get q.settled n ≡ Some a → KeepsPage t u p n a ⊎ IsNew v u low high n a
  pub apart : (m n : ℕ) (a b : Page) → pages.get q.settled m ≡ Some a → pages.get q.settled n ≡ Some b → low ≤ a.copy → a.copy ≡ b.copy → m ≡ n
  pub order : low ≤ high

-- calls

-- hart h is in phase `Kernel` for the process of slot s, and an access of this process waits for service exactly as `waits`
-- says
pub record IsInKernel (m : Machine) (w : World) (h s : ℕ) (waits : Bool) : Type 0 where
  pub hart : Hart
  pub there : slice_get m.harts.items h ≡ Some hart
  pub in_kernel : hart.phase ≡ phase.Kernel
  pub on : hart.slot ≡ Some s
  pub slot_process : SlotProcess
  pub place : slice_get m.slots.items s ≡ Some (Some slot_process)
  pub process : Process
  pub in_slot : slice_get w.slots s ≡ Some (Some process)
  pub unserved : is_unserved_access process.pending ≡ waits

-- the same, with no access waiting: the kernel can make a call for the process
abbrev pub IsCaller : Machine → World → ℕ → ℕ → Type 0
IsCaller m w h s = IsInKernel m w h s false

-- whether b is what `waits` says
abbrev pub waits_as : Bool → Bool → Bool
waits_as b true = b
waits_as b false = not b

-- what the kernel does (`run`) for the process of hart h if it may: the hart is in phase `Kernel`, and an access waits for
-- service exactly as `waits` says; else the refusal
abbrev pub call_while : World → ℕ → Bool → (harts.Hart → ℕ → Process → StepOutcome) → StepOutcome
call_while w h waits run = on_hart w h true (λ x. harts.is_kernel x.phase && waits_as (awaits_service w x) waits) always (λ x. with_its_process w x (run x))

-- replies

abbrev pub mapped_or_refused : Result ℕ Refusal → Reply
mapped_or_refused (Ok address) = Scalar (MappedAt address)
mapped_or_refused (Err e) = Scalar (Refused e)

abbrev pub done_or_refused : {A : Type 0} → Result A Refusal → Reply
done_or_refused (Ok x) = Scalar Done
done_or_refused (Err e) = Scalar (Refused e)

abbrev pub size_or_refused : {A : Type 0} → Result (ℕ × A) Refusal → Reply
size_or_refused (Ok x) = Scalar (OldSize x.0)
size_or_refused (Err e) = Scalar (Refused e)

abbrev pub size_of : {A : Type 0} → Result (ℕ × A) Refusal → Result ℕ Refusal
size_of (Ok x) = Ok x.0
size_of (Err e) = Err e

-- munmap

-- process and files are those of the model after munmap, and no access is pending; the leaves of the unmapped pages are gone
pub record HasUnmapped (y : SlotProcess) (t : Tables) (p : Process) (before after : List File) (address len : ℕ) : Type 0 where
  pub what : Unmapped
  pub is : unmapped before p address len ≡ Ok what
  pub tables : Tables
  pub slot_process : IsSlotProcess y tables (without_pending what.process)
  pub drops : Drops t tables (page_of address) (page_of address + pages_for len)
  pub files : after ≡ what.files

-- sbrk

-- the process is that of the model after sbrk, and no access is pending; the leaves of the pages above the new size are gone
pub record HasResized (y : SlotProcess) (t : Tables) (p : Process) (delta : ℤ) : Type 0 where
  pub process : Process
  pub is : sbrk_result p delta ≡ Ok process
  pub tables : Tables
  pub slot_process : IsSlotProcess y tables (without_pending process)
  pub drops : Drops t tables (pages_for process.size) (pages_for p.size)
