-- Service of a fault of the process in a slot: its page is resident then, so that the access succeeds (`HasServed`), or the
-- process has to end by a rule, the reason to deny the access (`MustEnd`; in the machine, `IsEnding`). Also how many frames
-- the service takes (`WhenShared`).
use Rattle.std.specs.Prelude.{◌≡◌, ◌⊎◌, ℕ, Bool, true, not, ◌-◌, ◌<◌, ◌≤◌, ◌==◌, List, Option, None, Some, slice_index}
use Rattle.address_space.specs.Agreement.{IsFrameOfPage}
use Rattle.fault_rules.specs.MadeResident.{is_shared_by, MakesResident}
use Rattle.frame_store.specs.Plain.{PlainState}
use Rattle.process_model.specs.Files.{File}
use Rattle.process_model.specs.Frames.{resident_need}
use Rattle.process_model.specs.Process.{Pending, Process, regions}
use Rattle.process_model.specs.Regions.{first_rule}
use Rattle.process_model.specs.Residence.{made_resident}
use Rattle.process_model.specs.Service as model
use Rattle.process_model.specs.World.{World}
use Rattle.process_model.specs.declared.reply.ScalarReply.TheVariants.{Ended}
use Rattle.process_model.specs.declared.reply.Reply.TheVariants.{Scalar}
use Rattle.sv39_entry.specs.Address.{page_of}
use Rattle.sv39_entry.specs.declared.rule.Rule.{Rule}
use Rattle.sv39_entry.specs.declared.rule.Rule.TheVariants.{NoFrame}
use Rattle.table_walk.specs.Tables.{Tables}
use Rattle.hart_machine.specs.Calls.{IsInKernel}
use Rattle.hart_machine.specs.Harts.{hart_of}
use Rattle.hart_machine.specs.SlotProcesses.{body_in, IsSlotProcess, view_of}
use Rattle.hart_machine.specs.Worlds.{IsWorldButBuffers}
use Rattle.hart_machine.specs.declared.machine.Machine.{Machine}
use Rattle.hart_machine.specs.declared.slot_process.SlotProcess.{SlotProcess}

-- the first rule that denies a pending access, `None` if none does
abbrev pub rule_of : Process → Pending → Option Rule
rule_of p a = first_rule p.scheme (regions p) a.access a.address a.width

-- the access is still pending, and served
abbrev pub was_served : Pending → Option Pending
was_served a = Some (record a { served = true })

-- P holds of the number of frames that making the page of access a resident takes. The page counts as shared if its frame has
-- a reference count other than 1
abbrev pub WhenShared : PlainState → Tables → Process → Pending → (ℕ → Type 0) → Type 0
WhenShared b t p a P = (shared : Bool) → ((f : ℕ) → IsFrameOfPage t (page_of a.address) f → shared ≡ not (slice_index b.counts f == 1))
    → P (resident_need shared p a.access (page_of a.address))

-- no rule denies access a, and its page was made resident with the frames that this takes; `waiting` is the pending access then
pub record HasServed (x y : SlotProcess) (t : Tables) (p : Process) (a : Pending) (waiting : Option Pending) (files : List File)
    (b c : PlainState) : Type 0 where
  pub allowed : rule_of p a ≡ None
  pub tables : Tables
  pub count : Option ℕ
  pub resides : MakesResident (view_of x) (body_in y) t tables p files a.access (page_of a.address) count
  pub counts : (f c : ℕ) → IsFrameOfPage t (page_of a.address) f → count ≡ Some c → c ≡ slice_index b.counts f
  pub slot_process : (fresh : ℕ)
      → IsSlotProcess y tables (record (made_resident files fresh (is_shared_by count) p a.access (page_of a.address)) { pending = waiting })
  pub enough : WhenShared b t p a (λ need. need ≤ b.free)
  pub free : WhenShared b t p a (λ need. c.free ≡ b.free - need)

-- the process, unchanged, has to end by this rule: the first that denies access a; or NoFrame, if none does and too few
-- frames are free
pub record MustEnd (y : SlotProcess) (t : Tables) (p : Process) (a : Pending) (b : PlainState) (rule : Rule) : Type 0 where
  pub slot_process : IsSlotProcess y t p
  pub why : (rule_of p a ≡ Some rule) ⊎ ((rule_of p a ≡ None) × (rule ≡ NoFrame) × WhenShared b t p a (λ need. b.free < need))

-- the machine is still in the world w, and the model's service ends the process by this rule
pub record IsEnding (m n : Machine) (w : World) (h s : ℕ) (k : IsInKernel m w h s true) (rule : Rule) : Type 0 where
  pub world : IsWorldButBuffers n w
  pub there : IsInKernel n w h s true
  pub hart : there.hart ≡ k.hart
  pub process : there.process ≡ k.process
  pub ends : model.served w h (hart_of k.hart) s k.process k.process.pending ≡ model.ended w h (hart_of k.hart) s k.process (Scalar (Ended rule))
