-- Fork of the process in a slot, a place in the process table: parent and child after it (`HasForkedProcess`), the child as it
-- comes into its slot (`in_slot`), and the reply by the result (`forked_or_refused`).
use Rattle.std.specs.Prelude.{◌≡◌, ℕ, Err, None, Ok, Result, Some}
use Rattle.process_model.specs.PageMap as pages
use Rattle.process_model.specs.Process.{Page, Process}
use Rattle.process_model.specs.Residence.{child_of, marked}
use Rattle.process_model.specs.declared.reply.Refusal.{Refusal}
use Rattle.process_model.specs.declared.reply.Reply.{Reply}
use Rattle.process_model.specs.declared.reply.ScalarReply.TheVariants.{Forked, Refused}
use Rattle.process_model.specs.declared.reply.Reply.TheVariants.{Scalar}
use Rattle.table_walk.specs.Tables.{Tables}
use Rattle.address_space.specs.Agreement.{IsFrameOfPage}
use Rattle.address_space.specs.Layouts.{Layout}
use Rattle.cow_fork.specs.declared.fork_process.Child.{Child}
use Rattle.frame_store.specs.View.{View}
use Rattle.hart_machine.specs.SlotProcesses.{IsSlotProcess}
use Rattle.hart_machine.specs.declared.slot_process.SlotProcess.{SlotProcess}

-- the reply to a fork, by its result: the child's slot, or the refusal
abbrev pub forked_or_refused : {A : Type 0} → Result (ℕ × A) Refusal → Reply
forked_or_refused (Ok x) = Scalar (Forked x.0)
forked_or_refused (Err e) = Scalar (Refused e)

-- a child with this layout, as the process in a slot; no access is pending
abbrev pub in_slot : Child View → Layout → SlotProcess
in_slot child layout = record { space = record { seat = child.seat; root = child.root; trapframe = child.trapframe; layout = layout }; pending = None }

-- parent and child are those of the model, and both have each settled page on the frame that the parent had
pub record HasForkedProcess (y z : SlotProcess) (t : Tables) (p : Process) : Type 0 where
  pub after : Tables
  pub of_child : Tables
  pub parent : IsSlotProcess y after (marked p)
  pub child : IsSlotProcess z of_child (child_of p)
  pub on_parent : (n f : ℕ) (a : Page) → pages.get p.settled n ≡ Some a → IsFrameOfPage after n f → IsFrameOfPage t n f
  pub on_child : (n f : ℕ) (a : Page) → pages.get p.settled n ≡ Some a → IsFrameOfPage of_child n f → IsFrameOfPage t n f
