-- The process in a slot of the machine as a process of the model (`IsSlotProcess`): its space, and its pending access
-- (`pending_of`). Also the view of its seat (what the owner's capability at the frame store holds and knows).
use Rattle.std.specs.Prelude.{◌<◌, ◌^◌, ◌≡◌, Option, None, Some}
use Rattle.frame_store.specs.View.{View}
use Rattle.process_model.specs.Process as model
use Rattle.process_model.specs.Process.{Process}
use Rattle.table_walk.specs.Tables.{Tables}
use Rattle.address_space.specs.Agreement.{Body, IsSpace, body_of}
use Rattle.hart_machine.specs.declared.slot_process.Pending.{Pending}
use Rattle.hart_machine.specs.declared.slot_process.SlotProcess.{SlotProcess}

abbrev pub pending_of : Option Pending → Option model.Pending
pending_of None = None
pending_of (Some x) = Some (record { access = x.access; address = x.va.0; width = x.width; served = x.served })

-- a pending access has at least one byte
abbrev pub HasPageBytes : Option model.Pending → Type 0
HasPageBytes None = Unit {0}
HasPageBytes (Some a) = 0 < a.width

-- the view of the process's seat
abbrev pub view_of : SlotProcess → View
view_of x = x.space.seat

abbrev pub body_in : SlotProcess → Body
body_in x = body_of (λ v. v) x.space

-- the space in the slot is process p of the model, by the tables t, and has its pending access
pub record IsSlotProcess (x : SlotProcess) (t : Tables) (p : Process) : Type 0 where
  pub agrees : IsSpace (body_in x) t p
  -- the number of a frame
  pub framed : x.space.trapframe.0 < 2 ^ 16
  pub pending : p.pending ≡ pending_of x.pending
  pub wide : HasPageBytes p.pending
