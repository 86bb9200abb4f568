-- The pending access of a process after a user access, by its reply (`pending_after`); what the entry of a buffer that an
-- access names makes of it, if it names one, is what the page table does (`IsWalked`).
use Rattle.std.specs.Prelude.{◌≡◌, ℕ, IfSome, Option, None, Some}
use Rattle.process_model.specs.Process as of_model
use Rattle.process_model.specs.Service as service
use Rattle.process_model.specs.declared.reply.Reply.{Reply}
use Rattle.process_model.specs.declared.reply.ScalarReply.TheVariants.{Fault}
use Rattle.process_model.specs.declared.reply.Reply.TheVariants.{Scalar}
use Rattle.sv39_entry.specs.declared.access.Access.{Access}
use Rattle.sv39_entry.specs.declared.access.Mode.TheVariants.{User}
use Rattle.sv39_entry.specs.declared.scheme.Scheme.{Scheme}
use Rattle.table_walk.specs.Leaves.{walk_answer}
use Rattle.table_walk.specs.Tables.{Tables}
use Rattle.table_walk.specs.declared.walk.Walk.{Walk}

-- after a fault the access is pending, not served; after any other reply none is
abbrev pub pending_after : service.AccessRequest → Reply → Option of_model.Pending
pending_after x (Scalar (Fault cause)) = Some (service.pending_of x)
pending_after x _ = None

-- an outcome by a buffer entry, if there is one, is that of the user's walk
abbrev pub IsWalked : Scheme → Tables → ℕ → Access → Option Walk → Type 0
IsWalked z t address access by_entry = IfSome by_entry (λ walk. walk ≡ walk_answer z t address access User)
