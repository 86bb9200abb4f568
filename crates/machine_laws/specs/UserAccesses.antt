-- A user access of the machine as a request to a hart (`IsAccessOf`); and what its reply says of an outcome (`Tells`): the cause of an exception, the value
-- that memory has at the physical address, or that a store was made.
use Rattle.std.specs.Prelude.{◌≡◌, ◌≢◌, ℕ, ◌*◌, ◌/◌, ◌%◌, ◌^◌, false, Option, None, Some, option_map}
use Rattle.access_history.specs.declared.outcome.Outcome.{Outcome}
use Rattle.access_history.specs.declared.outcome.Outcome.TheVariants.{Granted, Refused}
use Rattle.access_history.specs.declared.outcome.Request.{Request}
use Rattle.process_model.specs.declared.reply.Reply.{Reply}
use Rattle.process_model.specs.declared.reply.Reply.TheVariants.{Scalar}
use Rattle.process_model.specs.declared.reply.ScalarReply.TheVariants.{Fault, Stored, Value}
use Rattle.process_model.specs.declared.step.Step.{Step}
use Rattle.process_model.specs.declared.step.Step.TheVariants as step
use Rattle.sv39_entry.specs.declared.access.Access.{Access}
use Rattle.sv39_entry.specs.declared.access.Access.TheVariants.{Fetch, Load, Store}
use Rattle.table_walk.specs.Memory.{Memory}
use Rattle.walk_rules.specs.declared.memory_type.MemoryType.TheVariants.{Pma}
use Rattle.walk_rules.specs.declared.status.Privilege.TheVariants.{User}

-- an access in U-mode, with SUM, MXR and MPRV clear
abbrev pub user_request : Access → ℕ → ℕ → Request
user_request kind address width = record {
  kind = kind;
  va = record { 0 = address };
  width = width;
  privilege = User;
  status = record { sum = false; mxr = false; mprv = false; mpp = User };
}

-- the step is this access on hart k, by a walk or by an entry of its buffer; a fetch has 4 bytes
pub data IsAccessOf (k : ℕ) : Step → Request → Type 0 where
  fetches : (address : ℕ) (via : Option ℕ) → IsAccessOf k (step.Fetch k address via) (user_request Fetch address 4)
  loads : (address width : ℕ) (via : Option ℕ) → IsAccessOf k (step.Load k address width via) (user_request Load address width)
  stores : (address width value : ℕ) (via : Option ℕ) → IsAccessOf k (step.Store k address width value via) (user_request Store address width)

-- the little-endian number in so many bytes at a physical address, all in one word; None outside the memory
abbrev pub value_at : Memory → ℕ → ℕ → Option ℕ
value_at m pa width = option_map (λ word. word / 2 ^ (8 * (pa % 8)) % 2 ^ (8 * width)) (m (pa / 4096) (pa % 4096 / 8))

-- the reply to an access with this outcome, over a memory
pub data Tells (m : Memory) (q : Request) : Outcome → Reply → Type 0 where
  faults : (cause : ℕ) → Tells m q (Refused cause None) (Scalar (Fault cause))
  reads : (pa value : ℕ) → q.kind ≢ Store → value_at m pa q.width ≡ Some value → Tells m q (Granted pa Pma None) (Scalar (Value value))
  writes : (pa : ℕ) → q.kind ≡ Store → Tells m q (Granted pa Pma None) (Scalar Stored)
