-- `IsMadeAtOnce`: what a user access that was made at once, without service, promises: reply and process are the model's,
-- whatever the files are, no page of a file is read or written, and nothing was short.
use Rattle.std.specs.Prelude.{◌≡◌, ◌≤◌}
use Rattle.address_space.specs.Agreement.{Body}
use Rattle.file_shelf.specs.ShelfStates.{CanRefuse, HasMoves, ShelfState}
use Rattle.hart_calls.specs.CallOutcomes.{call_outcome}
use Rattle.hart_calls.specs.CallResults.{address_of, by_reply, IsModelResult, IsPlain, RefusesPromise}
use Rattle.process_model.specs.Process.{Process}
use Rattle.process_model.specs.Service.{AccessRequest, user_access}
use Rattle.process_model.specs.declared.call.Call.{Call}
use Rattle.process_model.specs.declared.reply.Reply.{Reply}

-- the space x became y by call c, which is the access a of process p, and r is the reply
pub record IsMadeAtOnce (x y : Body) (p : Process) (a : AccessRequest) (c : Call) (r : Reply) : Type 0 where
  pub plain : IsPlain r
  pub process : (s : ShelfState) → (user_access p a).process ≡ (call_outcome s.files (by_reply (address_of c) r) 0 p c).process
  pub result : (s : ShelfState)
      → IsModelResult x y s.files (λ moves. HasMoves s moves s) (RefusesPromise HasMoves CanRefuse s) (λ n. n ≤ s.room) p c (by_reply (address_of c) r) r
