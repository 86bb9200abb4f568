-- Predicates on calls: it is this user access (`IsAccess`), a user access (`IsAccessCall`), neither fork nor exit
-- (`IsPlainCall`), has a box for CopyIn's reply (`HasRoomFor`), may read pages of files (`may_read`); and which of its page
-- moves are reads (`moves_read`).
use Rattle.std.specs.Prelude.{◌≡◌, Bool, true, false, IsSome, List, [], Option, if◌then◌else◌}
use Rattle.hart_calls.specs.CallOutcomes.{request}
use Rattle.process_model.specs.PageMoves.{PageMove}
use Rattle.process_model.specs.Service.{AccessRequest}
use Rattle.process_model.specs.declared.call.Call.{Call}
use Rattle.process_model.specs.declared.call.Call.TheVariants as call
use Rattle.sv39_entry.specs.declared.access.Access.TheVariants.{Fetch, Load, Store}

-- the call is this user access
abbrev pub IsAccess : Call → AccessRequest → Type 0
IsAccess (call.Fetch address) a = a ≡ request Fetch address 4 0
IsAccess (call.Load address width) a = a ≡ request Load address width 0
IsAccess (call.Store address width value) a = a ≡ request Store address width value
IsAccess c a = ⊥

-- the call is a user access: fetch, load or store
abbrev pub IsAccessCall : Call → Type 0
IsAccessCall (call.Fetch address) = Unit {0}
IsAccessCall (call.Load address width) = Unit {0}
IsAccessCall (call.Store address width value) = Unit {0}
IsAccessCall c = ⊥

-- the call is neither fork nor exit
abbrev pub IsPlainCall : Call → Type 0
IsPlainCall (call.Fork list) = ⊥
IsPlainCall (call.Exit status) = ⊥
IsPlainCall c = Unit {0}

-- if the call is CopyIn, there is a box for its reply, which may carry bytes
abbrev pub HasRoomFor : {A : Type 0} → Call → Option A → Type 0
HasRoomFor (call.CopyIn address count) o = IsSome o
HasRoomFor c o = Unit {0}

-- whether a call may read pages of files: an access or a copy may, since it may settle pages
abbrev pub may_read : Call → Bool
may_read (call.Fetch address) = true
may_read (call.Load address width) = true
may_read (call.Store address width value) = true
may_read (call.CopyIn address count) = true
may_read (call.CopyOut address bytes) = true
may_read c = false

-- the pages that a call read, of the page moves that it made: all of them if it may read, else none
abbrev pub moves_read : Call → List PageMove → List PageMove
moves_read c moves = if may_read c then moves else []
