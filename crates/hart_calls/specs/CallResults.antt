-- What each `CallResult` (how a call in a space ended) promises (`IsCallResult`, `GivesCallResult`): reply, process and page
-- moves are the model's for the shortage (what it needed and did not get) that the reply shows (`shortage_of`), with
-- evidence for it (`IsModelResult`); or nothing was done (`IsNotMade`). `RefusesPromise`: the files can refuse n pages.
use Rattle.std.specs.Prelude.{◌≡◌, ℕ, ◌+◌, ◌<◌, List, [], ◌++◌, length, Option, Some}
use Rattle.address_space.specs.Agreement.{Body, IsSpace}
use Rattle.file_cabinet.specs.Promises.{refusal_of}
use Rattle.file_cabinet.specs.declared.promise.PromiseError.{PromiseError}
use Rattle.frame_store.specs.View.{View}
use Rattle.hart_calls.specs.CallKinds.{IsAccessCall}
use Rattle.hart_calls.specs.ShortageReports.{ReportsShortage}
use Rattle.hart_calls.specs.CallOutcomes.{reads_of, call_outcome, writes_of}
use Rattle.hart_calls.specs.Shortages.{frames_at, CanBeShort, nothing, refused, Shortage, WasAsked}
use Rattle.hart_calls.specs.declared.call_result.CallResult.{CallResult}
use Rattle.hart_calls.specs.declared.call_result.CallResult.TheVariants as call_result
use Rattle.process_model.specs.Files.{File}
use Rattle.process_model.specs.PageMoves.{PageMove}
use Rattle.process_model.specs.Process.{Process}
use Rattle.process_model.specs.declared.call.Call.{Call}
use Rattle.process_model.specs.declared.call.Call.TheVariants as call
use Rattle.process_model.specs.declared.reply.Refusal.{Refusal}
use Rattle.process_model.specs.declared.reply.Refusal.TheVariants as refusal
use Rattle.process_model.specs.declared.reply.Reply.{Reply}
use Rattle.process_model.specs.declared.reply.ScalarReply.TheVariants as scalar
use Rattle.process_model.specs.declared.reply.Reply.TheVariants as reply
use Rattle.sv39_entry.specs.Address.{page_of}
use Rattle.sv39_entry.specs.declared.rule.Rule.{Rule}
use Rattle.sv39_entry.specs.declared.rule.Rule.TheVariants.{NoFrame}
use Rattle.table_walk.specs.Tables.{Tables}

-- the shortage of a call, by its result

-- frames, a slot, references, memory or room in a journal were short; any other refusal is for no shortage
abbrev pub by_refusal : Refusal → Shortage
by_refusal refusal.NoFrame = refused 0 refusal.NoFrame
by_refusal refusal.NoSlot = refused 0 refusal.NoSlot
by_refusal refusal.SharersFull = refused 0 refusal.SharersFull
by_refusal refusal.Memory = refused 0 refusal.Memory
by_refusal refusal.JournalFull = refused 0 refusal.JournalFull
by_refusal _ = nothing

-- an access or a copy that a rule stopped at an address: frames were short if the rule is NoFrame
abbrev pub at_stop : Rule → ℕ → Shortage
at_stop NoFrame address = frames_at (page_of address)
at_stop _ address = nothing

abbrev pub address_of : Call → ℕ
address_of (call.Fetch address) = address
address_of (call.Load address width) = address
address_of (call.Store address width value) = address
address_of (call.CopyIn address count) = address
address_of (call.CopyOut address bytes) = address
address_of c = 0

abbrev pub by_reply : ℕ → Reply → Shortage
by_reply address (reply.ShortIn rule bytes) = at_stop rule (address + length bytes.items)
by_reply address (reply.Scalar (scalar.ShortOut rule count)) = at_stop rule (address + count)
by_reply address (reply.Scalar (scalar.Refused r)) = by_refusal r
by_reply address (reply.Scalar (scalar.Ended rule)) = at_stop rule address
by_reply address _ = nothing

-- the shortage of a call, by its reply. The option: how many bytes a copy had copied when a promise was refused
abbrev pub shortage_of : Option ℕ → Call → Reply → Shortage
shortage_of (Some done) c (reply.Scalar (scalar.Refused r)) = refused done r
shortage_of o c r = by_reply (address_of c) r

-- after these page moves the files can refuse a promise of n pages, with this refusal
abbrev pub RefusesPromise : {C : Type 0} → (C → List PageMove → C → Type 0) → (C → ℕ → PromiseError → Type 0) → C → List PageMove → ℕ → Refusal → Type 0
RefusesPromise {C} becomes can_refuse a moves n r = (g : C) × (e : PromiseError) × becomes a moves g × can_refuse g n e × (r ≡ refusal_of e)

-- reply, space and page moves are the model's for this shortage; the shortage is possible, the seat has the evidence for it,
-- and a promise that was refused had been asked
pub record IsModelResult (x y : Body) (files : List File) (Became : List PageMove → Type 0) (Refused : List PageMove → ℕ → Refusal
    → Type 0) (Promised : ℕ → Type 0) (p : Process) (c : Call) (shortage : Shortage) (r : Reply) : Type 0 where
  pub possible : CanBeShort files p c shortage
  pub reply : r ≡ (call_outcome files shortage 0 p c).reply
  pub space : (u : Tables) × IsSpace y u (call_outcome files shortage 0 p c).process
  pub moves : Became (reads_of files shortage p c ++ writes_of files shortage p c)
  pub lack : ReportsShortage x.view y.view files p c shortage
  pub request : WasAsked (Refused (reads_of files shortage p c)) Promised p c shortage

-- the process continues after this reply, and no child begins
abbrev pub IsPlain : Reply → Type 0
IsPlain (reply.Scalar (scalar.Ended rule)) = ⊥
IsPlain (reply.Scalar (scalar.Exited status)) = ⊥
IsPlain (reply.Scalar (scalar.Forked n)) = ⊥
IsPlain r = Unit {0}

-- no frame was claimed between views v and w of a seat
abbrev pub ClaimsNone : View → View → Type 0
ClaimsNone v w = w.tallies.claims ≡ v.tallies.claims

-- the call was not made: the files could refuse to promise the one page that it would read, the space is still the process,
-- no frame was claimed, and no page was read or written
pub record IsNotMade (x y : Body) (files : List File) (Became : List PageMove → Type 0) (Refused : List PageMove → ℕ → Refusal
    → Type 0) (p : Process) (c : Call) (r : Refusal) : Type 0 where
  pub could : Refused [] 1 r
  pub of_file : 0 < length (reads_of files nothing p c)
  pub claims : ClaimsNone x.view y.view
  pub space : (u : Tables) × IsSpace y u p
  pub moves : Became []

-- what each result promises of the process that the space was before the call
abbrev pub IsCallResult : Body → Body → List File → (List PageMove → Type 0) → (List PageMove → ℕ → Refusal → Type 0) → (ℕ → Type 0)
    → Process → Call → CallResult → Type 0
IsCallResult x y files Became Refused Promised p c (call_result.Unserved r) = IsAccessCall c × IsNotMade x y files Became Refused p c r
IsCallResult x y files Became Refused Promised p c (call_result.Answered r) = IsPlain r
    × IsModelResult x y files Became Refused Promised p c (by_reply (address_of c) r) r
IsCallResult x y files Became Refused Promised p c (call_result.Unpromised r done) =
    IsModelResult x y files Became Refused Promised p c (refused done r) (reply.Scalar (scalar.Refused r))
IsCallResult x y files Became Refused Promised p c (call_result.Ended rule) =
    IsModelResult x y files Became Refused Promised p c (at_stop rule (address_of c)) (reply.Scalar (scalar.Ended rule)) × ClaimsNone x.view y.view

-- `IsCallResult` for every process that the space was before the call, by any tables
abbrev pub GivesCallResult : Body → Body → List File → (List PageMove → Type 0) → (List PageMove → ℕ → Refusal → Type 0) → (ℕ → Type 0)
    → Call → CallResult → Type 0
GivesCallResult x y files Became Refused Promised c r = (t : Tables) (p : Process) → IsSpace x t p → IsCallResult x y files Became Refused Promised p c r
