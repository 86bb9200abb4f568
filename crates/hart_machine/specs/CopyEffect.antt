-- A kernel copy from or to the process in a slot, a place in the process table (`CopiesFrom`, `CopiesTo`): its reply, and
-- process, frames and files after it. Also `plain_store`, the store model of a machine: its frames, and files in memory.
use Rattle.std.specs.Prelude.{◌≡◌, ℕ, List, [], None, Option, Some, option_map, slice_index}
use Rattle.fault_rules.specs.PageService.{Moment, moment, store_model, StoreModel}
use Rattle.frame_store.specs.Plain.{PlainState, PlainStateInvariant}
use Rattle.frame_store.specs.View.{View}
use Rattle.process_model.specs.Copies.{in_reply}
use Rattle.process_model.specs.Files.{File}
use Rattle.process_model.specs.PageMoves.{files_after}
use Rattle.process_model.specs.declared.reply.Reply.{Reply}
use Rattle.process_model.specs.declared.reply.ScalarReply.TheVariants.{CopiedOut, ShortOut}
use Rattle.process_model.specs.declared.reply.Reply.TheVariants.{Scalar}
use Rattle.sv39_entry.specs.declared.rule.Rule.{Rule}
use Rattle.user_copy.specs.Runs.{CopiesIn, CopiesOut, runs, runs_of}
use Rattle.user_copy.specs.declared.short.Stop.TheVariants.{Denied}
use Rattle.hart_machine.specs.declared.slot_process.SlotProcess.{SlotProcess}

-- the store model of a machine: plain frames, of one thread, and files in memory, which refuse no promise
abbrev pub plain_store : StoreModel View PlainState (List File)
plain_store = store_model (λ v. v) PlainStateInvariant (Unit {0}) (λ b. b.free) (λ b f. slice_index b.counts f) (λ fs. fs) (λ before moves after.
    after ≡ files_after before moves) (λ _ _ _. ⊥)

-- a process with its frames and files, at one moment
abbrev pub moment_of : SlotProcess → PlainState → List File → Moment View PlainState (List File)
moment_of x b fs = moment x.space b fs

-- at most n bytes were copied from process x, up to the rule that stopped the copy, if one did, as the reply says; process y
-- after it has no pending access
pub record CopiesFrom (x y : SlotProcess) (b c : PlainState) (fs gs : List File) (address n : ℕ) (reply : Reply) : Type 0 where
  pub bytes : List ℕ
  pub stop : Option Rule
  pub told : reply ≡ in_reply bytes stop
  pub copies : CopiesIn plain_store (runs address n) (moment_of x b fs) (moment_of y c gs) [] bytes (option_map Denied stop)
  pub quiet : y.pending ≡ None

-- the reply to a copy of this many bytes to the process, with the rule that stopped it, if one did
abbrev pub sent_reply : ℕ → Option Rule → Reply
sent_reply count None = Scalar (CopiedOut count)
sent_reply count (Some rule) = Scalar (ShortOut rule count)

-- the bytes were copied to process x, up to the rule that stopped the copy, if one did; the reply has the number of bytes
-- copied. Process y after it has no pending access
pub record CopiesTo (x y : SlotProcess) (b c : PlainState) (fs gs : List File) (address : ℕ) (bytes : List ℕ) (reply : Reply) : Type 0 where
  pub count : ℕ
  pub stop : Option Rule
  pub told : reply ≡ sent_reply count stop
  pub copies : CopiesOut plain_store (runs_of address bytes) (moment_of x b fs) (moment_of y c gs) 0 count (option_map Denied stop)
  pub quiet : y.pending ≡ None
