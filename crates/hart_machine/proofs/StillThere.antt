-- Lemmas for kernel copies: a copy leaves the trapframe on its frame, and what is in the slot after it is still a process,
-- with no pending access (`still_there`).
use Rattle.std.proofs.Common.{◌≡◌, ℕ, ◌+◌, refl, ap, ◌∙◌, List, [], ◌∷◌, ◌++◌, length, Option, None, Ok, Err}
use Rattle.address_space.specs.Agreement.{body_of}
use Rattle.address_space.proofs.PendingAccess.{agrees_pending}
use Rattle.address_space.specs.declared.space.Space.{Space}
use Rattle.fault_rules.specs.PageService.{Moment, StoreModel}
use Rattle.frame_store.specs.View.{View}
use Rattle.process_model.specs.Process.{Process, without_pending}
use Rattle.table_walk.specs.Tables.{Tables}
use Rattle.user_copy.specs.ReachedPage.{StillStands}
use Rattle.user_copy.specs.Runs.{CopiesIn, CopiesOut}
use Rattle.user_copy.specs.declared.short.Stop.{Stop}
use Rattle.hart_machine.specs.SlotProcesses.{body_in, IsSlotProcess}
use Rattle.hart_machine.specs.declared.slot_process.SlotProcess.{SlotProcess}

-- ---- copies keep the trapframe's frame

module _ {Seat Frames Cabinet : Type 0} (l : StoreModel Seat Frames Cabinet) where
  pub trapframe_in : (rs : List (ℕ × ℕ)) (a c : Moment Seat Frames Cabinet) (done bytes : List ℕ) (stop : Option Stop) → CopiesIn l rs a c done bytes stop → c.space.trapframe ≡ a.space.trapframe
  trapframe_in [] a c done bytes stop is = ap (λ (z : Moment Seat Frames Cabinet). z.space.trapframe) is.0
  trapframe_in (run ∷ rest) a c done bytes stop (b, Ok u, reaches, (d, got, read, copies)) = trapframe_in rest d c (done ++ got) bytes stop copies ∙ read.trapframe ∙ reaches.place.trapframe
  trapframe_in (run ∷ rest) a c done bytes stop (b, Err s, reaches, x) = ap (λ (z : Moment Seat Frames Cabinet). z.space.trapframe) x.0 ∙ reaches.place.trapframe

  pub trapframe_out : (rs : List (ℕ × List ℕ)) (a c : Moment Seat Frames Cabinet) (done count : ℕ) (stop : Option Stop) → CopiesOut l rs a c done count stop → c.space.trapframe ≡ a.space.trapframe
  trapframe_out [] a c done count stop is = ap (λ (z : Moment Seat Frames Cabinet). z.space.trapframe) is.0
  trapframe_out (run ∷ rest) a c done count stop (b, Ok u, reaches, (d, puts, copies)) = trapframe_out rest d c (done + length run.1) count stop copies ∙ puts.trapframe ∙ reaches.place.trapframe
  trapframe_out (run ∷ rest) a c done count stop (b, Err s, reaches, x) = ap (λ (z : Moment Seat Frames Cabinet). z.space.trapframe) x.0 ∙ reaches.place.trapframe

-- a process in its slot, of which nothing is pending after a copy
pub still_there : (x : SlotProcess) (z : Space View) → z.trapframe ≡ x.space.trapframe → StillStands (body_in x) (body_of (λ v. v) z)
    → (t : Tables) (p : Process) → IsSlotProcess x t p → (u : Tables) × (q : Process) × IsSlotProcess (record { space = z; pending = None }) u q
still_there x z trapframe stands t p slot_process =
    let s = stands t p slot_process.agrees in (
      s.0,
      without_pending s.1,
      record {
        agrees = agrees_pending _ _ _ _ _ s.1 s.2 None;
        framed = rw trapframe slot_process.framed;
        pending = refl;
        wide = tt;
      },
    )
