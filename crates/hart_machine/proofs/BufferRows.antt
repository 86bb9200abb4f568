-- Tests that `buffer_after` (the buffer, or TLB, of the hart of a step after it) is right for evictions, a write of `satp`,
-- a fence and a fill, in a buffer of two entries with the same page and ASID.
use Rattle.std.proofs.Common.{◌≡◌, ℕ, false, None, Some, [], ◌∷◌, refl}
use Rattle.hart_tlb.specs.declared.entry.TlbEntry.{TlbEntry}
use Rattle.process_model.specs.declared.config.Policy.TheVariants.{Full}
use Rattle.process_model.specs.declared.phase.Phase.{Phase}
use Rattle.process_model.specs.declared.phase.Phase.TheVariants as phase
use Rattle.process_model.specs.declared.step.Step.TheVariants as step
use Rattle.table_walk.specs.Tables.{Tables}
use Rattle.hart_machine.specs.Buffers.{buffer_after}
use Rattle.table_walk.specs.Leaves.{page_leaf}
use Rattle.hart_machine.specs.WalkEntries.{entry_for}
use Rattle.hart_machine.specs.declared.hart.Hart.{Hart}
use Rattle.sv39_entry.specs.declared.scheme.Scheme.TheVariants.{Sv39}

-- of the page 1, first by the kernel's table and then by the process's
abbrev first : TlbEntry
first = record { page = 1; asid = 0; global = false; leaf = None }

abbrev second : TlbEntry
second = record { page = 1; asid = 0; global = false; leaf = Some (page_leaf 31) }

abbrev hart : Phase → Hart
hart p = record { phase = p; slot = Some 3; buffer = first ∷ second ∷ []; stale = [] }

module _ (tables : ℕ → Tables) (kernel : Tables) where
  the_first_goes : buffer_after Sv39 Full tables kernel (step.Evict 0 0) (hart phase.User) ≡ second ∷ []
  the_first_goes = refl

  the_second_goes : buffer_after Sv39 Full tables kernel (step.Evict 0 1) (hart phase.User) ≡ first ∷ []
  the_second_goes = refl

  none_goes : buffer_after Sv39 Full tables kernel (step.Evict 0 2) (hart phase.User) ≡ first ∷ second ∷ []
  none_goes = refl

  -- the write of satp leaves both, and the fence after it neither
  satp_is_written : buffer_after Sv39 Full tables kernel (step.Next 0) (hart phase.Leave1) ≡ first ∷ second ∷ []
  satp_is_written = refl

  all_go : buffer_after Sv39 Full tables kernel (step.Next 0) (hart phase.Leave2) ≡ []
  all_go = refl

  -- and a fill in between keeps what the process's table says
  filled_last : buffer_after Sv39 Full tables kernel (step.Fill 0 4096) (hart phase.Leave2) ≡ first ∷ second ∷ entry_for Sv39 (tables 3) 0 4096 ∷ []
  filled_last = refl
