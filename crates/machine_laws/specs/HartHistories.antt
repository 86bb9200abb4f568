-- A hart of a machine is one of those that the standard speaks of (`HasHistory`): by a history of stores, writes of satp and fences, memory and satp are
-- what the machine has, and its TLB is one that such a history allows.
use Rattle.std.specs.Prelude.{◌≡◌, ℕ, Some, List, []}
use Rattle.access_history.specs.History.{First, memory_at, satp_at}
use Rattle.access_history.specs.declared.event.Event.{Event}
use Rattle.hart_machine.specs.Buffers.{buffer_of}
use Rattle.hart_machine.specs.declared.machine.Machine.{Machine}
use Rattle.hart_tlb.specs.declared.entry.TlbEntry.{TlbEntry}
use Rattle.history_laws.specs.TlbEntries.{TlbRuns}
use Rattle.machine_laws.specs.MachineStates.{memory_in, satp_on}
use Rattle.process_model.specs.declared.limits.TheConstants.{BUFFER_SIZE}

-- hart k of the machine has this history
pub record HasHistory (m : Machine) (k : ℕ) (f : First) (h : List Event) : Type 0 where
  pub memory : memory_at f.memory h ≡ memory_in m
  pub satp : satp_at f.satp h ≡ satp_on m k
  -- no PMP entries
  pub unprotected : f.pmp ≡ []
  -- each entry of the TLB was filled by a walk at a moment of the history, over memory and satp as they were then, and no fence since removes it
  pub buffer : (es : List TlbEntry) → buffer_of m k ≡ Some es → TlbRuns f m.kernel.scheme BUFFER_SIZE h es
