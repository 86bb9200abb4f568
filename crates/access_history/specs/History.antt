-- Definitions: a hart's history, the list of its events, the newest first; and memory, satp and the PMP entries after it. A moment is
-- such a list. (RISC-V Privileged Architecture 20211203, "the standard", 4.1.11, 4.2.1, 3.7.2.)
use Rattle.std.specs.Prelude.{ℕ, ◌==◌, ◌&&◌, Option, None, Some, List, [], ◌∷◌, slice_set, if◌then◌else◌}
use Rattle.walk_rules.specs.declared.pmp.PmpEntry.{PmpEntry}
use Rattle.access_history.specs.declared.event.Event.{Event}
use Rattle.access_history.specs.declared.event.Event.TheVariants.{Store, WriteSatp, WritePmp, Fence}

-- the word at an index of the frame with a physical page number; None outside the memory
abbrev pub Memory : Type 0
Memory = ℕ → ℕ → Option ℕ

-- memory, satp and the PMP entries as they were before all events
pub record First : Type 0 where
  pub memory : Memory
  pub satp : ℕ
  pub pmp : List PmpEntry

-- memory at a moment: a store changes one word, no other event changes any
abbrev pub memory_at : Memory → List Event → Memory
memory_at m [] = m
memory_at m (Store p i w ∷ h) = λ ppn index. if ppn == p && index == i then Some w else memory_at m h ppn index
memory_at m (WriteSatp w ∷ h) = memory_at m h
memory_at m (WritePmp n e ∷ h) = memory_at m h
memory_at m (Fence a s ∷ h) = memory_at m h

-- satp at a moment: the last word that was written
abbrev pub satp_at : ℕ → List Event → ℕ
satp_at first [] = first
satp_at first (Store p i w ∷ h) = satp_at first h
satp_at first (WriteSatp w ∷ h) = w
satp_at first (WritePmp n e ∷ h) = satp_at first h
satp_at first (Fence a s ∷ h) = satp_at first h

-- the PMP entries at a moment
abbrev pub pmp_at : List PmpEntry → List Event → List PmpEntry
pmp_at first [] = first
pmp_at first (Store p i w ∷ h) = pmp_at first h
pmp_at first (WriteSatp w ∷ h) = pmp_at first h
pmp_at first (WritePmp n e ∷ h) = slice_set (pmp_at first h) n e
pmp_at first (Fence a s ∷ h) = pmp_at first h

-- the PMP entries that a check may go by at a moment: as they were at each moment since the last SFENCE.VMA with both x0,
-- which software is to execute after writing PMP registers (3.7.2)
abbrev pub pmps_at : List PmpEntry → List Event → List (List PmpEntry)
pmps_at first [] = first ∷ []
pmps_at first (Store p i w ∷ h) = pmps_at first h
pmps_at first (WriteSatp w ∷ h) = pmps_at first h
pmps_at first (WritePmp n e ∷ h) = slice_set (pmp_at first h) n e ∷ pmps_at first h
pmps_at first (Fence None None ∷ h) = pmp_at first h ∷ []
pmps_at first (Fence None (Some s) ∷ h) = pmps_at first h
pmps_at first (Fence (Some a) s ∷ h) = pmps_at first h

-- the second moment is the first one or comes before it
pub data IsPast : List Event → List Event → Type 0 where
  now : {h : List Event} → IsPast h h
  older : {h k : List Event} {e : Event} → IsPast h k → IsPast (e ∷ h) k
