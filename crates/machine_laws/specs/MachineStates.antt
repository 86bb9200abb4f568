-- What a hart of a machine shows between two steps: the words of all frames as a memory (`memory_in`), and the word in its satp (`satp_on`). So the
-- first state of a history (`first_on`).
use Rattle.std.specs.Prelude.{ℕ, nat_lt, Option, None, Some, List, [], slice_get, if◌then◌else◌}
use Rattle.access_history.specs.History.{First}
use Rattle.hart_machine.specs.Harts.{hart_of}
use Rattle.hart_machine.specs.declared.hart.Hart.{Hart}
use Rattle.hart_machine.specs.declared.machine.Machine.{Machine}
use Rattle.hart_machine.specs.declared.slot_process.SlotProcess.{SlotProcess}
use Rattle.process_model.specs.Harts.{has_user_satp, present_asid}
use Rattle.sv39_entry.specs.Satp.{satp_word}
use Rattle.sv39_entry.specs.Schemes.{mode_of}
use Rattle.table_walk.specs.Memory.{Memory, plain_memory}

-- the word at an index, below 512, of the frame with a physical page number; None outside the memory. A list has the words, 512 for each frame
abbrev pub words_memory : List ℕ → Memory
words_memory words ppn index = if nat_lt index 512 then plain_memory words ppn index else None

abbrev pub memory_in : Machine → Memory
memory_in m = words_memory m.frames.words

-- the frame of the root of the page table that a hart's satp names in its phase: that of the process in the hart's slot, or the kernel's
abbrev pub root_or : ℕ → Option (Option SlotProcess) → ℕ
root_or kernel (Some (Some y)) = y.space.root.0
root_or kernel (Some None) = kernel
root_or kernel None = kernel

abbrev pub slot_root : Machine → Option ℕ → ℕ
slot_root m None = m.kernel.root.0
slot_root m (Some s) = root_or m.kernel.root.0 (slice_get m.slots.items s)

abbrev pub root_in : Machine → Hart → ℕ
root_in m x = if has_user_satp x.phase then slot_root m x.slot else m.kernel.root.0

-- the word in a hart's satp: MODE of the machine's scheme, ASID and root (the standard, 4.1.11)
abbrev pub satp_in : Machine → Hart → ℕ
satp_in m x = satp_word (mode_of m.kernel.scheme) (present_asid m.policy (hart_of x)) (root_in m x)

abbrev pub satp_or_zero : Machine → Option Hart → ℕ
satp_or_zero m (Some x) = satp_in m x
satp_or_zero m None = 0

-- satp of hart k; 0 if there is no such hart
abbrev pub satp_on : Machine → ℕ → ℕ
satp_on m k = satp_or_zero m (slice_get m.harts.items k)

-- the first state of hart k's history: memory and satp as they are, and no PMP entries
abbrev pub first_on : Machine → ℕ → First
first_on m k = record { memory = memory_in m; satp = satp_on m k; pmp = [] }
