-- Two machines have the same words in all page tables below a root (`HaveSameTables`), as before and after a step that changes none of them.
use Rattle.std.specs.Prelude.{◌≡◌, ℕ, ◌<◌, Some}
use Rattle.std.specs.FinMap.{get}
use Rattle.hart_machine.specs.declared.machine.Machine.{Machine}
use Rattle.machine_laws.specs.MachineStates.{memory_in}
use Rattle.sv39_entry.specs.Frame.{ppn_of}
use Rattle.table_walk.specs.Tables.{Tables}

abbrev pub HaveSameTables : Tables → Machine → Machine → Type 0
HaveSameTables t m n = (k f i : ℕ) → get t.tables k ≡ Some f → i < 512 → memory_in n (ppn_of f) i ≡ memory_in m (ppn_of f) i
