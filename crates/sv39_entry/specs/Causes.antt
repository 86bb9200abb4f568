-- Definitions: the exception codes (scause) of misaligned accesses, access faults and page faults, by the kind of access
-- (RISC-V Privileged Architecture, 4.1.8).
use Rattle.std.specs.Prelude.{ℕ}
use Rattle.sv39_entry.specs.declared.access.Access.{Access}
use Rattle.sv39_entry.specs.declared.access.Access.TheVariants.{Fetch, Load, Store}

abbrev pub misaligned_cause : Access → ℕ
misaligned_cause Fetch = 0
misaligned_cause Load = 4
misaligned_cause Store = 6

abbrev pub access_fault_cause : Access → ℕ
access_fault_cause Fetch = 1
access_fault_cause Load = 5
access_fault_cause Store = 7

abbrev pub page_fault_cause : Access → ℕ
page_fault_cause Fetch = 12
page_fault_cause Load = 13
page_fault_cause Store = 15
