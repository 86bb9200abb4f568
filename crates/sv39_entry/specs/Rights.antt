-- Definitions of access rights, a number as a set of bits: bit 0 is reading, bit 1 writing, bit 2 execution; and whether a
-- set has the right that a fetch, load or store needs (`grants`).
use Rattle.std.specs.Prelude.{ℕ, Bool}
use Rattle.sv39_entry.specs.Address.{has}
use Rattle.sv39_entry.specs.declared.access.Access.{Access}
use Rattle.sv39_entry.specs.declared.access.Access.TheVariants.{Fetch, Load, Store}

abbrev pub reads : ℕ → Bool
reads rights = has rights 0

abbrev pub writes : ℕ → Bool
writes rights = has rights 1

abbrev pub executes : ℕ → Bool
executes rights = has rights 2

-- whether the set has the right that an access needs
abbrev pub grants : ℕ → Access → Bool
grants rights Fetch = executes rights
grants rights Load = reads rights
grants rights Store = writes rights
