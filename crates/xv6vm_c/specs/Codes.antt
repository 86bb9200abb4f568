-- The numbers by which C programs name accesses, privilege modes and outcomes.
use Rattle.std.specs.Prelude.{ℕ, ◌==◌, Bool, Option, Some, None, if◌then◌else◌}
use Rattle.sv39_entry.specs.Satp as satps
use Rattle.sv39_entry.specs.declared.access.Access.{Access}
use Rattle.sv39_entry.specs.declared.access.Access.TheVariants as access
use Rattle.sv39_entry.specs.declared.access.Mode.{Mode}
use Rattle.sv39_entry.specs.declared.access.Mode.TheVariants as mode
use Rattle.table_walk.specs.Memory.{physical_address}
use Rattle.table_walk.specs.declared.walk.Found.{Found}
use Rattle.table_walk.specs.declared.walk.Found.TheVariants as found
use Rattle.table_walk.specs.declared.walk.Walk.{Walk}
use Rattle.table_walk.specs.declared.walk.Walk.TheVariants as walk
use Rattle.xv6vm_c.specs.declared.codes.Outcome.{Outcome}
use Rattle.xv6vm_c.specs.declared.codes.Leaf.{Leaf}

-- the access with a code; None if the code names none
abbrev pub access_of : ℕ → Option Access
access_of code = if code == 0 then Some access.Fetch else (if code == 1 then Some access.Load else (if code == 2 then Some access.Store else None))

-- the privilege mode with a code; None if the code names none
abbrev pub mode_of : ℕ → Option Mode
mode_of code = if code == 0 then Some mode.User else (if code == 1 then Some mode.Supervisor else None)

-- MODE 0 is Bare: no translation
abbrev pub is_bare : ℕ → Bool
is_bare satp = satps.mode satp == 0

-- an outcome by its numbers: what does not belong to it is 0
abbrev pub outcome_of : Walk → Outcome
outcome_of (walk.Leaf word level address) = record { status = 0; level = level; word = word; address = address; cause = 0 }
outcome_of (walk.PageFault cause) = record { status = 1; level = 0; word = 0; address = 0; cause = cause }
outcome_of (walk.AccessFault cause) = record { status = 2; level = 0; word = 0; address = 0; cause = cause }

-- without translation the address is the physical address
abbrev pub bare_outcome : ℕ → Outcome
bare_outcome address = record { status = 3; level = 0; word = 0; address = address; cause = 0 }

-- no such entry
abbrev pub no_entry : Outcome
no_entry = record { status = 5; level = 0; word = 0; address = 0; cause = 0 }

-- an argument has no meaning: `cause` is 1 for the access, 2 for the mode, 3 for the MODE of satp
abbrev pub unknown : ℕ → Outcome
unknown argument = record { status = 6; level = 0; word = 0; address = 0; cause = argument }

-- a leaf that a walk finds for an address, by its numbers, with the physical address that it gives
abbrev pub leaf_at : ℕ → ℕ → Bool → ℕ → Leaf
leaf_at word level global address =
    record { status = 0; level = level; word = word; address = physical_address word level address; global = if global then 1 else 0 }

-- no leaf, whatever the reason
abbrev pub no_leaf : Leaf
no_leaf = record { status = 4; level = 0; word = 0; address = 0; global = 0 }

-- a word on the way is outside the memory
abbrev pub outside : Leaf
outside = record { status = 2; level = 0; word = 0; address = 0; global = 0 }

-- what a walk finds for an address
abbrev pub leaf_of : Found → ℕ → Leaf
leaf_of (found.Leaf word level global) address = leaf_at word level global address
leaf_of found.NoLeaf address = no_leaf
leaf_of found.Outside address = outside

abbrev pub bare_leaf : ℕ → Leaf
bare_leaf address = record { status = 3; level = 0; word = 0; address = address; global = 0 }

abbrev pub unknown_leaf : Leaf
unknown_leaf = record { status = 6; level = 0; word = 0; address = 0; global = 0 }
