-- Whether the leaf that an access uses permits it, where the regions grant it (`is_served`); and the leaves for which that is the standard's
-- rule (`IsGrantedLeaf`).
use Rattle.std.specs.Prelude.{◌≡◌, ℕ, ◌&&◌, Bool, true, false, not, Option, None, Some}
use Rattle.sv39_entry.specs.Address.{has}
use Rattle.sv39_entry.specs.Rights.{grants}
use Rattle.sv39_entry.specs.Word.{IsLeafOf}
use Rattle.sv39_entry.specs.declared.access.Access.{Access}
use Rattle.sv39_entry.specs.declared.access.Access.TheVariants.{Fetch, Load, Store}

-- a store needs a leaf with D (bit 7) and without C (bit 8)
abbrev pub lets : Access → ℕ → Bool
lets Fetch word = true
lets Load word = true
lets Store word = not (has word 8) && has word 7

-- without a leaf nothing is permitted
abbrev pub is_served : Access → Option ℕ → Bool
is_served access None = false
is_served access (Some word) = lets access word

-- the word is that of a leaf that the kernel writes, by rights that grant the access
pub record IsGrantedLeaf (access : Access) (word : ℕ) : Type 0 where
  pub frame : ℕ
  pub rights : ℕ
  pub user : Bool
  pub is_cow : Bool
  pub dirty : Bool
  pub leaf : IsLeafOf word frame rights user is_cow dirty
  pub granted : grants rights access ≡ true
