-- The walk over memory as it is, without history, for any top level (`IsWay`), as the laws of this crate compare it (the standard, 4.3.2).
use Rattle.std.specs.Prelude.{◌≡◌, ℕ, suc, zero, ◌-◌, Some}
use Rattle.sv39_entry.specs.Address.{vpn}
use Rattle.sv39_entry.specs.Word.{ppn}
use Rattle.sv39_entry.specs.declared.entry.Kind.TheVariants.{Pointer}
use Rattle.walk_rules.specs.Kinds.{kind_in}
use Rattle.walk_rules.specs.declared.extensions.Extensions.{Extensions}
use Rattle.access_history.specs.History.{Memory}

-- how many pointers lead from the root to a table of a level
abbrev pub levels_above : ℕ → ℕ → ℕ
levels_above top level = top - level

-- after k pointers the walk of a page is at this table: the root, or where the pointer in the table before it leads
abbrev pub IsWay : Extensions → Memory → ℕ → ℕ → ℕ → ℕ → ℕ → Type 0
IsWay x m root page top zero table = table ≡ root
IsWay x m root page top (suc k) table =
    (above pointer : ℕ) × IsWay x m root page top k above × (m above (vpn page (top - k)) ≡ Some pointer)
    × (kind_in x (top - k) pointer ≡ Pointer) × (table ≡ ppn pointer)
