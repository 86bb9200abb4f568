-- The step of a walk by which a page table entry is a page fault (RISC-V Privileged Architecture 20211203, 4.3.2), in the standard's order.
use Rattle.std.specs.Prelude.{ℕ, Bool, ◌*◌, ◌%◌, ◌^◌, ◌==◌, ◌&&◌, if◌then◌else◌}
use Rattle.sv39_entry.specs.Address.{has}
use Rattle.sv39_entry.specs.Word.{kind_of, mode_allows, ppn}
use Rattle.sv39_entry.specs.declared.access.Access.{Access}
use Rattle.sv39_entry.specs.declared.access.Access.TheVariants.{Fetch, Load, Store}
use Rattle.sv39_entry.specs.declared.access.Mode.{Mode}
use Rattle.sv39_entry.specs.declared.entry.Kind.{Kind}
use Rattle.sv39_entry.specs.declared.entry.Kind.TheVariants.{Invalid, Leaf, Pointer}

-- R, W or X, whichever the access needs
abbrev pub grants : Access → ℕ → Bool
grants Fetch w = has w 3
grants Load w = has w 1
grants Store w = has w 2

abbrev pub has_right : Mode → Access → ℕ → Bool
has_right mode access w = mode_allows mode w && grants access w

abbrev pub step_by : Kind → ℕ → ℕ → Mode → Access → ℕ
step_by Invalid w level mode access = 3
step_by Pointer w level mode access = 4
step_by Leaf w level mode access = if has_right mode access w then (if ppn w % 2 ^ (9 * level) == 0 then 7 else 6) else 5

abbrev pub fault_step : ℕ → ℕ → Mode → Access → ℕ
fault_step w level mode access = step_by (kind_of w) w level mode access
