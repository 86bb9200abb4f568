-- A worked example: a leaf of Sv39 is changed, and no fence follows. The page 1 of user mode was at 0x4000, and is at 0x5000 since the one event.
use Rattle.std.specs.Prelude.{ℕ, ◌+◌, ◌*◌, ◌^◌, ◌==◌, ◌&&◌, false, None, Some, List, [], if◌then◌else◌}
use Rattle.sv39_entry.specs.declared.access.Access.TheVariants.{Load}
use Rattle.walk_rules.specs.declared.extensions.AdScheme.TheVariants.{Svade}
use Rattle.walk_rules.specs.declared.extensions.Extensions.{Extensions}
use Rattle.walk_rules.specs.declared.status.Privilege.TheVariants.{User}
use Rattle.access_history.specs.History.{First, Memory}
use Rattle.access_history.specs.Permits.{Past}
use Rattle.access_history.specs.declared.event.Event.{Event}
use Rattle.access_history.specs.declared.event.Event.TheVariants.{Fence, Store}
use Rattle.access_history.specs.declared.outcome.Request.{Request}

-- a leaf for user mode over a frame: V, R, W, X, U, A and D
abbrev pub example_leaf : ℕ → ℕ
example_leaf ppn = ppn * 2 ^ 10 + 0xdf

-- the tables are in the frames 1, 2 and 3; all other words are 0
abbrev pub example_memory : Memory
example_memory ppn index =
    if ppn == 1 && index == 0 then Some (2 * 2 ^ 10 + 1)
    else (if ppn == 2 && index == 0 then Some (3 * 2 ^ 10 + 1) else (if ppn == 3 && index == 1 then Some (example_leaf 4) else Some 0))

abbrev pub example_first : First
example_first = record { memory = example_memory; satp = 8 * 2 ^ 60 + 1; pmp = [] }

abbrev pub example_store : Event
example_store = Store 3 1 (example_leaf 5)

abbrev pub example_past : List Event → Past
example_past events = record { first = example_first; events = events }

abbrev pub example_hart : Extensions
example_hart = record { svnapot = false; svpbmt = false; ad = Svade }

-- a load of 8 bytes at 0x1000 in U-mode
abbrev pub example_load : Request
example_load =
    record { kind = Load; va = record { 0 = 0x1000 }; width = 8; privilege = User; status = record { sum = false; mxr = false; mprv = false; mpp = User } }

-- SFENCE.VMA of the page, for each address space
abbrev pub example_fence : Event
example_fence = Fence (Some (record { 0 = 0x1000 })) None
