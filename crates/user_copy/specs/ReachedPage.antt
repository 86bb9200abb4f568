-- Predicate `Reaches`: one page of a kernel copy (copyin, copyout) is made resident or stops the copy, as `ServesPage` says
-- of a service. Also `StillStands`: a space that was a process is one still.
use Rattle.std.specs.Prelude.{ℕ, Result, Ok, Err}
use Rattle.address_space.specs.Agreement.{Body, IsSpace}
use Rattle.fault_rules.specs.PageService.{Moment, ServesPage, StoreModel}
use Rattle.fault_rules.specs.declared.service.Served.{Served}
use Rattle.fault_rules.specs.declared.service.Served.TheVariants as served
use Rattle.process_model.specs.Process.{Process, regions}
use Rattle.process_model.specs.Regions.{copy_rule}
use Rattle.sv39_entry.specs.Address.{page_of}
use Rattle.sv39_entry.specs.declared.access.Access.{Access}
use Rattle.table_walk.specs.Tables.{Tables}
use Rattle.user_copy.specs.declared.short.Stop.{Stop}
use Rattle.user_copy.specs.declared.short.Stop.TheVariants.{Denied, Unpromised}

-- the outcome of the service of a fault that a result stands for
abbrev pub served_of : Result (Unit {0}) Stop → Served
served_of (Ok u) = served.Ready
served_of (Err (Denied rule)) = served.Ended rule
served_of (Err (Unpromised e)) = served.Unserved e

-- the page of an address was made resident for an access of one byte; or a rule denies it, or frames were too few, or a page
-- of a file was not promised. As for `serve`, without alignment
abbrev pub Reaches : {Seat Frames Cabinet : Type 0} → StoreModel Seat Frames Cabinet → Moment Seat Frames Cabinet → Moment Seat Frames Cabinet → Access
    → ℕ → Result (Unit {0}) Stop → Type 0
Reaches l a b access address r = ServesPage l a b access (page_of address) (λ p. copy_rule p.scheme (regions p) access address) (served_of r)

-- if the space was a process, it is a process still, maybe by other tables
abbrev pub StillStands : Body → Body → Type 0
StillStands x y = (t : Tables) (p : Process) → IsSpace x t p → (u : Tables) × (q : Process) × IsSpace y u q
