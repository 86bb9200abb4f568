-- The numbers by which a caller names accesses and outcomes.
use Rattle.std.specs.Prelude.{ℕ, Bool, ◌==◌, ◌||◌, Option, None, Some, if◌then◌else◌}
use Rattle.sv39_entry.specs.declared.access.Access.{Access}
use Rattle.sv39_entry.specs.declared.access.Access.TheVariants as access
use Rattle.walk_rules.specs.declared.memory_type.MemoryType.{MemoryType}
use Rattle.walk_rules.specs.declared.memory_type.MemoryType.TheVariants.{Pma, Nc, Io}
use Rattle.walk_rules.specs.declared.status.Privilege.{Privilege}
use Rattle.walk_rules.specs.declared.status.Privilege.TheVariants.{User, Supervisor, Machine}
use Rattle.access_history.specs.declared.outcome.Outcome.{Outcome}
use Rattle.access_history.specs.declared.outcome.Outcome.TheVariants.{Granted, Refused}
use Rattle.access_history.specs.declared.outcome.Request.{Request}
use Rattle.access_history.specs.declared.outcome.Update.{Update}
use Rattle.lent_history.specs.Lent.{status_of}
use Rattle.lent_history.specs.declared.hart.LentHart.{LentHart}
use Rattle.lent_history.specs.declared.numbers.LentAccess.{LentAccess}
use Rattle.lent_history.specs.declared.numbers.LentOutcome.{LentOutcome}

abbrev pub access_of : ℕ → Option Access
access_of code = if code == 0 then Some access.Fetch else (if code == 1 then Some access.Load else (if code == 2 then Some access.Store else None))

abbrev pub privilege_of : ℕ → Option Privilege
privilege_of code = if code == 0 then Some User else (if code == 1 then Some Supervisor else (if code == 3 then Some Machine else None))

abbrev pub is_width : ℕ → Bool
is_width width = width == 1 || width == 2 || width == 4 || width == 8

abbrev pub request_with : LentAccess → LentHart → Option Access → Option Privilege → Option Request
request_with a h None p = None
request_with a h (Some kind) None = None
request_with a h (Some kind) (Some p) =
    if is_width a.width then Some (record { kind = kind; va = record { 0 = a.address }; width = a.width; privilege = p; status = status_of h }) else None

-- the access that numbers say, under mstatus as it is now; None if one of them has no meaning
abbrev pub request_in : LentAccess → LentHart → Option Request
request_in a h = request_with a h (access_of a.access) (privilege_of a.mode)

abbrev pub memory_type_of : ℕ → Option MemoryType
memory_type_of code = if code == 0 then Some Pma else (if code == 1 then Some Nc else (if code == 2 then Some Io else None))

abbrev pub update_in : LentOutcome → Option Update
update_in o = if o.updates == 0 then None else Some (record { table = o.table; index = o.index; word = o.word })

abbrev pub granted_with : LentOutcome → Option MemoryType → Option Outcome
granted_with o None = None
granted_with o (Some t) = Some (Granted o.address t (update_in o))

-- the outcome that numbers say; None if one of them has no meaning. What does not belong to the status does not count
abbrev pub outcome_in : LentOutcome → Option Outcome
outcome_in o =
    if o.status == 0 then granted_with o (memory_type_of o.memory_type) else (if o.status == 1 then Some (Refused o.cause (update_in o)) else None)

abbrev pub code_of : MemoryType → ℕ
code_of Pma = 0
code_of Nc = 1
code_of Io = 2

abbrev pub update_numbers : Option Update → LentOutcome
update_numbers None = record { status = 0; memory_type = 0; address = 0; cause = 0; updates = 0; table = 0; index = 0; word = 0 }
update_numbers (Some u) = record { status = 0; memory_type = 0; address = 0; cause = 0; updates = 1; table = u.table; index = u.index; word = u.word }

abbrev pub granted_numbers : ℕ → MemoryType → LentOutcome → LentOutcome
granted_numbers pa t u = record {
  status = 0;
  memory_type = code_of t;
  address = pa;
  cause = 0;
  updates = u.updates;
  table = u.table;
  index = u.index;
  word = u.word;
}

abbrev pub refused_numbers : ℕ → LentOutcome → LentOutcome
refused_numbers cause u = record {
  status = 1;
  memory_type = 0;
  address = 0;
  cause = cause;
  updates = u.updates;
  table = u.table;
  index = u.index;
  word = u.word;
}

-- an outcome by its numbers: what does not belong to it is 0
abbrev pub numbers_of : Outcome → LentOutcome
numbers_of (Granted pa t u) = granted_numbers pa t (update_numbers u)
numbers_of (Refused cause u) = refused_numbers cause (update_numbers u)
