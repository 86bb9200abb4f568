-- Definitions about user accesses: a request in the model's form (`request_of`); the outcome of its walk (`IsWalkOf`), and
-- whether that is a leaf (`gives_leaf`); and `IsGranted`: the regions grant the access, alignment aside, and its page is
-- resident.
use Rattle.std.specs.Prelude.{◌≡◌, ℕ, Bool, true, false, None}
use Rattle.process_model.specs.Process.{Process, regions}
use Rattle.process_model.specs.Regions.{copy_rule}
use Rattle.process_model.specs.Residence.{is_resident}
use Rattle.process_model.specs.Service as service
use Rattle.sv39_entry.specs.Address.{page_of}
use Rattle.sv39_entry.specs.declared.access.Access.{Access}
use Rattle.sv39_entry.specs.declared.access.Mode.TheVariants.{User}
use Rattle.sv39_entry.specs.declared.scheme.Scheme.{Scheme}
use Rattle.table_walk.specs.Leaves.{walk_answer}
use Rattle.table_walk.specs.Tables.{Tables}
use Rattle.table_walk.specs.declared.walk.Walk.{Walk}
use Rattle.table_walk.specs.declared.walk.Walk.TheVariants as walk
use Rattle.address_space.specs.declared.user_access.AccessRequest.{AccessRequest}

-- the model's access request that a request of the code is
abbrev pub request_of : AccessRequest → service.AccessRequest
request_of x = record { access = x.access; address = x.va.0; width = x.width; value = x.value }

-- z is the outcome of translating the access of request x in user mode by the tables t
abbrev pub IsWalkOf : Scheme → Tables → AccessRequest → Walk → Type 0
IsWalkOf s t x z = z ≡ walk_answer s t x.va.0 x.access User

-- no rule of the process's regions denies the access, alignment aside, and its page is resident for it
abbrev pub IsGranted : Process → Access → ℕ → Type 0
IsGranted p access address = (copy_rule p.scheme (regions p) access address ≡ None) × (is_resident p access (page_of address) ≡ true)

-- whether the outcome of a walk is a leaf, and so one that permits the access
abbrev pub gives_leaf : Walk → Bool
gives_leaf (walk.Leaf word level address) = true
gives_leaf _ = false
