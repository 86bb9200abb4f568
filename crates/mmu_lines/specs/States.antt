-- What a reference MMU is between two lines (`State`), and how it begins.
use Rattle.std.specs.Prelude.{ℕ, false}
use Rattle.access_history.specs.Permits.{Past}
use Rattle.access_history.specs.declared.outcome.Request.{Request}
use Rattle.mmu.specs.Pasts.{past}
use Rattle.mmu.specs.Units.{fresh}
use Rattle.mmu_requests.specs.declared.profile.Profile.{Profile}
use Rattle.sv39_entry.specs.declared.access.Access.{Access}
use Rattle.sv39_entry.specs.declared.address.Va.{Va}
use Rattle.walk_rules.specs.declared.status.Privilege.{Privilege}
use Rattle.walk_rules.specs.declared.status.Privilege.TheVariants.{User}
use Rattle.walk_rules.specs.declared.status.Status.{Status}
use Rattle.mmu_lines.specs.declared.player.MmuPlayer.{MmuPlayer}

-- the hart's profile, its status, and what happened to it
pub record State : Type 0 where
  pub profile : Profile
  pub status : Status
  pub past : Past

abbrev pub state_of : MmuPlayer → State
state_of p = record { profile = p.profile; status = p.status; past = past p.recorded.unit }

abbrev pub first_status : Status
first_status = record { sum = false; mxr = false; mprv = false; mpp = User }

-- a new one with a profile
abbrev pub begun : Profile → State
begun p = record { profile = p; status = first_status; past = fresh p.pmp_entries }

abbrev pub with_status : Status → State → State
with_status s state = record { profile = state.profile; status = s; past = state.past }

abbrev pub with_past : Past → State → State
with_past p state = record { profile = state.profile; status = state.status; past = p }

-- an access of the hart, as it is judged
abbrev pub asked : Status → Access → Va → ℕ → Privilege → Request
asked s access va width m = record { kind = access; va = va; width = width; privilege = m; status = s }
