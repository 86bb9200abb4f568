-- What may come of an access whose address is misaligned too (`MayEnd`): its exception; or a fault of its first or of its last byte, where a hart
-- looks for that first: the standard leaves their order open (3.1.15, table 3.7)
use Rattle.std.specs.Prelude.{◌≡◌, ◌⊎◌, ⊤, ℕ, ◌+◌, ◌-◌, ◌<◌, ◌^◌}
use Rattle.walk_rules.specs.declared.extensions.Extensions.{Extensions}
use Rattle.access_history.specs.Permits.{IsMultiple, Past, Permits}
use Rattle.access_history.specs.declared.outcome.Outcome.{Outcome}
use Rattle.access_history.specs.declared.outcome.Outcome.TheVariants.{Granted, Refused}
use Rattle.access_history.specs.declared.outcome.Request.{Request}

-- the access to one byte of an access
abbrev pub byte_at : Request → ℕ → Request
byte_at q va = record { kind = q.kind; va = record { 0 = va }; width = 1; privilege = q.privilege; status = q.status }

-- the address of the last byte
abbrev pub last_of : Request → ℕ
last_of q = q.va.0 + (q.width - 1)

-- an access to the first byte, or to the last, if the address space has it
abbrev pub IsPart : Request → Request → Type 0
IsPart q s = (s ≡ byte_at q q.va.0) ⊎ ((last_of q < 2 ^ 64) × (s ≡ byte_at q (last_of q)))

abbrev pub IsRefusal : Outcome → Type 0
IsRefusal (Granted pa t u) = ⊥
IsRefusal (Refused cause u) = ⊤

-- a part of a misaligned access may have this outcome, a fault
pub record IsPartFault (x : Extensions) (p : Past) (q s : Request) (o : Outcome) : Type 0 where
  pub odd : IsMultiple q.va.0 q.width → ⊥
  pub part : IsPart q s
  pub fault : IsRefusal o
  pub permitted : Permits x p s o

abbrev pub FaultsInPart : Extensions → Past → Request → Outcome → Type 0
FaultsInPart x p q o = (s : Request) × IsPartFault x p q s o

-- what may come of an access: what the standard permits for it as a whole, or a fault of a part
abbrev pub MayEnd : Extensions → Past → Request → Outcome → Type 0
MayEnd x p q o = Permits x p q o ⊎ FaultsInPart x p q o
