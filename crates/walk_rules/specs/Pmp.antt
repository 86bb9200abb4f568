-- Definitions: physical memory protection, PMP (RISC-V Privileged Architecture 20211203, 3.7.1): the bytes that an entry matches,
-- and whether a list of entries permits an access. R, W and X are bits 0, 1 and 2 of an entry's byte of pmpcfg, A bits 4 and 3,
-- L bit 7.
use Rattle.std.specs.Prelude.{◌≡◌, ℕ, Bool, true, false, ◌+◌, ◌*◌, ◌/◌, ◌%◌, ◌^◌, ◌==◌, ◌&&◌, ◌||◌, not, nat_le, nat_lt, min, max}
use Rattle.std.specs.Prelude.{Option, None, Some, List, [], ◌∷◌, find, if◌then◌else◌}
use Rattle.std.specs.Int.{trailing_ones, w64}
use Rattle.sv39_entry.specs.Address.{has}
use Rattle.sv39_entry.specs.Rights.{grants}
use Rattle.sv39_entry.specs.declared.access.Access.{Access}
use Rattle.walk_rules.specs.declared.pmp.Matching.{Matching}
use Rattle.walk_rules.specs.declared.pmp.Matching.TheVariants.{Off, Tor, Na4, Napot}
use Rattle.walk_rules.specs.declared.pmp.PmpEntry.{PmpEntry}
use Rattle.walk_rules.specs.declared.pmp.Region.{Region}
use Rattle.walk_rules.specs.declared.status.Privilege.{Privilege}
use Rattle.walk_rules.specs.declared.status.Privilege.TheVariants.{User, Supervisor, Machine}

-- A, how the entry matches addresses
abbrev pub matching_of : ℕ → Matching
matching_of config =
    if config / 2 ^ 3 % 4 == 0 then Off else (if config / 2 ^ 3 % 4 == 1 then Tor else (if config / 2 ^ 3 % 4 == 2 then Na4 else Napot))

-- bits 55 to 2 of an address, which pmpaddr has in its bits 53 to 0
abbrev pub number_of : ℕ → ℕ
number_of pmpaddr = pmpaddr % 2 ^ 54

-- the region of a NAPOT entry, as software writes it: of 2 ^ (k + 3) bytes, aligned to that, with k ones at the end of pmpaddr, a
-- zero above them, and the region's upper bits above that
abbrev pub IsNapotRegion : ℕ → Region → Type 0
IsNapotRegion number r = (k : ℕ) × (r.first % 2 ^ (k + 3) ≡ 0) × (r.end ≡ r.first + 2 ^ (k + 3)) × (number + 1 ≡ r.first / 4 + 2 ^ k)

-- `IsNapotRegion` as a function: `bits` is one more than the number of ones
abbrev pub napot_region : ℕ → Region
napot_region number =
    let bits = trailing_ones w64 number + 1 in
    let first = number / 2 ^ bits * 2 ^ bits in record { first = first * 4; end = (first + 2 ^ bits) * 4 }

-- the bytes that an entry matches: OFF none; TOR those from the pmpaddr below it, or from 0 for the lowest entry, up to but not
-- including its own; NA4 four bytes; NAPOT a power of two
abbrev pub region_by : Matching → ℕ → ℕ → Region
region_by Off below number = record { first = 0; end = 0 }
region_by Tor below number = record { first = below * 4; end = number * 4 }
region_by Na4 below number = record { first = number * 4; end = number * 4 + 4 }
region_by Napot below number = napot_region number

abbrev pub region_of : ℕ → PmpEntry → Region
region_of below e = region_by (matching_of e.config) (number_of below) (number_of e.address)

-- a byte of an access is in a region
abbrev pub overlaps : Region → ℕ → ℕ → Bool
overlaps r pa width = nat_lt (max r.first pa) (min r.end (pa + width))

-- all bytes of an access are in a region
abbrev pub contains : Region → ℕ → ℕ → Bool
contains r pa width = nat_le r.first pa && nat_le (pa + width) r.end

-- each entry with its region, from the lowest entry on, where `below` is the pmpaddr before
abbrev pub with_regions : ℕ → List PmpEntry → List (PmpEntry × Region)
with_regions below [] = []
with_regions below (e ∷ es) = (e, region_of below e) ∷ with_regions e.address es

abbrev pub is_machine : Privilege → Bool
is_machine User = false
is_machine Supervisor = false
is_machine Machine = true

-- an entry grants an access that it matches: in M-mode if L is clear, or else by R, W and X
abbrev pub entry_grants : PmpEntry → Privilege → Access → Bool
entry_grants e p a = (is_machine p && not (has e.config 7)) || grants e.config a

abbrev pub is_empty : List PmpEntry → Bool
is_empty [] = true
is_empty (e ∷ es) = false

-- the verdict of the entry that decides: it must match all bytes of the access, in M-mode too. If none matches a byte, an access
-- of M-mode succeeds, and one of S or U only if the hart has no PMP entries
abbrev pub verdict : List PmpEntry → Privilege → Access → ℕ → ℕ → Option (PmpEntry × Region) → Bool
verdict es p a pa width None = is_machine p || is_empty es
verdict es p a pa width (Some (e, r)) = contains r pa width && entry_grants e p a

-- whether PMP permits an access: the lowest entry that matches a byte of it decides
abbrev pub pmp_permits : List PmpEntry → Privilege → Access → ℕ → ℕ → Bool
pmp_permits es p a pa width = verdict es p a pa width (find (λ x. overlaps x.1 pa width) (with_regions 0 es))
