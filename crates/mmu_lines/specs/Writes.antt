-- What a write of satp and of a PMP entry changes at a hart with a profile, and what a fence is to it.
use Rattle.std.specs.Prelude.{ℕ, Bool, true, false, ◌+◌, ◌*◌, ◌/◌, ◌^◌, ◌%◌, ◌==◌, ◌&&◌, nat_lt, nat_le, Option, None, Some, List, slice_get, if◌then◌else◌}
use Rattle.sv39_entry.specs.Satp.{asid, mode, root_ppn}
use Rattle.walk_rules.specs.declared.pmp.PmpEntry.{PmpEntry}
use Rattle.mmu_requests.specs.declared.profile.Profile.{Profile}
use Rattle.mmu_reasons.specs.declared.answers.Lock.{Lock}
use Rattle.mmu_reasons.specs.declared.answers.Lock.TheVariants as lock

-- a hart has a MODE (the standard, 4.1.11)
abbrev pub has_mode : Profile → ℕ → Bool
has_mode p m =
    if m == 0 then true else (if m == 8 then p.sv39 else (if m == 9 then p.sv48 else (if m == 10 then p.sv57 else false)))

-- an ASID without the bits that the hart does not have
abbrev pub cut_asid : Profile → ℕ → ℕ
cut_asid p space = if nat_lt p.asid_bits 16 then space % 2 ^ p.asid_bits else space

-- what a word leaves in satp; None: it is not written
abbrev pub satp_written : Profile → ℕ → Option ℕ
satp_written p w = if has_mode p (mode w) then Some (mode w * 2 ^ 60 + cut_asid p (asid w) * 2 ^ 44 + root_ppn w) else None

-- an entry is locked: L, bit 7 of pmpcfg (the standard, 3.7.1)
abbrev pub is_locked : Option PmpEntry → Bool
is_locked None = true
is_locked (Some e) = nat_le 128 e.config

-- an entry is locked and its A is TOR: so is the address of the one before it
abbrev pub locks_below : Option PmpEntry → Bool
locks_below None = false
locks_below (Some e) = nat_le 128 e.config && e.config / 8 % 4 == 1

abbrev pub lock_of : List PmpEntry → ℕ → Lock
lock_of es n =
    if is_locked (slice_get es n) then lock.All else (if locks_below (slice_get es (n + 1)) then lock.Address else lock.Nothing)
