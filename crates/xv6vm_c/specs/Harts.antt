-- What the calls over a hart's history answer, for every argument.
use Rattle.std.specs.Prelude.{◌≡◌, ◌⊎◌, ◌<◌, ◌≤◌, ◌+◌, ◌*◌, ◌/◌, ◌%◌, ◌^◌, ◌==◌, ℕ, Bool, false, Option, None, Some, List, length, replicate, slice_get, if◌then◌else◌}
use Rattle.std.specs.List.{Contains}
use Rattle.sv39_entry.specs.Satp.{asid, mode, root_ppn}
use Rattle.walk_rules.specs.declared.extensions.Extensions.{Extensions}
use Rattle.access_history.specs.Parts.{MayEnd}
use Rattle.access_history.specs.Permits.{Permits}
use Rattle.access_history.specs.declared.outcome.Outcome.{Outcome}
use Rattle.access_history.specs.declared.outcome.Request.{Request}
use Rattle.lent_history.specs.Lent.{Lent, extensions_of, mask_space, past_of}
use Rattle.lent_history.specs.Numbers.{numbers_of}
use Rattle.lent_history.specs.declared.hart.LentHart.{LentHart}
use Rattle.lent_history.specs.declared.hart.LentPmp.{LentPmp}
use Rattle.lent_history.specs.declared.numbers.LentOutcome.{LentOutcome}

-- a hart without events: satp and mstatus are 0, and each PMP entry is OFF
abbrev pub no_entries : List LentPmp
no_entries = replicate 64 (record { config = 0; address = 0 })

pub record IsBegun (profile asid_bits pmp_count : ℕ) (h : LentHart) : Type 0 where
  pub has_profile : h.profile ≡ profile
  pub has_spaces : h.asid_bits ≡ asid_bits
  pub has_entries : h.pmp_count ≡ pmp_count
  pub off : h.pmp ≡ no_entries
  pub satp : h.satp ≡ 0
  pub mstatus : h.mstatus ≡ 0
  pub count : h.count ≡ 0

-- a hart writes a word to satp: it has the MODE (bits 8, 9 and 10 of its profile), and with MODE 0 all else is 0
abbrev pub can_write : LentHart → ℕ → Bool
can_write h satp =
    if mode satp == 0 then satp == 0
    else (if mode satp == 8 then h.profile / 256 % 2 == 1
    else (if mode satp == 9 then h.profile / 512 % 2 == 1 else (if mode satp == 10 then h.profile / 1024 % 2 == 1 else false)))

-- the word as it is written: the ASID has as many bits as the hart has
abbrev pub satp_with : LentHart → ℕ → ℕ
satp_with h satp = mode satp * 2 ^ 60 + mask_space h (asid satp) * 2 ^ 44 + root_ppn satp

abbrev pub masked_if : LentHart → ℕ → ℕ → Option ℕ
masked_if h has asid = if has == 0 then None else Some (mask_space h asid)

-- what may come of an access, given the history
abbrev pub IsPermitted : Lent → Request → Outcome → Type 0
IsPermitted l q o = MayEnd (extensions_of l.hart) (past_of l) q o

-- 1: the outcome is permitted; 0: it is not; 6: the access or the outcome has no meaning
pub record IsVerdict (l : Lent) (q : Option Request) (o : Option Outcome) (code : ℕ) : Type 0 where
  pub yes : (x : Request) (y : Outcome) → q ≡ Some x → o ≡ Some y → code ≡ 1 → IsPermitted l x y
  pub no : (x : Request) (y : Outcome) → q ≡ Some x → o ≡ Some y → code ≡ 0 → IsPermitted l x y → ⊥
  pub unknown_access : q ≡ None → code ≡ 6
  pub unknown_outcome : o ≡ None → code ≡ 6
  pub known : (x : Request) (y : Outcome) → q ≡ Some x → o ≡ Some y → (code ≡ 0) ⊎ (code ≡ 1)

-- the outcomes that are permitted are in the first places
pub record AreListed (x : Extensions) (l : Lent) (q : Request) (old new : List LentOutcome) (count : ℕ) : Type 0 where
  pub only : (n : ℕ) → n < count → n < length new → (o : Outcome) × Permits x (past_of l) q o × (slice_get new n ≡ Some (numbers_of o))
  pub each : count ≤ length new → (o : Outcome) → Permits x (past_of l) q o → (n : ℕ) × (n < count) × (slice_get new n ≡ Some (numbers_of o))
  pub more : length new < count → (o : Outcome) × Permits x (past_of l) q o × (Contains new (numbers_of o) → ⊥)
  pub rest : (n : ℕ) → count ≤ n → slice_get new n ≡ slice_get old n

abbrev pub IsListed : Lent → Option Request → List LentOutcome → List LentOutcome → ℕ → Type 0
IsListed l q old new count = (y : Request) → q ≡ Some y → AreListed (extensions_of l.hart) l y old new count
