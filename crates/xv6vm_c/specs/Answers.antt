-- What the calls for C answer, for every argument: `IsTranslation`, the outcome of the translation of an access by a satp over a lent
-- memory.
use Rattle.std.specs.Prelude.{◌≡◌, ◌==◌, ℕ, true, false, List, Option, None, Some, if◌then◌else◌}
use Rattle.hart_tlb.specs.Entries.{is_match, matches}
use Rattle.hart_tlb.specs.declared.entry.TlbEntry.{TlbEntry}
use Rattle.lent_memory.specs.Memory.{Lent, lent_extent, lent_memory}
use Rattle.lent_memory.specs.Entries.{entry_at}
use Rattle.lent_memory.specs.declared.entry.LentEntry.{LentEntry}
use Rattle.sv39_entry.specs.Satp.{asid, root_ppn, scheme_of}
use Rattle.sv39_entry.specs.declared.access.Access.{Access}
use Rattle.sv39_entry.specs.declared.access.Mode.{Mode}
use Rattle.sv39_entry.specs.declared.scheme.Scheme.{Scheme}
use Rattle.sv39_entry.specs.declared.address.Va.{Va}
use Rattle.table_walk.specs.Leaves.{answer}
use Rattle.table_walk.specs.Walk.{Translates}
use Rattle.table_walk.specs.declared.walk.Walk.{Walk}
use Rattle.xv6vm_c.specs.Codes.{access_of, bare_outcome, is_bare, mode_of, no_entry, outcome_of, unknown}
use Rattle.xv6vm_c.specs.declared.codes.Outcome.{Outcome}

pub record IsTranslation (m : Lent) (satp address access mode : ℕ) (o : Outcome) : Type 0 where
  -- Sv39 and Sv48: the outcome of the walk, as the standard's 4.3.2 has it
  pub walked : (s : Scheme) (a : Access) (p : Mode) → scheme_of satp ≡ Some s → access_of access ≡ Some a → mode_of mode ≡ Some p
      → (w : Walk) × (o ≡ outcome_of w) × Translates s (lent_memory m) (lent_extent m) (root_ppn satp) address a p w
  -- Bare
  pub bare : (a : Access) (p : Mode) → is_bare satp ≡ true → access_of access ≡ Some a → mode_of mode ≡ Some p → o ≡ bare_outcome address
  -- an argument has no meaning: the first of access, mode and satp
  pub unknown_access : access_of access ≡ None → o ≡ unknown 1
  pub unknown_mode : (a : Access) → access_of access ≡ Some a → mode_of mode ≡ None → o ≡ unknown 2
  pub unknown_satp : (a : Access) (p : Mode) → access_of access ≡ Some a → mode_of mode ≡ Some p → is_bare satp ≡ false → scheme_of satp ≡ None → o ≡ unknown 3

-- the use of the entry in a place, if there is one
pub record IsUse (e : Option TlbEntry) (address asid access mode : ℕ) (o : Outcome) : Type 0 where
  -- the entry matches: the outcome is that of its leaf, with rights judged now
  pub used : (x : TlbEntry) (a : Access) (p : Mode) → e ≡ Some x → matches address asid x ≡ true → access_of access ≡ Some a → mode_of mode ≡ Some p
      → o ≡ outcome_of (answer x.leaf address a p)
  pub no_match : (a : Access) (p : Mode) → is_match address asid e ≡ false → access_of access ≡ Some a → mode_of mode ≡ Some p → o ≡ no_entry
  pub unknown_access : access_of access ≡ None → o ≡ unknown 1
  pub unknown_mode : (a : Access) → access_of access ≡ Some a → mode_of mode ≡ None → o ≡ unknown 2

-- the arguments of a fence: 0 in the first number means none
abbrev pub address_if : ℕ → ℕ → Option Va
address_if has address = if has == 0 then None else Some (record { 0 = address })

abbrev pub asid_if : ℕ → ℕ → Option ℕ
asid_if has asid = if has == 0 then None else Some asid

-- an entry matches an address and an ASID, and gives an access this outcome
abbrev pub Caches : Option TlbEntry → ℕ → ℕ → Access → Mode → Outcome → Type 0
Caches e address asid a p o = (x : TlbEntry) × (e ≡ Some x) × (matches address asid x ≡ true) × (o ≡ outcome_of (answer x.leaf address a p))

-- so does one of the entries, under the ASID of a satp of Sv39 or Sv48
pub record IsCached (ps : List LentEntry) (satp address access mode : ℕ) (o : Outcome) : Type 0 where
  pub scheme : Scheme
  pub in_scheme : scheme_of satp ≡ Some scheme
  pub kind : Access
  pub of_kind : access_of access ≡ Some kind
  pub privilege : Mode
  pub in_mode : mode_of mode ≡ Some privilege
  pub place : ℕ
  pub caches : Caches (entry_at ps place) address (asid satp) kind privilege o
