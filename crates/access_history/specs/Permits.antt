-- Which outcomes the standard permits for an access (`Permits`), by what its hart may hold at that moment, memory, satp and PMP (4.3.2; 3.7.1 and
-- 3.7.2, PMP; 3.1.6.3, the effective privilege mode; 4.3.1, A and D).
use Rattle.std.specs.Prelude.{◌≡◌, ◌⊎◌, ℕ, Bool, true, false, ◌+◌, ◌*◌, ◌/◌, ◌%◌, Option, None, Some, is_some, List}
use Rattle.std.specs.List.{Contains}
use Rattle.sv39_entry.specs.Address.{page_of, vpn}
use Rattle.sv39_entry.specs.Causes.{access_fault_cause, misaligned_cause, page_fault_cause}
use Rattle.sv39_entry.specs.Satp.{asid}
use Rattle.sv39_entry.specs.declared.access.Access.{Access}
use Rattle.sv39_entry.specs.declared.access.Access.TheVariants as access
use Rattle.sv39_entry.specs.declared.access.Mode.{Mode}
use Rattle.sv39_entry.specs.declared.entry.Kind.TheVariants.{Leaf, Pointer}
use Rattle.walk_rules.specs.Addresses.{is_canonical, leads_to, top_of}
use Rattle.walk_rules.specs.Kinds.{kind_in, may_fault, may_update, memory_type}
use Rattle.walk_rules.specs.Pmp.{pmp_permits}
use Rattle.walk_rules.specs.Rights.{allows, effective, has_ad, translation_mode, with_ad}
use Rattle.walk_rules.specs.declared.extensions.Extensions.{Extensions}
use Rattle.walk_rules.specs.declared.memory_type.MemoryType.{MemoryType}
use Rattle.walk_rules.specs.declared.memory_type.MemoryType.TheVariants.{Pma}
use Rattle.walk_rules.specs.declared.pmp.PmpEntry.{PmpEntry}
use Rattle.walk_rules.specs.declared.status.Privilege.{Privilege}
use Rattle.walk_rules.specs.declared.status.Privilege.TheVariants as privilege
use Rattle.access_history.specs.Held.{IsAtRoot, IsBelow, IsHeld, Read}
use Rattle.access_history.specs.History.{First, Memory, memory_at, pmps_at, satp_at}
use Rattle.access_history.specs.declared.event.Event.{Event}
use Rattle.access_history.specs.declared.outcome.Outcome.{Outcome}
use Rattle.access_history.specs.declared.outcome.Outcome.TheVariants.{Granted, Refused}
use Rattle.access_history.specs.declared.outcome.Request.{Request}
use Rattle.access_history.specs.declared.outcome.Update.{Update}

-- all that happened: what memory, satp and PMP were at first, and the events since, the newest first
pub record Past : Type 0 where
  pub first : First
  pub events : List Event

abbrev pub memory_of : Past → Memory
memory_of p = memory_at p.first.memory p.events

abbrev pub satp_of : Past → ℕ
satp_of p = satp_at p.first.satp p.events

-- the effective privilege mode of an access, and the mode of its translation; None in M-mode
abbrev pub privilege_of : Request → Privilege
privilege_of q = effective q.status q.privilege q.kind

abbrev pub mode_of : Request → Option Mode
mode_of q = translation_mode (privilege_of q)

-- PMP may permit an access, or may refuse it, by the entries as they were at a moment since the last fence of everything. Each check chooses for
-- itself (3.7.2)
abbrev pub MayPass : Past → Privilege → Access → ℕ → ℕ → Type 0
MayPass p m a pa width = (es : List PmpEntry) × Contains (pmps_at p.first.pmp p.events) es × (pmp_permits es m a pa width ≡ true)

abbrev pub MayFail : Past → Privilege → Access → ℕ → ℕ → Type 0
MayFail p m a pa width = (es : List PmpEntry) × Contains (pmps_at p.first.pmp p.events) es × (pmp_permits es m a pa width ≡ false)

-- the byte at a physical address is in memory
abbrev pub is_there : Past → ℕ → Bool
is_there p pa = is_some (memory_of p (pa / 4096) (pa % 4096 / 8))

-- what the access to its physical address comes to, of a memory type and with an update of A and D or none (step 8). If it is refused, the
-- update may be made or not: PMP may be checked before it (3.7.2)
pub data Ends (p : Past) (q : Request) (pa : ℕ) (t : MemoryType) (u : Option Update) : Outcome → Type 0 where
  granted : is_there p pa ≡ true → MayPass p (privilege_of q) q.kind pa q.width → Ends p q pa t u (Granted pa t u)
  refused : {made : Option Update} → (made ≡ u) ⊎ (made ≡ None) → (is_there p pa ≡ false) ⊎ MayFail p (privilege_of q) q.kind pa q.width
      → Ends p q pa t u (Refused (access_fault_cause q.kind) made)

-- the hart may hold a PTE at which a walk of the access may end: of the present ASID or global, and no pointer. Its level may be one of another
-- MODE alone: no match asks for the MODE (4.2.1, 4.3.2)
pub record Serves (x : Extensions) (p : Past) (q : Request) (r : Read) : Type 0 where
  pub since : List Event
  pub held : IsHeld x p.first q.va.0 p.events r since
  pub present : (top : ℕ) × (top_of (satp_of p) ≡ Some top) × (is_canonical top q.va.0 ≡ true)
  pub space : (r.asid ≡ asid (satp_of p)) ⊎ (r.global ≡ true)
  pub last : kind_in x r.level r.word ≡ Pointer → ⊥

-- the index of a read's PTE in its table, and its physical address
abbrev pub index_of : Request → Read → ℕ
index_of q r = vpn (page_of q.va.0) r.level

abbrev pub place : Request → Read → ℕ
place q r = r.table * 4096 + index_of q r * 8

-- the PTE as the hart writes it, with A and, for a store, D
abbrev pub update : Request → Read → Update
update q r = record { table = r.table; index = index_of q r; word = with_ad q.kind r.word }

-- a PTE is a leaf that allows the access in a mode, whatever its A and D (steps 5 and 6)
pub record Allows (x : Extensions) (q : Request) (mode : Mode) (r : Read) : Type 0 where
  pub leaf : kind_in x r.level r.word ≡ Leaf
  pub right : allows q.status mode q.kind r.level r.word ≡ true

-- the hart may set A and D (step 7): memory has the PTE now as it was read. The comparison never uses a cache
pub record MayUpdate (x : Extensions) (p : Past) (q : Request) (r : Read) : Type 0 where
  pub clear : has_ad q.kind r.word ≡ false
  pub scheme : may_update x.ad ≡ true
  pub unchanged : memory_of p r.table (index_of q r) ≡ Some r.word

-- what a PTE that serves an access says (4.3.2, steps 5 to 8)
pub data Says (x : Extensions) (p : Past) (q : Request) (mode : Mode) (r : Read) : Outcome → Type 0 where
  no_leaf : (kind_in x r.level r.word ≡ Leaf → ⊥) → Says x p q mode r (Refused (page_fault_cause q.kind) None)
  no_right : kind_in x r.level r.word ≡ Leaf → allows q.status mode q.kind r.level r.word ≡ false
      → Says x p q mode r (Refused (page_fault_cause q.kind) None)
  ready : {t : MemoryType} {o : Outcome} → Allows x q mode r → has_ad q.kind r.word ≡ true → memory_type r.word ≡ Some t
      → Ends p q (leads_to r.level r.word q.va.0) t None o → Says x p q mode r o
  faults : Allows x q mode r → has_ad q.kind r.word ≡ false → may_fault x.ad ≡ true → Says x p q mode r (Refused (page_fault_cause q.kind) None)
  updates : {t : MemoryType} {o : Outcome} → Allows x q mode r → MayUpdate x p q r → MayPass p privilege.Supervisor access.Store (place q r) 8
      → memory_type r.word ≡ Some t → Ends p q (leads_to r.level r.word q.va.0) t (Some (update q r)) o → Says x p q mode r o
  update_refused : Allows x q mode r → MayUpdate x p q r → MayFail p privilege.Supervisor access.Store (place q r) 8
      → Says x p q mode r (Refused (access_fault_cause q.kind) None)

abbrev pub IsMultiple : ℕ → ℕ → Type 0
IsMultiple va width = (n : ℕ) × (va ≡ n * width)

-- the walk of an access may be at a table now: a root of its ASID, or where a pointer leads that the hart may hold and that serves the present satp. Of r
-- only level, table and ASID count
pub data MayStandAt (x : Extensions) (p : Past) (q : Request) (r : Read) : Type 0 where
  at_root : IsAtRoot p.first q.va.0 p.events r → r.asid ≡ asid (satp_of p) → MayStandAt x p q r
  below : {above : Read} {since : List Event} → IsHeld x p.first q.va.0 p.events above since → IsBelow x above r
      → (r.asid ≡ asid (satp_of p)) ⊎ (above.global ≡ true) → MayStandAt x p q r

-- the outcomes that the standard permits. A misaligned address: its exception alone (own choice: the standard also permits to split the access).
-- In M-mode and under Bare: the address itself (4.1.11). An address that is not canonical: a page fault, whatever is held (4.4.1, 4.5.1, 4.6.1)
pub data Permits (x : Extensions) (p : Past) (q : Request) : Outcome → Type 0 where
  misaligned : (IsMultiple q.va.0 q.width → ⊥) → Permits x p q (Refused (misaligned_cause q.kind) None)
  untranslated : {o : Outcome} → IsMultiple q.va.0 q.width → (mode_of q ≡ None) ⊎ (top_of (satp_of p) ≡ None) → Ends p q q.va.0 Pma None o → Permits x p q o
  not_canonical : {mode : Mode} {top : ℕ} → IsMultiple q.va.0 q.width → mode_of q ≡ Some mode → top_of (satp_of p) ≡ Some top
      → is_canonical top q.va.0 ≡ false → Permits x p q (Refused (page_fault_cause q.kind) None)
  served : {mode : Mode} {r : Read} {o : Outcome} → IsMultiple q.va.0 q.width → mode_of q ≡ Some mode → Serves x p q r → Says x p q mode r o → Permits x p q o
  -- a table at which the walk may be now has its PTE outside memory, or PMP may refuse to read it: an access fault (step 2). No such fault is
  -- cached
  unread : {mode : Mode} {r : Read} {top : ℕ} → IsMultiple q.va.0 q.width → mode_of q ≡ Some mode → top_of (satp_of p) ≡ Some top
      → is_canonical top q.va.0 ≡ true → MayStandAt x p q r
      → (memory_of p r.table (index_of q r) ≡ None) ⊎ MayFail p privilege.Supervisor access.Load (place q r) 8
      → Permits x p q (Refused (access_fault_cause q.kind) None)
