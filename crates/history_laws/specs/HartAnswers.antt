-- What a hart that keeps these page table entries (PTEs) may answer to an access (`MayAnswer`): it goes by one that it keeps, or walks
-- on below one. It knows no history but what it keeps, memory, satp and PMP. (The standard, 4.2.1, 4.3.2; 3.7.1 and 3.7.2, PMP.)
use Rattle.std.specs.Prelude.{◌≡◌, ◌⊎◌, ℕ, true, false, ◌≤◌, None, Some, List, ◌<◌, length}
use Rattle.std.specs.List.{Contains}
use Rattle.sv39_entry.specs.Causes.{access_fault_cause, misaligned_cause, page_fault_cause}
use Rattle.sv39_entry.specs.Satp.{asid}
use Rattle.sv39_entry.specs.declared.access.Access.TheVariants as access
use Rattle.sv39_entry.specs.declared.access.Mode.{Mode}
use Rattle.sv39_entry.specs.declared.entry.Kind.TheVariants.{Pointer}
use Rattle.walk_rules.specs.Addresses.{is_canonical, top_of}
use Rattle.walk_rules.specs.Kinds.{kind_in}
use Rattle.walk_rules.specs.declared.extensions.Extensions.{Extensions}
use Rattle.walk_rules.specs.declared.memory_type.MemoryType.TheVariants.{Pma}
use Rattle.walk_rules.specs.declared.status.Privilege.TheVariants as privilege
use Rattle.access_history.specs.Harts.{Kept, Runs, happens, reads, starts}
use Rattle.access_history.specs.Held.{IsAtRoot, IsBelow, Read}
use Rattle.access_history.specs.History.{First}
use Rattle.access_history.specs.Permits.{Ends, IsMultiple, MayFail, Past, Says, index_of, memory_of, mode_of, place, satp_of}
use Rattle.access_history.specs.declared.event.Event.{Event}
use Rattle.access_history.specs.declared.outcome.Outcome.{Outcome}
use Rattle.access_history.specs.declared.outcome.Outcome.TheVariants.{Refused}
use Rattle.access_history.specs.declared.outcome.Request.{Request}

-- the hart goes by a PTE that it keeps: of the present ASID or global, and no pointer
pub record GoesBy (x : Extensions) (p : Past) (q : Request) (cs : List Kept) (c : Kept) : Type 0 where
  pub keeps : Contains cs c
  pub present : (top : ℕ) × (top_of (satp_of p) ≡ Some top) × (is_canonical top q.va.0 ≡ true)
  pub space : (c.read.asid ≡ asid (satp_of p)) ⊎ (c.read.global ≡ true)
  pub last : kind_in x c.read.level c.read.word ≡ Pointer → ⊥

-- the hart walks: it is at a root of its ASID, or at the table to which a pointer leads that it keeps and that serves the present satp
pub data WalksAt (x : Extensions) (p : Past) (q : Request) (cs : List Kept) (r : Read) : Type 0 where
  at_root : IsAtRoot p.first q.va.0 p.events r → r.asid ≡ asid (satp_of p) → WalksAt x p q cs r
  below : {c : Kept} → Contains cs c → IsBelow x c.read r → (r.asid ≡ asid (satp_of p)) ⊎ (c.read.global ≡ true) → WalksAt x p q cs r

-- the answers of a hart that keeps `cs`. A misaligned address: its exception alone. In M-mode and under Bare: the address itself. An
-- address that is not canonical: a page fault. Else by a PTE that it keeps, or an access fault where it cannot read the next one
pub data MayAnswer (x : Extensions) (p : Past) (q : Request) (cs : List Kept) : Outcome → Type 0 where
  misaligned : (IsMultiple q.va.0 q.width → ⊥) → MayAnswer x p q cs (Refused (misaligned_cause q.kind) None)
  untranslated : {o : Outcome} → IsMultiple q.va.0 q.width → (mode_of q ≡ None) ⊎ (top_of (satp_of p) ≡ None) → Ends p q q.va.0 Pma None o
      → MayAnswer x p q cs o
  not_canonical : {mode : Mode} {top : ℕ} → IsMultiple q.va.0 q.width → mode_of q ≡ Some mode → top_of (satp_of p) ≡ Some top
      → is_canonical top q.va.0 ≡ false → MayAnswer x p q cs (Refused (page_fault_cause q.kind) None)
  served : {mode : Mode} {c : Kept} {o : Outcome} → IsMultiple q.va.0 q.width → mode_of q ≡ Some mode → GoesBy x p q cs c
      → Says x p q mode c.read o → MayAnswer x p q cs o
  unread : {mode : Mode} {r : Read} {top : ℕ} → IsMultiple q.va.0 q.width → mode_of q ≡ Some mode → top_of (satp_of p) ≡ Some top
      → is_canonical top q.va.0 ≡ true → WalksAt x p q cs r
      → (memory_of p r.table (index_of q r) ≡ None) ⊎ MayFail p privilege.Supervisor access.Load (place q r) 8
      → MayAnswer x p q cs (Refused (access_fault_cause q.kind) None)

-- at no moment of its run a hart keeps more than so many PTEs for the address
abbrev pub IsWithin : ℕ → {x : Extensions} {f : First} {va : ℕ} {h : List Event} {cs : List Kept} → Runs x f va h cs → Type 0
IsWithin places starts = Unit {0}
IsWithin places (reads {cs = cs} run may way) = IsWithin places run × (length cs < places)
IsWithin places (happens {ds = ds} run stay) = IsWithin places run × (length ds ≤ places)
