-- Words for what xv6's machine and the C library assume: a hart without extensions, an access of user or supervisor mode with SUM and MXR clear, no
-- PMP entries, and nothing old in any cache; and how `access_history` says the outcome of a walk of `table_walk`.
use Rattle.std.specs.Prelude.{◌≡◌, ℕ, ◌-◌, ◌≤◌, true, false, is_some, None, Some, List, [], ◌∷◌}
use Rattle.sv39_entry.specs.Address.{vpn}
use Rattle.sv39_entry.specs.Satp.{root_ppn, scheme_of}
use Rattle.sv39_entry.specs.Schemes.{top_level}
use Rattle.sv39_entry.specs.declared.access.Mode.{Mode}
use Rattle.sv39_entry.specs.declared.scheme.Scheme.{Scheme}
use Rattle.table_walk.specs.Memory.{Extent, Memory}
use Rattle.table_walk.specs.Walk.{IsAt}
use Rattle.table_walk.specs.declared.walk.Walk.{Walk}
use Rattle.table_walk.specs.declared.walk.Walk.TheVariants as walk
use Rattle.walk_rules.specs.Kinds.{may_fault}
use Rattle.walk_rules.specs.declared.extensions.Extensions.{Extensions}
use Rattle.walk_rules.specs.declared.memory_type.MemoryType.TheVariants.{Pma}
use Rattle.access_history.specs.History.{First, memory_at, satp_at}
use Rattle.access_history.specs.Permits.{IsMultiple, Past, mode_of, satp_of}
use Rattle.access_history.specs.declared.event.Event.{Event}
use Rattle.access_history.specs.declared.event.Event.TheVariants.{Fence}
use Rattle.access_history.specs.declared.outcome.Outcome.{Outcome}
use Rattle.access_history.specs.declared.outcome.Outcome.TheVariants.{Granted, Refused}
use Rattle.access_history.specs.declared.outcome.Request.{Request}

-- a hart without Svnapot and Svpbmt that may raise a page fault where A is clear, or D at a store: it has Svade, or neither Svade nor Svadu
pub record IsPlainHart (x : Extensions) : Type 0 where
  pub napot : x.svnapot ≡ false
  pub pbmt : x.svpbmt ≡ false
  pub faults : may_fault x.ad ≡ true

-- an access that is judged as one of user or supervisor mode, with SUM and MXR clear, of a width that divides its address
pub record IsPlainAccess (q : Request) (mode : Mode) : Type 0 where
  pub translated : mode_of q ≡ Some mode
  pub sum : q.status.sum ≡ false
  pub mxr : q.status.mxr ≡ false
  pub whole : IsMultiple q.va.0 q.width

-- all that `table_walk` takes for granted: such a hart and such an access, no PMP entries, and a satp whose MODE selects Sv39 or Sv48
pub record IsPlain (x : Extensions) (p : Past) (q : Request) (mode : Mode) (s : Scheme) : Type 0 where
  pub hart : IsPlainHart x
  pub access : IsPlainAccess q mode
  pub unprotected : p.first.pmp ≡ []
  pub scheme : scheme_of (satp_of p) ≡ Some s

-- nothing has happened, or SFENCE.VMA with both x0 was the last event
pub data IsFresh : List Event → Type 0 where
  begins : IsFresh []
  fenced : {h : List Event} → IsFresh (Fence None None ∷ h)

-- an event at a moment leaves satp as it is, and each word that the walk of a page reads
pub record IsQuiet (f : First) (s : Scheme) (page : ℕ) (e : Event) (h : List Event) : Type 0 where
  pub satp : satp_at f.satp (e ∷ h) ≡ satp_at f.satp h
  pub words : (k table : ℕ) → k ≤ top_level s → IsAt s (memory_at f.memory h) (root_ppn (satp_at f.satp h)) page k table
      → memory_at f.memory (e ∷ h) table (vpn page (top_level s - k)) ≡ memory_at f.memory h table (vpn page (top_level s - k))

-- since SFENCE.VMA with both x0, or from the first, no event has changed what the walk of a page reads: as while a process runs whose tables
-- nobody changes
pub data IsSettled (f : First) (s : Scheme) (page : ℕ) : List Event → Type 0 where
  fresh : {h : List Event} → IsFresh h → IsSettled f s page h
  quiet : {h : List Event} {e : Event} → IsSettled f s page h → IsQuiet f s page e h → IsSettled f s page (e ∷ h)

-- the words that a memory has
abbrev pub extent_of : Memory → Extent
extent_of m ppn index = is_some (m ppn index)

-- the outcome of a walk: no memory type but that of the physical address, and A and D are never set
abbrev pub outcome_of : Walk → Outcome
outcome_of (walk.Leaf word level address) = Granted address Pma None
outcome_of (walk.PageFault cause) = Refused cause None
outcome_of (walk.AccessFault cause) = Refused cause None
