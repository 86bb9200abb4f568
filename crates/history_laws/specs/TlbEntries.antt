-- A TLB of `hart_tlb` over a hart's history: the moment at which a walk filled an entry (`IsFilled`), that no fence since has removed it
-- (`Remains`), and the whole buffer as a machine (`TlbRuns`). (The standard, 4.2.1.)
use Rattle.std.specs.Prelude.{◌≡◌, ℕ, Bool, false, not, Some, List, [], ◌∷◌, filter, remove}
use Rattle.sv39_entry.specs.Satp.{asid, root_ppn, scheme_of}
use Rattle.sv39_entry.specs.declared.scheme.Scheme.{Scheme}
use Rattle.access_history.specs.History.{First, memory_at, satp_at}
use Rattle.access_history.specs.declared.event.Event.{Event}
use Rattle.access_history.specs.declared.event.Event.TheVariants.{Store, WriteSatp, WritePmp, Fence}
use Rattle.hart_tlb.specs.Buffer.{Fills}
use Rattle.hart_tlb.specs.Entries.{is_fenced}
use Rattle.hart_tlb.specs.Outcome.{IsOutcome}
use Rattle.hart_tlb.specs.declared.entry.TlbEntry.{TlbEntry}
use Rattle.history_laws.specs.PlainWalks.{extent_of}

-- an event removes an entry: only fences do
abbrev pub removes : Event → TlbEntry → Bool
removes (Store p i w) e = false
removes (WriteSatp w) e = false
removes (WritePmp n p) e = false
removes (Fence va space) e = is_fenced va space e

-- at a moment, satp selected the scheme, and the entry was the outcome of a walk for an address, by memory and satp as they were then
pub record IsFilled (f : First) (s : Scheme) (address : ℕ) (e : TlbEntry) (h : List Event) : Type 0 where
  pub scheme : scheme_of (satp_at f.satp h) ≡ Some s
  pub outcome : IsOutcome s (memory_at f.memory h) (extent_of (memory_at f.memory h)) (root_ppn (satp_at f.satp h)) (asid (satp_at f.satp h)) address e

-- no event after the second moment, up to the first, removed the entry
pub data Remains (e : TlbEntry) : List Event → List Event → Type 0 where
  filled : {h : List Event} → Remains e h h
  stays : {h past : List Event} {event : Event} → Remains e h past → removes event e ≡ false → Remains e (event ∷ h) past

-- after these events a TLB of so many places may have these entries: it begins empty; at any moment it may fill one by a walk, or lose any; at
-- an event it loses those that the event removes. These are the contracts of `new`, `fill`, `evict` and `fence` of `Buffer`
pub data TlbRuns (f : First) (s : Scheme) (places : ℕ) : List Event → List TlbEntry → Type 0 where
  starts : TlbRuns f s places [] []
  fills : {h : List Event} {es new : List TlbEntry} (address : ℕ) → TlbRuns f s places h es → scheme_of (satp_at f.satp h) ≡ Some s
      → Fills s (memory_at f.memory h) (extent_of (memory_at f.memory h)) (root_ppn (satp_at f.satp h)) (asid (satp_at f.satp h)) address places es new
      → TlbRuns f s places h new
  evicts : {h : List Event} {es : List TlbEntry} (n : ℕ) → TlbRuns f s places h es → TlbRuns f s places h (remove es n)
  happens : {h : List Event} {es : List TlbEntry} {event : Event} → TlbRuns f s places h es
      → TlbRuns f s places (event ∷ h) (filter (λ e. not (removes event e)) es)
