-- Lemmas: what a buffer entry of a hart answers, and what a walk of the tables that its satp names answers, is permitted by the hart's history.
use Rattle.std.proofs.Common.{◌≡◌, ℕ, true, refl, sym, subst, Option, None, Some, List}
use Rattle.std.proofs.lemmas.Bool.{eq-eqb}
use Rattle.std.specs.Prelude.{slice_get, Contains}
use Rattle.access_history.specs.History.{First, Memory, memory_at, satp_at}
use Rattle.access_history.specs.Permits.{Past, Permits}
use Rattle.access_history.specs.declared.event.Event.{Event}
use Rattle.access_history.specs.declared.outcome.Request.{Request}
use Rattle.hart_machine.specs.BufferEntries.{IsInWorld}
use Rattle.hart_machine.specs.Harts.{hart_of}
use Rattle.hart_machine.specs.Tables.{present_table, tables_of}
use Rattle.hart_machine.specs.WalkEntries.{entry_for}
use Rattle.hart_machine.specs.declared.hart.Hart.{Hart}
use Rattle.hart_machine.specs.declared.machine.Machine.{Machine}
use Rattle.hart_tlb.specs.Entries.{matches}
use Rattle.hart_tlb.specs.Outcome.{IsOutcome, IsWhole, LeadsToWhole}
use Rattle.hart_tlb.specs.declared.entry.TlbEntry.{TlbEntry}
use Rattle.history_laws.proofs.TlbHistories.{entry_permitted, was_filled}
use Rattle.history_laws.specs.PlainWalks.{IsPlain, IsPlainAccess, IsPlainHart, extent_of, outcome_of}
use Rattle.history_laws.specs.TlbEntries.{filled}
use Rattle.machine_laws.proofs.StepHistories.{asid_at, many_words, root_at, run_at, scheme_at, walkable}
use Rattle.machine_laws.proofs.TableOutcomes.{outcome_is, whole_frames}
use Rattle.machine_laws.specs.HartHistories.{HasHistory}
use Rattle.machine_laws.specs.MachineStates.{memory_in, root_in}
use Rattle.process_model.specs.Harts.{present_asid}
use Rattle.process_model.specs.World.{World}
use Rattle.process_model.specs.declared.limits.TheConstants.{BUFFER_SIZE}
use Rattle.sv39_entry.specs.Address.{page_of}
use Rattle.sv39_entry.specs.Frame.{ppn_of}
use Rattle.sv39_entry.specs.Satp.{asid, root_ppn}
use Rattle.sv39_entry.specs.declared.access.Mode.{Mode}
use Rattle.table_walk.specs.Leaves as leaves
use Rattle.table_walk.specs.Leaves.{answer, walk_answer}
use Rattle.walk_rules.specs.declared.extensions.Extensions.{Extensions}

module _ (m : Machine) (w : World) (k : ℕ) (x : Hart) (f : First) (h : List Event) (is : IsInWorld m w) (at : slice_get m.harts.items k ≡ Some x) (has : HasHistory m k f h)
    (have : Extensions) (q : Request) (mode : Mode) (plain : IsPlainHart have) (plainly : IsPlainAccess q mode) where
  abbrev pub past : Past
  past = record { first = f; events = h }

  pub is_plain : IsPlain have past q mode m.kernel.scheme
  is_plain = record { hart = plain; access = plainly; unprotected = has.unprotected; scheme = scheme_at m w is.world k x at f h has }

  whole : (ppn : ℕ) → IsWhole (extent_of (memory_at f.memory h)) ppn
  whole ppn = subst (λ (n : Memory). IsWhole (extent_of n) ppn) (sym has.memory) (whole_frames m.frames.words w.frames ppn (many_words m w is.world).0)

  pub leads : (o : Option leaves.Leaf) → LeadsToWhole (extent_of (memory_at f.memory h)) q.va.0 o
  leads None = tt
  leads (Some leaf) = whole _

  -- an entry that is of this ASID is of the one in satp
  matched : (e : TlbEntry) → matches q.va.0 (present_asid m.policy (hart_of x)) e ≡ true → matches q.va.0 (asid (satp_at f.satp h)) e ≡ true
  matched e is_match = subst (λ (n : ℕ). matches q.va.0 n e ≡ true) (sym (asid_at m w is.world k x at f h has)) is_match

  pub entry_answers : (e : TlbEntry) → Contains x.buffer e → matches q.va.0 (present_asid m.policy (hart_of x)) e ≡ true
      → Permits have past q (outcome_of (answer e.leaf q.va.0 q.kind mode))
  entry_answers e there is_match =
      let fill = was_filled f m.kernel.scheme BUFFER_SIZE e h x.buffer (run_at m w is.world k x at f h has) there in
      entry_permitted have past q mode m.kernel.scheme is_plain fill.0 fill.1 e fill.2 fill.3 (matched e is_match) (leads e.leaf)

  -- a walk answers as an entry that is filled at this moment
  abbrev pub fresh : TlbEntry
  fresh = entry_for m.kernel.scheme (tables_of (is.world).tables (is.world).kernel (present_table x)) (present_asid m.policy (hart_of x)) q.va.0

  abbrev pub IsFresh : Memory → ℕ → ℕ → Type 0
  IsFresh memory root space = IsOutcome m.kernel.scheme memory (extent_of memory) root space q.va.0 fresh

  pub fresh_outcome : IsFresh (memory_at f.memory h) (root_ppn (satp_at f.satp h)) (asid (satp_at f.satp h))
  fresh_outcome =
      subst (λ (n : Memory). IsFresh n (root_ppn (satp_at f.satp h)) (asid (satp_at f.satp h))) (sym has.memory)
      (subst (λ (r : ℕ). IsFresh (memory_in m) r (asid (satp_at f.satp h))) (sym (root_at m w is.world k x at f h has))
      (subst (λ (n : ℕ). IsFresh (memory_in m) (ppn_of (root_in m x)) n) (sym (asid_at m w is.world k x at f h has))
      (outcome_is m.kernel.scheme m.frames (root_in m x) (tables_of (is.world).tables (is.world).kernel (present_table x)) (walkable m w is.world k x at) q.va.0
      (present_asid m.policy (hart_of x)))))

  pub walk_answers : Permits have past q (outcome_of (walk_answer m.kernel.scheme (tables_of (is.world).tables (is.world).kernel (present_table x)) q.va.0 q.kind mode))
  walk_answers =
      let space = eq-eqb (present_asid m.policy (hart_of x)) (present_asid m.policy (hart_of x)) refl in
      let page = eq-eqb (page_of q.va.0) (page_of q.va.0) refl in
      entry_permitted have past q mode m.kernel.scheme is_plain q.va.0 h fresh (record { scheme = scheme_at m w is.world k x at f h has; outcome = fresh_outcome }) filled
      (matched fresh (rw (page, space) refl)) (leads fresh.leaf)
