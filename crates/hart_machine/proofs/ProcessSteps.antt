-- Lemmas: the machine is in the model's world (state) after one process became another with the same pages and tables
-- (`process_changes`), and after its pending access was dropped (`nothing_pending`).
use Rattle.std.proofs.Common.{◌≡◌, ℕ, ◌<◌, ◌≤◌, zero, suc, ◌↔◌, Option, None, Some, List, [], ◌∷◌, refl, ap, sym, subst, ◌∙◌, inl, inr}
use Rattle.std.specs.Prelude.{slice_get, slice_set}
use Rattle.std.specs.Vec.{with_item}
use Rattle.std.proofs.lemmas.Bool.{cases_eq}
use Rattle.std.proofs.lemmas.List.{length-set}
use Rattle.std.proofs.lemmas.Option.{same_Some, slice_get_within}
use Rattle.frame_store.specs.Plain.{PlainState, PlainStateInvariant}
use Rattle.frame_store.specs.Seats.{place_set_other, place_set_same}
use Rattle.process_model.specs.PageMap as pages
use Rattle.process_model.specs.Process.{Page, Process}
use Rattle.process_model.specs.World.{World, with_process}
use Rattle.address_space.proofs.PendingAccess.{agrees_pending}
use Rattle.address_space.specs.Kernel.{IsKernelTable}
use Rattle.process_model.specs.declared.limits.TheConstants.{MOST_SLOTS}
use Rattle.hart_machine.specs.SlotProcesses.{IsSlotProcess, view_of}
use Rattle.hart_machine.specs.Worlds.{IsSlotContent, IsWorldButBuffers, seats_of}
use Rattle.hart_machine.specs.declared.hart.Hart.{Hart}
use Rattle.hart_machine.specs.declared.machine.Machine.{Machine}
use Rattle.hart_machine.specs.declared.slot_process.SlotProcess.{SlotProcess}

-- each page that one process has, the other has with the same copy number
abbrev pub HasCopies : Process → Process → Type 0
HasCopies q p = (n : ℕ) (a : Page) → pages.get q.settled n ≡ Some a → (b : Page) × (pages.get p.settled n ≡ Some b) × (b.copy ≡ a.copy)

module _ (m : Machine) (w : World) (is : IsWorldButBuffers m w) (s : ℕ) (x y : SlotProcess) (p q : Process) (place : slice_get m.slots.items s ≡ Some (Some x)) (at : slice_get w.slots s ≡ Some (Some p)) where
  -- what holds of the process in a slot, where it holds of the new one and of the old ones
  at_each : {A : Type 0} (xs : List (Option A)) (a b : A) → slice_get xs s ≡ Some (Some a) → (k : ℕ) (c : Option (Option A)) → slice_get (slice_set xs s (Some b)) k ≡ c
      → (P : Option (Option A) → Type 0) → (k ≡ s → P (Some (Some b))) → ((k ≡ s → ⊥) → slice_get xs k ≡ c → P c) → P c
  at_each xs a b old k c new P here there = elim (cases_eq k s) [
    | inl same ↦ subst P (sym (place_set_same xs s (Some b) (slice_get_within xs s (Some a) old)) ∙ ap (slice_get (slice_set xs s (Some b))) (sym same) ∙ new) (here same)
    | inr apart ↦ there apart (sym (place_set_other xs s k (Some b) apart) ∙ new)
  ]

  module _ (has : HasCopies q p) where
    -- a page of the new world, as the old one has it
    old_page : (k n : ℕ) (r : Process) (a : Page) → slice_get (slice_set w.slots s (Some q)) k ≡ Some (Some r) → pages.get r.settled n ≡ Some a
        → (o : Process) × (b : Page) × (slice_get w.slots k ≡ Some (Some o)) × (pages.get o.settled n ≡ Some b) × (b.copy ≡ a.copy)
    old_page k n r a new settled = at_each w.slots p q at k (Some (Some r)) new
        (λ (c : Option (Option Process)). (c ≡ Some (Some r) → (o : Process) × (b : Page) × (slice_get w.slots k ≡ Some (Some o)) × (pages.get o.settled n ≡ Some b) × (b.copy ≡ a.copy)))
        (λ same e. let is_q : q ≡ r = same_Some q r (same_Some _ _ e) in let found = has n a (ap (λ (z : Process). pages.get z.settled n) is_q ∙ settled) in (p, found.0, ap (slice_get w.slots) same ∙ at, found.1, found.2))
        (λ apart old e. (r, a, old, settled, refl)) refl

    pub process_changes : (b : PlainState) → PlainStateInvariant b (m.kernel.seat ∷ seats_of (slice_set m.slots.items s (Some y))) → IsSlotProcess y (is.tables s) q → q.scheme ≡ p.scheme
        → IsWorldButBuffers (record m { frames = b; slots = with_item m.slots s (Some y) }) (with_process w s q)
    process_changes b rule slot_process schemed = record {
      tables = is.tables;
      kernel = is.kernel;
      stacks = is.stacks;
      policy = is.policy;
      scheme = is.scheme;
      schemes = λ k r there. at_each w.slots p q at k (Some (Some r)) there (λ (c : Option (Option Process)). (c ≡ Some (Some r) → r.scheme ≡ w.scheme))
          (λ same e. ap (λ (z : Process). z.scheme) (sym (same_Some q r (same_Some _ _ e))) ∙ schemed ∙ is.schemes s p at) (λ apart old e. is.schemes k r old) refl;
      few = subst (λ n. n ≤ MOST_SLOTS) (sym (length-set w.slots s (Some q))) is.few;
      frames = is.frames;
      invariant = rule;
      of_kernel = subst (λ n. IsKernelTable m.kernel.scheme m.kernel.seat m.kernel.root.0 w.frames n is.stacks is.kernel) (sym (length-set w.slots s (Some q))) is.of_kernel;
      places = places;
      copies = λ i j k n f g r o a c at_i at_j in_i in_j on_i on_j.
          let first = old_page i k r a at_i in_i in
          let second = old_page j n o c at_j in_j in
          subst (λ z. (f ≡ g) ↔ (z ≡ c.copy)) first.4 (subst (λ z. (f ≡ g) ↔ (first.1.copy ≡ z)) second.4 (is.copies i j k n f g first.0 second.0 first.1 second.1 first.2 second.2 first.3 second.3 on_i on_j));
      counted = λ i n r a at_i in_i. let old = old_page i n r a at_i in_i in subst (λ z. z < w.counter) old.4 (is.counted i n old.0 old.1 old.2 old.3);
      files = is.files;
      harts = is.harts;
      hosted = hosted;
      alone = is.alone;
      idle = is.idle;
      local = is.local;
    } where
      places : (k : ℕ) → IsSlotContent (slice_get (slice_set m.slots.items s (Some y)) k) (slice_get (slice_set w.slots s (Some q)) k) (is.tables k)
      places k = elim (cases_eq k s) [
        | inl same ↦ rw (same, place_set_same m.slots.items s (Some y) (slice_get_within m.slots.items s (Some x) place), place_set_same w.slots s (Some q) (slice_get_within w.slots s (Some p) at)) slot_process
        | inr apart ↦ rw (place_set_other m.slots.items s k (Some y) apart, place_set_other w.slots s k (Some q) apart) (is.places k)
      ]

      hosted : (h k : ℕ) (z : Hart) → slice_get m.harts.items h ≡ Some z → z.slot ≡ Some k → (t : SlotProcess) × (slice_get (slice_set m.slots.items s (Some y)) k ≡ Some (Some t))
      hosted h k z on slot = elim (cases_eq k s) [
        | inl same ↦ (y, ap (slice_get (slice_set m.slots.items s (Some y))) same ∙ place_set_same m.slots.items s (Some y) (slice_get_within m.slots.items s (Some x) place))
        | inr apart ↦ let old = is.hosted h k z on slot in (old.0, place_set_other m.slots.items s k (Some y) apart ∙ old.1)
      ]

seats_stay : (places : List (Option SlotProcess)) (s : ℕ) (x y : SlotProcess) → slice_get places s ≡ Some (Some x) → view_of y ≡ view_of x → seats_of (slice_set places s (Some y)) ≡ seats_of places
seats_stay [] s x y at e = refl
seats_stay (z ∷ places) zero x y at e = rw (same_Some z (Some x) at) (ap (λ v. v ∷ seats_of places) e)
seats_stay (None ∷ places) (suc s) x y at e = seats_stay places s x y at e
seats_stay (Some z ∷ places) (suc s) x y at e = ap (λ vs. view_of z ∷ vs) (seats_stay places s x y at e)

module _ (m : Machine) (w : World) (is : IsWorldButBuffers m w) (s : ℕ) (x : SlotProcess) (p : Process) (place : slice_get m.slots.items s ≡ Some (Some x)) (at : slice_get w.slots s ≡ Some (Some p))
    (slot_process : IsSlotProcess x (is.tables s) p) where
  -- the process of a slot has no access pending any more
  pub nothing_pending : IsWorldButBuffers (record m { slots = with_item m.slots s (Some (record x { pending = None })) }) (with_process w s (record p { pending = None }))
  nothing_pending = process_changes m w is s x (record x { pending = None }) p (record p { pending = None }) place at (λ n a there. (a, there, refl)) m.frames
      (subst (λ vs. PlainStateInvariant m.frames (m.kernel.seat ∷ vs)) (sym (seats_stay m.slots.items s x (record x { pending = None }) place refl)) is.invariant)
      (record { agrees = agrees_pending _ _ _ _ _ p slot_process.agrees None; framed = slot_process.framed; pending = refl; wide = tt }) refl
