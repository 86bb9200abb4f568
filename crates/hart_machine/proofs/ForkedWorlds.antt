-- Lemmas: the machine is in the model's world (state) after a fork, with marked parent and child (`forks`): each page of both
-- is one that the parent had. And on the seats of the two.
use Rattle.std.proofs.Common.{◌≡◌, ◌↔◌, ℕ, ◌<◌, ◌≤◌, Option, None, Some, List, [], ◌∷◌, refl, ap, sym, subst, ◌∙◌, inl, inr}
use Rattle.std.specs.Prelude.{slice_get, slice_set}
use Rattle.std.specs.Vec.{with_item}
use Rattle.std.proofs.lemmas.Bool.{cases_eq}
use Rattle.std.proofs.lemmas.List.{length-set}
use Rattle.std.proofs.lemmas.Option.{same_Some, slice_get_within}
use Rattle.address_space.specs.Agreement.{IsFrameOfPage}
use Rattle.address_space.specs.Kernel.{IsKernelTable}
use Rattle.frame_store.specs.Plain.{PlainState, PlainStateInvariant, to_front}
use Rattle.frame_store.specs.Seats.{place_set_other, place_set_same, place_split, places_apart}
use Rattle.frame_store.specs.View.{View}
use Rattle.process_model.proofs.EachValue.{found_each}
use Rattle.process_model.specs.PageMap as pages
use Rattle.process_model.specs.PageMap.{PageMap}
use Rattle.process_model.specs.Process.{Page, Process}
use Rattle.process_model.specs.Residence.{child_of, child_page, marked, marked_page}
use Rattle.process_model.specs.World.{with_process, World}
use Rattle.table_walk.specs.Tables.{Tables}
use Rattle.hart_machine.specs.SlotProcesses.{IsSlotProcess, view_of}
use Rattle.process_model.specs.declared.limits.TheConstants.{MOST_SLOTS}
use Rattle.hart_machine.specs.Worlds.{AreCounted, HaveCopies, IsSlotContent, IsWorldButBuffers, seats_of}
use Rattle.hart_machine.specs.declared.hart.Hart.{Hart}
use Rattle.hart_machine.specs.declared.machine.Machine.{Machine}
use Rattle.hart_machine.specs.declared.slot_process.SlotProcess.{SlotProcess}
use Rattle.hart_machine.proofs.AccessingWorlds.{Holds, holds_back, holds_front}
use Rattle.hart_machine.proofs.StartedTables.{tables_here, tables_there, tables_with}

-- each page of the one process is one of the other, with the same copy number
abbrev HasPagesOf : PageMap Page → PageMap Page → Type 0
HasPagesOf new old = (n : ℕ) (a : Page) → pages.get new n ≡ Some a → (b : Page) × (pages.get old n ≡ Some b) × (b.copy ≡ a.copy)

parent_pages : (p : Process) → HasPagesOf (marked p).settled p.settled
parent_pages p n a there = let b = found_each (marked_page p) p.settled n a there in (b.0, b.1, ap (λ (z : Page). z.copy) b.2)

child_pages : (p : Process) → HasPagesOf (child_of p).settled p.settled
child_pages p n a there = let b = found_each (child_page p) p.settled n a there in (b.0, b.1, ap (λ (z : Page). z.copy) b.2)

-- the seats: the parent's steps, and the child's goes to the empty place
pub seats_split : (b c : PlainState) (k : View) (places : List (Option SlotProcess)) (s e : ℕ) (x y z : SlotProcess) → slice_get places s ≡ Some (Some x) → slice_get places e ≡ Some None
    → ((others : List View) → PlainStateInvariant b (view_of x ∷ others) → PlainStateInvariant c (view_of y ∷ view_of z ∷ others))
    → PlainStateInvariant b (k ∷ seats_of places) → PlainStateInvariant c (k ∷ seats_of (slice_set (slice_set places s (Some y)) e (Some z)))
seats_split b c k places s e x y z at empty keeps rule =
    place_split (Holds b k) (Holds c k) (holds_front b k) (holds_back c k) places s (holds_front c k) e x y z at empty
    (λ others h. to_front c.words c.counts c.free (view_of y ∷ view_of z ∷ []) k _ (keeps _ (to_front b.words b.counts b.free (k ∷ []) (view_of x) _ h))) rule

module _ (m : Machine) (w : World) (is : IsWorldButBuffers m w) (s e : ℕ) (x y z : SlotProcess) (p : Process) (t u : Tables)
    (place : slice_get m.slots.items s ≡ Some (Some x)) (at : slice_get w.slots s ≡ Some (Some p)) (empty : slice_get m.slots.items e ≡ Some None) (free : slice_get w.slots e ≡ Some None)
    (parent : IsSlotProcess y t (marked p)) (child : IsSlotProcess z u (child_of p))
    (on_parent : (n f : ℕ) (a : Page) → pages.get p.settled n ≡ Some a → IsFrameOfPage t n f → IsFrameOfPage (is.tables s) n f) (on_child : (n f : ℕ) (a : Page) → pages.get p.settled n ≡ Some a → IsFrameOfPage u n f → IsFrameOfPage (is.tables s) n f)
    (b : PlainState) (rule : PlainStateInvariant b (m.kernel.seat ∷ seats_of (slice_set (slice_set m.slots.items s (Some y)) e (Some z)))) where
  abbrev slots : List (Option Process)
  slots = slice_set (slice_set w.slots s (Some (marked p))) e (Some (child_of p))

  abbrev items : List (Option SlotProcess)
  items = slice_set (slice_set m.slots.items s (Some y)) e (Some z)

  abbrev tables : ℕ → Tables
  tables = tables_with (tables_with is.tables s t) e u

  apart : s ≡ e → ⊥
  apart same = places_apart m.slots.items s e x place empty (sym same)

  -- what stands in a slot

  at_child : (i : ℕ) → i ≡ e → (slice_get slots i ≡ Some (Some (child_of p))) × (slice_get items i ≡ Some (Some z)) × (tables i ≡ u)
  at_child i same = (
    ap (slice_get slots) same ∙ place_set_same (slice_set w.slots s (Some (marked p))) e (Some (child_of p)) (slice_get_within _ e None (place_set_other w.slots s e (Some (marked p)) (λ k. apart (sym k)) ∙ free)),
    ap (slice_get items) same ∙ place_set_same (slice_set m.slots.items s (Some y)) e (Some z) (slice_get_within _ e None (place_set_other m.slots.items s e (Some y) (λ k. apart (sym k)) ∙ empty)),
    tables_here (tables_with is.tables s t) e u i same,
  )

  at_parent : (i : ℕ) → i ≡ s → (slice_get slots i ≡ Some (Some (marked p))) × (slice_get items i ≡ Some (Some y)) × (tables i ≡ t)
  at_parent i same = let far : i ≡ e → ⊥ = λ k. apart (sym same ∙ k) in (
    place_set_other (slice_set w.slots s (Some (marked p))) e i (Some (child_of p)) far ∙ ap (slice_get (slice_set w.slots s (Some (marked p)))) same ∙ place_set_same w.slots s (Some (marked p)) (slice_get_within w.slots s (Some p) at),
    place_set_other (slice_set m.slots.items s (Some y)) e i (Some z) far ∙ ap (slice_get (slice_set m.slots.items s (Some y))) same ∙ place_set_same m.slots.items s (Some y) (slice_get_within m.slots.items s (Some x) place),
    tables_there (tables_with is.tables s t) e u i far ∙ tables_here is.tables s t i same,
  )

  at_other : (i : ℕ) → (i ≡ e → ⊥) → (i ≡ s → ⊥) → (slice_get slots i ≡ slice_get w.slots i) × (slice_get items i ≡ slice_get m.slots.items i) × (tables i ≡ is.tables i)
  at_other i far off = (
    place_set_other (slice_set w.slots s (Some (marked p))) e i (Some (child_of p)) far ∙ place_set_other w.slots s i (Some (marked p)) off,
    place_set_other (slice_set m.slots.items s (Some y)) e i (Some z) far ∙ place_set_other m.slots.items s i (Some y) off,
    tables_there (tables_with is.tables s t) e u i far ∙ tables_there is.tables s t i off,
  )

  places : (i : ℕ) → IsSlotContent (slice_get items i) (slice_get slots i) (tables i)
  places i = elim (cases_eq i e) [
    | inl same ↦ (let a = at_child i same in rw (a.0, a.1, a.2) child)
    | inr far ↦ elim (cases_eq i s) [
      | inl same ↦ (let a = at_parent i same in rw (a.0, a.1, a.2) parent)
      | inr off ↦ (let a = at_other i far off in rw (a.0, a.1, a.2) (is.places i))
    ]
  ]

  -- a page of the new world was one of the old
  record WasPage (n : ℕ) (a : Page) (f : ℕ) : Type 0 where
    slot : ℕ
    process : Process
    page : Page
    there : slice_get w.slots slot ≡ Some (Some process)
    settled : pages.get process.settled n ≡ Some page
    copy : page.copy ≡ a.copy
    on : IsFrameOfPage (is.tables slot) n f

  was : (i n f : ℕ) (r : Process) (a : Page) → slice_get slots i ≡ Some (Some r) → pages.get r.settled n ≡ Some a → IsFrameOfPage (tables i) n f → WasPage n a f
  was i n f r a there settled on = elim (cases_eq i e) [
    | inl same ↦ (
        let k = at_child i same in
        let old = child_pages p n a (ap (λ (q : Process). pages.get q.settled n) (same_Some _ _ (same_Some _ _ (sym k.0 ∙ there))) ∙ settled) in
        record { slot = s; process = p; page = old.0; there = at; settled = old.1; copy = old.2; on = on_child n f old.0 old.1 (subst (λ (v : Tables). IsFrameOfPage v n f) k.2 on) })
    | inr far ↦ elim (cases_eq i s) [
      | inl same ↦ (
          let k = at_parent i same in
          let old = parent_pages p n a (ap (λ (q : Process). pages.get q.settled n) (same_Some _ _ (same_Some _ _ (sym k.0 ∙ there))) ∙ settled) in
          record { slot = s; process = p; page = old.0; there = at; settled = old.1; copy = old.2; on = on_parent n f old.0 old.1 (subst (λ (v : Tables). IsFrameOfPage v n f) k.2 on) })
      | inr off ↦ (
          let k = at_other i far off in
          record { slot = i; process = r; page = a; there = sym k.0 ∙ there; settled = settled; copy = refl; on = subst (λ (v : Tables). IsFrameOfPage v n f) k.2 on })
    ]
  ]

  copies : HaveCopies slots tables
  copies i j l n f g r o a c at_i at_j in_i in_j on_i on_j =
      let first = was i l f r a at_i in_i on_i in
      let second = was j n g o c at_j in_j on_j in
      subst (λ k. (f ≡ g) ↔ (k ≡ c.copy)) first.copy
      (subst (λ k. (f ≡ g) ↔ (first.page.copy ≡ k)) second.copy
      (is.copies first.slot second.slot l n f g first.process second.process first.page second.page first.there second.there first.settled second.settled first.on second.on))

  counted : AreCounted slots w.counter
  counted i n r a there settled = elim (cases_eq i e) [
    | inl same ↦ (
        let k = at_child i same in
        let old = child_pages p n a (ap (λ (q : Process). pages.get q.settled n) (same_Some _ _ (same_Some _ _ (sym k.0 ∙ there))) ∙ settled) in
        subst (λ c. c < w.counter) old.2 (is.counted s n p old.0 at old.1))
    | inr far ↦ elim (cases_eq i s) [
      | inl same ↦ (
          let k = at_parent i same in
          let old = parent_pages p n a (ap (λ (q : Process). pages.get q.settled n) (same_Some _ _ (same_Some _ _ (sym k.0 ∙ there))) ∙ settled) in
          subst (λ c. c < w.counter) old.2 (is.counted s n p old.0 at old.1))
      | inr off ↦ is.counted i n r a (sym (at_other i far off).0 ∙ there) settled
    ]
  ]

  schemes : (i : ℕ) (r : Process) → slice_get slots i ≡ Some (Some r) → r.scheme ≡ w.scheme
  schemes i r there = elim (cases_eq i e) [
    | inl same ↦ (let k = at_child i same in ap (λ (q : Process). q.scheme) (sym (same_Some _ _ (same_Some _ _ (sym k.0 ∙ there)))) ∙ is.schemes s p at)
    | inr far ↦ elim (cases_eq i s) [
      | inl same ↦ (let k = at_parent i same in ap (λ (q : Process). q.scheme) (sym (same_Some _ _ (same_Some _ _ (sym k.0 ∙ there)))) ∙ is.schemes s p at)
      | inr off ↦ is.schemes i r (sym (at_other i far off).0 ∙ there)
    ]
  ]

  hosted : (h k : ℕ) (v : Hart) → slice_get m.harts.items h ≡ Some v → v.slot ≡ Some k → (o : SlotProcess) × (slice_get items k ≡ Some (Some o))
  hosted h k v on slot = elim (cases_eq k e) [
    | inl same ↦ (z, (at_child k same).1)
    | inr far ↦ elim (cases_eq k s) [
      | inl same ↦ (y, (at_parent k same).1)
      | inr off ↦ (let old = is.hosted h k v on slot in (old.0, (at_other k far off).1 ∙ old.1))
    ]
  ]

  pub forks : IsWorldButBuffers (record m { frames = b; slots = with_item (with_item m.slots s (Some y)) e (Some z) }) (with_process (with_process w s (marked p)) e (child_of p))
  forks = record {
    tables = tables;
    kernel = is.kernel;
    stacks = is.stacks;
    policy = is.policy;
    scheme = is.scheme;
    schemes = schemes;
    few = subst (λ n. n ≤ MOST_SLOTS) (sym (length-set (slice_set w.slots s (Some (marked p))) e (Some (child_of p)) ∙ length-set w.slots s (Some (marked p)))) is.few;
    frames = is.frames;
    invariant = rule;
    of_kernel = subst (λ n. IsKernelTable m.kernel.scheme m.kernel.seat m.kernel.root.0 w.frames n is.stacks is.kernel) (sym (length-set (slice_set w.slots s (Some (marked p))) e (Some (child_of p)) ∙ length-set w.slots s (Some (marked p)))) is.of_kernel;
    places = places;
    copies = copies;
    counted = counted;
    files = is.files;
    harts = is.harts;
    hosted = hosted;
    alone = is.alone;
    idle = is.idle;
    local = is.local;
  }
