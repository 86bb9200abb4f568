-- Lemmas: the machine is in the model's world (state) after a call that gave one process other tables and pages, by its own
-- seat, if each of its pages was there before or is new (`call_changes`).
use Rattle.std.proofs.Common.{◌≡◌, ◌⊎◌, ◌↔◌, ℕ, ◌<◌, ◌≤◌, Option, None, Some, List, ◌∷◌, refl, ap, sym, subst, ◌∙◌, inl, inr, arith}
use Rattle.std.specs.Prelude.{slice_get, slice_set}
use Rattle.std.specs.Vec.{with_item}
use Rattle.std.proofs.lemmas.Bool.{cases_eq}
use Rattle.std.proofs.lemmas.List.{length-set}
use Rattle.std.proofs.lemmas.Option.{same_Some, slice_get_within}
use Rattle.address_space.specs.Agreement.{IsFrameOfPage}
use Rattle.address_space.specs.Kernel.{IsKernelTable}
use Rattle.frame_store.specs.Laws.{KeepsSeats}
use Rattle.frame_store.specs.Plain.{PlainState, PlainStateInvariant}
use Rattle.frame_store.specs.Seats.{place_out, place_set_other, place_set_same}
use Rattle.frame_store.specs.View.{IsSole, references, View}
use Rattle.process_model.specs.Files.{File}
use Rattle.process_model.specs.PageMap as pages
use Rattle.process_model.specs.Process.{Page, Process}
use Rattle.process_model.specs.World.{with_process, World}
use Rattle.table_walk.specs.Tables.{leaf_node, Tables}
use Rattle.hart_machine.specs.Calls.{Follows, KeepsPage}
use Rattle.hart_machine.specs.SlotProcesses.{IsSlotProcess, view_of}
use Rattle.process_model.specs.declared.limits.TheConstants.{MOST_SLOTS}
use Rattle.hart_machine.specs.Worlds.{AreCounted, HaveCopies, IsSlotContent, IsWorldButBuffers, seats_of}
use Rattle.hart_machine.specs.declared.hart.Hart.{Hart}
use Rattle.hart_machine.specs.declared.machine.Machine.{Machine}
use Rattle.hart_machine.specs.declared.slot_process.SlotProcess.{SlotProcess}
use Rattle.hart_machine.proofs.AccessingWorlds.{Holds, holds_front, seat_steps}
use Rattle.hart_machine.proofs.StartedCopies.{tenant_in}
use Rattle.hart_machine.proofs.StartedPages.{one_frame, one_page}
use Rattle.hart_machine.proofs.StartedSeats.{sole_apart}
use Rattle.hart_machine.proofs.StartedTables.{tables_here, tables_there, tables_with}

-- what the process of a slot holds alone no other process has
pub sole_elsewhere : (b : PlainState) (k : View) (places : List (Option SlotProcess)) (s j : ℕ) (y z : SlotProcess) (f : ℕ) → slice_get places s ≡ Some (Some y) → slice_get places j ≡ Some (Some z) → (j ≡ s → ⊥)
    → PlainStateInvariant b (k ∷ seats_of places) → IsSole (view_of y) f → references (view_of z) f ≡ 0
sole_elsewhere b k places s j y z f at upon apart rule sole =
    sole_apart b k (view_of y) (slice_set places s None) (place_out (Holds b k) places s (holds_front b k) y at rule) f j z sole (place_set_other places s j None apart ∙ upon)

-- a process of which each page was there follows
pub keeps_follow : (v : View) (t u : Tables) (p q : Process) (counter : ℕ) → ((n : ℕ) (a : Page) → pages.get p.settled n ≡ Some a → a.copy < counter)
    → ((n : ℕ) (a : Page) → pages.get q.settled n ≡ Some a → KeepsPage t u p n a) → Follows v t u p q counter counter
keeps_follow v t u p q counter low kept = record {
  each = λ n a there. inl (kept n a there);
  apart = λ l n a b there also given same. absurd (
      let k = kept l a there in
      let below = low l k.before k.settled in
      let copy = k.copy in
      omega (arith, below, copy, given));
  order = omega arith;
}

module _ (m : Machine) (w : World) (is : IsWorldButBuffers m w) (s : ℕ) (x y : SlotProcess) (p q : Process) (u : Tables)
    (place : slice_get m.slots.items s ≡ Some (Some x)) (at : slice_get w.slots s ≡ Some (Some p)) (slot_process : IsSlotProcess y u q)
    (high : ℕ) (follows : Follows (view_of y) (is.tables s) u p q w.counter high) (b : PlainState) (keeps : KeepsSeats PlainStateInvariant m.frames (view_of x) b (view_of y)) (schemed : q.scheme ≡ w.scheme) where
  abbrev tables : ℕ → Tables
  tables = tables_with is.tables s u

  seats_hold : PlainStateInvariant b (m.kernel.seat ∷ seats_of (slice_set m.slots.items s (Some y)))
  seats_hold = seat_steps m.frames m.kernel.seat m.slots.items s x place is.invariant b y keeps

  -- a process of the new world is that of the slot, or another one that was there
  this_or_other : (i : ℕ) (r : Process) → slice_get (slice_set w.slots s (Some q)) i ≡ Some (Some r) → ((i ≡ s) × (q ≡ r)) ⊎ ((i ≡ s → ⊥) × (slice_get w.slots i ≡ Some (Some r)))
  this_or_other i r there = elim (cases_eq i s) [
    | inl same ↦ inl (same, same_Some q r (same_Some _ _ (sym (place_set_same w.slots s (Some q) (slice_get_within w.slots s (Some p) at)) ∙ ap (slice_get (slice_set w.slots s (Some q))) (sym same) ∙ there)))
    | inr apart ↦ inr (apart, sym (place_set_other w.slots s i (Some q) apart) ∙ there)
  ]

  -- a page of the new world that the old one had
  record WasPage (i n : ℕ) (a : Page) (f : ℕ) : Type 0 where
    process : Process
    page : Page
    there : slice_get w.slots i ≡ Some (Some process)
    settled : pages.get process.settled n ≡ Some page
    copy : page.copy ≡ a.copy
    on : IsFrameOfPage (is.tables i) n f

  -- and one that is new
  record IsNewPage (i n : ℕ) (a : Page) (f : ℕ) : Type 0 where
    here : i ≡ s
    settled : pages.get q.settled n ≡ Some a
    on : IsFrameOfPage u n f
    given : w.counter ≤ a.copy
    below : a.copy < high
    sole : IsSole (view_of y) f

  was_low : (i n : ℕ) (a : Page) (f : ℕ) → WasPage i n a f → a.copy < w.counter
  was_low i n a f was = subst (λ z. z < w.counter) was.copy (is.counted i n was.process was.page was.there was.settled)

  was_or_new : (i n f : ℕ) (r : Process) (a : Page) → slice_get (slice_set w.slots s (Some q)) i ≡ Some (Some r) → pages.get r.settled n ≡ Some a → IsFrameOfPage (tables i) n f
      → WasPage i n a f ⊎ IsNewPage i n a f
  was_or_new i n f r a there settled on = elim (this_or_other i r there) [
    | inl this ↦ (
        let own : pages.get q.settled n ≡ Some a = ap (λ (z : Process). pages.get z.settled n) this.1 ∙ settled in
        let on_own : IsFrameOfPage u n f = subst (λ (t : Tables). IsFrameOfPage t n f) (tables_here is.tables s u i this.0) on in
        elim (follows.each n a own) [
          | inl kept ↦ inl (record {
            process = p;
            page = kept.before;
            there = ap (slice_get w.slots) this.0 ∙ at;
            settled = kept.settled;
            copy = kept.copy;
            on = subst (λ (k : ℕ). IsFrameOfPage (is.tables k) n f) (sym this.0) (kept.on f on_own);
          })
          | inr new ↦ inr (record { here = this.0; settled = own; on = on_own; given = new.given; below = new.below; sole = new.sole f on_own })
        ])
    | inr other ↦ inl (record {
      process = r;
      page = a;
      there = other.1;
      settled = settled;
      copy = refl;
      on = subst (λ (t : Tables). IsFrameOfPage t n f) (tables_there is.tables s u i other.0) on;
    })
  ]

  -- a new page and one that was there have two frames
  frames_apart : (i j l n f g : ℕ) (r : Process) (a c : Page) → IsNewPage i l a f → slice_get (slice_set w.slots s (Some q)) j ≡ Some (Some r) → pages.get r.settled n ≡ Some c → IsFrameOfPage (tables j) n g
      → c.copy < w.counter → f ≡ g → ⊥
  frames_apart i j l n f g r a c new there settled on low same = elim (this_or_other j r there) [
    | inl this ↦ (
        let own : pages.get q.settled n ≡ Some c = ap (λ (z : Process). pages.get z.settled n) this.1 ∙ settled in
        let on_own : IsFrameOfPage u n g = subst (λ (t : Tables). IsFrameOfPage t n g) (tables_here is.tables s u j this.0) on in
        let page : l ≡ n = one_page (view_of y) y.space.root.0 y.space.trapframe.0 u q slot_process.agrees.stands l n f g a c new.settled own new.on on_own same in
        let copy : a.copy ≡ c.copy = ap (λ (z : Page). z.copy) (same_Some a c (sym new.settled ∙ ap (pages.get q.settled) page ∙ own)) in
        let given = new.given in
        omega (arith, copy, low, given))
    | inr other ↦ (
        let z = tenant_in m w is j r other.1 in
        let upon : IsFrameOfPage (is.tables j) n g = subst (λ (t : Tables). IsFrameOfPage t n g) (tables_there is.tables s u j other.0) on in
        let none : references (view_of z.0) f ≡ 0 = sole_elsewhere b m.kernel.seat (slice_set m.slots.items s (Some y)) s j y z.0 f
        (place_set_same m.slots.items s (Some y) (slice_get_within m.slots.items s (Some x) place)) (place_set_other m.slots.items s j (Some y) other.0 ∙ z.1) other.0 seats_hold new.sole in
        let one : references (view_of z.0) g ≡ 1 = z.2.agrees.stands.owns.named g (leaf_node n) (inr (upon.0, upon.1, upon.2)) in
        let both : references (view_of z.0) f ≡ references (view_of z.0) g = ap (references (view_of z.0)) same in
        omega (arith, none, one, both))
  ]

  copies : HaveCopies (slice_set w.slots s (Some q)) tables
  copies i j l n f g r o a c at_i at_j in_i in_j on_i on_j = elim (was_or_new i l f r a at_i in_i on_i) [
    | inl first ↦ elim (was_or_new j n g o c at_j in_j on_j) [
      | inl second ↦ subst (λ z. (f ≡ g) ↔ (z ≡ c.copy)) first.copy
          (subst (λ z. (f ≡ g) ↔ (first.page.copy ≡ z)) second.copy (is.copies i j l n f g first.process second.process first.page second.page first.there second.there first.settled second.settled first.on second.on))
      | inr second ↦ (
          let low = was_low i l a f first in
          let given = second.given in
          ((λ e. absurd (frames_apart j i n l g f r c a second at_i in_i on_i low (sym e))), (λ e. absurd (omega (arith, low, given, e)))))
    ]
    | inr first ↦ elim (was_or_new j n g o c at_j in_j on_j) [
      | inl second ↦ (
          let low = was_low j n c g second in
          let given = first.given in
          ((λ e. absurd (frames_apart i j l n f g o a c first at_j in_j on_j low e)), (λ e. absurd (omega (arith, low, given, e)))))
      | inr second ↦ (
        (λ e. let page : l ≡ n = one_page (view_of y) y.space.root.0 y.space.trapframe.0 u q slot_process.agrees.stands l n f g a c first.settled second.settled first.on second.on e in
            ap (λ (z : Page). z.copy) (same_Some a c (sym first.settled ∙ ap (pages.get q.settled) page ∙ second.settled))),
        (λ e. one_frame (view_of y) y.space.root.0 y.space.trapframe.0 u q slot_process.agrees.stands l n f g first.on second.on (follows.apart l n a c first.settled second.settled first.given e)),
      )
    ]
  ]

  counted : AreCounted (slice_set w.slots s (Some q)) high
  counted i n r a there settled = elim (this_or_other i r there) [
    | inl this ↦ elim (follows.each n a (ap (λ (z : Process). pages.get z.settled n) this.1 ∙ settled)) [
      | inl kept ↦ (
          let low = is.counted s n p kept.before at kept.settled in
          let order = follows.order in
          let copy = kept.copy in
          omega (arith, low, order, copy))
      | inr new ↦ new.below
    ]
    | inr other ↦ (let low = is.counted i n r a other.1 settled in let order = follows.order in omega (arith, low, order))
  ]

  places : (k : ℕ) → IsSlotContent (slice_get (slice_set m.slots.items s (Some y)) k) (slice_get (slice_set w.slots s (Some q)) k) (tables k)
  places k = elim (cases_eq k s) [
    | inl same ↦ rw (tables_here is.tables s u k same, same, place_set_same m.slots.items s (Some y) (slice_get_within m.slots.items s (Some x) place), place_set_same w.slots s (Some q) (slice_get_within w.slots s (Some p) at)) slot_process
    | inr apart ↦ rw (tables_there is.tables s u k apart, place_set_other m.slots.items s k (Some y) apart, place_set_other w.slots s k (Some q) apart) (is.places k)
  ]

  hosted : (h k : ℕ) (z : Hart) → slice_get m.harts.items h ≡ Some z → z.slot ≡ Some k → (t : SlotProcess) × (slice_get (slice_set m.slots.items s (Some y)) k ≡ Some (Some t))
  hosted h k z on slot = elim (cases_eq k s) [
    | inl same ↦ (y, ap (slice_get (slice_set m.slots.items s (Some y))) same ∙ place_set_same m.slots.items s (Some y) (slice_get_within m.slots.items s (Some x) place))
    | inr apart ↦ let old = is.hosted h k z on slot in (old.0, place_set_other m.slots.items s k (Some y) apart ∙ old.1)
  ]

  -- the process of a slot follows the one that was there, and files are others
  pub call_changes : (files : List File) → IsWorldButBuffers (record m { frames = b; slots = with_item m.slots s (Some y); files = files }) (record (with_process w s q) { counter = high; files = files })
  call_changes files = record {
    tables = tables;
    kernel = is.kernel;
    stacks = is.stacks;
    policy = is.policy;
    scheme = is.scheme;
    schemes = λ k r there. elim (this_or_other k r there) [ inl new ↦ ap (λ (z : Process). z.scheme) (sym new.1) ∙ schemed | inr old ↦ is.schemes k r old.1 ];
    few = subst (λ n. n ≤ MOST_SLOTS) (sym (length-set w.slots s (Some q))) is.few;
    frames = is.frames;
    invariant = seats_hold;
    of_kernel = subst (λ n. IsKernelTable m.kernel.scheme m.kernel.seat m.kernel.root.0 w.frames n is.stacks is.kernel) (sym (length-set w.slots s (Some q))) is.of_kernel;
    places = places;
    copies = copies;
    counted = counted;
    files = refl;
    harts = is.harts;
    hosted = hosted;
    alone = is.alone;
    idle = is.idle;
    local = is.local;
  }
