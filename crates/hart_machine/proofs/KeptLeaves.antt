-- Lemmas: if a call leaves each page of a process its copy number (which names one copy of a page in memory) and its marks, it
-- leaves each leaf (`followed_same`); frames that it keeps (`staying_frames`, `followed_frames`, `dropped_frames`); and so the
-- machine keeps its page tables (`slot_keeps`).
use Rattle.std.proofs.Common.{◌≡◌, ℕ, ◌<◌, Bool, true, false, not, length, Option, None, Some, List, refl, ap, sym, subst, ◌∙◌, inl, inr, arith}
use Rattle.std.specs.Prelude.{slice_get, slice_set}
use Rattle.std.specs.FinMap as finite
use Rattle.std.proofs.lemmas.Bool.{cases_eq}
use Rattle.std.proofs.lemmas.List.{length-set}
use Rattle.std.proofs.lemmas.Option.{same_Some, slice_get_within}
use Rattle.address_space.specs.Agreement.{IsFrameOfPage, one_frame}
use Rattle.address_space.specs.SpaceTeardown.{Drops}
use Rattle.address_space.specs.Kernel.{IsKernelTable}
use Rattle.address_space.specs.SameLeaves.{leaves_stay, WasAlike}
use Rattle.frame_store.specs.Seats.{place_set_other, place_set_same}
use Rattle.frame_store.specs.View.{View}
use Rattle.process_model.specs.PageMap as pages
use Rattle.process_model.specs.Process.{Page, Process, regions}
use Rattle.process_model.specs.Stale.{is_changed}
use Rattle.table_walk.specs.Tables.{Tables, leaf_node}
use Rattle.hart_machine.specs.Calls.{Follows}
use Rattle.hart_machine.specs.SlotProcesses.{body_in, IsSlotProcess}
use Rattle.hart_machine.specs.Worlds.{HaveSameLeaves, StaysOnFrames, KeepsTables}
use Rattle.hart_machine.specs.declared.machine.Machine.{Machine}
use Rattle.hart_machine.specs.declared.slot_process.SlotProcess.{SlotProcess}
use Rattle.hart_machine.proofs.ChangedSlots.{pages_are_same, sign, sign_of}
use Rattle.hart_machine.proofs.KeptTables.{frames_of_leaves, same_tenant}
use Rattle.hart_machine.proofs.Mapping.{dropped_on}
use Rattle.sv39_entry.specs.Schemes.{trampoline_page, trapframe_page}

not_false : (b : Bool) → not b ≡ false → b ≡ true
not_false true e = refl
not_false false e = absurd (cc)

module _ (p q : Process) (unchanged : is_changed (Some p) (Some q) ≡ false) where
  pub same_signs : (n : ℕ) → sign_of (pages.get p.settled n) ≡ sign_of (pages.get q.settled n)
  same_signs n = pages_are_same p.settled q.settled (not_false _ unchanged) n

  -- a page that was settled is settled
  pub still_settled : (n : ℕ) (a : Page) → pages.get p.settled n ≡ Some a → (z : Page) × (pages.get q.settled n ≡ Some z)
  still_settled n a there = go (pages.get q.settled n) refl (sym (ap sign_of there) ∙ same_signs n) where
    go : (o : Option Page) → pages.get q.settled n ≡ o → Some (sign a) ≡ sign_of o → (z : Page) × (pages.get q.settled n ≡ Some z)
    go None is same = absurd (cc)
    go (Some z) is same = (z, is)

  -- and a page that is settled was, with the same sign
  pub was_alike : (n : ℕ) (z : Page) → pages.get q.settled n ≡ Some z → (a : Page) × (pages.get p.settled n ≡ Some a) × (z.copy ≡ a.copy) × (z.cow ≡ a.cow) × (z.dirty ≡ a.dirty)
  was_alike n z there = go (pages.get p.settled n) refl (same_signs n ∙ ap sign_of there) where
    go : (o : Option Page) → pages.get p.settled n ≡ o → sign_of o ≡ Some (sign z) → (a : Page) × (pages.get p.settled n ≡ Some a) × (z.copy ≡ a.copy) × (z.cow ≡ a.cow) × (z.dirty ≡ a.dirty)
    go None is same = absurd (cc)
    go (Some a) is same = let one = same_Some (sign a) (sign z) same in (a, is, ap (λ t. t.0) (sym one), ap (λ t. t.1) (sym one), ap (λ t. t.2) (sym one))

module _ (x y : SlotProcess) (t u : Tables) (p q : Process) (before : IsSlotProcess x t p) (after : IsSlotProcess y u q) (unchanged : is_changed (Some p) (Some q) ≡ false) (schemed : q.scheme ≡ p.scheme) where
  -- where a run of pages was dropped, none of it was settled
  pub dropped_none : (first end : ℕ) → Drops t u first end → HaveSameLeaves t u
  dropped_none first end drops number = go (finite.get u.leaves number) refl (finite.get t.leaves number) refl where
    none_left : (w : ℕ) → finite.get t.leaves number ≡ Some w → finite.get u.leaves number ≡ None → ⊥
    none_left w at none = elim (before.agrees.stands.shows.only number w at) [
      | inl same ↦ (let leaf = after.agrees.stands.shows.on_trampoline in let both : None ≡ Some leaf.0 = sym none ∙ ap (finite.get u.leaves) (same ∙ ap (λ k. leaf_node (trampoline_page k)) (sym schemed)) ∙ leaf.1 in cc)
      | inr more ↦ elim more [
        | inl same ↦ (let leaf = after.agrees.stands.shows.on_trapframe in let both : None ≡ Some leaf.0 = sym none ∙ ap (finite.get u.leaves) (same ∙ ap (λ k. leaf_node (trapframe_page k)) (sym schemed)) ∙ leaf.1 in cc)
        | inr settled ↦ (
            let z = still_settled p q unchanged settled.0 settled.1 settled.3 in
            let shown = after.agrees.stands.shows.settled settled.0 z.0 z.1 in
            let both : None ≡ Some shown.leaf = sym none ∙ ap (finite.get u.leaves) settled.2 ∙ shown.mapped in cc)
      ]
    ]

    go : (o : Option ℕ) → finite.get u.leaves number ≡ o → (r : Option ℕ) → finite.get t.leaves number ≡ r → finite.get u.leaves number ≡ finite.get t.leaves number
    go (Some w) now r was = drops.others number (λ n from to same. let both : Some w ≡ None = sym now ∙ ap (finite.get u.leaves) same ∙ drops.gone n from to in cc)
    go None now None was = now ∙ sym was
    go None now (Some w) was = absurd (none_left w was now)

  -- where each page follows one that was there, or is new
  module _ (trapframe : y.space.trapframe ≡ x.space.trapframe) (same_regions : regions q ≡ regions p) (low : ℕ) (counted : (n : ℕ) (a : Page) → pages.get p.settled n ≡ Some a → a.copy < low)
      (on : (n f : ℕ) (z : Page) → pages.get q.settled n ≡ Some z → z.copy < low → IsFrameOfPage u n f → IsFrameOfPage t n f) where
    alike : (n : ℕ) (z : Page) → pages.get q.settled n ≡ Some z → WasAlike t u p n z
    alike n z there =
        let old = was_alike p q unchanged n z there in
        let below = counted n old.0 old.1 in
        let copy = old.2 in
        record { before = old.0; settled = old.1; cow = old.3; dirty = old.4; on = λ f. on n f z there (omega (arith, below, copy)) }

    pub followed_same : HaveSameLeaves t u
    followed_same number = leaves_stay (body_in x) (body_in y) t u p q before.agrees after.agrees (ap (λ f. f.0) trapframe) schemed same_regions (still_settled p q unchanged) alike number

module _ (x y : SlotProcess) (t u : Tables) (p q : Process) (before : IsSlotProcess x t p) (after : IsSlotProcess y u q) (schemed : q.scheme ≡ p.scheme) (trapframe : y.space.trapframe ≡ x.space.trapframe) where
  -- TRAPFRAME's page is on the frame that it was on
  stays_saved : (f : ℕ) → IsFrameOfPage u (trapframe_page p.scheme) f → IsFrameOfPage t (trapframe_page p.scheme) f
  stays_saved f at =
      let was = before.agrees.stands.shows.on_trapframe in
      let now = after.agrees.stands.shows.on_trapframe in
      let here : IsFrameOfPage u (trapframe_page p.scheme) x.space.trapframe.0 = subst (λ (g : ℕ). IsFrameOfPage u (trapframe_page p.scheme) g) (ap (λ k. k.0) trapframe)
      (subst (λ z. IsFrameOfPage u (trapframe_page z) y.space.trapframe.0) schemed (now.0, now.1, now.2.names)) in
      subst (λ (g : ℕ). IsFrameOfPage t (trapframe_page p.scheme) g) (one_frame u (trapframe_page p.scheme) x.space.trapframe.0 f here at) (was.0, was.1, was.2.names)

  -- so frames are kept where each page that was there is on the frame that it was on
  pub staying_frames : ((n f : ℕ) (a : Page) → pages.get p.settled n ≡ Some a → IsFrameOfPage u n f → IsFrameOfPage t n f) → StaysOnFrames t u p q
  staying_frames on = record { trapframe = stays_saved; pages = λ n f a b at_p at_q copy. on n f a at_p }

  -- and where each with an old copy number is
  pub followed_frames : (low : ℕ) → ((n : ℕ) (a : Page) → pages.get p.settled n ≡ Some a → a.copy < low) → ((n f : ℕ) (z : Page) → pages.get q.settled n ≡ Some z → z.copy < low → IsFrameOfPage u n f → IsFrameOfPage t n f) → StaysOnFrames t u p q
  followed_frames low counted on = record { trapframe = stays_saved; pages = λ n f a b at_p at_q copy. let below = counted n a at_p in on n f b at_q (omega (arith, below, copy)) }

-- and where a run of pages was dropped
pub dropped_frames : (t u : Tables) (p q : Process) (first end : ℕ) → Drops t u first end → StaysOnFrames t u p q
dropped_frames t u p q first end drops = record { trapframe = λ f. dropped_on t u first end drops (trapframe_page p.scheme) f; pages = λ n f a b was is copy. dropped_on t u first end drops n f }

-- a page that follows one is on its frame, where its copy number is an old one
pub old_on : (v : View) (t u : Tables) (p q : Process) (low high : ℕ) → Follows v t u p q low high → (n f : ℕ) (z : Page) → pages.get q.settled n ≡ Some z → z.copy < low → IsFrameOfPage u n f → IsFrameOfPage t n f
old_on v t u p q low high follows n f z there below on = elim (follows.each n z there) [
  | inl kept ↦ kept.on f on
  | inr new ↦ absurd (let given = new.given in omega (arith, given, below))
]

-- the process of one slot is another
module _ (m n : Machine) (before after : List (Option Process)) (s : ℕ) (x y : SlotProcess) (p q : Process) (place : slice_get m.slots.items s ≡ Some (Some x)) (at : slice_get before s ≡ Some (Some p))
    (slots : n.slots.items ≡ slice_set m.slots.items s (Some y)) (model : after ≡ slice_set before s (Some q)) (kernel : n.kernel ≡ m.kernel)
    (here : (t u : Tables) → is_changed (Some p) (Some q) ≡ false → IsSlotProcess x t p → IsSlotProcess y u q → HaveSameLeaves t u)
    (framed : (t u : Tables) → IsSlotProcess x t p → IsSlotProcess y u q → StaysOnFrames t u p q) where
  now_here : slice_get n.slots.items s ≡ Some (Some y)
  now_here = ap (λ xs. slice_get xs s) slots ∙ place_set_same m.slots.items s (Some y) (slice_get_within m.slots.items s (Some x) place)

  now_in : slice_get after s ≡ Some (Some q)
  now_in = ap (λ xs. slice_get xs s) model ∙ place_set_same before s (Some q) (slice_get_within before s (Some p) at)

  pub slot_keeps : KeepsTables m n before after
  slot_keeps = record {
    many = ap length slots ∙ length-set m.slots.items s (Some y);
    kernel = λ frames slots stacks t is. subst (λ k. IsKernelTable k.scheme k.seat k.root.0 frames slots stacks t) (sym kernel) is;
    leaves = λ r a b c d t u at_m at_n at_w at_v unchanged of_a of_b. elim (cases_eq r s) [
      | inl same ↦
          let a_is : a ≡ x = same_Some a x (same_Some _ _ (sym at_m ∙ ap (slice_get m.slots.items) same ∙ place)) in
          let b_is : b ≡ y = same_Some b y (same_Some _ _ (sym at_n ∙ ap (slice_get n.slots.items) same ∙ now_here)) in
          let c_is : c ≡ p = same_Some c p (same_Some _ _ (sym at_w ∙ ap (slice_get before) same ∙ at)) in
          let d_is : d ≡ q = same_Some d q (same_Some _ _ (sym at_v ∙ ap (slice_get after) same ∙ now_in)) in
          here t u (ap (λ o. is_changed o (Some q)) (ap Some (sym c_is)) ∙ ap (λ o. is_changed (Some c) o) (ap Some (sym d_is)) ∙ unchanged)
          (subst (λ z. IsSlotProcess z t p) a_is (subst (λ z. IsSlotProcess a t z) c_is of_a)) (subst (λ z. IsSlotProcess z u q) b_is (subst (λ z. IsSlotProcess b u z) d_is of_b))
      | inr apart ↦
          same_tenant a b c d t u (same_Some a b (same_Some _ _ (sym at_m ∙ sym (place_set_other m.slots.items s r (Some y) apart) ∙ ap (λ xs. slice_get xs r) (sym slots) ∙ at_n))) of_a of_b
    ];
    frames = λ r a b c d t u at_m at_n at_w at_v of_a of_b. elim (cases_eq r s) [
      | inl same ↦
          let a_is : a ≡ x = same_Some a x (same_Some _ _ (sym at_m ∙ ap (slice_get m.slots.items) same ∙ place)) in
          let b_is : b ≡ y = same_Some b y (same_Some _ _ (sym at_n ∙ ap (slice_get n.slots.items) same ∙ now_here)) in
          let c_is : c ≡ p = same_Some c p (same_Some _ _ (sym at_w ∙ ap (slice_get before) same ∙ at)) in
          let d_is : d ≡ q = same_Some d q (same_Some _ _ (sym at_v ∙ ap (slice_get after) same ∙ now_in)) in
          subst (λ z. StaysOnFrames t u c z) (sym d_is) (subst (λ z. StaysOnFrames t u z q) (sym c_is)
          (framed t u (subst (λ z. IsSlotProcess z t p) a_is (subst (λ z. IsSlotProcess a t z) c_is of_a)) (subst (λ z. IsSlotProcess z u q) b_is (subst (λ z. IsSlotProcess b u z) d_is of_b))))
      | inr apart ↦
          frames_of_leaves t u c d (same_tenant a b c d t u (same_Some a b (same_Some _ _ (sym at_m ∙ sym (place_set_other m.slots.items s r (Some y) apart) ∙ ap (λ xs. slice_get xs r) (sym slots) ∙ at_n))) of_a of_b)
    ];
  }

-- it is told by one pair of tables
pub slot_keeps_by : (m n : Machine) (before after : List (Option Process)) (s : ℕ) (x y : SlotProcess) (p q : Process) (t u : Tables) → IsSlotProcess x t p → IsSlotProcess y u q → slice_get m.slots.items s ≡ Some (Some x) → slice_get before s ≡ Some (Some p)
    → n.slots.items ≡ slice_set m.slots.items s (Some y) → after ≡ slice_set before s (Some q) → n.kernel ≡ m.kernel → (is_changed (Some p) (Some q) ≡ false → HaveSameLeaves t u) → StaysOnFrames t u p q
    → KeepsTables m n before after
slot_keeps_by m n before after s x y p q t u of_x of_y place at slots model kernel same framed = slot_keeps m n before after s x y p q place at slots model kernel
    (λ a b unchanged in_a in_b page. same_tenant y y q q u b refl of_y in_b page ∙ same unchanged page ∙ same_tenant x x p p a t refl in_a of_x page)
    (λ a b in_a in_b. frames_by a b (same_tenant x x p p t a refl of_x in_a) (same_tenant y y q q b u refl in_b of_y)) where
      moved : (v o : Tables) → HaveSameLeaves v o → (k f : ℕ) → IsFrameOfPage v k f → IsFrameOfPage o k f
      moved v o same_leaves k f on = (on.0, same_leaves (leaf_node k) ∙ on.1, on.2)

      frames_by : (a b : Tables) → HaveSameLeaves t a → HaveSameLeaves b u → StaysOnFrames a b p q
      frames_by a b of_a of_b = record {
        trapframe = λ f on. moved t a of_a (trapframe_page p.scheme) f (framed.trapframe f (moved b u of_b (trapframe_page p.scheme) f on));
        pages = λ k f was is at_p at_q copy on. moved t a of_a k f (framed.pages k f was is at_p at_q copy (moved b u of_b k f on));
      }
