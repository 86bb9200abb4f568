-- Lemmas for the step `Serve` (and for a page that a kernel copy reaches): the machine is in the model's world (state) if the
-- page was made resident (`is_served`) or the process has to end by a rule (`is_ending`); and which slot is named to be
-- marked as stale, and leaves that stay.
use Rattle.std.proofs.Common.{◌≡◌, ℕ, ◌+◌, ◌-◌, ◌<◌, ◌≤◌, ◌==◌, ◌⊎◌, Bool, true, false, not, Option, None, Some, List, refl, ap, sym, subst, ◌∙◌, inl, inr, arith, slice_index, is_some}
use Rattle.std.specs.Prelude.{Ok, Err, IfErr, IfOk, Result, slice_get, slice_set}
use Rattle.std.specs.FinMap as finite
use Rattle.std.specs.Vec.{with_item}
use Rattle.std.proofs.lemmas.Bool.{le-ltb, lt-ltb}
use Rattle.std.proofs.lemmas.Option.{slice_get_within}
use Rattle.address_space.specs.Agreement.{IsFrameOfPage}
use Rattle.fault_rules.specs.MadeResident.{gets_frame, is_counted, is_shared_by, IsOnItsFrame}
use Rattle.frame_store.specs.Laws.{KeepsSeats}
use Rattle.frame_store.specs.Plain.{PlainState, PlainStateInvariant}
use Rattle.frame_store.specs.Seats.{place_set_back, place_set_same}
use Rattle.frame_store.specs.View.{IsSole}
use Rattle.process_model.specs.Environment as model
use Rattle.process_model.specs.Environment.{is_shared_page, need_at, Progress, resident_at_address, unless_dry, unless_resident, resident_at}
use Rattle.process_model.specs.Files.{File}
use Rattle.process_model.specs.PageMap.{get}
use Rattle.process_model.specs.Process.{Page, Pending, Process}
use Rattle.process_model.proofs.ResidenceLaws.{made_settles}
use Rattle.process_model.specs.Residence.{is_resident, made_resident}
use Rattle.process_model.specs.Service.{environment_of, initial_progress, is_dry, served, served_or_ended, with_progress}
use Rattle.process_model.specs.Stale.{is_changed}
use Rattle.process_model.specs.World.{free, is_unserved_access, others_have, StepOutcome, with_process, World}
use Rattle.process_model.specs.declared.reply.ScalarReply.TheVariants.{Ready}
use Rattle.process_model.specs.declared.reply.Reply.TheVariants.{Scalar}
use Rattle.sv39_entry.specs.Address.{page_of}
use Rattle.sv39_entry.specs.Word.{ppn}
use Rattle.sv39_entry.specs.declared.access.Access.{Access}
use Rattle.sv39_entry.specs.declared.access.Access.TheVariants as access
use Rattle.sv39_entry.specs.declared.rule.Rule.{Rule}
use Rattle.sv39_entry.specs.declared.rule.Rule.TheVariants.{NoFrame}
use Rattle.sv39_entry.specs.Schemes.{trapframe_page}
use Rattle.table_walk.specs.Tables.{leaf_node, Tables}
use Rattle.hart_machine.specs.Calls.{Follows, IsInKernel, KeepsPage, IsNew}
use Rattle.hart_machine.specs.Harts.{hart_of}
use Rattle.hart_machine.specs.Marks.{AreMarked, slot_if}
use Rattle.hart_machine.specs.ServeEffect.{HasServed, IsEnding, MustEnd, rule_of, was_served, WhenShared}
use Rattle.hart_machine.specs.SlotProcesses.{IsSlotProcess, view_of}
use Rattle.hart_machine.specs.Worlds.{HaveSameLeaves, IsModelOutcome, IsWorldButBuffers, StaysOnFrames, KeepsTables}
use Rattle.hart_machine.specs.declared.machine.Machine.{Machine}
use Rattle.hart_machine.specs.declared.slot_process.SlotProcess.{SlotProcess}
use Rattle.hart_machine.proofs.AccessingWorlds.{bytes_change}
use Rattle.hart_machine.proofs.Following.{call_changes}
use Rattle.hart_machine.proofs.HartSteps.{tenant_is}
use Rattle.hart_machine.proofs.HeldFrames.{free_is}
use Rattle.hart_machine.proofs.KeptLeaves.{followed_frames, followed_same, old_on, slot_keeps_by}
use Rattle.hart_machine.proofs.MarkedCalls.{resident_changes, resident_keeps}
use Rattle.hart_machine.proofs.ServedPages.{CopyIs, page_after, page_there, resident_stays, same_made}
use Rattle.hart_machine.proofs.SharedPages.{others_have_page}
use Rattle.hart_machine.proofs.SlotMarks.{set_marks}
use Rattle.hart_machine.proofs.StartedPages.{one_frame}

-- an access waits
pub some_pending : (o : Option Pending) → is_unserved_access o ≡ true → (a : Pending) × (o ≡ Some a)
some_pending None waits = absurd (cc)
some_pending (Some a) waits = (a, refl)

-- whether the count of the frame of a leaf is not 1
tells : (ℕ → ℕ) → Option ℕ → Bool
tells count None = false
tells count (Some leaf) = not (count (ppn leaf - 0x80000) == 1)

tells_of : (count : ℕ → ℕ) (t : Tables) (page f : ℕ) → IsFrameOfPage t page f → tells count (finite.get t.leaves (leaf_node page)) ≡ not (count f == 1)
unfolding tells
tells_of count t page f on =
    let here : ppn on.0 - 0x80000 ≡ f = (let names = on.2 in omega (arith, names)) in
    ap (tells count) on.1 ∙ ap (λ (n : ℕ). not (count n == 1)) here

none_counted : (a : Access) → is_counted a None ≡ true → ⊥
none_counted access.Fetch never = cc
none_counted access.Load never = cc
none_counted access.Store never = cc

is_there : (o : Option ℕ) → is_some o ≡ true → (c : ℕ) × (o ≡ Some c)
is_there None never = absurd (cc)
is_there (Some c) there = (c, refl)

-- a page of another number has another leaf
other_leaf : (n page : ℕ) → (n ≡ page → ⊥) → leaf_node n ≡ leaf_node page → ⊥
other_leaf n page apart same = apart (omega (arith, same))

-- a page is made resident for an access, or it can't be: by the service of a fault, or for a copy
module _ (m : Machine) (w : World) (is : IsWorldButBuffers m w) (h s : ℕ) (waits : Bool) (k : IsInKernel m w h s waits) (x y : SlotProcess) (place : slice_get m.slots.items s ≡ Some (Some x))
    (b : PlainState) (keeps : KeepsSeats PlainStateInvariant m.frames (view_of x) b (view_of y)) (a : Pending) where
  abbrev p : Process
  p = k.process

  abbrev t : Tables
  t = is.tables s

  abbrev page : ℕ
  page = page_of a.address

  abbrev shared : Bool
  shared = is_shared_page (environment_of w s) p page

  abbrev need : ℕ
  need = need_at (environment_of w s) a.access page p

  slot_process : IsSlotProcess x t p
  slot_process = tenant_is m w is s x p place k.in_slot

  -- what is said of the frames that it takes holds of the model's number of them
  told_of : (P : ℕ → Type 0) → WhenShared m.frames t p a P → P need
  told_of P told = go (get p.settled page) refl where
    go : (o : Option Page) → get p.settled page ≡ o → P need
    go None e =
        let some = told (tells (slice_index m.frames.counts) (finite.get t.leaves (leaf_node page))) (λ f on. tells_of (slice_index m.frames.counts) t page f on) in
        rw e (rw e at some)
    go (Some z) e =
        let some = told (others_have w s z.copy) (λ f on. others_have_page m w is s page f p z k.in_slot e on) in
        rw e (rw e at some)

  -- a resident page takes no frame
  resident_needs_none : is_resident p a.access page ≡ true → need ≡ 0
  resident_needs_none through = go (get p.settled page) refl where
    go : (o : Option Page) → get p.settled page ≡ o → need ≡ 0
    go None e = absurd (let never = rw e at through in cc)
    go (Some z) e = let goes = rw e at through in rw (e, goes) refl

  -- it can't be
  module _ (rule : Rule) (must : MustEnd y t p a m.frames rule) where
    pub unreached : IsWorldButBuffers (record m { frames = b; slots = with_item m.slots s (Some y) }) w
    unreached =
        let after = bytes_change m w is s x y p p place k.in_slot slot_process must.slot_process b keeps (λ n z there. (z, there, refl)) refl in
        subst (λ (v : World). IsWorldButBuffers (record m { frames = b; slots = with_item m.slots s (Some y) }) v)
        (ap (λ (ps : List (Option Process)). let v : World = record w { slots = ps } in v) (place_set_back w.slots s (Some p) k.in_slot)) after

    reaches : (why : (rule_of p a ≡ Some rule) ⊎ ((rule_of p a ≡ None) × (rule ≡ NoFrame) × WhenShared m.frames t p a (λ n. m.frames.free < n))) → resident_at_address (environment_of w s) a.access a.address (initial_progress w p) (rule_of p a) ≡ Err rule
    unfolding resident_at
    reaches (inl denied) = ap (resident_at_address (environment_of w s) a.access a.address (initial_progress w p)) denied
    reaches (inr short) =
        let few : m.frames.free < need = told_of (λ n. m.frames.free < n) short.2 in
        let all = free_is m w is in
        let dry : is_dry w (0 + need) ≡ true = lt-ltb (free w) (0 + need) (omega (arith, few, all)) in
        ap (resident_at_address (environment_of w s) a.access a.address (initial_progress w p)) short.0 ∙ elim (is_resident p a.access page) as (λ r. is_resident p a.access page ≡ r → unless_resident (environment_of w s) a.access page (initial_progress w p) r ≡ Err rule) [
          | true ↦ λ e. absurd (let none = resident_needs_none e in omega (arith, few, none))
          | false ↦ λ _. ap (unless_dry (environment_of w s) a.access page (initial_progress w p) need) dry ∙ ap Err (sym short.1)
        ] refl

    pub reaches_not : resident_at_address (environment_of w s) a.access a.address (initial_progress w p) (rule_of p a) ≡ Err rule
    reaches_not = reaches must.why

    -- the caller is there as before
    unfoldable pub still_there : IsInKernel (record m { frames = b; slots = with_item m.slots s (Some y) }) w h s waits
    still_there = record {
      hart = k.hart;
      there = k.there;
      in_kernel = k.in_kernel;
      on = k.on;
      slot_process = y;
      place = place_set_same m.slots.items s (Some y) (slice_get_within m.slots.items s (Some x) place);
      process = p;
      in_slot = k.in_slot;
      unserved = k.unserved;
    }

  -- the page is resident
  module _ (waiting : Option Pending) (has : HasServed x y t p a waiting m.files m.frames b) where
    abbrev from_count : Bool
    from_count = is_shared_by has.count

    -- the count that was read tells whether another process has the page
    counted_so : is_counted a.access (get p.settled page) ≡ true → from_count ≡ shared
    counted_so is_read = go (get p.settled page) refl where
      go : (o : Option Page) → get p.settled page ≡ o → from_count ≡ shared
      go None e = absurd (let never : is_counted a.access None ≡ true = ap (is_counted a.access) (sym e) ∙ is_read in none_counted a.access never)
      go (Some z) e =
          let shown = slot_process.agrees.stands.shows.settled page z e in
          let on : IsFrameOfPage t page shown.frame = (shown.leaf, shown.mapped, shown.made.names) in
          let c = is_there has.count (has.resides.counted ∙ is_read) in
          ap is_shared_by c.1 ∙ ap (λ (n : ℕ). not (n == 1)) (has.counts shown.frame c.0 on c.1) ∙ sym (others_have_page m w is s page shown.frame p z k.in_slot e on)
          ∙ ap (λ (o : Option Page). model.is_shared_by (others_have w s) o) (sym e)

    abbrev fresh_page : Process
    fresh_page = made_resident m.files w.counter from_count p a.access page

    is_models : fresh_page ≡ made_resident w.files w.counter shared p a.access page
    is_models = same_made w.counter page m.files from_count shared p a.access (get p.settled page) counted_so ∙ ap (λ (fs : List File). made_resident fs w.counter shared p a.access page) is.files

    low : page < trapframe_page p.scheme
    low =
        let z = page_there w.counter page m.files from_count p a.access (get p.settled page) refl in
        let small = (has.slot_process w.counter).agrees.stands.shows.low page z.0 z.1 in
        omega (arith, small, ap trapframe_page (made_settles m.files w.counter from_count a.access page p).scheme)

    abbrev with_waiting : Process → Process
    with_waiting q = record q { pending = waiting }

    abbrev gets : Bool
    gets = gets_frame from_count a.access (get p.settled page)

    -- a page that keeps its frame
    kept_on : (c : Bool) → gets ≡ c → c ≡ false → (z : Page) → get p.settled page ≡ Some z → (f : ℕ) → IsFrameOfPage has.tables page f → IsFrameOfPage t page f
    kept_on c e off z settled f on =
        let shown = slot_process.agrees.stands.shows.settled page z settled in
        let was : IsFrameOfPage t page shown.frame = (shown.leaf, shown.mapped, shown.made.names) in
        let now : IsFrameOfPage has.tables page shown.frame = subst (λ (g : Bool). IsOnItsFrame (view_of x) (view_of y) t has.tables page g) (e ∙ off) has.resides.placed shown.frame was in
        let same : shown.frame ≡ f = one_frame (view_of y) y.space.root.0 y.space.trapframe.0 has.tables _ (has.slot_process w.counter).agrees.stands page page shown.frame f now on refl in
        subst (IsFrameOfPage t page) same was

    each : (high : ℕ) → (gets ≡ true → w.counter < high) → (n : ℕ) (z : Page) → get fresh_page.settled n ≡ Some z → KeepsPage t has.tables p n z ⊎ IsNew (view_of y) has.tables w.counter high n z
    each high more n z there = elim (page_after w.counter page m.files from_count p a.access (get p.settled page) refl n z there) [
      | inl other ↦ inl (record {
        before = z;
        settled = other.1;
        copy = refl;
        on = λ f on.
            let small = slot_process.agrees.stands.shows.low n z other.1 in
            let same = has.resides.others (leaf_node n) (other_leaf n page other.0) in
            (on.0, sym same ∙ on.1, on.2);
      })
      | inr here ↦ go gets refl here.0 here.1
    ] where
      go : (c : Bool) → gets ≡ c → n ≡ page → CopyIs w.counter page gets z (get p.settled page) → KeepsPage t has.tables p n z ⊎ IsNew (view_of y) has.tables w.counter high n z
      go true e at copy = inr (
          let fresh : z.copy ≡ w.counter = subst (λ (g : Bool). CopyIs w.counter page g z (get p.settled page)) e copy in
          let placed = subst (λ (g : Bool). IsOnItsFrame (view_of x) (view_of y) t has.tables page g) e has.resides.placed in
          let above = more e in
          record {
            given = omega (arith, fresh);
            below = omega (arith, fresh, above);
            sole = λ f on.
                let same : placed.0 ≡ f = one_frame (view_of y) y.space.root.0 y.space.trapframe.0 has.tables _ (has.slot_process w.counter).agrees.stands page n placed.0 f placed.1 on (sym at) in
                subst (IsSole (view_of y)) same placed.3;
          })
      go false e at copy = inl (
          let own = subst (λ (g : Bool). CopyIs w.counter page g z (get p.settled page)) e copy in
          record {
            before = own.0;
            settled = ap (get p.settled) at ∙ own.1;
            copy = own.2;
            on = λ f on. subst (λ (i : ℕ). IsFrameOfPage t i f) (sym at) (kept_on false e refl own.0 own.1 f (subst (λ (i : ℕ). IsFrameOfPage has.tables i f) at on));
          })

    -- a page with a new copy number is the one that was made resident
    new_here : (n : ℕ) (z : Page) → get fresh_page.settled n ≡ Some z → w.counter ≤ z.copy → n ≡ page
    new_here n z there given = elim (page_after w.counter page m.files from_count p a.access (get p.settled page) refl n z there) [
      | inl other ↦ absurd (let old = is.counted s n p z k.in_slot other.1 in omega (arith, old, given))
      | inr here ↦ here.0
    ]

    follows : (high : ℕ) → w.counter ≤ high → (gets ≡ true → w.counter < high) → Follows (view_of y) t has.tables p (with_waiting fresh_page) w.counter high
    follows high order more = record {
      each = each high more;
      apart = λ l n c d at also given same. new_here l c at given ∙ sym (new_here n d also (let first = given in omega (arith, first, same)));
      order = order;
    }

    world_after : (high : ℕ) → w.counter ≤ high → (gets ≡ true → w.counter < high)
        → IsWorldButBuffers (record m { frames = b; slots = with_item m.slots s (Some y) }) (record (with_process w s (with_waiting fresh_page)) { counter = high })
    world_after high order more =
        subst (λ (fs : List File). IsWorldButBuffers (record m { frames = b; slots = with_item m.slots s (Some y) }) (record (with_process w s (with_waiting fresh_page)) { counter = high; files = fs })) is.files
        (call_changes m w is s x y p (with_waiting fresh_page) has.tables place k.in_slot (has.slot_process w.counter) high (follows high order more) b keeps ((made_settles m.files w.counter from_count a.access page p).scheme ∙ is.schemes s p k.in_slot) m.files)

    -- each page was there, with its copy number, or has a new one
    pub reached_follows : Follows (view_of y) t has.tables p (with_waiting fresh_page) w.counter (w.counter + 1)
    reached_follows = follows (w.counter + 1) (omega arith) (λ _. omega arith)

    -- the machine is in the world in which the model has reached it
    pub is_reached : (g : Progress) × (resident_at_address (environment_of w s) a.access a.address (initial_progress w p) (rule_of p a) ≡ Ok g)
        × IsWorldButBuffers (record m { frames = b; slots = with_item m.slots s (Some y) }) (with_progress w s (record g { process = with_waiting g.process })) × (b.free + g.taken ≡ m.frames.free) × (fresh_page ≡ g.process)
    unfolding resident_at
    is_reached =
        let few : need ≤ m.frames.free = told_of (λ n. n ≤ m.frames.free) has.enough in
        let left : b.free ≡ m.frames.free - need = told_of (λ n. b.free ≡ m.frames.free - n) has.free in
        let all = free_is m w is in
        let wet : is_dry w (0 + need) ≡ false = le-ltb (free w) (0 + need) (omega (arith, few, all)) in
        let allow : (r : Result Progress Rule) → unless_resident (environment_of w s) a.access page (initial_progress w p) (is_resident p a.access page) ≡ r → resident_at_address (environment_of w s) a.access a.address (initial_progress w p) (rule_of p a) ≡ r =
        λ r e. ap (resident_at_address (environment_of w s) a.access a.address (initial_progress w p)) has.allowed ∙ e in
        elim (is_resident p a.access page) as (λ r. is_resident p a.access page ≡ r → (g : Progress) × (resident_at_address (environment_of w s) a.access a.address (initial_progress w p) (rule_of p a) ≡ Ok g)
        × IsWorldButBuffers (record m { frames = b; slots = with_item m.slots s (Some y) }) (with_progress w s (record g { process = with_waiting g.process })) × (b.free + g.taken ≡ m.frames.free) × (fresh_page ≡ g.process)) [
          | true ↦ λ e.
              let stays = resident_stays w.counter page m.files from_count p a.access (get p.settled page) e in
              let none = resident_needs_none e in (
                initial_progress w p,
                allow (Ok (initial_progress w p)) (ap (unless_resident (environment_of w s) a.access page (initial_progress w p)) e),
                subst (λ (q : Process). IsWorldButBuffers (record m { frames = b; slots = with_item m.slots s (Some y) }) (record (with_process w s (with_waiting q)) { counter = w.counter })) stays.0
                    (world_after w.counter (omega arith) (λ gained. absurd (let kept = stays.1 in cc))),
                omega (arith, left, none),
                stays.0,
              )
          | false ↦ λ e.
              let g : Progress = record { process = made_resident w.files w.counter shared p a.access page; fresh = w.counter + 1; taken = 0 + need } in (
                g,
                allow (Ok g) (ap (unless_resident (environment_of w s) a.access page (initial_progress w p)) e ∙ ap (unless_dry (environment_of w s) a.access page (initial_progress w p) need) wet),
                subst (λ (q : Process). IsWorldButBuffers (record m { frames = b; slots = with_item m.slots s (Some y) }) (record (with_process w s (with_waiting q)) { counter = w.counter + 1 })) is_models
                    (world_after (w.counter + 1) (omega arith) (λ _. omega arith)),
                omega (arith, left, few),
                is_models,
              )
        ] refl

    -- whether a leaf of the process is another afterwards: where its page was not resident
    pub leaves_told : (told : Bool) → told ≡ not (is_resident p a.access page) → told ≡ is_changed (Some p) (Some (with_waiting fresh_page))
    leaves_told told e = e ∙ elim (is_resident p a.access page) as (λ r. is_resident p a.access page ≡ r → not r ≡ is_changed (Some p) (Some (with_waiting fresh_page))) [
      | true ↦ λ there. sym (resident_keeps m.files w.counter from_count p a.access page waiting there)
      | false ↦ λ gone. sym (resident_changes m.files w.counter from_count p a.access page waiting gone)
    ] refl

    -- where none is another, each page has the leaf that it had
    pub leaves_as_before : y.space.trapframe ≡ x.space.trapframe → is_changed (Some p) (Some (with_waiting fresh_page)) ≡ false → HaveSameLeaves t has.tables
    leaves_as_before trapframe unchanged = followed_same x y t has.tables p (with_waiting fresh_page) slot_process (has.slot_process w.counter) unchanged (made_settles m.files w.counter from_count a.access page p).scheme trapframe (made_settles m.files w.counter from_count a.access page p).regions
        w.counter (λ n z there. is.counted s n p z k.in_slot there)
        (old_on (view_of y) t has.tables p (with_waiting fresh_page) w.counter (w.counter + 1) reached_follows)

    pub frames_as_before : y.space.trapframe ≡ x.space.trapframe → StaysOnFrames t has.tables p (with_waiting fresh_page)
    frames_as_before trapframe = followed_frames x y t has.tables p (with_waiting fresh_page) slot_process (has.slot_process w.counter) (made_settles m.files w.counter from_count a.access page p).scheme trapframe
        w.counter (λ n z there. is.counted s n p z k.in_slot there) (old_on (view_of y) t has.tables p (with_waiting fresh_page) w.counter (w.counter + 1) reached_follows)

-- the service of an access that waits
module _ (m : Machine) (w : World) (is : IsWorldButBuffers m w) (h s : ℕ) (k : IsInKernel m w h s true) (x y : SlotProcess) (place : slice_get m.slots.items s ≡ Some (Some x))
    (b : PlainState) (keeps : KeepsSeats PlainStateInvariant m.frames (view_of x) b (view_of y)) (a : Pending) (waits : (k.process).pending ≡ Some a) where
  -- it is what the model makes of how far it came
  serves_by : (r : Result Progress Rule) → resident_at_address (environment_of w s) a.access a.address (initial_progress w k.process) (rule_of k.process a) ≡ r
      → served w h (hart_of k.hart) s k.process (k.process).pending ≡ served_or_ended w h (hart_of k.hart) s k.process a r
  serves_by r e = ap (served w h (hart_of k.hart) s k.process) waits ∙ ap (served_or_ended w h (hart_of k.hart) s k.process a) e

  pub is_served : HasServed x y (is.tables s) k.process a (was_served a) m.files m.frames b
      → IsModelOutcome (record m { frames = b; slots = with_item m.slots s (Some y) }) (Scalar Ready) (served w h (hart_of k.hart) s k.process (k.process).pending)
  is_served has =
      let made = is_reached m w is h s true k x y place b keeps a (was_served a) has in
      subst (λ (o : StepOutcome). IsModelOutcome (record m { frames = b; slots = with_item m.slots s (Some y) }) (Scalar Ready) o) (sym (serves_by (Ok made.0) made.1)) (refl, made.2)

  -- of the slots, it makes one another
  module _ (has : HasServed x y (is.tables s) k.process a (was_served a) m.files m.frames b) where
    abbrev now_served : Process
    now_served = record (made_resident m.files w.counter (is_shared_by has.count) k.process a.access (page_of a.address)) { pending = was_served a }

    served_sets : (served w h (hart_of k.hart) s k.process (k.process).pending).world.slots ≡ slice_set w.slots s (Some now_served)
    served_sets =
        let made = is_reached m w is h s true k x y place b keeps a (was_served a) has in
        ap (λ (o : StepOutcome). (o.world).slots) (serves_by (Ok made.0) made.1) ∙ ap (λ (q : Process). slice_set w.slots s (Some (record q { pending = was_served a }))) (sym made.4)

    pub is_marked : (told : Bool) → told ≡ not (is_resident k.process a.access (page_of a.address)) → AreMarked w (served w h (hart_of k.hart) s k.process (k.process).pending) (slot_if s told) None
    is_marked told e =
        set_marks w (served w h (hart_of k.hart) s k.process (k.process).pending) s k.process now_served told k.in_slot served_sets
        (leaves_told m w is h s true k x y place b keeps a (was_served a) has told e)

    pub keeps_leaves : y.space.trapframe ≡ x.space.trapframe
        → KeepsTables m (record m { frames = b; slots = with_item m.slots s (Some y) }) w.slots (served w h (hart_of k.hart) s k.process (k.process).pending).world.slots
    keeps_leaves trapframe =
        slot_keeps_by m (record m { frames = b; slots = with_item m.slots s (Some y) }) w.slots _ s x y k.process now_served (is.tables s) has.tables
        (tenant_is m w is s x k.process place k.in_slot) (has.slot_process w.counter) place k.in_slot refl served_sets refl
        (leaves_as_before m w is h s true k x y place b keeps a (was_served a) has trapframe) (frames_as_before m w is h s true k x y place b keeps a (was_served a) has trapframe)

  pub is_ending : (rule : Rule) → MustEnd y (is.tables s) k.process a m.frames rule → IsEnding m (record m { frames = b; slots = with_item m.slots s (Some y) }) w h s k rule
  unfolding still_there
  is_ending rule must = record {
    world = unreached m w is h s true k x y place b keeps a rule must;
    there = still_there m w is h s true k x y place b keeps a rule must;
    hart = refl;
    process = refl;
    ends = serves_by (Err rule) (reaches_not m w is h s true k x y place b keeps a rule must);
  }

-- by what the process's call told

module _ (m : Machine) (s : ℕ) (x y : SlotProcess) (place : (w : World) (h : ℕ) → IsInKernel m w h s true → slice_get m.slots.items s ≡ Some (Some x))
    (b : PlainState) (keeps : KeepsSeats PlainStateInvariant m.frames (view_of x) b (view_of y)) (files : List File) (stay : files ≡ m.files) where
  abbrev after : Machine
  after = record m { frames = b; slots = with_item m.slots s (Some y); files = files }

  files_are : (P : Machine → Type 0) → P (record m { frames = b; slots = with_item m.slots s (Some y) }) → P after
  files_are P it = subst (λ (fs : List File). P (record m { frames = b; slots = with_item m.slots s (Some y); files = fs })) (sym stay) it

  pub served_by : (r : Result Bool Rule) → IfOk r (λ _. (t : Tables) (p : Process) (a : Pending) → IsSlotProcess x t p → p.pending ≡ Some a → HasServed x y t p a (was_served a) m.files m.frames b)
      → IfOk r (λ _. (w : World) (h : ℕ) → IsWorldButBuffers m w → (k : IsInKernel m w h s true) → IsModelOutcome after (Scalar Ready) (served w h (hart_of k.hart) s k.process (k.process).pending))
  served_by (Err e) told = tt
  served_by (Ok u) told = λ w h is k.
      let a = some_pending (k.process).pending k.unserved in
      let at = place w h k in
      files_are (λ n. IsModelOutcome n (Scalar Ready) (served w h (hart_of k.hart) s k.process (k.process).pending))
      (is_served m w is h s k x y at b keeps a.0 a.1 (told (is.tables s) k.process a.0 (tenant_is m w is s x k.process at k.in_slot) a.1))

  pub marked_by : (r : Result Bool Rule) → IfOk r (λ _. (t : Tables) (p : Process) (a : Pending) → IsSlotProcess x t p → p.pending ≡ Some a → HasServed x y t p a (was_served a) m.files m.frames b)
      → IfOk r (λ told. (t : Tables) (p : Process) (a : Pending) → IsSlotProcess x t p → p.pending ≡ Some a → told ≡ not (is_resident p a.access (page_of a.address)))
      → IfOk r (λ told. (w : World) (h : ℕ) → IsWorldButBuffers m w → (k : IsInKernel m w h s true) → AreMarked w (served w h (hart_of k.hart) s k.process (k.process).pending) (slot_if s told) None)
  marked_by (Err e) served tells = tt
  marked_by (Ok told) served tells = λ w h is k.
      let a = some_pending (k.process).pending k.unserved in
      let at = place w h k in
      let slot_process = tenant_is m w is s x k.process at k.in_slot in
      is_marked m w is h s k x y at b keeps a.0 a.1 (served (is.tables s) k.process a.0 slot_process a.1) told (tells (is.tables s) k.process a.0 slot_process a.1)

  pub tables_by : (r : Result Bool Rule) → IfOk r (λ _. (t : Tables) (p : Process) (a : Pending) → IsSlotProcess x t p → p.pending ≡ Some a → HasServed x y t p a (was_served a) m.files m.frames b)
      → y.space.trapframe ≡ x.space.trapframe
      → IfOk r (λ _. (w : World) (h : ℕ) → IsWorldButBuffers m w → (k : IsInKernel m w h s true) → KeepsTables m after w.slots (served w h (hart_of k.hart) s k.process (k.process).pending).world.slots)
  tables_by (Err e) told trapframe = tt
  tables_by (Ok u) told trapframe = λ w h is k.
      let a = some_pending (k.process).pending k.unserved in
      let at = place w h k in
      files_are (λ n. KeepsTables m n w.slots (served w h (hart_of k.hart) s k.process (k.process).pending).world.slots)
      (keeps_leaves m w is h s k x y at b keeps a.0 a.1 (told (is.tables s) k.process a.0 (tenant_is m w is s x k.process at k.in_slot) a.1) trapframe)

  pub ending_by : (r : Result Bool Rule) → IfErr r (λ rule. (t : Tables) (p : Process) (a : Pending) → IsSlotProcess x t p → p.pending ≡ Some a → MustEnd y t p a m.frames rule)
      → IfErr r (λ rule. (w : World) (h : ℕ) → IsWorldButBuffers m w → (k : IsInKernel m w h s true) → IsEnding m after w h s k rule)
  ending_by (Ok u) told = tt
  ending_by (Err rule) told = λ w h is k.
      let a = some_pending (k.process).pending k.unserved in
      let at = place w h k in
      files_are (λ n. IsEnding m n w h s k rule)
      (is_ending m w is h s k x y at b keeps a.0 a.1 rule (told (is.tables s) k.process a.0 (tenant_is m w is s x k.process at k.in_slot) a.1))
