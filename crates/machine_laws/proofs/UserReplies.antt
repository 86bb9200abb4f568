-- Lemmas: the reply to a user access is that of the model's `user_access` by the process on the hart (`is_user_access`), and tells the outcome of the
-- machine's walk (`replies`).
use Rattle.std.proofs.Common.{◌≡◌, ◌⊎◌, ℕ, ◌*◌, ◌/◌, ◌%◌, ◌<◌, ◌==◌, ◌||◌, Bool, true, false, refl, sym, ap, subst, ◌∙◌, inl, inr, arith, Option, None, Some, option_map, List, length, drop, if◌then◌else◌}
use Rattle.std.proofs.lemmas.Bool.{cases_Bool, cases_eq, eqb-true, false≢true, or_cases}
use Rattle.std.specs.FinMap.{get}
use Rattle.std.specs.Prelude.{slice_get}
use Rattle.access_history.specs.History.{First}
use Rattle.access_history.specs.Permits as permits
use Rattle.access_history.specs.Permits.{IsMultiple, Past, Permits}
use Rattle.access_history.specs.declared.event.Event.{Event}
use Rattle.access_history.specs.declared.outcome.Outcome.{Outcome}
use Rattle.access_history.specs.declared.outcome.Outcome.TheVariants.{Granted, Refused}
use Rattle.access_history.specs.declared.outcome.Request.{Request}
use Rattle.address_space.proofs.UserAnswers as answers
use Rattle.address_space.specs.Agreement.{IsFrameOfPage, IsShown, IsSpace, body, one_frame}
use Rattle.frame_bytes.proofs.Numbers.{part_of_word}
use Rattle.frame_store.specs.View.{IsHeld}
use Rattle.hart_machine.proofs.AccessingWorlds.{seat_fits}
use Rattle.hart_machine.proofs.HartSteps.{impossible, improper, its_process, process_at, runs, without_entry}
use Rattle.hart_machine.proofs.SeenWords.{hart_seen}
use Rattle.hart_machine.proofs.Trapping.{user_is}
use Rattle.hart_machine.specs.BufferEntries.{IsInWorld}
use Rattle.hart_machine.specs.Harts.{hart_of}
use Rattle.hart_machine.specs.SlotProcesses.{IsSlotProcess, view_of}
use Rattle.hart_machine.specs.Tables.{present_table, tables_of}
use Rattle.hart_machine.specs.Worlds.{IsWorldButBuffers}
use Rattle.hart_machine.specs.declared.hart.Hart.{Hart}
use Rattle.hart_machine.specs.declared.machine.Machine.{Machine}
use Rattle.hart_machine.specs.declared.slot_process.SlotProcess.{SlotProcess}
use Rattle.history_laws.specs.PlainWalks.{IsPlainAccess, IsPlainHart, outcome_of}
use Rattle.machine_laws.proofs.MachineAnswers.{walk_answers}
use Rattle.machine_laws.proofs.SeenWalks.{known_here}
use Rattle.machine_laws.proofs.StoredWords.{named, word_there}
use Rattle.machine_laws.specs.HartHistories.{HasHistory}
use Rattle.machine_laws.specs.MachineStates.{memory_in}
use Rattle.machine_laws.specs.UserAccesses.{IsAccessOf, Tells, fetches, loads, reads, stores, user_request, value_at, writes}
use Rattle.machine_laws.specs.UserAccesses as accesses
use Rattle.process_model.specs.Bytes.{is_width, number}
use Rattle.process_model.specs.Harts as model
use Rattle.process_model.specs.Harts.{entry_serves}
use Rattle.process_model.specs.PageMap as pages
use Rattle.process_model.specs.Process.{Page, Process}
use Rattle.process_model.specs.Residence.{loaded}
use Rattle.process_model.specs.Service.{AccessRequest, Answer, access_outcome, access_outcome_if, access_step, faulted, is_fault, user_access}
use Rattle.process_model.specs.Stale.{with_stale_slots}
use Rattle.process_model.specs.Steps.{is_refused, plain_step, step}
use Rattle.process_model.specs.World.{StepOutcome, World}
use Rattle.process_model.specs.declared.config.Policy.{Policy}
use Rattle.process_model.specs.declared.config.Policy.TheVariants.{Full, Asid}
use Rattle.process_model.specs.declared.phase.Phase.{Phase}
use Rattle.process_model.specs.declared.phase.Phase.TheVariants as phase
use Rattle.process_model.specs.declared.reply.Reply.{Reply}
use Rattle.process_model.specs.declared.reply.Reply.TheVariants.{Scalar}
use Rattle.process_model.specs.declared.reply.ScalarReply.TheVariants.{Fault, Stored}
use Rattle.process_model.specs.declared.step.Step.{Step}
use Rattle.sv39_entry.specs.Address.{page_of}
use Rattle.sv39_entry.specs.Causes.{misaligned_cause}
use Rattle.sv39_entry.specs.Frame.{ppn_of}
use Rattle.sv39_entry.specs.Schemes.{is_canonical}
use Rattle.sv39_entry.specs.declared.access.Access.{Access}
use Rattle.sv39_entry.specs.declared.access.Access.TheVariants.{Fetch, Load, Store}
use Rattle.sv39_entry.specs.declared.access.Mode.TheVariants.{User}
use Rattle.sv39_entry.specs.declared.scheme.Scheme.{Scheme}
use Rattle.table_walk.specs.Leaves as leaves
use Rattle.table_walk.specs.Leaves.{answer, leaf_at, page_leaf, walk_answer}
use Rattle.table_walk.specs.Memory.{physical_address}
use Rattle.table_walk.specs.Tables.{Tables, walk_leaf}
use Rattle.table_walk.specs.declared.walk.Walk.{Walk}
use Rattle.table_walk.specs.declared.walk.Walk.TheVariants as walk
use Rattle.walk_rules.specs.declared.extensions.Extensions.{Extensions}
use Rattle.walk_rules.specs.declared.memory_type.MemoryType.TheVariants.{Pma}

-- ---- the reply of the step

same_reply : (policy : Policy) (w : World) (o : StepOutcome) → (with_stale_slots policy w o).reply ≡ o.reply
same_reply Full w o = refl
same_reply Asid w o = refl

pub step_reply : (w : World) (s : Step) → (step w s).reply ≡ (plain_step w s).reply
unfolding step
step_reply w s = same_reply w.policy w (plain_step w s)

outcome_reply : (w : World) (h : ℕ) (hart : model.Hart) (s : ℕ) (x : Answer) → (access_outcome w h hart s x).reply ≡ x.reply
outcome_reply w h hart s x = go (is_fault x.reply) where
  go : (b : Bool) → (access_outcome_if w h hart s x b).reply ≡ x.reply
  go true = refl
  go false = refl

-- what the machine has for an access that is not refused
pub record IsMade (m : Machine) (w : World) (is : IsInWorld m w) (k : ℕ) (x : Hart) (a : AccessRequest) (o : StepOutcome) : Type 0 where
  pub wide : is_width a.width ≡ true
  pub user : x.phase ≡ phase.User
  pub slot : ℕ
  pub on : x.slot ≡ Some slot
  pub place : SlotProcess
  pub there : slice_get m.slots.items slot ≡ Some (Some place)
  pub process : Process
  pub at_slot : slice_get w.slots slot ≡ Some (Some process)
  pub agrees : IsSpace (body (view_of place) place.space.root.0 place.space.trapframe.0 place.space.layout) ((is.world).tables slot) process
  pub slot_process : IsSlotProcess place ((is.world).tables slot) process
  pub comes : o ≡ access_outcome w k (hart_of x) slot (user_access process a)

module _ (m : Machine) (w : World) (is : IsInWorld m w) (k : ℕ) (x : Hart) (at : slice_get m.harts.items k ≡ Some x) (a : AccessRequest) (via : Option ℕ) where
  abbrev made : StepOutcome
  made = access_step w k a.access a.address a.width a.value via

  in_model : slice_get w.harts k ≡ Some (hart_of x)
  in_model = hart_seen m w is.world k (Some x) at

  no : (o : StepOutcome) → made ≡ o → is_refused o.reply ≡ true → is_refused made.reply ≡ false → ⊥
  no o same refused not_so = false≢true (sym not_so ∙ ap (λ (p : StepOutcome). is_refused p.reply) same ∙ refused)

  by_slot : is_width a.width ≡ true → model.is_user x.phase ≡ true → entry_serves w.policy (hart_of x) a.address via ≡ true → (o : Option ℕ) → x.slot ≡ o → IsMade m w is k x a made
  by_slot wide user serves None on = absurd (let idle = (is.world).idle k x at on in let both : phase.User ≡ phase.Idle = sym (user_is x.phase user) ∙ idle in cc)
  by_slot wide user serves (Some s) on =
      let y = (is.world).hosted k s x at on in
      let p = process_at m w is.world s y.0 y.1 in
      record {
        wide = wide;
        user = user_is x.phase user;
        slot = s;
        on = on;
        place = y.0;
        there = y.1;
        process = p.0;
        at_slot = p.1;
        agrees = (p.2).agrees;
        slot_process = p.2;
        comes =
            runs w k (is_width a.width) (λ hart. model.is_user hart.phase) (λ hart. entry_serves w.policy hart a.address via) _ (hart_of x) in_model wide user serves
            ∙ its_process w (hart_of x) _ s p.0 on p.1;
      }

  pub is_made : is_refused made.reply ≡ false → IsMade m w is k x a made
  is_made not_so = elim (cases_Bool (is_width a.width)) [
    | inr narrow ↦ absurd (no _ (improper w k (is_width a.width) _ _ _ narrow) refl not_so)
    | inl wide ↦ elim (cases_Bool (model.is_user x.phase)) [
      | inr other ↦ absurd (no _ (impossible w k (is_width a.width) (λ hart. model.is_user hart.phase) _ _ (hart_of x) in_model wide other) refl not_so)
      | inl user ↦ elim (cases_Bool (entry_serves w.policy (hart_of x) a.address via)) [
        | inr none ↦ absurd (no _ (without_entry w k (is_width a.width) (λ hart. model.is_user hart.phase) (λ hart. entry_serves w.policy hart a.address via) _ (hart_of x) in_model wide user none) refl not_so)
        | inl serves ↦ by_slot wide user serves x.slot refl
      ]
    ]
  ]

-- ---- alignment

widths : (n : ℕ) → is_width n ≡ true → (n ≡ 1) ⊎ ((n ≡ 2) ⊎ ((n ≡ 4) ⊎ (n ≡ 8)))
widths n is = elim (or_cases (n == 1 || n == 2 || n == 4) (n == 8) is) [
  | inr eight ↦ inr (inr (inr (eqb-true n 8 eight)))
  | inl less ↦ elim (or_cases (n == 1 || n == 2) (n == 4) less) [
    | inr four ↦ inr (inr (inl (eqb-true n 4 four)))
    | inl few ↦ elim (or_cases (n == 1) (n == 2) few) [
      | inr two ↦ inr (inl (eqb-true n 2 two))
      | inl one ↦ inl (eqb-true n 1 one)
    ]
  ]
]

module _ (n : ℕ) (is : is_width n ≡ true) where
  multiple : (a : ℕ) → a % n ≡ 0 → IsMultiple a n
  multiple a whole = elim (widths n is) as (λ _. IsMultiple a n) [
    | inl one ↦ (a, rw one (omega arith))
    | inr more ↦ elim more [
      | inl two ↦ (a / 2, rw two (omega (arith, rw two at whole)))
      | inr more ↦ elim more [
        | inl four ↦ (a / 4, rw four (omega (arith, rw four at whole)))
        | inr eight ↦ (a / 8, rw eight (omega (arith, rw eight at whole)))
      ]
    ]
  ]

  aligned : (a : ℕ) → IsMultiple a n → a % n ≡ 0
  aligned a of = elim (widths n is) as (λ _. a % n ≡ 0) [
    | inl one ↦ rw one (omega arith)
    | inr more ↦ elim more [
      | inl two ↦ let by = rw two at of.1 in rw two (omega (arith, by))
      | inr more ↦ elim more [
        | inl four ↦ let by = rw four at of.1 in rw four (omega (arith, by))
        | inr eight ↦ let by = rw eight at of.1 in rw eight (omega (arith, by))
      ]
    ]
  ]

  pub on_page : (a : ℕ) → a % n ≡ 0 → a % 4096 % n ≡ 0
  on_page a whole = elim (widths n is) as (λ _. a % 4096 % n ≡ 0) [
    | inl one ↦ rw one (omega arith)
    | inr more ↦ elim more [
      | inl two ↦ let by = rw two at whole in rw two (omega (arith, by))
      | inr more ↦ elim more [
        | inl four ↦ let by = rw four at whole in rw four (omega (arith, by))
        | inr eight ↦ let by = rw eight at whole in rw eight (omega (arith, by))
      ]
    ]
  ]

-- ---- a leaf

leads_by : (c : Bool) (leaf : leaves.Leaf) (address word level pa : ℕ) (fault : ℕ) → walk.Leaf word level pa ≡ (if c then walk.Leaf leaf.word leaf.level (physical_address leaf.word leaf.level address) else walk.PageFault fault)
    → pa ≡ physical_address leaf.word leaf.level address
leads_by true leaf address word level pa fault is = cc
leads_by false leaf address word level pa fault is = absurd (cc)

-- the physical address of a page's leaf has the offset of the address
offset_of : (o : Option ℕ) (address word level pa : ℕ) (kind : Access) → walk.Leaf word level pa ≡ answer (option_map page_leaf o) address kind User → pa % 4096 ≡ address % 4096
offset_of None address word level pa kind is = absurd (cc)
offset_of (Some w) address word level pa kind is = let leads = leads_by _ (page_leaf w) address word level pa _ is in omega (arith, leads)

offset_at : (c : Bool) (o : Option ℕ) (address word level pa : ℕ) (kind : Access) → walk.Leaf word level pa ≡ answer (if c then option_map page_leaf o else None) address kind User
    → pa % 4096 ≡ address % 4096
offset_at true o address word level pa kind is = offset_of o address word level pa kind is
offset_at false o address word level pa kind is = offset_of None address word level pa kind is

-- ---- the bytes of a page in memory

module _ (m : Machine) (w : World) (is : IsWorldButBuffers m w) (s : ℕ) (y : SlotProcess) (there : slice_get m.slots.items s ≡ Some (Some y)) (p : Process)
    (agrees : IsSpace (body (view_of y) y.space.root.0 y.space.trapframe.0 y.space.layout) (is.tables s) p) (n : ℕ) (page : Page) (settled : pages.get p.settled n ≡ Some page) where
  pub shown : IsShown (view_of y) (is.tables s) p n page
  shown = agrees.stands.shows.settled n page settled

  pub on_frame : IsFrameOfPage (is.tables s) n shown.frame
  on_frame = (shown.leaf, shown.mapped, shown.made.names)

  pub whole_page : length page.bytes ≡ 4096
  whole_page = shown.bytes.length

  -- memory has the page's bytes in its frame
  pub page_value : (frame pa offset width : ℕ) → IsFrameOfPage (is.tables s) n frame → pa / 4096 ≡ ppn_of frame → pa % 4096 ≡ offset → offset < 4096 → is_width width ≡ true
      → offset % width ≡ 0 → value_at (memory_in m) pa width ≡ Some (loaded page offset width)
  page_value frame pa offset width on lies at inside wide whole =
      let lies : pa / 4096 ≡ ppn_of shown.frame = lies ∙ ap ppn_of (one_frame (is.tables s) n frame shown.frame on on_frame) in
      let fits = seat_fits m.frames m.kernel.seat m.slots.items s y there is.invariant in
      let count = agrees.stands.owns.named shown.frame _ (inr (shown.leaf, shown.mapped, shown.made.names)) in
      let held : IsHeld (view_of y) shown.frame = omega (arith, count) in
      let i = offset / 8 in
      let low : i < 512 = omega (arith, inside) in
      let word = number (drop (8 * i) page.bytes) 8 in
      let here = known_here m.frames (view_of y) fits shown.frame i word held low (shown.bytes.words i low) in
      let index : pa % 4096 / 8 ≡ i = omega (arith, at) in
      let shift : pa % 8 ≡ offset % 8 = omega (arith, at) in
      let found : memory_in m (pa / 4096) (pa % 4096 / 8) ≡ Some word = rw (lies, index) (word_there m.frames.words shown.frame i shown.made.small low ∙ here) in
      rw (found, shift) (ap Some (part_of_word page.bytes shown.bytes.small word offset width wide whole refl))

-- ---- the outcome

module _ (m : Machine) (w : World) (is : IsInWorld m w) (k : ℕ) (x : Hart) (a : AccessRequest) (o : StepOutcome) (so : IsMade m w is k x a o) where
  abbrev t : Tables
  t = (is.world).tables so.slot

  abbrev z : Scheme
  z = (so.process).scheme

  abbrev request : Request
  request = user_request a.access a.address a.width

  replied : o.reply ≡ (user_access so.process a).reply
  replied = ap (λ (p : StepOutcome). p.reply) so.comes ∙ outcome_reply w k (hart_of x) so.slot (user_access so.process a)

  abbrev pub IsGrantedAt : ℕ → Type 0
  IsGrantedAt pa = answers.Granted (view_of so.place) (so.place).space.root.0 (so.place).space.trapframe.0 (so.place).space.layout t so.process a pa

  value_there : (whole : a.address % a.width ≡ 0) (pa : ℕ) → pa % 4096 ≡ a.address % 4096 → (g : IsGrantedAt pa) → value_at (memory_in m) pa a.width ≡ Some (loaded g.page (a.address % 4096) a.width)
  value_there whole pa offset g = page_value m w is.world so.slot so.place so.there so.process so.agrees (page_of a.address) g.page g.can.settled g.frame pa (a.address % 4096) a.width g.on
      (named (pa / 4096) (record { 0 = g.frame }) g.framed) offset (omega arith) so.wide (on_page a.width so.wide a.address whole)

  -- a store that was made went by a leaf
  pub record WasStored : Type 0 where
    pub whole : a.address % a.width ≡ 0
    pub pa : ℕ
    pub offset : pa % 4096 ≡ a.address % 4096
    pub granted : IsGrantedAt pa
    pub walked : outcome_of (walk_answer z t a.address a.access User) ≡ Granted pa Pma None

  no_fault : (cause : ℕ) → user_access so.process a ≡ faulted so.process a cause → o.reply ≡ Scalar Stored → ⊥
  no_fault cause same stored = let both : Scalar (Fault cause) ≡ Scalar Stored = sym (replied ∙ ap (λ (b : Answer). b.reply) same) ∙ stored in cc

  stored_by : o.reply ≡ Scalar Stored → a.address % a.width ≡ 0 → (wk : Walk) → wk ≡ walk_answer z t a.address a.access User → WasStored
  stored_by stored whole (walk.PageFault cause) same =
      absurd (no_fault cause (answers.fault_answer _ _ _ _ t so.process so.agrees a whole (walk.PageFault cause) cause same (inl refl)) stored)
  stored_by stored whole (walk.AccessFault cause) same =
      absurd (no_fault cause (answers.fault_answer _ _ _ _ t so.process so.agrees a whole (walk.AccessFault cause) cause same (inr refl)) stored)
  stored_by stored whole (walk.Leaf word level pa) same = record {
    whole = whole;
    pa = pa;
    offset = offset_at (is_canonical z a.address) (get t.leaves (walk_leaf z (page_of a.address))) a.address word level pa a.access same;
    granted = answers.granted _ _ _ _ t so.process so.agrees a whole word level pa same;
    walked = ap outcome_of (sym same);
  }

  pub was_stored : o.reply ≡ Scalar Stored → WasStored
  was_stored stored = elim (cases_eq (a.address % a.width) 0) [
    | inl whole ↦ stored_by stored whole (walk_answer z t a.address a.access User) refl
    | inr apart ↦ absurd (no_fault (misaligned_cause a.access) (answers.misaligned so.process a apart) stored)
  ]

  module _ (f : First) (h : List Event) (at : slice_get m.harts.items k ≡ Some x) (has : HasHistory m k f h) (have : Extensions) (plain : IsPlainHart have) where
    abbrev past : Past
    past = record { first = f; events = h }

    abbrev Told : Type 0
    Told = (out : Outcome) × Permits have past request out × Tells (memory_in m) request out o.reply

    told_by : (out : Outcome) (y : Answer) → user_access so.process a ≡ y → Permits have past request out → Tells (memory_in m) request out y.reply → Told
    told_by out y same permitted tells = (out, permitted, subst (Tells (memory_in m) request out) (sym (replied ∙ ap (λ (b : Answer). b.reply) same)) tells)

    crooked : (a.address % a.width ≡ 0 → ⊥) → Told
    crooked apart = told_by (Refused (misaligned_cause a.access) None) _ (answers.misaligned so.process a apart)
        (permits.misaligned (λ of. apart (aligned a.width so.wide a.address of))) (accesses.faults (misaligned_cause a.access))

    -- satp names the process's tables
    present : tables_of (is.world).tables (is.world).kernel (present_table x) ≡ t
    present =
        subst (λ (p : Phase). tables_of (is.world).tables (is.world).kernel (present_table (record x { phase = p })) ≡ t) (sym so.user)
        (subst (λ (on : Option ℕ). tables_of (is.world).tables (is.world).kernel (present_table (record x { phase = phase.User; slot = on })) ≡ t) (sym so.on) refl)

    schemed : m.kernel.scheme ≡ z
    schemed = (is.world).scheme ∙ sym ((is.world).schemes so.slot so.process so.at_slot)

    module _ (whole : a.address % a.width ≡ 0) where
      plainly : IsPlainAccess request User
      plainly = record { translated = refl; sum = refl; mxr = refl; whole = multiple a.width so.wide a.address whole }

      abbrev pub PermitsWalk : Scheme → Tables → Type 0
      PermitsWalk s u = Permits have past request (outcome_of (walk_answer s u a.address a.access User))

      pub permitted : PermitsWalk z t
      permitted = subst (λ (s : Scheme). PermitsWalk s t) schemed (subst (PermitsWalk m.kernel.scheme) present (walk_answers m w k x f h is at has have request User plain plainly))

      by_kind : (pa : ℕ) → pa % 4096 ≡ a.address % 4096
          → answers.Granted (view_of so.place) (so.place).space.root.0 (so.place).space.trapframe.0 (so.place).space.layout t so.process a pa
          → Permits have past request (Granted pa Pma None) → (kind : Access) → a.access ≡ kind → Told
      by_kind pa offset g ok Fetch kind =
          told_by _ _ (answers.answers_load _ _ _ _ t so.process so.agrees a whole pa g (inl kind)) ok
          (reads pa _ (λ store. let both : Fetch ≡ Store = sym kind ∙ store in cc) (value_there whole pa offset g))
      by_kind pa offset g ok Load kind =
          told_by _ _ (answers.answers_load _ _ _ _ t so.process so.agrees a whole pa g (inr kind)) ok
          (reads pa _ (λ store. let both : Load ≡ Store = sym kind ∙ store in cc) (value_there whole pa offset g))
      by_kind pa offset g ok Store kind = told_by _ _ (answers.answers_store _ _ _ _ t so.process so.agrees a whole pa g kind) ok (writes pa kind)

      by_walk : (wk : Walk) → wk ≡ walk_answer z t a.address a.access User → Permits have past request (outcome_of wk) → Told
      by_walk (walk.PageFault cause) same ok =
          told_by _ _ (answers.fault_answer _ _ _ _ t so.process so.agrees a whole (walk.PageFault cause) cause same (inl refl)) ok (accesses.faults cause)
      by_walk (walk.AccessFault cause) same ok =
          told_by _ _ (answers.fault_answer _ _ _ _ t so.process so.agrees a whole (walk.AccessFault cause) cause same (inr refl)) ok (accesses.faults cause)
      by_walk (walk.Leaf word level pa) same ok =
          by_kind pa (offset_at (is_canonical z a.address) (get t.leaves (walk_leaf z (page_of a.address))) a.address word level pa a.access same) (answers.granted _ _ _ _ t so.process so.agrees a whole word level pa same) ok a.access refl

      straight : Told
      straight = by_walk (walk_answer z t a.address a.access User) refl permitted

    pub told : Told
    told = elim (cases_eq (a.address % a.width) 0) [ inl whole ↦ straight whole | inr apart ↦ crooked apart ]

-- ---- the step

module _ (m : Machine) (w : World) (k : ℕ) (x : Hart) (f : First) (h : List Event) (is : IsInWorld m w) (at : slice_get m.harts.items k ≡ Some x) (has : HasHistory m k f h)
    (have : Extensions) (plain : IsPlainHart have) where
  abbrev Replies : Request → Reply → Type 0
  Replies q reply = (o : Outcome) × Permits have (record { first = f; events = h }) q o × Tells (memory_in m) q o reply

  by_access : (a : AccessRequest) (via : Option ℕ) (s : Step) → plain_step w s ≡ access_step w k a.access a.address a.width a.value via → is_refused (step w s).reply ≡ false
      → Replies (user_request a.access a.address a.width) (step w s).reply
  by_access a via s same not_so =
      let reply : (step w s).reply ≡ (access_step w k a.access a.address a.width a.value via).reply = step_reply w s ∙ ap (λ (o : StepOutcome). o.reply) same in
      subst (Replies (user_request a.access a.address a.width)) (sym reply)
      (told m w is k x a _ (is_made m w is k x at a via (sym (ap is_refused reply) ∙ not_so)) f h at has have plain)

  pub replies_told : (s : Step) (q : Request) → IsAccessOf k s q → is_refused (step w s).reply ≡ false → Replies q (step w s).reply
  replies_told s q (fetches address via) not_so = by_access (record { access = Fetch; address = address; width = 4; value = 0 }) via _ refl not_so
  replies_told s q (loads address width via) not_so = by_access (record { access = Load; address = address; width = width; value = 0 }) via _ refl not_so
  replies_told s q (stores address width value via) not_so = by_access (record { access = Store; address = address; width = width; value = value }) via _ refl not_so
