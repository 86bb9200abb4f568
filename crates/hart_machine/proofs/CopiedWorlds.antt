-- Lemmas for kernel copies, page by page: the machine is in the model's world (state) after a page was reached for the copy,
-- made resident, so that an access succeeds (`reaches`), after a rule stopped it (`stops`), and after bytes were written
-- (`puts`).
use Rattle.std.proofs.Common.{◌≡◌, ℕ, ◌+◌, ◌%◌, ◌<◌, ◌≤◌, Bool, true, false, not, ◌||◌, Option, None, Some, Result, Ok, Err, List, refl, ap, sym, subst, ◌∙◌, inl, inr, arith}
use Rattle.std.specs.Prelude.{◌⊎◌, nat_lt, slice_get, slice_set}
use Rattle.std.specs.Vec.{with_item}
use Rattle.std.proofs.lemmas.Bool.{and_parts}
use Rattle.std.proofs.lemmas.List.{set-set}
use Rattle.std.proofs.lemmas.Option.{slice_get_within}
use Rattle.address_space.specs.Agreement.{IsFrameOfPage}
use Rattle.address_space.proofs.PendingAccess.{agrees_pending}
use Rattle.address_space.specs.Steps.{CanWrite}
use Rattle.fault_rules.proofs.Allowed.{can_reside}
use Rattle.fault_rules.specs.MadeResident.{CanMakeResident, is_shared_by}
use Rattle.fault_rules.specs.PageService.{Moment}
use Rattle.fault_rules.specs.Serves.{IsEnd}
use Rattle.fault_rules.specs.declared.service.Served.TheVariants as served
use Rattle.frame_store.specs.Plain.{PlainState}
use Rattle.frame_store.specs.Seats.{place_set_same}
use Rattle.frame_store.specs.View.{View}
use Rattle.process_model.specs.Environment.{Environment, need_at, Progress, resident_at_address, resident_at, unless_dry, unless_resident}
use Rattle.process_model.specs.Copies.{reached_in}
use Rattle.process_model.specs.Files.{File}
use Rattle.process_model.specs.PageMap.{get}
use Rattle.process_model.specs.Process.{Page, Pending, Process, regions}
use Rattle.process_model.proofs.ResidenceLaws.{no_alignment, reached_parts, reached_serves}
use Rattle.process_model.specs.Regions.{copy_rule, keeps_stores}
use Rattle.process_model.specs.Residence.{is_resident, is_resident_page, made_resident, region_on, stored, with_page}
use Rattle.process_model.specs.Service.{environment_of, initial_progress, with_progress}
use Rattle.process_model.specs.World.{free, is_unserved_access, others_have, World}
use Rattle.sv39_entry.specs.Address.{page_of}
use Rattle.sv39_entry.specs.declared.access.Access.{Access}
use Rattle.sv39_entry.specs.declared.rule.Rule.{Rule}
use Rattle.sv39_entry.specs.declared.rule.Rule.TheVariants.{NoFrame}
use Rattle.sv39_entry.specs.declared.access.Access.TheVariants as access
use Rattle.table_walk.specs.Tables.{Tables, leaf_node}
use Rattle.user_copy.specs.ReachedPage.{Reaches}
use Rattle.user_copy.specs.Runs.{Puts}
use Rattle.user_copy.specs.declared.short.Stop.TheVariants.{Denied}
use Rattle.hart_machine.specs.Calls.{Follows, IsCaller}
use Rattle.hart_machine.specs.CopyEffect.{plain_store}
use Rattle.hart_machine.specs.ServeEffect.{HasServed, MustEnd, rule_of, WhenShared}
use Rattle.hart_machine.specs.SlotProcesses.{body_in, HasPageBytes, IsSlotProcess}
use Rattle.hart_machine.specs.Worlds.{HaveSameLeaves, IsWorldButBuffers}
use Rattle.hart_machine.specs.declared.machine.Machine.{Machine}
use Rattle.hart_machine.specs.declared.slot_process.SlotProcess.{SlotProcess}
use Rattle.hart_machine.proofs.AccessingPages.{has_copies}
use Rattle.hart_machine.proofs.AccessingWorlds.{bytes_change}
use Rattle.process_laws.proofs.Later.{later, lt_shift, reached_later, shifted}
use Rattle.hart_machine.proofs.HartSteps.{tenant_is}
use Rattle.hart_machine.proofs.HeldFrames.{free_is}
use Rattle.hart_machine.proofs.KeptTables.{same_tenant}
use Rattle.hart_machine.proofs.ServedProcesses.{only_reads}
use Rattle.hart_machine.proofs.ServedWorlds.{is_reached, reached_follows, reaches_not, unreached}

-- whose list of places is the same
same_slots : (m n : Machine) (w : World) → m.frames ≡ n.frames → m.kernel ≡ n.kernel → m.slots.items ≡ n.slots.items → m.files ≡ n.files → m.harts ≡ n.harts → m.policy ≡ n.policy → IsWorldButBuffers m w → IsWorldButBuffers n w
same_slots m n w frames kernel slots files harts ruled is = record {
  tables = is.tables;
  kernel = is.kernel;
  stacks = is.stacks;
  policy = sym ruled ∙ is.policy;
  scheme = rw (← kernel) is.scheme;
  schemes = is.schemes;
  few = is.few;
  frames = rw (← kernel) is.frames;
  invariant = rw (← frames, ← kernel, ← slots) is.invariant;
  of_kernel = rw (← kernel) is.of_kernel;
  places = rw (← slots) is.places;
  copies = is.copies;
  counted = is.counted;
  files = rw (← files) is.files;
  harts = rw (← harts) is.harts;
  hosted = rw (← harts, ← slots) is.hosted;
  alone = rw (← harts) is.alone;
  idle = rw (← harts) is.idle;
  local = rw (← harts) is.local;
}

-- a page is on the frame that it was on, where its leaf is the one that it had
same_on : (t u : Tables) → HaveSameLeaves t u → (n f : ℕ) → IsFrameOfPage u n f → IsFrameOfPage t n f
same_on t u same n f on = (on.0, sym (same (leaf_node n)) ∙ on.1, on.2)

-- no copy number is given twice: the counter only grows
module _ (a : Environment) (kind : Access) (g h : Progress) where
  same_progress : (x y : Progress) → ◌≡◌ {A = Result Progress Rule} (Ok x) (Ok y) → x ≡ y
  same_progress x y is = cc

  dry_grows : (page need : ℕ) (b : Bool) → unless_dry a kind page g need b ≡ Ok h → g.fresh ≤ h.fresh
  dry_grows page need true is = absurd (cc)
  dry_grows page need false is = let one = ap (λ (x : Progress). x.fresh) (same_progress _ h is) in omega (arith, one)

  resident_grows : (page : ℕ) (b : Bool) → unless_resident a kind page g b ≡ Ok h → g.fresh ≤ h.fresh
  resident_grows page true is = let one = ap (λ (x : Progress). x.fresh) (same_progress g h is) in omega (arith, one)
  resident_grows page false is = let need = need_at a kind page g.process in dry_grows page need (a.is_dry page (g.taken + need)) is

  reached_grows : (address : ℕ) → reached_in a kind g address ≡ Ok h → g.fresh ≤ h.fresh
  unfolding resident_at
  reached_grows address is = resident_grows (page_of address) (is_resident g.process kind (page_of address)) (reached_parts a kind g h address is).1

-- the access that a copy makes, as one that waits
abbrev pub request : Access → ℕ → Pending
request a address = record { access = a; address = address; width = 1; served = false }

module _ (m : Machine) (w : World) (is : IsWorldButBuffers m w) (h s : ℕ) (k : IsCaller m w h s) where
  abbrev pub Spot : Type 0
  Spot = Moment View PlainState (List File)

  abbrev pub tenant_at : Spot → SlotProcess
  tenant_at a = record { space = a.space; pending = None }

  abbrev pub machine_at : Spot → Machine
  machine_at a = record m { frames = a.store; slots = with_item m.slots s (Some (tenant_at a)); files = a.files }

  -- below these tables, each page with an old copy number is on the frame that it was on when the copy began
  abbrev pub AreOld : Tables → Process → Type 0
  AreOld t q = (n f : ℕ) (z : Page) → get q.settled n ≡ Some z → z.copy < w.counter → IsFrameOfPage t n f → IsFrameOfPage (is.tables s) n f

  -- the machine is in the world of some moment of a copy
  pub record IsCopied (a : Spot) (g : Progress) : Type 0 where
    pub world : IsWorldButBuffers (machine_at a) (with_progress w s g)
    pub old : AreOld (world.tables s) g.process

  -- a copy is under way: it has come so far, and the machine is in the world of that moment
  pub record IsUnderWay (a : Spot) (g : Progress) : Type 0 where
    pub world : IsWorldButBuffers (machine_at a) (with_progress w s g)
    pub left : a.store.free + g.taken ≡ m.frames.free
    pub quiet : g.process.pending ≡ None
    pub order : w.counter ≤ g.fresh
    pub old : AreOld (world.tables s) g.process

  module _ (a : Spot) (g : Progress) (v : IsWorldButBuffers (machine_at a) (with_progress w s g)) where
    -- the process has the tables that the world tells
    pub tenant_in : IsSlotProcess (tenant_at a) (v.tables s) g.process
    tenant_in =
        let in_slot = place_set_same w.slots s (Some g.process) (slice_get_within w.slots s (Some k.process) k.in_slot) in
        let place = place_set_same m.slots.items s (Some (tenant_at a)) (slice_get_within m.slots.items s (Some k.slot_process) k.place) in
        tenant_is (machine_at a) (with_progress w s g) v s (tenant_at a) g.process place in_slot

    -- what holds below some tables of the process holds below those
    pub old_in : (t : Tables) (q : Process) → IsSlotProcess (tenant_at a) t q → AreOld t g.process → AreOld (v.tables s) g.process
    old_in t q slot_process old n f z there below on =
        old n f z there below (same_on t (v.tables s) (same_tenant (tenant_at a) (tenant_at a) q g.process t (v.tables s) refl slot_process tenant_in) n f on)

  -- and it holds of a process that follows it
  old_follows : (v : View) (t u : Tables) (p q : Process) (low high : ℕ) → Follows v t u p q low high → w.counter ≤ low → AreOld t p → AreOld u q
  old_follows v t u p q low high follows order old n f z there below on = elim (follows.each n z there) [
    | inl kept ↦ let copy = kept.copy in old n f kept.before kept.settled (omega (arith, copy, below)) (kept.on f on)
    | inr new ↦ absurd (let given = new.given in omega (arith, given, below, order))
  ]

  module _ (a : Spot) (g : Progress) (u : IsUnderWay a g) where
    abbrev there : World
    there = with_progress w s g

    at : slice_get (slice_set w.slots s (Some g.process)) s ≡ Some (Some g.process)
    at = place_set_same w.slots s (Some g.process) (slice_get_within w.slots s (Some k.process) k.in_slot)

    placed : slice_get (slice_set m.slots.items s (Some (tenant_at a))) s ≡ Some (Some (tenant_at a))
    placed = place_set_same m.slots.items s (Some (tenant_at a)) (slice_get_within m.slots.items s (Some k.slot_process) k.place)

    abbrev caller : IsCaller (machine_at a) there h s
    caller = record {
      hart = k.hart;
      there = k.there;
      in_kernel = k.in_kernel;
      on = k.on;
      slot_process = tenant_at a;
      place = placed;
      process = g.process;
      in_slot = at;
      unserved = ap is_unserved_access u.quiet;
    }

    pub slot_process : IsSlotProcess (tenant_at a) (u.world.tables s) g.process
    slot_process = tenant_is (machine_at a) there u.world s (tenant_at a) g.process placed at

    others : (c : ℕ) → others_have there s c ≡ others_have w s c
    others c = rw (set-set w.slots s (Some g.process) None) refl

    -- frames that were taken are gone
    frees : free w ≡ free there + g.taken
    frees =
        let now = free_is (machine_at a) there u.world in
        let before = free_is m w is in
        let left = u.left in
        omega (arith, now, before, left)

    -- a page is reached

    module _ (b : Spot) (kind : Access) (address : ℕ) where
      -- the machine between, whose slot was set twice
      abbrev between : Machine
      between = record m { frames = b.store; slots = with_item (with_item m.slots s (Some (tenant_at a))) s (Some (tenant_at b)); files = a.files }

      abbrev waiting : Pending
      waiting = request kind address

      shift : (r : Result Progress Rule) → resident_at_address (environment_of there s) kind address (initial_progress there g.process) (rule_of g.process waiting) ≡ r → reached_in (environment_of w s) kind g address ≡ shifted g.taken r
      shift r e =
          reached_later (environment_of there s) (environment_of w s) refl others g.taken
          (λ page need. lt_shift (free there) need g.taken ∙ ap (λ n. nat_lt n (g.taken + need)) (sym frees)) g.process g.fresh kind address (copy_rule g.process.scheme (regions g.process) kind address)
          ∙ ap (shifted g.taken) (ap (resident_at_address (environment_of there s) kind address (initial_progress there g.process)) (sym (no_alignment g.process.scheme (regions g.process) kind address)) ∙ e)

      module _ (e : Reaches plain_store a b kind address (Ok tt)) where
        allowed : rule_of g.process waiting ≡ None
        allowed = no_alignment g.process.scheme (regions g.process) kind address ∙ by (copy_rule g.process.scheme (regions g.process) kind address) (e.ended (u.world.tables s) g.process slot_process.agrees)
          where
            by : (o : Option Rule) → IsEnd o served.Ready → o ≡ None
            by None told = refl
            by (Some rule) told = absurd (cc)

        can : CanMakeResident (body_in (tenant_at a)) (u.world.tables s) g.process kind (page_of address)
        can = can_reside (body_in (tenant_at a)) (u.world.tables s) g.process kind address 1 slot_process.agrees allowed

        has : HasServed (tenant_at a) (tenant_at b) (u.world.tables s) g.process waiting None a.files a.store b.store
        has =
            let r = e.ready refl (u.world.tables s) g.process can in
            record {
              allowed = allowed;
              tables = r.0;
              count = r.1;
              resides = r.2;
              counts = λ f n on told. r.3 f n on told tt;
              slot_process = λ fresh. record {
                agrees = agrees_pending _ _ _ _ _ (made_resident a.files fresh (is_shared_by r.1) g.process kind (page_of address)) (r.2.agrees fresh) None;
                framed = rw e.place.trapframe slot_process.framed;
                pending = refl;
                wide = tt;
              };
              enough = λ shared told. e.enough tt (u.world.tables s) g.process shared can told refl;
              free = λ shared told. e.free tt (u.world.tables s) g.process shared can told;
            }

        files_stay : b.files ≡ a.files
        files_stay = e.moves (λ x un. cc) (u.world.tables s) g.process slot_process.agrees ∙ only_reads a.files g.process (page_of address) (copy_rule g.process.scheme (regions g.process) kind address)

        pub reaches : (j : Progress) × (reached_in (environment_of w s) kind g address ≡ Ok j) × IsUnderWay b j
        reaches =
            let made = is_reached (machine_at a) there u.world h s false caller (tenant_at a) (tenant_at b) placed b.store e.keeps waiting None has in
            let i = made.0 in
            let j = later g.taken i in
            let reached_j = shift (Ok i) made.1 in
            let quiet : i.process.pending ≡ None = (reached_serves (environment_of w s) kind g j address reached_j).pending ∙ u.quiet in
            let gone = made.3 in
            let before = u.left in
            let world : IsWorldButBuffers (machine_at b) (with_progress w s j) = same_slots between (machine_at b) (with_progress w s j)
            refl refl (set-set m.slots.items s (Some (tenant_at a)) (Some (tenant_at b))) (sym files_stay) refl refl (same_world i quiet made.2) in
            let grown = reached_grows (environment_of w s) kind g j address reached_j in
            let began = u.order in
            let follows = reached_follows (machine_at a) there u.world h s false caller (tenant_at a) (tenant_at b) placed b.store e.keeps waiting None has in
            let old_then : AreOld has.tables i.process = λ n f z settled.
            old_follows _ (u.world.tables s) has.tables g.process _ g.fresh (g.fresh + 1) follows began u.old n f z (ap (λ (q : Process). get q.settled n) made.4 ∙ settled) in (
              j,
              reached_j,
              record {
                world = world;
                left = omega (arith, gone, before);
                quiet = quiet;
                order = omega (arith, grown, began);
                old = old_in b j world has.tables _ (has.slot_process g.fresh) old_then;
              },
            )
          where
            same_world : (i : Progress) → i.process.pending ≡ None → IsWorldButBuffers between (with_progress there s (record i { process = record i.process { pending = None } }))
                → IsWorldButBuffers between (with_progress w s i)
            same_world i quiet it =
                subst (λ (q : Process). IsWorldButBuffers between (with_progress w s (record i { process = q }))) (ap (λ (o : Option Pending). let q : Process = record i.process { pending = o } in q) (sym quiet))
                (subst (λ (ps : List (Option Process)). let v : World = record w { slots = ps; counter = i.fresh } in IsWorldButBuffers between v)
                (set-set w.slots s (Some g.process) (let q : Process = record i.process { pending = None } in Some q)) it)

      module _ (rule : Rule) (e : Reaches plain_store a b kind address (Err (Denied rule))) where
        must : MustEnd (tenant_at b) (u.world.tables s) g.process waiting a.store rule
        must = record {
          slot_process = record {
            agrees = e.whole rule refl (u.world.tables s) g.process slot_process.agrees;
            framed = rw e.place.trapframe slot_process.framed;
            pending = u.quiet;
            wide = subst HasPageBytes (sym u.quiet) tt;
          };
          why = by (copy_rule g.process.scheme (regions g.process) kind address) refl (e.ended (u.world.tables s) g.process slot_process.agrees);
        }
          where
            aligned : rule_of g.process waiting ≡ copy_rule g.process.scheme (regions g.process) kind address
            aligned = no_alignment g.process.scheme (regions g.process) kind address

            same_end : (r q : Rule) → served.Ended q ≡ served.Ended r → q ≡ r
            same_end r q same = cc

            by : (o : Option Rule) → copy_rule g.process.scheme (regions g.process) kind address ≡ o → IsEnd o (served.Ended rule)
                → (rule_of g.process waiting ≡ Some rule) ⊎ ((rule_of g.process waiting ≡ None) × (rule ≡ NoFrame) × WhenShared a.store (u.world.tables s) g.process waiting (λ need. a.store.free < need))
            by None none told =
                let dry = told rule refl in
                inr (
                  aligned ∙ none,
                  dry,
                  λ shared one. e.short tt (u.world.tables s) g.process shared (can_reside (body_in (tenant_at a)) (u.world.tables s) g.process kind address 1 slot_process.agrees (aligned ∙ none)) one
                      (ap served.Ended dry),
                )
            by (Some r) some told = inl (aligned ∙ some ∙ ap Some (sym (same_end r rule told)))

        pub stops : (reached_in (environment_of w s) kind g address ≡ Err rule) × IsCopied b g
        stops =
            let not = reaches_not (machine_at a) there u.world h s false caller (tenant_at a) (tenant_at b) placed b.store e.keeps waiting rule must in
            let still = unreached (machine_at a) there u.world h s false caller (tenant_at a) (tenant_at b) placed b.store e.keeps waiting rule must in
            let world : IsWorldButBuffers (machine_at b) there = same_slots between (machine_at b) there
            refl refl (set-set m.slots.items s (Some (tenant_at a)) (Some (tenant_at b))) (sym files_stop) refl refl still in
            (shift (Err rule) not, record { world = world; old = old_in b g world (u.world.tables s) g.process must.slot_process u.old })
          where
            files_stop : b.files ≡ a.files
            files_stop = e.moves (λ x un. cc) (u.world.tables s) g.process slot_process.agrees ∙ only_reads a.files g.process (page_of address) (copy_rule g.process.scheme (regions g.process) kind address)

    -- bytes are put into a page that was reached for a store

    module _ (d : Spot) (address : ℕ) (given : List ℕ) (x : Page) (settled : get g.process.settled (page_of address) ≡ Some x) (resident : is_resident g.process access.Store (page_of address) ≡ true)
        (allowed : copy_rule g.process.scheme (regions g.process) access.Store address ≡ None) (put : Puts plain_store a d address given) where
      abbrev after : Process
      after = with_page g.process (page_of address) (stored x (address % 4096) given)

      can_write : CanWrite (body_in (tenant_at a)) (u.world.tables s) g.process (page_of address) x
      can_write =
          let can = can_reside (body_in (tenant_at a)) (u.world.tables s) g.process access.Store address 1 slot_process.agrees (no_alignment g.process.scheme (regions g.process) access.Store address ∙ allowed) in
          let goes = ap (is_resident_page access.Store (region_on g.process (page_of address))) (sym settled) ∙ resident in
          record {
            read = record { agrees = slot_process.agrees; settled = settled };
            unmarked = is_not x.cow (and_parts (not x.cow) (x.dirty || not (keeps_stores (region_on g.process (page_of address)))) goes).0;
            region = can.region;
            in_region = can.in_region;
            writes = is_so (can.region).writes can.right;
          }
        where
          is_not : (b : Bool) → not b ≡ true → b ≡ false
          is_not true told = absurd (cc)
          is_not false told = refl

          is_so : (b : Bool) → not b ≡ false → b ≡ true
          is_so true told = refl
          is_so false told = absurd (cc)

      put_tenant : IsSlotProcess (tenant_at d) (u.world.tables s) after
      put_tenant = record {
        agrees = put.agrees (u.world.tables s) g.process x can_write;
        framed = rw put.trapframe slot_process.framed;
        pending = u.quiet;
        wide = subst HasPageBytes (sym u.quiet) tt;
      }

      abbrev put_between : Machine
      put_between = record m { frames = d.store; slots = with_item (with_item m.slots s (Some (tenant_at a))) s (Some (tenant_at d)); files = a.files }

      pub puts : IsUnderWay d (record g { process = after })
      puts =
          let copies = has_copies g.process (page_of address) x (stored x (address % 4096) given) settled refl in
          let changed = bytes_change (machine_at a) there u.world s (tenant_at a) (tenant_at d) g.process after placed at slot_process put_tenant d.store put.keeps copies refl in
          let free = put.free tt in
          let before = u.left in
          let world : IsWorldButBuffers (machine_at d) (with_progress w s (record g { process = after })) =
          same_slots put_between (machine_at d) (with_progress w s (record g { process = after })) refl refl (set-set m.slots.items s (Some (tenant_at a)) (Some (tenant_at d))) (sym put.files) refl refl
          (subst (λ (ps : List (Option Process)). let v : World = record w { slots = ps; counter = g.fresh } in IsWorldButBuffers put_between v) (set-set w.slots s (Some g.process) (Some after)) changed) in
          let old_then : AreOld (u.world.tables s) after = λ n f z there below on.
          let one = copies n z there in let copy = one.2 in u.old n f one.0 one.1 (omega (arith, copy, below)) on in
          record {
            world = world;
            left = omega (arith, free, before);
            quiet = u.quiet;
            order = u.order;
            old = old_in d (record g { process = after }) world (u.world.tables s) after put_tenant old_then;
          }
