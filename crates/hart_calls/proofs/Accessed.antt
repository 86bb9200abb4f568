-- Lemmas: a user access made at once, made after the service of its fault, or ended by a rule has the model's reply,
-- process, page reads and shortage (what it needed and did not get); when it is granted, the most frames that its page can
-- need, and that a width other than 1, 2, 4 or 8 is refused.
use Rattle.std.proofs.Common.{◌≡◌, ◌⊎◌, ap₂, ℕ, zero, suc, ◌+◌, ◌<◌, ◌≤◌, ◌%◌, ◌==◌, Bool, true, false, ◌&&◌, Option, None, Some, Result, Ok, Err, List, [], ◌++◌, length, refl, ap, sym, subst, ◌∙◌, arith, inl, inr}
use Rattle.std.specs.Prelude.{◌↔◌, if◌then◌else◌, is_some, option_to_list}
use Rattle.std.proofs.lemmas.Bool.{and_parts, eq-eqb}
use Rattle.std.proofs.lemmas.List.{append-nil}
use Rattle.address_space.specs.Accesses.{IsGranted}
use Rattle.address_space.specs.Agreement.{Body, IsSpace}
use Rattle.address_space.specs.Steps.{RunsDry}
use Rattle.fault_rules.proofs.Allowed.{denied_otherwise}
use Rattle.fault_rules.specs.MadeResident.{is_counted, is_shared_by, moves_for}
use Rattle.fault_rules.specs.Serves.{IsEnd, served_moves}
use Rattle.fault_rules.specs.declared.service.Served.{Served}
use Rattle.fault_rules.specs.declared.service.Served.TheVariants as served
use Rattle.frame_store.specs.View.{View}
use Rattle.hart_calls.specs.CallKinds.{IsAccess, IsAccessCall}
use Rattle.hart_calls.specs.CallResults.{address_of, at_stop, by_reply, IsModelResult, IsPlain}
use Rattle.hart_calls.specs.ShortageReports.{AccessDry, ReportsShortage}
use Rattle.hart_calls.specs.CallOutcomes.{access_if, access_reads, accessed, reads_of, refused_call, rule_for, served_access, service_result, CallOutcome, call_outcome, writes_of}
use Rattle.hart_calls.proofs.Alike.{made_alike}
use Rattle.hart_calls.specs.Shortages.{initial_progress, frames_at, CanBeShort, CanTakeFrames, nothing, call_environment, Shortage}
use Rattle.process_model.specs.Environment.{is_shared_by as shared_by, is_shared_page, need_at, Progress, resident_at_address, resident_at, unless_dry, unless_resident}
use Rattle.process_model.specs.Bytes.{is_width}
use Rattle.process_model.specs.Files.{File}
use Rattle.process_model.specs.Frames.{take_over_need, resident_need, resident_need_of, unless_through}
use Rattle.process_model.specs.PageMap.{get}
use Rattle.process_model.specs.PageMoves.{PageMove}
use Rattle.process_model.specs.Process.{Page, Process, regions}
use Rattle.process_model.proofs.ResidenceLaws.{made_settles, resident_again}
use Rattle.process_model.specs.Regions.{copy_rule, first_rule, Region}
use Rattle.process_model.specs.Residence.{access_answer, can_complete, is_resident, is_resident_page, made_resident, parts_from, region_on}
use Rattle.process_model.specs.Service.{AccessRequest, if_resident, if_settled, unless_denied, user_access}
use Rattle.process_model.specs.declared.call.Call.{Call}
use Rattle.process_model.specs.declared.call.Call.TheVariants as call
use Rattle.process_model.specs.declared.reply.Refusal.{Refusal}
use Rattle.process_model.specs.declared.reply.Refusal.TheVariants as refusal
use Rattle.process_model.specs.declared.reply.Reply.{Reply}
use Rattle.process_model.specs.declared.reply.ScalarReply.TheVariants as scalar
use Rattle.process_model.specs.declared.reply.Reply.TheVariants as reply
use Rattle.sv39_entry.specs.Address.{page_of}
use Rattle.sv39_entry.specs.declared.access.Access.{Access}
use Rattle.sv39_entry.specs.declared.access.Access.TheVariants as access
use Rattle.sv39_entry.specs.declared.rule.Rule.{Rule}
use Rattle.sv39_entry.specs.declared.rule.Rule.TheVariants as rule
use Rattle.sv39_entry.specs.declared.scheme.Scheme.{Scheme}
use Rattle.table_walk.specs.Tables.{Tables}

-- what a call that is an access says

record OfAccess (c : Call) (a : AccessRequest) : Type 0 where
  tells : (files : List File) (shortage : Shortage) (p : Process) → call_outcome files shortage 0 p c ≡ accessed files shortage p a
  reads : (files : List File) (shortage : Shortage) (p : Process) → reads_of files shortage p c ≡ access_reads files p a (is_width a.width)
  writes : (files : List File) (shortage : Shortage) (p : Process) → writes_of files shortage p c ≡ []
  address : address_of c ≡ a.address
  lacks : (files : List File) (p : Process) → CanTakeFrames files p a.access (page_of a.address) → CanBeShort files p c (frames_at (page_of a.address))
  dry : (files : List File) (p : Process) (v w : View) → AccessDry v w p a.access (page_of a.address) → ReportsShortage v w files p c (frames_at (page_of a.address))
  calm : (files : List File) (p : Process) (v w : View) → ReportsShortage v w files p c nothing

of_access : (c : Call) (a : AccessRequest) → IsAccess c a → OfAccess c a
of_access (call.Fetch address) a is = subst (λ (z : AccessRequest). OfAccess (call.Fetch address) z) (sym is) record {
  tells = λ files shortage p. refl;
  reads = λ files shortage p. refl;
  writes = λ files shortage p. refl;
  address = refl;
  lacks = λ files p may. (refl, may);
  dry = λ files p v w d. d;
  calm = λ files p v w. tt;
}
of_access (call.Load address width) a is = subst (λ (z : AccessRequest). OfAccess (call.Load address width) z) (sym is) record {
  tells = λ files shortage p. refl;
  reads = λ files shortage p. refl;
  writes = λ files shortage p. refl;
  address = refl;
  lacks = λ files p may. (refl, may);
  dry = λ files p v w d. d;
  calm = λ files p v w. tt;
}
of_access (call.Store address width value) a is = subst (λ (z : AccessRequest). OfAccess (call.Store address width value) z) (sym is) record {
  tells = λ files shortage p. refl;
  reads = λ files shortage p. refl;
  writes = λ files shortage p. refl;
  address = refl;
  lacks = λ files p may. (refl, may);
  dry = λ files p v w d. d;
  calm = λ files p v w. tt;
}
of_access (call.Exec image) a is = absurd is
of_access (call.Sbrk delta) a is = absurd is
of_access (call.Mmap len protection flags f) a is = absurd is
of_access (call.Munmap address len) a is = absurd is
of_access (call.CopyIn address count) a is = absurd is
of_access (call.CopyOut address bytes) a is = absurd is
of_access (call.Exit status) a is = absurd is
of_access (call.Fork list) a is = absurd is

-- a page that is resident is settled

resident_there : (kind : Access) (r : Option Region) (o : Option Page) → is_resident_page kind r o ≡ true → (s : Page) × (o ≡ Some s) × (can_complete kind r s ≡ true)
resident_there kind r None is = absurd (cc)
resident_there kind r (Some s) is = (s, refl, is)

answers_so : (kind : Access) (s : Page) (offset width value address : ℕ) → by_reply address (access_answer kind s offset width value).0 ≡ nothing
answers_so access.Fetch s offset width value address = refl
answers_so access.Load s offset width value address = refl
answers_so access.Store s offset width value address = refl

-- an access that no rule denies, and whose page is resident, wants nothing
settled_answers : (p : Process) (a : AccessRequest) (address : ℕ) (o : Option Rule) → o ≡ None → is_resident p a.access (page_of a.address) ≡ true → by_reply address (unless_denied p a o).reply ≡ nothing
settled_answers p a address (Some r) none resident = absurd (cc)
settled_answers p a address None none resident =
    let there = resident_there a.access (region_on p (page_of a.address)) (get p.settled (page_of a.address)) resident in
    ap (λ (o : Option Page). by_reply address (if_settled p a o).reply) there.1
    ∙ ap (λ (b : Bool). by_reply address (if_resident p a there.0 b).reply) there.2
    ∙ answers_so a.access there.0 (a.address % 4096) a.width a.value address

plain_so : (kind : Access) (s : Page) (offset width value : ℕ) → IsPlain (access_answer kind s offset width value).0
plain_so access.Fetch s offset width value = tt
plain_so access.Load s offset width value = tt
plain_so access.Store s offset width value = tt

settled_plain : (p : Process) (a : AccessRequest) (o : Option Rule) → o ≡ None → is_resident p a.access (page_of a.address) ≡ true → IsPlain (unless_denied p a o).reply
settled_plain p a (Some r) none resident = absurd (cc)
settled_plain p a None none resident =
    let there = resident_there a.access (region_on p (page_of a.address)) (get p.settled (page_of a.address)) resident in
    subst (λ (o : Option Page). IsPlain (if_settled p a o).reply) (sym there.1)
    (subst (λ (b : Bool). IsPlain (if_resident p a there.0 b).reply) (sym there.2) (plain_so a.access there.0 (a.address % 4096) a.width a.value))

-- what was served is nothing else

pub ready_served : (e : Refusal) → served.Ready ≡ served.Unserved e → ⊥
ready_served e is = cc

pub ended_served : (r : Rule) (e : Refusal) → served.Ended r ≡ served.Unserved e → ⊥
ended_served r e is = cc

-- a rule of the regions is no want of frames
otherwise : (r : Rule) (address : ℕ) → (r ≡ rule.NoFrame → ⊥) → at_stop r address ≡ nothing
otherwise rule.Misaligned address not = refl
otherwise rule.BeyondMax address not = refl
otherwise rule.KernelPage address not = refl
otherwise rule.GuardPage address not = refl
otherwise rule.NoRegion address not = refl
otherwise rule.NoRead address not = refl
otherwise rule.NoWrite address not = refl
otherwise rule.NoExec address not = refl
otherwise rule.NoFrame address not = absurd (not refl)

module _ (files : List File) (p : Process) (a : AccessRequest) where
  abbrev page : ℕ
  page = page_of a.address

  abbrev shortage : Shortage
  shortage = frames_at page

  abbrev pub q : Process
  q = made_resident files 0 (is_shared_page (call_environment files nothing) p page) p a.access page

  -- ---- how the model serves it

  at_once : rule_for p a ≡ None → is_resident p a.access page ≡ true → service_result files nothing p a ≡ Ok (initial_progress p)
  at_once none resident = ap (λ (o : Option Rule). resident_at_address (call_environment files nothing) a.access a.address (initial_progress p) o) none ∙ resident_again (call_environment files nothing) a.access page (initial_progress p) resident

  serves : rule_for p a ≡ None → is_resident p a.access page ≡ false → service_result files nothing p a ≡ Ok (record { process = q; fresh = 0 + 1; taken = 0 + need_at (call_environment files nothing) a.access page p })
  unfolding resident_at
  serves none not = ap (λ (o : Option Rule). resident_at_address (call_environment files nothing) a.access a.address (initial_progress p) o) none ∙ ap (λ (b : Bool). unless_resident (call_environment files nothing) a.access page (initial_progress p) b) not

  runs_dry : rule_for p a ≡ None → is_resident p a.access page ≡ false → service_result files shortage p a ≡ Err rule.NoFrame
  unfolding resident_at
  runs_dry none not =
      let need = need_at (call_environment files shortage) a.access page p in
      ap (λ (o : Option Rule). resident_at_address (call_environment files shortage) a.access a.address (initial_progress p) o) none
      ∙ ap (λ (b : Bool). unless_resident (call_environment files shortage) a.access page (initial_progress p) b) not
      ∙ ap (λ (b : Bool). unless_dry (call_environment files shortage) a.access page (initial_progress p) need b) (eq-eqb page page refl)

  denied : (w : Shortage) (r : Rule) → rule_for p a ≡ Some r → service_result files w p a ≡ Err r
  denied w r is = ap (λ (o : Option Rule). resident_at_address (call_environment files w) a.access a.address (initial_progress p) o) is

  -- ---- what it may take at most

  most_parts : (shared : Bool) (s : Page) → take_over_need (parts_from shared s) ≤ take_over_need (parts_from true s)
  most_parts true s = omega arith
  most_parts false s = elim s.cow as (λ b. take_over_need (b && false) ≤ take_over_need (b && true)) [ true ↦ omega arith | false ↦ omega arith ]

  most_through : (shared b : Bool) (s : Page) → unless_through (parts_from shared s) b ≤ unless_through (parts_from true s) b
  most_through shared true s = omega arith
  most_through shared false s = most_parts shared s

  most_of : (shared : Bool) (o : Option Page) → resident_need_of shared p a.access page o ≤ resident_need_of true p a.access page o
  most_of shared None = omega arith
  most_of shared (Some s) = most_through shared (can_complete a.access (region_on p page) s) s

  most_at : (shared : Bool) (o : Option Page) → get p.settled page ≡ o → resident_need_of shared p a.access page o ≤ need_at (call_environment files nothing) a.access page p
  most_at shared None there = subst (λ (z : Option Page). resident_need_of shared p a.access page None ≤ resident_need_of (shared_by (λ copy. true) z) p a.access page z) (sym there) (omega arith)
  most_at shared (Some s) there = subst (λ (z : Option Page). resident_need_of shared p a.access page (Some s) ≤ resident_need_of (shared_by (λ copy. true) z) p a.access page z) (sym there) (most_of shared (Some s))

  pub most : (shared : Bool) → resident_need shared p a.access page ≤ need_at (call_environment files nothing) a.access page p
  most shared = most_at shared (get p.settled page) refl

  -- ---- how it is found out

  pub granted : (leaf : Bool) → (a.address % a.width == 0 && leaf) ≡ true → ((leaf ≡ true) ↔ IsGranted p a.access a.address) → (rule_for p a ≡ None) × (is_resident p a.access page ≡ true)
  granted leaf both law =
      let parts = and_parts (a.address % a.width == 0) leaf both in
      let is = law.0 parts.1 in
      (ap (λ (b : Bool). if b then copy_rule p.scheme (regions p) a.access a.address else Some rule.Misaligned) parts.0 ∙ is.0, is.1)

  pub not_granted : (leaf : Bool) → (a.address % a.width == 0 && leaf) ≡ false → ((leaf ≡ true) ↔ IsGranted p a.access a.address) → rule_for p a ≡ None → is_resident p a.access page ≡ false
  not_granted leaf not law none = go (a.address % a.width == 0) refl (is_resident p a.access page) refl
    where
      go : (b : Bool) → (a.address % a.width == 0) ≡ b → (r : Bool) → is_resident p a.access page ≡ r → is_resident p a.access page ≡ false
      go false at r there = absurd (let misaligned = sym none ∙ ap (λ (z : Bool). if z then copy_rule p.scheme (regions p) a.access a.address else Some rule.Misaligned) at in cc)
      go true at true there =
          let copy = sym (ap (λ (z : Bool). if z then copy_rule p.scheme (regions p) a.access a.address else Some rule.Misaligned) at) ∙ none in
          let leafy = law.1 (copy, there) in
          absurd (let both = sym not ∙ ap₂ (λ (z w : Bool). z && w) at leafy in cc)
      go true at false there = there

  pub ready_none : IsEnd (rule_for p a) served.Ready → rule_for p a ≡ None
  ready_none end = go (rule_for p a) refl end
    where
      go : (o : Option Rule) → rule_for p a ≡ o → IsEnd o served.Ready → rule_for p a ≡ None
      go None at end = at
      go (Some r) at end = absurd (cc)

  pub ended_why : (r : Rule) → IsEnd (rule_for p a) (served.Ended r) → (rule_for p a ≡ Some r) ⊎ ((rule_for p a ≡ None) × (r ≡ rule.NoFrame))
  ended_why r end = go (rule_for p a) refl end
    where
      go : (o : Option Rule) → rule_for p a ≡ o → IsEnd o (served.Ended r) → (rule_for p a ≡ Some r) ⊎ ((rule_for p a ≡ None) × (r ≡ rule.NoFrame))
      go None at end = inr (at, end r refl)
      go (Some s) at end = let same : r ≡ s = cc in inl (at ∙ ap (λ (k : Rule). let o : Option Rule = Some k in o) (sym same))

  -- the process is in memory as the model tells, whatever count was read
  pub as_told : (y : Body) (u : Tables) (shared : Bool) → IsSpace y u (made_resident files 0 shared p a.access page) → IsSpace y u q
  as_told y u shared space = made_alike y u files 0 shared (is_shared_page (call_environment files nothing) p page) p a.access page space

  -- a width that there is not
  pub bad_width : (c : Call) → IsAccess c a → is_width a.width ≡ false → (x y : Body) (Became : List PageMove → Type 0) (Refused : List PageMove → ℕ → Refusal → Type 0) (Promised : ℕ → Type 0) → ((u : Tables) × IsSpace y u p) → Became [] → IsModelResult x y files Became Refused Promised p c nothing (reply.Scalar (scalar.Refused refusal.BadArgument))
  bad_width c is narrow x y Became Refused Promised space moves =
      let of = of_access c a is in
      let tells : call_outcome files nothing 0 p c ≡ refused_call files p refusal.BadArgument = of.tells files nothing p ∙ ap (λ (b : Bool). access_if files nothing p a b) narrow in
      let none : reads_of files nothing p c ++ writes_of files nothing p c ≡ [] =
      ap (λ (ms : List PageMove). ms ++ writes_of files nothing p c) (of.reads files nothing p ∙ ap (λ (b : Bool). access_reads files p a b) narrow) ∙ of.writes files nothing p in
      record {
        possible = tt;
        reply = sym (ap (λ (z : CallOutcome). z.reply) tells);
        space = (space.0, subst (λ (z : Process). IsSpace y space.0 z) (sym (ap (λ (z : CallOutcome). z.process) tells)) space.1);
        moves = subst Became (sym none) moves;
        lack = of.calm files p x.view y.view;
        request = tt;
      }

  -- a rule that denies the access isn't NoFrame
  pub not_dry : (r : Rule) → rule_for p a ≡ Some r → served.Ended r ≡ served.Ended rule.NoFrame → ⊥
  not_dry r by same = denied_otherwise p.scheme (regions p) a.access a.address a.width (by ∙ ap (λ (z : Served). Some (or_rule r z)) same)
    where
      or_rule : Rule → Served → Rule
      or_rule d (served.Ended z) = z
      or_rule d z = d

  module _ (c : Call) (is : IsAccess c a) (wide : is_width a.width ≡ true) (x y : Body) (Became : List PageMove → Type 0) (Refused : List PageMove → ℕ → Refusal → Type 0) (Promised : ℕ → Type 0) where
    abbrev of : OfAccess c a
    of = of_access c a is

    tells_by : (w : Shortage) (r : Result Progress Rule) → service_result files w p a ≡ r → call_outcome files w 0 p c ≡ served_access files p a r
    tells_by w r by = of.tells files w p ∙ ap (λ (b : Bool). access_if files w p a b) wide ∙ ap (λ (z : Result Progress Rule). served_access files p a z) by

    reads_by : (w : Shortage) → reads_of files w p c ++ writes_of files w p c ≡ served_moves files p page (rule_for p a)
    reads_by w =
        ap (λ (ms : List PageMove). ms ++ writes_of files w p c) (of.reads files w p ∙ ap (λ (b : Bool). access_reads files p a b) wide)
        ∙ ap (λ (ms : List PageMove). served_moves files p page (rule_for p a) ++ ms) (of.writes files w p)
        ∙ append-nil (served_moves files p page (rule_for p a))

    -- it goes on, by the process that its page is resident for
    goes_on : (g : Progress) → service_result files nothing p a ≡ Ok g → rule_for g.process a ≡ None → is_resident g.process a.access page ≡ true → (r : Reply) → r ≡ (user_access g.process a).reply
        → ((u : Tables) × IsSpace y u (user_access g.process a).process) → Became (served_moves files p page (rule_for p a)) → IsPlain r × IsModelResult x y files Became Refused Promised p c (by_reply (address_of c) r) r
    goes_on g by none resident r told_r space moves =
        let calm : by_reply (address_of c) r ≡ nothing = ap (by_reply (address_of c)) told_r ∙ settled_answers g.process a (address_of c) (rule_for g.process a) none resident in
        let tells = tells_by nothing (Ok g) by in (
          subst IsPlain (sym told_r) (settled_plain g.process a (rule_for g.process a) none resident),
          subst (λ (w : Shortage). IsModelResult x y files Became Refused Promised p c w r) (sym calm) record {
            possible = tt;
            reply = told_r ∙ sym (ap (λ (z : CallOutcome). z.reply) tells);
            space = (space.0, subst (λ (z : Process). IsSpace y space.0 z) (sym (ap (λ (z : CallOutcome). z.process) tells)) space.1);
            moves = subst Became (sym (reads_by nothing)) moves;
            lack = of.calm files p x.view y.view;
            request = tt;
          },
        )

    -- made at once
    pub made_at_once : rule_for p a ≡ None → is_resident p a.access page ≡ true → (r : Reply) → r ≡ (user_access p a).reply → ((u : Tables) × IsSpace y u (user_access p a).process) → Became []
        → IsPlain r × IsModelResult x y files Became Refused Promised p c (by_reply (address_of c) r) r
    made_at_once none resident r told_r space moves =
        let there = resident_there a.access (region_on p page) (get p.settled page) resident in
        goes_on (initial_progress p) (at_once none resident) none resident r told_r space (subst Became (sym (ap (served_moves files p page) none ∙ reads_none there.0 there.1)) moves)
      where
        reads_none : (s : Page) → get p.settled page ≡ Some s → served_moves files p page None ≡ []
        reads_none s at = ap (λ (o : Option Page). moves_for files (region_on p page) o page) at ∙ no_moves (region_on p page)
          where
            no_moves : (r : Option Region) → moves_for files r (Some s) page ≡ []
            no_moves None = refl
            no_moves (Some z) = refl

    -- the process then
    pub process_at_once : rule_for p a ≡ None → is_resident p a.access page ≡ true → (r : Reply) → r ≡ (user_access p a).reply → (user_access p a).process ≡ (call_outcome files (by_reply (address_of c) r) 0 p c).process
    process_at_once none resident r told_r =
        let calm : by_reply (address_of c) r ≡ nothing = ap (by_reply (address_of c)) told_r ∙ settled_answers p a (address_of c) (rule_for p a) none resident in
        sym (ap (λ (w : Shortage). (call_outcome files w 0 p c).process) calm ∙ ap (λ (z : CallOutcome). z.process) (tells_by nothing (Ok (initial_progress p)) (at_once none resident)))

    -- made after its page was made resident
    pub made_later : rule_for p a ≡ None → is_resident p a.access page ≡ false → (r : Reply) → r ≡ (user_access q a).reply → ((u : Tables) × IsSpace y u (user_access q a).process) → Became (served_moves files p page (rule_for p a))
        → IsPlain r × IsModelResult x y files Became Refused Promised p c (by_reply (address_of c) r) r
    made_later none not r told_r space moves =
        let change = made_settles files 0 (is_shared_page (call_environment files nothing) p page) a.access page p in
        goes_on (record { process = q; fresh = 0 + 1; taken = 0 + need_at (call_environment files nothing) a.access page p }) (serves none not)
        (ap₂ (λ (z : Scheme) (rs : List Region). first_rule z rs a.access a.address a.width) change.scheme change.regions ∙ none) change.resident r told_r space moves

    -- it ends the process by a rule of its regions
    pub ends_denied : (r : Rule) → rule_for p a ≡ Some r → ((u : Tables) × IsSpace y u p) → Became (served_moves files p page (rule_for p a)) → IsModelResult x y files Became Refused Promised p c (at_stop r (address_of c)) (reply.Scalar (scalar.Ended r))
    ends_denied r by space moves =
        let not : (r ≡ rule.NoFrame → ⊥) = λ same. denied_otherwise p.scheme (regions p) a.access a.address a.width (by ∙ ap Some same) in
        let tells = tells_by nothing (Err r) (denied nothing r by) in
        subst (λ (w : Shortage). IsModelResult x y files Became Refused Promised p c w (reply.Scalar (scalar.Ended r))) (sym (otherwise r (address_of c) not)) record {
          possible = tt;
          reply = sym (ap (λ (z : CallOutcome). z.reply) tells);
          space = (space.0, subst (λ (z : Process). IsSpace y space.0 z) (sym (ap (λ (z : CallOutcome). z.process) tells)) space.1);
          moves = subst Became (sym (reads_by nothing)) moves;
          lack = of.calm files p x.view y.view;
          request = tt;
        }

    -- it ends the process for want of frames
    ends_dry : rule_for p a ≡ None → is_resident p a.access page ≡ false → (count : Option ℕ) → is_some count ≡ is_counted a.access (get p.settled page) → RunsDry x.view y.view (resident_need (is_shared_by count) p a.access page) (option_to_list count) → ((u : Tables) × IsSpace y u p) → Became (served_moves files p page (rule_for p a))
        → IsModelResult x y files Became Refused Promised p c (at_stop rule.NoFrame (address_of c)) (reply.Scalar (scalar.Ended rule.NoFrame))
    ends_dry none not count was_counted dry space moves =
        let at : at_stop rule.NoFrame (address_of c) ≡ shortage = ap (λ (z : ℕ). frames_at (page_of z)) of.address in
        let tells = tells_by shortage (Err rule.NoFrame) (runs_dry none not) in
        let short = dry.short in
        let at_most = most (is_shared_by count) in
        let claims = dry.claims in
        subst (λ (w : Shortage). IsModelResult x y files Became Refused Promised p c w (reply.Scalar (scalar.Ended rule.NoFrame))) (sym at) record {
          possible = of.lacks files p (omega (arith, short, at_most));
          reply = sym (ap (λ (z : CallOutcome). z.reply) tells);
          space = (space.0, subst (λ (z : Process). IsSpace y space.0 z) (sym (ap (λ (z : CallOutcome). z.process) tells)) space.1);
          moves = subst Became (sym (reads_by shortage)) moves;
          lack = of.dry files p x.view y.view (count, was_counted, record { zeros = dry.zeros; short = dry.short; claims = omega (arith, claims); looks = dry.looks });
          request = tt;
        }

    -- it ends the process for want of frames, by that rule
    pub ends_dry_by : (r : Rule) → r ≡ rule.NoFrame → rule_for p a ≡ None → is_resident p a.access page ≡ false → (count : Option ℕ) → is_some count ≡ is_counted a.access (get p.settled page) → RunsDry x.view y.view (resident_need (is_shared_by count) p a.access page) (option_to_list count) → ((u : Tables) × IsSpace y u p) → Became (served_moves files p page (rule_for p a))
        → IsModelResult x y files Became Refused Promised p c (at_stop r (address_of c)) (reply.Scalar (scalar.Ended r))
    ends_dry_by r by none not count was_counted dry space moves = subst (λ (k : Rule). IsModelResult x y files Became Refused Promised p c (at_stop k (address_of c)) (reply.Scalar (scalar.Ended k))) (sym by) (ends_dry none not count was_counted dry space moves)

-- a page of a file that its service would read is one that the call reads
pub access_reads_file : (files : List File) (p : Process) (c : Call) (a : AccessRequest) → IsAccess c a → is_width a.width ≡ true → 0 < length (served_moves files p (page_of a.address) (rule_for p a)) → 0 < length (reads_of files nothing p c)
access_reads_file files p c a is wide some =
    let of = of_access c a is in
    subst (λ (ms : List PageMove). 0 < length ms) (sym (of.reads files nothing p ∙ ap (λ (b : Bool). access_reads files p a b) wide)) some

-- what is asked of memory is an access
pub is_access_call : (c : Call) (a : AccessRequest) → IsAccess c a → IsAccessCall c
is_access_call (call.Fetch address) a is = tt
is_access_call (call.Load address width) a is = tt
is_access_call (call.Store address width value) a is = tt
is_access_call (call.Exec image) a is = is
is_access_call (call.Sbrk delta) a is = is
is_access_call (call.Mmap len protection flags file) a is = is
is_access_call (call.Munmap address len) a is = is
is_access_call (call.CopyIn address count) a is = is
is_access_call (call.CopyOut address bytes) a is = is
is_access_call (call.Exit status) a is = is
is_access_call (call.Fork list) a is = is

-- an access of a width that there is asks for a byte
pub some_width : (w : ℕ) → is_width w ≡ true → 0 < w
some_width zero wide = absurd (cc)
some_width (suc w) wide = omega arith
