-- Lemmas for the calls `user_access`: the model's answer to an access by its alignment and the outcome of its walk. It
-- faults, misaligned or without a leaf, and the space is the process that the model then has; or the walk is a leaf
-- (`granted`), and it loads or stores on the frame of that leaf.
use Rattle.std.proofs.Common.{◌≡◌, ℕ, ◌/◌, ◌%◌, ◌&&◌, ◌⊎◌, cond, not, Bool, true, false, None, Some, refl, ap, sym, subst, ◌∙◌, inl, inr}
use Rattle.std.proofs.lemmas.Bool.{eq-eqb, ne_eqb}
use Rattle.std.proofs.lemmas.Option.{same_Some}
use Rattle.frame_store.specs.View.{View}
use Rattle.process_model.specs.Bytes.{low_bytes}
use Rattle.process_model.specs.Insertion.{put_back}
use Rattle.process_model.specs.PageMap as pages
use Rattle.process_model.specs.Process.{Page, Process, regions, without_pending}
use Rattle.process_model.specs.Regions.{Region, copy_rule, is_guard_kind, lacks_right, right_rule}
use Rattle.process_model.specs.Residence.{access_answer, can_complete, loaded, region_on, stored, with_page}
use Rattle.process_model.specs.Service.{Answer, answered, AccessRequest, faulted, if_resident, if_settled, pending_of, unless_denied, user_access}
use Rattle.process_model.specs.declared.reply.ScalarReply.TheVariants.{Stored, Value}
use Rattle.process_model.specs.declared.reply.Reply.TheVariants.{Scalar}
use Rattle.sv39_entry.specs.Address.{page_of}
use Rattle.sv39_entry.specs.Causes.{misaligned_cause, page_fault_cause}
use Rattle.sv39_entry.specs.Frame.{frame_at, ppn_of}
use Rattle.sv39_entry.specs.declared.rule.Rule.TheVariants as rule
use Rattle.table_walk.specs.Memory.{physical_address}
use Rattle.sv39_entry.specs.declared.access.Access.TheVariants.{Fetch, Load, Store}
use Rattle.sv39_entry.specs.declared.access.Mode.TheVariants.{User}
use Rattle.sv39_entry.specs.declared.frame.FrameNo.{FrameNo}
use Rattle.table_walk.specs.Tables.{Tables}
use Rattle.table_walk.specs.declared.walk.Walk.{Walk}
use Rattle.table_walk.specs.declared.walk.Walk.TheVariants as walk
use Rattle.address_space.specs.Agreement.{body, IsSpace, IsFrameOfPage}
use Rattle.address_space.specs.Layouts.{Layout}
use Rattle.address_space.specs.Steps.{CanRead, CanWrite}
use Rattle.table_walk.specs.Leaves.{lands, walk_answer}
use Rattle.address_space.proofs.PendingAccess.{agrees_pending}
use Rattle.address_space.specs.ProcessLeaves.{frame_is}
use Rattle.address_space.proofs.Users.{rule_of_region, walked_by_user}

-- alignment

module _ (p : Process) (x : AccessRequest) where
  pub misaligned : (x.address % x.width ≡ 0 → ⊥) → user_access p x ≡ faulted p x (misaligned_cause x.access)
  misaligned apart = rw (ne_eqb (x.address % x.width) 0 apart) refl

  aligned : x.address % x.width ≡ 0 → user_access p x ≡ unless_denied p x (copy_rule p.scheme (regions p) x.access x.address)
  aligned is = rw (eq-eqb (x.address % x.width) 0 is) refl

  -- what an access comes to that goes through
  through : (s : Page) → copy_rule p.scheme (regions p) x.access x.address ≡ None → pages.get p.settled (page_of x.address) ≡ Some s → can_complete x.access (region_on p (page_of x.address)) s ≡ true
      → unless_denied p x (copy_rule p.scheme (regions p) x.access x.address) ≡ answered p x (access_answer x.access s (x.address % 4096) x.width x.value)
  through s granted is goes = ap (unless_denied p x) granted ∙ ap (if_settled p x) is ∙ ap (if_resident p x s) goes

-- faults

module _ (v : View) (root trapframe : ℕ) (l : Layout) (t : Tables) (p : Process) (agrees : IsSpace (body v root trapframe l) t p) (x : AccessRequest) where
  -- the space of a process that faults is as it was
  pub still_agrees : (cause : ℕ) → user_access p x ≡ faulted p x cause → IsSpace (body v root trapframe l) t (user_access p x).process
  still_agrees cause is = subst (λ (z : Answer). IsSpace (body v root trapframe l) t z.process) (sym is) (agrees_pending v root trapframe l t p agrees (Some (pending_of x)))

module _ (v : View) (root trapframe : ℕ) (l : Layout) (t : Tables) (p : Process) (agrees : IsSpace (body v root trapframe l) t p) (x : AccessRequest) (at : x.address % x.width ≡ 0) where
  pub faults : (cause : ℕ) → walk.PageFault cause ≡ walk_answer p.scheme t x.address x.access User → user_access p x ≡ faulted p x cause
  faults cause is = elim (walked_by_user v trapframe t p agrees.stands.shows x) [
    | inl goes ↦ absurd (let other = is ∙ goes.5 in cc)
    | inr fails ↦ let same : cause ≡ page_fault_cause x.access = cc in aligned p x at ∙ fails.1 ∙ ap (faulted p x) (sym same)
  ]

  pub no_access_fault : (cause : ℕ) → walk.AccessFault cause ≡ walk_answer p.scheme t x.address x.access User → ⊥
  no_access_fault cause is = elim (walked_by_user v trapframe t p agrees.stands.shows x) [
    | inl goes ↦ let other = is ∙ goes.5 in cc
    | inr fails ↦ let other = is ∙ fails.0 in cc
  ]

  pub fault_answer : (w : Walk) (cause : ℕ) → w ≡ walk_answer p.scheme t x.address x.access User → (w ≡ walk.PageFault cause) ⊎ (w ≡ walk.AccessFault cause) → user_access p x ≡ faulted p x cause
  fault_answer w cause walks (inl is) = faults cause (sym is ∙ walks)
  fault_answer w cause walks (inr is) = absurd (no_access_fault cause (sym is ∙ walks))

-- leaves

-- a page that lets a store through grants writing
grants : (r : Region) → cond (is_guard_kind r.kind) (Some rule.GuardPage) (cond (lacks_right Store (Some r)) (Some (right_rule Store)) None) ≡ None → r.writes ≡ true
grants r none = go (is_guard_kind r.kind) r.writes none where
  go : (g w : Bool) → cond g (Some rule.GuardPage) (cond (not w) (Some (right_rule Store)) None) ≡ None → w ≡ true
  go true w is = absurd (cc)
  go false false is = absurd (cc)
  go false true is = refl

no_mark : (m stored : Bool) → (not m && stored) ≡ true → m ≡ false
no_mark true stored is = absurd (cc)
no_mark false stored is = refl

-- the page that a granted access reads or writes, and its frame
pub record Granted (v : View) (root trapframe : ℕ) (l : Layout) (t : Tables) (p : Process) (x : AccessRequest) (address : ℕ) : Type 0 where
  pub page : Page
  pub frame : ℕ
  pub framed : frame_at (address / 4096) ≡ Some (record { 0 = frame })
  pub can : CanRead (body v root trapframe l) t p (page_of x.address) page
  pub on : IsFrameOfPage t (page_of x.address) frame
  pub answers : user_access p x ≡ answered p x (access_answer x.access page (x.address % 4096) x.width x.value)
  pub writes : x.access ≡ Store → CanWrite (body v root trapframe l) t p (page_of x.address) page

module _ (v : View) (root trapframe : ℕ) (l : Layout) (t : Tables) (p : Process) (agrees : IsSpace (body v root trapframe l) t p) (x : AccessRequest) (at : x.address % x.width ≡ 0) where
  pub granted : (word level address : ℕ) → walk.Leaf word level address ≡ walk_answer p.scheme t x.address x.access User → Granted v root trapframe l t p x address
  granted word level address is = elim (walked_by_user v trapframe t p agrees.stands.shows x) [
    | inr fails ↦ absurd (let other = is ∙ fails.0 in cc)
    | inl goes ↦
        let shown = goes.1 in
        let whole : walk.Leaf word level address ≡ walk.Leaf shown.leaf 0 (physical_address shown.leaf 0 x.address) = is ∙ goes.5 in
        let leads : address ≡ physical_address shown.leaf 0 x.address = cc in
        let lies : address / 4096 ≡ ppn_of shown.frame = ap (λ n. n / 4096) leads ∙ lands shown.leaf x.address ∙ shown.made.names in
        let can : CanRead (body v root trapframe l) t p (page_of x.address) goes.0 = record { agrees = agrees; settled = goes.2 } in
        record {
          page = goes.0;
          frame = shown.frame;
          framed = ap frame_at lies ∙ frame_is shown.frame shown.made.small;
          can = can;
          on = (shown.leaf, shown.mapped, shown.made.names);
          answers = aligned p x at ∙ through p x goes.0 goes.3 goes.2 goes.4;
          writes = λ store. record {
            read = can;
            unmarked = no_mark _ _ (ap (λ y. can_complete y (region_on p (page_of x.address)) goes.0) (sym store) ∙ goes.4);
            region = shown.region;
            in_region = shown.in_region;
            writes = grants shown.region (sym (ap (λ y. copy_rule p.scheme (regions p) y x.address) store ∙ rule_of_region p.scheme (regions p) Store x.address (agrees.stands.shows.low _ _ goes.2) shown.region shown.in_region) ∙ goes.3);
          };
        }
  ]

  module _ (address : ℕ) (g : Granted v root trapframe l t p x address) where
    pub on_frame : (f : FrameNo) → frame_at (address / 4096) ≡ Some f → IsFrameOfPage t (page_of x.address) f.0
    on_frame f is = subst (λ (n : ℕ). IsFrameOfPage t (page_of x.address) n) (ap (λ (y : FrameNo). y.0) (same_Some _ _ (sym g.framed ∙ is))) g.on

    pub answers_load : (x.access ≡ Fetch) ⊎ (x.access ≡ Load) → user_access p x ≡ record { reply = Scalar (Value (loaded g.page (x.address % 4096) x.width)); process = without_pending p }
    answers_load is = g.answers ∙ ap (answered p x) (loads is)
        ∙ ap (λ m. record { reply = Scalar (Value (loaded g.page (x.address % 4096) x.width)); process = without_pending (record p { settled = m }) }) (put_back p.settled (page_of x.address) g.page g.can.settled) where
          loads : (x.access ≡ Fetch) ⊎ (x.access ≡ Load) → access_answer x.access g.page (x.address % 4096) x.width x.value ≡ (Scalar (Value (loaded g.page (x.address % 4096) x.width)), g.page)
          loads (inl e) = ap (λ y. access_answer y g.page (x.address % 4096) x.width x.value) e
          loads (inr e) = ap (λ y. access_answer y g.page (x.address % 4096) x.width x.value) e

    pub answers_store : x.access ≡ Store
        → user_access p x ≡ record { reply = Scalar Stored; process = without_pending (with_page p (page_of x.address) (stored g.page (x.address % 4096) (low_bytes x.value x.width))) }
    answers_store is = g.answers ∙ ap (λ y. answered p x (access_answer y g.page (x.address % 4096) x.width x.value)) is
