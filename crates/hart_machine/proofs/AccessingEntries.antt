-- Lemmas on accesses by an entry of a hart's TLB: it matches if and only if the model's has the key; it answers as a walk by
-- a table that the phase allows does (`answer_is`), and in user mode by the process's table (`user_served`).
use Rattle.std.proofs.Common.{◌≡◌, ◌⊎◌, ℕ, ◌+◌, ◌*◌, ◌/◌, ◌^◌, ◌==◌, ◌&&◌, ◌||◌, get_or, Bool, true, false, List, Option, None, Some, option_map, map, refl, ap, sym, subst, ◌∙◌, inl, inr, arith, if◌then◌else◌}
use Rattle.std.specs.Prelude.{Contains, Err, IfOk, is_ok, IsOk, Ok, Result, slice_get}
use Rattle.std.proofs.lemmas.Bool.{eqb-true}
use Rattle.std.proofs.lemmas.Option.{get_or_from_slice_get, same_Some, slice_get-map, slice_get_within}
use Rattle.hart_tlb.specs.Entries.{is_match}
use Rattle.table_walk.specs.Leaves.{answer, leaf_at, walk_answer}
use Rattle.hart_tlb.specs.declared.entry.TlbEntry.{TlbEntry}
use Rattle.process_model.specs.Harts.{asid_of_slot, entry_serves, has_user_satp, is_key, present_asid}
use Rattle.process_model.specs.declared.config.Policy.{Policy}
use Rattle.process_model.specs.declared.config.Policy.TheVariants.{Asid, Full}
use Rattle.process_model.specs.declared.phase.Phase.{Phase}
use Rattle.process_model.specs.declared.phase.Phase.TheVariants as phase
use Rattle.sv39_entry.specs.Address.{page_of}
use Rattle.sv39_entry.specs.declared.access.Access.{Access}
use Rattle.sv39_entry.specs.declared.access.Mode.{Mode}
use Rattle.sv39_entry.specs.declared.scheme.Scheme.TheVariants.{Sv39, Sv48}
use Rattle.sv39_entry.specs.declared.scheme.Scheme.{Scheme}
use Rattle.table_walk.specs.Tables.{Tables}
use Rattle.table_walk.specs.declared.walk.Walk.{Walk}
use Rattle.hart_machine.specs.Harts.{hart_of, key_of}
use Rattle.hart_machine.specs.WalkEntries.{IsEntryOf}
use Rattle.hart_machine.specs.BufferEntries.{HasNoStaleMark, IsEntryByPhase, IsProcessEntry, IsCurrentEntry, IsEntryByAsid, may_have_kernel, may_have_process}
use Rattle.hart_machine.specs.Slots.{marks_of}
use Rattle.hart_machine.specs.Tables.{IsTranslated, MayAsk}
use Rattle.hart_machine.specs.declared.hart.Hart.{Hart}
use Rattle.hart_machine.specs.declared.slot_process.SlotProcess.{SlotProcess}

-- addresses of one page have one leaf
pub leaf_on_page : (scheme : Scheme) (t : Tables) (a : ℕ) → leaf_at scheme t (4096 * page_of a) ≡ leaf_at scheme t a
leaf_on_page Sv39 t a =
    let upper : 4096 * (a / 4096) / 2 ^ 38 ≡ a / 2 ^ 38 = omega arith in
    let page : 4096 * (a / 4096) / 4096 ≡ a / 4096 = omega arith in
    rw (upper, page) refl
leaf_on_page Sv48 t a =
    let upper : 4096 * (a / 4096) / 2 ^ 47 ≡ a / 2 ^ 47 = omega arith in
    let page : 4096 * (a / 4096) / 4096 ≡ a / 4096 = omega arith in
    rw (upper, page) refl

local_alone : (page asid global : Bool) → global ≡ false → (page && (asid || global)) ≡ (page && asid)
local_alone false asid global is = refl
local_alone true true global is = refl
local_alone true false global is = is

left_true : (a b : Bool) → (a && b) ≡ true → a ≡ true
left_true true b is = refl
left_true false b is = absurd (cc)

right_true : (a b : Bool) → (a && b) ≡ true → b ≡ true
right_true true b is = is
right_true false b is = absurd (cc)

-- the hart that was read is the one that is there
pub same_hart : (harts : List Hart) (h : ℕ) (x y : Hart) → y ≡ get_or harts h y → slice_get harts h ≡ Some x → y ≡ x
same_hart harts h x y read at = read ∙ get_or_from_slice_get harts h x y at

-- there is an entry with that number
pub entry_there : (x : Hart) (n : ℕ) (e : TlbEntry) → slice_get x.buffer n ≡ Some e → Contains x.buffer e
entry_there x n e there = (n, slice_get_within x.buffer n e there, get_or_from_slice_get x.buffer n e e there)

module _ (policy : Policy) (x : Hart) (local : (e : TlbEntry) → Contains x.buffer e → e.global ≡ false) (a n asid : ℕ) (tagged : asid ≡ present_asid policy (hart_of x)) where
  match_of : (o : Option TlbEntry) → slice_get x.buffer n ≡ o → is_match a asid o ≡ is_key (page_of a) asid (option_map key_of o)
  match_of None there = refl
  match_of (Some e) there = local_alone (e.page == page_of a) (e.asid == asid) e.global (local e (entry_there x n e there))

  -- an entry matches where the model's has the key
  pub match_is : is_match a asid (slice_get x.buffer n) ≡ entry_serves policy (hart_of x) a (Some n)
  match_is = match_of (slice_get x.buffer n) refl ∙ ap (is_key (page_of a) asid) (sym (slice_get-map key_of x.buffer n))
      ∙ ap (λ (i : ℕ). is_key (page_of a) i (slice_get (map key_of x.buffer) n)) tagged

-- the identifier in satp, and what a buffer may have then

other_has_kernel : (p : Phase) → has_user_satp p ≡ false → may_have_kernel p ≡ true
other_has_kernel phase.Idle e = refl
other_has_kernel phase.User e = absurd (cc)
other_has_kernel phase.Enter0 e = absurd (cc)
other_has_kernel phase.Enter1 e = absurd (cc)
other_has_kernel phase.Enter2 e = refl
other_has_kernel phase.Kernel e = refl
other_has_kernel phase.Leave1 e = refl
other_has_kernel phase.Leave2 e = absurd (cc)

user_has_own : (p : Phase) → has_user_satp p ≡ true → may_have_process p ≡ true
user_has_own phase.Idle e = absurd (cc)
user_has_own phase.User e = refl
user_has_own phase.Enter0 e = refl
user_has_own phase.Enter1 e = refl
user_has_own phase.Enter2 e = absurd (cc)
user_has_own phase.Kernel e = absurd (cc)
user_has_own phase.Leave1 e = absurd (cc)
user_has_own phase.Leave2 e = refl

-- it is the kernel's, or that of the hart's process
pub satp_is : (x : Hart) → (x.slot ≡ None → x.phase ≡ phase.Idle) → (asid : ℕ) → asid ≡ present_asid Asid (hart_of x)
    → ((has_user_satp x.phase ≡ false) × (asid ≡ 0)) ⊎ ((s : ℕ) × (has_user_satp x.phase ≡ true) × (x.slot ≡ Some s) × (asid ≡ s + 1))
satp_is x idle asid is = go (has_user_satp x.phase) refl x.slot refl is where
  go : (b : Bool) → has_user_satp x.phase ≡ b → (o : Option ℕ) → x.slot ≡ o → asid ≡ (if b then asid_of_slot o else 0)
      → ((has_user_satp x.phase ≡ false) × (asid ≡ 0)) ⊎ ((s : ℕ) × (has_user_satp x.phase ≡ true) × (x.slot ≡ Some s) × (asid ≡ s + 1))
  go false phased o on is = inl (phased, is)
  go true phased None on is = absurd (let never : has_user_satp phase.Idle ≡ true = ap has_user_satp (sym (idle on)) ∙ phased in cc)
  go true phased (Some s) on is = inr (s, phased, on, is)

-- and it answers what a walk does

module _ (scheme : Scheme) (a : ℕ) (access : Access) (mode : Mode) (z : Walk) where
  by_entry_of : (t : Tables) (asid : ℕ) (e : TlbEntry) → IsEntryOf scheme t asid e → e.page ≡ page_of a → z ≡ answer e.leaf a access mode → z ≡ walk_answer scheme t a access mode
  by_entry_of t asid e entry page answers = answers ∙ ap (λ l. answer l a access mode) (entry.leaf ∙ ap (λ (k : ℕ). leaf_at scheme t (4096 * k)) page ∙ leaf_on_page scheme t a)

  module _ (tables : ℕ → Tables) (kernel : Tables) (x : Hart) where
    by_fenced : (e : TlbEntry) → IsEntryByPhase scheme x tables kernel e → e.page ≡ page_of a → z ≡ answer e.leaf a access mode → IsTranslated scheme x tables kernel a access mode z
    by_fenced e (inl of_kernel) page answers = inl (of_kernel.0, by_entry_of kernel 0 e of_kernel.1 page answers)
    by_fenced e (inr own) page answers = inr (inl (own.0, own.1, own.2, by_entry_of (tables own.0) 0 e own.3 page answers))

    -- with address-space identifiers
    module _ (places : List (Option SlotProcess)) (clean : HasNoStaleMark x) (idle : x.slot ≡ None → x.phase ≡ phase.Idle) (hosted : (s : ℕ) → x.slot ≡ Some s → (y : SlotProcess) × (slice_get places s ≡ Some (Some y)))
        (ask : MayAsk scheme x a) (e : TlbEntry) (tagged : IsEntryByAsid scheme places x tables kernel e) (page : e.page ≡ page_of a) (answers : z ≡ answer e.leaf a access mode) where
      of_stale : (s : ℕ) → x.slot ≡ Some s → marks_of x.stale s ≡ true → IsTranslated scheme x tables kernel a access mode z
      of_stale s on stale = elim ask [
        | inl user ↦ absurd (apart user)
        | inr code ↦ inr (inr (apart, (code, e.leaf, tagged.code (page ∙ code), answers)))
      ] where
        apart : x.phase ≡ phase.User → ⊥
        apart user = let none = clean s user on in let both : true ≡ false = sym stale ∙ none in cc

      of_process : (s : ℕ) → has_user_satp x.phase ≡ true → x.slot ≡ Some s → IsProcessEntry scheme places x tables s e → IsTranslated scheme x tables kernel a access mode z
      of_process s user on (inl stale) = of_stale s on stale
      of_process s user on (inr (inl dead)) = absurd (let y = hosted s on in dead y.0 y.1)
      of_process s user on (inr (inr entry)) = inr (inl (s, user_has_own x.phase user, on, by_entry_of (tables s) (s + 1) e entry page answers))

      by_tagged : e.asid ≡ present_asid Asid (hart_of x) → IsTranslated scheme x tables kernel a access mode z
      by_tagged asid = elim (satp_is x idle e.asid asid) [
        | inl other ↦ elim tagged.whose [
          | inl of_kernel ↦ inl (other_has_kernel x.phase other.0, by_entry_of kernel 0 e of_kernel page answers)
          | inr own ↦ absurd (let own_asid = own.1 in let none = other.1 in omega (arith, own_asid, none))
        ]
        | inr user ↦ elim tagged.whose [
          | inl of_kernel ↦ absurd (let none = of_kernel.of_space in let some = user.3 in omega (arith, none, some))
          | inr own ↦
              let same : own.0 ≡ user.0 = (let first = own.1 in let second = user.3 in omega (arith, first, second)) in
              of_process user.0 user.1 user.2 (subst (λ (s : ℕ). IsProcessEntry scheme places x tables s e) same own.2)
        ]
      ]

    module _ (policy : Policy) (places : List (Option SlotProcess)) (clean : policy ≡ Asid → HasNoStaleMark x) (idle : x.slot ≡ None → x.phase ≡ phase.Idle)
        (hosted : (s : ℕ) → x.slot ≡ Some s → (y : SlotProcess) × (slice_get places s ≡ Some (Some y))) (ask : MayAsk scheme x a) where
      by_serving : (q : Policy) → policy ≡ q → (e : TlbEntry) → IsCurrentEntry scheme q places x tables kernel e → e.page ≡ page_of a → e.asid ≡ present_asid q (hart_of x) → z ≡ answer e.leaf a access mode → IsTranslated scheme x tables kernel a access mode z
      by_serving Full is e serves page asid answers = by_fenced e serves page answers
      by_serving Asid is e serves page asid answers = by_tagged places (clean is) idle hosted ask e serves page answers asid

      pub answer_is : (n asid : ℕ) → asid ≡ present_asid policy (hart_of x) → ((e : TlbEntry) → slice_get x.buffer n ≡ Some e → IsCurrentEntry scheme policy places x tables kernel e × (e.global ≡ false)) → is_match a asid (slice_get x.buffer n) ≡ true
          → ((e : TlbEntry) → slice_get x.buffer n ≡ Some e → z ≡ answer e.leaf a access mode) → IsTranslated scheme x tables kernel a access mode z
      answer_is n asid tagged serves matches answers = go (slice_get x.buffer n) refl matches where
        matched : (e : TlbEntry) → e.global ≡ false → is_match a asid (Some e) ≡ true → (e.page == page_of a && e.asid == asid) ≡ true
        matched e local is = sym (local_alone (e.page == page_of a) (e.asid == asid) e.global local) ∙ is

        go : (o : Option TlbEntry) → slice_get x.buffer n ≡ o → is_match a asid o ≡ true → IsTranslated scheme x tables kernel a access mode z
        go None there matches = absurd (cc)
        go (Some e) there matches =
            let s = serves e there in
            let both = matched e s.1 matches in
            by_serving policy refl e s.0 (eqb-true e.page (page_of a) (left_true (e.page == page_of a) _ both)) (eqb-true e.asid asid (right_true (e.page == page_of a) _ both) ∙ tagged) (answers e there)

-- the user's accesses are answered by the table of the process
pub user_served : (scheme : Scheme) (tables : ℕ → Tables) (kernel : Tables) (x : Hart) (s a : ℕ) (access : Access) (mode : Mode) (z : Walk) → x.phase ≡ phase.User → x.slot ≡ Some s → IsTranslated scheme x tables kernel a access mode z
    → z ≡ walk_answer scheme (tables s) a access mode
user_served scheme tables kernel x s a access mode z user on (inl of_kernel) = absurd (let never : may_have_kernel phase.User ≡ true = ap may_have_kernel (sym user) ∙ of_kernel.0 in cc)
user_served scheme tables kernel x s a access mode z user on (inr (inl own)) = own.3 ∙ ap (λ (k : ℕ). walk_answer scheme (tables k) a access mode) (same_Some own.0 s (sym own.2 ∙ on))
user_served scheme tables kernel x s a access mode z user on (inr (inr code)) = absurd (code.0 user)

-- a result that is told from an equation

pub ok_by : {A E : Type 0} (r : Result A E) (b : Bool) → (IsOk r → b ≡ true) × (b ≡ true → IsOk r) → is_ok r ≡ b
ok_by (Ok x) true told = refl
ok_by (Ok x) false told = sym (told.0 refl)
ok_by (Err e) true told = told.1 refl
ok_by (Err e) false told = refl

pub if_ok : {A E : Type 0} (r : Result A E) (P Q : A → Type 0) → IfOk r P → ((z : A) → IsOk r → P z → Q z) → IfOk r Q
if_ok (Ok x) P Q p gives = gives x refl p
if_ok (Err e) P Q p gives = tt
