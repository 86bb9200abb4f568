-- Lemmas on what `leaf_changes` reads of the process in a slot: settled pages (those in memory), copy-on-write marks (the
-- next store takes the page over), accesses that are granted, and whether residence (an access succeeds without a fault)
-- changed.
use Rattle.std.proofs.Common.{◌≡◌, ◌⊎◌, ◌↔◌, ℕ, Bool, true, false, ◌+◌, ◌<◌, ◌≤◌, inl, inr, refl, ap, subst, sym, ◌∙◌, arith, Option, None, Some}
use Rattle.std.specs.Prelude.{if◌then◌else◌, is_some, min, not, ◌&&◌}
use mathlib.Core.Bool.{beq}
use Rattle.std.proofs.lemmas.Bool.{and_parts, cases_eq, cases_lt, true≢false}
use Rattle.std.proofs.lemmas.Option.{same_Some}
use Rattle.address_space.specs.Accesses.{gives_leaf, IsGranted}
use Rattle.address_space.specs.SettledLists.{IsNextSettled, IsSettledPage}
use Rattle.address_space.specs.declared.settled_pages.SettledPage.{SettledPage}
use Rattle.address_space.specs.declared.space.Space.{Space}
use Rattle.frame_store.specs.View.{View}
use Rattle.process_model.specs.PageMap.{get}
use Rattle.process_model.specs.Process.{grants_write, Page, Process, regions}
use Rattle.process_model.specs.Regions.{copy_rule, first_rule, is_aligned}
use Rattle.process_model.specs.Residence.{is_resident}
use Rattle.sv39_entry.specs.Address.{page_of}
use Rattle.sv39_entry.specs.declared.access.Access.{Access}
use Rattle.sv39_entry.specs.declared.rule.Rule.{Rule}
use Rattle.sv39_entry.specs.declared.rule.Rule.TheVariants.{Misaligned}
use Rattle.sv39_entry.specs.Schemes.{trapframe_page}
use Rattle.table_walk.specs.Tables.{Tables}
use Rattle.table_walk.specs.declared.walk.Walk.{Walk}
use Rattle.table_walk.specs.declared.walk.Walk.TheVariants as walk
use Rattle.hart_machine.specs.Marks.{TellsResidence}
use Rattle.hart_machine.specs.declared.slot_process.SlotProcess.{SlotProcess}
use Rattle.hart_machine.proofs.Mapping.{same_space}

-- a process in its slot, with a space all of whose parts are those of its own
pub same_tenant : (x : SlotProcess) (z : Space View) → z.seat ≡ x.space.seat → z.root ≡ x.space.root → z.trapframe ≡ x.space.trapframe → z.layout ≡ x.space.layout
    → ◌≡◌ {A = SlotProcess} (record { space = z; pending = x.pending }) x
same_tenant x z seat root trapframe layout = λ i. record { space = same_space z x.space seat root trapframe layout i; pending = x.pending }

-- ---- settled pages

abbrev pub AreLow : Process → Type 0
AreLow p = (n : ℕ) (s : Page) → get p.settled n ≡ Some s → n < (trapframe_page p.scheme)

module _ (t : Tables) (p : Process) (first end last : ℕ) (is : last ≡ min end (trapframe_page p.scheme)) where
  pub some_settled : (o : Option SettledPage) → IsNextSettled t p first last o → is_some o ≡ true → (n : ℕ) × (s : Page) × (get p.settled n ≡ Some s) × (first ≤ n) × (n < end)
  some_settled None next some = absurd cc
  some_settled (Some x) next some = let before = next.1 in (x.page, (next.3).page, (next.3).settled, next.0, omega (arith, before, is))

  pub none_settled : AreLow p → (o : Option SettledPage) → IsNextSettled t p first last o → is_some o ≡ false → (n : ℕ) (s : Page) → get p.settled n ≡ Some s → first ≤ n → n < end → ⊥
  none_settled low (Some x) next none n s there from to = cc
  none_settled low None next none n s there from to =
      let below = low n s there in
      let within : n < last = omega (arith, below, to, is) in
      let nothing : ◌≡◌ {A = Option Page} None (Some s) = sym (next n from within) ∙ there in
      cc

-- ---- copy-on-write marks

-- of the pages below one, each that may be written has the mark
abbrev pub AreMarkedBelow : Process → ℕ → Type 0
AreMarkedBelow p first = (n : ℕ) (s : Page) → get p.settled n ≡ Some s → n < first → grants_write p n ≡ true → s.cow ≡ true

abbrev pub is_unmarked : Process → SettledPage → Bool
is_unmarked p x = not x.cow && grants_write p x.page

marked_or_not : (mark grants : Bool) → (not mark && grants) ≡ false → grants ≡ true → mark ≡ true
marked_or_not true grants none may = refl
marked_or_not false true none may = absurd cc
marked_or_not false false none may = absurd cc

clear_mark : (mark : Bool) → not mark ≡ true → mark ≡ false
clear_mark true is = absurd cc
clear_mark false is = refl

module _ (t : Tables) (p : Process) (first last : ℕ) where
  pub some_unmarked : (x : SettledPage) → IsNextSettled t p first last (Some x) → is_unmarked p x ≡ true
      → (n : ℕ) × (s : Page) × (get p.settled n ≡ Some s) × (grants_write p n ≡ true) × (s.cow ≡ false)
  some_unmarked x next is =
      let here : IsSettledPage t p x = next.3 in
      let parts = and_parts (not x.cow) (grants_write p x.page) is in
      (x.page, here.page, here.settled, parts.1, sym here.cow ∙ clear_mark x.cow parts.0)

  pub marked_further : (x : SettledPage) → IsNextSettled t p first last (Some x) → is_unmarked p x ≡ false → AreMarkedBelow p first → AreMarkedBelow p (x.page + 1)
  marked_further x next is before n s there less grants = elim (cases_lt n first) [
    | inl earlier ↦ before n s there earlier grants
    | inr from ↦ elim (cases_eq n x.page) [
      | inl same ↦
          let here : IsSettledPage t p x = next.3 in
          let page : here.page ≡ s = same_Some here.page s (sym here.settled ∙ sym (ap (get p.settled) same) ∙ there) in
          sym (ap (λ (z : Page). z.cow) page) ∙ sym here.cow ∙ marked_or_not x.cow (grants_write p x.page) is (sym (ap (grants_write p) same) ∙ grants)
      | inr apart ↦ absurd (
          let within : n < x.page = omega (arith, less, apart) in
          let nothing : ◌≡◌ {A = Option Page} None (Some s) = sym (next.2 n from within) ∙ there in
          cc)
    ]
  ]

  pub all_marked : AreLow p → last ≡ (trapframe_page p.scheme) → IsNextSettled t p first last None → AreMarkedBelow p first
      → (n : ℕ) (s : Page) → get p.settled n ≡ Some s → grants_write p n ≡ true → s.cow ≡ true
  all_marked low is none before n s there grants = elim (cases_lt n first) [
    | inl earlier ↦ before n s there earlier grants
    | inr from ↦ absurd (
        let below = low n s there in
        let within : n < last = omega (arith, below, is) in
        let nothing : ◌≡◌ {A = Option Page} None (Some s) = sym (none n from within) ∙ there in
        cc)
  ]

-- ---- granted accesses

-- a walk that is no leaf gives none
pub no_leaf : (z : Walk) → ((word level address : ℕ) → z ≡ walk.Leaf word level address → ⊥) → gives_leaf z ≡ true → ⊥
no_leaf (walk.Leaf word level address) none is = none word level address refl
no_leaf (walk.PageFault cause) none is = cc
no_leaf (walk.AccessFault cause) none is = cc

-- ---- residence

pub alike : (x y : Bool) → not (beq x y) ≡ false → x ≡ y
alike true true is = refl
alike true false is = absurd cc
alike false true is = absurd cc
alike false false is = refl

pub unlike : (x y : Bool) → not (beq x y) ≡ true → x ≡ y → ⊥
unlike true true is same = cc
unlike true false is same = cc
unlike false true is same = cc
unlike false false is same = cc

one_tells : (b d : Bool) (P Q : Type 0) → (b ≡ true) ↔ P → (d ≡ true) ↔ Q → (b ≡ d → ⊥) → (P × (Q → ⊥)) ⊎ ((P → ⊥) × Q)
one_tells true true P Q p q apart = absurd (apart refl)
one_tells true false P Q p q apart = inl (p.0 refl, λ is. let no = q.1 is in cc)
one_tells false true P Q p q apart = inr (λ is. let no = p.1 is in cc, q.0 refl)
one_tells false false P Q p q apart = absurd (apart refl)

module _ (p q : Process) (access : Access) (address : ℕ) (b c d e : Bool)
    (first : (b ≡ true) ↔ IsGranted p access address) (next : (c ≡ true) ↔ IsGranted p access (address + 4096))
    (first_after : (d ≡ true) ↔ IsGranted q access address) (next_after : (e ≡ true) ↔ IsGranted q access (address + 4096)) where
  -- what is granted of two pages before and after tells residence
  pub tells_residence : (flag : Bool) → (flag ≡ false → (b ≡ d) × (c ≡ e)) → (flag ≡ true → (b ≡ d → ⊥) ⊎ (c ≡ e → ⊥)) → TellsResidence flag p q access address
  tells_residence flag same apart = record {
    some = λ is. elim (apart is) [
      | inl at ↦ (address, one_tells b d (IsGranted p access address) (IsGranted q access address) first first_after at)
      | inr at ↦ (address + 4096, one_tells c e (IsGranted p access (address + 4096)) (IsGranted q access (address + 4096)) next next_after at)
    ];
    none = λ is a here granted. elim here [
      | inl at ↦ subst (IsGranted p access) (sym at) (first.0 ((same is).0 ∙ first_after.1 (subst (IsGranted q access) at granted)))
      | inr at ↦ subst (IsGranted p access) (sym at) (next.0 ((same is).1 ∙ next_after.1 (subst (IsGranted q access) at granted)))
    ];
  }

-- where the access is granted on both pages, neither becomes resident
pub none_gained : (p q : Process) (access : Access) (address : ℕ) → IsGranted p access address → IsGranted p access (address + 4096) → TellsResidence false p q access address
none_gained p q access address first next = record {
  some = λ is. absurd (true≢false (sym is));
  none = λ is a here granted. elim here [
    | inl at ↦ subst (IsGranted p access) (sym at) first
    | inr at ↦ subst (IsGranted p access) (sym at) next
  ];
}

-- ---- the service of a fault

copy_free : (b : Bool) (o : Option Rule) → (if b then o else Some Misaligned) ≡ None → o ≡ None
copy_free true o is = is
copy_free false o is = absurd cc

same_test : (a b : Bool) → (a ≡ true → b ≡ true) → (b ≡ true → a ≡ true) → a ≡ b
same_test true b to from = sym (to refl)
same_test false true to from = from refl
same_test false false to from = refl

-- where no rule denies an access, it is granted where its page is resident
pub no_rule_tells : (p : Process) (access : Access) (address width : ℕ) → first_rule p.scheme (regions p) access address width ≡ None
    → (b : Bool) → (b ≡ true) ↔ IsGranted p access address → b ≡ is_resident p access (page_of address)
no_rule_tells p access address width free b granted =
    let none = copy_free (is_aligned address width) (copy_rule p.scheme (regions p) access address) free in
    same_test b (is_resident p access (page_of address)) (λ is. (granted.0 is).1) (λ resident. granted.1 (none, resident))
