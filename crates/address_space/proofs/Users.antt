-- Lemma `walked_by_user`: in a process in memory, the walk of a user access either ends at the leaf of a settled page (one
-- in memory), and then no rule denies the access and it completes; or it is a page fault, in the model too. Before it,
-- lemmas on addresses, rights of leaves, and the rule of a page that has a region.
use Rattle.std.proofs.Common.{◌≡◌, ℕ, ◌-◌, ◌/◌, ◌^◌, ◌<◌, ◌==◌, ◌&&◌, ◌||◌, Bool, not, true, false, Option, None, Some, refl, ap, sym, ◌∙◌, inl, inr, ◌⊎◌, arith, nat_le, List, [], ◌∷◌, cond, ◌≤◌}
use Rattle.std.proofs.lemmas.Bool.{cases_Bool, eqb-true, lt-leb, ne_eqb, or_cases}
use Rattle.std.proofs.lemmas.Option.{same_Some}
use Rattle.std.specs.FinMap.{get}
use Rattle.frame_store.specs.View.{View}
use Rattle.table_walk.specs.Leaves.{answer, leaf_at, page_leaf, walk_answer}
use Rattle.process_model.specs.PageMap as pages
use Rattle.process_model.specs.Process.{Page, Process, regions}
use Rattle.process_model.specs.Bytes.{first_true}
use Rattle.process_model.specs.Regions.{Region, copy_rule, copy_tests, fault_cause, is_guard_kind, is_shared_kind, lacks_right, region_at, right_rule}
use Rattle.process_model.specs.Residence.{can_complete, region_on}
use Rattle.process_model.specs.Service.{Answer, AccessRequest, faulted, if_resident, if_settled, unless_denied}
use Rattle.sv39_entry.specs.Address.{has, page_of}
use Rattle.sv39_entry.specs.Causes.{page_fault_cause}
use Rattle.sv39_entry.specs.Word.{permits}
use Rattle.sv39_entry.specs.declared.access.Access.{Access}
use Rattle.sv39_entry.specs.declared.access.Access.TheVariants.{Fetch, Load, Store}
use Rattle.sv39_entry.specs.declared.access.Mode.TheVariants.{User}
use Rattle.sv39_entry.specs.declared.rule.Rule.{Rule}
use Rattle.sv39_entry.specs.declared.rule.Rule.TheVariants as rule
use Rattle.sv39_entry.specs.Schemes.{trampoline_page, trapframe_page, maxva, is_canonical, low_canonical, of_scheme}
use Rattle.sv39_entry.specs.declared.scheme.Scheme.{Scheme}
use Rattle.sv39_entry.specs.declared.scheme.Scheme.TheVariants.{Sv39, Sv48}
use Rattle.table_walk.specs.Tables.{Tables, leaf_node, walk_leaf}
use Rattle.table_walk.specs.Memory.{physical_address}
use Rattle.table_walk.specs.declared.walk.Walk.TheVariants as walk
use Rattle.table_walk.specs.Nodes.{low_leaf}
use Rattle.address_space.specs.Agreement.{HasKernelLeaf, is_dirty_page, IsPageLeaf, IsShown, ShowsPages}

-- addresses

-- of two pages with one leaf number, of which one is up to the trampoline's and the other that of a canonical address, both
-- are one
same_page : (z : Scheme) (n a : ℕ) → n ≤ trampoline_page z → is_canonical z a ≡ true → walk_leaf z (page_of a) ≡ leaf_node n → page_of a ≡ n
same_page Sv39 n a low canonical same = elim (or_cases (a / 2 ^ 38 == 0) (a / 2 ^ 38 == 2 ^ 26 - 1) canonical) [
  | inl lower ↦ (let zero = eqb-true (a / 2 ^ 38) 0 lower in omega (arith, same, low, zero))
  | inr upper ↦ absurd (let ones = eqb-true (a / 2 ^ 38) (2 ^ 26 - 1) upper in omega (arith, same, low, ones))
]
same_page Sv48 n a low canonical same = elim (or_cases (a / 2 ^ 47 == 0) (a / 2 ^ 47 == 2 ^ 17 - 1) canonical) [
  | inl lower ↦ (let zero = eqb-true (a / 2 ^ 47) 0 lower in omega (arith, same, low, zero))
  | inr upper ↦ absurd (let ones = eqb-true (a / 2 ^ 47) (2 ^ 17 - 1) upper in omega (arith, same, low, ones))
]

-- rights

-- what the leaf of a page lets the user do
abbrev lets : Access → Region → Page → Bool
lets Fetch r s = not (is_guard_kind r.kind) && r.executes
lets Load r s = not (is_guard_kind r.kind) && r.reads
lets Store r s = not (is_guard_kind r.kind) && ((r.writes && not s.cow) && is_dirty_page r s)

fetch_bits : (g x : Bool) → (not g && (x && true)) ≡ (not g && x)
fetch_bits true x = refl
fetch_bits false true = refl
fetch_bits false false = refl

load_bits : (g r : Bool) → (not g && ((g || r) && true)) ≡ (not g && r)
load_bits true r = refl
load_bits false true = refl
load_bits false false = refl

store_bits : (g x d : Bool) → (not g && (x && true && d)) ≡ (not g && (x && d))
store_bits true x d = refl
store_bits false true true = refl
store_bits false true false = refl
store_bits false false d = refl

permits_is : (w f : ℕ) (r : Region) (s : Page) (access : Access) → IsPageLeaf w f r s.cow (is_dirty_page r s) → permits User access w ≡ lets access r s
permits_is w f r s Fetch made = rw (made.for_user, made.execute, made.accessed) (fetch_bits (is_guard_kind r.kind) r.executes)
permits_is w f r s Load made = rw (made.for_user, made.read, made.accessed) (load_bits (is_guard_kind r.kind) r.reads)
permits_is w f r s Store made = rw (made.for_user, made.write, made.accessed, made.dirty) (store_bits (is_guard_kind r.kind) (r.writes && not s.cow) (is_dirty_page r s))

-- the rule

-- each of some rules makes a page fault
abbrev FaultAlike : Access → List (Bool × Rule) → Type 0
FaultAlike access [] = Unit {0}
FaultAlike access (t ∷ tests) = (fault_cause access t.1 ≡ page_fault_cause access) × FaultAlike access tests

first_faults : (access : Access) (tests : List (Bool × Rule)) → FaultAlike access tests → (r : Rule) → first_true tests ≡ Some r → fault_cause access r ≡ page_fault_cause access
first_faults access [] all r is = absurd (cc)
first_faults access ((true, x) ∷ tests) all r is = ap (fault_cause access) (sym (same_Some x r is)) ∙ all.0
first_faults access ((false, x) ∷ tests) all r is = first_faults access tests all.1 r is

right_faults : (access : Access) → fault_cause access (right_rule access) ≡ page_fault_cause access
right_faults Fetch = refl
right_faults Load = refl
right_faults Store = refl

-- no rule of a copy is about alignment
copy_faults : (z : Scheme) (rs : List Region) (access : Access) (a : ℕ) (r : Rule) → copy_rule z rs access a ≡ Some r → fault_cause access r ≡ page_fault_cause access
copy_faults z rs access a r is = first_faults access (copy_tests z rs access a) (refl, (refl, (refl, (refl, (right_faults access, tt))))) r is

-- what is answered

module _ (p : Process) (x : AccessRequest) where
  abbrev rule_now : Option Rule
  rule_now = copy_rule p.scheme (regions p) x.access x.address

  abbrev failed : Answer
  failed = faulted p x (page_fault_cause x.access)

  by_rule : (r : Rule) → rule_now ≡ Some r → unless_denied p x rule_now ≡ failed
  by_rule r is = ap (unless_denied p x) is ∙ ap (faulted p x) (copy_faults p.scheme (regions p) x.access x.address r is)

  -- where what follows a grant is a fault, so is all
  by_rest : unless_denied p x None ≡ failed → unless_denied p x rule_now ≡ failed
  by_rest rest = go rule_now refl where
    go : (o : Option Rule) → rule_now ≡ o → unless_denied p x rule_now ≡ failed
    go None is = ap (unless_denied p x) is ∙ rest
    go (Some r) is = by_rule r is

  unsettled : pages.get p.settled (page_of x.address) ≡ None → unless_denied p x rule_now ≡ failed
  unsettled none = by_rest (ap (if_settled p x) none)

  marked : (s : Page) → pages.get p.settled (page_of x.address) ≡ Some s → can_complete x.access (region_on p (page_of x.address)) s ≡ false → unless_denied p x rule_now ≡ failed
  marked s is stops = by_rest (ap (if_settled p x) is ∙ ap (if_resident p x s) stops)

-- the rule of a page that has a region
module _ (z : Scheme) (rs : List Region) (access : Access) (a : ℕ) (low : page_of a < trapframe_page z) (r : Region) (at : region_at rs (page_of a) ≡ Some r) where
  below_max : nat_le (maxva z) a ≡ false
  below_max = lt-leb (maxva z) a (omega (arith, low, of_scheme z))

  no_trampoline : (page_of a == trampoline_page z) ≡ false
  no_trampoline = ne_eqb (page_of a) (trampoline_page z) (λ e. omega (arith, e, low, of_scheme z))

  no_trapframe : (page_of a == trapframe_page z) ≡ false
  no_trapframe = ne_eqb (page_of a) (trapframe_page z) (λ e. omega (arith, e, low))

  pub rule_of_region : copy_rule z rs access a ≡ cond (is_guard_kind r.kind) (Some rule.GuardPage) (cond (lacks_right access (Some r)) (Some (right_rule access)) None)
  rule_of_region = rw (below_max, no_trampoline, no_trapframe, at) refl

pass : (g x : Bool) → (not g && x) ≡ true → (g ≡ false) × (x ≡ true)
pass true x is = absurd (cc)
pass false x is = (refl, is)

stop : (g x : Bool) → (not g && x) ≡ false → (g ≡ true) ⊎ ((g ≡ false) × (x ≡ false))
stop true x is = inl refl
stop false x is = inr (refl, is)

-- a leaf that may be written and is dirty: the region grants writing, no copy-on-write mark, and the dirty mark where it is
-- wanted
pass_store : (writes mark stored shared : Bool) → ((writes && not mark) && ((stored || not shared) && writes)) ≡ true → (writes ≡ true) × ((not mark && (stored || not (writes && shared))) ≡ true)
pass_store true false true shared is = (refl, refl)
pass_store true false false true is = absurd (cc)
pass_store true false false false is = (refl, refl)
pass_store true true stored shared is = absurd (cc)
pass_store false mark stored shared is = absurd (cc)

stop_store : (writes mark stored shared : Bool) → ((writes && not mark) && ((stored || not shared) && writes)) ≡ false → (writes ≡ false) ⊎ ((not mark && (stored || not (writes && shared))) ≡ false)
stop_store true false true shared is = absurd (cc)
stop_store true false false true is = inr refl
stop_store true false false false is = absurd (cc)
stop_store true true stored shared is = inr refl
stop_store false mark stored shared is = inl refl

-- a leaf lets an access through where no rule denies it, and it goes through to the page
abbrev passes : Region → Access → Option Rule
passes r access = cond (is_guard_kind r.kind) (Some rule.GuardPage) (cond (lacks_right access (Some r)) (Some (right_rule access)) None)

let_through : (r : Region) (s : Page) (access : Access) → lets access r s ≡ true → (passes r access ≡ None) × (can_complete access (Some r) s ≡ true)
let_through r s Fetch is = let two = pass (is_guard_kind r.kind) r.executes is in (rw (two.0, two.1) refl, refl)
let_through r s Load is = let two = pass (is_guard_kind r.kind) r.reads is in (rw (two.0, two.1) refl, refl)
let_through r s Store is =
    let two = pass (is_guard_kind r.kind) ((r.writes && not s.cow) && is_dirty_page r s) is in
    let more = pass_store r.writes s.cow s.dirty (is_shared_kind r.kind) two.1 in
    (rw (two.0, more.0) refl, more.1)

held_back : (r : Region) (s : Page) (access : Access) → lets access r s ≡ false → ((x : Rule) × (passes r access ≡ Some x)) ⊎ (can_complete access (Some r) s ≡ false)
held_back r s Fetch is = elim (stop (is_guard_kind r.kind) r.executes is) [ inl guard ↦ inl (rule.GuardPage, rw guard refl) | inr two ↦ inl (rule.NoExec, rw (two.0, two.1) refl) ]
held_back r s Load is = elim (stop (is_guard_kind r.kind) r.reads is) [ inl guard ↦ inl (rule.GuardPage, rw guard refl) | inr two ↦ inl (rule.NoRead, rw (two.0, two.1) refl) ]
held_back r s Store is = elim (stop (is_guard_kind r.kind) ((r.writes && not s.cow) && is_dirty_page r s) is) [
  | inl guard ↦ inl (rule.GuardPage, rw guard refl)
  | inr two ↦ elim (stop_store r.writes s.cow s.dirty (is_shared_kind r.kind) two.1) [
    | inl none ↦ inl (rule.NoWrite, rw (two.0, none) refl)
    | inr stops ↦ inr stops
  ]
]

not_for_user : (w : ℕ) (access : Access) → has w 4 ≡ false → permits User access w ≡ false
not_for_user w access none = rw none refl

module _ (v : View) (trapframe : ℕ) (t : Tables) (p : Process) (shows : ShowsPages v trapframe t p) (x : AccessRequest) where
  abbrev a : ℕ
  a = x.address

  abbrev access : Access
  access = x.access

  abbrev fails : Type 0
  fails = (walk_answer p.scheme t a access User ≡ walk.PageFault (page_fault_cause access)) × (unless_denied p x (copy_rule p.scheme (regions p) access a) ≡ faulted p x (page_fault_cause access))

  abbrev goes : Type 0
  goes = (s : Page) × (shown : IsShown v t p (page_of a) s) × (pages.get p.settled (page_of a) ≡ Some s) × (copy_rule p.scheme (regions p) access a ≡ None) × (can_complete access (region_on p (page_of a)) s ≡ true)
      × (walk_answer p.scheme t a access User ≡ walk.Leaf shown.leaf 0 (physical_address shown.leaf 0 a))

  by_settled : (s : Page) → pages.get p.settled (page_of a) ≡ Some s → goes ⊎ fails
  by_settled s is =
      let shown : IsShown v t p (page_of a) s = shows.settled (page_of a) s is in
      let low : page_of a < (trapframe_page p.scheme) = shows.low (page_of a) s is in
      let number : walk_leaf p.scheme (page_of a) ≡ leaf_node (page_of a) = low_leaf p.scheme (page_of a) (omega (arith, low, of_scheme p.scheme)) in
      let leaf : leaf_at p.scheme t a ≡ Some (page_leaf shown.leaf) = rw (low_canonical p.scheme a (omega (arith, low, of_scheme p.scheme)), number, shown.mapped) refl in
      let answers : walk_answer p.scheme t a access User ≡ answer (Some (page_leaf shown.leaf)) a access User = ap (λ o. answer o a access User) leaf in
      let right = permits_is shown.leaf shown.frame shown.region s access shown.made in
      let through_is : (b : Bool) → can_complete access (Some shown.region) s ≡ b → can_complete access (region_on p (page_of a)) s ≡ b = λ b goes. ap (λ r. can_complete access r s) shown.in_region ∙ goes in
      let rule_is : copy_rule p.scheme (regions p) access a ≡ passes shown.region access = rule_of_region p.scheme (regions p) access a low shown.region shown.in_region in
      elim (cases_Bool (lets access shown.region s)) [
        | inl lets_it ↦
            let through = let_through shown.region s access lets_it in
            inl (s, shown, is, rule_is ∙ through.0, through_is true through.1, answers ∙ rw (right ∙ lets_it) refl)
        | inr denies ↦ inr (
          answers ∙ rw (right ∙ denies) refl,
          elim (held_back shown.region s access denies) [
            | inl denied ↦ by_rule p x denied.0 (rule_is ∙ denied.1)
            | inr stops ↦ marked p x s is (through_is false stops)
          ],
        )
      ]

  kernel_leaf : (page f rights w : ℕ) → HasKernelLeaf t page f rights → is_canonical p.scheme a ≡ true → get t.leaves (walk_leaf p.scheme (page_of a)) ≡ Some w → walk_leaf p.scheme (page_of a) ≡ leaf_node page
      → walk_answer p.scheme t a access User ≡ walk.PageFault (page_fault_cause access)
  kernel_leaf page f rights w leaf canonical at same =
      let is : w ≡ leaf.0 = same_Some w leaf.0 (sym at ∙ ap (get t.leaves) same ∙ leaf.1) in
      rw (canonical, at) (rw (not_for_user w access (ap (λ x. has x 4) is ∙ leaf.2.for_user)) refl)

  by_unsettled : pages.get p.settled (page_of a) ≡ None → goes ⊎ fails
  by_unsettled none = inr (
    elim (cases_Bool (is_canonical p.scheme a)) [
      | inr other ↦ rw other refl
      | inl canonical ↦ by_leaf canonical (get t.leaves (walk_leaf p.scheme (page_of a))) refl
    ],
    unsettled p x none,
  ) where
    by_leaf : is_canonical p.scheme a ≡ true → (o : Option ℕ) → get t.leaves (walk_leaf p.scheme (page_of a)) ≡ o → walk_answer p.scheme t a access User ≡ walk.PageFault (page_fault_cause access)
    by_leaf canonical None at = rw (canonical, at) refl
    by_leaf canonical (Some w) at = elim (shows.only _ w at) [
      | inl same ↦ kernel_leaf (trampoline_page p.scheme) 0 _ w shows.on_trampoline canonical at same
      | inr more ↦ elim more [
        | inl same ↦ kernel_leaf (trapframe_page p.scheme) trapframe _ w shows.on_trapframe canonical at same
        | inr page ↦ absurd (
            let low = shows.low page.0 page.1 page.3 in
            let is : page_of a ≡ page.0 = same_page p.scheme page.0 a (omega (arith, low, of_scheme p.scheme)) canonical page.2 in
            let found = sym none ∙ ap (pages.get p.settled) is ∙ page.3 in
            cc)
      ]
    ]

  pub walked_by_user : goes ⊎ fails
  walked_by_user = go (pages.get p.settled (page_of a)) refl where
    go : (o : Option Page) → pages.get p.settled (page_of a) ≡ o → goes ⊎ fails
    go None is = by_unsettled is
    go (Some s) is = by_settled s is
