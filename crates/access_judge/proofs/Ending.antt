-- Lemmas of the end of an access: the lists of `ends` and `says` are what `Ends` and `Says` tell.
use Rattle.std.proofs.Common.{◌≡◌, ◌⊎◌, ℕ, ◌&&◌, ◌||◌, not, Bool, true, false, Option, None, Some, List, [], ◌∷◌, ◌++◌, if◌then◌else◌, refl, sym, ◌∙◌, inl, inr, subst}
use Rattle.std.specs.List.{Contains}
use Rattle.std.specs.Prelude.{is_some}
use Rattle.std.proofs.lemmas.Bool.{false≢true, both_ways, cases_Bool, and_left, and_right, and_parts, and_from, and_cases, or_cases, or_left, or_right, not-true, not_from_false, false_from_ne_true, eqb-true, eq-eqb}
use Rattle.std.proofs.lemmas.List.Elements.{Contains-append_cases, Contains-append_left, Contains-append_right}
use Rattle.sv39_entry.specs.Causes.{access_fault_cause}
use Rattle.sv39_entry.specs.declared.access.Access.{Access}
use Rattle.sv39_entry.specs.declared.access.Access.TheVariants as access
use Rattle.sv39_entry.specs.declared.access.Mode.{Mode}
use Rattle.sv39_entry.specs.declared.entry.Kind.TheVariants.{Leaf}
use Rattle.walk_rules.specs.Addresses.{leads_to}
use Rattle.walk_rules.specs.Kinds.{kind_in, may_fault, may_update, memory_type}
use Rattle.walk_rules.specs.Pmp.{pmp_permits}
use Rattle.walk_rules.specs.Rights.{allows, has_ad}
use Rattle.walk_rules.specs.declared.extensions.Extensions.{Extensions}
use Rattle.walk_rules.specs.declared.memory_type.MemoryType.{MemoryType}
use Rattle.walk_rules.specs.declared.pmp.PmpEntry.{PmpEntry}
use Rattle.walk_rules.specs.declared.status.Privilege.{Privilege}
use Rattle.walk_rules.specs.declared.status.Privilege.TheVariants as privilege
use Rattle.access_history.specs.Held.{Read, read_of}
use Rattle.access_history.specs.History.{pmps_at}
use Rattle.access_history.specs.Permits.{Allows, Ends, MayFail, MayPass, MayUpdate, Past, Says, index_of, is_there, memory_of, place, privilege_of, update}
use Rattle.access_history.specs.Permits as permits
use Rattle.access_history.specs.declared.outcome.Outcome.{Outcome}
use Rattle.access_history.specs.declared.outcome.Outcome.TheVariants.{Refused}
use Rattle.access_history.specs.declared.outcome.Request.{Request}
use Rattle.access_history.specs.declared.outcome.Update.{Update}
use Rattle.access_judge.specs.Search.{access_fault, ends, ends_by, ends_of_type, faults_by, granted_if, is_kind, is_word, may_fail, may_pass, page_fault, refused_if, says, updates_by}
use Rattle.access_judge.proofs.Listed.{alone, either, guarded, past_guard}
use Rattle.access_judge.proofs.Parts.{IsAlike}
use Rattle.access_judge.proofs.SearchKinds.{is_same_kind, kind_is}
use Rattle.access_judge.proofs.SearchLists.{any_contains, any_from, contains_cases, contains_head, contains_later, contains_none}

word_is : (o : Option ℕ) (w : ℕ) → is_word o w ≡ true → o ≡ Some w
word_is None w is = absurd (false≢true is)
word_is (Some v) w is = let same = eqb-true v w is in cc

is_the_word : (o : Option ℕ) (w : ℕ) → o ≡ Some w → is_word o w ≡ true
is_the_word None w is = cc
is_the_word (Some v) w is = eq-eqb v w (cc)

pub nowhere : (o : Option ℕ) → not (is_some o) ≡ true → o ≡ None
nowhere None is = refl
nowhere (Some v) is = absurd (false≢true is)

pub is_nowhere : (o : Option ℕ) → o ≡ None → not (is_some o) ≡ true
is_nowhere None is = refl
is_nowhere (Some v) is = cc

-- ---- what PMP may say

pub pass_only : (p : Past) (m : Privilege) (a : Access) (pa width : ℕ) → may_pass p.first p.events m a pa width ≡ true → MayPass p m a pa width
pass_only p m a pa width may = any_from (λ (es : List PmpEntry). pmp_permits es m a pa width) (pmps_at p.first.pmp p.events) may

pub pass_each : (p : Past) (m : Privilege) (a : Access) (pa width : ℕ) → MayPass p m a pa width → may_pass p.first p.events m a pa width ≡ true
pass_each p m a pa width may = any_contains (λ (es : List PmpEntry). pmp_permits es m a pa width) (pmps_at p.first.pmp p.events) may.0 may.1 may.2

pub fail_only : (p : Past) (m : Privilege) (a : Access) (pa width : ℕ) → may_fail p.first p.events m a pa width ≡ true → MayFail p m a pa width
fail_only p m a pa width may =
    let at = any_from (λ (es : List PmpEntry). not (pmp_permits es m a pa width)) (pmps_at p.first.pmp p.events) may in
    (at.0, at.1, not-true (pmp_permits at.0 m a pa width) at.2)

pub fail_each : (p : Past) (m : Privilege) (a : Access) (pa width : ℕ) → MayFail p m a pa width → may_fail p.first p.events m a pa width ≡ true
fail_each p m a pa width may = any_contains (λ (es : List PmpEntry). not (pmp_permits es m a pa width)) (pmps_at p.first.pmp p.events) may.0 may.1
    (not_from_false (pmp_permits may.0 m a pa width) may.2)

module _ (p : Past) (q : Request) where
  -- ---- `ends`

  abbrev MayRefuse : ℕ → Type 0
  MayRefuse pa = (is_there p pa ≡ false) ⊎ MayFail p (privilege_of q) q.kind pa q.width

  abbrev passes : ℕ → Bool
  passes pa = is_there p pa && may_pass p.first p.events (privilege_of q) q.kind pa q.width

  abbrev fails : ℕ → Bool
  fails pa = not (is_there p pa) || may_fail p.first p.events (privilege_of q) q.kind pa q.width

  refuses : (pa : ℕ) → fails pa ≡ true → MayRefuse pa
  refuses pa may = elim (or_cases (not (is_there p pa)) (may_fail p.first p.events (privilege_of q) q.kind pa q.width) may) [
    | inl gone ↦ inl (not-true (is_there p pa) gone)
    | inr fail ↦ inr (fail_only p (privilege_of q) q.kind pa q.width fail)
  ]

  is_refused : (pa : ℕ) → MayRefuse pa → fails pa ≡ true
  is_refused pa (inl gone) = or_left (not (is_there p pa)) (may_fail p.first p.events (privilege_of q) q.kind pa q.width) (not_from_false (is_there p pa) gone)
  is_refused pa (inr fail) = or_right (not (is_there p pa)) (may_fail p.first p.events (privilege_of q) q.kind pa q.width) (
      fail_each p (privilege_of q) q.kind pa q.width fail)

  abbrev refusal : Option Update → Outcome
  refusal made = Refused (access_fault_cause q.kind) made

  refused_only : (pa : ℕ) (t : MemoryType) (u : Option Update) (o : Outcome) → Contains (refused_if (fails pa) q.kind u) o → Ends p q pa t u o
  refused_only pa t None o has =
      let at = guarded (fails pa) (refusal None ∷ []) o has in
      subst (λ (w : Outcome). Ends p q pa t None w) (alone (refusal None) o at.1) (permits.refused (inl refl) (refuses pa at.0))
  refused_only pa t (Some u) o has =
      let at = guarded (fails pa) (refusal (Some u) ∷ refusal None ∷ []) o has in
      elim (contains_cases (refusal (Some u)) o (refusal None ∷ []) at.1) [
        | inl same ↦ subst (λ (w : Outcome). Ends p q pa t (Some u) w) same (permits.refused (inl refl) (refuses pa at.0))
        | inr rest ↦ subst (λ (w : Outcome). Ends p q pa t (Some u) w) (alone (refusal None) o rest) (permits.refused (inr refl) (refuses pa at.0))
      ]

  refused_each : (pa : ℕ) (u made : Option Update) → (made ≡ u) ⊎ (made ≡ None) → fails pa ≡ true → Contains (refused_if (fails pa) q.kind u) (refusal made)
  refused_each pa None made which may =
      let nothing : None ≡ made = elim which [ inl same ↦ sym same | inr not_made ↦ sym not_made ] in
      let here = subst (λ (w : Option Update). Contains (refusal None ∷ []) (refusal w)) nothing (contains_head (refusal None) []) in
      past_guard (fails pa) (refusal None ∷ []) (refusal made) may here
  refused_each pa (Some u) made (inl same) may =
      let both = refusal (Some u) ∷ refusal None ∷ [] in
      let here = subst (λ (w : Option Update). Contains both (refusal w)) (sym same) (contains_head (refusal (Some u)) (refusal None ∷ [])) in
      past_guard (fails pa) both (refusal made) may here
  refused_each pa (Some u) made (inr not_made) may =
      let both = refusal (Some u) ∷ refusal None ∷ [] in
      let here = subst (λ (w : Option Update). Contains both (refusal w)) (sym not_made)
      (contains_later (refusal (Some u)) (refusal None) (refusal None ∷ []) (contains_head (refusal None) [])) in
      past_guard (fails pa) both (refusal made) may here

  pub ends_only : (pa : ℕ) (t : MemoryType) (u : Option Update) (o : Outcome) → Contains (ends p q pa t u) o → Ends p q pa t u o
  ends_only pa t u o has = elim (Contains-append_cases (granted_if (passes pa) pa t u) (refused_if (fails pa) q.kind u) o has) [
    | inl granted ↦
        let at = guarded (passes pa) _ o granted in
        let both = and_parts (is_there p pa) (may_pass p.first p.events (privilege_of q) q.kind pa q.width) at.0 in
        subst (λ (w : Outcome). Ends p q pa t u w) (alone _ o at.1) (permits.granted both.0 (pass_only p (privilege_of q) q.kind pa q.width both.1))
    | inr refused ↦ refused_only pa t u o refused
  ]

  pub ends_each : (pa : ℕ) (t : MemoryType) (u : Option Update) (o : Outcome) → Ends p q pa t u o → Contains (ends p q pa t u) o
  ends_each pa t u o (permits.granted there pass) =
      Contains-append_left (granted_if (passes pa) pa t u) (refused_if (fails pa) q.kind u) _ (
      past_guard (passes pa) _ _ (and_from _ _ there (pass_each p (privilege_of q) q.kind pa q.width pass)) (contains_head _ []))
  ends_each pa t u o (permits.refused {made = made} which why) =
      Contains-append_right (granted_if (passes pa) pa t u) (refused_if (fails pa) q.kind u) _ (refused_each pa u made which (is_refused pa why))

  type_only : (pa : ℕ) (type : Option MemoryType) (u : Option Update) (o : Outcome) → Contains (ends_of_type p q pa type u) o
      → (t : MemoryType) × (type ≡ Some t) × Ends p q pa t u o
  type_only pa None u o has = absurd (contains_none o has)
  type_only pa (Some t) u o has = (t, refl, ends_only pa t u o has)

  type_each : (pa : ℕ) (type : Option MemoryType) (t : MemoryType) (u : Option Update) (o : Outcome) → type ≡ Some t → Ends p q pa t u o
      → Contains (ends_of_type p q pa type u) o
  type_each pa None t u o is made = cc
  type_each pa (Some s) t u o is made =
      let same : t ≡ s = cc in
      ends_each pa s u o (subst (λ (w : MemoryType). Ends p q pa w u o) same made)

-- ---- `says`

module _ (x : Extensions) (p : Past) (q : Request) (m : Mode) (r : Read) where
  abbrev is_leaf : Bool
  is_leaf = is_kind (kind_in x r.level r.word) Leaf

  abbrev right : Bool
  right = allows q.status m q.kind r.level r.word

  abbrev same_word : Bool
  same_word = is_word (memory_of p r.table (index_of q r)) r.word

  abbrev may_store : Bool
  may_store = may_pass p.first p.events privilege.Supervisor access.Store (place q r) 8

  abbrev may_not_store : Bool
  may_not_store = may_fail p.first p.events privilege.Supervisor access.Store (place q r) 8

  abbrev by_update : List Outcome
  by_update = if may_store then ends_by p q r (Some (update q r)) else []

  abbrev by_fault : List Outcome
  by_fault = if may_not_store then access_fault q ∷ [] else []

  by_only : (u : Option Update) (o : Outcome) → Contains (ends_by p q r u) o
      → (t : MemoryType) × (memory_type r.word ≡ Some t) × Ends p q (leads_to r.level r.word q.va.0) t u o
  by_only u o has = type_only p q (leads_to r.level r.word q.va.0) (memory_type r.word) u o has

  by_each : (t : MemoryType) (u : Option Update) (o : Outcome) → memory_type r.word ≡ Some t → Ends p q (leads_to r.level r.word q.va.0) t u o
      → Contains (ends_by p q r u) o
  by_each t u o is made = type_each p q (leads_to r.level r.word q.va.0) (memory_type r.word) t u o is made

  updates_only : (o : Outcome) → Allows x q m r → has_ad q.kind r.word ≡ false → Contains (updates_by x p q r) o → Says x p q m r o
  updates_only o allowed clear has =
      let at = guarded (may_update x.ad && same_word) (by_update ++ by_fault) o has in
      let both = and_parts (may_update x.ad) same_word at.0 in
      let may : MayUpdate x p q r = record { clear = clear; scheme = both.0; unchanged = word_is (memory_of p r.table (index_of q r)) r.word both.1 } in
      elim (Contains-append_cases by_update by_fault o at.1) [
        | inl made ↦
            let done = guarded may_store (ends_by p q r (Some (update q r))) o made in
            let by = by_only (Some (update q r)) o done.1 in
            permits.updates allowed may (pass_only p privilege.Supervisor access.Store (place q r) 8 done.0) by.1 by.2
        | inr fault ↦
            let done = guarded may_not_store (access_fault q ∷ []) o fault in
            subst (λ (w : Outcome). Says x p q m r w) (alone (access_fault q) o done.1) (
            permits.update_refused allowed may (fail_only p privilege.Supervisor access.Store (place q r) 8 done.0))
      ]

  allowed_only : (o : Outcome) → Allows x q m r → Contains (if has_ad q.kind r.word then ends_by p q r None else faults_by x q ++ updates_by x p q r) o
      → Says x p q m r o
  allowed_only o allowed has = elim (either (has_ad q.kind r.word) (ends_by p q r None) (faults_by x q ++ updates_by x p q r) o has) [
    | inl ad ↦
        let by = by_only None o ad.1 in
        permits.ready allowed ad.0 by.1 by.2
    | inr clear ↦ elim (Contains-append_cases (faults_by x q) (updates_by x p q r) o clear.1) [
      | inl fault ↦
          let may = guarded (may_fault x.ad) (page_fault q ∷ []) o fault in
          subst (λ (w : Outcome). Says x p q m r w) (alone (page_fault q) o may.1) (permits.faults allowed clear.0 may.0)
      | inr made ↦ updates_only o allowed clear.0 made
    ]
  ]

  not_allowed : (is_leaf && right) ≡ false → Says x p q m r (page_fault q)
  not_allowed may_not = elim (cases_Bool is_leaf) [
    | inl leaf ↦ elim (and_cases is_leaf right may_not) [
      | inl no_leaf ↦ absurd (both_ways is_leaf no_leaf leaf)
      | inr no_right ↦ permits.no_right (kind_is (kind_in x r.level r.word) Leaf leaf) no_right
    ]
    | inr no_leaf ↦ permits.no_leaf (λ leaf. both_ways is_leaf no_leaf (is_same_kind (kind_in x r.level r.word) Leaf leaf))
  ]

  pub says_only : (o : Outcome) → Contains (says x p q m r) o → Says x p q m r o
  says_only o has = elim (either (is_leaf && right) (if has_ad q.kind r.word then ends_by p q r None else faults_by x q ++ updates_by x p q r) (page_fault q ∷ []) o has) [
    | inl may ↦
        let both = and_parts is_leaf right may.0 in
        allowed_only o (record { leaf = kind_is (kind_in x r.level r.word) Leaf both.0; right = both.1 }) may.1
    | inr may_not ↦ subst (λ (w : Outcome). Says x p q m r w) (alone (page_fault q) o may_not.1) (not_allowed may_not.0)
  ]

  in_not_allowed : (is_leaf && right) ≡ false → Contains (says x p q m r) (page_fault q)
  in_not_allowed may_not = rw may_not (contains_head (page_fault q) [])

  in_allowed : (o : Outcome) → Allows x q m r → Contains (if has_ad q.kind r.word then ends_by p q r None else faults_by x q ++ updates_by x p q r) o
      → Contains (says x p q m r) o
  in_allowed o allowed has =
      let both = and_from is_leaf right (is_same_kind (kind_in x r.level r.word) Leaf allowed.leaf) allowed.right in
      rw both has

  in_clear : (o : Outcome) → has_ad q.kind r.word ≡ false → Contains (faults_by x q ++ updates_by x p q r) o
      → Contains (if has_ad q.kind r.word then ends_by p q r None else faults_by x q ++ updates_by x p q r) o
  in_clear o clear has = rw clear has

  in_updates : (o : Outcome) → MayUpdate x p q r → Contains (by_update ++ by_fault) o → Contains (faults_by x q ++ updates_by x p q r) o
  in_updates o may has = Contains-append_right (faults_by x q) (updates_by x p q r) o (
      past_guard (may_update x.ad && same_word) (by_update ++ by_fault) o
      (and_from (may_update x.ad) same_word may.scheme (is_the_word (memory_of p r.table (index_of q r)) r.word may.unchanged)) has)

  pub says_each : (o : Outcome) → Says x p q m r o → Contains (says x p q m r) o
  says_each o (permits.no_leaf no_leaf) = in_not_allowed (and_left is_leaf right (false_from_ne_true is_leaf (λ leaf. no_leaf (kind_is (kind_in x r.level r.word) Leaf leaf))))
  says_each o (permits.no_right leaf no_right) = in_not_allowed (and_right is_leaf right no_right)
  says_each o (permits.ready {t = t} allowed ad type ends) = in_allowed o allowed (rw ad (by_each t None o type ends))
  says_each o (permits.faults allowed clear may) = in_allowed (page_fault q) allowed (in_clear (page_fault q) clear (
      Contains-append_left (faults_by x q) (updates_by x p q r) (page_fault q) (past_guard (may_fault x.ad) (page_fault q ∷ []) (page_fault q) may (contains_head (page_fault q) []))))
  says_each o (permits.updates {t = t} allowed may pass type ends) = in_allowed o allowed (in_clear o may.clear (in_updates o may (
      Contains-append_left by_update by_fault o (past_guard may_store (ends_by p q r (Some (update q r))) o (pass_each p privilege.Supervisor access.Store (place q r) 8 pass)
      (by_each t (Some (update q r)) o type ends)))))
  says_each o (permits.update_refused allowed may fail) = in_allowed (access_fault q) allowed (in_clear (access_fault q) may.clear (in_updates (access_fault q) may (
      Contains-append_right by_update by_fault (access_fault q) (past_guard may_not_store (access_fault q ∷ []) (access_fault q)
      (fail_each p privilege.Supervisor access.Store (place q r) 8 fail) (contains_head (access_fault q) [])))))

-- what a PTE says depends on its level, table and word alone
pub says_alike : (x : Extensions) (p : Past) (q : Request) (m : Mode) (a b : Read) → IsAlike a b → says x p q m a ≡ says x p q m b
says_alike x p q m a b alike =
    let by_level = subst (λ (n : ℕ). says x p q m (read_of a.level a.table a.word 0 false) ≡ says x p q m (read_of n a.table a.word 0 false)) alike.level refl in
    let by_table = subst (λ (n : ℕ). says x p q m (read_of b.level a.table a.word 0 false) ≡ says x p q m (read_of b.level n a.word 0 false)) alike.table refl in
    let by_word = subst (λ (n : ℕ). says x p q m (read_of b.level b.table a.word 0 false) ≡ says x p q m (read_of b.level b.table n 0 false)) alike.word refl in
    by_level ∙ by_table ∙ by_word
