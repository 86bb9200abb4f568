-- Lemmas: a TLB entry goes by a PTE that a hart may hold, and keeps it no longer than a hart may: so what it answers is permitted.
use Rattle.std.proofs.Common.{◌≡◌, ◌⊎◌, ℕ, zero, suc, ◌+◌, ◌*◌, ◌/◌, ◌%◌, ◌^◌, ◌≤◌, ◌==◌, ◌&&◌, ◌||◌, not, Bool, true, false, is_some, refl, sym, ap, subst, ◌∙◌, inl, inr, arith, Option, None, Some, List, [], ◌∷◌, if◌then◌else◌}
use Rattle.std.proofs.lemmas.Bool.{and_from, cases_Bool, eq-eqb, eqb-true, false≢true, not_from_false}
use Rattle.std.proofs.lemmas.List.{take-append-drop}
use Rattle.std.proofs.lemmas.List.Elements.{Contains-append_cases, Contains-append_left, Contains-append_right, Contains-push_cases}
use Rattle.std.specs.List.{Contains}
use Rattle.std.specs.Prelude.{cond, drop, filter, remove, take}
use Rattle.sv39_entry.specs.Address.{has, page_of}
use Rattle.sv39_entry.specs.Causes.{page_fault_cause}
use Rattle.sv39_entry.specs.Satp.{asid, root_ppn}
use Rattle.sv39_entry.specs.Schemes.{is_canonical, of_scheme, top_level}
use Rattle.sv39_entry.specs.Word.{permits}
use Rattle.sv39_entry.specs.declared.access.Mode.{Mode}
use Rattle.sv39_entry.specs.declared.address.Va.{Va}
use Rattle.sv39_entry.specs.declared.entry.Kind.TheVariants.{Invalid, Leaf, Pointer}
use Rattle.sv39_entry.specs.declared.scheme.Scheme.{Scheme}
use Rattle.table_walk.specs.Leaves as leaves
use Rattle.table_walk.specs.Leaves.{answer}
use Rattle.table_walk.specs.Memory.{Memory, has_byte, physical_address}
use Rattle.table_walk.specs.Walk.{Finds}
use Rattle.table_walk.specs.declared.walk.Found.TheVariants as found
use Rattle.table_walk.proofs.Ways.{by_marks, marked_on}
use Rattle.walk_rules.specs.Kinds.{kind_in}
use Rattle.walk_rules.specs.declared.extensions.Extensions.{Extensions}
use Rattle.access_history.specs.Held.{IsCovered, IsHeld, IsInReach, IsInSpace, Read, has_global, page_bits, read_of}
use Rattle.access_history.specs.Held as held
use Rattle.access_history.specs.History.{First, memory_at, satp_at}
use Rattle.access_history.specs.Permits.{Past, Permits, Serves, memory_of, not_canonical, satp_of}
use Rattle.access_history.specs.declared.event.Event.{Event}
use Rattle.access_history.specs.declared.event.Event.TheVariants.{Store, WriteSatp, WritePmp, Fence}
use Rattle.access_history.specs.declared.outcome.Outcome.TheVariants.{Refused}
use Rattle.access_history.specs.declared.outcome.Request.{Request}
use Rattle.hart_tlb.specs.Entries.{is_in_reach, is_in_space, matches}
use Rattle.hart_tlb.specs.Outcome.{IsWalkResult, LeadsToWhole}
use Rattle.hart_tlb.specs.declared.entry.TlbEntry.{TlbEntry}
use Rattle.hart_tlb.proofs.Pages.{byte_on_page, finds_on_page}
use Rattle.history_laws.specs.PlainWalks.{IsPlain, extent_of, outcome_of}
use Rattle.history_laws.specs.TlbEntries.{IsFilled, Remains, TlbRuns, evicts, filled, fills, happens, removes, starts, stays}
use Rattle.history_laws.proofs.PlainEntries.{of_leaf, valid_v}
use Rattle.history_laws.proofs.PlainOutcomes.{end_of}
use Rattle.history_laws.proofs.PlainReads.{held_level, same_canonical, top_is, valid_global}
use Rattle.history_laws.proofs.PlainServing.{end_faults, is_denied, is_granted, left_of, right_of}

-- ---- what is covered is fenced

-- the page of an entry and an address of it are alike above the offset in a page of any size
covers_same : (level va page : ℕ) → level ≤ 3 → page ≡ va / 4096 → page * 4096 / 2 ^ (12 + 9 * level) ≡ va / 2 ^ (12 + 9 * level)
covers_same zero va page low is = omega (arith, is)
covers_same (suc zero) va page low is = omega (arith, is)
covers_same (suc (suc zero)) va page low is = omega (arith, is)
covers_same (suc (suc (suc zero))) va page low is = omega (arith, is)
covers_same (suc (suc (suc (suc n)))) va page low is = absurd (omega (arith, low))

-- the leaf that an entry records is that of a PTE
pub record IsLeafOf (leaf : leaves.Leaf) (r : Read) : Type 0 where
  pub level : leaf.level ≡ r.level
  pub low : leaf.level ≤ 3

abbrev LeafIs : Option leaves.Leaf → Read → Type 0
LeafIs None r = Unit {0}
LeafIs (Some leaf) r = IsLeafOf leaf r

-- an entry that was made by a PTE which a hart may hold
pub record IsMadeBy (va : ℕ) (e : TlbEntry) (r : Read) : Type 0 where
  pub page : e.page ≡ page_of va
  pub space : r.asid ≡ e.asid
  pub global : r.global ≡ false → e.global ≡ false
  pub leaf : LeafIs e.leaf r

in_space : (e : TlbEntry) (r : Read) (space : Option ℕ) → r.asid ≡ e.asid → (r.global ≡ false → e.global ≡ false) → IsInSpace space r
    → is_in_space space e ≡ true
in_space e r None same global is = refl
in_space e r (Some n) same global is = and_from (e.asid == n) (not e.global) (eq-eqb e.asid n (sym same ∙ is.0)) (not_from_false e.global (global is.1))

in_reach : (x : Extensions) (f : First) (va : ℕ) (h past : List Event) (r : Read) (page : ℕ) (a : Option Va) (leaf : Option leaves.Leaf) → page ≡ page_of va
    → LeafIs leaf r → IsInReach x f va a h r past → is_in_reach a page leaf ≡ true
in_reach x f va h past r page None leaf same of is = refl
in_reach x f va h past r page (Some a) None same of is = refl
in_reach x f va h past r page (Some a) (Some leaf) same of is =
    let bits : page_bits r.level ≡ 12 + 9 * leaf.level = ap page_bits (sym of.level) in
    let agree = subst (λ (n : ℕ). a.0 / 2 ^ n ≡ va / 2 ^ n) bits is.1 in
    eq-eqb (page * 4096 / 2 ^ (12 + 9 * leaf.level)) (a.0 / 2 ^ (12 + 9 * leaf.level)) (covers_same leaf.level va page of.low same ∙ sym agree)

covered_removes : (x : Extensions) (f : First) (va : ℕ) (h past : List Event) (e : TlbEntry) (r : Read) (event : Event) → IsMadeBy va e r
    → IsCovered x f va event h r past → removes event e ≡ true
covered_removes x f va h past e r (Store p i w) made covered = absurd covered
covered_removes x f va h past e r (WriteSatp w) made covered = absurd covered
covered_removes x f va h past e r (WritePmp n entry) made covered = absurd covered
covered_removes x f va h past e r (Fence a space) made covered = and_from (is_in_space space e) (is_in_reach a e.page e.leaf)
    (in_space e r space made.space made.global covered.0) (in_reach x f va h past r e.page a e.leaf made.page made.leaf covered.1)

-- so while the entry remains, a hart may hold its PTE
still_held : (x : Extensions) (f : First) (va : ℕ) (e : TlbEntry) (r : Read) (h past : List Event) → IsMadeBy va e r → Remains e h past
    → IsHeld x f va past r past → IsHeld x f va h r past
still_held x f va e r h past made filled was = was
still_held x f va e r h past made (stays {h = before} {event = event} rest none) was =
    held.stays (still_held x f va e r before past made rest was) (λ covered. false≢true (sym none ∙ covered_removes x f va before past e r event made covered))

-- memory loses no word
some_by : (b : Bool) (w : ℕ) (o : Option ℕ) → is_some o ≡ true → is_some (if b then Some w else o) ≡ true
some_by true w o is = refl
some_by false w o is = is

stays_there : (m : Memory) (event : Event) (h : List Event) (ppn index : ℕ) → is_some (memory_at m h ppn index) ≡ true
    → is_some (memory_at m (event ∷ h) ppn index) ≡ true
stays_there m (Store p i w) h ppn index is = some_by (ppn == p && index == i) w (memory_at m h ppn index) is
stays_there m (WriteSatp w) h ppn index is = is
stays_there m (WritePmp n e) h ppn index is = is
stays_there m (Fence a s) h ppn index is = is

still_there : (m : Memory) (e : TlbEntry) (h past : List Event) (ppn index : ℕ) → Remains e h past → is_some (memory_at m past ppn index) ≡ true
    → is_some (memory_at m h ppn index) ≡ true
still_there m e h past ppn index filled is = is
still_there m e h past ppn index (stays {h = before} {event = event} rest none) is =
    stays_there m event before ppn index (still_there m e before past ppn index rest is)

-- ---- one entry

module _ (x : Extensions) (p : Past) (q : Request) (mode : Mode) (s : Scheme) (plain : IsPlain x p q mode s) (address : ℕ) (past : List Event) (e : TlbEntry)
    (fill : IsFilled p.first s address e past) (remains : Remains e p.events past) (matched : matches q.va.0 (asid (satp_of p)) e ≡ true) where
  abbrev memory : Memory
  memory = memory_at p.first.memory past

  abbrev root : ℕ
  root = root_ppn (satp_at p.first.satp past)

  abbrev space : ℕ
  space = asid (satp_at p.first.satp past)

  for_page : e.page ≡ page_of q.va.0
  for_page = eqb-true e.page (page_of q.va.0) (left_of _ _ matched)

  same_page : page_of address ≡ page_of q.va.0
  same_page = sym fill.outcome.of_page ∙ for_page

  space_by : (r : Read) → IsMadeBy q.va.0 e r → (r.asid ≡ asid (satp_of p)) ⊎ (r.global ≡ true)
  space_by r made = elim (cases_Bool (e.asid == asid (satp_of p))) [
    | inl same ↦ inl (made.space ∙ eqb-true e.asid (asid (satp_of p)) same)
    | inr other ↦ elim (cases_Bool r.global) [
      | inl set ↦ inr set
      | inr clear ↦
          let none : (e.asid == asid (satp_of p) || e.global) ≡ false = rw (other, made.global clear) refl in
          absurd (false≢true (sym none ∙ right_of (e.page == page_of q.va.0) (e.asid == asid (satp_of p) || e.global) matched))
    ]
  ]

  -- a PTE that the walk of the fill read serves the access
  serves_still : (r : Read) → IsMadeBy q.va.0 e r → is_canonical s q.va.0 ≡ true → IsHeld x p.first q.va.0 past r past
      → (kind_in x r.level r.word ≡ Pointer → ⊥) → Serves x p q r
  serves_still r made canonical was last = record {
    since = past;
    held = still_held x p.first q.va.0 e r p.events past made remains was;
    present = (top_level s, top_is (satp_of p) s plain.scheme, same_canonical s q.va.0 ∙ canonical);
    space = space_by r made;
    last = last;
  }

  uncanonical : is_canonical s q.va.0 ≡ false → Permits x p q (Refused (page_fault_cause q.kind) None)
  uncanonical bad = not_canonical plain.access.whole plain.access.translated (top_is (satp_of p) s plain.scheme) (same_canonical s q.va.0 ∙ bad)

  -- an entry without a leaf
  none_answers : (is : e.leaf ≡ None) → e.global ≡ false → Finds s memory root q.va.0 found.NoLeaf → Permits x p q (Refused (page_fault_cause q.kind) None)
  none_answers is clear (inl bad) = uncanonical bad
  none_answers is clear (inr none) = elim (cases_Bool (is_canonical s q.va.0)) [
    | inr bad ↦ uncanonical bad
    | inl canonical ↦
        let end = end_of x plain.hart s memory root (page_of q.va.0) none in
        let was = held_level x plain.hart p.first plain.unprotected q.va.0 past s fill.scheme canonical end.level end.table end.word end.low end.way end.read in
        let r : Read = read_of end.level end.table end.word space (was.0 || has_global end.word) in
        let made : IsMadeBy q.va.0 e r = record {
          page = for_page;
          space = sym fill.outcome.of_space;
          global = λ c. clear;
          leaf = subst (λ (l : Option leaves.Leaf). LeafIs l r) (sym is) tt;
        } in
        end_faults x plain.hart p plain.unprotected q mode plain.access r (serves_still r made canonical was.1 end.last) end.no_leaf
  ]

  -- an entry with one
  leaf_answers : (leaf : leaves.Leaf) → e.leaf ≡ Some leaf → Finds s memory root q.va.0 (found.Leaf leaf.word leaf.level e.global)
      → has_byte (extent_of (memory_of p)) (physical_address leaf.word leaf.level q.va.0) ≡ true
      → Permits x p q (outcome_of (answer (Some leaf) q.va.0 q.kind mode))
  leaf_answers leaf is finds byte =
      let maps = finds.0.1 in
      let low = maps.reads.low in
      let levels = (of_scheme s).few_levels in
      let canonical = finds.0.0 in
      let was = held_level x plain.hart p.first plain.unprotected q.va.0 past s fill.scheme canonical leaf.level maps.reads.table leaf.word low maps.reads.way maps.reads.read in
      let r : Read = read_of leaf.level maps.reads.table leaf.word space (was.0 || has_global leaf.word) in
      let valid = valid_v leaf.word (λ other. let bad : Leaf ≡ Invalid = sym maps.kind ∙ other in cc) in
      let marks = marked_on s memory root (page_of q.va.0) leaf.level leaf.word was.0 maps.reads.table maps.reads.way maps.reads was.2 in
      let wide = by_marks s memory root (page_of q.va.0) leaf.level marks in
      let made : IsMadeBy q.va.0 e r = record {
        page = for_page;
        space = sym fill.outcome.of_space;
        global = λ clear. elim (cases_Bool e.global) [
          | inr none ↦ none
          | inl set ↦
              let same : (was.0 || has_global leaf.word) ≡ (was.0 || has leaf.word 5) = ap (λ (b : Bool). was.0 || b) (valid_global leaf.word valid) in
              absurd (false≢true (sym clear ∙ same ∙ wide.1 (finds.1.0 set)))
        ];
        leaf = subst (λ (l : Option leaves.Leaf). LeafIs l r) (sym is)
            (record { level = refl; low = omega (arith, low, levels) });
      } in
      let serves = serves_still r made canonical was.1
      (λ pointer. let bad : Leaf ≡ Pointer = sym (of_leaf x plain.hart.napot plain.hart.pbmt leaf.level leaf.word maps.kind) ∙ pointer in cc) in
      elim (cases_Bool (permits mode q.kind leaf.word)) [
        | inl right ↦ rw right
            (is_granted x plain.hart p plain.unprotected q mode plain.access r serves maps.kind maps.aligned (omega (arith, low, levels)) right byte)
        | inr denied ↦ rw denied
            (is_denied x plain.hart p plain.unprotected q mode plain.access r serves maps.kind maps.aligned (omega (arith, low, levels)) denied)
      ]

  by_leaf : (leaf : Option leaves.Leaf) → e.leaf ≡ leaf
      → IsWalkResult s memory (extent_of memory) root address leaf e.global → LeadsToWhole (extent_of (memory_of p)) q.va.0 leaf
      → Permits x p q (outcome_of (answer leaf q.va.0 q.kind mode))
  by_leaf None is shown whole = none_answers is shown.1 (finds_on_page address q.va.0 same_page s memory root found.NoLeaf shown.0)
  by_leaf (Some leaf) is shown whole =
      let pa : ℕ = physical_address leaf.word leaf.level address in
      let byte = still_there p.first.memory e p.events past (pa / 4096) (pa % 4096 / 8) remains shown.1 in
      leaf_answers leaf is (finds_on_page address q.va.0 same_page s memory root (found.Leaf leaf.word leaf.level e.global) shown.0)
      (byte_on_page address q.va.0 same_page (extent_of (memory_of p)) leaf.word leaf.level whole byte)

  pub entry_permitted : LeadsToWhole (extent_of (memory_of p)) q.va.0 e.leaf → Permits x p q (outcome_of (answer e.leaf q.va.0 q.kind mode))
  entry_permitted whole = by_leaf e.leaf refl fill.outcome.shown whole

-- ---- a whole buffer

from_not : (b : Bool) → not b ≡ true → b ≡ false
from_not true is = absurd (false≢true is)
from_not false is = refl

cons_cases : {X : Type 0} (x y : X) (xs : List X) → Contains (x ∷ xs) y → (x ≡ y) ⊎ Contains xs y
cons_cases x y xs has = elim (Contains-append_cases (x ∷ []) xs y has) [
  | inr later ↦ inr later
  | inl first ↦ elim (Contains-push_cases [] x y first) [
    | inl none ↦ absurd (let low = none.1 in omega (arith, low))
    | inr same ↦ inl same
  ]
]

filtered_by : {X : Type 0} (test : X → Bool) (x y : X) (xs : List X) (b : Bool) → test x ≡ b → Contains (cond b (x ∷ filter test xs) (filter test xs)) y
    → (Contains (filter test xs) y → Contains xs y × (test y ≡ true)) → Contains (x ∷ xs) y × (test y ≡ true)
filtered_by test x y xs true is has rest = elim (cons_cases x y (filter test xs) has) [
  | inl same ↦ ((0, omega arith, same), subst (λ z. test z ≡ true) same is)
  | inr later ↦ let old = rest later in (Contains-append_right (x ∷ []) xs y old.0, old.1)
]
filtered_by test x y xs false is has rest = let old = rest has in (Contains-append_right (x ∷ []) xs y old.0, old.1)

filtered : {X : Type 0} (test : X → Bool) (xs : List X) (y : X) → Contains (filter test xs) y → Contains xs y × (test y ≡ true)
filtered test [] y has = absurd (let low = has.1 in omega (arith, low))
filtered test (x ∷ xs) y has = filtered_by test x y xs (test x) refl has (filtered test xs y)

of_drop : {X : Type 0} (n : ℕ) (xs : List X) (y : X) → Contains (drop n xs) y → Contains xs y
of_drop n xs y has = subst (λ zs. Contains zs y) (take-append-drop n xs) (Contains-append_right (take n xs) (drop n xs) y has)

of_take : {X : Type 0} (n : ℕ) (xs : List X) (y : X) → Contains (take n xs) y → Contains xs y
of_take n xs y has = subst (λ zs. Contains zs y) (take-append-drop n xs) (Contains-append_left (take n xs) (drop n xs) y has)

of_remove : {X : Type 0} (n : ℕ) (xs : List X) (y : X) → Contains (remove xs n) y → Contains xs y
of_remove n xs y has = elim (Contains-append_cases (take n xs) (drop (suc n) xs) y has) [
  | inl before ↦ of_take n xs y before
  | inr after ↦ of_drop (suc n) xs y after
]

-- each entry of a TLB was filled at some moment, and remains since
pub was_filled : (f : First) (s : Scheme) (places : ℕ) (e : TlbEntry) (h : List Event) (es : List TlbEntry) → TlbRuns f s places h es → Contains es e
    → (address : ℕ) × (past : List Event) × IsFilled f s address e past × Remains e h past
was_filled f s places e h es starts has = absurd (let low = has.1 in omega (arith, low))
was_filled f s places e h es (fills {es = old} address run scheme fill) has = elim fill.either [
  | inl fault ↦ was_filled f s places e h old run (subst (λ zs. Contains zs e) (fill.adds_nothing fault) has)
  | inr new ↦
      let all = of_drop _ _ e (subst (λ zs. Contains zs e) (fill.adds new.0 new.1) has) in
      elim (Contains-push_cases old new.0 e all) [
        | inl before ↦ was_filled f s places e h old run before
        | inr same ↦ (address, h, subst (λ d. IsFilled f s address d h) same (record { scheme = scheme; outcome = new.1 }), filled)
      ]
]
was_filled f s places e h es (evicts {es = old} n run) has = was_filled f s places e h old run (of_remove n old e has)
was_filled f s places e h es (happens {h = before} {es = old} {event = event} run) has =
    let kept = filtered (λ d. not (removes event d)) old e has in
    let up = was_filled f s places e before old run kept.0 in
    (up.0, up.1, up.2, stays up.3 (from_not (removes event e) kept.1))
