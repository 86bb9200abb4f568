-- The outcomes that the search gives are those that are permitted, if what it comes by is held, or may be stood at, and it comes by all of that.
use Rattle.std.proofs.Common.{◌≡◌, ◌⊎◌, ℕ, ◌+◌, ◌*◌, ◌/◌, ◌%◌, ◌==◌, ◌&&◌, ◌||◌, not, Bool, true, false, Option, None, Some, List, [], ◌∷◌, ◌++◌, ap, length, refl, sym, ◌∙◌, inl, inr, subst, arith}
use Rattle.std.specs.List.{Contains, flat_map, range_with_len}
use Rattle.std.specs.Prelude.{is_some}
use Rattle.std.proofs.Math.Nat.{div-add-mod, mul-mod_left}
use Rattle.std.proofs.lemmas.Bool.{both_ways, cases_Bool, and_parts, and_from, or_cases, or_left, or_right, not-true, not_from_false, eqb-true, eq-eqb}
use Rattle.std.proofs.lemmas.List.Elements.{Contains-append_cases, Contains-append_left, Contains-append_right}
use Rattle.sv39_entry.specs.Address.{page_of, vpn}
use Rattle.sv39_entry.specs.Causes.{misaligned_cause}
use Rattle.sv39_entry.specs.Satp.{asid}
use Rattle.sv39_entry.specs.declared.access.Access.TheVariants as access
use Rattle.sv39_entry.specs.declared.access.Mode.{Mode}
use Rattle.sv39_entry.specs.declared.entry.Kind.TheVariants.{Leaf, Pointer}
use Rattle.walk_rules.specs.Addresses.{is_canonical, top_of}
use Rattle.walk_rules.specs.Kinds.{is_napot, kind_in, may_update}
use Rattle.walk_rules.specs.declared.extensions.Extensions.{Extensions}
use Rattle.walk_rules.specs.declared.memory_type.MemoryType.TheVariants.{Pma}
use Rattle.walk_rules.specs.declared.status.Privilege.TheVariants as privilege
use Rattle.access_history.specs.Held.{IsHeld, IsPlace, IsUpdate, Read, with_word}
use Rattle.access_history.specs.History.{First, IsPast}
use Rattle.access_history.specs.History as history
use Rattle.access_history.specs.Permits.{Ends, IsMultiple, MayFail, MayStandAt, Past, Permits, Says, Serves, index_of, memory_of, mode_of, place, satp_of}
use Rattle.access_history.specs.Permits as permits
use Rattle.access_history.specs.declared.event.Event.{Event}
use Rattle.access_history.specs.declared.event.Event.TheVariants.{Store}
use Rattle.access_history.specs.declared.outcome.Outcome.{Outcome}
use Rattle.access_history.specs.declared.outcome.Outcome.TheVariants.{Refused}
use Rattle.access_history.specs.declared.outcome.Request.{Request}
use Rattle.access_history.proofs.Updates.{leaf_now}
use Rattle.access_judge.specs.Search.{AreUses, ArePermitted, Found, IsUnfenced, Item, SearchIsExact, Stand, Use, access_fault, ended, is_fenced, is_kind, is_multiple, is_of_group, is_of_now, is_translated_in, is_unread, may_fail, outcomes_by, outcomes_in, page_fault, place_at, place_says, places_say, said, says, search_all, stands_now, stood, translated, until, update_says, updated_says, updated_words, versions}
use Rattle.access_judge.proofs.Ending.{ends_each, ends_only, fail_each, fail_only, is_nowhere, nowhere, says_alike, says_each, says_only}
use Rattle.access_judge.proofs.Listed.{alone, either, guarded, past_guard}
use Rattle.access_judge.proofs.Moments.{past_between, past_length, past_trans, until_length, until_past}
use Rattle.access_judge.proofs.Parts.{EndedEach, EndedOnly, IsAlike, IsUpdated, StoodEach, StoodOnly}
use Rattle.access_judge.proofs.SearchKinds.{is_same_kind, kind_is, translated_from, translated_in}
use Rattle.access_judge.proofs.SearchLists.{contains_head, flat_contains, flat_from, range_contains, range_low}
use Rattle.access_judge.proofs.UpdatedReads.{held_updated}
use Rattle.access_judge.proofs.UpdatedWords.{of_update, update_of}

-- ---- multiples

pub multiple_only : (va width : ℕ) → is_multiple va width ≡ true → IsMultiple va width
multiple_only va width is =
    let rest = eqb-true (va % width) 0 is in
    let whole = div-add-mod va width in
    (va / width, omega (arith, rest, whole))

pub multiple_each : (va width : ℕ) → IsMultiple va width → is_multiple va width ≡ true
multiple_each va width is =
    let rest : va % width ≡ 0 = subst (λ (a : ℕ). a % width ≡ 0) (sym is.1) (mul-mod_left is.0 width) in
    eq-eqb (va % width) 0 rest

module _ (x : Extensions) (p : Past) (us : List Use) (q : Request)
    (ended_only : EndedOnly x p.first p.events us q.va.0) (ended_each : EndedEach x p.first p.events us q.va.0)
    (stood_only : StoodOnly x p us q) (stood_each : StoodEach x p us q) where
  -- ---- what an item says

  abbrev is_now : Found → Bool
  is_now c = is_of_now (satp_of p) q.va.0 c.read

  abbrev fenced : Found → Bool
  fenced c = is_fenced x p.first p.events q.va.0 c

  serves : (c : Found) → Contains (search_all x p.first p.events us q.va.0) (ended c) → is_now c ≡ true → not (fenced c) ≡ true → Serves x p q c.read
  serves c has now free =
      let both = and_parts (is_translated_in (top_of (satp_of p)) q.va.0) (c.read.asid == asid (satp_of p) || c.read.global) now in
      let held = ended_only c has (not-true (fenced c) free) in
      let space = elim (or_cases (c.read.asid == asid (satp_of p)) c.read.global both.1) as (λ _. (c.read.asid ≡ asid (satp_of p)) ⊎ (c.read.global ≡ true)) [
        | inl own ↦ inl (eqb-true c.read.asid (asid (satp_of p)) own)
        | inr global ↦ inr global
      ] in
      record {
        since = until p.events c.last;
        held = held.0;
        present = translated_from (top_of (satp_of p)) q.va.0 both.0;
        space = space;
        last = held.1;
      }

  unread_only : (s : Stand) (r : Read) → r.level ≡ s.level → r.table ≡ s.table → is_unread p q.va.0 s ≡ true
      → (memory_of p r.table (index_of q r) ≡ None) ⊎ MayFail p privilege.Supervisor access.Load (place q r) 8
  unread_only s r level table unread =
      elim (or_cases (not (is_some (memory_of p s.table (vpn (page_of q.va.0) s.level)))) (may_fail p.first p.events privilege.Supervisor access.Load (place_at q.va.0 s) 8) unread)
      as (λ _. (memory_of p r.table (index_of q r) ≡ None) ⊎ MayFail p privilege.Supervisor access.Load (place q r) 8) [
        | inl gone ↦
            let nothing = nowhere (memory_of p s.table (vpn (page_of q.va.0) s.level)) gone in
            inl (subst (λ (n : ℕ). memory_of p r.table (vpn (page_of q.va.0) n) ≡ None) (sym level)
            (subst (λ (n : ℕ). memory_of p n (vpn (page_of q.va.0) s.level) ≡ None) (sym table) nothing))
        | inr fail ↦
            let refused = fail_only p privilege.Supervisor access.Load (place_at q.va.0 s) 8 fail in
            inr (subst (λ (n : ℕ). MayFail p privilege.Supervisor access.Load (r.table * 4096 + vpn (page_of q.va.0) n * 8) 8) (sym level)
            (subst (λ (n : ℕ). MayFail p privilege.Supervisor access.Load (n * 4096 + vpn (page_of q.va.0) s.level * 8) 8) (sym table) refused))
      ]

  unread_each : (s : Stand) (r : Read) → s.level ≡ r.level → s.table ≡ r.table
      → (memory_of p r.table (index_of q r) ≡ None) ⊎ MayFail p privilege.Supervisor access.Load (place q r) 8 → is_unread p q.va.0 s ≡ true
  unread_each s r level table (inl gone) =
      let nothing = subst (λ (n : ℕ). memory_of p s.table (vpn (page_of q.va.0) n) ≡ None) (sym level)
      (subst (λ (n : ℕ). memory_of p n (vpn (page_of q.va.0) r.level) ≡ None) (sym table) gone) in
      or_left (not (is_some (memory_of p s.table (vpn (page_of q.va.0) s.level)))) (may_fail p.first p.events privilege.Supervisor access.Load (place_at q.va.0 s) 8)
      (is_nowhere (memory_of p s.table (vpn (page_of q.va.0) s.level)) nothing)
  unread_each s r level table (inr fail) =
      let refused = subst (λ (n : ℕ). MayFail p privilege.Supervisor access.Load (s.table * 4096 + vpn (page_of q.va.0) n * 8) 8) (sym level)
      (subst (λ (n : ℕ). MayFail p privilege.Supervisor access.Load (n * 4096 + vpn (page_of q.va.0) r.level * 8) 8) (sym table) fail) in
      or_right (not (is_some (memory_of p s.table (vpn (page_of q.va.0) s.level)))) (may_fail p.first p.events privilege.Supervisor access.Load (place_at q.va.0 s) 8)
      (fail_each p privilege.Supervisor access.Load (place_at q.va.0 s) 8 refused)

  -- ---- by a leaf that an update changed

  -- a word that an update stored in a place serves as the leaf does
  updated_serves : (c : Found) → Serves x p q c.read → IsHeld x p.first q.va.0 p.events c.read (until p.events c.last) → may_update x.ad ≡ true
      → kind_in x c.read.level c.read.word ≡ Leaf → (index : ℕ) → IsPlace x q.va.0 c.read index → (w : ℕ)
      → Contains (updated_words c.last c.read.word (versions p.first.memory p.events c.read.table index)) w → Serves x p q (with_word c.read w)
  updated_serves c serve held scheme leaf index place w has =
      let up = update_of (length p.events) p.first.memory p.events c.read.table index c.last c.read.word w has in
      let event : Event = Store c.read.table index w in
      let is : IsUpdate x p.first q.va.0 event up.before c.read w =
      record { scheme = scheme; leaf = leaf; index = index; place = place; stores = refl; was = up.was; before = up.had; sets = up.sets } in
      let at = past_trans p.events (event ∷ up.before) up.before up.past (history.older history.now) in
      let long = past_length p.events up.before at in
      let late = up.late in
      let short = until_length p.events c.last (omega (arith, long, late)) in
      let behind = past_between p.events up.before (until p.events c.last) at (until_past p.events c.last) (omega (arith, short, late)) in
      record {
        since = event ∷ up.before;
        held = held_updated x p.first q.va.0 event up.before w p.events (until p.events c.last) c.read held up.past behind is;
        present = serve.present;
        space = serve.space;
        last = λ pointer. no_leaf (sym (leaf_now x p.first q.va.0 event up.before c.read w is) ∙ pointer);
      } where
        no_leaf : Leaf ≡ Pointer → ⊥
        no_leaf same = cc

  module _ (whole : IsMultiple q.va.0 q.width) (m : Mode) (mode : mode_of q ≡ Some m) (c : Found) (serve : Serves x p q c.read)
      (held : IsHeld x p.first q.va.0 p.events c.read (until p.events c.last)) where
    place_only : may_update x.ad ≡ true → kind_in x c.read.level c.read.word ≡ Leaf → (index : ℕ) → IsPlace x q.va.0 c.read index → (o : Outcome)
        → Contains (place_says x p q m c index) o → Permits x p q o
    place_only scheme leaf index place o has =
        let words = updated_words c.last c.read.word (versions p.first.memory p.events c.read.table index) in
        let at = flat_from (update_says x p q m c) words o has in
        permits.served whole mode (updated_serves c serve held scheme leaf index place at.0 at.1) (says_only x p q m (with_word c.read at.0) o at.2)

    pub updated_only : (o : Outcome) → Contains (updated_says x p q m c) o → Permits x p q o
    updated_only o has =
        let base = vpn (page_of q.va.0) 0 / 16 * 16 in
        let at = guarded (may_update x.ad && is_kind (kind_in x c.read.level c.read.word) Leaf) (places_say x p q m c) o has in
        let both = and_parts (may_update x.ad) (is_kind (kind_in x c.read.level c.read.word) Leaf) at.0 in
        let leaf = kind_is (kind_in x c.read.level c.read.word) Leaf both.1 in
        elim (either (is_of_group x c.read) (flat_map (λ n. place_says x p q m c (base + n)) (range_with_len 0 16)) (place_says x p q m c (index_of q c.read)) o at.1) [
          | inr own ↦ place_only both.0 leaf (index_of q c.read) (inl refl) o own.1
          | inl group ↦
              let tests = and_parts (x.svnapot && c.read.level == 0) (is_napot 0 c.read.word) group.0 in
              let first = and_parts x.svnapot (c.read.level == 0) tests.0 in
              let one = flat_from (λ (n : ℕ). place_says x p q m c (base + n)) (range_with_len 0 16) o group.1 in
              let small = range_low 16 one.0 one.1 in
              let same : (base + one.0) / 16 ≡ vpn (page_of q.va.0) 0 / 16 = omega (arith, small) in
              place_only both.0 leaf (base + one.0) (inr (first.0, eqb-true c.read.level 0 first.1, tests.1, same)) o one.2
        ]

  -- and each such word is one by which the search says what it does
  updated_said : (m : Mode) (c : Found) (r : Read) (o : Outcome) → IsUpdated x p.first p.events q.va.0 c r → Says x p q m r o
      → Contains (updated_says x p q m c) o
  updated_said m c r o is told =
      let up = is.update in
      let w = is.word in
      let past = subst (λ (e : Event). IsPast p.events (e ∷ is.before)) up.stores is.past in
      let word = of_update (length p.events) p.first.memory p.events is.before c.read.table up.index c.last c.read.word up.was w past is.late up.before up.sets in
      let here = subst (λ (os : List Outcome). Contains os o) (sym (says_alike x p q m (with_word c.read w) r is.alike)) (says_each x p q m r o told) in
      let words = updated_words c.last c.read.word (versions p.first.memory p.events c.read.table up.index) in
      let at = flat_contains (update_says x p q m c) words w o word here in
      past_guard (may_update x.ad && is_kind (kind_in x c.read.level c.read.word) Leaf) (places_say x p q m c) o
      (and_from (may_update x.ad) (is_kind (kind_in x c.read.level c.read.word) Leaf) up.scheme (is_same_kind (kind_in x c.read.level c.read.word) Leaf up.leaf))
      (in_places (is_of_group x c.read) refl at) where
        base : ℕ
        base = vpn (page_of q.va.0) 0 / 16 * 16

        of_group : c.read.level ≡ 0 → (index : ℕ) → IsPlace x q.va.0 c.read index → index / 16 ≡ vpn (page_of q.va.0) 0 / 16
        of_group level index (inl same) = ap (λ (i : ℕ). i / 16) (same ∙ ap (vpn (page_of q.va.0)) level)
        of_group level index (inr group) = group.3

        own : is_of_group x c.read ≡ false → (index : ℕ) → IsPlace x q.va.0 c.read index → index ≡ index_of q c.read
        own alone index (inl same) = same
        own alone index (inr group) =
            let is_one = and_from (x.svnapot && c.read.level == 0) (is_napot 0 c.read.word)
            (and_from x.svnapot (c.read.level == 0) group.0 (eq-eqb c.read.level 0 group.1)) group.2 in
            absurd (both_ways (is_of_group x c.read) alone is_one)

        in_places : (b : Bool) → is_of_group x c.read ≡ b → Contains (place_says x p q m c is.update.index) o → Contains (places_say x p q m c) o
        in_places true group at =
            let tests = and_parts (x.svnapot && c.read.level == 0) (is_napot 0 c.read.word) group in
            let level = eqb-true c.read.level 0 (and_parts x.svnapot (c.read.level == 0) tests.0).1 in
            let same = of_group level is.update.index is.update.place in
            let split : base + is.update.index % 16 ≡ is.update.index = omega (arith, same) in
            let there = subst (λ (i : ℕ). Contains (place_says x p q m c i) o) (sym split) at in
            rw group (flat_contains (λ (n : ℕ). place_says x p q m c (base + n)) (range_with_len 0 16) (is.update.index % 16) o
            (range_contains 16 (is.update.index % 16) (omega arith)) there)
        in_places false alone at = rw alone (subst (λ (i : ℕ). Contains (place_says x p q m c i) o) (own alone is.update.index is.update.place) at)

  -- ---- translated accesses

  module _ (whole : IsMultiple q.va.0 q.width) (m : Mode) (top : ℕ) (mode : mode_of q ≡ Some m) (highest : top_of (satp_of p) ≡ Some top)
      (canonical : is_canonical top q.va.0 ≡ true) where
    said_only : (i : Item) (o : Outcome) → Contains (search_all x p.first p.events us q.va.0) i → Contains (said x p q m i) o → Permits x p q o
    said_only (stood s) o has here =
        let at = guarded (stands_now p s && is_unread p q.va.0 s) (access_fault q ∷ []) o here in
        let both = and_parts (stands_now p s) (is_unread p q.va.0 s) at.0 in
        let stand = stood_only s has both.0 in
        subst (λ (w : Outcome). Permits x p q w) (alone (access_fault q) o at.1) (
        permits.unread whole mode highest canonical stand.1 (unread_only s stand.0 stand.2 stand.3 both.1))
    said_only (ended c) o has here =
        let at = guarded (is_now c && not (fenced c)) (says x p q m c.read ++ updated_says x p q m c) o here in
        let both = and_parts (is_now c) (not (fenced c)) at.0 in
        let serve = serves c has both.0 both.1 in
        let held = ended_only c has (not-true (fenced c) both.1) in
        elim (Contains-append_cases (says x p q m c.read) (updated_says x p q m c) o at.1) [
          | inl own ↦ permits.served whole mode serve (says_only x p q m c.read o own)
          | inr more ↦ updated_only whole m mode c serve held.0 o more
        ]

    translated_only : (o : Outcome) → Contains (translated x p us q m) o → Permits x p q o
    translated_only o has =
        let at = flat_from (said x p q m) (search_all x p.first p.events us q.va.0) o has in
        said_only at.0 o at.1 at.2

  -- a read of now is so whatever its word
  now_of : (d r : Read) → Serves x p q r → IsAlike d r → is_of_now (satp_of p) q.va.0 d ≡ true
  now_of d r serve alike =
      let translated = translated_in (top_of (satp_of p)) q.va.0 serve.present.0 serve.present.1 serve.present.2 in
      and_from (is_translated_in (top_of (satp_of p)) q.va.0) (d.asid == asid (satp_of p) || d.global) translated space where
        space : (d.asid == asid (satp_of p) || d.global) ≡ true
        space = elim alike.asid [
          | inr global ↦ or_right (d.asid == asid (satp_of p)) d.global (alike.global ∙ global)
          | inl own ↦ elim serve.space [
            | inl present ↦ or_left (d.asid == asid (satp_of p)) d.global (eq-eqb d.asid (asid (satp_of p)) (own ∙ present))
            | inr global ↦ or_right (d.asid == asid (satp_of p)) d.global (alike.global ∙ global)
          ]
        ]

  ended_says : (m : Mode) (c : Found) (r : Read) (o : Outcome) → Serves x p q r → Says x p q m r o → fenced c ≡ false
      → IsAlike c.read r ⊎ IsUpdated x p.first p.events q.va.0 c r → Contains (said x p q m (ended c)) o
  ended_says m c r o serve told free (inl alike) =
      let here = subst (λ (os : List Outcome). Contains os o) (sym (says_alike x p q m c.read r alike)) (says_each x p q m r o told) in
      past_guard (is_now c && not (fenced c)) (says x p q m c.read ++ updated_says x p q m c) o
      (and_from (is_now c) (not (fenced c)) (now_of c.read r serve alike) (not_from_false (fenced c) free))
      (Contains-append_left (says x p q m c.read) (updated_says x p q m c) o here)
  ended_says m c r o serve told free (inr is) =
      past_guard (is_now c && not (fenced c)) (says x p q m c.read ++ updated_says x p q m c) o
      (and_from (is_now c) (not (fenced c)) (now_of (with_word c.read is.word) r serve is.alike) (not_from_false (fenced c) free))
      (Contains-append_right (says x p q m c.read) (updated_says x p q m c) o (updated_said m c r o is told))

  served_each : (m : Mode) (r : Read) (o : Outcome) → Serves x p q r → Says x p q m r o → Contains (translated x p us q m) o
  served_each m r o serve told =
      let found = ended_each r serve.since serve.held serve.last in
      let c = found.0 in
      flat_contains (said x p q m) (search_all x p.first p.events us q.va.0) (ended c) o found.1 (ended_says m c r o serve told found.2 found.3)

  unread_said : (m : Mode) (r : Read) → MayStandAt x p q r
      → (memory_of p r.table (index_of q r) ≡ None) ⊎ MayFail p privilege.Supervisor access.Load (place q r) 8 → Contains (translated x p us q m) (access_fault q)
  unread_said m r stands why =
      let at = stood_each r stands in
      flat_contains (said x p q m) (search_all x p.first p.events us q.va.0) (stood at.0) (access_fault q) at.1 (
      past_guard (stands_now p at.0 && is_unread p q.va.0 at.0) (access_fault q ∷ []) (access_fault q)
      (and_from (stands_now p at.0) (is_unread p q.va.0 at.0) at.2 (unread_each at.0 r at.3 at.4 why))
      (contains_head (access_fault q) []))

  -- ---- all outcomes

  canonical_only : (m : Mode) (top : ℕ) (o : Outcome) → IsMultiple q.va.0 q.width → mode_of q ≡ Some m → top_of (satp_of p) ≡ Some top
      → Contains (outcomes_in x p us q (Some m) (Some top)) o → Permits x p q o
  canonical_only m top o whole mode highest has = elim (either (is_canonical top q.va.0) (translated x p us q m) (page_fault q ∷ []) o has) [
    | inl is ↦ translated_only whole m top mode highest is.0 o is.1
    | inr off ↦ subst (λ (w : Outcome). Permits x p q w) (alone (page_fault q) o off.1) (permits.not_canonical whole mode highest off.0)
  ]

  in_only : (mode : Option Mode) (top : Option ℕ) (o : Outcome) → IsMultiple q.va.0 q.width → mode_of q ≡ mode → top_of (satp_of p) ≡ top
      → Contains (outcomes_in x p us q mode top) o → Permits x p q o
  in_only None top o whole mode highest has = permits.untranslated whole (inl mode) (ends_only p q q.va.0 Pma None o has)
  in_only (Some m) None o whole mode highest has = permits.untranslated whole (inr highest) (ends_only p q q.va.0 Pma None o has)
  in_only (Some m) (Some top) o whole mode highest has = canonical_only m top o whole mode highest has

  past_canonical : (m : Mode) (top : ℕ) (o : Outcome) → is_canonical top q.va.0 ≡ true → Contains (translated x p us q m) o
      → Contains (outcomes_in x p us q (Some m) (Some top)) o
  past_canonical m top o canonical has = rw canonical has

  ends_in : (mode : Option Mode) (top : Option ℕ) (o : Outcome) → (mode ≡ None) ⊎ (top ≡ None) → Ends p q q.va.0 Pma None o
      → Contains (outcomes_in x p us q mode top) o
  ends_in None top o why made = ends_each p q q.va.0 Pma None o made
  ends_in (Some m) None o why made = ends_each p q q.va.0 Pma None o made
  ends_in (Some m) (Some top) o (inl machine) made = cc
  ends_in (Some m) (Some top) o (inr bare) made = cc

  by_now : (mode : Option Mode) (top : Option ℕ) (m : Mode) (t : ℕ) (o : Outcome) → mode ≡ Some m → top ≡ Some t
      → Contains (outcomes_in x p us q (Some m) (Some t)) o → Contains (outcomes_in x p us q mode top) o
  by_now mode top m t o is highest has = subst (λ (w : Option Mode). Contains (outcomes_in x p us q w top) o) (sym is)
      (subst (λ (w : Option ℕ). Contains (outcomes_in x p us q (Some m) w) o) (sym highest) has)

  pub in_each : (o : Outcome) → is_multiple q.va.0 q.width ≡ true → Permits x p q o → Contains (outcomes_in x p us q (mode_of q) (top_of (satp_of p))) o
  in_each o whole (permits.misaligned bad) = absurd (bad (multiple_only q.va.0 q.width whole))
  in_each o whole (permits.untranslated is why made) = ends_in (mode_of q) (top_of (satp_of p)) o why made
  in_each o whole (permits.not_canonical {mode = m} {top = top} is mode highest off) =
      by_now (mode_of q) (top_of (satp_of p)) m top (page_fault q) mode highest (rw off (contains_head (page_fault q) []))
  in_each o whole (permits.served {mode = m} {r = r} is mode serve told) =
      by_now (mode_of q) (top_of (satp_of p)) m serve.present.0 o mode serve.present.1 (past_canonical m serve.present.0 o serve.present.2 (served_each m r o serve told))
  in_each o whole (permits.unread {mode = m} {r = r} {top = top} is mode highest canonical stands why) =
      by_now (mode_of q) (top_of (satp_of p)) m top (access_fault q) mode highest (past_canonical m top (access_fault q) canonical (
      unread_said m r stands why))

  misaligned_alone : (o : Outcome) → is_multiple q.va.0 q.width ≡ false → Permits x p q o → o ≡ Refused (misaligned_cause q.kind) None
  misaligned_alone o part (permits.misaligned bad) = refl
  misaligned_alone o part (permits.untranslated is why made) = absurd (both_ways (is_multiple q.va.0 q.width) part (multiple_each q.va.0 q.width is))
  misaligned_alone o part (permits.not_canonical is mode highest off) = absurd (both_ways (is_multiple q.va.0 q.width) part (multiple_each q.va.0 q.width is))
  misaligned_alone o part (permits.served is mode serve told) = absurd (both_ways (is_multiple q.va.0 q.width) part (multiple_each q.va.0 q.width is))
  misaligned_alone o part (permits.unread is mode highest canonical stands why) = absurd (both_ways (is_multiple q.va.0 q.width) part (multiple_each q.va.0 q.width is))

  each_outcome : (o : Outcome) → Permits x p q o → Contains (outcomes_by x p us q) o
  each_outcome o may = elim (cases_Bool (is_multiple q.va.0 q.width)) [
    | inl whole ↦ rw whole (in_each o whole may)
    | inr off ↦ rw off (subst (λ (w : Outcome). Contains (w ∷ []) o) (misaligned_alone o off may) (contains_head o []))
  ]

  only_outcome : (o : Outcome) → Contains (outcomes_by x p us q) o → Permits x p q o
  only_outcome o has = elim (either (is_multiple q.va.0 q.width) (outcomes_in x p us q (mode_of q) (top_of (satp_of p))) (Refused (misaligned_cause q.kind) None ∷ []) o has) [
    | inl whole ↦ in_only (mode_of q) (top_of (satp_of p)) o (multiple_only q.va.0 q.width whole.0) refl refl whole.1
    | inr off ↦ subst (λ (w : Outcome). Permits x p q w) (alone (Refused (misaligned_cause q.kind) None) o off.1) (
        permits.misaligned (λ is. both_ways (is_multiple q.va.0 q.width) off.0 (multiple_each q.va.0 q.width is)))
  ]

  pub outcomes_exact : ArePermitted x p q (outcomes_by x p us q)
  outcomes_exact o = (only_outcome o, each_outcome o)

-- the four parts, for each history and list of uses
abbrev pub EndsAllOnly : Type 0
EndsAllOnly = (x : Extensions) (f : First) (h : List Event) (us : List Use) (va : ℕ) → IsUnfenced h → AreUses f.satp h us → EndedOnly x f h us va

abbrev pub EndsAllEach : Type 0
EndsAllEach = (x : Extensions) (f : First) (h : List Event) (us : List Use) (va : ℕ) → IsUnfenced h → AreUses f.satp h us → EndedEach x f h us va

abbrev pub StandsAllOnly : Type 0
StandsAllOnly = (x : Extensions) (p : Past) (us : List Use) (q : Request) → IsUnfenced p.events → AreUses p.first.satp p.events us → StoodOnly x p us q

abbrev pub StandsAllEach : Type 0
StandsAllEach = (x : Extensions) (p : Past) (us : List Use) (q : Request) → IsUnfenced p.events → AreUses p.first.satp p.events us → StoodEach x p us q

pub search_is_exact_by : EndsAllOnly → EndsAllEach → StandsAllOnly → StandsAllEach → SearchIsExact
search_is_exact_by ended_only ended_each stood_only stood_each x p us q unfenced uses wide =
    outcomes_exact x p us q (ended_only x p.first p.events us q.va.0 unfenced uses) (ended_each x p.first p.events us q.va.0 unfenced uses)
    (stood_only x p us q unfenced uses) (stood_each x p us q unfenced uses)
