-- Lemmas: without history and extensions, what is permitted is what a walk over memory as it is comes to.
use Rattle.std.proofs.Common.{◌≡◌, ◌↔◌, ◌⊎◌, ℕ, zero, suc, ◌-◌, ◌*◌, ◌%◌, ◌^◌, ◌≤◌, ◌&&◌, ◌||◌, Bool, true, false, refl, sym, ap, subst, ◌∙◌, inl, inr, arith, Option, None, Some, [], List}
use Rattle.std.proofs.lemmas.Bool.{and_from, and_left, and_right, cases_Bool, cases_eq, eqb-true, false≢true}
use Rattle.std.proofs.lemmas.Option.{same_Some}
use Rattle.sv39_entry.specs.Address.{page_of, vpn}
use Rattle.sv39_entry.specs.Causes.{access_fault_cause, page_fault_cause}
use Rattle.sv39_entry.specs.Satp.{asid, root_ppn, scheme_of}
use Rattle.sv39_entry.specs.Schemes.{is_canonical, of_scheme, top_level}
use Rattle.sv39_entry.specs.Word.{kind_of, permits, ppn}
use Rattle.sv39_entry.specs.declared.access.Access.TheVariants as access_kind
use Rattle.sv39_entry.specs.declared.access.Mode.{Mode}
use Rattle.sv39_entry.specs.declared.entry.Kind.{Kind}
use Rattle.sv39_entry.specs.declared.entry.Kind.TheVariants.{Invalid, Leaf, Pointer}
use Rattle.sv39_entry.specs.declared.scheme.Scheme.{Scheme}
use Rattle.table_walk.specs.Memory.{physical_address}
use Rattle.table_walk.specs.Walk.{FindsLeaf, IsAt, Reads, Translates}
use Rattle.table_walk.specs.declared.walk.Walk.{Walk}
use Rattle.table_walk.specs.declared.walk.Walk.TheVariants as walk
use Rattle.table_walk.proofs.Outcomes.{one_translation, some_translation}
use Rattle.table_walk.proofs.Ways.{HasNoLeaf, down, invalid, misaligned, too_far}
use Rattle.walk_rules.specs.Addresses as addresses
use Rattle.walk_rules.specs.Addresses.{leads_to, top_of}
use Rattle.walk_rules.specs.Kinds.{kind_in, may_update, memory_type}
use Rattle.walk_rules.specs.Rights.{allows, has_ad}
use Rattle.walk_rules.specs.declared.extensions.AdScheme.{AdScheme}
use Rattle.walk_rules.specs.declared.extensions.AdScheme.TheVariants.{Svade}
use Rattle.walk_rules.specs.declared.extensions.Extensions.{Extensions}
use Rattle.walk_rules.specs.declared.memory_type.MemoryType.{MemoryType}
use Rattle.walk_rules.specs.declared.memory_type.MemoryType.TheVariants.{Pma}
use Rattle.walk_rules.specs.declared.status.Privilege.TheVariants as privilege
use Rattle.access_history.specs.Held.{IsUnder, is_active, IsHeld, Read, has_global, read_of}
use Rattle.access_history.specs.History.{Memory}
use Rattle.access_history.specs.Permits.{Allows, Ends, MayStandAt, MayUpdate, Past, Permits, Says, Serves, is_there, memory_of, satp_of}
use Rattle.access_history.specs.Permits as permits
use Rattle.access_history.specs.declared.event.Event.{Event}
use Rattle.access_history.specs.declared.outcome.Outcome.{Outcome}
use Rattle.access_history.specs.declared.outcome.Outcome.TheVariants.{Granted, Refused}
use Rattle.access_history.specs.declared.outcome.Request.{Request}
use Rattle.access_history.proofs.PlainRights.{plain_place, plain_rights}
use Rattle.history_laws.specs.PlainWalks.{IsPlainAccess, IsPlainHart, extent_of, outcome_of}
use Rattle.history_laws.proofs.FreePmp.{never_fails}
use Rattle.history_laws.proofs.PlainEntries.{leaf_clear, leaf_of, no_low_pointer, no_napot, of_leaf, of_pointer, plain_type, pointer_of}
use Rattle.history_laws.proofs.PlainReads.{IsRead, held_level, same_canonical, table_at_root, table_below, top_is}
use Rattle.history_laws.proofs.PlainServing.{end_faults, is_denied, is_gone, is_granted, right_of}

-- ---- where a walk ends

module _ (x : Extensions) (plain : IsPlainHart x) (s : Scheme) (m : Memory) (root page : ℕ) where
  -- an entry that is no pointer and no leaf at its level ends the walk without a leaf
  none_by : (level word : ℕ) (kind : Kind) → Reads s m root page level (Some word) → kind_of word ≡ kind → (kind_in x level word ≡ Pointer → ⊥)
      → (kind_in x level word ≡ Leaf → ⊥) → HasNoLeaf s m root page
  none_by level word Invalid reads is last other = invalid s m root page level word reads is
  none_by level word Leaf reads is last other = absurd (other (of_leaf x plain.napot plain.pbmt level word is))
  none_by zero word Pointer reads is last other =
      let all : suc (top_level s) - zero ≡ suc (top_level s) = omega arith in
      let below = down s m root page zero word reads is in
      too_far s m root page (ppn word) (subst (λ (n : ℕ). IsAt s m root page n (ppn word)) all below)
  none_by (suc n) word Pointer reads is last other = absurd (last (of_pointer x plain.napot plain.pbmt n word is))

  -- the word at which a walk ends without a leaf: it is no pointer, and no leaf that is aligned
  pub record Ended : Type 0 where
    pub level : ℕ
    pub table : ℕ
    pub word : ℕ
    pub low : level ≤ top_level s
    pub way : IsAt s m root page (top_level s - level) table
    pub read : m table (vpn page level) ≡ Some word
    pub last : kind_in x level word ≡ Pointer → ⊥
    pub no_leaf : kind_in x level word ≡ Leaf → ppn word % 2 ^ (9 * level) ≡ 0 → ⊥

  by_kind : (level table word : ℕ) (kind : Kind) → level ≤ top_level s → IsAt s m root page (top_level s - level) table → m table (vpn page level) ≡ Some word
      → kind_in x level word ≡ kind → HasNoLeaf s m root page → (kind_in x level word ≡ Pointer → Ended) → Ended
  by_kind level table word Invalid low way read is none further = record {
    level = level;
    table = table;
    word = word;
    low = low;
    way = way;
    read = read;
    last = λ pointer. let bad : Invalid ≡ Pointer = sym is ∙ pointer in cc;
    no_leaf = λ leaf aligned. let bad : Invalid ≡ Leaf = sym is ∙ leaf in cc;
  }
  by_kind level table word Pointer low way read is none further = further is
  by_kind level table word Leaf low way read is none further = elim (cases_eq (ppn word % 2 ^ (9 * level)) 0) [
    | inl aligned ↦ absurd (none.0 word level (record {
      reads = record { low = low; table = table; way = way; read = read };
      kind = leaf_of x plain.napot plain.pbmt level word is;
      aligned = aligned;
    }))
    | inr odd ↦ record {
      level = level;
      table = table;
      word = word;
      low = low;
      way = way;
      read = read;
      last = λ pointer. let bad : Leaf ≡ Pointer = sym is ∙ pointer in cc;
      no_leaf = λ leaf aligned. odd aligned;
    }
  ]

  by_word : (level table : ℕ) (word : Option ℕ) → level ≤ top_level s → IsAt s m root page (top_level s - level) table → m table (vpn page level) ≡ word
      → HasNoLeaf s m root page → ((next : ℕ) → m table (vpn page level) ≡ Some next → kind_in x level next ≡ Pointer → Ended) → Ended
  by_word level table None low way read none further = absurd (none.1 (level, record { low = low; table = table; way = way; read = read }))
  by_word level table (Some word) low way read none further = by_kind level table word (kind_in x level word) low way read refl none (further word read)

  from_table : (level table : ℕ) → level ≤ top_level s → IsAt s m root page (top_level s - level) table → HasNoLeaf s m root page → Ended
  from_table zero table low way none =
      by_word zero table (m table (vpn page zero)) low way refl none (λ next read pointer. absurd (no_low_pointer x next pointer))
  from_table (suc n) table low way none =
      let more : suc (top_level s - suc n) ≡ top_level s - n = omega (arith, low) in
      let back : suc n ≡ top_level s - (top_level s - suc n) = omega (arith, low) in
      by_word (suc n) table (m table (vpn page (suc n))) low way refl none (λ next read pointer.
      from_table n (ppn next) (omega (arith, low)) (subst (λ (k : ℕ). IsAt s m root page k (ppn next)) more
      (table, next, way, subst (λ (k : ℕ). m table (vpn page k) ≡ Some next) back read, pointer_of x plain.napot plain.pbmt (suc n) next pointer, refl)) none)

  pub end_of : HasNoLeaf s m root page → Ended
  end_of none =
      let all : zero ≡ top_level s - top_level s = omega arith in
      from_table (top_level s) root (omega arith) (subst (λ (n : ℕ). IsAt s m root page n root) all refl) none

-- ---- both ways

either : {A : Type 0} → A ⊎ A → A
either (inl a) = a
either (inr a) = a

module _ (x : Extensions) (plain : IsPlainHart x) (p : Past) (free : p.first.pmp ≡ []) (q : Request) (mode : Mode) (access : IsPlainAccess q mode) (s : Scheme)
    (is : scheme_of (satp_of p) ≡ Some s) where
  abbrev Comes : Walk → Type 0
  Comes w = Translates s (memory_of p) (extent_of (memory_of p)) (root_ppn (satp_of p)) q.va.0 q.kind mode w

  abbrev Walked : Outcome → Type 0
  Walked o = (w : Walk) × Comes w × (o ≡ outcome_of w)

  abbrev NoLeafThere : Type 0
  NoLeafThere = HasNoLeaf s (memory_of p) (root_ppn (satp_of p)) (page_of q.va.0)

  abbrev WasRead : Read → Type 0
  WasRead r = IsRead p.first q.va.0 p.events s r

  -- each PTE that a hart may hold and use is one that the walk reads now, and each walk of the present ASID is one under the present satp
  pub record AllRead : Type 0 where
    pub read : (past : List Event) (r : Read) → IsHeld x p.first q.va.0 p.events r past → (r.asid ≡ asid (satp_of p)) ⊎ (r.global ≡ true) → WasRead r
    pub own : (satp : ℕ) → IsUnder p.first satp p.events → asid satp ≡ asid (satp_of p) → satp ≡ satp_of p

  page_fault : NoLeafThere → Walked (Refused (page_fault_cause q.kind) None)
  page_fault none = (walk.PageFault (page_fault_cause q.kind), (refl, inl (inr none)), refl)

  -- the present MODE's top is the scheme's
  canonical_by : (top : ℕ) (b : Bool) → top_of (satp_of p) ≡ Some top → addresses.is_canonical top q.va.0 ≡ b → is_canonical s q.va.0 ≡ b
  canonical_by top b highest canonical =
      let same = same_Some (top_level s) top (sym (top_is (satp_of p) s is) ∙ highest) in
      sym (same_canonical s q.va.0) ∙ ap (λ (t : ℕ). addresses.is_canonical t q.va.0) same ∙ canonical

  module _ (r : Read) (read : WasRead r) (canonical : is_canonical s q.va.0 ≡ true) where
    abbrev reads : Reads s (memory_of p) (root_ppn (satp_of p)) (page_of q.va.0) r.level (Some r.word)
    reads = record { low = read.low; table = r.table; way = read.way; read = read.word }

    found : kind_in x r.level r.word ≡ Leaf → ppn r.word % 2 ^ (9 * r.level) ≡ 0
        → FindsLeaf s (memory_of p) (root_ppn (satp_of p)) q.va.0 r.word r.level
    found leaf aligned = (canonical, record { reads = reads; kind = leaf_of x plain.napot plain.pbmt r.level r.word leaf; aligned = aligned })

    few : r.level ≤ 4
    few = let low = read.low in let levels = (of_scheme s).few_levels in omega (arith, low, levels)

    rights : ppn r.word % 2 ^ (9 * r.level) ≡ 0 → (allows q.status mode q.kind r.level r.word && has_ad q.kind r.word) ≡ permits mode q.kind r.word
    rights aligned = plain_rights q.status access.sum access.mxr mode q.kind r.level r.word aligned

    aligned_by : allows q.status mode q.kind r.level r.word ≡ true → ppn r.word % 2 ^ (9 * r.level) ≡ 0
    aligned_by right = eqb-true (ppn r.word % 2 ^ (9 * r.level)) 0 (right_of _ _ right)

    denied : kind_in x r.level r.word ≡ Leaf → ppn r.word % 2 ^ (9 * r.level) ≡ 0 → permits mode q.kind r.word ≡ false
        → Walked (Refused (page_fault_cause q.kind) None)
    denied leaf aligned none = (walk.PageFault (page_fault_cause q.kind), (refl, inr (r.word, r.level, found leaf aligned, none)), refl)

    leads : kind_in x r.level r.word ≡ Leaf → ppn r.word % 2 ^ (9 * r.level) ≡ 0
        → leads_to r.level r.word q.va.0 ≡ physical_address r.word r.level q.va.0
    leads leaf aligned =
        plain_place r.level r.word q.va.0 few (no_napot r.word (leaf_clear r.word (leaf_of x plain.napot plain.pbmt r.level r.word leaf))) aligned

    ended : (t : MemoryType) (o : Outcome) → kind_in x r.level r.word ≡ Leaf → ppn r.word % 2 ^ (9 * r.level) ≡ 0 → permits mode q.kind r.word ≡ true
        → memory_type r.word ≡ Some t → Ends p q (leads_to r.level r.word q.va.0) t None o → Walked o
    ended t o leaf aligned right type (permits.granted there pass) =
        let plain_one = same_Some t Pma (sym type ∙ plain_type r.word (leaf_clear r.word (leaf_of x plain.napot plain.pbmt r.level r.word leaf))) in (
          walk.Leaf r.word r.level (leads_to r.level r.word q.va.0),
          (found leaf aligned, right, leads leaf aligned, there),
          ap (λ (k : MemoryType). Granted (leads_to r.level r.word q.va.0) k None) plain_one,
        )
    ended t o leaf aligned right type (permits.refused made (inl gone)) =
        let at = subst (λ (pa : ℕ). is_there p pa ≡ false) (leads leaf aligned) gone in (
          walk.AccessFault (access_fault_cause q.kind),
          (refl, inr (r.word, r.level, found leaf aligned, right, at)),
          ap (Refused (access_fault_cause q.kind)) (either made),
        )
    ended t o leaf aligned right type (permits.refused made (inr fails)) =
        absurd (never_fails p.first.pmp free p.events _ _ _ _ fails.0 fails.1 fails.2)

    no_update : x.ad ≡ Svade → may_update x.ad ≡ true → ⊥
    no_update svade may = false≢true (sym (subst (λ (ad : AdScheme). may_update ad ≡ false) (sym svade) refl) ∙ may)

    said : x.ad ≡ Svade → (o : Outcome) → (kind_in x r.level r.word ≡ Pointer → ⊥) → Says x p q mode r o → Walked o
    said svade o last (permits.no_leaf other) =
        page_fault (none_by x plain s (memory_of p) (root_ppn (satp_of p)) (page_of q.va.0) r.level r.word (kind_of r.word) reads refl last other)
    said svade o last (permits.no_right leaf none) = elim (cases_eq (ppn r.word % 2 ^ (9 * r.level)) 0) [
      | inl aligned ↦ denied leaf aligned (sym (rights aligned) ∙ and_left _ _ none)
      | inr odd ↦ page_fault (misaligned s (memory_of p) (root_ppn (satp_of p)) (page_of q.va.0) r.level r.word reads
          (leaf_of x plain.napot plain.pbmt r.level r.word leaf) odd)
    ]
    said svade o last (permits.ready {t = t} allowed ad type ends) =
        let aligned = aligned_by allowed.right in
        ended t o allowed.leaf aligned (sym (rights aligned) ∙ and_from _ _ allowed.right ad) type ends
    said svade o last (permits.faults allowed clear may) =
        let aligned = aligned_by allowed.right in denied allowed.leaf aligned (sym (rights aligned) ∙ and_right _ _ clear)
    said svade o last (permits.updates allowed may pass type ends) = absurd (no_update svade may.scheme)
    said svade o last (permits.update_refused allowed may fail) = absurd (no_update svade may.scheme)

  -- a table at which the walk may be now
  stood : (r : Read) → AllRead → MayStandAt x p q r → (r.level ≤ top_level s)
      × IsAt s (memory_of p) (root_ppn (satp_of p)) (page_of q.va.0) (top_level s - r.level) r.table
  stood r all (permits.at_root root present) =
      let own = all.own root.satp root.under (sym root.space ∙ present) in
      table_at_root p.first q.va.0 p.events s r.level r.table is (ap top_of (sym own) ∙ root.highest) (root.root ∙ ap root_ppn own)
  stood r all (permits.below {above = above} {since = since} was step serves) =
      let of_now = elim serves as (λ _. (above.asid ≡ asid (satp_of p)) ⊎ (above.global ≡ true)) [
        | inl same ↦ inl (sym step.space ∙ same)
        | inr global ↦ inr global
      ] in
      table_below x plain p.first q.va.0 p.events s above r.level r.table (all.read since above was of_now) step.pointer step.next_level step.table

  pub is_walked : x.ad ≡ Svade → AllRead → (o : Outcome) → Permits x p q o → Walked o
  is_walked svade all_read o (permits.misaligned odd) = absurd (odd access.whole)
  is_walked svade all_read o (permits.untranslated whole (inl machine) ends) = absurd (let bad : Some mode ≡ None = sym access.translated ∙ machine in cc)
  is_walked svade all_read o (permits.untranslated whole (inr bare) ends) = absurd (let bad : Some (top_level s) ≡ None = sym (top_is (satp_of p) s is) ∙ bare in cc)
  is_walked svade all_read o (permits.not_canonical {top = top} whole translated highest bad) =
      (walk.PageFault (page_fault_cause q.kind), (refl, inl (inl (canonical_by top false highest bad))), refl)
  is_walked svade all_read o (permits.served {mode = other} {r = r} whole translated serves says) =
      let same = same_Some other mode (sym translated ∙ access.translated) in
      let read = all_read.read serves.since r serves.held serves.space in
      said r read (canonical_by serves.present.0 true serves.present.1 serves.present.2) svade o serves.last
      (subst (λ (m : Mode). Says x p q m r o) same says)
  is_walked svade all_read o (permits.unread {r = r} {top = top} whole translated highest canonical stands (inl gone)) =
      let at = stood r all_read stands in (
        walk.AccessFault (access_fault_cause q.kind),
        (refl, inl (canonical_by top true highest canonical, (r.level, record { low = at.0; table = r.table; way = at.1; read = gone }))),
        refl,
      )
  is_walked svade all_read o (permits.unread whole translated highest canonical stands (inr fails)) =
      absurd (never_fails p.first.pmp free p.events privilege.Supervisor access_kind.Load _ _ fails.0 fails.1 fails.2)

  -- ---- and the other way

  -- a PTE that the walk reads serves the access
  serves_now : (level table word : ℕ) → is_canonical s q.va.0 ≡ true → level ≤ top_level s
      → IsAt s (memory_of p) (root_ppn (satp_of p)) (page_of q.va.0) (top_level s - level) table
      → memory_of p table (vpn (page_of q.va.0) level) ≡ Some word → (kind_in x level word ≡ Pointer → ⊥)
      → (global : Bool) × Serves x p q (read_of level table word (asid (satp_of p)) global)
  serves_now level table word canonical low way read last =
      let here = held_level x plain p.first free q.va.0 p.events s is canonical level table word low way read in (
        here.0 || has_global word,
        record {
          since = p.events;
          held = here.1;
          present = (top_level s, top_is (satp_of p) s is, same_canonical s q.va.0 ∙ canonical);
          space = inl refl;
          last = last;
        },
      )

  leaf_last : (level word : ℕ) → kind_of word ≡ Leaf → kind_in x level word ≡ Pointer → ⊥
  leaf_last level word leaf pointer = let bad : Leaf ≡ Pointer = sym (of_leaf x plain.napot plain.pbmt level word leaf) ∙ pointer in cc

  leaf_low : (level : ℕ) → level ≤ top_level s → level ≤ 4
  leaf_low level low = let levels = (of_scheme s).few_levels in omega (arith, low, levels)

  -- the leaf that a walk finds serves the access
  leaf_serves : (leaf level : ℕ) → (found : FindsLeaf s (memory_of p) (root_ppn (satp_of p)) q.va.0 leaf level)
      → (global : Bool) × Serves x p q (read_of level found.1.reads.table leaf (asid (satp_of p)) global)
  leaf_serves leaf level found =
      serves_now level found.1.reads.table leaf found.0 found.1.reads.low found.1.reads.way found.1.reads.read (leaf_last level leaf found.1.kind)

  none_permitted : is_canonical s q.va.0 ≡ true → NoLeafThere → Permits x p q (Refused (page_fault_cause q.kind) None)
  none_permitted canonical none =
      let end = end_of x plain s (memory_of p) (root_ppn (satp_of p)) (page_of q.va.0) none in
      let here = serves_now end.level end.table end.word canonical end.low end.way end.read end.last in
      end_faults x plain p free q mode access (read_of end.level end.table end.word (asid (satp_of p)) here.0) here.1 end.no_leaf

  -- the walk may be at a table whose word is outside the memory
  stands_at : (k level table : ℕ) → is_canonical s q.va.0 ≡ true → k ≤ top_level s → level ≡ top_level s - k
      → IsAt s (memory_of p) (root_ppn (satp_of p)) (page_of q.va.0) k table
      → (r : Read) × MayStandAt x p q r × (r.level ≡ level) × (r.table ≡ table)
  stands_at zero level table canonical low same way =
      let all : top_level s ≡ level = omega (arith, same) in
      let highest = subst (λ (n : ℕ). top_of (satp_of p) ≡ Some n) all (top_is (satp_of p) s is) in (
        read_of level table 0 (asid (satp_of p)) (has_global 0),
        permits.at_root (record {
          satp = satp_of p;
          under = is_active refl;
          highest = highest;
          canonical = subst (λ (n : ℕ). addresses.is_canonical n q.va.0 ≡ true) all (same_canonical s q.va.0 ∙ canonical);
          root = way;
          space = refl;
          global = refl;
        }) refl,
        refl,
        refl,
      )
  stands_at (suc k) level table canonical low same way =
      let back : top_level s - (top_level s - k) ≡ k = omega (arith, low) in
      let up_way = subst (λ (n : ℕ). IsAt s (memory_of p) (root_ppn (satp_of p)) (page_of q.va.0) n way.0) (sym back) way.2 in
      let next_one : top_level s - k ≡ suc level = omega (arith, low, same) in
      let up = held_level x plain p.first free q.va.0 p.events s is canonical (top_level s - k) way.0 way.1 (omega arith) up_way way.3 in
      let pointer = subst (λ (n : ℕ). kind_in x n way.1 ≡ Pointer) (sym next_one) (of_pointer x plain.napot plain.pbmt level way.1 way.4) in (
        read_of level table 0 (asid (satp_of p)) ((up.0 || has_global way.1) || has_global 0),
        permits.below up.1
            (record {
              pointer = pointer;
              next_level = next_one;
              table = way.5;
              space = refl;
              global = refl;
            })
            (inl refl),
        refl,
        refl,
      )

  outside_permitted : is_canonical s q.va.0 ≡ true → (level : ℕ) → Reads s (memory_of p) (root_ppn (satp_of p)) (page_of q.va.0) level None
      → Permits x p q (Refused (access_fault_cause q.kind) None)
  outside_permitted canonical level reads =
      let low = reads.low in
      let at = stands_at (top_level s - level) level reads.table canonical (omega arith) (omega (arith, low)) reads.way in
      let gone = subst (λ (n : ℕ). memory_of p at.0.table (vpn (page_of q.va.0) n) ≡ None) (sym at.2)
      (subst (λ (t : ℕ). memory_of p t (vpn (page_of q.va.0) level) ≡ None) (sym at.3) reads.read) in
      permits.unread access.whole access.translated (top_is (satp_of p) s is) (same_canonical s q.va.0 ∙ canonical) at.1 (inl gone)

  pub from_walk : (w : Walk) → Comes w → Permits x p q (outcome_of w)
  from_walk (walk.Leaf leaf level address) comes =
      let serves = leaf_serves leaf level comes.0 in
      let there = subst (λ (pa : ℕ). is_there p pa ≡ true) comes.2 comes.3 in
      subst (λ (pa : ℕ). Permits x p q (Granted pa Pma None)) (sym comes.2)
      (is_granted x plain p free q mode access (read_of level comes.0.1.reads.table leaf (asid (satp_of p)) serves.0) serves.1 comes.0.1.kind comes.0.1.aligned
      (leaf_low level comes.0.1.reads.low) comes.1 there)
  from_walk (walk.PageFault cause) (same, inl (inl bad)) = subst (λ (c : ℕ). Permits x p q (Refused c None)) (sym same)
      (permits.not_canonical access.whole access.translated (top_is (satp_of p) s is) (same_canonical s q.va.0 ∙ bad))
  from_walk (walk.PageFault cause) (same, inl (inr none)) = elim (cases_Bool (is_canonical s q.va.0)) [
    | inl canonical ↦ subst (λ (c : ℕ). Permits x p q (Refused c None)) (sym same) (none_permitted canonical none)
    | inr bad ↦ subst (λ (c : ℕ). Permits x p q (Refused c None)) (sym same)
        (permits.not_canonical access.whole access.translated (top_is (satp_of p) s is) (same_canonical s q.va.0 ∙ bad))
  ]
  from_walk (walk.PageFault cause) (same, inr denied) =
      let serves = leaf_serves denied.0 denied.1 denied.2 in
      subst (λ (c : ℕ). Permits x p q (Refused c None)) (sym same)
      (is_denied x plain p free q mode access (read_of denied.1 denied.2.1.reads.table denied.0 (asid (satp_of p)) serves.0) serves.1 denied.2.1.kind
      denied.2.1.aligned (leaf_low denied.1 denied.2.1.reads.low) denied.3)
  from_walk (walk.AccessFault cause) (same, inl outside) =
      subst (λ (c : ℕ). Permits x p q (Refused c None)) (sym same) (outside_permitted outside.0 outside.1.0 outside.1.1)
  from_walk (walk.AccessFault cause) (same, inr gone) =
      let serves = leaf_serves gone.0 gone.1 gone.2 in
      subst (λ (c : ℕ). Permits x p q (Refused c None)) (sym same)
      (is_gone x plain p free q mode access (read_of gone.1 gone.2.1.reads.table gone.0 (asid (satp_of p)) serves.0) serves.1 gone.2.1.kind gone.2.1.aligned
      (leaf_low gone.1 gone.2.1.reads.low) gone.3 gone.4)

  pub same_outcomes : x.ad ≡ Svade → AllRead → (o : Outcome) → Permits x p q o ↔ Walked o
  same_outcomes svade all_read o = (is_walked svade all_read o, λ walked. subst (Permits x p q) (sym walked.2) (from_walk walked.0 walked.1))

  -- there is exactly one outcome
  pub some_outcome : (o : Outcome) × Permits x p q o
  some_outcome =
      let w = some_translation s (memory_of p) (root_ppn (satp_of p)) q.va.0 (extent_of (memory_of p)) q.kind mode in (outcome_of w.0, from_walk w.0 w.1)

  pub one_outcome : x.ad ≡ Svade → AllRead → (a b : Outcome) → Permits x p q a → Permits x p q b → a ≡ b
  one_outcome svade all_read a b one other =
      let v = is_walked svade all_read a one in
      let w = is_walked svade all_read b other in
      v.2 ∙ ap outcome_of (one_translation s (memory_of p) (root_ppn (satp_of p)) q.va.0 (extent_of (memory_of p)) q.kind mode v.0 w.0 v.1 w.1) ∙ sym w.2
