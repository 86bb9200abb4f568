-- The search comes by all that is held, and by each table at which the walk may be.
use Rattle.std.proofs.Common.{◌≡◌, ◌≢◌, ◌⊎◌, ℕ, zero, suc, ◌-◌, ◌≤◌, ◌==◌, ◌||◌, nat_le, Bool, true, false, List, [], ◌∷◌, map, length, refl, sym, ◌∙◌, ap, ap₂, subst, inl, inr, arith, Some, if◌then◌else◌}
use Rattle.std.proofs.lemmas.Bool.{and_from, both_ways, cases_Bool, cases_lt, eq-eqb, le-leb, or_left, or_right}
use Rattle.std.specs.List.{Contains, flat_map}
use Rattle.sv39_entry.specs.Satp.{asid, root_ppn}
use Rattle.sv39_entry.specs.Word.{ppn}
use Rattle.sv39_entry.specs.declared.entry.Kind.TheVariants.{Leaf, Pointer}
use Rattle.walk_rules.specs.Addresses.{is_canonical, top_of}
use Rattle.walk_rules.specs.Kinds.{kind_in}
use Rattle.walk_rules.specs.declared.extensions.Extensions.{Extensions}
use Rattle.access_history.specs.Held.{IsAtRoot, IsBelow, IsCovered, IsHeld, IsKept, IsUpdate, Read, at_root, below, has_global, next, stays, updated, with_word}
use Rattle.access_history.specs.Held as held
use Rattle.access_history.specs.History.{First, IsPast, now, older, satp_at}
use Rattle.access_history.specs.Permits.{MayStandAt, Past, satp_of}
use Rattle.access_history.specs.Permits as permits
use Rattle.access_history.specs.declared.event.Event.{Event}
use Rattle.access_history.specs.declared.event.Event.TheVariants.{Store}
use Rattle.access_history.specs.declared.outcome.Request.{Request}
use Rattle.access_history.proofs.AdWords.{global_still}
use Rattle.access_history.proofs.Updates.{covered_still, had_update, leaf_now, set_in}
use Rattle.access_judge.specs.Search.{AreUses, Found, IsUnfenced, Item, Stand, Use, Version, below_of, ended, found_by, is_fenced, is_of_epoch, is_pointer, last_below, reads_at, root_at, search, search_all, search_from, space_fence, stands_now, stood, until}
use Rattle.access_judge.proofs.EpochEnds.{epoch_end_late, epoch_end_low, under_since}
use Rattle.access_judge.proofs.FencedReads.{kept_unfenced}
use Rattle.access_judge.proofs.FenceNumbers.{space_fence_low}
use Rattle.access_judge.proofs.KeptReads.{held_kept, kept_past, space_kept}
use Rattle.access_judge.proofs.Moments.{past_between, past_length, past_trans, past_until, unfenced_past, until_length, until_past}
use Rattle.access_judge.proofs.Parts.{EndedEach, IsAlike, IsUpdated, StoodEach}
use Rattle.access_judge.proofs.SearchKinds.{is_other_kind, is_same_kind}
use Rattle.access_judge.proofs.SearchLists.{contains_head, contains_later, flat_contains, map_contains}
use Rattle.access_judge.proofs.SearchReads.{IsFoundFor, IsStandOf, by_read, found_for, read_by, version_at, version_was}
use Rattle.access_judge.proofs.SearchStands.{onward}
use Rattle.access_judge.proofs.UpdatedReads.{alike_updated, update_again, update_alike}

module _ (x : Extensions) (f : First) (h : List Event) (us : List Use) (va : ℕ) (un : IsUnfenced h) (uses : AreUses f.satp h us) where
  -- all that comes from a stand is found, and it is for the last moment of its epoch
  pub record IsReached (s : Stand) : Type 0 where
    pub found : (i : Item) → Contains (search x f h va s.level s) i → Contains (search_all x f h us va) i
    pub latest : (m : ℕ) → m ≤ length h → space_fence (until h m) s.asid ≡ s.epoch → m ≤ s.last

  stood_in : (levels : ℕ) (s : Stand) → Contains (search x f h va levels s) (stood s)
  stood_in zero s = contains_head (stood s) (map ended (reads_at x f h va s))
  stood_in (suc levels) s = contains_head (stood s) (flat_map (onward x f h us va un uses levels s) (reads_at x f h va s))

  ended_in : (levels : ℕ) (s : Stand) (c : Found) → Contains (reads_at x f h va s) c → is_pointer x c ≡ false
      → Contains (search x f h va levels s) (ended c)
  ended_in zero s c has other = contains_later (stood s) (ended c) (map ended (reads_at x f h va s)) (map_contains ended (reads_at x f h va s) c has)
  ended_in (suc levels) s c has other =
      contains_later (stood s) (ended c) (flat_map (onward x f h us va un uses levels s) (reads_at x f h va s))
      (flat_contains (onward x f h us va un uses levels s) (reads_at x f h va s) c (ended c) has (rw other (contains_head (ended c) [])))

  onward_in : (levels : ℕ) (s : Stand) (c : Found) (i : Item) → Contains (reads_at x f h va s) c → is_pointer x c ≡ true
      → Contains (search x f h va levels (below_of h s c.read)) i → Contains (search x f h va (suc levels) s) i
  onward_in levels s c i has pointer inner =
      contains_later (stood s) i (flat_map (onward x f h us va un uses levels s) (reads_at x f h va s))
      (flat_contains (onward x f h us va un uses levels s) (reads_at x f h va s) c i has (rw pointer inner))

  reached_below : (s : Stand) (c : Found) (level : ℕ) → IsReached s → Contains (reads_at x f h va s) c → is_pointer x c ≡ true → s.level ≡ suc level
      → level ≡ c.read.level - 1 → c.read.asid ≡ s.asid → (c.read.global ≡ true) ⊎ (last_below h s c.read ≡ s.last) → IsReached (below_of h s c.read)
  reached_below s c level reached has pointer up same space last = record {
    found = λ i inner. reached.found i (subst (λ (n : ℕ). Contains (search x f h va n s) i) (sym up)
        (onward_in level s c i has pointer (subst (λ (n : ℕ). Contains (search x f h va n (below_of h s c.read)) i) (sym same) inner)));
    latest = λ m low epoch. elim last [
      | inl global ↦ rw global low
      | inr is ↦
          let own = reached.latest m low (ap (space_fence (until h m)) (sym space) ∙ epoch) in
          omega (arith, own, is)
    ];
  }

  late_past : (u : List Event) (last : ℕ) → IsPast h u → last ≤ length h → length u ≤ last → IsPast (until h last) u
  late_past u last was low late =
      let long = until_length h last low in
      past_between h (until h last) u (until_past h last) was (omega (arith, long, late))

  -- the stand at the root of a use of satp
  abbrev root_of : Use → ℕ → Stand
  root_of w level = record { level = level; table = root_ppn w.satp; asid = asid w.satp; global = false; epoch = w.epoch; last = w.last }

  in_root : (w : Use) (level : ℕ) → top_of w.satp ≡ Some level → is_canonical level va ≡ true → Contains (root_at va w (top_of w.satp)) (root_of w level)
  in_root w level top canonical = rw (top, canonical) (contains_head (root_of w level) [])

  root_reached : (w : Use) (level : ℕ) → Contains us w → Contains (root_at va w (top_of w.satp)) (root_of w level) → IsReached (root_of w level)
  root_reached w level among has = record {
    found = λ i inner. flat_contains (search_from x f h va) us w i among
        (flat_contains (λ (s : Stand). search x f h va s.level s) (root_at va w (top_of w.satp)) (root_of w level) i has inner);
    latest = λ m low epoch.
        let up = epoch_end_late h (asid w.satp) w.epoch m low epoch in
        let same = (uses.only w among).0 in
        omega (arith, up, same);
  }

  root_stand : (u : List Event) (r : Read) → IsPast h u → IsAtRoot f va u r → (s : Stand) × IsReached s × IsStandOf x f h va s u r
  root_stand u r was root =
      let began = under_since f root.satp u (unfenced_past h u un was) root.under in
      let k = began.0 in
      let at = past_trans h u k was began.1 in
      let used = uses.each (length k) (past_length h k at) in
      let moment = sym (past_until h k at) in
      let w = used.0 in
      let satp : w.satp ≡ root.satp = used.2 ∙ ap (satp_at f.satp) moment ∙ began.2 in
      let space : asid w.satp ≡ r.asid = ap asid satp ∙ sym root.space in
      let epoch : w.epoch ≡ space_fence u r.asid =
      used.3 ∙ ap (λ (g : List Event). space_fence g (asid (satp_at f.satp g))) moment ∙ ap (λ (n : ℕ). space_fence k (asid n)) began.2
      ∙ sym began.3 ∙ ap (space_fence u) (sym root.space) in
      let reached = root_reached w r.level used.1 (in_root w r.level (ap top_of satp ∙ root.highest) root.canonical) in
      let here : space_fence (until h (length u)) (asid w.satp) ≡ w.epoch =
      ap (λ (g : List Event). space_fence g (asid w.satp)) (sym (past_until h u was)) ∙ ap (space_fence u) space ∙ sym epoch in
      let low = last_low w used.1 in (
        root_of w r.level,
        reached,
        record {
          low = low;
          late = late_past u w.last was low (reached.latest (length u) (past_length h u was) here);
          level = refl;
          table = ap root_ppn satp ∙ sym root.root;
          global = root.global;
          space = inr (space, epoch);
        },
      ) where
        last_low : (w : Use) → Contains us w → w.last ≤ length h
        last_low w among = let low = epoch_end_low h (asid w.satp) w.epoch in let same = (uses.only w among).0 in omega (arith, low, same)

  -- the stand below a pointer that is held
  below_stand_of : (u since : List Event) (above r : Read) (s : Stand) (c : Found) → IsPast h u → IsHeld x f va u above since → IsReached s
      → s.last ≤ length h → IsFoundFor x f h va s above since c → IsBelow x above r
      → (t : Stand) × IsReached t × IsStandOf x f h va t u r × (t.global ≡ above.global)
  below_stand_of u since above r s c was held reached stand_low found is = (
    t,
    reached_below s c r.level reached found.among pointer (omega (arith, one, level, stands)) (omega (arith, one, level)) own why,
    record {
      low = low;
      late = late_past u t.last was low late;
      level = omega (arith, one, level);
      table = ap ppn found.alike.word ∙ sym is.table;
      global = is.global ∙ ap (λ (b : Bool). b || has_global r.word) (sym found.alike.global);
      space = space;
    },
    found.alike.global,
  ) where
    t : Stand
    t = below_of h s c.read

    one : above.level ≡ suc r.level
    one = is.next_level

    level : c.read.level ≡ above.level
    level = found.alike.level

    pointer : is_pointer x c ≡ true
    pointer = is_same_kind (kind_in x c.read.level c.read.word) Pointer (ap₂ (kind_in x) found.alike.level found.alike.word ∙ is.pointer)

    stands : s.level ≡ c.read.level
    stands = let read = read_by x f h va s c found.among in ap (λ (d : Found). d.read.level) read.2

    own : c.read.asid ≡ s.asid
    own = let read = read_by x f h va s c found.among in ap (λ (d : Found). d.read.asid) (sym read.2)

    last : (b : Bool) → c.read.global ≡ b → (c.read.global ≡ true) ⊎ ((c.read.global ≡ false) × ((if c.read.global then length h else s.last) ≡ s.last))
    last true all = inl all
    last false local = inr (local, rw local refl)

    cases : (c.read.global ≡ true) ⊎ ((c.read.global ≡ false) × (t.last ≡ s.last))
    cases = last c.read.global refl

    why : (c.read.global ≡ true) ⊎ (t.last ≡ s.last)
    why = elim cases [ inl all ↦ inl all | inr local ↦ inr local.1 ]

    low : t.last ≤ length h
    low = elim cases [
      | inl all ↦ rw all (omega arith)
      | inr local ↦ let same = local.1 in omega (arith, same, stand_low)
    ]

    -- of an address space of its own: no fence of the ASID came since the pointer was read
    plain : c.read.global ≡ false → (c.read.asid ≡ above.asid) × (s.epoch ≡ space_fence u above.asid)
    plain local = (
      elim found.alike.asid [
        | inl same ↦ same
        | inr all ↦ absurd (both_ways c.read.global local (found.alike.global ∙ all))
      ],
      elim found.epoch [
        | inl all ↦ absurd (both_ways c.read.global local (found.alike.global ∙ all))
        | inr same ↦ same ∙ sym (space_kept x f va above u since (unfenced_past h u un was) (sym found.alike.global ∙ local) (held_kept x f va u since above held))
      ],
    )

    late : length u ≤ t.last
    late = elim cases [
      | inl all ↦ let short = past_length h u was in rw all short
      | inr local ↦
          let alone = plain local.0 in
          let here : space_fence (until h (length u)) s.asid ≡ s.epoch =
          ap (λ (g : List Event). space_fence g s.asid) (sym (past_until h u was)) ∙ ap (space_fence u) (sym own ∙ alone.0) ∙ sym alone.1 in
          let up = reached.latest (length u) (past_length h u was) here in
          let same = local.1 in
          omega (arith, up, same)
    ]

    space : (t.global ≡ true) ⊎ ((t.asid ≡ r.asid) × (t.epoch ≡ space_fence u r.asid))
    space = elim cases [
      | inl all ↦ inl all
      | inr local ↦
          let alone = plain local.0 in
          let same : above.asid ≡ r.asid = sym is.space in
          inr (alone.0 ∙ same, alone.1 ∙ ap (space_fence u) same)
    ]

  -- a read is one that a walk read at a stand, or what an update after the stand made of it
  data IsOf (s : Stand) (u : List Event) (b : Read) (since : List Event) : Read → List Event → Type 0 where
    itself : IsOf s u b since b since
    set : {e : Event} {k : List Event} {w : ℕ} → IsPast u (e ∷ k) → s.last ≤ length k → IsUpdate x f va e k b w → IsOf s u b since (with_word b w) (e ∷ k)

  -- the search comes by a read at a stand
  record IsFound (u : List Event) (b : Read) (since : List Event) (s : Stand) (c : Found) : Type 0 where
    low : s.last ≤ length h
    reached : IsReached s
    found : IsFoundFor x f h va s b since c
    kept : IsKept x f va b u since

  abbrev Comes : List Event → List Event → Read → Type 0
  Comes u past r = (b : Read) × (since : List Event) × (s : Stand) × (c : Found) × IsFound u b since s c × IsOf s u b since r past

  -- a pointer is no leaf that was updated
  found_pointer : (u since past : List Event) (b r : Read) (s : Stand) (c : Found) → IsOf s u b since r past → kind_in x r.level r.word ≡ Pointer
      → IsFoundFor x f h va s b since c → IsFoundFor x f h va s r past c
  found_pointer u since past b r s c itself pointer found = found
  found_pointer u since past b r s c (set {e = e} {k = k} {w = w} at late is) pointer found =
      let leaf : Leaf ≡ Pointer = sym (leaf_now x f va e k b w is) ∙ pointer in
      cc

  -- what is kept through an event
  kept_on : (u since past : List Event) (b r : Read) (s : Stand) (e : Event) → IsOf s u b since r past → (IsCovered x f va e u r past → ⊥)
      → IsCovered x f va e u b since → ⊥
  kept_on u since past b r s e itself free covered = free covered
  kept_on u since past b r s e (set {e = d} {k = k} {w = w} at late is) free covered =
      free (covered_still x f va b w (set_in x f va d k b w is) is.leaf e u since (d ∷ k) covered)

  of_later : (u since past : List Event) (b r : Read) (s : Stand) (e : Event) → IsOf s u b since r past → IsOf s (e ∷ u) b since r past
  of_later u since past b r s e itself = itself
  of_later u since past b r s e (set at late is) = set (older at) late is

  -- an update by a read is one by what it is of
  update_of_read : (u since past : List Event) (b r : Read) (s : Stand) (e : Event) (k : List Event) (w : ℕ) → IsOf s u b since r past
      → IsUpdate x f va e k r w → IsUpdate x f va e k b w × (with_word b w ≡ with_word r w)
  update_of_read u since past b r s e k w itself is = (is, refl)
  update_of_read u since past b r s e k w (set {e = d} {k = g} {w = v} at late first) is = (update_again x f va d e g k b v w first is, refl)

  no_fence : (e : Event) (u : List Event) (space table index w : ℕ) → e ≡ Store table index w → space_fence (e ∷ u) space ≡ space_fence u space
  no_fence e u space table index w is = subst (λ (d : Event). space_fence (d ∷ u) space ≡ space_fence u space) (sym is) refl

  -- an update up to the stand's last moment may be read there
  found_update : (e : Event) (u since : List Event) (b : Read) (s : Stand) (c : Found) (w : ℕ) → IsPast h (e ∷ u) → length (e ∷ u) ≤ s.last
      → IsFound u b since s c → IsUpdate x f va e u b w → (d : Found) × IsFoundFor x f h va s (with_word b w) (e ∷ u) d
  found_update e u since b s c w was early is up =
      let found = is.found in
      let read = read_by x f h va s c found.among in
      let same = read.2 in
      let level : s.level ≡ b.level = ap (λ (d : Found). d.read.level) same ∙ found.alike.level in
      let table : s.table ≡ b.table = ap (λ (d : Found). d.read.table) same ∙ found.alike.table in
      let there = version_at x f h va s (e ∷ u) (with_word b w) is.low (late_past (e ∷ u) s.last was is.low early) level table (had_update x f va e u b w up) in
      let v = there.0 in
      let late = there.3 in
      let global_word : has_global v.word ≡ has_global read.0.word =
      ap has_global there.2 ∙ global_still b.word w (set_in x f va e u b w up)
      ∙ ap has_global (sym found.alike.word ∙ ap (λ (d : Found). d.read.word) (sym same)) in
      let global : (s.global || has_global v.word) ≡ b.global =
      ap (λ (g : Bool). s.global || g) global_word ∙ ap (λ (d : Found). d.read.global) same ∙ found.alike.global in
      let short = past_length u since (kept_past x f va b u since is.kept) in (
        found_by s v,
        record {
          among = by_read x f h va s v (record { among = there.1; of_epoch = of_epoch v global (omega (arith, short, late)); passes = read.1.passes });
          alike = record { level = level; table = table; word = there.2; global = global; asid = space read.0 same };
          late = late;
          epoch = epoch;
        },
      ) where
        of_epoch : (v : Version) → (s.global || has_global v.word) ≡ b.global → length since ≤ v.last → is_of_epoch s (found_by s v) ≡ true
        of_epoch v global late = elim is.found.epoch [
          | inl all ↦ or_left (s.global || has_global v.word) (nat_le s.epoch v.last) (global ∙ all)
          | inr at ↦
              let low = space_fence_low since b.asid in
              or_right (s.global || has_global v.word) (nat_le s.epoch v.last) (le-leb s.epoch v.last (omega (arith, low, at, late)))
        ]

        space : (v : Version) → found_by s v ≡ c → (s.asid ≡ b.asid) ⊎ (b.global ≡ true)
        space v same = elim is.found.alike.asid [
          | inl own ↦ inl (ap (λ (d : Found). d.read.asid) same ∙ own)
          | inr all ↦ inr all
        ]

        epoch : (b.global ≡ true) ⊎ (s.epoch ≡ space_fence (e ∷ u) b.asid)
        epoch = elim is.found.epoch [
          | inl all ↦ inl all
          | inr at ↦ elim (cases_Bool b.global) [
            | inl all ↦ inl all
            | inr plain ↦ inr (at ∙ sym (space_kept x f va b u since (unfenced_past h u un (past_trans h (e ∷ u) u was (older now))) plain is.kept)
                ∙ sym (no_fence e u b.asid b.table up.index w up.stores))
          ]
        ]

  -- what an update makes of a leaf by which the search comes
  comes_updated : (e : Event) (u since : List Event) (b : Read) (s : Stand) (c : Found) (w : ℕ) → IsPast h (e ∷ u) → IsFound u b since s c
      → IsUpdate x f va e u b w → Comes (e ∷ u) (e ∷ u) (with_word b w)
  comes_updated e u since b s c w was is up = elim (cases_lt (length u) s.last) [
    | inl early ↦
        let at = found_update e u since b s c w was (omega (arith, early)) is up in
        (with_word b w, e ∷ u, s, at.0, record { low = is.low; reached = is.reached; found = at.1; kept = held.now }, itself)
    | inr late ↦
        let kept = next is.kept (λ covered. subst (λ (d : Event). IsCovered x f va d u b since) up.stores covered) in
        (b, since, s, c, record { low = is.low; reached = is.reached; found = is.found; kept = kept }, set now late up)
  ]

  finds : (u past : List Event) (r : Read) → IsPast h u → IsHeld x f va u r past → Comes u past r
  finds u past r was (at_root may root) =
      let stand = root_stand u r was root in
      let found = found_for x f h va stand.0 u past r un stand.2 may (kept_past x f va r u past may.kept) in
      (r, past, stand.0, found.0, record { low = stand.2.low; reached = stand.1; found = found.1; kept = may.kept }, itself)
  finds u past r was (below {since = since} {above = above} held may is) =
      let up = finds u since above was held in
      let s = up.2 in
      let c = up.3 in
      let above_found = found_pointer u up.1 since up.0 above s c up.5 is.pointer up.4.found in
      let stand = below_stand_of u since above r s c was held up.4.reached up.4.low above_found is in
      let found = found_for x f h va stand.0 u past r un stand.2 may (kept_past x f va r u past may.kept) in
      (r, past, stand.0, found.0, record { low = stand.2.low; reached = stand.1; found = found.1; kept = may.kept }, itself)
  finds u past r was (stays {h = before} {e = e} held free) =
      let is = finds before past r (past_trans h u before was (older now)) held in
      let b = is.0 in
      let since = is.1 in
      let s = is.2 in
      let found = is.4 in (
        b,
        since,
        s,
        is.3,
        record { low = found.low; reached = found.reached; found = found.found; kept = next found.kept (kept_on before since past b r s e is.5 free) },
        of_later before since past b r s e is.5,
      )
  finds u past r was (updated {h = before} {past = read_past} {r = q} {e = e} {w = w} held up) =
      let is = finds before read_past q (past_trans h u before was (older now)) held in
      let b = is.0 in
      let since = is.1 in
      let s = is.2 in
      let own = update_of_read before since read_past b q s e before w is.5 up in
      subst (λ (p : Read). Comes (e ∷ before) (e ∷ before) p) own.1 (comes_updated e before since b s is.3 w was is.4 own.0)

  -- what the search comes by for a PTE that is no pointer
  ended_for : (r b : Read) (past since : List Event) (s : Stand) (c : Found) → IsFound h b since s c → kind_in x b.level b.word ≢ Pointer
      → Contains (search_all x f h us va) (ended c) × (is_fenced x f h va c ≡ false) × (c.last ≤ s.last)
  ended_for r b past since s c is kind =
      let found = is.found in
      let same : kind_in x c.read.level c.read.word ≡ kind_in x b.level b.word = ap₂ (kind_in x) found.alike.level found.alike.word in
      let other = is_other_kind (kind_in x c.read.level c.read.word) Pointer (λ pointer. kind (sym same ∙ pointer)) in
      let passes = kept_unfenced x f h va un c b since found.alike found.late kind is.kept in
      let read = read_by x f h va s c found.among in
      let low = (version_was x f h va s read.0 is.low read.1.among).0 in
      let last = ap (λ (d : Found). d.last) read.2 in
      (is.reached.found (ended c) (ended_in s.level s c found.among other), passes, omega (arith, low, last))

  no_leaf_pointer : (b : Read) → kind_in x b.level b.word ≡ Leaf → kind_in x b.level b.word ≢ Pointer
  no_leaf_pointer b leaf pointer = let bad : Leaf ≡ Pointer = sym leaf ∙ pointer in cc

  comes_each : (r b : Read) (past since : List Event) (s : Stand) (c : Found) → IsFound h b since s c → IsOf s h b since r past
      → kind_in x r.level r.word ≢ Pointer
      → (d : Found) × Contains (search_all x f h us va) (ended d) × (is_fenced x f h va d ≡ false) × (IsAlike d.read r ⊎ IsUpdated x f h va d r)
  comes_each r b past since s c is itself kind =
      let at = ended_for r b past since s c is kind in
      (c, at.0, at.1, inl is.found.alike)
  comes_each r b past since s c is (set {e = e} {k = k} {w = w} in_past late up) kind =
      let at = ended_for r b past since s c is (no_leaf_pointer b up.leaf) in
      let low = at.2 in (
        c,
        at.0,
        at.1,
        inr (record {
          word = w;
          event = e;
          before = k;
          past = in_past;
          late = omega (arith, low, late);
          update = update_alike x f va e k w c.read b is.found.alike up;
          alike = alike_updated c.read b w is.found.alike;
        }),
      )

pub ended_each : (x : Extensions) (f : First) (h : List Event) (us : List Use) (va : ℕ) → IsUnfenced h → AreUses f.satp h us → EndedEach x f h us va
ended_each x f h us va un uses r past held kind =
    let all = finds x f h us va un uses h past r now held in
    comes_each x f h us va un uses r all.0 past all.1 all.2 all.3 all.4 all.5 kind

-- a walk of the present satp may be at the stand of its read
now_at : (x : Extensions) (p : Past) (q : Request) (r : Read) (s : Stand) → IsStandOf x p.first p.events q.va.0 s p.events r
    → (s.asid ≡ asid (satp_of p)) ⊎ (s.global ≡ true) → stands_now p s ≡ true
now_at x p q r s stand own =
    let late = past_length (until p.events s.last) p.events stand.late in
    let low = stand.low in
    let long = until_length p.events s.last low in
    and_from (s.last == length p.events) (s.asid == asid (satp_of p) || s.global) (eq-eqb s.last (length p.events) (omega (arith, late, low, long)))
    (elim own [
      | inl same ↦ or_left (s.asid == asid (satp_of p)) s.global (eq-eqb s.asid (asid (satp_of p)) same)
      | inr global ↦ or_right (s.asid == asid (satp_of p)) s.global global
    ])

stood_at : (x : Extensions) (p : Past) (us : List Use) (q : Request) (un : IsUnfenced p.events) (uses : AreUses p.first.satp p.events us) (r : Read)
    (s : Stand) → IsReached x p.first p.events us q.va.0 un uses s → IsStandOf x p.first p.events q.va.0 s p.events r
    → (s.asid ≡ asid (satp_of p)) ⊎ (s.global ≡ true)
    → (s : Stand) × Contains (search_all x p.first p.events us q.va.0) (stood s) × (stands_now p s ≡ true) × (s.level ≡ r.level) × (s.table ≡ r.table)
stood_at x p us q un uses r s reached stand own =
    let has = reached.found (stood s) (stood_in x p.first p.events us q.va.0 un uses s.level s) in
    (s, has, now_at x p q r s stand own, stand.level, stand.table)

pub stood_each : (x : Extensions) (p : Past) (us : List Use) (q : Request) → IsUnfenced p.events → AreUses p.first.satp p.events us
    → StoodEach x p us q
stood_each x p us q un uses r (permits.at_root root own) =
    let stand = root_stand x p.first p.events us q.va.0 un uses p.events r now root in
    stood_at x p us q un uses r stand.0 stand.1 stand.2 (elim stand.2.space [
      | inl global ↦ inr global
      | inr same ↦ inl (same.0 ∙ own)
    ])
stood_each x p us q un uses r (permits.below {above = above} {since = since} held under serves) =
    let up = finds x p.first p.events us q.va.0 un uses p.events since above now held in
    let found = found_pointer x p.first p.events us q.va.0 un uses p.events up.1 since up.0 above up.2 up.3 up.5 under.pointer up.4.found in
    let stand = below_stand_of x p.first p.events us q.va.0 un uses p.events since above r up.2 up.3 now held up.4.reached up.4.low found under in
    stood_at x p us q un uses r stand.0 stand.1 stand.2 (elim stand.2.space [
      | inl global ↦ inr global
      | inr same ↦ elim serves [
        | inl own ↦ inl (same.0 ∙ own)
        | inr global ↦ inr (stand.3 ∙ global)
      ]
    ])
