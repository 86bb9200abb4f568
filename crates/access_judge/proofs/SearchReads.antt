-- Lemmas of what the search reads at a stand: the words that a walk there may read, each with its last moment.
use Rattle.std.proofs.Common.{◌≡◌, ◌⊎◌, ℕ, ◌+◌, ◌*◌, ◌/◌, ◌%◌, ◌≤◌, ◌==◌, ◌&&◌, ◌||◌, nat_le, Bool, true, false, List, map, length, refl, sym, ◌∙◌, ap, subst, inl, inr, arith, Some}
use Rattle.std.proofs.lemmas.Bool.{and_parts, and_from, cases_Bool, eq-eqb, eqb-true, le-leb, or_left, or_right}
use Rattle.std.proofs.lemmas.List.Elements.{Contains-append_cases, Contains-append_left, Contains-append_right}
use Rattle.std.specs.List.{Contains, filter, range_with_len}
use Rattle.sv39_entry.specs.Address.{page_of, vpn}
use Rattle.sv39_entry.specs.declared.access.Access.TheVariants as access
use Rattle.sv39_entry.specs.declared.entry.Kind.TheVariants.{Leaf}
use Rattle.walk_rules.specs.Kinds.{is_napot, kind_in}
use Rattle.walk_rules.specs.declared.extensions.Extensions.{Extensions}
use Rattle.walk_rules.specs.declared.status.Privilege.TheVariants as privilege
use Rattle.access_history.specs.Held.{HadWord, MayRead, Read, has_global}
use Rattle.access_history.specs.History.{First, IsPast, memory_at}
use Rattle.access_history.specs.declared.event.Event.{Event}
use Rattle.access_judge.specs.Search.{Found, IsUnfenced, Stand, Version, found_by, group_versions, is_kind, is_napot_leaf, is_of_epoch, may_pass, own_versions, place_at, reads_at, space_fence, until, versions, versions_at}
use Rattle.access_judge.proofs.KeptReads.{space_kept}
use Rattle.access_judge.proofs.Moments.{past_length, past_trans, past_until, unfenced_past, until_length, until_past}
use Rattle.access_judge.proofs.FenceNumbers.{space_fence_low}
use Rattle.access_judge.proofs.Parts.{IsAlike}
use Rattle.access_judge.proofs.SearchKinds.{is_same_kind, kind_is, passes_later}
use Rattle.access_judge.proofs.SearchLists.{contains_none, filter_contains, filter_from, flat_contains, flat_from, map_contains, map_from, range_contains, range_low}
use Rattle.access_judge.proofs.WordVersions.{version_had, version_of}

module _ (x : Extensions) (f : First) (h : List Event) (va : ℕ) where
  -- a version that the search reads at a stand
  pub record IsReadBy (s : Stand) (v : Version) : Type 0 where
    pub among : Contains (versions_at x f h va s) v
    pub of_epoch : is_of_epoch s (found_by s v) ≡ true
    pub passes : may_pass f (until h s.last) privilege.Supervisor access.Load (place_at va s) 8 ≡ true

  pub read_by : (s : Stand) (c : Found) → Contains (reads_at x f h va s) c → (v : Version) × IsReadBy s v × (found_by s v ≡ c)
  read_by s c has = elim (cases_Bool (may_pass f (until h s.last) privilege.Supervisor access.Load (place_at va s) 8)) [
    | inr fails ↦ absurd (contains_none c (rw fails at has))
    | inl passes ↦
        let kept = filter_from (is_of_epoch s) (map (found_by s) (versions_at x f h va s)) c (rw passes at has) in
        let made = map_from (found_by s) (versions_at x f h va s) c kept.0 in
        let of_epoch = subst (λ (d : Found). is_of_epoch s d ≡ true) (sym made.2) kept.1 in
        (made.0, record { among = made.1; of_epoch = of_epoch; passes = passes }, made.2)
  ]

  pub by_read : (s : Stand) (v : Version) → IsReadBy s v → Contains (reads_at x f h va s) (found_by s v)
  by_read s v is =
      rw is.passes (filter_contains (is_of_epoch s) (map (found_by s) (versions_at x f h va s)) (found_by s v)
      (map_contains (found_by s) (versions_at x f h va s) v is.among) is.of_epoch)

  -- the word was there at its last moment, which is not after that of the stand
  pub version_was : (s : Stand) (v : Version) → s.last ≤ length h → Contains (versions_at x f h va s) v
      → (v.last ≤ s.last) × HadWord x f va (until h v.last) (found_by s v).read
  version_was s v low has = elim (cases_Bool (x.svnapot && s.level == 0)) [
    | inr plain ↦ own (rw plain at has)
    | inl napot ↦ elim (Contains-append_cases (own_versions f h va s) (group_versions x f h va s) v (rw napot at has)) [
      | inl here ↦ own here
      | inr there ↦
          let parts = and_parts x.svnapot (s.level == 0) napot in
          let base = vpn (page_of va) 0 / 16 * 16 in
          let up = flat_from (λ (n : ℕ). filter (is_napot_leaf x) (versions f.memory (until h s.last) s.table (base + n))) (range_with_len 0 16) v there in
          let kept = filter_from (is_napot_leaf x) (versions f.memory (until h s.last) s.table (base + up.0)) v up.2 in
          let leaf = and_parts (is_napot 0 v.word) (is_kind (kind_in x 0 v.word) Leaf) kept.1 in
          let at = was (base + up.0) kept.0 in
          let small = range_low 16 up.0 up.1 in
          let group : (base + up.0) / 16 ≡ vpn (page_of va) 0 / 16 = omega (arith, small) in
          (at.0, inr (parts.0, eqb-true s.level 0 parts.1, leaf.0, kind_is (kind_in x 0 v.word) Leaf leaf.1, (base + up.0, group, at.1)))
    ]
  ] where
    was : (index : ℕ) → Contains (versions f.memory (until h s.last) s.table index) v
        → (v.last ≤ s.last) × (memory_at f.memory (until h v.last) s.table index ≡ Some v.word)
    was index among =
        let had = version_had f.memory (until h s.last) s.table index v among in
        let long = past_length (until h s.last) had.0 had.1 in
        let number = had.2 in
        let stand = until_length h s.last low in
        let moment : had.0 ≡ until h v.last = past_until h had.0 (past_trans h (until h s.last) had.0 (until_past h s.last) had.1) ∙ ap (until h) had.2 in
        (omega (arith, long, number, stand), subst (λ (k : List Event). memory_at f.memory k s.table index ≡ Some v.word) moment had.3)

    own : Contains (own_versions f h va s) v → (v.last ≤ s.last) × HadWord x f va (until h v.last) (found_by s v).read
    own among = let at = was (vpn (page_of va) s.level) among in (at.0, inl at.1)

  -- a word that the walk may have read at a moment up to that of the stand is there as a version that is not older
  pub version_at : (s : Stand) (past : List Event) (r : Read) → s.last ≤ length h → IsPast (until h s.last) past → s.level ≡ r.level → s.table ≡ r.table
      → HadWord x f va past r → (v : Version) × Contains (versions_at x f h va s) v × (v.word ≡ r.word) × (length past ≤ v.last)
  version_at s past r low was level table (inl had) =
      let word = rw (← level, ← table) at had in
      let stand = until_length h s.last low in
      let found = version_of (length (until h s.last)) f.memory (until h s.last) past s.table (vpn (page_of va) s.level) r.word (omega arith) was word in
      (found.0, among found.0 found.1, found.2, found.3) where
        among : (v : Version) → Contains (own_versions f h va s) v → Contains (versions_at x f h va s) v
        among v has = elim (cases_Bool (x.svnapot && s.level == 0)) [
          | inl napot ↦ rw napot (Contains-append_left (own_versions f h va s) (group_versions x f h va s) v has)
          | inr plain ↦ rw plain has
        ]
  version_at s past r low was level table (inr had) =
      let index = had.4.0 in
      let base = vpn (page_of va) 0 / 16 * 16 in
      let group = had.4.1 in
      let here : index ≡ base + index % 16 = omega (arith, group) in
      let word = rw (← table, here) at had.4.2 in
      let found = version_of (length (until h s.last)) f.memory (until h s.last) past s.table (base + index % 16) r.word (omega arith) was word in
      let napot = and_from x.svnapot (s.level == 0) had.0 (eq-eqb s.level 0 (level ∙ had.1)) in
      let leaf = and_from (is_napot 0 found.0.word) (is_kind (kind_in x 0 found.0.word) Leaf)
      (ap (is_napot 0) found.2 ∙ had.2) (is_same_kind (kind_in x 0 found.0.word) Leaf (ap (kind_in x 0) found.2 ∙ had.3)) in
      let kept = filter_contains (is_napot_leaf x) (versions f.memory (until h s.last) s.table (base + index % 16)) found.0 found.1 leaf in
      let among = flat_contains (λ (n : ℕ). filter (is_napot_leaf x) (versions f.memory (until h s.last) s.table (base + n))) (range_with_len 0 16)
      (index % 16) found.0 (range_contains 16 (index % 16) (omega arith)) kept in
      (found.0, rw napot (Contains-append_right (own_versions f h va s) (group_versions x f h va s) found.0 among), found.2, found.3)

  -- what the search reads at a stand for a PTE that a walk read
  pub record IsFoundFor (s : Stand) (r : Read) (past : List Event) (c : Found) : Type 0 where
    pub among : Contains (reads_at x f h va s) c
    pub alike : IsAlike c.read r
    pub late : length past ≤ c.last
    pub epoch : (r.global ≡ true) ⊎ (s.epoch ≡ space_fence past r.asid)

  -- a stand is at a read's table, and of its address space and epoch, or below a global pointer as it is
  pub record IsStandOf (s : Stand) (u : List Event) (r : Read) : Type 0 where
    pub low : s.last ≤ length h
    pub late : IsPast (until h s.last) u
    pub level : s.level ≡ r.level
    pub table : s.table ≡ r.table
    pub global : r.global ≡ (s.global || has_global r.word)
    pub space : (s.global ≡ true) ⊎ ((s.asid ≡ r.asid) × (s.epoch ≡ space_fence u r.asid))

  pub found_for : (s : Stand) (u past : List Event) (r : Read) → IsUnfenced h → IsStandOf s u r → MayRead x f va u r past → IsPast u past
      → (c : Found) × IsFoundFor s r past c
  found_for s u past r un stand may was =
      let there = version_at s past r stand.low (past_trans (until h s.last) u past stand.late was) stand.level stand.table may.had in
      let v = there.0 in
      let same : (s.global || has_global v.word) ≡ r.global = ap (λ (w : ℕ). s.global || has_global w) there.2 ∙ sym stand.global in
      let late = there.3 in
      let epoch = epoch_of r.global refl in
      let serves = of_epoch v same late epoch in
      let allowed = rw (← stand.level, ← stand.table) at may.allowed in
      let passes = passes_later f (until h s.last) u s.table (vpn (page_of va) s.level) (unfenced_past h (until h s.last) un (until_past h s.last))
      stand.late allowed in (
        found_by s v,
        record {
          among = by_read s v (record { among = there.1; of_epoch = serves; passes = passes });
          alike = record { level = stand.level; table = stand.table; word = there.2; global = same; asid = asid_of };
          late = late;
          epoch = epoch;
        },
      ) where
        asid_of : (s.asid ≡ r.asid) ⊎ (r.global ≡ true)
        asid_of = elim stand.space [
          | inl global ↦ inr (stand.global ∙ or_left s.global (has_global r.word) global)
          | inr same ↦ inl same.0
        ]

        epoch_of : (b : Bool) → r.global ≡ b → (r.global ≡ true) ⊎ (s.epoch ≡ space_fence past r.asid)
        epoch_of true is = inl is
        epoch_of false is = elim stand.space [
          | inl global ↦ inl (stand.global ∙ or_left s.global (has_global r.word) global)
          | inr same ↦
              let un_then = unfenced_past (until h s.last) u (unfenced_past h (until h s.last) un (until_past h s.last)) stand.late in
              inr (same.1 ∙ space_kept x f va r u past un_then is may.kept)
        ]

        of_epoch : (v : Version) → (s.global || has_global v.word) ≡ r.global → length past ≤ v.last
            → (r.global ≡ true) ⊎ (s.epoch ≡ space_fence past r.asid) → is_of_epoch s (found_by s v) ≡ true
        of_epoch v same late (inl global) = or_left (s.global || has_global v.word) (nat_le s.epoch v.last) (same ∙ global)
        of_epoch v same late (inr is) =
            let low = space_fence_low past r.asid in
            or_right (s.global || has_global v.word) (nat_le s.epoch v.last) (le-leb s.epoch v.last (omega (arith, low, is, late)))
