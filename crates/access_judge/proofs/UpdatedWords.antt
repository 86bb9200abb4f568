-- Lemmas of the updates in a place: each is a store that came after a moment, and each such store is one of them.
use Rattle.std.proofs.Common.{◌≡◌, ◌⊎◌, ℕ, ◌≤◌, ◌==◌, ◌&&◌, nat_le, true, List, [], ◌∷◌, length, refl, sym, ap, subst, inl, inr, arith, Option, Some, None, if◌then◌else◌}
use Rattle.std.proofs.lemmas.Bool.{and_from, and_parts, eq-eqb, eqb-true, le-leb, leb-true}
use Rattle.std.proofs.lemmas.List.Elements.{Contains-append_cases, Contains-append_left, Contains-append_right}
use Rattle.std.specs.List.{Contains}
use Rattle.access_history.specs.Held.{sets_ad}
use Rattle.access_history.specs.History.{IsPast, Memory, memory_at, now, older}
use Rattle.access_history.specs.declared.event.Event.{Event}
use Rattle.access_history.specs.declared.event.Event.TheVariants.{Store, WriteSatp, WritePmp, Fence}
use Rattle.access_judge.specs.Search.{Version, first_version, updated_behind, updated_words, versions_until}
use Rattle.access_judge.proofs.Listed.{alone, guarded, past_guard}
use Rattle.access_judge.proofs.SearchLists.{contains_head, contains_none}
use Rattle.access_judge.proofs.WordVersions.{same_place}

-- ---- the newest version is the word of now

abbrev Begins : List Version → ℕ → ℕ → Type 0
Begins vs w last = (rest : List Version) × (vs ≡ record { word = w; last = last } ∷ rest)

first_begins : (last w : ℕ) (o : Option ℕ) → o ≡ Some w → Begins (first_version last o) w last
first_begins last w None is = cc
first_begins last w (Some v) is = let same : v ≡ w = cc in ([], ap (λ (n : ℕ). record { word = n; last = last } ∷ []) same)

begins : (last : ℕ) (m : Memory) (h : List Event) (table index w : ℕ) → memory_at m h table index ≡ Some w
    → Begins (versions_until last m h table index) w last
begins last m [] table index w is = first_begins last w (m table index) is
begins last m (Store p i word ∷ h) table index w is = elim (same_place p i table index) [
  | inl same ↦ rw same.0 (
      let first = rw same.1 at is in
      let equal : word ≡ w = cc in
      let rest = versions_until (length h) m h table index in
      (rest, ap (λ (n : ℕ). record { word = n; last = last } ∷ rest) equal)
      )
  | inr other ↦ rw other.0 (let before = rw other.1 at is in begins last m h table index w before)
]
begins last m (WriteSatp s ∷ h) table index w is = begins last m h table index w is
begins last m (WritePmp n e ∷ h) table index w is = begins last m h table index w is
begins last m (Fence a s ∷ h) table index w is = begins last m h table index w is

abbrev IsNewest : ℕ → Memory → List Event → ℕ → ℕ → Version → Type 0
IsNewest last m h table index v = (v.last ≡ last) × (memory_at m h table index ≡ Some v.word)

first_newest : (last : ℕ) (o : Option ℕ) (v : Version) (rest : List Version) → first_version last o ≡ v ∷ rest → (v.last ≡ last) × (o ≡ Some v.word)
first_newest last None v rest is = cc
first_newest last (Some w) v rest is = let same : record { word = w; last = last } ≡ v = cc in
    (ap (λ (u : Version). u.last) (sym same), ap (λ (u : Version). Some u.word) same)

newest : (last : ℕ) (m : Memory) (h : List Event) (table index : ℕ) (v : Version) (rest : List Version) → versions_until last m h table index ≡ v ∷ rest
    → IsNewest last m h table index v
newest last m [] table index v rest is = first_newest last (m table index) v rest is
newest last m (Store p i word ∷ h) table index v rest is = elim (same_place p i table index) [
  | inl same ↦
      let list = rw same.0 at is in
      let equal : record { word = word; last = last } ≡ v = cc in
      (ap (λ (u : Version). u.last) (sym equal), rw same.1 (ap (λ (u : Version). Some u.word) equal))
  | inr other ↦ rw other.1 (newest last m h table index v rest (rw other.0 at is))
]
newest last m (WriteSatp s ∷ h) table index v rest is = newest last m h table index v rest is
newest last m (WritePmp n e ∷ h) table index v rest is = newest last m h table index v rest is
newest last m (Fence a s ∷ h) table index v rest is = newest last m h table index v rest is

-- ---- updates are stores

-- a store after a moment puts a word over another, as an update of A and D by a leaf
pub record IsUpdateOf (m : Memory) (h : List Event) (table index last w u : ℕ) : Type 0 where
  pub before : List Event
  pub was : ℕ
  pub past : IsPast h (Store table index u ∷ before)
  pub late : last ≤ length before
  pub had : memory_at m before table index ≡ Some was
  pub sets : sets_ad w was u ≡ true

-- the word that was stored last over the first of these versions is an update
record IsUpdateOver (last w new : ℕ) (vs : List Version) (u : ℕ) : Type 0 where
  over : Version
  rest : List Version
  first : vs ≡ over ∷ rest
  late : last ≤ over.last
  sets : sets_ad w over.word new ≡ true
  same : new ≡ u

behind_cases : (last w new : ℕ) (vs : List Version) (u : ℕ) → Contains (updated_behind last w new vs) u
    → IsUpdateOver last w new vs u ⊎ Contains (updated_words last w vs) u
behind_cases last w new [] u has = absurd (contains_none u has)
behind_cases last w new (v ∷ vs) u has =
    elim (Contains-append_cases (if nat_le last v.last && sets_ad w v.word new then new ∷ [] else []) (updated_behind last w v.word vs) u has) [
      | inl here ↦
          let at = guarded (nat_le last v.last && sets_ad w v.word new) (new ∷ []) u here in
          let both = and_parts (nat_le last v.last) (sets_ad w v.word new) at.0 in
          inl (record { over = v; rest = vs; first = refl; late = leb-true last v.last both.0; sets = both.1; same = alone new u at.1 })
      | inr later ↦ inr later
    ]

first_none : (last w l : ℕ) (o : Option ℕ) (u : ℕ) → Contains (updated_words last w (first_version l o)) u → ⊥
first_none last w l None u has = contains_none u has
first_none last w l (Some v) u has = contains_none u has

still_update : (m : Memory) (e : Event) (h : List Event) (table index last w u : ℕ) → IsUpdateOf m h table index last w u → IsUpdateOf m (e ∷ h) table index last w u
still_update m e h table index last w u is =
    record { before = is.before; was = is.was; past = older is.past; late = is.late; had = is.had; sets = is.sets }

pub update_of : (l : ℕ) (m : Memory) (h : List Event) (table index last w u : ℕ) → Contains (updated_words last w (versions_until l m h table index)) u
    → IsUpdateOf m h table index last w u
update_of l m [] table index last w u has = absurd (first_none last w l (m table index) u has)
update_of l m (Store p i new ∷ h) table index last w u has = elim (same_place p i table index) [
  | inr other ↦ still_update m (Store p i new) h table index last w u (update_of l m h table index last w u (rw other.0 at has))
  | inl same ↦ elim (behind_cases last w new (versions_until (length h) m h table index) u (rw same.0 at has)) [
    | inr later ↦ still_update m (Store p i new) h table index last w u (update_of (length h) m h table index last w u later)
    | inl over ↦
        let v = over.over in
        let top = newest (length h) m h table index v over.rest over.first in
        let at = and_parts (p == table) (i == index) same.0 in
        let late = over.late in
        let here = top.0 in
        record {
          before = h;
          was = v.word;
          past = stored (eqb-true p table at.0) (eqb-true i index at.1) over.same;
          late = omega (arith, late, here);
          had = top.1;
          sets = subst (λ (n : ℕ). sets_ad w v.word n ≡ true) over.same over.sets;
        }
  ]
] where
  stored : p ≡ table → i ≡ index → new ≡ u → IsPast (Store p i new ∷ h) (Store table index u ∷ h)
  stored a b c = subst (λ (n : ℕ). IsPast (Store p i new ∷ h) (Store n index u ∷ h)) a
      (subst (λ (n : ℕ). IsPast (Store p i new ∷ h) (Store p n u ∷ h)) b
      (subst (λ (n : ℕ). IsPast (Store p i new ∷ h) (Store p i n ∷ h)) c now))
update_of l m (WriteSatp s ∷ h) table index last w u has = still_update m (WriteSatp s) h table index last w u (update_of l m h table index last w u has)
update_of l m (WritePmp n e ∷ h) table index last w u has = still_update m (WritePmp n e) h table index last w u (update_of l m h table index last w u has)
update_of l m (Fence a s ∷ h) table index last w u has = still_update m (Fence a s) h table index last w u (update_of l m h table index last w u has)

-- ---- and each such store is among them

behind_each : (last w new : ℕ) (vs : List Version) (u : ℕ) → Contains (updated_words last w vs) u → Contains (updated_behind last w new vs) u
behind_each last w new [] u has = has
behind_each last w new (v ∷ vs) u has =
    Contains-append_right (if nat_le last v.last && sets_ad w v.word new then new ∷ [] else []) (updated_behind last w v.word vs) u has

behind_first : (last w was new l : ℕ) (vs rest : List Version) → vs ≡ record { word = was; last = l } ∷ rest → last ≤ l → sets_ad w was new ≡ true
    → Contains (updated_behind last w new vs) new
behind_first last w was new l vs rest is late sets = rw is (
    Contains-append_left (if nat_le last l && sets_ad w was new then new ∷ [] else []) (updated_behind last w was rest) new
    (past_guard (nat_le last l && sets_ad w was new) (new ∷ []) new (and_from (nat_le last l) (sets_ad w was new) (le-leb last l late) sets) (contains_head new [])))

pub of_update : (l : ℕ) (m : Memory) (h before : List Event) (table index last w was u : ℕ) → IsPast h (Store table index u ∷ before) → last ≤ length before
    → memory_at m before table index ≡ Some was → sets_ad w was u ≡ true → Contains (updated_words last w (versions_until l m h table index)) u
of_update l m h before table index last w was u now late had sets =
    let top = begins (length before) m before table index was had in
    rw (and_from (table == table) (index == index) (eq-eqb table table refl) (eq-eqb index index refl))
    (behind_first last w was u (length before) (versions_until (length before) m before table index) top.0 top.1 late sets)
of_update l m h before table index last w was u (older {h = since} {e = Store p i new} past) late had sets = elim (same_place p i table index) [
  | inl same ↦ rw same.0 (behind_each last w new (versions_until (length since) m since table index) u
      (of_update (length since) m since before table index last w was u past late had sets))
  | inr other ↦ rw other.0 (of_update l m since before table index last w was u past late had sets)
]
of_update l m h before table index last w was u (older {h = since} {e = WriteSatp s} past) late had sets =
    of_update l m since before table index last w was u past late had sets
of_update l m h before table index last w was u (older {h = since} {e = WritePmp n e} past) late had sets =
    of_update l m since before table index last w was u past late had sets
of_update l m h before table index last w was u (older {h = since} {e = Fence a s} past) late had sets =
    of_update l m since before table index last w was u past late had sets
