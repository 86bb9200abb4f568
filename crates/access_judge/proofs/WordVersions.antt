-- Lemmas of the versions of a word: they are the words that memory had, each with the last moment at which it had it.
use Rattle.std.proofs.Common.{◌≡◌, ◌⊎◌, ℕ, ◌≤◌, ◌==◌, ◌&&◌, Bool, true, false, List, [], ◌∷◌, length, refl, sym, ◌∙◌, inl, inr, arith, Option, Some, None}
use Rattle.std.proofs.lemmas.Bool.{cases_eq, eq-eqb, ne_eqb, and_from, and_left, and_right}
use Rattle.std.specs.List.{Contains}
use Rattle.access_history.specs.History.{IsPast, Memory, memory_at, now, older}
use Rattle.access_history.specs.declared.event.Event.{Event}
use Rattle.access_history.specs.declared.event.Event.TheVariants.{Store, WriteSatp, WritePmp, Fence}
use Rattle.access_judge.specs.Search.{Version, first_version, versions, versions_until}
use Rattle.access_judge.proofs.SearchLists.{contains_cases, contains_head, contains_later, contains_none}

-- a store is to a place, or not
abbrev pub IsSame : ℕ → ℕ → ℕ → ℕ → Bool → Type 0
IsSame p i table index b = ((p == table && i == index) ≡ b) × ((table == p && index == i) ≡ b)

pub same_place : (p i table index : ℕ) → IsSame p i table index true ⊎ IsSame p i table index false
same_place p i table index = elim (cases_eq p table) [
  | inr other ↦
      inr (and_left (p == table) (i == index) (ne_eqb p table other), and_left (table == p) (index == i) (ne_eqb table p (λ e. other (sym e))))
  | inl same ↦ elim (cases_eq i index) [
    | inl also ↦ inl (
      and_from (p == table) (i == index) (eq-eqb p table same) (eq-eqb i index also),
      and_from (table == p) (index == i) (eq-eqb table p (sym same)) (eq-eqb index i (sym also)),
    )
    | inr other ↦
        inr (and_right (p == table) (i == index) (ne_eqb i index other), and_right (table == p) (index == i) (ne_eqb index i (λ e. other (sym e))))
  ]
]

-- a version of a word, of those of a place, that lasts until a moment or longer
abbrev Lasts : List Version → ℕ → ℕ → Type 0
Lasts vs w least = (v : Version) × Contains vs v × (v.word ≡ w) × (least ≤ v.last)

lasts_later : (first : Version) (vs : List Version) (w least : ℕ) → Lasts vs w least → Lasts (first ∷ vs) w least
lasts_later first vs w least is = (is.0, contains_later first is.0 vs is.1, is.2, is.3)

first_lasts : (last w : ℕ) (o : Option ℕ) → o ≡ Some w → Lasts (first_version last o) w last
first_lasts last w None is = cc
first_lasts last w (Some v) is = (record { word = v; last = last }, contains_head _ [], cc, omega arith)

-- the word that memory has now
newest : (last : ℕ) (m : Memory) (h : List Event) (table index w : ℕ) → memory_at m h table index ≡ Some w
    → Lasts (versions_until last m h table index) w last
newest last m [] table index w is = first_lasts last w (m table index) is
newest last m (Store p i word ∷ h) table index w is = elim (same_place p i table index) [
  | inl same ↦ rw same.0 (
      let first = rw same.1 at is in
      (record { word = word; last = last }, contains_head _ (versions_until (length h) m h table index), cc, omega arith)
      )
  | inr other ↦ rw other.0 (let before = rw other.1 at is in newest last m h table index w before)
]
newest last m (WriteSatp s ∷ h) table index w is = newest last m h table index w is
newest last m (WritePmp n e ∷ h) table index w is = newest last m h table index w is
newest last m (Fence a s ∷ h) table index w is = newest last m h table index w is

-- each word that memory had is a version, which lasts until then or longer
pub version_of : (last : ℕ) (m : Memory) (h past : List Event) (table index w : ℕ) → length h ≤ last → IsPast h past
    → memory_at m past table index ≡ Some w
    → (v : Version) × Contains (versions_until last m h table index) v × (v.word ≡ w) × (length past ≤ v.last)
version_of last m h past table index w low now is =
    let here = newest last m h table index w is in
    let long = here.3 in
    (here.0, here.1, here.2, omega (arith, low, long))
version_of last m h past table index w low (older {h = before} {e = Store p i word} was) is = elim (same_place p i table index) [
  | inl same ↦ rw same.0 (lasts_later (record { word = word; last = last }) (versions_until (length before) m before table index) w (length past)
      (version_of (length before) m before past table index w (omega arith) was is))
  | inr other ↦ rw other.0 (version_of last m before past table index w (omega (arith, low)) was is)
]
version_of last m h past table index w low (older {h = before} {e = WriteSatp s} was) is =
    version_of last m before past table index w (omega (arith, low)) was is
version_of last m h past table index w low (older {h = before} {e = WritePmp n e} was) is =
    version_of last m before past table index w (omega (arith, low)) was is
version_of last m h past table index w low (older {h = before} {e = Fence a s} was) is =
    version_of last m before past table index w (omega (arith, low)) was is

-- memory had a word at a past moment with this number
abbrev pub HadAt : Memory → List Event → ℕ → ℕ → ℕ → ℕ → Type 0
HadAt m h table index w number = (k : List Event) × IsPast h k × (length k ≡ number) × (memory_at m k table index ≡ Some w)

abbrev NewestOrHad : ℕ → Memory → List Event → ℕ → ℕ → Version → Type 0
NewestOrHad last m h table index v =
    ((v.last ≡ last) × (memory_at m h table index ≡ Some v.word)) ⊎ HadAt m h table index v.word v.last

had_older : (last : ℕ) (m : Memory) (e : Event) (h : List Event) (table index : ℕ) (v : Version)
    → memory_at m (e ∷ h) table index ≡ memory_at m h table index → NewestOrHad last m h table index v → NewestOrHad last m (e ∷ h) table index v
had_older last m e h table index v same (inl is) = inl (is.0, same ∙ is.1)
had_older last m e h table index v same (inr had) = inr (had.0, older had.1, had.2, had.3)

first_had : (last : ℕ) (o : Option ℕ) (v : Version) → Contains (first_version last o) v → (v.last ≡ last) × (o ≡ Some v.word)
first_had last None v has = absurd (contains_none v has)
first_had last (Some w) v has = elim (contains_cases _ v [] has) [
  | inl same ↦ (cc, cc)
  | inr none ↦ absurd (contains_none v none)
]

had_by : (last : ℕ) (m : Memory) (h : List Event) (table index : ℕ) (v : Version) → Contains (versions_until last m h table index) v
    → NewestOrHad last m h table index v
had_by last m [] table index v has = inl (first_had last (m table index) v has)
had_by last m (Store p i word ∷ h) table index v has = elim (same_place p i table index) [
  | inl same ↦ elim (contains_cases _ v _ (rw same.0 at has)) [
    | inl first ↦ inl (cc, rw same.1 (cc))
    | inr later ↦ elim (had_by (length h) m h table index v later) [
      | inl is ↦ inr (h, older now, sym is.0, is.1)
      | inr had ↦ inr (had.0, older had.1, had.2, had.3)
    ]
  ]
  | inr other ↦ had_older last m (Store p i word) h table index v (rw other.1 refl) (had_by last m h table index v (rw other.0 at has))
]
had_by last m (WriteSatp s ∷ h) table index v has = had_older last m (WriteSatp s) h table index v refl (had_by last m h table index v has)
had_by last m (WritePmp n e ∷ h) table index v has = had_older last m (WritePmp n e) h table index v refl (had_by last m h table index v has)
had_by last m (Fence a s ∷ h) table index v has = had_older last m (Fence a s) h table index v refl (had_by last m h table index v has)

-- memory had the word of each version at its last moment
pub version_had : (m : Memory) (h : List Event) (table index : ℕ) (v : Version) → Contains (versions m h table index) v
    → HadAt m h table index v.word v.last
version_had m h table index v has = elim (had_by (length h) m h table index v has) [
  | inl is ↦ (h, now, sym is.0, is.1)
  | inr had ↦ had
]
