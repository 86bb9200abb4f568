-- Lemmas of the test for fences: it passes a PTE that is no pointer exactly if no fence since the moment of its word covers it.
use Rattle.std.proofs.Common.{◌≡◌, ◌≢◌, ◌⊎◌, ℕ, suc, ◌-◌, ◌/◌, ◌^◌, ◌<◌, ◌≤◌, ◌&&◌, ◌||◌, not, nat_lt, Bool, true, false, List, [], ◌∷◌, length, sym, ◌∙◌, ap, subst, inl, inr, arith, Option, Some, None}
use Rattle.std.proofs.lemmas.Bool.{and_parts, and_from, and_cases, both_ways, false_from_ne_true, lt-ltb, ltb-true, not-true, or_cases, or_from, or_parts}
use Rattle.sv39_entry.specs.Address.{page_of, vpn}
use Rattle.sv39_entry.specs.declared.entry.Kind.TheVariants.{Invalid, Leaf, Pointer}
use Rattle.walk_rules.specs.Addresses.{top_of}
use Rattle.walk_rules.specs.Kinds.{kind_in}
use Rattle.walk_rules.specs.declared.extensions.Extensions.{Extensions}
use Rattle.access_history.specs.Held.{BecameLeaf, IsCovered, IsInSpace, IsKept, Read, page_bits}
use Rattle.access_history.specs.History.{First, IsPast, memory_at, now, older, satp_at}
use Rattle.access_history.specs.declared.event.Event.{Event}
use Rattle.access_history.specs.declared.event.Event.TheVariants.{Store, WriteSatp, WritePmp, Fence}
use Rattle.access_judge.specs.Search.{Found, IsUnfenced, Version, address_fence, became_leaf, before, is_fenced, is_fenced_by, is_kind, space_fence, space_of, until, versions}
use Rattle.access_judge.proofs.FenceNumbers.{Reaches, address_fence_is, address_fence_low, address_fenced, space_fence_low, space_fenced}
use Rattle.access_judge.proofs.KeptReads.{IsUncovered, address_under, in_space, kept_past, kept_uncovered, space_in, space_kept, under_address}
use Rattle.access_judge.proofs.Moments.{not_full, past_between, past_length, past_trans, past_until, unfenced_past, until_length, until_past}
use Rattle.access_judge.proofs.Parts.{IsAlike}
use Rattle.access_judge.proofs.SearchKinds.{is_same_kind, kind_is, leaf_or_invalid}
use Rattle.access_judge.proofs.SearchLists.{any_contains, any_from}
use Rattle.access_judge.proofs.WordVersions.{version_had, version_of}

module _ (x : Extensions) (f : First) (h : List Event) (va : ℕ) (un : IsUnfenced h) where
  abbrev number_of : Found → ℕ
  number_of c = address_fence f.satp h (page_bits c.read.level) va (space_of c.read)

  abbrev leaf_after : Found → Version → Bool
  leaf_after c v = nat_lt c.last v.last && is_kind (kind_in x c.read.level v.word) Leaf

  -- a word that was a leaf after the moment of a PTE, and before a fence, is among the versions
  became_true : (c : Found) (k : List Event) (number : ℕ) → c.last ≤ length h → IsPast h k → suc (length k) ≤ number → number ≤ length h
      → BecameLeaf x f va k (until h c.last) c.read → became_leaf x f h va c number ≡ true
  became_true c k number low at fence high became =
      let e = became.0 in
      let g = became.1 in
      let short = until_length h (number - 1) (omega (arith, high)) in
      let inside = past_between h (before h number) k (until_past h (number - 1)) at (omega (arith, short, fence)) in
      let was = past_trans (before h number) k (e ∷ g) inside became.3 in
      let found = version_of (length (before h number)) f.memory (before h number) (e ∷ g) c.read.table (vpn (page_of va) c.read.level) became.2
      (omega arith) was became.5 in
      let long = past_length g (until h c.last) became.4 in
      let start = until_length h c.last low in
      let late = found.3 in
      let kind = ap (kind_in x c.read.level) found.2 ∙ became.6 in
      any_contains (leaf_after c) (versions f.memory (before h number) c.read.table (vpn (page_of va) c.read.level)) found.0 found.1
      (and_from (nat_lt c.last found.0.last) (is_kind (kind_in x c.read.level found.0.word) Leaf)
      (lt-ltb c.last found.0.last (omega (arith, long, start, late))) (is_same_kind (kind_in x c.read.level found.0.word) Leaf kind))

  -- a PTE that the test passes is not covered
  pub unfenced_uncovered : (c : Found) → c.last ≤ length h → is_fenced x f h va c ≡ false → IsUncovered x f va c.read h (until h c.last)
  unfenced_uncovered c low passed (Store p i w) k at since covered = covered
  unfenced_uncovered c low passed (WriteSatp w) k at since covered = covered
  unfenced_uncovered c low passed (WritePmp n e) k at since covered = covered
  unfenced_uncovered c low passed (Fence None None) k at since covered = not_full k (unfenced_past h (Fence None None ∷ k) un at)
  unfenced_uncovered c low passed (Fence None (Some s)) k at since covered =
      let parts = or_parts (is_fenced_by x f h va c (number_of c)) (not c.read.global && nat_lt c.last (space_fence h c.read.asid)) passed in
      let fence = subst (λ (n : ℕ). suc (length k) ≤ space_fence h n) (sym covered.0.0) (space_fenced h k s at) in
      let long = past_length k (until h c.last) since in
      let number = until_length h c.last low in
      let later = lt-ltb c.last (space_fence h c.read.asid) (omega (arith, fence, long, number)) in
      both_ways _ parts.1 (and_from (not c.read.global) (nat_lt c.last (space_fence h c.read.asid)) (ap not covered.0.1) later)
  unfenced_uncovered c low passed (Fence (Some a) s) k at since covered =
      let parts = or_parts (is_fenced_by x f h va c (number_of c)) (not c.read.global && nat_lt c.last (space_fence h c.read.asid)) passed in
      let reaches : Reaches f.satp k (page_bits c.read.level) va (space_of c.read) a s =
      (under_address (top_of (satp_at f.satp k)) a.0 covered.1.0, covered.1.1, space_in s c.read covered.0) in
      let fence = address_fenced f.satp h k (page_bits c.read.level) va (space_of c.read) a s at reaches in
      let high = address_fence_low f.satp h (page_bits c.read.level) va (space_of c.read) in
      let long = past_length k (until h c.last) since in
      let number = until_length h c.last low in
      let later = lt-ltb c.last (number_of c) (omega (arith, fence, long, number)) in
      elim (and_cases (nat_lt c.last (number_of c)) (is_kind (kind_in x c.read.level c.read.word) Leaf || became_leaf x f h va c (number_of c)) parts.0) [
        | inl early ↦ both_ways _ early later
        | inr none ↦
            let neither = or_parts (is_kind (kind_in x c.read.level c.read.word) Leaf) (became_leaf x f h va c (number_of c)) none in
            elim covered.1.2 [
              | inl leaf ↦ both_ways _ neither.0 (is_same_kind (kind_in x c.read.level c.read.word) Leaf leaf)
              | inr other ↦ both_ways _ neither.1 (became_true c k (number_of c) low (past_trans h (Fence (Some a) s ∷ k) k at (older now)) fence high other.1)
            ]
      ]

  -- what the test refuses is covered
  became_from : (c : Found) (r : Read) (k past : List Event) → IsAlike c.read r → length past ≤ c.last → IsPast h k → IsPast h past
      → became_leaf x f h va c (suc (length k)) ≡ true → BecameLeaf x f va k past r
  became_from c r k past alike late at was became =
      let number : suc (length k) - 1 ≡ length k = omega arith in
      let same : before h (suc (length k)) ≡ k = ap (until h) number ∙ sym (past_until h k at) in
      let found = any_from (leaf_after c) (versions f.memory (before h (suc (length k))) c.read.table (vpn (page_of va) c.read.level)) became in
      let v = found.0 in
      let parts = and_parts (nat_lt c.last v.last) (is_kind (kind_in x c.read.level v.word) Leaf) found.2 in
      let had = version_had f.memory (before h (suc (length k))) c.read.table (vpn (page_of va) c.read.level) v found.1 in
      let inside = subst (λ (g : List Event). IsPast g had.0) same had.1 in
      let leaf = ap (λ (n : ℕ). kind_in x n v.word) (sym alike.level) ∙ kind_is (kind_in x c.read.level v.word) Leaf parts.1 in
      let word = word_there had.0 v.word had.3 in
      made had.0 v.word v.last inside had.2 (ltb-true c.last v.last parts.0) word leaf where
        word_there : (g : List Event) (w : ℕ) → memory_at f.memory g c.read.table (vpn (page_of va) c.read.level) ≡ Some w
            → memory_at f.memory g r.table (vpn (page_of va) r.level) ≡ Some w
        word_there g w is = rw (alike.table, alike.level) at is

        made : (g : List Event) (w last : ℕ) → IsPast k g → length g ≡ last → c.last < last
            → memory_at f.memory g r.table (vpn (page_of va) r.level) ≡ Some w → kind_in x r.level w ≡ Leaf → BecameLeaf x f va k past r
        made [] w last inside long after word leaf = absurd (omega (arith, long, after))
        made (e ∷ g) w last inside long after word leaf =
            let behind = past_between h g past (past_trans h k g at (past_trans k (e ∷ g) g inside (older now))) was (omega (arith, long, after, late)) in
            (e, g, w, inside, behind, word, leaf)

  fenced_covered : (c : Found) (r : Read) (past : List Event) → IsAlike c.read r → length past ≤ c.last → IsPast h past → kind_in x r.level r.word ≢ Pointer
      → is_fenced_by x f h va c (number_of c) ≡ true
      → (e : Event) × (k : List Event) × IsPast h (e ∷ k) × IsPast k past × IsCovered x f va e k r past
  fenced_covered c r past alike late was kind fenced =
      let parts = and_parts (nat_lt c.last (number_of c)) (is_kind (kind_in x c.read.level c.read.word) Leaf || became_leaf x f h va c (number_of c)) fenced in
      let later = ltb-true c.last (number_of c) parts.0 in
      let fence = address_fence_is f.satp h (page_bits c.read.level) va (space_of c.read) (omega (arith, later)) in
      let a = fence.0 in
      let s = fence.1 in
      let k = fence.2 in
      let at = fence.3 in
      let number = fence.4 in
      let reaches = fence.5 in
      let earlier = past_trans h (Fence (Some a) s ∷ k) k at (older now) in
      let since = past_between h k past earlier was (omega (arith, later, number, late)) in
      let bits_there : page_bits c.read.level ≡ page_bits r.level = ap page_bits alike.level in
      let shift = subst (λ (n : ℕ). a.0 / 2 ^ n ≡ va / 2 ^ n) bits_there reaches.1 in (
        Fence (Some a) s,
        k,
        at,
        since,
        (
          space s (in_space s c.read reaches.2),
          (address_under (top_of (satp_at f.satp k)) a.0 reaches.0, shift, leaf k earlier number (or_cases _ _ parts.1)),
        ),
      ) where
        space : (s : Option ℕ) → IsInSpace s c.read → IsInSpace s r
        space None is = tt
        space (Some n) is = elim alike.asid [
          | inl same ↦ (sym same ∙ is.0, sym alike.global ∙ is.1)
          | inr global ↦ absurd (both_ways r.global (sym alike.global ∙ is.1) global)
        ]

        leaf : (k : List Event) → IsPast h k → number_of c ≡ suc (length k)
            → (is_kind (kind_in x c.read.level c.read.word) Leaf ≡ true) ⊎ (became_leaf x f h va c (number_of c) ≡ true)
            → (kind_in x r.level r.word ≡ Leaf) ⊎ ((kind_in x r.level r.word ≡ Invalid) × BecameLeaf x f va k past r)
        leaf k earlier number (inl is) = inl (rw (alike.level, alike.word) at (kind_is (kind_in x c.read.level c.read.word) Leaf is))
        leaf k earlier number (inr became) = elim (leaf_or_invalid (kind_in x r.level r.word) kind) [
          | inl is ↦ inl is
          | inr is ↦
              let then = subst (λ (n : ℕ). became_leaf x f h va c n ≡ true) number became in
              inr (is, became_from c r k past alike late earlier was then)
        ]

  pub kept_unfenced : (c : Found) (r : Read) (past : List Event) → IsAlike c.read r → length past ≤ c.last → kind_in x r.level r.word ≢ Pointer
      → IsKept x f va r h past → is_fenced x f h va c ≡ false
  kept_unfenced c r past alike late kind kept =
      or_from (is_fenced_by x f h va c (number_of c)) (not c.read.global && nat_lt c.last (space_fence h c.read.asid))
      (false_from_ne_true (is_fenced_by x f h va c (number_of c)) by_address)
      (false_from_ne_true (not c.read.global && nat_lt c.last (space_fence h c.read.asid)) by_space) where
        by_address : is_fenced_by x f h va c (number_of c) ≡ true → ⊥
        by_address fenced =
            let is = fenced_covered c r past alike late (kept_past x f va r h past kept) kind fenced in
            kept_uncovered x f va r h past kept is.0 is.1 is.2 is.3 is.4

        by_space : (not c.read.global && nat_lt c.last (space_fence h c.read.asid)) ≡ true → ⊥
        by_space fenced =
            let parts = and_parts (not c.read.global) (nat_lt c.last (space_fence h c.read.asid)) fenced in
            let plain : r.global ≡ false = sym alike.global ∙ not-true c.read.global parts.0 in
            let same = space_kept x f va r h past un plain kept in
            let low = space_fence_low past r.asid in
            let later = ltb-true c.last (space_fence h c.read.asid) parts.1 in
            elim alike.asid [
              | inr global ↦ both_ways r.global plain global
              | inl asid ↦ let equal = ap (space_fence h) asid in absurd (omega (arith, same, low, later, equal, late))
            ]
