-- Lemmas of the stands of the search: at each the walk may be, at the stand's last moment.
use Rattle.std.proofs.Common.{◌≡◌, ◌≢◌, ◌⊎◌, ℕ, zero, suc, ◌≤◌, ◌||◌, nat_le, Bool, true, false, if◌then◌else◌, List, [], ◌∷◌, map, length, refl, sym, ◌∙◌, ap, subst, inl, inr, arith, Option, Some, None}
use Rattle.std.proofs.lemmas.Bool.{both_ways, cases_Bool, leb-true, or_cases, or_left}
use Rattle.std.specs.List.{Contains, flat_map}
use Rattle.sv39_entry.specs.Address.{page_of, vpn}
use Rattle.sv39_entry.specs.Satp.{asid, root_ppn}
use Rattle.sv39_entry.specs.declared.entry.Kind.TheVariants.{Pointer}
use Rattle.walk_rules.specs.Addresses.{is_canonical, top_of}
use Rattle.walk_rules.specs.Kinds.{kind_in}
use Rattle.walk_rules.specs.declared.extensions.Extensions.{Extensions}
use Rattle.access_history.specs.Held.{IsAtRoot, IsBelow, IsHeld, IsUnder, MayRead, Read, at_root, below, has_global, read_of}
use Rattle.access_history.specs.History.{First, IsPast}
use Rattle.access_history.specs.declared.event.Event.{Event}
use Rattle.access_judge.specs.Search.{AreUses, Found, IsUnfenced, IsUse, Item, Stand, Use, Version, below_of, ended, found_by, is_pointer, last_below, reads_at, root_at, search, search_all, search_from, space_fence, stood, until}
use Rattle.access_judge.proofs.EpochEnds.{epoch_end_is, epoch_end_late, epoch_end_low, under_still}
use Rattle.access_judge.proofs.KeptReads.{IsUncovered, held_later, kept_from, pointer_uncovered}
use Rattle.access_judge.proofs.Moments.{past_between, unfenced_past, until_length, until_past}
use Rattle.access_judge.proofs.SearchKinds.{is_same_kind, kind_is, may_pass_read, no_pointer_low}
use Rattle.access_judge.proofs.SearchLists.{contains_cases, contains_none, flat_from, map_from}
use Rattle.access_judge.proofs.SearchReads.{IsReadBy, read_by, version_was}

-- a walk may be at a read's table: a root, or below a pointer that is held
abbrev pub MayBeAt : Extensions → First → ℕ → List Event → Read → Type 0
MayBeAt x f va u r = IsAtRoot f va u r ⊎ ((above : Read) × (since : List Event) × IsHeld x f va u above since × IsBelow x above r)

pub held_by : (x : Extensions) (f : First) (va : ℕ) (u past : List Event) (r : Read) → MayRead x f va u r past → MayBeAt x f va u r
    → IsHeld x f va u r past
held_by x f va u past r may (inl root) = at_root may root
held_by x f va u past r may (inr up) = below up.2 may up.3

-- the read of a word at a stand
abbrev pub read_there : Stand → ℕ → Read
read_there s w = read_of s.level s.table w s.asid (s.global || has_global w)

module _ (x : Extensions) (f : First) (h : List Event) (us : List Use) (va : ℕ) (un : IsUnfenced h) (uses : AreUses f.satp h us) where
  -- a stand of the search
  pub record IsStand (s : Stand) : Type 0 where
    pub low : s.last ≤ length h
    pub epoch : (s.global ≡ true) ⊎ (space_fence (until h s.last) s.asid ≡ s.epoch)
    pub may_be : (w : ℕ) → MayBeAt x f va (until h s.last) (read_there s w)

  -- the moment of a version that a stand reads is not after that of the stand
  pub version_past : (s : Stand) (v : Version) → IsStand s → IsReadBy x f h va s v
      → IsPast (until h s.last) (until h v.last) × (length (until h v.last) ≡ v.last)
  version_past s v stand is =
      let low = stand.low in
      let early = (version_was x f h va s v low is.among).0 in
      let long = until_length h v.last (omega (arith, low, early)) in
      let stands = until_length h s.last low in
      (past_between h (until h s.last) (until h v.last) (until_past h s.last) (until_past h v.last) (omega (arith, long, stands, early)), long)

  -- what a walk at a stand may read is held, if no fence covers it up to then
  pub read_held : (s : Stand) (v : Version) → IsStand s → IsReadBy x f h va s v → IsUncovered x f va (found_by s v).read (until h s.last) (until h v.last)
      → IsHeld x f va (until h s.last) (found_by s v).read (until h v.last)
  read_held s v stand is free =
      let may : MayRead x f va (until h s.last) (found_by s v).read (until h v.last) = record {
        had = (version_was x f h va s v stand.low is.among).1;
        kept = kept_from x f va (found_by s v).read (until h s.last) (until h v.last) (version_past s v stand is).0 free;
        allowed = may_pass_read f (until h s.last) s.table (vpn (page_of va) s.level) is.passes;
      } in
      held_by x f va (until h s.last) (until h v.last) (found_by s v).read may (stand.may_be v.word)

  -- a version that a stand reads is of its epoch, or the PTE is global
  epoch_of : (s : Stand) (v : Version) → IsStand s → IsReadBy x f h va s v → ((s.global || has_global v.word) ≡ true) ⊎ (s.epoch ≤ v.last)
  epoch_of s v stand is = elim (or_cases (s.global || has_global v.word) (nat_le s.epoch v.last) is.of_epoch) [
    | inl global ↦ inl global
    | inr low ↦ inr (leb-true s.epoch v.last low)
  ]

  -- no later fence covers a pointer that a stand reads, until the stand's last moment
  no_fence_there : (s : Stand) (v : Version) → IsStand s → IsReadBy x f h va s v
      → ((s.global || has_global v.word) ≡ true) ⊎ (space_fence (until h s.last) s.asid ≤ length (until h v.last))
  no_fence_there s v stand is = elim (epoch_of s v stand is) [
    | inl global ↦ inl global
    | inr low ↦ elim stand.epoch [
      | inl global ↦ inl (or_left s.global (has_global v.word) global)
      | inr fence ↦ let long = (version_past s v stand is).1 in inr (omega (arith, low, fence, long))
    ]
  ]

  -- at a moment that is not before the stand's, the walk may be below its pointer: at the same, or a global one at any
  below_stand : (s : Stand) (v : Version) (last : ℕ) → IsStand s → IsReadBy x f h va s v → kind_in x s.level v.word ≡ Pointer → last ≤ length h
      → s.last ≤ last → ((s.global || has_global v.word) ≡ true) ⊎ (last ≡ s.last) → IsStand (record (below_of h s (found_by s v).read) { last = last })
  below_stand s v last stand is pointer low late why = record {
    low = low;
    epoch = epoch;
    may_be = λ w. inr (
      r,
      past,
      held,
      record { pointer = pointer; next_level = omega (arith, above); table = refl; space = refl; global = refl },
    );
  } where
    r : Read
    r = (found_by s v).read

    past : List Event
    past = until h v.last

    above : s.level ≡ 0 → ⊥
    above = λ none. no_pointer_low x s.level v.word none pointer

    epoch : ((s.global || has_global v.word) ≡ true) ⊎ (space_fence (until h last) s.asid ≡ s.epoch)
    epoch = elim why [
      | inl global ↦ inl global
      | inr same ↦ elim stand.epoch [
        | inl global ↦ inl (or_left s.global (has_global v.word) global)
        | inr fence ↦ inr (ap (λ (k : ℕ). space_fence (until h k) s.asid) same ∙ fence)
      ]
    ]

    was : IsPast (until h s.last) (until h v.last) × (length (until h v.last) ≡ v.last)
    was = version_past s v stand is

    moment : IsPast (until h last) (until h s.last)
    moment =
        let stand_low = stand.low in
        let long = until_length h s.last stand_low in
        let stands = until_length h last low in
        past_between h (until h last) (until h s.last) (until_past h last) (until_past h s.last) (omega (arith, long, stands, late))

    then_why : ((s.global || has_global v.word) ≡ true) ⊎ (space_fence (until h last) s.asid ≤ length (until h v.last))
    then_why = elim why [
      | inl global ↦ inl global
      | inr same ↦ subst (λ (k : ℕ). ((s.global || has_global v.word) ≡ true) ⊎ (space_fence (until h k) s.asid ≤ length (until h v.last))) (sym same)
          (no_fence_there s v stand is)
    ]

    held : IsHeld x f va (until h last) (found_by s v).read (until h v.last)
    held =
        let free = pointer_uncovered x f va (found_by s v).read (until h s.last) (until h v.last) (unfenced_past h (until h s.last) un (until_past h s.last))
        pointer (no_fence_there s v stand is) in
        held_later x f va (until h last) (until h s.last) (until h v.last) (found_by s v).read (read_held s v stand is free) moment was.0
        (pointer_uncovered x f va (found_by s v).read (until h last) (until h v.last) (unfenced_past h (until h last) un (until_past h last))
        pointer then_why)

  -- the stand below a pointer
  pub stand_below : (s : Stand) (v : Version) → IsStand s → IsReadBy x f h va s v → kind_in x s.level v.word ≡ Pointer
      → IsStand (below_of h s (found_by s v).read)
  stand_below s v stand is pointer = below_stand s v (last_below h s (found_by s v).read) stand is pointer (low (s.global || has_global v.word))
      (late (s.global || has_global v.word)) (why (s.global || has_global v.word) refl) where
        low : (b : Bool) → (if b then length h else s.last) ≤ length h
        low true = omega arith
        low false = stand.low

        late : (b : Bool) → s.last ≤ (if b then length h else s.last)
        late true = stand.low
        late false = omega arith

        why : (b : Bool) → (s.global || has_global v.word) ≡ b → ((s.global || has_global v.word) ≡ true) ⊎ ((if b then length h else s.last) ≡ s.last)
        why true is = inl is
        why false is = inr refl

  stand_below_found : (s : Stand) (c : Found) → IsStand s → Contains (reads_at x f h va s) c → kind_in x c.read.level c.read.word ≡ Pointer
      → IsStand (below_of h s c.read) × (c.read.level ≡ s.level)
  stand_below_found s c stand has pointer =
      let read = read_by x f h va s c has in
      let under = stand_below s read.0 stand read.1 (subst (λ (d : Found). kind_in x d.read.level d.read.word ≡ Pointer) (sym read.2) pointer) in
      (subst (λ (d : Found). IsStand (below_of h s d.read)) read.2 under, ap (λ (d : Found). d.read.level) (sym read.2))

  -- what is true of an item of the search
  abbrev pub IsItem : Item → Type 0
  IsItem (stood s) = IsStand s
  IsItem (ended c) = (s : Stand) × IsStand s × Contains (reads_at x f h va s) c × (kind_in x c.read.level c.read.word ≢ Pointer)

  abbrev pub onward : ℕ → Stand → Found → List Item
  onward levels s c =
      if is_pointer x c then search x f h va levels (below_of h s c.read) else ended c ∷ []

  search_items : (levels : ℕ) (s : Stand) → levels ≡ s.level → IsStand s → (i : Item) → Contains (search x f h va levels s) i → IsItem i
  search_items zero s same stand i has = elim (contains_cases (stood s) i (map ended (reads_at x f h va s)) has) [
    | inl here ↦ subst IsItem here stand
    | inr rest ↦
        let made = map_from ended (reads_at x f h va s) i rest in
        let read = read_by x f h va s made.0 made.1 in
        let kind = subst (λ (c : Found). kind_in x c.read.level c.read.word ≢ Pointer) read.2 (no_pointer_low x s.level read.0.word (sym same)) in
        subst IsItem made.2 (s, stand, made.1, kind)
  ]
  search_items (suc levels) s same stand i has = elim (contains_cases (stood s) i (flat_map (onward levels s) (reads_at x f h va s)) has) [
    | inl here ↦ subst IsItem here stand
    | inr rest ↦
        let from = flat_from (onward levels s) (reads_at x f h va s) i rest in
        let c = from.0 in
        elim (cases_Bool (is_pointer x c)) [
          | inr other ↦ elim (contains_cases (ended c) i [] (rw other at from.2)) [
            | inl here ↦
                let kind : kind_in x c.read.level c.read.word ≢ Pointer = λ is. both_ways _ other (is_same_kind (kind_in x c.read.level c.read.word) Pointer is) in
                subst IsItem here (s, stand, from.1, kind)
            | inr none ↦ absurd (contains_none i none)
          ]
          | inl pointer ↦
              let next = stand_below_found s c stand from.1 (kind_is (kind_in x c.read.level c.read.word) Pointer pointer) in
              let level = next.1 in
              search_items levels (below_of h s c.read) (omega (arith, same, level)) next.0 i (rw pointer at from.2)
        ]
  ]

  searched_root : (u : Use) (s : Stand) (o : Option ℕ) → top_of u.satp ≡ o → Contains us u → Contains (root_at va u o) s → IsStand s
  searched_root u s None is among has = absurd (contains_none s has)
  searched_root u s (Some top) is among has = elim (cases_Bool (is_canonical top va)) [
    | inr other ↦ absurd (contains_none s (rw other at has))
    | inl canonical ↦ elim (contains_cases (root top) s [] (rw canonical at has)) [
      | inr none ↦ absurd (contains_none s none)
      | inl same ↦ subst (λ (t : Stand). IsStand t) same (record {
        low = last_low;
        epoch = inr last;
        may_be = λ w. inl (record {
          satp = u.satp;
          under = under;
          highest = is;
          canonical = canonical;
          root = refl;
          space = refl;
          global = refl;
        });
      })
    ]
  ] where
    root : ℕ → Stand
    root t = record { level = t; table = root_ppn u.satp; asid = asid u.satp; global = false; epoch = u.epoch; last = u.last }

    is_use : IsUse f.satp h u
    is_use = uses.only u among

    k : ℕ
    k = is_use.1.0

    last_low : u.last ≤ length h
    last_low = let low = epoch_end_low h (asid u.satp) u.epoch in let same = is_use.0 in omega (arith, low, same)

    late : k ≤ u.last
    late =
        let up = epoch_end_late h (asid u.satp) u.epoch k is_use.1.1 is_use.1.3 in
        let same = is_use.0 in
        omega (arith, up, same)

    last : space_fence (until h u.last) (asid u.satp) ≡ u.epoch
    last = ap (λ (n : ℕ). space_fence (until h n) (asid u.satp)) is_use.0 ∙ epoch_end_is h (asid u.satp) u.epoch k is_use.1.1 is_use.1.3

    under : IsUnder f u.satp (until h u.last)
    under =
        let short = until_length h k is_use.1.1 in
        let long = until_length h u.last last_low in
        let was = past_between h (until h u.last) (until h k) (until_past h u.last) (until_past h k) (omega (arith, short, long, late)) in
        under_still f u.satp (until h u.last) (until h k) was (unfenced_past h (until h u.last) un (until_past h u.last)) is_use.1.2 (last ∙ sym is_use.1.3)

  pub searched : (i : Item) → Contains (search_all x f h us va) i → IsItem i
  searched i has =
      let from = flat_from (search_from x f h va) us i has in
      let u = from.0 in
      let root = flat_from (λ (s : Stand). search x f h va s.level s) (root_at va u (top_of u.satp)) i from.2 in
      search_items root.0.level root.0 refl (searched_root u root.0 (top_of u.satp) refl from.1 root.1) i root.2
