-- Lemmas: from a root whose walks serve no more the search comes by nothing that says anything.
use Rattle.std.proofs.Common.{◌≡◌, ◌≢◌, ℕ, zero, suc, ◌<◌, ◌≤◌, ◌==◌, ◌&&◌, ◌||◌, not, nat_lt, Bool, true, false, if◌then◌else◌, Option, None, Some, List, [], ◌∷◌, ◌++◌, map, length, refl, sym, ◌∙◌, ap, subst, inl, inr, arith}
use Rattle.std.proofs.lemmas.Bool.{and_left, and_right, and_from, cases_Bool, cases_eq, cases_lt, eq-eqb, lt-ltb, ne_eqb, or_from, or_right}
use Rattle.std.specs.List.{Contains, flat_map}
use Rattle.sv39_entry.specs.Satp.{asid, root_ppn}
use Rattle.sv39_entry.specs.declared.access.Mode.{Mode}
use Rattle.walk_rules.specs.Addresses.{is_canonical, top_of}
use Rattle.walk_rules.specs.declared.extensions.Extensions.{Extensions}
use Rattle.access_history.specs.Held.{HadWord, has_global}
use Rattle.access_history.specs.Permits.{Past, satp_of}
use Rattle.access_history.specs.declared.event.Event.{Event}
use Rattle.access_history.specs.declared.event.Event.TheVariants.{Store, WriteSatp, WritePmp, Fence}
use Rattle.access_history.specs.declared.outcome.Request.{Request}
use Rattle.access_judge.specs.Judging.{root_says, table_says}
use Rattle.access_judge.specs.Quiet.{IsOver}
use Rattle.access_judge.specs.Search.{Found, IsUse, Item, Stand, Use, below_of, ended, is_fenced, is_of_now, is_pointer, is_translated_in, is_unread, reads_at, root_at, said, search, space_fence, stands_now, stood, until}
use Rattle.access_judge.specs.declared.question.Question.{Question}
use Rattle.access_judge.proofs.EpochEnds.{epoch_end_is, epoch_end_late, epoch_end_low}
use Rattle.access_judge.proofs.Moments.{until_now, until_older, until_past}
use Rattle.access_judge.proofs.SearchLists.{contains_cases, contains_none, flat_from, map_from}
use Rattle.access_judge.proofs.SearchReads.{read_by, version_was}

-- a fence of an ASID that is not after a moment was the last one at the moment too
fence_then : (h : List Event) (space k : ℕ) → k ≤ length h → space_fence h space ≤ k → space_fence (until h k) space ≡ space_fence h space
fence_then [] space k low early = let none : k ≡ 0 = omega (arith, low) in ap (λ (n : ℕ). space_fence (until [] n) space) none
fence_then (e ∷ h) space k low early = elim (cases_eq k (suc (length h))) [
  | inl last ↦ ap (λ (n : ℕ). space_fence (until (e ∷ h) n) space) last ∙ ap (λ (g : List Event). space_fence g space) (until_now (e ∷ h))
  | inr before ↦ older e (omega (arith, low, before)) early (λ more. fence_then h space k (omega (arith, low, before)) more)
] where
  older : (e : Event) → k ≤ length h → space_fence (e ∷ h) space ≤ k → (space_fence h space ≤ k → space_fence (until h k) space ≡ space_fence h space)
      → space_fence (until (e ∷ h) k) space ≡ space_fence (e ∷ h) space
  older (Store p i w) short early up = ap (λ (g : List Event). space_fence g space) (until_older (Store p i w) h k short) ∙ up early
  older (WriteSatp w) short early up = ap (λ (g : List Event). space_fence g space) (until_older (WriteSatp w) h k short) ∙ up early
  older (WritePmp n e) short early up = ap (λ (g : List Event). space_fence g space) (until_older (WritePmp n e) h k short) ∙ up early
  older (Fence (Some a) s) short early up = ap (λ (g : List Event). space_fence g space) (until_older (Fence (Some a) s) h k short) ∙ up early
  older (Fence None None) short early up = absurd (omega (arith, short, early))
  older (Fence None (Some s)) short early up = elim (cases_eq s space) [
    | inl same ↦ let here = rw (eq-eqb s space same) at early in absurd (omega (arith, short, here))
    | inr other ↦
        let here = rw (ne_eqb s space other) at early in
        rw (ne_eqb s space other) (ap (λ (g : List Event). space_fence g space) (until_older (Fence None (Some s)) h k short) ∙ up here)
  ]

flat_none : {X Y : Type 0} (f : X → List Y) (xs : List X) → ((x : X) → Contains xs x → f x ≡ []) → flat_map f xs ≡ []
flat_none f [] none = refl
flat_none {X} {Y} f (x ∷ xs) none =
    ap (λ (ys : List Y). ys ++ flat_map f xs) (none x (head x xs)) ∙ flat_none f xs (λ y has. none y (later x y xs has))
  where
    head : (x : X) (xs : List X) → Contains (x ∷ xs) x
    head x xs = (zero, omega arith, refl)

    later : (x y : X) (xs : List X) → Contains xs y → Contains (x ∷ xs) y
    later x y xs (n, low, is) = (suc n, omega (arith, low), is)

module _ (x : Extensions) (p : Past) (q : Request) (m : Mode) (u : Use) (used : IsUse p.first.satp p.events u) (over : IsOver p u) where
  abbrev h : List Event
  h = p.events

  last_low : u.last ≤ length h
  last_low = let low = epoch_end_low h (asid u.satp) u.epoch in let same = used.0 in omega (arith, low, same)

  -- of the use, and by no global pointer
  record IsOwn (s : Stand) : Type 0 where
    local : s.global ≡ false
    space : s.asid ≡ asid u.satp
    last : s.last ≡ u.last

  -- an epoch that has ended was ended by a later fence
  fenced_after : u.last ≢ length h → u.last < space_fence h (asid u.satp)
  fenced_after ends = elim (cases_lt u.last (space_fence h (asid u.satp))) [
    | inl late ↦ late
    | inr early ↦
        let own = ap (λ (n : ℕ). space_fence (until h n) (asid u.satp)) used.0 ∙ epoch_end_is h (asid u.satp) u.epoch used.1.0 used.1.1 used.1.3 in
        let here = ap (λ (g : List Event). space_fence g (asid u.satp)) (until_now h) ∙ sym (fence_then h (asid u.satp) u.last last_low early) ∙ own in
        let late = epoch_end_late h (asid u.satp) u.epoch (length h) (omega arith) here in
        let same = used.0 in
        let low = last_low in
        absurd (ends (omega (arith, late, same, low)))
  ]

  -- ---- a stand

  stands_no_more : (s : Stand) → IsOwn s → stands_now p s ≡ false
  stands_no_more s own = elim over.0 [
    | inl ends ↦ and_left (s.last == length h) (s.asid == asid (satp_of p) || s.global) (ne_eqb s.last (length h) (λ now. ends (sym own.last ∙ now)))
    | inr apart ↦
        let other = ne_eqb s.asid (asid (satp_of p)) (λ same. apart (sym own.space ∙ same)) in
        and_right (s.last == length h) (s.asid == asid (satp_of p) || s.global) (or_from (s.asid == asid (satp_of p)) s.global other own.local)
  ]

  stood_says : (s : Stand) → IsOwn s → said x p q m (stood s) ≡ []
  stood_says s own = rw (and_left (stands_now p s) (is_unread p q.va.0 s) (stands_no_more s own)) refl

  -- ---- a PTE

  -- what a walk at such a stand reads is not global, and not later
  record IsLocal (s : Stand) (c : Found) : Type 0 where
    local : c.read.global ≡ false
    space : c.read.asid ≡ s.asid
    early : c.last ≤ s.last

  word_local : (s : Stand) (w last : ℕ) → HadWord x p.first q.va.0 (until h last) (record { level = s.level; table = s.table; word = w; asid = s.asid; global = s.global || has_global w })
      → has_global w ≡ false
  word_local s w last (inl word) = over.1 (until h last) _ _ w (until_past h last) word
  word_local s w last (inr napot) = over.1 (until h last) _ _ w (until_past h last) napot.4.2

  is_local : (s : Stand) (c : Found) → IsOwn s → Contains (reads_at x p.first h q.va.0 s) c → IsLocal s c
  is_local s c own has =
      let read = read_by x p.first h q.va.0 s c has in
      let v = read.0 in
      let last = own.last in
      let fits = last_low in
      let had = version_was x p.first h q.va.0 s v (omega (arith, last, fits)) read.1.among in
      let low = had.0 in
      subst (IsLocal s) read.2 (record {
        local = or_from s.global (has_global v.word) own.local (word_local s v.word v.last had.1);
        space = refl;
        early = low;
      })

  ended_says : (s : Stand) (c : Found) → IsOwn s → IsLocal s c → said x p q m (ended c) ≡ []
  ended_says s c own local = elim over.0 [
    | inr apart ↦
        let other = ne_eqb c.read.asid (asid (satp_of p)) (λ same. apart (sym own.space ∙ sym local.space ∙ same)) in
        let none = or_from (c.read.asid == asid (satp_of p)) c.read.global other local.local in
        let not_now : is_of_now (satp_of p) q.va.0 c.read ≡ false = and_right (is_translated_in (top_of (satp_of p)) q.va.0) (c.read.asid == asid (satp_of p) || c.read.global) none in
        rw (and_left (is_of_now (satp_of p) q.va.0 c.read) (not (is_fenced x p.first h q.va.0 c)) not_now) refl
    | inl ends ↦
        let early = local.early in
        let last = own.last in
        let fence = fenced_after ends in
        let space : space_fence h c.read.asid ≡ space_fence h (asid u.satp) = ap (space_fence h) (local.space ∙ own.space) in
        let later = lt-ltb c.last (space_fence h c.read.asid) (omega (arith, early, last, fence, space)) in
        let by_space = and_from (not c.read.global) (nat_lt c.last (space_fence h c.read.asid)) (ap not local.local) later in
        let fenced : is_fenced x p.first h q.va.0 c ≡ true = or_right _ (not c.read.global && nat_lt c.last (space_fence h c.read.asid)) by_space in
        rw (and_right (is_of_now (satp_of p) q.va.0 c.read) (not (is_fenced x p.first h q.va.0 c)) (ap not fenced)) refl
  ]

  -- ---- all that the search comes by

  onward_says : (levels : ℕ) (s : Stand) (c : Found) (i : Item) → IsOwn s → Contains (reads_at x p.first h q.va.0 s) c
      → ((t : Stand) → IsOwn t → Contains (search x p.first h q.va.0 levels t) i → said x p q m i ≡ []) → (b : Bool)
      → Contains (if b then search x p.first h q.va.0 levels (below_of h s c.read) else ended c ∷ []) i → said x p q m i ≡ []
  onward_says levels s c i own has further true inner =
      let local = is_local s c own has in
      further (below_of h s c.read) (record { local = local.local; space = local.space ∙ own.space; last = rw local.local own.last }) inner
  onward_says levels s c i own has further false inner = elim (contains_cases (ended c) i [] inner) [
    | inl same ↦ ap (said x p q m) (sym same) ∙ ended_says s c own (is_local s c own has)
    | inr none ↦ absurd (contains_none i none)
  ]

  search_says : (levels : ℕ) (s : Stand) → IsOwn s → (i : Item) → Contains (search x p.first h q.va.0 levels s) i → said x p q m i ≡ []
  search_says zero s own i has = elim (contains_cases (stood s) i (map ended (reads_at x p.first h q.va.0 s)) has) [
    | inl same ↦ ap (said x p q m) (sym same) ∙ stood_says s own
    | inr rest ↦
        let made = map_from ended (reads_at x p.first h q.va.0 s) i rest in
        ap (said x p q m) (sym made.2) ∙ ended_says s made.0 own (is_local s made.0 own made.1)
  ]
  search_says (suc levels) s own i has =
      let onward = λ (c : Found). if is_pointer x c then search x p.first h q.va.0 levels (below_of h s c.read) else ended c ∷ [] in
      elim (contains_cases (stood s) i (flat_map onward (reads_at x p.first h q.va.0 s)) has) [
        | inl same ↦ ap (said x p q m) (sym same) ∙ stood_says s own
        | inr rest ↦
            let from = flat_from onward (reads_at x p.first h q.va.0 s) i rest in
            onward_says levels s from.0 i own from.1 (λ t own_t inner. search_says levels t own_t i inner) (is_pointer x from.0) from.2
      ]

  pub from_root : (s : Stand) (top : Option ℕ) → Contains (root_at q.va.0 u top) s → flat_map (said x p q m) (search x p.first h q.va.0 s.level s) ≡ []
  from_root s None has = absurd (contains_none s has)
  from_root s (Some top) has = elim (cases_Bool (is_canonical top q.va.0)) [
    | inr off ↦ absurd (contains_none s (rw off at has))
    | inl canonical ↦ elim (contains_cases (record { level = top; table = root_ppn u.satp; asid = asid u.satp; global = false; epoch = u.epoch; last = u.last }) s [] (rw canonical at has)) [
      | inr none ↦ absurd (contains_none s none)
      | inl same ↦ flat_none (said x p q m) (search x p.first h q.va.0 s.level s)
          (search_says s.level s (subst (λ (t : Stand). IsOwn t) same (record { local = refl; space = refl; last = refl })))
    ]
  ]

pub root_over : (a : Question) (p : Past) (u : Use) → IsUse p.first.satp p.events u → IsOver p u → [] ≡ root_says a p u
unfolding root_says table_says
root_over a p u used over =
    sym (flat_none (λ s. flat_map (said a.extensions p a.request a.mode) (search a.extensions p.first p.events a.request.va.0 s.level s)) (root_at a.request.va.0 u (top_of u.satp))
    (λ s has. from_root a.extensions p a.request a.mode u used over s (top_of u.satp) has))
