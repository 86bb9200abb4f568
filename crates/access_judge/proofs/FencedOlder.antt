-- A fence that covers a leaf in a last table covers each older word of its place.
use Rattle.std.proofs.Common.{◌≡◌, ◌⊎◌, ◌≤◌, ◌<◌, ◌^◌, ◌/◌, ◌-◌, ◌&&◌, ◌||◌, ◌==◌, ◌∷◌, ◌++◌, [], ℕ, zero, suc, Bool, true, false, List, Option, None, Some, length, refl, sym, ap, ◌∙◌, subst, inl, inr, arith, if◌then◌else◌}
use Rattle.std.specs.List.{Contains}
use Rattle.std.proofs.lemmas.Bool.{and_from, and_parts, lt-ltb}
use Rattle.std.proofs.lemmas.Bool.Decides.{nat_tests}
use Rattle.std.proofs.lemmas.List.{append-nil}
use Rattle.sv39_entry.specs.Address.{page_of, vpn}
use Rattle.sv39_entry.specs.declared.entry.Kind.TheVariants.{Leaf, Pointer}
use Rattle.walk_rules.specs.Addresses.{top_of}
use Rattle.walk_rules.specs.Kinds.{kind_in}
use Rattle.walk_rules.specs.declared.extensions.Extensions.{Extensions}
use Rattle.access_history.specs.Held.{page_bits}
use Rattle.access_history.specs.History.{First, satp_at}
use Rattle.access_history.specs.Permits.{Past}
use Rattle.access_history.specs.declared.event.Event.{Event}
use Rattle.access_history.specs.declared.event.Event.TheVariants.{Store, WriteSatp, WritePmp, Fence}
use Rattle.access_history.specs.declared.outcome.Outcome.{Outcome}
use Rattle.access_judge.specs.Judging.{counts, item_says, step_says, word_says, words_say}
use Rattle.access_judge.specs.Log.{versions_before}
use Rattle.access_judge.specs.Older.{HidesOlder}
use Rattle.access_judge.specs.Search.{Found, Stand, Version, address_fence, became_leaf, before, ended, found_by, is_address_under, is_fenced, is_for, is_kind, is_pointer, space_of, until, versions}
use Rattle.access_judge.specs.declared.question.Question.{Question}
use Rattle.access_judge.proofs.FenceNumber.{fence_in_past}
use Rattle.access_judge.proofs.LaterLeaf.{after}
use Rattle.access_judge.proofs.Moments.{past_between, past_length, past_trans, until_length, until_past}
use Rattle.access_judge.proofs.SearchKinds.{is_other_kind, is_same_kind, leaf_or_invalid, no_pointer_low}
use Rattle.access_judge.proofs.SearchLists.{any_contains, contains_head, contains_later}
use Rattle.access_judge.proofs.Telling.{word_at_found, word_not_found}
use Rattle.access_judge.proofs.WordVersions.{version_had, version_of}

-- ---- the last fence of a page in each address space is no later than the last one of a larger range, or of one address space

if_later : (a b : Bool) (n i j : ℕ) → (a ≡ true → b ≡ true) → i ≤ j → j ≤ n → (if a then n else i) ≤ (if b then n else j)
if_later true true n i j f low most = omega arith
if_later true false n i j f low most = absurd (cc (f refl))
if_later false true n i j f low most = omega (arith, low, most)
if_later false false n i j f low most = low

covers : (under : Bool) (a bits va : ℕ) (s space : Option ℕ) → (a / 2 ^ 12 ≡ va / 2 ^ 12 → a / 2 ^ bits ≡ va / 2 ^ bits)
    → (under && a / 2 ^ 12 == va / 2 ^ 12 && is_for s None) ≡ true → (under && a / 2 ^ bits == va / 2 ^ bits && is_for s space) ≡ true
covers under a bits va None space wide is =
    let parts = and_parts (under && a / 2 ^ 12 == va / 2 ^ 12) true is in
    let page = and_parts under (a / 2 ^ 12 == va / 2 ^ 12) parts.0 in
    let same : a / 2 ^ 12 ≡ va / 2 ^ 12 = equal (a / 2 ^ 12) (va / 2 ^ 12) page.1 in
    and_from (under && a / 2 ^ bits == va / 2 ^ bits) true (and_from under (a / 2 ^ bits == va / 2 ^ bits) page.0 (equals (a / 2 ^ bits) (va / 2 ^ bits) (wide same))) refl
  where
    equal : (m n : ℕ) → (m == n) ≡ true → m ≡ n
    equal m n e = grind (arith, nat_tests)

    equals : (m n : ℕ) → m ≡ n → (m == n) ≡ true
    equals m n e = grind (arith, nat_tests)
covers under a bits va (Some t) space wide is =
    let parts = and_parts (under && a / 2 ^ 12 == va / 2 ^ 12) false is in
    absurd (cc (parts.1))

fence_later : (satp : ℕ) (h : List Event) (bits va : ℕ) (space : Option ℕ) → ((a : ℕ) → a / 2 ^ 12 ≡ va / 2 ^ 12 → a / 2 ^ bits ≡ va / 2 ^ bits)
    → address_fence satp h 12 va None ≤ address_fence satp h bits va space
fence_later satp [] bits va space wide = omega arith
fence_later satp (Store p i w ∷ h) bits va space wide = fence_later satp h bits va space wide
fence_later satp (WriteSatp w ∷ h) bits va space wide = fence_later satp h bits va space wide
fence_later satp (WritePmp n e ∷ h) bits va space wide = fence_later satp h bits va space wide
fence_later satp (Fence None s ∷ h) bits va space wide = fence_later satp h bits va space wide
fence_later satp (Fence (Some a) s ∷ h) bits va space wide =
    let up = fence_in_past satp h bits va space in
    if_later _ _ (suc (length h)) (address_fence satp h 12 va None) (address_fence satp h bits va space)
    (covers (is_address_under (top_of (satp_at satp h)) a.0) a.0 bits va s space (wide a.0)) (fence_later satp h bits va space wide) (omega (arith, up))

-- ---- a fence for a page of a last table

at_page : (level va : ℕ) → level ≡ 0 → (a : ℕ) → a / 2 ^ 12 ≡ va / 2 ^ 12 → a / 2 ^ page_bits level ≡ va / 2 ^ page_bits level
at_page zero va low a same = same
at_page (suc level) va low a same = absurd (omega (arith, low))

-- ---- an older word is fenced

module _ (x : Extensions) (f : First) (h : List Event) (va : ℕ) where
  abbrev number_of : Found → ℕ
  number_of c = address_fence f.satp h (page_bits c.read.level) va (space_of c.read)

  became : (c : Found) (v : Version) (number : ℕ) → c.read.level ≡ 0 → v.last < number → number ≤ length h → c.last < v.last → v.last ≤ length h
      → Contains (versions f.memory (until h v.last) c.read.table (vpn (page_of va) 0)) v → is_kind (kind_in x 0 v.word) Leaf ≡ true
      → became_leaf x f h va c number ≡ true
  became c v number level late high old now has leaf = rw level (
      let had = version_had f.memory (until h v.last) c.read.table (vpn (page_of va) 0) v has in
      let k = had.0 in
      let past = past_trans h (until h v.last) k (until_past h v.last) had.1 in
      let short = until_length h (number - 1) (omega (arith, high)) in
      let long = had.2 in
      let inside = past_between h (before h number) k (until_past h (number - 1)) past (omega (arith, short, long, late)) in
      let found = version_of (length (before h number)) f.memory (before h number) k c.read.table (vpn (page_of va) 0) v.word (omega arith) inside had.3 in
      let until_then = found.3 in
      any_contains (after c.last (λ (u : Version). is_kind (kind_in x 0 u.word) Leaf)) (versions f.memory (before h number) c.read.table (vpn (page_of va) 0)) found.0 found.1
      (and_from _ _ (lt-ltb c.last found.0.last (omega (arith, old, long, until_then))) (ap (λ (w : ℕ). is_kind (kind_in x 0 w) Leaf) found.2 ∙ leaf))
      )

  either_way : (a b : Bool) → (a ≡ true) ⊎ (b ≡ true) → (a || b) ≡ true
  either_way true b is = refl
  either_way false b (inl is) = absurd (cc (is))
  either_way false b (inr is) = is

  pub older_fenced : (c : Found) (v : Version) → c.read.level ≡ 0 → v.last < address_fence f.satp h 12 va None → c.last < v.last
      → Contains (versions f.memory (until h v.last) c.read.table (vpn (page_of va) 0)) v → is_kind (kind_in x 0 v.word) Leaf ≡ true
      → is_fenced x f h va c ≡ true
  older_fenced c v level late old has leaf =
      let bits = page_bits c.read.level in
      let up = fence_later f.satp h bits va (space_of c.read) (at_page c.read.level va level) in
      let high = fence_in_past f.satp h bits va (space_of c.read) in
      let low : v.last < number_of c = omega (arith, late, up) in
      let is : (is_kind (kind_in x c.read.level c.read.word) Leaf ≡ true) ⊎ (became_leaf x f h va c (number_of c) ≡ true) =
      elim (leaf_or_invalid (kind_in x c.read.level c.read.word) (no_pointer_low x c.read.level c.read.word level)) [
        | inl one ↦ inl (is_same_kind (kind_in x c.read.level c.read.word) Leaf one)
        | inr other ↦ inr (became c v (number_of c) level low high old (omega (arith, low, high)) has leaf)
      ] in
      either_way _ _ (inl (and_from _ _ (lt-ltb c.last (number_of c) (omega (arith, old, low))) (either_way _ _ is)))

-- ---- so it says nothing

none_if : (b : Bool) (os : List Outcome) → (if b && false then os else []) ≡ []
none_if true os = refl
none_if false os = refl

fenced_says : (a : Question) (p : Past) (c : Found) → is_fenced a.extensions p.first p.events a.request.va.0 c ≡ true → item_says a p (ended c) ≡ []
unfolding item_says
fenced_says a p c fenced = rw fenced (none_if _ _)

step_none : (a : Question) (p : Past) (s : Stand) (c : Found) → is_pointer a.extensions c ≡ false → item_says a p (ended c) ≡ []
    → step_says a p s c ≡ []
unfolding step_says
step_none a p s c ends none = rw ends none

word_none : (a : Question) (p : Past) (s : Stand) (napot : Bool) (v : Version) (b : Bool) → counts a s napot (found_by s v) ≡ b
    → step_says a p s (found_by s v) ≡ [] → word_says a p s napot v ≡ []
word_none a p s napot v true is none = sym (word_at_found a p s napot v is) ∙ none
word_none a p s napot v false is none = sym (word_not_found a p s napot v is)

older_says : (a : Question) (p : Past) (s : Stand) (napot : Bool) (index word last : ℕ) (u : Version) → HidesOlder a p s index word last
    → u.last < last → Contains (versions p.first.memory (until p.events last) s.table index) (record { word = word; last = last })
    → word_says a p s napot u ≡ []
older_says a p s napot index word last u hides old has =
    let c = found_by s u in
    let own = hides.own ∙ ap (vpn (page_of a.request.va.0)) hides.level in
    let at = subst (λ (i : ℕ). Contains (versions p.first.memory (until p.events last) s.table i) (record { word = word; last = last })) own has in
    let fenced = older_fenced a.extensions p.first p.events a.request.va.0 c (record { word = word; last = last }) hides.level hides.fenced old at hides.leaf in
    word_none a p s napot u (counts a s napot c) refl
    (step_none a p s c (is_other_kind (kind_in a.extensions s.level u.word) Pointer (no_pointer_low a.extensions s.level u.word hides.level)) (fenced_says a p c fenced))

all_none : (a : Question) (p : Past) (s : Stand) (napot : Bool) (vs : List Version)
    → ((u : Version) → Contains vs u → word_says a p s napot u ≡ []) → words_say a p s napot vs ≡ []
unfolding words_say
all_none a p s napot [] none = refl
all_none a p s napot (v ∷ vs) none =
    ap (λ (os : List Outcome). os ++ words_say a p s napot vs) (none v (contains_head v vs))
    ∙ all_none a p s napot vs (λ u has. none u (contains_later v u vs has))

older_none : (a : Question) (p : Past) (s : Stand) (napot : Bool) (index word last since : ℕ) → HidesOlder a p s index word last
    → since ≤ last → last ≤ length p.events → Contains (versions p.first.memory (until p.events last) s.table index) (record { word = word; last = last })
    → words_say a p s napot (versions_before p.first.memory p.events s.table index since) ≡ []
older_none a p s napot index word last zero hides low now has = all_none a p s napot [] (λ u none. absurd (contains_nothing u none))
  where
    contains_nothing : (u : Version) → Contains [] u → ⊥
    contains_nothing u none = let less = none.1 in omega (arith, less)
older_none a p s napot index word last (suc moment) hides low now has =
    all_none a p s napot (versions p.first.memory (until p.events moment) s.table index) (λ u is_u.
    let had = version_had p.first.memory (until p.events moment) s.table index u is_u in
    let short = past_length (until p.events moment) had.0 had.1 in
    let long = until_length p.events moment (omega (arith, low, now)) in
    let is = had.2 in
    older_says a p s napot index word last u hides (omega (arith, short, long, is, low)) has)

-- the loop over the words of a place may stop behind a word that hides the older ones
pub words_hide : (a : Question) (p : Past) (s : Stand) (napot : Bool) (index word last since : ℕ) (done all : List Outcome)
    → HidesOlder a p s index word last → since ≤ last → last ≤ length p.events
    → versions p.first.memory (until p.events last) s.table index
    ≡ record { word = word; last = last } ∷ versions_before p.first.memory p.events s.table index since
    → done ++ words_say a p s napot (versions p.first.memory (until p.events last) s.table index) ≡ all
    → done ++ word_says a p s napot (record { word = word; last = last }) ≡ all
unfolding words_say
words_hide a p s napot index word last since done all hides low now is total =
    let v : Version = record { word = word; last = last } in
    let first = subst (λ (vs : List Version). Contains vs v) (sym is) (contains_head v (versions_before p.first.memory p.events s.table index since)) in
    let rest = older_none a p s napot index word last since hides low now first in
    let says = ap (words_say a p s napot) is in
    ap (λ (os : List Outcome). done ++ os) (sym (append-nil (word_says a p s napot v)) ∙ ap (λ (os : List Outcome). word_says a p s napot v ++ os) (sym rest) ∙ sym says) ∙ total
