-- Lemmas about the search for the first leaf below a page table, index by index, among places (numbers of the pages below
-- it): a leaf found below one index is the table's first if none is before it; a word that is 0, or names a frame of zeros,
-- has no leaf below; and what holds when the search ends without one.
use Rattle.std.proofs.Common.{◌≡◌, ℕ, zero, suc, ◌+◌, ◌-◌, ◌*◌, ◌/◌, ◌%◌, ◌^◌, ◌<◌, ◌≤◌, min, inl, inr, refl, ap, sym, subst, ◌∙◌, arith, Option, Some, None, option_map, unwrap_or}
use Rattle.std.proofs.Math.Nat.{div-div-eq-div-mul, mul-le-mul_right}
use Rattle.std.proofs.lemmas.Bool.{cases_lt}
use Rattle.std.proofs.lemmas.Nat.{div-add-mod', div-mul-add, mod_below, pow-add}
use Rattle.std.proofs.lemmas.Option.{same_Some}
use Rattle.std.specs.FinMap.{get}
use Rattle.frame_store.specs.View.{View, known_word}
use Rattle.sv39_entry.specs.Frame.{frame_at}
use Rattle.sv39_entry.specs.Word.{kind_of, ppn}
use Rattle.sv39_entry.specs.declared.entry.Kind.TheVariants.{Invalid}
use Rattle.sv39_entry.specs.declared.frame.FrameNo.{FrameNo}
use Rattle.sv39_entry.specs.declared.scheme.Scheme.{Scheme}
use Rattle.table_walk.specs.TableChanges.{ArePassed, HasEntry, HasNoLeafBelow, IsTableAt}
use Rattle.table_walk.specs.Tables.{Tables, AreTables, HasTables, first_leaf, pointer_or_zero, root_node}
use Rattle.frame_store.specs.NextWord.{AreZeros, NamesZeros}
use Rattle.table_walk.specs.Places.{HasNoLeaves, IsBareTo, IsFirstLeaf, IsFirstLeafBefore}
use Rattle.table_walk.proofs.Children.{child_none, frame_named, pointer_ppn}
use Rattle.table_walk.proofs.TableWords.{kind-zero, word_high, word_leaf}
use Rattle.table_walk.specs.Nodes.{power_next, power_some, power_up, root_some}

-- the word that was read at an index of a table
pub entry_here : (v w : View) (t : Tables) (k f level i word : ℕ) → w ≡ v → get t.tables k ≡ Some f → IsTableAt k level → i < 512
    → ((x : ℕ) → known_word v f i ≡ Some x → word ≡ x) → HasEntry w t k level i word
entry_here v w t k f level i word same at is small read = record { frame = f; table = at; at = is; in_table = small; read = rw same read }

-- so many times nine bits
pub nine_bits : (k : ℕ) → 2 ^ (9 * k) ≡ 512 ^ k
nine_bits zero = refl
nine_bits (suc k) =
    let more : 9 * suc k ≡ 9 + 9 * k = omega arith in
    ap (λ (x : ℕ). 2 ^ x) more ∙ pow-add 2 9 (9 * k) ∙ ap (λ (x : ℕ). 512 * x) (nine_bits k) ∙ sym (power_next k)

-- ---- one index after another

-- a place of an index of a number is a place of the number
at_index : (k i width m : ℕ) → k * (512 * width) + (i * width + m) ≡ (k * 512 + i) * width + m
at_index k i width m = omega arith

-- no place of an index from one on and before another has a leaf
index_bare : (t : Tables) (k width b from : ℕ) → 1 ≤ width → ((i : ℕ) → from / width ≤ i → i < b → HasNoLeaves t (k * 512 + i) width 0 width)
    → (n : ℕ) → from ≤ n → n < b * width → get t.leaves (k * (512 * width) + n) ≡ None
index_bare t k width b from some each n le lt =
    let i = n / width in
    let whole = div-add-mod' n width in
    let rest = mod_below n width some in
    let start = div-add-mod' from width in
    let after : from / width ≤ i = elim (cases_lt i (from / width)) [
      | inl less ↦ absurd (let row = mul-le-mul_right {m = suc i} {n = from / width} width (omega (arith, less)) in omega (arith, row, whole, rest, start, le))
      | inr more ↦ omega (arith, more)
    ] in
    let before : i < b = elim (cases_lt i b) [
      | inl less ↦ less
      | inr more ↦ absurd (let row = mul-le-mul_right {m = b} {n = i} width (omega (arith, more)) in omega (arith, row, whole, lt))
    ] in
    let place : i * width + n % width ≡ n = omega (arith, whole) in
    ap (get t.leaves) (ap (λ x. k * (512 * width) + x) (sym place) ∙ at_index k i width (n % width)) ∙ each i after before (n % width) (omega arith) rest

module _ (t : Tables) (k width from i place end : ℕ) where
  pub bare_more : IsBareTo t k (512 * width) from (i * width + place) end → IsBareTo t (k * 512 + i) width place width (end - i * width)
      → IsBareTo t k (512 * width) from (i * width + width) end
  bare_more before here n le lt to = elim (cases_lt n (i * width + place)) [
    | inl less ↦ before n le less to
    | inr more ↦
        let m = n - i * width in
        let split : n ≡ i * width + m = omega (arith, more) in
        let last : m < width = omega (arith, more, lt) in
        let inside : m < end - i * width = omega (arith, more, to) in
        ap (get t.leaves) (ap (λ x. k * (512 * width) + x) split ∙ at_index k i width m) ∙ here m (omega (arith, more)) last inside
  ]

  pub first_more : (p : ℕ × ℕ) → IsBareTo t k (512 * width) from (i * width + place) end → from ≤ i * width + place → i < 512
      → IsFirstLeafBefore t (k * 512 + i) width place (end - i * width) (Some p) → IsFirstLeafBefore t k (512 * width) from end (Some (i * width + p.0, p.1))
  first_more p before on low here = (
    omega (arith, here.0, on),
    (let row = mul-le-mul_right {m = suc i} {n = 512} width (omega (arith, low)) in omega (arith, here.1, row)),
    ap (get t.leaves) (at_index k i width p.0) ∙ here.2,
    λ n le lt to. elim (cases_lt n (i * width + place)) [
      | inl less ↦ before n le less to
      | inr more ↦
          let m = n - i * width in
          let split : n ≡ i * width + m = omega (arith, more) in
          let inside : m < end - i * width = omega (arith, more, to) in
          ap (get t.leaves) (ap (λ x. k * (512 * width) + x) split ∙ at_index k i width m) ∙ here.3 m (omega (arith, more)) (omega (arith, more, lt)) inside
    ],
  )

pub bare_none : (t : Tables) (k width from to end : ℕ) → to ≤ from → IsBareTo t k width from to end
bare_none t k width from to end over n le lt _ = absurd (omega (arith, over, le, lt))

-- ---- up to an end

pub up_to : (t : Tables) (k width from end : ℕ) (o : Option (ℕ × ℕ)) → IsFirstLeaf t k width from o → IsFirstLeafBefore t k width from end o
up_to t k width from end None first = λ n le lt _. first n le lt
up_to t k width from end (Some p) first = (first.0, first.1, first.2, λ n le lt _. first.3 n le lt)

-- where the end is behind all places
pub of_all : (t : Tables) (k width from end : ℕ) (o : Option (ℕ × ℕ)) → width ≤ end → IsFirstLeafBefore t k width from end o → IsFirstLeaf t k width from o
of_all t k width from end None all first = λ n le lt. first n le lt (omega (arith, all, lt))
of_all t k width from end (Some p) all first = (
  first.0,
  first.1,
  first.2,
  let low = first.1 in
      λ n le lt. first.3 n le lt (omega (arith, all, lt, low)),
)

pub none_to : (t : Tables) (k width from end : ℕ) → end ≤ width → IsFirstLeafBefore t k width from end None → HasNoLeaves t k width from end
none_to t k width from end low first n le lt = first n le (omega (arith, low, lt)) lt

-- ---- levels

pub table_child : (k level i : ℕ) → IsTableAt k level → level ≤ 3 → i < 512 → (level ≡ 0 → ⊥) → (k * 512 + i < first_leaf) × IsTableAt (k * 512 + i) (level - 1)
table_child k level i at low small some =
    let more : 3 - (level - 1) ≡ suc (3 - level) = omega (arith, low, some) in
    let next = power_next (3 - level) in
    let far = power_up (3 - level) 2 (omega (arith, low, some)) in
    let from : 512 ^ (3 - (level - 1)) ≤ k * 512 + i = rw more (omega (arith, next, at.0)) in
    let below : k * 512 + i < 2 * 512 ^ (3 - (level - 1)) = rw more (omega (arith, next, at.1, small)) in
    (omega (arith, far, at.1, small), (from, below))

pub same_places : (t : Tables) (k v w from end : ℕ) (o : Option (ℕ × ℕ)) → v ≡ w → IsFirstLeafBefore t k v from end o → IsFirstLeafBefore t k w from end o
same_places t k v w from end None same first = subst (λ (x : ℕ). IsFirstLeafBefore t k x from end None) same first
same_places t k v w from end (Some p) same first = subst (λ (x : ℕ). IsFirstLeafBefore t k x from end (Some p)) same first

pub fits_word : (w i found : ℕ) → w ≤ 512 ^ 3 → i < 512 → found < w → i * w + found < 2 ^ 64
fits_word w i found few low less = let row = mul-le-mul_right {m = suc i} {n = 512} w (omega (arith, low)) in omega (arith, few, less, row)

-- an index at or after a place's has its end behind the place
pub past_index : (place width i : ℕ) → 1 ≤ width → place / width ≤ i → place < i * width + width
past_index place width i some from =
    let whole = div-add-mod' place width in
    let rest = mod_below place width some in
    let row = mul-le-mul_right {m = place / width} {n = i} width from in
    omega (arith, whole, rest, row)

-- the index of the last place before a stop is in the table, and all places before the stop are before the next index
index_low : (place width : ℕ) → 1 ≤ width → place < 512 * width → place / width < 512
index_low place width some lt = elim (cases_lt (place / width) 512) [
  | inl less ↦ less
  | inr more ↦
      let whole = div-add-mod' place width in
      let row = mul-le-mul_right {m = 512} {n = place / width} width (omega (arith, more)) in
      absurd (omega (arith, whole, row, lt))
]

pub last_index : (last stop end width : ℕ) → 1 ≤ width → stop ≡ min end (512 * width) → last ≡ (stop - 1) / width → last + 1 ≤ 512
last_index last stop end width some is at = let low = index_low (stop - 1) width some (omega (arith, is, some)) in omega (arith, low, at)

within_last : (n stop width : ℕ) → 1 ≤ width → n < stop → n < ((stop - 1) / width + 1) * width
within_last n stop width some lt =
    let whole = div-add-mod' (stop - 1) width in
    let rest = mod_below (stop - 1) width some in
    omega (arith, whole, rest, lt)

-- where no word is left before the index behind the last one, no place before the end has a leaf
pub bare_all : (t : Tables) (k level from last at stop end : ℕ) → stop ≡ min end (512 * 512 ^ level) → last ≡ (stop - 1) / 512 ^ level + 1
    → IsBareTo t k (512 * 512 ^ level) from (last * 512 ^ level + (at - last * 512 ^ level)) end → IsFirstLeafBefore t k (512 ^ suc level) from end None
bare_all t k level from last at stop end is to_last skip n le lt to =
    let next = power_next level in
    let before = within_last n stop (512 ^ level) (power_some level) (omega (arith, is, next, lt, to)) in
    let inside : n < last * 512 ^ level = rw to_last before in
    rw next (skip n le (omega (arith, inside)) to)

-- ---- one index

module _ {s : Scheme} (m : ℕ → ℕ → Option ℕ) (root : ℕ) (t : Tables) (h : AreTables s m root t) where
  one_up : (n j : ℕ) → n / 512 ^ suc j ≡ n / 512 ^ j / 512
  one_up n j =
      let turned : 512 ^ suc j ≡ 512 ^ j * 512 = omega (arith, power_next j) in
      ap (λ x. n / x) turned ∙ sym (div-div-eq-div-mul n (512 ^ j) 512)

  -- the tables above a leaf are there
  tables_above : (n w : ℕ) → get t.leaves n ≡ Some w → (j : ℕ) → root_node s ≤ n / 512 ^ suc j → (g : ℕ) × (get t.tables (n / 512 ^ suc j) ≡ Some g)
  tables_above n w is zero some = (h.leaf_hung n w is).2
  tables_above n w is (suc j) some =
      let up = one_up n (suc j) in
      let x = n / 512 ^ suc j in
      let far : root_node s ≤ x / 512 = rw up at some in
      let one_root = root_some s in
      let below = tables_above n w is j (omega (arith, far, one_root)) in
      elim (h.hung x below.0 below.1) [
        | inl one ↦ absurd (omega (arith, far, one, one_root))
        | inr above ↦ rw up above
      ]

  -- where there is no table there is no leaf
  no_leaf : (k l n : ℕ) (o : Option ℕ) → root_node s ≤ k → get t.tables k ≡ None → n < 512 ^ suc l → get t.leaves (k * 512 ^ suc l + n) ≡ o → get t.leaves (k * 512 ^ suc l + n) ≡ None
  no_leaf k l n None some none lt is = is
  no_leaf k l n (Some w) some none lt is =
      let same : (k * 512 ^ suc l + n) / 512 ^ suc l ≡ k = div-mul-add k (512 ^ suc l) n lt in
      let there = tables_above (k * 512 ^ suc l + n) w is l (rw same some) in
      let here = rw same at there.1 in
      absurd cc

  pub no_table : (k l from : ℕ) → root_node s ≤ k → get t.tables k ≡ None → HasNoLeaves t k (512 ^ suc l) from (512 ^ suc l)
  no_table k l from some none n le lt = no_leaf k l n (get t.leaves (k * 512 ^ suc l + n)) some none lt refl

  -- the word of an index of a last table
  one_word : (k f i w : ℕ) → get t.tables k ≡ Some f → 512 ^ 3 ≤ k → i < 512 → ((x : ℕ) → m f i ≡ Some x → w ≡ x) → w ≡ unwrap_or (get t.leaves (k * 512 + i)) 0
  one_word k f i w at low small read = read _ (h.words k f i at small) ∙ word_leaf t (k * 512 + i) (omega (arith, low))

  leaf_of : (n w : ℕ) (o : Option ℕ) → get t.leaves n ≡ o → w ≡ unwrap_or o 0 → (w ≡ 0 → ⊥) → get t.leaves n ≡ Some w
  leaf_of n w None is word some = absurd (some word)
  leaf_of n w (Some x) is word some = is ∙ ap Some (sym word)

  none_of : (n w : ℕ) (o : Option ℕ) → get t.leaves n ≡ o → w ≡ unwrap_or o 0 → w ≡ 0 → get t.leaves n ≡ None
  none_of n w None is word nil = is
  none_of n w (Some x) is word nil =
      let kind = (h.leaf_hung n x is).0 in
      let invalid : kind_of x ≡ Invalid = ap kind_of (sym word ∙ nil) ∙ kind-zero in
      absurd cc

  module _ (k f i w : ℕ) (at : get t.tables k ≡ Some f) (low : 512 ^ 3 ≤ k) (small : i < 512) (read : (x : ℕ) → m f i ≡ Some x → w ≡ x) where
    pub bare_word : (from : ℕ) → w ≡ 0 → HasNoLeaves t (k * 512 + i) 1 from 1
    bare_word from nil n le lt =
        let same : (k * 512 + i) * 1 + n ≡ k * 512 + i = omega (arith, lt) in
        ap (get t.leaves) same ∙ none_of (k * 512 + i) w (get t.leaves (k * 512 + i)) refl (one_word k f i w at low small read) nil

    pub leaf_word : (from : ℕ) → from < 1 → (w ≡ 0 → ⊥) → IsFirstLeaf t (k * 512 + i) 1 from (Some (0, w))
    leaf_word from first some = (
      omega (arith, first),
      omega arith,
      (let same : (k * 512 + i) * 1 + 0 ≡ k * 512 + i = omega arith in
          ap (get t.leaves) same ∙ leaf_of (k * 512 + i) w (get t.leaves (k * 512 + i)) refl (one_word k f i w at low small read) some),
      (λ n le lt. absurd (omega (arith, lt))),
    )

-- where the word is 0 there is neither a leaf nor a table
module _ {s : Scheme} (v : View) (root : ℕ) (t : Tables) (h : HasTables s v root t) where
  no_child : (k f i w : ℕ) → get t.tables k ≡ Some f → i < 512 → k * 512 + i < first_leaf → ((x : ℕ) → known_word v f i ≡ Some x → w ≡ x) → w ≡ 0
      → get t.tables (k * 512 + i) ≡ None
  no_child k f i w at small high read nil = sym (child_none v root t h k f i at small high w read (λ is. (let invalid : kind_of w ≡ Invalid = ap kind_of nil ∙ kind-zero in cc)))

  pub bare_zero : (k f i level w : ℕ) → get t.tables k ≡ Some f → IsTableAt k level → level ≤ 3 → i < 512 → ((x : ℕ) → known_word v f i ≡ Some x → w ≡ x)
      → (from : ℕ) → w ≡ 0 → HasNoLeaves t (k * 512 + i) (512 ^ level) from (512 ^ level)
  bare_zero k f i zero w at is low small read from nil = bare_word (known_word v) root t h.known k f i w at is.0 small read from nil
  bare_zero k f i (suc l) w at is low small read from nil =
      let below = table_child k (suc l) i is low small (λ e. absurd (omega (arith, e))) in
      let high = (h.known.below k f at).0 in
      no_table (known_word v) root t h.known (k * 512 + i) l from (omega (arith, high)) (no_child k f i w at small below.0 read nil)

  pub zeros_none : (k f level : ℕ) → get t.tables k ≡ Some f → IsTableAt k level → level ≤ 3 → (level ≡ 0 → ⊥) → (a b : ℕ) → AreZeros v f a b
      → (i : ℕ) → a ≤ i → i < b → b ≤ 512 → get t.tables (k * 512 + i) ≡ None
  zeros_none k f level at is low some a b zeros i from before small =
      let inside : i < 512 = omega (arith, before, small) in
      no_child k f i 0 at inside (table_child k level i is low inside some).0 (λ x known. sym (zeros i x from before known)) refl

  -- a table of zeros has no leaf below it
  zeros_bare : (k f level : ℕ) → get t.tables k ≡ Some f → IsTableAt k level → level ≤ 3 → AreZeros v f 0 512 → HasNoLeaves t k (512 * 512 ^ level) 0 (512 * 512 ^ level)
  zeros_bare k f level at is low zeros = index_bare t k (512 ^ level) 512 0 (power_some level)
      (λ i from before. bare_zero k f i level 0 at is low before (λ x known. sym (zeros i x (omega arith) before known)) 0 refl)

  -- nor has a number whose word is 0, or names a frame of zeros
  named_bare : (k f i l w : ℕ) → get t.tables k ≡ Some f → IsTableAt k (suc l) → suc l ≤ 3 → i < 512 → known_word v f i ≡ Some w → NamesZeros v w
      → (o : Option ℕ) → get t.tables (k * 512 + i) ≡ o → w ≡ pointer_or_zero o → HasNoLeaves t (k * 512 + i) (512 ^ suc l) 0 (512 ^ suc l)
  named_bare k f i l w at is low small known names None there word =
      bare_zero k f i (suc l) w at is low small (λ x here. same_Some w x (sym known ∙ here)) 0 word
  named_bare k f i l w at is low small known names (Some g) there word =
      let below = table_child k (suc l) i is low small (λ e. absurd (omega (arith, e))) in
      let few : g < 2 ^ 16 = (h.known.below _ g there).2 in
      let named : option_map (λ (x : FrameNo). x.0) (frame_at (ppn w)) ≡ Some g = rw (word, pointer_ppn g few) (frame_named g few) in
      let same : names.0.0 ≡ g = same_Some names.0.0 g (ap (option_map (λ (x : FrameNo). x.0)) (sym names.1) ∙ named) in
      let zeros : AreZeros v g 0 512 = subst (λ x. AreZeros v x 0 512) same names.2 in
      let width : 512 * 512 ^ l ≡ 512 ^ suc l = sym (power_next l) in
      let one : suc l - 1 ≡ l = omega arith in
      subst (λ x. HasNoLeaves t (k * 512 + i) x 0 x) width (zeros_bare (k * 512 + i) g l there (subst (λ x. IsTableAt (k * 512 + i) x) one below.1) (omega (arith, low)) zeros)

  idle_bare : (k f i level w : ℕ) → get t.tables k ≡ Some f → IsTableAt k level → level ≤ 3 → i < 512 → known_word v f i ≡ Some w → HasNoLeafBelow v level w
      → HasNoLeaves t (k * 512 + i) (512 ^ level) 0 (512 ^ level)
  idle_bare k f i level w at is low small known (inl nil) = bare_zero k f i level w at is low small (λ x here. same_Some w x (sym known ∙ here)) 0 nil
  idle_bare k f i zero w at is low small known (inr names) = absurd (omega (arith, names.0))
  idle_bare k f i (suc l) w at is low small known (inr names) =
      let below = table_child k (suc l) i is low small (λ e. absurd (omega (arith, e))) in
      let word : w ≡ pointer_or_zero (get t.tables (k * 512 + i)) = same_Some w _ (sym known ∙ h.known.words k f i at small ∙ ap Some (word_high t (k * 512 + i) below.0)) in
      named_bare k f i l w at is low small known names.1 (get t.tables (k * 512 + i)) refl word

  -- such words are passed over
  module _ (k f level : ℕ) (at : get t.tables k ≡ Some f) (is : IsTableAt k level) (low : level ≤ 3) (b from : ℕ) (passed : ArePassed v f level (from / 512 ^ level) b) (small : b ≤ 512) where
    passed_bare : (n : ℕ) → from ≤ n → n < b * 512 ^ level → get t.leaves (k * (512 * 512 ^ level) + n) ≡ None
    passed_bare = index_bare t k (512 ^ level) b from (power_some level)
        (λ i after before.
        let inside : i < 512 = omega (arith, before, small) in
        let known = h.known.words k f i at inside in
        idle_bare k f i level _ at is low inside known (passed i _ after before known))

    pub bare_skip : (first end : ℕ) → IsBareTo t k (512 * 512 ^ level) first from end → IsBareTo t k (512 * 512 ^ level) first (b * 512 ^ level + (from - b * 512 ^ level)) end
    bare_skip first end before n le lt to = elim (cases_lt n from) [
      | inl less ↦ before n le less to
      | inr more ↦ passed_bare n (omega (arith, more)) (omega (arith, more, lt))
    ]
