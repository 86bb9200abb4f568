-- Lemmas on runs in ascending order that do not meet: where a binary search ends among them (`found`, `found_none`), and what they have
-- once one run is put in the place of some (`inserted`, `merged`).
use Rattle.std.proofs.Common.{◌≡◌, ◌⊎◌, inl, inr, ℕ, suc, ◌+◌, ◌-◌, ◌<◌, ◌≤◌, min, max, Bool, true, false, ◌||◌, List, [], ◌∷◌, ◌++◌, length, get_or, take, drop, set, leb, ltb, refl, ap, sym, ◌∙◌, append_assoc, arith}
use Rattle.std.specs.List.{All, AllPairs, between, list_any}
use Rattle.std.specs.List.Sorted.{IsNonDecreasingBy, IsPartitionPoint}
use Rattle.std.proofs.lemmas.Bool.{and_from, and_left, and_parts, and_right, cases_Bool, cases_lt, true≢false, le-leb, le-ltb, leb-false, leb-true, lt-leb, lt-ltb, ltb-false, ltb-true}
use Rattle.std.proofs.lemmas.List.{drop-set-lt, get_or-drop, get_or-take, get_or_default, length-drop, length-take-le}
use Rattle.std.proofs.lemmas.Grind.{take-set_at}
use Rattle.std.proofs.lemmas.List.Edits.{between_none, get_or-between, length-between, split_between}
use Rattle.std.proofs.lemmas.List.Elements.{All-append, All-cons, All-drop, All-head, All-tail, All-take}
use Rattle.std.proofs.lemmas.List.Folds.{list_any-append, list_any_at, list_any_none}
use Rattle.std.proofs.lemmas.List.Kept.{AllPairs-cons}
use Rattle.mmu.specs.Words.{AreApart, Meets, is_in, is_in_some}
use Rattle.mmu.specs.declared.run.Run.{Run}

before : (r : Run) (n : ℕ) → n < r.first → is_in r n ≡ false
before r n less = and_left (leb r.first n) (ltb n r.end) (lt-leb r.first n less)

behind : (r : Run) (n : ℕ) → r.end ≤ n → is_in r n ≡ false
behind r n le = and_right (leb r.first n) (ltb n r.end) (le-ltb n r.end le)

within : (r : Run) (n : ℕ) → r.first ≤ n → n < r.end → is_in r n ≡ true
within r n le less = and_from (leb r.first n) (ltb n r.end) (le-leb r.first n le) (lt-ltb n r.end less)

bounds : (r : Run) (n : ℕ) → is_in r n ≡ true → (r.first ≤ n) × (n < r.end)
bounds r n is = let parts = and_parts (leb r.first n) (ltb n r.end) is in (leb-true r.first n parts.0, ltb-true n r.end parts.1)

-- one run ends below the first number of another
abbrev Below : Run → Run → Type 0
Below r s = r.end < s.first

-- pairs of a list that has an element between two parts
pairs_put : (ls rs : List Run) (m : Run) → AllPairs Below ls → AllPairs Below rs → All (λ a. Below a m) ls → All (Below m) rs
    → All (λ a. All (Below a) rs) ls → AllPairs Below (ls ++ m ∷ rs)
pairs_put [] rs m left right low high across = AllPairs-cons Below m rs high right
pairs_put (a ∷ ls) rs m left right low high across =
    let rest : AllPairs Below ls = λ i j d less l. left (suc i) (suc j) d (omega (arith, less)) (omega (arith, l)) in
    let first : All (Below a) ls = λ j d l. left 0 (suc j) d (omega arith) (omega (arith, l)) in
    AllPairs-cons Below a (ls ++ m ∷ rs)
    (All-append (Below a) ls (m ∷ rs) first (All-cons (Below a) m rs (All-head (λ (x : Run). Below x m) a ls low) (All-head (λ (x : Run). All (Below x) rs) a ls across)))
    (pairs_put ls rs m rest right (All-tail (λ (x : Run). Below x m) a ls low) high (All-tail (λ (x : Run). All (Below x) rs) a ls across))

pub apart_none : AreApart []
apart_none = record { filled = λ k d l. absurd (omega (arith, l)); apart = λ i j d less l. absurd (omega (arith, l)) }

shuffle : (a r k b : Bool) → (a || ((r || k) || b)) ≡ (r || (a || (k || b)))
shuffle true true k b = refl
shuffle true false k b = refl
shuffle false true k b = refl
shuffle false false k b = refl

or_false : (b : Bool) → b ≡ (b || false)
or_false true = refl
or_false false = refl

module _ (xs : List Run) (h : AreApart xs) where
  pub firsts : IsNonDecreasingBy (λ (r : Run). r.first) xs
  firsts = λ i j d le l. elim (cases_lt i j) [
    | inl less ↦ omega (arith, h.filled i d (omega (arith, less, l)), h.apart i j d less l)
    | inr over ↦ let same : i ≡ j = omega (arith, le, over) in rw same (omega arith)
  ]

  pub ends : IsNonDecreasingBy (λ (r : Run). r.end) xs
  ends = λ i j d le l. elim (cases_lt i j) [
    | inl less ↦ omega (arith, h.filled j d l, h.apart i j d less l)
    | inr over ↦ let same : i ≡ j = omega (arith, le, over) in rw same (omega arith)
  ]

  module _ (n at : ℕ) (point : IsPartitionPoint (λ (r : Run). leb r.end n ≡ true) (λ (r : Run). leb r.end n ≡ false) xs at) where
    -- only the first run that ends behind a number may have it
    pub found : (d : Run) → at < length xs → is_in_some xs n ≡ is_in (get_or xs at d) n
    found d l = elim (cases_Bool (is_in (get_or xs at d) n)) [
      | inl holds ↦ list_any_at (λ (r : Run). is_in r n) xs at d l holds ∙ sym holds
      | inr outside ↦ list_any_none (λ (r : Run). is_in r n) xs (λ k e k-l. other outside k e k-l (cases_lt k at) (cases_lt at k)) ∙ sym outside
    ]
      where
        other : is_in (get_or xs at d) n ≡ false → (k : ℕ) (e : Run) → k < length xs → (k < at) ⊎ (at ≤ k) → (at < k) ⊎ (k ≤ at)
            → is_in (get_or xs k e) n ≡ false
        other outside k e k-l (inl less) o = behind (get_or xs k e) n (leb-true (get_or xs k e).end n (point.0 k e (omega arith) less))
        other outside k e k-l (inr le) (inl less) =
            before (get_or xs k e) n (omega (arith, leb-false (get_or xs at e).end n (point.1 at e (omega arith) l), h.apart at k e less k-l))
        other outside k e k-l (inr le) (inr ge) =
            let same : k ≡ at = omega (arith, le, ge) in
            ap (λ (r : Run). is_in r n) (ap (λ (i : ℕ). get_or xs i e) same ∙ get_or_default xs at e d l) ∙ outside

    -- no run has a number at which or before which all end
    pub found_none : length xs ≤ at → is_in_some xs n ≡ false
    found_none all = list_any_none (λ (r : Run). is_in r n) xs (λ k e k-l. behind (get_or xs k e) n (leb-true (get_or xs k e).end n (point.0 k e (omega arith) (omega (arith, all, k-l)))))

  -- a run in the place of those from `low` on below `high`
  module _ (low high : ℕ) (m : Run) (order : low ≤ high) (bound : high ≤ length xs) where
    parts_apart : m.first < m.end → ((k : ℕ) (d : Run) → k < low → (get_or xs k d).end < m.first)
        → ((k : ℕ) (d : Run) → high ≤ k → k < length xs → m.end < (get_or xs k d).first) → AreApart (take low xs ++ m ∷ drop high xs)
    parts_apart some left right =
        let size : length (take low xs) ≡ low = length-take-le low xs (omega (arith, order, bound)) in
        let rest : length (drop high xs) ≡ length xs - high = length-drop high xs in
        record {
          filled = All-append (λ (r : Run). r.first < r.end) (take low xs) (m ∷ drop high xs) (All-take (λ (r : Run). r.first < r.end) low xs h.filled)
              (All-cons (λ (r : Run). r.first < r.end) m (drop high xs) some (All-drop (λ (r : Run). r.first < r.end) high xs h.filled));
          apart = pairs_put (take low xs) (drop high xs) m
              (λ i j d less l. let i-l : i < low = omega (arith, size, less, l) in
              let j-l : j < low = omega (arith, size, l) in
              rw (get_or-take low xs i d i-l, get_or-take low xs j d j-l) (h.apart i j d less (omega (arith, j-l, order, bound))))
              (λ i j d less l. rw (get_or-drop high xs i d, get_or-drop high xs j d) (h.apart (high + i) (high + j) d (omega (arith, less)) (omega (arith, rest, l))))
              (λ i d l. let i-l : i < low = omega (arith, size, l) in rw (get_or-take low xs i d i-l) (left i d i-l))
              (λ j d l. rw (get_or-drop high xs j d) (right (high + j) d (omega arith) (omega (arith, rest, l))))
              (λ i d l j e k. let i-l : i < low = omega (arith, size, l) in
              let j-l : high + j < length xs = omega (arith, rest, k) in
              rw (get_or-take low xs i d i-l, get_or-drop high xs j e, get_or_default xs (high + j) e d j-l) (h.apart i (high + j) d (omega (arith, i-l, order)) j-l));
        }

    parts_have : (run : Run) (n : ℕ) → is_in m n ≡ (is_in run n || is_in_some (between low high xs) n)
        → is_in_some (take low xs ++ m ∷ drop high xs) n ≡ (is_in run n || is_in_some xs n)
    parts_have run n is =
        let p = λ (r : Run). is_in r n in
        let whole : list_any p xs ≡ (list_any p (take low xs) || (list_any p (between low high xs) || list_any p (drop high xs))) =
        ap (list_any p) (split_between xs low high order) ∙ list_any-append p (take low xs) (between low high xs ++ drop high xs)
        ∙ ap (λ (b : Bool). list_any p (take low xs) || b) (list_any-append p (between low high xs) (drop high xs)) in
        list_any-append p (take low xs) (m ∷ drop high xs) ∙ ap (λ (b : Bool). list_any p (take low xs) || (b || list_any p (drop high xs))) is
        ∙ shuffle (list_any p (take low xs)) (is_in run n) (list_any p (between low high xs)) (list_any p (drop high xs))
        ∙ ap (λ (b : Bool). is_in run n || b) (sym whole)

  -- where two binary searches end
  pub meets : (run : Run) (low high : ℕ) → run.first < run.end → low ≤ length xs → high ≤ length xs
      → IsPartitionPoint (λ (r : Run). ltb r.end run.first ≡ true) (λ (r : Run). ltb r.end run.first ≡ false) xs low
      → IsPartitionPoint (λ (r : Run). leb r.first run.end ≡ true) (λ (r : Run). leb r.first run.end ≡ false) xs high → Meets xs run low high
  meets run low high some low-l high-l lows highs = record {
    order = elim (cases_lt high low) [
      | inl less ↦
          let l : high < length xs = omega (arith, less, low-l) in
          absurd (omega (arith, some, left high run less, right high run (omega arith) l, h.filled high run l))
      | inr le ↦ le
    ];
    bound = high-l;
    before = λ k d z l. left k d l;
    meeting = λ k d le l. (
      ltb-false (get_or xs k d).end run.first (lows.1 k d le (omega (arith, l, high-l))),
      leb-true (get_or xs k d).first run.end (highs.0 k d (omega arith) l),
    );
    behind = right;
  }
    where
      left : (k : ℕ) (d : Run) → k < low → (get_or xs k d).end < run.first
      left k d l = ltb-true (get_or xs k d).end run.first (lows.0 k d (omega arith) l)

      right : (k : ℕ) (d : Run) → high ≤ k → k < length xs → run.end < (get_or xs k d).first
      right k d le l = leb-false (get_or xs k d).first run.end (highs.1 k d le l)

  -- a run that is added
  module _ (run : Run) (some : run.first < run.end) (low high : ℕ) (met : Meets xs run low high) where
    left : (k : ℕ) (d : Run) → k < low → (get_or xs k d).end < run.first
    left k d l = met.before k d (omega arith) l

    pub inserted : low ≡ high → AreApart (take low xs ++ run ∷ drop low xs)
    inserted same = parts_apart low low run (omega arith) (omega (arith, met.order, met.bound)) some left (λ k d le l. met.behind k d (omega (arith, same, le)) l)

    pub inserted_has : (n : ℕ) → is_in_some (take low xs ++ run ∷ drop low xs) n ≡ (is_in run n || is_in_some xs n)
    inserted_has n = parts_have low low run (omega arith) (omega (arith, met.order, met.bound)) run n
        (or_false (is_in run n) ∙ ap (λ (l : List Run). is_in run n || is_in_some l n) (sym (between_none xs low)))

    -- the run that replaces those that it overlaps or touches
    module _ (less : low < high) (lowest highest m : Run) (is_lowest : lowest ≡ get_or xs low lowest) (is_highest : highest ≡ get_or xs (high - 1) highest)
        (first : m.first ≡ min run.first lowest.first) (end : m.end ≡ max run.end highest.end) where
      low_at : (d : Run) → get_or xs low d ≡ lowest
      low_at d = get_or_default xs low d lowest (omega (arith, less, met.bound)) ∙ sym is_lowest

      high_at : (d : Run) → get_or xs (high - 1) d ≡ highest
      high_at d = get_or_default xs (high - 1) d highest (omega (arith, less, met.bound)) ∙ sym is_highest

      pub merged : AreApart (take low xs ++ m ∷ drop high xs)
      merged = parts_apart low high m met.order met.bound (omega (arith, some, first, end))
          (λ k d l. omega (arith, first, left k d l, ap (λ (r : Run). r.first) (low_at d), h.apart k low d l (omega (arith, less, met.bound))))
          (λ k d le l. omega (arith, end, met.behind k d le l, ap (λ (r : Run). r.end) (high_at d), h.apart (high - 1) k d (omega (arith, less, le)) l))

      module _ (n : ℕ) where
        inner : (k : ℕ) (d : Run) → k < length (between low high xs) → (low + k < high) × (get_or (between low high xs) k d ≡ get_or xs (low + k) d)
        inner k d l =
            let under : low + k < high = omega (arith, length-between xs low high met.bound, l) in
            (under, get_or-between xs low high k d under)

        in_lowest : lowest.first ≤ n → n < run.first → is_in_some (between low high xs) n ≡ true
        in_lowest le l =
            let size : 0 < length (between low high xs) = omega (arith, length-between xs low high met.bound, less) in
            let end_ : run.first ≤ lowest.end = omega (arith, ap (λ (r : Run). r.end) (low_at run), (met.meeting low run (omega arith) less).0) in
            let place : low + 0 ≡ low = omega arith in
            let same : get_or (between low high xs) 0 run ≡ lowest = (inner 0 run size).1 ∙ ap (λ (i : ℕ). get_or xs i run) place ∙ low_at run in
            list_any_at (λ (r : Run). is_in r n) (between low high xs) 0 run size
            (ap (λ (r : Run). is_in r n) same ∙ within lowest n le (omega (arith, l, end_)))

        in_highest : run.end ≤ n → n < highest.end → is_in_some (between low high xs) n ≡ true
        in_highest le l =
            let size : high - 1 - low < length (between low high xs) = omega (arith, length-between xs low high met.bound, less) in
            let first_ : highest.first ≤ run.end = omega (arith, ap (λ (r : Run). r.first) (high_at run), (met.meeting (high - 1) run (omega (arith, less)) (omega (arith, less))).1) in
            let place : low + (high - 1 - low) ≡ high - 1 = omega (arith, less) in
            let same : get_or (between low high xs) (high - 1 - low) run ≡ highest = (inner (high - 1 - low) run size).1 ∙ ap (λ (i : ℕ). get_or xs i run) place ∙ high_at run in
            list_any_at (λ (r : Run). is_in r n) (between low high xs) (high - 1 - low) run size
            (ap (λ (r : Run). is_in r n) same ∙ within highest n (omega (arith, le, first_)) l)

        in_none : is_in m n ≡ false → is_in_some (between low high xs) n ≡ false
        in_none outside = list_any_none (λ (r : Run). is_in r n) (between low high xs) (λ k d l. let under : low + k < high = (inner k d l).0 in
            let up : lowest.first ≤ (get_or xs (low + k) d).first = omega (arith, ap (λ (r : Run). r.first) (low_at d), firsts low (low + k) d (omega arith) (omega (arith, under, met.bound))) in
            let down : (get_or xs (low + k) d).end ≤ highest.end = omega (arith, ap (λ (r : Run). r.end) (high_at d), ends (low + k) (high - 1) d (omega (arith, under)) (omega (arith, less, met.bound))) in
            ap (λ (r : Run). is_in r n) (inner k d l).1 ∙ (elim (cases_lt n m.first) [
              | inl b ↦ before (get_or xs (low + k) d) n (omega (arith, b, first, up))
              | inr a ↦ elim (cases_lt n m.end) [
                | inl c ↦ absurd (true≢false (sym (within m n a c) ∙ outside))
                | inr c ↦ behind (get_or xs (low + k) d) n (omega (arith, c, end, down))
              ]
            ]))

        of_merged : is_in m n ≡ (is_in run n || is_in_some (between low high xs) n)
        of_merged = elim (cases_Bool (is_in run n)) [
          | inl holds ↦
              let inside = bounds run n holds in
              rw holds (within m n (omega (arith, first, inside.0)) (omega (arith, end, inside.1)))
          | inr outside ↦ rw outside (elim (cases_Bool (is_in m n)) [
            | inl holds ↦ holds ∙ sym (here outside (bounds m n holds) (cases_lt n run.first) (cases_lt n run.end))
            | inr out ↦ out ∙ sym (in_none out)
          ])
        ]
          where
            here : is_in run n ≡ false → (m.first ≤ n) × (n < m.end) → (n < run.first) ⊎ (run.first ≤ n) → (n < run.end) ⊎ (run.end ≤ n)
                → is_in_some (between low high xs) n ≡ true
            here outside inside (inl l) o = in_lowest (omega (arith, first, inside.0, l)) l
            here outside inside (inr le) (inl l) = absurd (true≢false (sym (within run n le l) ∙ outside))
            here outside inside (inr le) (inr ge) = in_highest ge (omega (arith, end, inside.1, ge))

        pub merged_has : is_in_some (take low xs ++ m ∷ drop high xs) n ≡ (is_in run n || is_in_some xs n)
        merged_has = parts_have low high m met.order met.bound run n of_merged

-- the list after a write of the first and the removal of the others
pub in_place : (xs : List Run) (low high : ℕ) (m : Run) → low < high → high ≤ length xs
    → take (low + 1) (set xs low m) ++ drop high (set xs low m) ≡ take low xs ++ m ∷ drop high xs
in_place xs low high m less bound = rw (take-set_at xs low (low + 1) m refl (omega (arith, less, bound)), drop-set-lt high xs low m less, append_assoc)
