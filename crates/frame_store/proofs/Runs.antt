-- Lemmas: the bounds that `Memory` keeps for each frame (`Runs`: all words outside them are 0) are right after words of
-- one frame and its bounds have changed (`runs_by`), after it was cleared from an index on, filled, or copied from another;
-- and if a search finds only zeros between the bounds, all words of its range are 0 (`zeros_by`,
-- `zeros_by_part`).
use Rattle.std.proofs.Common.{◌≡◌, ◌≢◌, ℕ, ◌+◌, ◌-◌, ◌*◌, ◌<◌, ◌≤◌, ◌⊎◌, inl, inr, List, length, slice_index, arith, refl, sym, ap, ◌∙◌}
use Rattle.std.specs.Prelude.{slice_set, min, max}
use Rattle.std.proofs.lemmas.Bool.{cases_eq, cases_lt}
use Rattle.std.proofs.lemmas.List.{get_or-set_same, get_or-set_other, length-set}
use Rattle.frame_store.specs.ZeroWords.{PutsMany, Runs, ZerosIn}

-- one frame's words and indices change
pub runs_by : (words lows highs words' lows' highs' : List ℕ) (f : ℕ) → Runs words lows highs → length words' ≡ length words → length lows' ≡ length lows → length highs' ≡ length highs
    → ((g i : ℕ) → g ≢ f → i < 512 → slice_index words' (512 * g + i) ≡ slice_index words (512 * g + i))
    → ((g : ℕ) → g ≢ f → slice_index lows' g ≡ slice_index lows g) → ((g : ℕ) → g ≢ f → slice_index highs' g ≡ slice_index highs g)
    → slice_index lows' f ≤ 512 → slice_index highs' f ≤ 512 → ZerosIn words' f 0 (slice_index lows' f) → ZerosIn words' f (slice_index highs' f) 512 → Runs words' lows' highs'
runs_by words lows highs words' lows' highs' f r long long_lows long_highs apart lows_apart highs_apart small tall before behind = record {
  sized = omega (arith, r.sized, long, long_lows);
  same = omega (arith, r.same, long_lows, long_highs);
  small = λ g. elim (cases_eq g f) as (λ _. slice_index lows' g ≤ 512) [
    | inl here ↦ rw here small
    | inr other ↦ rw (lows_apart g other) (r.small g)
  ];
  within = λ g. elim (cases_eq g f) as (λ _. slice_index highs' g ≤ 512) [
    | inl here ↦ rw here tall
    | inr other ↦ rw (highs_apart g other) (r.within g)
  ];
  before = λ g i from lt. elim (cases_eq g f) as (λ _. slice_index words' (512 * g + i) ≡ 0) [
    | inl here ↦ rw here (before i from (rw (← here) lt))
    | inr other ↦
        let less : i < slice_index lows g = rw (← (lows_apart g other)) lt in
        apart g i other (omega (arith, less, r.small g)) ∙ r.before g i from less
  ];
  behind = λ g i from lt. elim (cases_eq g f) as (λ _. slice_index words' (512 * g + i) ≡ 0) [
    | inl here ↦ rw here (behind i (rw (← here) from) lt)
    | inr other ↦ apart g i other lt ∙ r.behind g i (rw (← (highs_apart g other)) from) lt
  ];
}

module _ (words lows highs : List ℕ) (f : ℕ) (r : Runs words lows highs) (room : 512 * f + 512 ≤ length words) where
  pub in_lows : f < length lows
  in_lows = omega (arith, r.sized, room)

  pub in_highs : f < length highs
  in_highs = omega (arith, r.same, in_lows)

  -- the words that are 0 where none is from one index on that is below another
  pub zeros_by : (first last from to at : ℕ) → from ≡ max first (slice_index lows f) → to ≡ min last (slice_index highs f) → last ≤ 512 → at ≤ last
      → ((i : ℕ) → from ≤ i → i < at → i < to → slice_index words (512 * f + i) ≡ 0) → ZerosIn words f first at
  zeros_by first last from to at from_is to_is small low zeros i le lt = elim (cases_lt i (slice_index lows f)) as (λ _. slice_index words (512 * f + i) ≡ 0) [
    | inl less ↦ r.before f i (omega arith) less
    | inr more ↦ elim (cases_lt i (slice_index highs f)) as (λ _. slice_index words (512 * f + i) ≡ 0) [
      | inl below ↦ zeros i (omega (arith, from_is, le, more)) lt (omega (arith, to_is, lt, low, below))
      | inr past ↦ r.behind f i past (omega (arith, lt, low, small))
    ]
  ]

-- zeros at the front of the part of a frame that lies between the bounds are zeros of the frame
module _ (words lows highs part : List ℕ) (f : ℕ) (r : Runs words lows highs) (room : 512 * f + 512 ≤ length words) (first last from to zeros : ℕ) (from_is : from ≡ max first (slice_index lows f)) (to_is : to ≡ min last (slice_index highs f))
    (small : last ≤ 512) (said : (i : ℕ) → i < to - from → slice_index part i ≡ slice_index words (512 * f + (from + i))) (front : (i : ℕ) → i < zeros → slice_index part i ≡ 0) where
  pub zeros_by_part : (at : ℕ) → at ≤ last → (at ≤ from + zeros) ⊎ (to ≤ from + zeros) → ZerosIn words f first at
  zeros_by_part at low far = zeros_by words lows highs f r room first last from to at from_is to_is small low
      (λ i le lt below.
      let k = i - from in
      let place : from + k ≡ i = omega (arith, le) in
      ap (λ j. slice_index words (512 * f + j)) (sym place) ∙ sym (said k (omega (arith, le, below)))
      ∙ front k (elim far as (λ _. k < zeros) [ inl near ↦ omega (arith, le, lt, near) | inr all ↦ omega (arith, le, below, all) ]))

-- many words of a frame are written

module _ (words lows highs : List ℕ) (f : ℕ) (r : Runs words lows highs) (words' : List ℕ) (first n : ℕ) (word : ℕ → ℕ) (small : first + n ≤ 512) (p : PutsMany words words' f first n word) where
  puts_apart : (g i : ℕ) → g ≢ f → i < 512 → slice_index words' (512 * g + i) ≡ slice_index words (512 * g + i)
  puts_apart g i other lt = p.outside (512 * g + i) (λ from before. other (omega (arith, from, before, lt, small)))

  puts_here : (i : ℕ) → (first ≤ i → i < first + n → ⊥) → slice_index words' (512 * f + i) ≡ slice_index words (512 * f + i)
  puts_here i apart = p.outside (512 * f + i) (λ from before. apart (omega (arith, from)) (omega (arith, before)))

module _ (words lows highs : List ℕ) (f : ℕ) (r : Runs words lows highs) (room : 512 * f + 512 ≤ length words) (words' : List ℕ) (first : ℕ) (small : first ≤ 512) (p : PutsMany words words' f first (512 - first) (λ _. 0)) where
  cleared_zero : (i : ℕ) → first ≤ i → i < 512 → slice_index words' (512 * f + i) ≡ 0
  cleared_zero i from lt = p.inside i from (omega (arith, lt, small))

  cleared_high : ZerosIn words' f (min (slice_index highs f) first) 512
  cleared_high i from lt = elim (cases_lt i first) as (λ _. slice_index words' (512 * f + i) ≡ 0) [
    | inl less ↦ puts_here words lows highs f r words' first (512 - first) (λ _. 0) (omega (arith, small)) p i (λ a b. omega (arith, a, less)) ∙ r.behind f i (omega (arith, from, less)) lt
    | inr more ↦ cleared_zero i more lt
  ]

  pub runs_cleared : Runs words' lows (slice_set highs f (min (slice_index highs f) first))
  runs_cleared =
      let high : ℕ = min (slice_index highs f) first in
      let here : slice_index (slice_set highs f high) f ≡ high = get_or-set_same highs f high 0 (in_highs words lows highs f r room) in
      runs_by words lows highs words' lows (slice_set highs f high) f r p.long refl (length-set highs f _)
      (puts_apart words lows highs f r words' first (512 - first) (λ _. 0) (omega (arith, small)) p)
      (λ g ne. refl) (λ g ne. get_or-set_other highs f g _ 0 ne) (r.small f) (omega (arith, here, r.within f))
      (λ i from lt. elim (cases_lt i first) as (λ _. slice_index words' (512 * f + i) ≡ 0) [
        | inl less ↦ puts_here words lows highs f r words' first (512 - first) (λ _. 0) (omega (arith, small)) p i (λ a b. omega (arith, a, less)) ∙ r.before f i from lt
        | inr more ↦ cleared_zero i more (omega (arith, lt, r.small f))
      ])
      (rw here cleared_high)

  pub runs_emptied : first ≡ 0 → Runs words' (slice_set lows f 512) (slice_set highs f (min (slice_index highs f) first))
  runs_emptied none =
      let low : slice_index (slice_set lows f 512) f ≡ 512 = get_or-set_same lows f 512 0 (in_lows words lows highs f r room) in
      runs_by words' lows (slice_set highs f (min (slice_index highs f) first)) words' (slice_set lows f 512) (slice_set highs f (min (slice_index highs f) first)) f runs_cleared refl (length-set lows f _) refl
      (λ g i ne lt. refl) (λ g ne. get_or-set_other lows f g _ 0 ne) (λ g ne. refl) (omega (arith, low)) (runs_cleared.within f)
      (λ i from lt. cleared_zero i (omega (arith, none)) (omega (arith, low, lt)))
      (runs_cleared.behind f)

module _ (words lows highs : List ℕ) (f : ℕ) (r : Runs words lows highs) (room : 512 * f + 512 ≤ length words) (words' : List ℕ) (n : ℕ) (word : ℕ → ℕ) (small : n ≤ 512) (p : PutsMany words words' f 0 n word) where
  pub runs_filled : Runs words' (slice_set lows f 0) (slice_set highs f (max (slice_index highs f) n))
  runs_filled =
      let high : ℕ = max (slice_index highs f) n in
      let here : slice_index (slice_set highs f high) f ≡ high = get_or-set_same highs f high 0 (in_highs words lows highs f r room) in
      let low : slice_index (slice_set lows f 0) f ≡ 0 = get_or-set_same lows f 0 0 (in_lows words lows highs f r room) in
      runs_by words lows highs words' (slice_set lows f 0) (slice_set highs f high) f r p.long (length-set lows f _) (length-set highs f _)
      (puts_apart words lows highs f r words' 0 n word (omega (arith, small)) p)
      (λ g ne. get_or-set_other lows f g _ 0 ne) (λ g ne. get_or-set_other highs f g _ 0 ne) (omega (arith, low)) (omega (arith, here, r.within f, small))
      (λ i from lt. absurd (omega (arith, low, lt)))
      (λ i from lt. puts_here words lows highs f r words' 0 n word (omega (arith, small)) p i (λ a b. omega (arith, b, here, from)) ∙ r.behind f i (omega (arith, here, from)) lt)

-- a frame is copied, with its bounds
module _ (words lows highs : List ℕ) (from f : ℕ) (r : Runs words lows highs) (room : 512 * f + 512 ≤ length words) (words' : List ℕ) (p : PutsMany words words' f 0 512 (λ i. slice_index words (512 * from + i))) where
  pub runs_copied : Runs words' (slice_set lows f (slice_index lows from)) (slice_set highs f (slice_index highs from))
  runs_copied =
      let low : slice_index (slice_set lows f (slice_index lows from)) f ≡ slice_index lows from = get_or-set_same lows f _ 0 (in_lows words lows highs f r room) in
      let high : slice_index (slice_set highs f (slice_index highs from)) f ≡ slice_index highs from = get_or-set_same highs f _ 0 (in_highs words lows highs f r room) in
      runs_by words lows highs words' (slice_set lows f (slice_index lows from)) (slice_set highs f (slice_index highs from)) f r p.long (length-set lows f _) (length-set highs f _)
      (puts_apart words lows highs f r words' 0 512 _ (omega arith) p)
      (λ g ne. get_or-set_other lows f g _ 0 ne) (λ g ne. get_or-set_other highs f g _ 0 ne) (omega (arith, low, r.small from)) (omega (arith, high, r.within from))
      (λ i none lt. p.inside i none (omega (arith, low, lt, r.small from)) ∙ r.before from i none (omega (arith, low, lt)))
      (λ i above lt. p.inside i (omega arith) (omega (arith, lt)) ∙ r.behind from i (omega (arith, high, above)) lt)
