-- Lemmas: the words of n frames, frame by frame (`by_frame`), by a list that begins with those of the last frame. Their
-- number; which word of the list each is; what a change of the list does to them: none, of one word, of adjacent words of
-- one frame.
use Rattle.std.proofs.Common.{◌≡◌, ℕ, ◌+◌, ◌-◌, ◌*◌, ◌/◌, ◌%◌, ◌<◌, ◌≤◌, inl, inr, List, [], length, replicate, slice_index, arith, sym, ap, ◌∙◌}
use Rattle.std.specs.Prelude.{slice_set}
use Rattle.std.proofs.lemmas.Bool.{cases_eq, cases_lt}
use Rattle.std.proofs.lemmas.Grind.{same_number_lists}
use Rattle.std.proofs.lemmas.List.{get_or-set_same, get_or-set_other, get_or_past, length-replicate, length-set}
use Rattle.std.proofs.lemmas.List.FromFn.{get_or-map-range_with_len, length-map-range_with_len}
use Rattle.frame_store.specs.ZeroWords.{by_frame, PutsMany, turned}
use Rattle.frame_store.proofs.Words.{index-zeros}

pub length-by_frame : (n : ℕ) (list : List ℕ) → length (by_frame n list) ≡ 512 * n
length-by_frame n list = length-map-range_with_len (λ p. slice_index list (turned n p)) 0 (512 * n)

pub word-by_frame : (n : ℕ) (list : List ℕ) (p : ℕ) → p < 512 * n → slice_index (by_frame n list) p ≡ slice_index list (turned n p)
word-by_frame n list p low = get_or-map-range_with_len (λ q. slice_index list (turned n q)) 0 (512 * n) p p 0 low (omega arith)

-- the place of a frame's word
pub turned_at : (n f i : ℕ) → f < n → i < 512 → turned n (512 * f + i) ≡ 512 * (n - 1 - f) + i
turned_at n f i low small =
    let frame : (512 * f + i) / 512 ≡ f = omega (arith, small) in
    let index : (512 * f + i) % 512 ≡ i = omega (arith, small) in
    omega (arith, frame, index)

pub word_of_frame : (n : ℕ) (list : List ℕ) (f i : ℕ) → f < n → i < 512 → slice_index (by_frame n list) (512 * f + i) ≡ slice_index list (512 * (n - 1 - f) + i)
word_of_frame n list f i low small = word-by_frame n list (512 * f + i) (omega (arith, low, small)) ∙ ap (slice_index list) (turned_at n f i low small)

-- a frame is there if its words are
pub frame_there : (n : ℕ) (list : List ℕ) (f : ℕ) → 512 * f + 512 ≤ length (by_frame n list) → f < n
frame_there n list f room = omega (arith, room, length-by_frame n list)

-- two lists of the same words
pub same_by_frame : (n : ℕ) (list list' : List ℕ) → ((p : ℕ) → slice_index list' p ≡ slice_index list p) → by_frame n list' ≡ by_frame n list
same_by_frame n list list' same = same_number_lists (by_frame n list') (by_frame n list) (length-by_frame n list' ∙ sym (length-by_frame n list))
    (λ p low. let below : p < 512 * n = rw (← (length-by_frame n list')) low in word-by_frame n list' p below ∙ same (turned n p) ∙ sym (word-by_frame n list p below))

-- a list without words is one of zeros
pub blank_by_frame : (n : ℕ) → by_frame n [] ≡ replicate (512 * n) 0
blank_by_frame n = same_number_lists (by_frame n []) (replicate (512 * n) 0) (length-by_frame n [] ∙ sym (length-replicate (512 * n) 0))
    (λ p low. let below : p < 512 * n = rw (← (length-by_frame n [])) low in word-by_frame n [] p below ∙ get_or_past [] (turned n p) 0 (omega arith) ∙ sym (index-zeros (512 * n) p))

-- one word is set
module _ (n : ℕ) (list : List ℕ) (f i w : ℕ) (there : f < n) (small : i < 512) (long : 512 * (n - 1 - f) + i < length list) where
  pub set_by_frame : by_frame n (slice_set list (512 * (n - 1 - f) + i) w) ≡ slice_set (by_frame n list) (512 * f + i) w
  set_by_frame =
      let at : ℕ = 512 * (n - 1 - f) + i in
      let new : List ℕ = slice_set list at w in
      same_number_lists (by_frame n new) (slice_set (by_frame n list) (512 * f + i) w)
      (length-by_frame n new ∙ sym (length-set (by_frame n list) (512 * f + i) w ∙ length-by_frame n list))
      (λ p low. let below : p < 512 * n = rw (← (length-by_frame n new)) low in
      word-by_frame n new p below ∙ elim (cases_eq p (512 * f + i)) as (λ _. slice_index new (turned n p) ≡ slice_index (slice_set (by_frame n list) (512 * f + i) w) p) [
        | inl here ↦ rw (here, turned_at n f i there small) (get_or-set_same list at w 0 long ∙ sym (get_or-set_same (by_frame n list) (512 * f + i) w 0 (omega (arith, length-by_frame n list, there, small))))
        | inr other ↦
            get_or-set_other list at (turned n p) w 0 (λ e. other (omega (arith, e, below, there, small)))
            ∙ sym (word-by_frame n list p below) ∙ sym (get_or-set_other (by_frame n list) (512 * f + i) p w 0 other)
      ])

-- adjacent words of one frame are put
module _ (n : ℕ) (list list' : List ℕ) (f first k : ℕ) (word : ℕ → ℕ) (there : f < n) (small : first + k ≤ 512) (p : PutsMany list list' (n - 1 - f) first k word) where
  pub puts_by_frame : PutsMany (by_frame n list) (by_frame n list') f first k word
  puts_by_frame = record {
    long = length-by_frame n list' ∙ sym (length-by_frame n list);
    inside = λ q from below. word_of_frame n list' f q there (omega (arith, below, small)) ∙ p.inside q from below;
    outside = λ q apart. elim (cases_lt q (512 * n)) as (λ _. slice_index (by_frame n list') q ≡ slice_index (by_frame n list) q) [
      | inl low ↦ word-by_frame n list' q low ∙ p.outside (turned n q) (λ a b. apart (omega (arith, a, b, low, there, small)) (omega (arith, a, b, low, there, small))) ∙ sym (word-by_frame n list q low)
      | inr past ↦ get_or_past (by_frame n list') q 0 (omega (arith, past, length-by_frame n list')) ∙ sym (get_or_past (by_frame n list) q 0 (omega (arith, past, length-by_frame n list)))
    ];
  }
