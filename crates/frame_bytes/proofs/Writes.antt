-- Lemmas about lists of bytes: each byte and the length after a write (`write_bytes`), of the low bytes of a number
-- (`low_bytes`) and of padded bytes; equal bytes make equal numbers; words of eight bytes as std makes and takes them
-- (`from_le_bytes`, `to_le_bytes`) are the model's; two adjacent writes in sequence are one write.
use Rattle.std.proofs.Common.{◌≡◌, ℕ, zero, suc, ◌+◌, ◌-◌, ◌*◌, ◌/◌, ◌%◌, ◌^◌, ◌<◌, ◌≤◌, inl, inr, List, [], ◌∷◌, ◌++◌, length, take, drop, slice_index, refl, ap, sym, ◌∙◌, arith, replicate, length-append, length-drop}
use Rattle.std.proofs.lemmas.Nat.{shr-shr}
use Rattle.std.proofs.lemmas.Bool.{cases_lt}
use Rattle.std.proofs.lemmas.Grind.{common_steps}
use Rattle.std.proofs.lemmas.List.{append_assoc, drop-drop, drop_at, ext_get_or, get_or_append_left, get_or-append_right, get_or-drop, get_or-take, length-replicate, length-take, length-take-le, take_all, take_at}
use Rattle.std.proofs.Math.Seq.{take-add}
use Rattle.std.specs.Int.{w64, to_le_bytes, from_le_bytes}
use Rattle.process_model.specs.Bytes.{number, low_bytes, write_bytes, padded}
use Rattle.frame_bytes.proofs.Numbers.{number-nil, number_suc, number-zero}

pub length-low_bytes : (v n : ℕ) → length (low_bytes v n) ≡ n
unfolding low_bytes
length-low_bytes v zero = refl
length-low_bytes v (suc n) = ap suc (length-low_bytes (v / 2 ^ 8) n)

pub slice_index-low_bytes : (n v k : ℕ) → k < n → slice_index (low_bytes v n) k ≡ v / 2 ^ (8 * k) % 2 ^ 8
unfolding low_bytes
slice_index-low_bytes zero v k h = absurd (omega arith)
slice_index-low_bytes (suc n) v zero h = omega arith
slice_index-low_bytes (suc n) v (suc k) h =
    slice_index-low_bytes n (v / 2 ^ 8) k (omega arith) ∙ rw shr-shr (let e : 8 + 8 * k ≡ 8 * suc k = omega arith in rw e refl)

module _ (bs vs : List ℕ) (o : ℕ) (room : o + length vs ≤ length bs) where
  pub at_before : (k : ℕ) → k < o → slice_index (write_bytes bs o vs) k ≡ slice_index bs k
  at_before k h = grind (arith, common_steps)

  pub at_inside : (k : ℕ) → k < length vs → slice_index (write_bytes bs o vs) (o + k) ≡ slice_index vs k
  at_inside k h = grind (arith, common_steps)

  pub at_after : (k : ℕ) → o + length vs ≤ k → slice_index (write_bytes bs o vs) k ≡ slice_index bs k
  at_after k h = grind (arith, common_steps)

  pub length-write_bytes : length (write_bytes bs o vs) ≡ length bs
  length-write_bytes = grind (arith, common_steps)

-- equal bytes are equal numbers, wherever they lie
pub number_same : (n o p : ℕ) (bs cs : List ℕ) → ((k : ℕ) → k < n → slice_index bs (o + k) ≡ slice_index cs (p + k))
    → number (drop o bs) n ≡ number (drop p cs) n
number_same zero o p bs cs same = number-zero (drop o bs) ∙ sym (number-zero (drop p cs))
number_same (suc n) o p bs cs same =
    let first : slice_index bs o ≡ slice_index cs p
    = (let a : o + 0 ≡ o = omega arith in let b : p + 0 ≡ p = omega arith in rw (a, b) at (same 0 (omega arith))) in
    let rest = number_same n (o + 1) (p + 1) bs cs (λ k h.
    let a : o + 1 + k ≡ o + (k + 1) = omega arith in let b : p + 1 + k ≡ p + (k + 1) = omega arith in rw (a, b) (same (k + 1) (omega arith))) in
    omega (arith, first, rest, number_suc bs o n, number_suc cs p n)

-- the bytes of a word as std has them
pub from_le : (bs : List ℕ) → length bs ≡ 8 → from_le_bytes w64 bs ≡ number bs 8
unfolding number
from_le (a ∷ b ∷ c ∷ d ∷ e ∷ f ∷ g ∷ h ∷ []) long = omega arith
from_le _ long = absurd (omega arith)

pub to_le : (n k : ℕ) → k < 8 → slice_index (to_le_bytes w64 n) k ≡ n / 2 ^ (8 * k) % 2 ^ 8
to_le n zero h = omega arith
to_le n (suc zero) h = refl
to_le n (suc (suc zero)) h = refl
to_le n (suc (suc (suc zero))) h = refl
to_le n (suc (suc (suc (suc zero)))) h = refl
to_le n (suc (suc (suc (suc (suc zero))))) h = refl
to_le n (suc (suc (suc (suc (suc (suc zero)))))) h = refl
to_le n (suc (suc (suc (suc (suc (suc (suc zero))))))) h = refl
to_le n (suc (suc (suc (suc (suc (suc (suc (suc k)))))))) h = absurd (omega arith)

-- the lowest bytes of a word, as std has them
pub take_low : (n v : ℕ) → n ≤ 8 → take n (to_le_bytes w64 v) ≡ low_bytes v n
take_low n v few =
    let long : length (take n (to_le_bytes w64 v)) ≡ n = length-take-le n (to_le_bytes w64 v) few in
    ext_get_or 0 (take n (to_le_bytes w64 v)) (low_bytes v n) (long ∙ sym (length-low_bytes v n)) (λ k h.
    let below : k < n = omega (arith, h, long) in
    get_or-take n (to_le_bytes w64 v) k 0 below ∙ to_le v k (omega (arith, below, few)) ∙ sym (slice_index-low_bytes n v k below))

pub from_le_is : (word bs : List ℕ) (start : ℕ) → length word ≡ 8 → ((k : ℕ) → k < 8 → slice_index word k ≡ slice_index bs (start + k))
    → from_le_bytes w64 word ≡ number (drop start bs) 8
from_le_is word bs start long same = from_le word long ∙ number_same 8 0 start word bs (λ k h. let none : 0 + k ≡ k = omega arith in rw none (same k h))

zeros : (n k : ℕ) → slice_index (replicate n 0) k ≡ 0
zeros zero k = refl
zeros (suc n) zero = refl
zeros (suc n) (suc k) = zeros n k

pub past : (bs : List ℕ) (k : ℕ) → length bs ≤ k → slice_index bs k ≡ 0
past [] k h = refl
past (b ∷ bs) zero h = absurd (omega arith)
past (b ∷ bs) (suc k) h = past bs k (omega arith)

-- ---- the word from an index on

pub past_end : (bs : List ℕ) (start : ℕ) → length bs ≤ start → number (drop start bs) 8 ≡ 0
past_end bs start over = number_same 8 start 0 bs [] (λ k h. past bs (start + k) (omega (arith, over))) ∙ number-nil 8

pub word_of_eight : (bs word : List ℕ) (start : ℕ) → start + 8 ≤ length bs → word ≡ take 8 (drop start bs) → from_le_bytes w64 word ≡ number (drop start bs) 8
word_of_eight bs word start room is =
    let left : 8 ≤ length (drop start bs) = rw (length-drop start bs) (omega (arith, room)) in
    from_le_is word bs start (ap length is ∙ length-take-le 8 (drop start bs) left)
    (λ k h. ap (λ cs. slice_index cs k) is ∙ get_or-take 8 (drop start bs) k 0 h ∙ get_or-drop start bs k 0)

pub part_word : (bs word : List ℕ) → length bs < 8 → word ≡ write_bytes (replicate 8 0) 0 bs → from_le_bytes w64 word ≡ number bs 8
part_word bs word short is =
    let room : 0 + length bs ≤ length (replicate {A = ℕ} 8 0) = omega (arith, short) in
    from_le_is word bs 0 (ap length is ∙ length-write_bytes (replicate 8 0) bs 0 room) (λ k h.
    let none : 0 + k ≡ k = omega arith in
    ap (λ cs. slice_index cs k) is ∙ elim (cases_lt k (length bs)) [
      | inl less ↦ rw none at (at_inside (replicate 8 0) bs 0 room k less)
      | inr more ↦ at_after (replicate 8 0) bs 0 room k (omega (arith, more)) ∙ zeros 8 k ∙ sym (past bs k more)
    ] ∙ ap (slice_index bs) (sym none))

module _ (n : ℕ) (bs : List ℕ) (short : length bs ≤ n) where
  padded_is : padded n bs ≡ bs ++ replicate (n - length bs) 0
  padded_is = let e : take n bs ≡ bs = take_all n bs short in rw e refl

  pub length-padded : length (padded n bs) ≡ n
  length-padded =
      ap length padded_is ∙ length-append bs _
      ∙ (let e : length (replicate {A = ℕ} (n - length bs) 0) ≡ n - length bs = length-replicate (n - length bs) 0 in omega (arith, e))

  pub slice_index-padded : (k : ℕ) → slice_index (padded n bs) k ≡ slice_index bs k
  slice_index-padded k = ap (λ cs. slice_index cs k) padded_is ∙ elim (cases_lt k (length bs)) [
    | inl h ↦ get_or_append_left bs _ 0 k h
    | inr h ↦ get_or-append_right bs _ (length bs) k 0 refl h ∙ zeros (n - length bs) (k - length bs) ∙ sym (past bs k h)
  ]

-- ---- one write after another

-- no bytes change nothing
pub write_none : (page : List ℕ) (o : ℕ) → write_bytes page o [] ≡ page
write_none page o = grind (arith, common_steps)

-- bytes, and others right behind them
pub write_again : (page front part : List ℕ) (o n : ℕ) → o ≤ length page → length front ≡ n
    → write_bytes (write_bytes page o front) (o + n) part ≡ write_bytes page o (front ++ part)
write_again page front part o n room long =
    let first : length (take o page ++ front) ≡ o + n = omega (arith, length-append (take o page) front, length-take-le o page room, long) in
    let tail = drop (o + length front) page in
    let place : o + length front ≡ o + n = omega (arith, long) in
    let both : o + n + length part ≡ o + length (front ++ part) = omega (arith, length-append front part, long) in
    let behind : drop (o + n + length part) (take o page ++ front ++ tail) ≡ drop (o + length (front ++ part)) page
    = sym (drop-drop (length part) (o + n) _) ∙ ap (drop (length part)) (drop_at (take o page ++ front) tail (o + n) first ∙ ap (λ k. drop k page) place)
    ∙ drop-drop (length part) (o + n) page ∙ ap (λ k. drop k page) both in
    rw (take_at (take o page ++ front) tail (o + n) first, behind, append_assoc (take o page) front part) refl

-- the first bytes, and some more behind them
pub write_more : (page bs : List ℕ) (o d n : ℕ) → o ≤ length page → d ≤ length bs
    → write_bytes (write_bytes page o (take d bs)) (o + d) (take n (drop d bs)) ≡ write_bytes page o (take (d + n) bs)
write_more page bs o d n room few =
    write_again page (take d bs) (take n (drop d bs)) o d room (length-take-le d bs few) ∙ ap (write_bytes page o) (sym (take-add d n bs))

-- a run in three parts: the first and the second, which is written anywhere where it is empty
pub write_words_more : (page bs : List ℕ) (o p a e : ℕ) → o ≤ length page → a ≤ e → a ≤ length bs → (a < e → p ≡ o + a)
    → write_bytes (write_bytes page o (take a bs)) p (take (e - a) (drop a bs)) ≡ write_bytes page o (take e bs)
write_words_more page bs o p a e room more few there = elim (cases_lt a e) [
  | inl some ↦
      let place : p ≡ o + a = there some in
      let whole : a + (e - a) ≡ e = omega arith in
      ap (λ k. write_bytes (write_bytes page o (take a bs)) k (take (e - a) (drop a bs))) place ∙ write_more page bs o a (e - a) room few
      ∙ ap (λ k. write_bytes page o (take k bs)) whole
  | inr none ↦
      let empty : e - a ≡ 0 = omega arith in
      let same : a ≡ e = omega arith in
      ap (λ k. write_bytes (write_bytes page o (take a bs)) p (take k (drop a bs))) empty ∙ write_none (write_bytes page o (take a bs)) p
      ∙ ap (λ k. write_bytes page o (take k bs)) same
]

-- these two, and the third
pub write_rest : (page bs : List ℕ) (o e : ℕ) → o ≤ length page → e ≤ length bs
    → write_bytes (write_bytes page o (take e bs)) (o + e) (take (length bs - e) (drop e bs)) ≡ write_bytes page o bs
write_rest page bs o e room few = write_more page bs o e (length bs - e) room few ∙ ap (write_bytes page o) (take_all (e + (length bs - e)) bs (omega arith))

-- a byte from the middle
pub small_part : (bs : List ℕ) (a n : ℕ) → ((k : ℕ) → slice_index bs k < 2 ^ 8) → (k : ℕ) → slice_index (take n (drop a bs)) k < 2 ^ 8
small_part bs a n small k = elim (cases_lt k n) [
  | inl h ↦ rw (get_or-take n (drop a bs) k 0 h, get_or-drop a bs k 0) (small (a + k))
  | inr h ↦ rw (past (take n (drop a bs)) k (omega (arith, h, length-take n (drop a bs)))) (omega arith)
]
