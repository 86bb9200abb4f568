-- Lemmas about `number`, the little-endian number of some bytes: of no bytes, by its first byte and the rest, as the sum
-- of two parts, its bound, and its parts: bytes from the middle, one byte of a word, and an aligned access within its
-- word.
use Rattle.std.proofs.Common.{◌≡◌, ℕ, zero, suc, ◌+◌, ◌-◌, ◌*◌, ◌/◌, ◌%◌, ◌^◌, ◌<◌, List, [], ◌∷◌, drop, slice_index, refl, ap, ◌∙◌, arith}
use Rattle.std.specs.Prelude.{IsTrue}
use Rattle.std.proofs.lemmas.Nat.{shr_high, mod_low, pow-add}
use Rattle.process_model.specs.Bytes.{number, is_width}
use Rattle.frame_bytes.proofs.Widths.{within_word}

-- 2 ^ (8 * (n + 1)), in two parts
pow-suc8 : (n : ℕ) → 2 ^ (8 * suc n) ≡ 2 ^ 8 * 2 ^ (8 * n)
pow-suc8 n = (let e : 8 * suc n ≡ 8 + 8 * n = omega arith in ap (λ k. 2 ^ k) e) ∙ pow-add 2 8 (8 * n)

pub number-nil : (n : ℕ) → number [] n ≡ 0
unfolding number
number-nil zero = refl
number-nil (suc n) = refl

pub number-zero : (bs : List ℕ) → number bs 0 ≡ 0
unfolding number
number-zero bs = refl

-- the first byte, and the rest
number-step : (o n : ℕ) (bs : List ℕ) → number (drop o bs) (suc n) ≡ slice_index bs o + 2 ^ 8 * number (drop (suc o) bs) n
unfolding number
number-step zero n [] = omega (arith, number-nil n)
number-step zero n (b ∷ bs) = refl
number-step (suc o) n [] = omega (arith, number-nil n)
number-step (suc o) n (b ∷ bs) = number-step o n bs

pub number_suc : (bs : List ℕ) (o n : ℕ) → number (drop o bs) (suc n) ≡ slice_index bs o + 2 ^ 8 * number (drop (o + 1) bs) n
number_suc bs o n = let e : o + 1 ≡ suc o = omega arith in rw e (number-step o n bs)

module _ (bs : List ℕ) where
  pub number_split : (a b o : ℕ) → number (drop o bs) (a + b) ≡ number (drop (o + a) bs) b * 2 ^ (8 * a) + number (drop o bs) a
  number_split zero b o = let e : 0 + b ≡ b = omega arith in let d : o + 0 ≡ o = omega arith in rw (e, d) (omega (arith, number-zero (drop o bs)))
  number_split (suc a) b o =
      let e : suc a + b ≡ suc (a + b) = omega arith in
      let d : o + suc a ≡ o + 1 + a = omega arith in
      rw (e, d, pow-suc8 a, number_suc bs o (a + b), number_suc bs o a) (omega (arith, number_split a b (o + 1)))

  module _ (small : (k : ℕ) → slice_index bs k < 2 ^ 8) where
    pub number_below : (n o : ℕ) → number (drop o bs) n < 2 ^ (8 * n)
    number_below zero o = rw (number-zero (drop o bs)) (omega arith)
    number_below (suc n) o = rw (number_suc bs o n) (omega (arith, small o, number_below n (o + 1), pow-suc8 n))

    -- the w bytes at r within so many bytes
    pub number_part : (o r w z : ℕ) → number (drop o bs) (r + (w + z)) / 2 ^ (8 * r) % 2 ^ (8 * w) ≡ number (drop (o + r) bs) w
    number_part o r w z =
        rw (
          number_split r (w + z) o,
          shr_high (number (drop (o + r) bs) (w + z)) (8 * r) (number (drop o bs) r) (number_below r o),
          number_split w z (o + r),
          mod_low (number (drop (o + r + w) bs) z) (8 * w) (number (drop (o + r) bs) w) (number_below w (o + r)),
        )

    -- one byte in its word
    pub byte_of_word : (q k : ℕ) → k < 8 → slice_index bs (8 * q + k) ≡ number (drop (8 * q) bs) 8 / 2 ^ (8 * k) % 2 ^ 8
    byte_of_word q k h =
        let sum : k + (1 + (7 - k)) ≡ 8 = omega arith in
        let one = number_suc bs (8 * q + k) 0 in
        let none = number-zero (drop (8 * q + k + 1) bs) in
        let whole = rw sum at (number_part (8 * q) k 1 (7 - k)) in
        omega (arith, whole, one, none)

    -- what the word at an offset has there
    pub part_of_word : (word o w : ℕ) → IsTrue (is_width w) → o % w ≡ 0 → word ≡ number (drop (8 * (o / 8)) bs) 8
        → word / 2 ^ (8 * (o % 8)) % 2 ^ (8 * w) ≡ number (drop o bs) w
    part_of_word word o w is aligned known =
        let room = within_word o w is aligned in
        let sum : o % 8 + (w + (8 - (o % 8 + w))) ≡ 8 = omega arith in
        let place : 8 * (o / 8) + o % 8 ≡ o = omega arith in
        let part = number_part (8 * (o / 8)) (o % 8) w (8 - (o % 8 + w)) in
        rw known (rw (sum, place) at part)
