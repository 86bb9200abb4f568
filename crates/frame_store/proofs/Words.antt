-- Lemmas about lists of words: the length and the items of a part (`take` of a `drop`); a list in which a part was
-- overwritten (`put_back`): its length, its words inside the part and outside it; every word of a list of zeros is 0.
use Rattle.std.proofs.Common.{◌≡◌, ℕ, zero, suc, ◌+◌, ◌<◌, ◌≤◌, inl, inr, ◌++◌, List, length, take, drop, slice_index, ap, refl, replicate, ◌∙◌, arith, length-drop}
use Rattle.std.proofs.lemmas.Bool.{cases_lt}
use Rattle.std.proofs.lemmas.Grind.{common_steps}
use Rattle.std.proofs.lemmas.List.{get_or-drop, get_or-take, length-take-le}
use borrow.Rule.Slice.PartMut.{put_mid}

pub index-zeros : (n k : ℕ) → slice_index (replicate n 0) k ≡ 0
index-zeros zero k = refl
index-zeros (suc n) zero = refl
index-zeros (suc n) (suc k) = index-zeros n k

pub length-part : (items : List ℕ) (a n : ℕ) → a + n ≤ length items → length (take n (drop a items)) ≡ n
length-part items a n room = length-take-le n (drop a items) (rw (length-drop a items) (omega (arith, room)))

pub index-part : (items : List ℕ) (a n k : ℕ) → k < n → slice_index (take n (drop a items)) k ≡ slice_index items (a + k)
index-part items a n k h = get_or-take n (drop a items) k 0 h ∙ get_or-drop a items k 0

module _ (items part : List ℕ) (a n len : ℕ) (room : a + n ≤ length items) (long : length part ≡ n) (full : len ≡ length items) where
  abbrev pub put_back : List ℕ
  put_back = take len (put_mid a n items part ++ drop (length (put_mid a n items part)) items)

  mid_length : length (put_mid a n items part) ≡ length items
  mid_length = grind (arith, common_steps)

  mid_is : put_back ≡ put_mid a n items part
  mid_is = grind (arith, common_steps)

  pub length-put_back : length put_back ≡ length items
  length-put_back = ap length mid_is ∙ mid_length

  pub back_inside : (k : ℕ) → k < n → slice_index put_back (a + k) ≡ slice_index part k
  back_inside k h = ap (λ ws. slice_index ws (a + k)) mid_is ∙ grind (arith, common_steps)

  pub back_outside : (p : ℕ) → (a ≤ p → p < a + n → ⊥) → slice_index put_back p ≡ slice_index items p
  back_outside p apart = ap (λ ws. slice_index ws p) mid_is ∙ elim (cases_lt p a) as (λ _. slice_index (put_mid a n items part) p ≡ slice_index items p) [
    | inl below ↦ grind (arith, common_steps)
    | inr from ↦ elim (cases_lt p (a + n)) as (λ _. slice_index (put_mid a n items part) p ≡ slice_index items p) [
      | inl within ↦ absurd (apart from within)
      | inr past ↦ grind (arith, common_steps)
    ]
  ]
