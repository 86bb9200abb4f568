-- Lemmas: bytes that are copied out of loaded words of a frame are the page's bytes there: one byte, a part of a word, a
-- part that extends what was read before, a whole run of bytes (`run_read`), and one that is read in three parts.
use Rattle.std.proofs.Common.{◌≡◌, ℕ, ◌+◌, ◌-◌, ◌*◌, ◌/◌, ◌%◌, ◌^◌, ◌<◌, ◌≤◌, inl, inr, List, length, take, drop, slice_index, Some, ap, sym, ◌∙◌, arith, length-drop}
use Rattle.std.proofs.lemmas.Bool.{cases_lt}
use Rattle.std.proofs.lemmas.Grind.{common_steps}
use Rattle.std.proofs.lemmas.List.{ext_get_or, get_or-drop, get_or-take, length-take-le}
use Rattle.std.specs.Int.{w64, to_le_bytes}
use Rattle.frame_store.specs.View.{View, known_word}
use Rattle.frame_bytes.specs.Contents.{HasBytes}
use Rattle.frame_bytes.proofs.Numbers.{byte_of_word}
use Rattle.frame_bytes.proofs.Writes.{to_le}
use borrow.Rule.Slice.PartMut.{put_mid}

-- a byte of a word that was loaded, and its place in the page
pub byte_read : (f i word : ℕ) (page : List ℕ) (v : View) → HasBytes v f page → i < 512 → ((w : ℕ) → known_word v f i ≡ Some w → word ≡ w)
    → (k p : ℕ) → k < 8 → 8 * i + k ≡ p → slice_index (to_le_bytes w64 word) k ≡ slice_index page p
byte_read f i word page v has inside known k p h place =
    to_le word k h ∙ ap (λ w. w / 2 ^ (8 * k) % 2 ^ 8) (known _ (has.words i inside)) ∙ sym (byte_of_word page has.small i k h) ∙ ap (slice_index page) place

-- some bytes of a word that was loaded, from a place in the page on
module _ (word p n : ℕ) (part : List ℕ) (within : p % 8 + n ≤ 8) (is : part ≡ take n (drop (p % 8) (to_le_bytes w64 word))) where
  pub length-part : length part ≡ n
  length-part = ap length is ∙ length-take-le n (drop (p % 8) (to_le_bytes w64 word)) (rw (length-drop (p % 8) (to_le_bytes w64 word)) (omega (arith, within)))

  pub part_read : (f : ℕ) (page : List ℕ) (v : View) → HasBytes v f page → p < 4096 → ((w : ℕ) → known_word v f (p / 8) ≡ Some w → word ≡ w)
      → (k : ℕ) → k < n → slice_index part k ≡ slice_index page (p + k)
  part_read f page v has inside known k h =
      ap (λ cs. slice_index cs k) is ∙ get_or-take n (drop (p % 8) (to_le_bytes w64 word)) k 0 h ∙ get_or-drop (p % 8) (to_le_bytes w64 word) k 0
      ∙ byte_read f (p / 8) word page v has (omega arith) known (p % 8 + k) (p + k) (omega arith) (omega arith)

module _ (bytes part : List ℕ) (a n : ℕ) (room : a + n ≤ length bytes) (long : length part ≡ n) where
  pub length-put_mid : length (put_mid a n bytes part) ≡ length bytes
  length-put_mid = grind (arith, common_steps)

  -- so many bytes are what they are to be, and so are those that come behind them
  pub read_more : (byte : ℕ → ℕ) → ((k : ℕ) → k < a → slice_index bytes k ≡ byte k) → ((k : ℕ) → k < n → slice_index part k ≡ byte (a + k))
      → (k : ℕ) → k < a + n → slice_index (put_mid a n bytes part) k ≡ byte k
  read_more byte before more k h = elim (cases_lt k a) [
    | inl below ↦ let kept : slice_index (put_mid a n bytes part) k ≡ slice_index bytes k = grind (arith, common_steps) in kept ∙ before k below
    | inr from ↦
        let there : slice_index (put_mid a n bytes part) k ≡ slice_index part (k - a) = grind (arith, common_steps) in
        let place : a + (k - a) ≡ k = omega arith in
        there ∙ rw place at (more (k - a) (omega arith))
  ]

-- bytes that are those from an offset on
pub run_read : (bytes page : List ℕ) (o n : ℕ) → o + n ≤ length page → length bytes ≡ n
    → ((k : ℕ) → k < n → slice_index bytes k ≡ slice_index page (o + k)) → bytes ≡ take n (drop o page)
run_read bytes page o n room long same =
    let left : n ≤ length (drop o page) = rw (length-drop o page) (omega (arith, room)) in
    ext_get_or 0 bytes (take n (drop o page)) (long ∙ sym (length-take-le n (drop o page) left))
    (λ k h. let below : k < n = omega (arith, h, long) in same k below ∙ sym (get_or-take n (drop o page) k 0 below ∙ get_or-drop o page k 0))

-- the bytes of a run, one by one
pub run_at : (bytes page : List ℕ) (o m n : ℕ) → m ≡ n → o + n ≤ length page → bytes ≡ take m (drop o page)
    → (length bytes ≡ n) × ((k : ℕ) → k < n → slice_index bytes k ≡ slice_index page (o + k))
run_at bytes page o m n same room is =
    let left : n ≤ length (drop o page) = rw (length-drop o page) (omega (arith, room)) in
    let run : bytes ≡ take n (drop o page) = rw same at is in (
      ap length run ∙ length-take-le n (drop o page) left,
      λ k h. ap (λ cs. slice_index cs k) run ∙ get_or-take n (drop o page) k 0 h ∙ get_or-drop o page k 0,
    )

-- so many bytes from the middle
pub length-middle : (bytes : List ℕ) (a n : ℕ) → a + n ≤ length bytes → length (take n (drop a bytes)) ≡ n
length-middle bytes a n room = length-take-le n (drop a bytes) (rw (length-drop a bytes) (omega (arith, room)))

-- a run that is read in three parts; where the second is empty, it is read anywhere
module _ (bytes first second third page : List ℕ) (o p a e : ℕ) (front : a ≤ e) (back : e ≤ length bytes) (room : o + length bytes ≤ length page)
    (before : p ≤ o + a) (there : a < e → p ≡ o + a) where
  abbrev pub one : List ℕ
  one = put_mid 0 a bytes first

  abbrev pub two : List ℕ
  two = put_mid a (e - a) one second

  pub three_read : first ≡ take (length (take a bytes)) (drop o page)
      → second ≡ take (length (take (e - a) (drop a one))) (drop p page)
      → third ≡ take (length (take (length bytes - e) (drop e two))) (drop (o + e) page)
      → put_mid e (length bytes - e) two third ≡ take (length bytes) (drop o page)
  three_read is_first is_second is_third =
      let byte : ℕ → ℕ = λ k. slice_index page (o + k) in
      let r = run_at first page o _ a (length-take-le a bytes (omega (arith, front, back))) (omega (arith, front, back, room)) is_first in
      let long_one : length one ≡ length bytes = length-put_mid bytes first 0 a (omega (arith, front, back)) r.0 in
      let in_one : (k : ℕ) → k < a → slice_index one k ≡ byte k
      = λ k h. read_more bytes first 0 a (omega (arith, front, back)) r.0 byte (λ j none. absurd (omega (arith, none))) (λ j b. r.1 j b ∙ ap byte (omega arith)) k (omega (arith, h)) in
      let s = run_at second page p _ (e - a) (length-middle one a (e - a) (omega (arith, front, back, long_one))) (omega (arith, before, front, back, room)) is_second in
      let long_two : length two ≡ length bytes = length-put_mid one second a (e - a) (omega (arith, front, back, long_one)) s.0 ∙ long_one in
      let in_two : (k : ℕ) → k < e → slice_index two k ≡ byte k
      = λ k h. read_more one second a (e - a) (omega (arith, front, back, long_one)) s.0 byte in_one
      (λ j b. s.1 j b ∙ ap (slice_index page) (omega (arith, there (omega (arith, b))))) k (omega (arith, h, front)) in
      let t = run_at third page (o + e) _ (length bytes - e) (length-middle two e (length bytes - e) (omega (arith, back, long_two))) (omega (arith, back, room)) is_third in
      run_read _ page o (length bytes) room (length-put_mid two third e (length bytes - e) (omega (arith, back, long_two)) t.0 ∙ long_two) (λ k h.
      read_more two third e (length bytes - e) (omega (arith, back, long_two)) t.0 byte in_two (λ j b. t.1 j b ∙ ap (slice_index page) (omega arith)) k (omega (arith, h, back)))
