-- Lemmas: if bytes are stored within one word of a frame whose bytes the seat knows, it knows the frame's bytes with
-- these written over them (`HasBytes` of `write_bytes`): for a part of a word (`bytes_stored`) and for a whole word
-- (`word_stored`).
use Rattle.std.proofs.Common.{◌≡◌, ℕ, ◌+◌, ◌-◌, ◌*◌, ◌/◌, ◌%◌, ◌^◌, ◌<◌, ◌≤◌, inl, inr, List, length, drop, slice_index, Some, refl, ap, sym, ◌∙◌, arith}
use Rattle.std.proofs.lemmas.Bool.{cases_lt, cases_eq}
use Rattle.std.proofs.lemmas.List.{ext_get_or}
use Rattle.std.proofs.lemmas.Option.{same_Some}
use Rattle.std.specs.Int.{w64, to_le_bytes, from_le_bytes}
use Rattle.frame_store.specs.View.{View, known_word, with_word}
use Rattle.process_model.specs.Bytes.{number, write_bytes}
use Rattle.frame_bytes.specs.Contents.{HasBytes}
use Rattle.frame_bytes.proofs.Numbers.{byte_of_word}
use Rattle.frame_bytes.proofs.Writes.{at_before, at_inside, at_after, length-write_bytes, number_same, from_le_is, to_le}
use Rattle.frame_bytes.specs.StoredWords.{stored_here, stored_apart}

module _ (bytes : List ℕ) (whole : length bytes ≡ 4096) (small : (k : ℕ) → slice_index bytes k < 2 ^ 8) (o : ℕ) (part old : List ℕ)
    (inside : o + length part ≤ 4096) (within : o % 8 + length part ≤ 8)
    (low : (k : ℕ) → slice_index part k < 2 ^ 8)
    (length_old : length old ≡ 8) (olds : (k : ℕ) → k < 8 → slice_index old k ≡ number (drop (8 * (o / 8)) bytes) 8 / 2 ^ (8 * k) % 2 ^ 8) where
  room : o + length part ≤ length bytes
  room = omega (arith, whole)

  room_old : o % 8 + length part ≤ length old
  room_old = omega arith

  -- a byte that stays
  stays : (k : ℕ) → k < 8 → slice_index bytes (8 * (o / 8) + k) ≡ slice_index old k
  stays k h = byte_of_word bytes small (o / 8) k h ∙ sym (olds k h)

  one_byte : (k : ℕ) → k < 8 → slice_index (write_bytes bytes o part) (8 * (o / 8) + k) ≡ slice_index (write_bytes old (o % 8) part) k
  one_byte k h = elim (cases_lt k (o % 8)) [
    | inl before ↦ at_before bytes part o room _ (omega arith) ∙ stays k h ∙ sym (at_before old part (o % 8) room_old k before)
    | inr from ↦ elim (cases_lt k (o % 8 + length part)) [
      | inl below ↦
          let place : o + (k - o % 8) ≡ 8 * (o / 8) + k = omega arith in
          let place_old : o % 8 + (k - o % 8) ≡ k = omega arith in
          let new = rw place at (at_inside bytes part o room (k - o % 8) (omega arith)) in
          let new_old = rw place_old at (at_inside old part (o % 8) room_old (k - o % 8) (omega arith)) in
          new ∙ sym new_old
      | inr past ↦ at_after bytes part o room _ (omega arith) ∙ stays k h ∙ sym (at_after old part (o % 8) room_old k (omega arith))
    ]
  ]

  small_after : (k : ℕ) → slice_index (write_bytes bytes o part) k < 2 ^ 8
  small_after k = elim (cases_lt k o) [
    | inl before ↦ rw (at_before bytes part o room k before) (small k)
    | inr from ↦ elim (cases_lt k (o + length part)) [
      | inl below ↦ let place : o + (k - o) ≡ k = omega arith in
          rw (rw place at (at_inside bytes part o room (k - o) (omega arith))) (low (k - o))
      | inr past ↦ rw (at_after bytes part o room k past) (small k)
    ]
  ]

  other_word : (i : ℕ) → (i ≡ o / 8 → ⊥) → number (drop (8 * i) (write_bytes bytes o part)) 8 ≡ number (drop (8 * i) bytes) 8
  other_word i ne = number_same 8 (8 * i) (8 * i) _ bytes (λ k h. elim (cases_lt (8 * i + k) o) [
    | inl before ↦ at_before bytes part o room _ before
    | inr from ↦ at_after bytes part o room _ (omega arith)
  ])

  this_word : from_le_bytes w64 (write_bytes old (o % 8) part) ≡ number (drop (8 * (o / 8)) (write_bytes bytes o part)) 8
  this_word = from_le_is _ _ (8 * (o / 8)) (length-write_bytes old part (o % 8) room_old ∙ length_old) (λ k h. sym (one_byte k h))

  pub part_stored : (f : ℕ) (v w : View) → ((i : ℕ) → i < 512 → known_word v f i ≡ Some (number (drop (8 * i) bytes) 8))
      → w ≡ with_word f (o / 8) (from_le_bytes w64 (write_bytes old (o % 8) part)) v → HasBytes w f (write_bytes bytes o part)
  part_stored f v w words stored = record {
    length = length-write_bytes bytes part o room ∙ whole;
    small = small_after;
    words = λ i h. elim (cases_eq i (o / 8)) [
      | inl e ↦ rw e (stored_here f (o / 8) _ v w stored ∙ ap (λ k. Some k) this_word)
      | inr ne ↦ stored_apart f (o / 8) _ v w stored i ne ∙ words i h ∙ ap (λ k. Some k) (sym (other_word i ne))
    ];
  }

-- bytes were put into the word at their offset
pub bytes_stored : (f o word : ℕ) (part bytes : List ℕ) (v w : View) → HasBytes v f bytes → o < 4096 → o % 8 + length part ≤ 8
    → ((k : ℕ) → slice_index part k < 2 ^ 8)
    → ((k : ℕ) → known_word v f (o / 8) ≡ Some k → word ≡ k)
    → w ≡ with_word f (o / 8) (from_le_bytes w64 (write_bytes (to_le_bytes w64 word) (o % 8) part)) v
    → HasBytes w f (write_bytes bytes o part)
bytes_stored f o word part bytes v w has some within low known stored =
    let old_word : word ≡ number (drop (8 * (o / 8)) bytes) 8 = known _ (has.words (o / 8) (omega arith)) in
    part_stored bytes has.length has.small o part (to_le_bytes w64 word) (omega (arith, within)) within low
    refl (λ k h. to_le word k h ∙ ap (λ m. m / 2 ^ (8 * k) % 2 ^ 8) old_word)
    f v w has.words stored

whole_write : (old part : List ℕ) (at : ℕ) → at ≡ 0 → length old ≡ 8 → length part ≡ 8 → write_bytes old at part ≡ part
whole_write old part at none long whole = rw none (ext_get_or 0 (write_bytes old 0 part) part
    (length-write_bytes old part 0 (omega (arith, long, whole)) ∙ long ∙ sym whole)
    (λ k h.
    let start : 0 + k ≡ k = omega arith in
    rw start at (at_inside old part 0 (omega (arith, long, whole)) k (omega (arith, h, length-write_bytes old part 0 (omega (arith, long, whole)), long, whole)))))

-- a whole word was put at its offset
pub word_stored : (f o x : ℕ) (part bytes : List ℕ) (v w : View) → HasBytes v f bytes → o < 4096 → o % 8 + length part ≤ 8 → length part ≡ 8
    → ((k : ℕ) → slice_index part k < 2 ^ 8)
    → x ≡ from_le_bytes w64 part → w ≡ with_word f (o / 8) x v
    → HasBytes w f (write_bytes bytes o part)
word_stored f o x part bytes v w has some within whole low is stored =
    let word : ℕ = number (drop (8 * (o / 8)) bytes) 8 in
    bytes_stored f o word part bytes v w has some within low
    (λ k e. same_Some _ _ (sym (has.words (o / 8) (omega (arith, some))) ∙ e))
    (stored ∙ ap (λ k. with_word f (o / 8) k v) is ∙ ap (λ ws. with_word f (o / 8) (from_le_bytes w64 ws) v) (sym (whole_write (to_le_bytes w64 word) part (o % 8) (omega (arith, within, whole)) refl whole)))
