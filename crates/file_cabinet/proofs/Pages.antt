-- Lemmas about lists of bytes: a page that is read from a file is the bytes from the offset on, then zeros (`page_read`);
-- and a file to which a page was written has it over the bytes from the offset on, up to its length (`page_written`).
use Rattle.std.proofs.Common.{◌≡◌, ℕ, ◌+◌, ◌-◌, inl, inr, List, [], ◌++◌, length, take, drop, replicate, ap, sym, ◌∙◌, arith, min}
use Rattle.std.proofs.Math.ListN.{drop_of_length-le}
use Rattle.std.proofs.Math.Seq.{drop-nil, take-append-add}
use Rattle.std.proofs.lemmas.Bool.{cases_lt}
use Rattle.std.proofs.lemmas.Grind.{common_steps}
use Rattle.std.proofs.lemmas.List.{append-nil, drop_at, drop_min, length-drop, length-take, take_at, take_min}
use Rattle.std.proofs.lemmas.Slice.{between_to_end}
use Rattle.process_model.specs.Bytes.{padded}
use Rattle.process_model.specs.Files.{written_over}

-- zeros are the page of no bytes
pub zeros_of_nothing : (n offset : ℕ) → replicate n 0 ≡ padded n (drop offset [])
zeros_of_nothing n offset = let none = drop-nil {A = ℕ} offset in rw none (grind (arith, common_steps))

-- what is past the front of n bytes is not in a page of n bytes
pub padded_front : (n : ℕ) (bytes : List ℕ) → padded n (take n bytes) ≡ padded n bytes
padded_front n bytes = grind (arith, common_steps)

-- what lies behind an offset, which may be past the end
pub rest_of : (bytes : List ℕ) (offset start : ℕ) → start ≡ min offset (length bytes) → take (length bytes - start) (drop start bytes) ≡ drop offset bytes
rest_of bytes offset start is = between_to_end bytes start (length bytes) (omega arith) ∙ ap (λ i. drop i bytes) is ∙ drop_min offset bytes

-- the front of some bytes, and zeros behind them
module _ (n : ℕ) (rest page copied filled : List ℕ) (count : ℕ)
    (long : length page ≡ n)
    (few : count ≡ min (length rest) n)
    (is : copied ≡ take count rest)
    (zeros : filled ≡ replicate (n - count) 0) where
  length_front : length (take n rest) ≡ count
  length_front = omega (arith, length-take n rest, few)

  same_front : copied ≡ take n rest
  same_front = let least : count ≡ min n (length rest) = omega (arith, few) in is ∙ ap (λ k. take k rest) least ∙ take_min n rest

  length_copied : length copied ≡ count
  length_copied = ap length same_front ∙ length_front

  pub page_read : take count (copied ++ drop count page) ++ (filled ++ drop (n - count) (drop count (copied ++ drop count page))) ≡ padded n rest
  page_read =
      let front : take count (copied ++ drop count page) ≡ copied = take_at copied (drop count page) count length_copied in
      let behind : drop count (copied ++ drop count page) ≡ drop count page = drop_at copied (drop count page) count length_copied in
      let nothing : drop (n - count) (drop count page) ≡ [] = drop_of_length-le (drop count page) (omega (arith, length-drop count page, long)) in
      rw (front, behind, nothing, append-nil filled, zeros, length_front) (ap (λ xs. xs ++ replicate (n - count) 0) same_front)

-- the front of a page in place of bytes from an offset on
pub page_written : (bytes page : List ℕ) (offset start count n : ℕ) → start ≡ min offset (length bytes) → count ≡ min (length bytes - start) n → length page ≡ n
    → take start bytes ++ (take count page ++ drop (start + count - start) (drop start bytes)) ≡ written_over bytes offset page
page_written bytes page offset start count n at few long = elim (cases_lt (length bytes) (offset + n)) [
  | inl short ↦
      let whole : length bytes ≡ length (take start bytes) + count = omega (arith, length-take start bytes, at, few) in
      let none : drop (start + count - start) (drop start bytes) ≡ [] = drop_of_length-le (drop start bytes) (omega (arith, length-drop start bytes, at, few)) in
      let past : drop (offset + length page) bytes ≡ [] = drop_of_length-le bytes (omega (arith, long)) in
      let front : take start bytes ≡ take offset bytes = ap (λ k. take k bytes) at ∙ take_min offset bytes in
      rw (none, past, append-nil (take count page), append-nil (take offset bytes ++ page), ← front, whole) (sym (take-append-add (take start bytes) page count))
  | inr all ↦ grind (arith, common_steps)
]
