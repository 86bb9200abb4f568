-- Lemmas for `PieceReader`: texts that end where a line ends (`EndsLines`); lines read in two parts; `HasRead` after one
-- more piece and, at the end, the model's script; and the result with a first fault or without.
use Rattle.std.proofs.Common.{◌≡◌, ℕ, zero, suc, ◌+◌, ◌<◌, true, false, List, [], ◌∷◌, ◌++◌, length, take, drop, refl, sym, subst, ap, ◌∙◌, append_assoc, length-append, ◌≤◌, Ok, arith, inl, inr}
use Rattle.std.specs.Prelude.{Err, None, Option, Some, nat_le, nat_lt, slice_index}
use Rattle.std.specs.List.{onto_first}
use Rattle.std.proofs.lemmas.Bool.{cases_Bool, le-leb, ltb-false}
use Rattle.std.proofs.lemmas.List.{take-append-drop}
use Rattle.script_language.specs.Lines.{is_line_end, raw_lines}
use Rattle.script_language.specs.Script.{Draft, Read, next_line, no_lines, read_lines, script_of, whole, whole_with}
use Rattle.script_language.specs.declared.script.Cause.{Cause}
use Rattle.script_reader.specs.Reading.{CutsLines, EndsLines, HasRead, PieceReader, read_with}
use Rattle.script_language.specs.declared.limits.TheConstants.{LONGEST_SCRIPT}

-- the first line goes on, and the others stay
abbrev IsSome : List (List ℕ) → Type 0
IsSome ls = (l : List ℕ) × ((more : List (List ℕ)) × (ls ≡ l ∷ more))

onto_some : (b : ℕ) (ls more : List (List ℕ)) → IsSome ls → onto_first b (ls ++ more) ≡ onto_first b ls ++ more
onto_some b ls more s = rw s.1.1 refl

some_line : (zs : List ℕ) → IsSome (raw_lines (zs ++ 10 ∷ []))
some_line [] = ([], ([], refl))
some_line (z ∷ zs) =
    elim (cases_Bool (is_line_end z)) [
      | inl is ↦ ([], (raw_lines (zs ++ 10 ∷ []), rw is refl))
      | inr isnt ↦ let s = some_line zs in (z ∷ s.0, (s.1.0, rw (isnt, s.1.1) refl))
    ]

-- a text that ends with a line feed ends with its last line
pub ends : (zs : List ℕ) → EndsLines (zs ++ 10 ∷ [])
ends [] more = refl
ends (z ∷ zs) more =
    elim (cases_Bool (is_line_end z)) [
      | inl is ↦ rw is (ap (λ (ls : List (List ℕ)). [] ∷ ls) (ends zs more))
      | inr isnt ↦ rw isnt (ap (onto_first z) (ends zs more) ∙ onto_some z (raw_lines (zs ++ 10 ∷ [])) (raw_lines more) (some_line zs))
    ]

pub none_ends : EndsLines []
none_ends more = refl

drop_none : (k : ℕ) → ◌≡◌ {A = List ℕ} (drop k []) []
drop_none zero = refl
drop_none (suc k) = refl

-- what is left of it, too
pub back_ends : (zs : List ℕ) (k : ℕ) → EndsLines (drop k (zs ++ 10 ∷ []))
back_ends zs zero = ends zs
back_ends [] (suc k) = subst EndsLines (sym (drop_none k)) none_ends
back_ends (z ∷ zs) (suc k) = back_ends zs k

pub both_end : (xs ys : List ℕ) → EndsLines xs → EndsLines ys → EndsLines (xs ++ ys)
both_end xs ys x y more =
    ap raw_lines (append_assoc xs ys more) ∙ x (ys ++ more) ∙ ap (λ (ls : List (List ℕ)). raw_lines xs ++ ls) (y more) ∙ sym (append_assoc (raw_lines xs) (raw_lines ys) (raw_lines more)) ∙ ap (λ (ls : List (List ℕ)). ls ++ raw_lines more) (sym (x ys))

up_to_suc : (xs : List ℕ) (n : ℕ) → n < length xs → slice_index xs n ≡ 10 → (zs : List ℕ) × (take (suc n) xs ≡ zs ++ 10 ∷ [])
up_to_suc [] n lt is = absurd (omega (arith, lt))
up_to_suc (x ∷ xs) zero lt is = ([], ap (λ (k : ℕ). k ∷ []) is)
up_to_suc (x ∷ xs) (suc n) lt is = let s = up_to_suc xs n (omega (arith, lt)) is in (x ∷ s.0, ap (λ (ys : List ℕ). x ∷ ys) s.1)

-- up to a line feed, it ends with one
pub up_to : (xs : List ℕ) (n : ℕ) → n < length xs → slice_index xs n ≡ 10 → (zs : List ℕ) × (take (n + 1) xs ≡ zs ++ 10 ∷ [])
up_to xs n lt is = let one : n + 1 ≡ suc n = omega arith in rw one (up_to_suc xs n lt is)

pub first_of : (xs first : List ℕ) (n : ℕ) → first ≡ take (n + 1) xs → n < length xs → slice_index xs n ≡ 10 → (front : List ℕ) → EndsLines (front ++ first)
first_of xs first n e lt is front =
    let s = up_to xs n lt is in
    let same : front ++ s.0 ++ 10 ∷ [] ≡ front ++ first = append_assoc front s.0 (10 ∷ []) ∙ ap (λ (ys : List ℕ). front ++ ys) (sym (e ∙ s.1)) in
    subst EndsLines same (ends (front ++ s.0))

pub back_of : (xs ended back : List ℕ) (n k : ℕ) → ended ≡ take (n + 1) xs → back ≡ drop k ended → n < length xs → slice_index xs n ≡ 10 → EndsLines back
back_of xs ended back n k e b lt is = let s = up_to xs n lt is in subst EndsLines (sym (b ∙ ap (drop k) (e ∙ s.1))) (back_ends s.0 k)

-- lines, and then those
pub read_more : (r : Read) (xs ys : List (List ℕ)) → read_lines r (xs ++ ys) ≡ read_lines (read_lines r xs) ys
read_more r [] ys = refl
read_more r (x ∷ xs) ys = read_more (next_line r x) xs ys

-- a text cut twice
pub in_three : (xs ended rest first back : List ℕ) (n k : ℕ) → ended ≡ take n xs → rest ≡ drop n xs → first ≡ take k ended → back ≡ drop k ended → first ++ (back ++ rest) ≡ xs
in_three xs ended rest first back n k e r f b =
    let one : first ++ back ≡ ended = rw (f, b) (take-append-drop k ended) in
    let two : ended ++ rest ≡ xs = rw (e, r) (take-append-drop n xs) in
    sym (append_assoc first back rest) ∙ ap (λ (ys : List ℕ). ys ++ rest) one ∙ two

-- a next piece has come
pub more_read : (bytes : List ℕ) (r : PieceReader) → HasRead bytes r → (piece first ended rest : List ℕ) → CutsLines piece first ended rest → (between : Read) (s : PieceReader) → between ≡ read_lines r.read (raw_lines (r.rest ++ first))
    → s.read ≡ read_lines between (raw_lines ended) → s.rest ≡ rest → s.count ≤ r.count + length (r.rest ++ first) + length ended → s.length ≡ r.length + length piece → HasRead (bytes ++ piece) s
more_read bytes r h piece first ended rest c between s one two left few long =
    let line = r.rest ++ first in
    let begun = h.ended ++ line in
    let begun_ends : EndsLines begun = subst EndsLines (append_assoc h.ended r.rest first) (c.first_ends (h.ended ++ r.rest)) in
    let read_line : between ≡ read_lines (Ok (no_lines, 0)) (raw_lines begun) =
    one ∙ ap (λ (x : Read). read_lines x (raw_lines line)) h.read ∙ sym (read_more (Ok (no_lines, 0)) (raw_lines h.ended) (raw_lines line)) ∙ ap (read_lines (Ok (no_lines, 0))) (sym (h.ends line)) in
    let read : s.read ≡ read_lines (Ok (no_lines, 0)) (raw_lines (begun ++ ended)) =
    two ∙ ap (λ (x : Read). read_lines x (raw_lines ended)) read_line ∙ sym (read_more (Ok (no_lines, 0)) (raw_lines begun) (raw_lines ended)) ∙ ap (read_lines (Ok (no_lines, 0))) (sym (begun_ends ended)) in
    let whole : begun ++ ended ++ s.rest ≡ bytes ++ piece =
    ap (λ (ys : List ℕ). begun ++ ended ++ ys) left ∙ append_assoc begun ended rest ∙ ap (λ (ys : List ℕ). ys ++ (ended ++ rest)) (sym (append_assoc h.ended r.rest first) ∙ ap (λ (ys : List ℕ). ys ++ first) h.whole)
    ∙ append_assoc bytes first (ended ++ rest) ∙ ap (λ (ys : List ℕ). bytes ++ ys) c.whole in
    record {
      ended = begun ++ ended;
      whole = whole;
      ends = both_end begun ended begun_ends c.ended_ends;
      read = read;
      few = omega (arith, few, h.few, length-append begun ended, length-append h.ended line);
      long = long ∙ ap (λ (n : ℕ). n + length piece) h.long ∙ sym (length-append bytes piece);
    }

-- all has come
pub all_read : (bytes : List ℕ) (r : PieceReader) → HasRead bytes r → nat_lt LONGEST_SCRIPT r.length ≡ false → (final : Read) → final ≡ read_lines r.read (raw_lines r.rest) → script_of bytes ≡ whole final
all_read bytes r h short final is =
    let within : nat_le (length bytes) LONGEST_SCRIPT ≡ true = le-leb (length bytes) LONGEST_SCRIPT (omega (arith, h.long, ltb-false LONGEST_SCRIPT r.length short)) in
    let lines : raw_lines bytes ≡ raw_lines h.ended ++ raw_lines r.rest = ap raw_lines (sym h.whole) ∙ h.ends r.rest in
    let read : read_lines (Ok (no_lines, 0)) (raw_lines bytes) ≡ final =
    ap (read_lines (Ok (no_lines, 0))) lines ∙ read_more (Ok (no_lines, 0)) (raw_lines h.ended) (raw_lines r.rest) ∙ ap (λ (x : Read). read_lines x (raw_lines r.rest)) (sym h.read) ∙ sym is in
    rw within (ap whole read)

-- a fault among the lines, or none
pub faulty : (f : Option (ℕ × Cause)) (n : ℕ) (c : Cause) (d : Draft) (k : ℕ) → f ≡ Some (n, c) → whole (read_with f d k) ≡ Err (n, c)
faulty f n c d k e = rw e refl

pub faultless : (f : Option (ℕ × Cause)) (d : Draft) (k : ℕ) → f ≡ None → whole (read_with f d k) ≡ whole_with d k d.config
faultless f d k e = rw e refl
