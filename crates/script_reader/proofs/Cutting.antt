-- Lemmas on how text is cut: the first line of a text and the lines after it; the first field of a line, after blanks, and
-- the fields after it.
use Rattle.std.proofs.Common.{◌≡◌, ℕ, suc, ◌+◌, ◌<◌, ◌≤◌, Bool, true, false, not, cond, List, [], ◌∷◌, length, take, drop, refl, sym, ap, subst, ◌∙◌, arith, inl, inr}
use Rattle.std.specs.List.{prefix_len, position_or_len, onto_first}
use Rattle.std.proofs.lemmas.Bool.{cases_Bool}
use Rattle.std.proofs.lemmas.List.Sums.{prefix_len-le-length}
use Rattle.script_language.specs.Lines.{is_line_end, is_blank, raw_lines, ends_field, fields_of}

line_step : (b : ℕ) (text : List ℕ) (v : Bool) (n : ℕ) → onto_first b (raw_lines text) ≡ (b ∷ take n text) ∷ raw_lines (drop (n + 1) text)
    → cond v ([] ∷ raw_lines text) (onto_first b (raw_lines text)) ≡ take (cond (not v) (1 + n) 0) (b ∷ text) ∷ raw_lines (drop (cond (not v) (1 + n) 0 + 1) (b ∷ text))
line_step b text true n e = refl
line_step b text false n e =
    let one : 1 + n ≡ suc n = omega arith in
    let two : suc n + 1 ≡ suc (n + 1) = omega arith in
    rw (one, two) e

-- the first line ends where the first line feed stands, or with the text
pub line_first : (text : List ℕ) → 0 < length text → raw_lines text ≡ take (position_or_len is_line_end text) text ∷ raw_lines (drop (position_or_len is_line_end text + 1) text)
line_first [] lt = absurd (omega arith)
line_first (b ∷ []) lt = line_step b [] (is_line_end b) 0 refl
line_first (b ∷ c ∷ text) lt = line_step b (c ∷ text) (is_line_end b) (position_or_len is_line_end (c ∷ text)) (ap (onto_first b) (line_first (c ∷ text) (omega arith)))

-- blanks in front are ignored
pub blanks_first : (line : List ℕ) → fields_of line ≡ fields_of (drop (prefix_len is_blank line) line)
blanks_first [] = refl
blanks_first (b ∷ line) =
    elim (cases_Bool (is_blank b)) [
      | inl is ↦
          let one : 1 + prefix_len is_blank line ≡ suc (prefix_len is_blank line) = omega arith in
          let k : prefix_len is_blank (b ∷ line) ≡ suc (prefix_len is_blank line) = rw is one in
          let a : fields_of (b ∷ line) ≡ fields_of line = rw is refl in
          a ∙ blanks_first line ∙ ap (λ (n : ℕ). fields_of (drop n (b ∷ line))) (sym k)
      | inr isnt ↦
          let k : prefix_len is_blank (b ∷ line) ≡ 0 = rw isnt refl in
          ap (λ (n : ℕ). fields_of (drop n (b ∷ line))) (sym k)
    ]

-- what stands after the blanks in front is no blank
pub field_starts : (line : List ℕ) (b : ℕ) (rest : List ℕ) → drop (prefix_len is_blank line) line ≡ b ∷ rest → is_blank b ≡ false
field_starts [] b rest e = absurd cc
field_starts (a ∷ line) b rest e =
    elim (cases_Bool (is_blank a)) [
      | inl is ↦
          let one : 1 + prefix_len is_blank line ≡ suc (prefix_len is_blank line) = omega arith in
          let k : prefix_len is_blank (a ∷ line) ≡ suc (prefix_len is_blank line) = rw is one in
          field_starts line b rest (ap (λ (n : ℕ). drop n (a ∷ line)) (sym k) ∙ e)
      | inr isnt ↦
          let k : prefix_len is_blank (a ∷ line) ≡ 0 = rw isnt refl in
          let same : a ∷ line ≡ b ∷ rest = ap (λ (n : ℕ). drop n (a ∷ line)) (sym k) ∙ e in
          let head : a ≡ b = cc in
          ap is_blank (sym head) ∙ isnt
    ]

field_step : (b n : ℕ) (line : List ℕ) → fields_of line ≡ take n line ∷ fields_of (drop n line) → onto_first b (fields_of line) ≡ take (1 + n) (b ∷ line) ∷ fields_of (drop (1 + n) (b ∷ line))
field_step b n line e = let one : 1 + n ≡ suc n = omega arith in rw one (ap (onto_first b) e)

abbrev Cuts : List ℕ → ℕ → Type 0
Cuts line n = fields_of line ≡ take n line ∷ fields_of (drop n line)

pub field_alone : (b : ℕ) (line : List ℕ) → is_blank b ≡ false → ends_field line ≡ true → fields_of (b ∷ line) ≡ (b ∷ []) ∷ fields_of line
field_alone b line e f = rw (e, f) refl

pub field_goes_on : (b : ℕ) (line : List ℕ) → is_blank b ≡ false → ends_field line ≡ false → fields_of (b ∷ line) ≡ onto_first b (fields_of line)
field_goes_on b line e f = rw (e, f) refl

-- a field ends before the first blank, or with the line
pub field_first : (b : ℕ) (rest : List ℕ) → is_blank b ≡ false → fields_of (b ∷ rest) ≡ take (position_or_len is_blank (b ∷ rest)) (b ∷ rest) ∷ fields_of (drop (position_or_len is_blank (b ∷ rest)) (b ∷ rest))
field_first b [] e = rw e refl
field_first b (c ∷ rest) e =
    elim (cases_Bool (is_blank c)) [
      | inl is ↦
          let k : position_or_len is_blank (b ∷ c ∷ rest) ≡ 1 = rw (e, is) refl in
          subst (Cuts (b ∷ c ∷ rest)) (sym k) (field_alone b (c ∷ rest) e is)
      | inr isnt ↦
          let a : fields_of (b ∷ c ∷ rest) ≡ onto_first b (fields_of (c ∷ rest)) = field_goes_on b (c ∷ rest) e isnt in
          let k : position_or_len is_blank (b ∷ c ∷ rest) ≡ 1 + position_or_len is_blank (c ∷ rest) = rw e refl in
          subst (Cuts (b ∷ c ∷ rest)) (sym k) (a ∙ field_step b (position_or_len is_blank (c ∷ rest)) (c ∷ rest) (field_first c rest isnt))
    ]

pub field_not_empty : (b : ℕ) (rest : List ℕ) → is_blank b ≡ false → 0 < position_or_len is_blank (b ∷ rest)
field_not_empty b rest e = rw e (omega arith)

-- the first field of a line, as the code takes it
pub field_cut : (line rest : List ℕ) (n : ℕ) → rest ≡ drop (prefix_len is_blank line) line → 0 < length rest → n ≡ position_or_len is_blank rest
    → (fields_of line ≡ take n rest ∷ fields_of (drop n rest)) × (0 < n) × (n ≤ length rest)
field_cut line [] n e some is = absurd (omega arith)
field_cut line (b ∷ rest) n e some is =
    let no : is_blank b ≡ false = field_starts line b rest (sym e) in
    let found : fields_of line ≡ take (position_or_len is_blank (b ∷ rest)) (b ∷ rest) ∷ fields_of (drop (position_or_len is_blank (b ∷ rest)) (b ∷ rest)) = blanks_first line ∙ ap fields_of (sym e) ∙ field_first b rest no in
    let P : ℕ → Type 0 = λ k. fields_of line ≡ take k (b ∷ rest) ∷ fields_of (drop k (b ∷ rest)) in
    let some : ℕ → Type 0 = λ k. 0 < k in
    let within : ℕ → Type 0 = λ k. k ≤ length (b ∷ rest) in
    (subst P (sym is) found, subst some (sym is) (field_not_empty b rest no), subst within (sym is) (prefix_len-le-length (λ x. not (is_blank x)) (b ∷ rest)))
