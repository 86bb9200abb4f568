-- Lemmas: the word of a row of the table is a word, and no row is one of `pool` or `list`.
use Rattle.std.proofs.Common.{◌≡◌, ℕ, ◌<◌, ◌&&◌, Bool, true, false, List, [], ◌∷◌, length, map, get_or, Some, refl, ap, sym, subst, ◌∙◌, arith, inl, inr}
use Rattle.std.specs.Prelude.{IsSome, is_some}
use Rattle.std.specs.Str.{bytes_eq}
use Rattle.std.specs.List.{list_all}
use Rattle.std.proofs.lemmas.Bool.{cases_Bool}
use Rattle.std.proofs.lemmas.List.Folds.{list_all_at}
use Rattle.std.proofs.lemmas.List.{length-map, get_or-map}
use Rattle.script_language.specs.Fields.{Row, command_table, row_among}
use Rattle.script_reader.specs.Rows.{seen}
use Rattle.script_reader.specs.declared.table.Row as table

is_true : (b : Bool) → (b ≡ false → true ≡ false) → b ≡ true
is_true true h = refl
is_true false h = absurd (let e = h refl in cc)

-- each row is found by its word
abbrev is_found : Row → Bool
is_found r = is_some (row_among command_table r.text)

all_found : list_all is_found command_table ≡ true
all_found = refl

pub word_found : (i : ℕ) (d : Row) → i < length command_table → IsSome (row_among command_table (get_or command_table i d).text)
word_found i d lt = is_true (is_found (get_or command_table i d)) (λ e. sym all_found ∙ list_all_at is_found command_table i d lt e)

both_left : (a b : Bool) → (a && b) ≡ true → a ≡ true
both_left true b e = refl
both_left false b e = e

both_right : (a b : Bool) → (a && b) ≡ true → b ≡ true
both_right true b e = e
both_right false b e = absurd cc

-- what holds of each row holds of the one that is found
pub found_passes : (p : Row → Bool) (rows : List Row) (text : List ℕ) (r : Row) → list_all p rows ≡ true → row_among rows text ≡ Some r → p r ≡ true
found_passes p [] text r all e = absurd cc
found_passes p (x ∷ rows) text r all e =
    elim (cases_Bool (bytes_eq x.text text)) [
      | inl is ↦
          let same : x ≡ r = let here = rw is at e in cc in
          ap p (sym same) ∙ both_left (p x) (list_all p rows) all
      | inr isnt ↦ found_passes p rows text r (both_right (p x) (list_all p rows) all) (rw isnt at e)
    ]

-- the word of a row of the reader's table is a word
pub word_of_row : (rows : List table.Row) (i : ℕ) (d : table.Row) → map seen rows ≡ command_table → i < length command_table → IsSome (row_among command_table (get_or rows i d).text.now)
word_of_row rows i d all lt =
    let here : i < length rows = let same = length-map rows seen in let long = ap length all in omega arith in
    let row : seen (get_or rows i d) ≡ get_or command_table i (seen d) = sym (get_or-map seen rows i d (seen d) here) ∙ ap (λ (rs : List Row). get_or rs i (seen d)) all in
    let P : Row → Type 0 = λ r. IsSome (row_among command_table r.text) in
    subst P (sym row) (word_found i (seen d) lt)
