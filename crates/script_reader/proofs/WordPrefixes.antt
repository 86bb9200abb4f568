-- Lemma for the reader's fast path: a word of it at the beginning of a line, if a field ends after its letters, is the
-- line's first field.
use Rattle.std.proofs.Common.{◌≡◌, ℕ, Bool, true, false, not, ◌&&◌, List, [], ◌∷◌, ◌++◌, refl, ap, ◌∙◌}
use Rattle.std.proofs.lemmas.Bool.{and_parts}
use Rattle.std.specs.List.{onto_first}
use Rattle.std.specs.Prelude.{codes}
use Rattle.script_language.specs.Lines.{ends_field, fields_of, is_blank}
use Rattle.script_reader.proofs.Cutting.{field_alone, field_goes_on}
use Rattle.script_reader.specs.FastWords.{letters}
use Rattle.script_reader.specs.declared.fast_path.FastWord.{FastWord}
use Rattle.script_reader.specs.declared.fast_path.FastWord.TheVariants as quick

abbrev has_no_blank : List ℕ → Bool
has_no_blank [] = true
has_no_blank (b ∷ bs) = not (is_blank b) && has_no_blank bs

-- some bytes, none of which is a blank
abbrev is_word : List ℕ → Bool
is_word [] = false
is_word (b ∷ bs) = has_no_blank (b ∷ bs)

not_so : (x : Bool) → not x ≡ true → x ≡ false
not_so true is = absurd cc
not_so false is = refl

word_alone : (b : ℕ) (bs rest : List ℕ) → has_no_blank (b ∷ bs) ≡ true → ends_field rest ≡ true → fields_of ((b ∷ bs) ++ rest) ≡ (b ∷ bs) ∷ fields_of rest
word_alone b [] rest clear ends =
    let first = and_parts (not (is_blank b)) (has_no_blank []) clear in
    field_alone b rest (not_so (is_blank b) first.0) ends
word_alone b (c ∷ bs) rest clear ends =
    let first = and_parts (not (is_blank b)) (has_no_blank (c ∷ bs)) clear in
    let second = and_parts (not (is_blank c)) (has_no_blank bs) first.1 in
    field_goes_on b ((c ∷ bs) ++ rest) (not_so (is_blank b) first.0) (not_so (is_blank c) second.0) ∙ ap (onto_first b) (word_alone c bs rest first.1 ends)

first_word : (text rest : List ℕ) → is_word text ≡ true → ends_field rest ≡ true → fields_of (text ++ rest) ≡ text ∷ fields_of rest
first_word [] rest is ends = absurd cc
first_word (b ∷ bs) rest is ends = word_alone b bs rest is ends

pub word_cut : (w : FastWord) (rest : List ℕ) → ends_field rest ≡ true → fields_of (letters w ++ rest) ≡ letters w ∷ fields_of rest
word_cut quick.Load rest ends = first_word (codes "load") rest refl ends
word_cut quick.Store rest ends = first_word (codes "store") rest refl ends
word_cut quick.Switch rest ends = first_word (codes "switch") rest refl ends
word_cut quick.Fetch rest ends = first_word (codes "fetch") rest refl ends
word_cut quick.Fix rest ends = first_word (codes "fix") rest refl ends
word_cut quick.Enter rest ends = first_word (codes "enter") rest refl ends
word_cut quick.Exit rest ends = first_word (codes "exit") rest refl ends
word_cut quick.Leave rest ends = first_word (codes "leave") rest refl ends
word_cut quick.On rest ends = first_word (codes "on") rest refl ends
word_cut quick.Fill rest ends = first_word (codes "fill") rest refl ends
word_cut quick.Next rest ends = first_word (codes "next") rest refl ends
word_cut quick.Trap rest ends = first_word (codes "trap") rest refl ends
word_cut quick.Fork rest ends = first_word (codes "fork") rest refl ends
word_cut quick.CopyIn rest ends = first_word (codes "copyin") rest refl ends
word_cut quick.Mmap rest ends = first_word (codes "mmap") rest refl ends
word_cut quick.Munmap rest ends = first_word (codes "munmap") rest refl ends
