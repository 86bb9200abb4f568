-- Lemma: a line of a file for threads that begins neither with a blank nor with the letters of `list` begins no list of calls.
use Rattle.std.proofs.Common.{◌≡◌, ℕ, true, false, List, [], ◌∷◌, ◌++◌, take, drop, refl, sym, ap, ◌∙◌, inl, inr}
use Rattle.std.specs.List.{position_or_len}
use Rattle.std.specs.Prelude.{codes, slice_index}
use Rattle.std.proofs.lemmas.Bool.{and_parts, cases_Bool}
use Rattle.std.proofs.lemmas.List.{take-append-drop}
use Rattle.std.proofs.lemmas.Slice.Eq.{bytes_eq-Decides}
use Rattle.script_language.specs.Lines.{fields_of, is_blank}
use Rattle.script_language.specs.Numbers.{number_of}
use Rattle.script_language.specs.ThreadScript.{begins, is_number}
use Rattle.script_reader.specs.ThreadFastLines.{begins_with_list}
use Rattle.script_reader.proofs.Cutting.{field_first}

false_true : false ≡ true → ⊥
false_true e = cc

begins_text : (k : ℕ) (text : List ℕ) (fields : List (List ℕ)) → begins k (text ∷ fields) ≡ true → text ≡ codes "list"
begins_text k text [] e = absurd (false_true e)
begins_text k text (number ∷ []) e = (bytes_eq-Decides text (codes "list")).0 (and_parts _ (is_number k (number_of number)) e).0
begins_text k text (number ∷ more ∷ fields) e = absurd (false_true e)

taken : (n : ℕ) (line : List ℕ) → take n line ≡ codes "list" → begins_with_list line ≡ true
taken n line e = ap begins_with_list (sym (take-append-drop n line)) ∙ ap (λ (text : List ℕ). begins_with_list (text ++ drop n line)) e

begins_other : (k b : ℕ) (rest : List ℕ) → is_blank b ≡ false → begins_with_list (b ∷ rest) ≡ false → begins k (fields_of (b ∷ rest)) ≡ false
begins_other k b rest clear other =
    let n = position_or_len is_blank (b ∷ rest) in
    elim (cases_Bool (begins k (fields_of (b ∷ rest)))) [
      | inl is ↦ absurd (false_true (sym other ∙ taken n (b ∷ rest) (begins_text k (take n (b ∷ rest)) (fields_of (drop n (b ∷ rest))) (ap (begins k) (sym (field_first b rest clear)) ∙ is))))
      | inr isnt ↦ isnt
    ]

pub begins_none : (k : ℕ) (line : List ℕ) → is_blank (slice_index line 0) ≡ false → begins_with_list line ≡ false → begins k (fields_of line) ≡ false
begins_none k [] clear other = refl
begins_none k (b ∷ rest) clear other = begins_other k b rest clear other
