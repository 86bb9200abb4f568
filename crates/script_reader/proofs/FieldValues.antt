-- Lemmas: the values of a line's fields, read one after the other by the kinds at their places, are the model's; with a
-- wrong number of fields the result is `Count`.
use Rattle.std.proofs.Common.{◌≡◌, ℕ, ◌+◌, true, false, eqb, arith, List, [], ◌∷◌, length, drop, Result, Ok, Err, refl, sym, ap, ◌∙◌}
use Rattle.std.proofs.lemmas.List.{at_drop_more}
use Rattle.script_language.specs.Fields.{Row, kinds_for, values_from, values_of, value_of, and_then}
use Rattle.script_language.specs.declared.script.Cause.{Cause}
use Rattle.script_language.specs.declared.script.Cause.TheVariants as cause
use Rattle.script_language.specs.declared.script.FieldKind.{FieldKind}
use Rattle.script_language.specs.declared.script.FieldValue.{FieldValue}
use Rattle.script_reader.proofs.FieldKinds.{HasAt}

-- the kinds for as many fields as there are
abbrev pub kinds_of : Row → List (List ℕ) → List FieldKind
kinds_of r fields = kinds_for r.kinds r.tail (length fields)

-- a next field is read by the kind at its place
pub next_value : (ks : List FieldKind) (p : ℕ) (k : FieldKind) (so_far total : Result (List FieldValue) Cause) (field : List ℕ) (fields : List (List ℕ)) → HasAt ks p k
    → values_from so_far (drop p ks) (field ∷ fields) ≡ total → values_from (and_then so_far (value_of k field)) (drop (p + 1) ks) fields ≡ total
next_value ks p k so_far total field fields h says =
    let here : drop p ks ≡ k ∷ drop (p + 1) ks = at_drop_more (λ rest. rest) ks p k h.0 ∙ ap (λ (x : FieldKind). x ∷ drop (p + 1) ks) h.1 in
    rw here at says

none_left : (so_far : Result (List FieldValue) Cause) (ks : List FieldKind) → values_from so_far ks [] ≡ so_far
none_left so_far [] = refl
none_left so_far (k ∷ ks) = refl

pub wrong_count : (r : Row) (fields : List (List ℕ)) → eqb (length fields) (length (kinds_of r fields)) ≡ false → Err cause.Count ≡ values_of r fields
wrong_count r fields e = rw e refl

-- where no field is left, the values are those so far
pub all_read : (r : Row) (fields rest : List (List ℕ)) (ks : List FieldKind) (so_far : Result (List FieldValue) Cause) → rest ≡ [] → eqb (length fields) (length (kinds_of r fields)) ≡ true
    → values_from so_far ks rest ≡ values_from (Ok []) (kinds_of r fields) fields → so_far ≡ values_of r fields
all_read r fields rest ks so_far none e says = rw e (sym (ap (values_from so_far ks) none ∙ none_left so_far ks) ∙ says)

pub one_taken : (rest : List (List ℕ)) (field : List ℕ) (fields : List (List ℕ)) → rest ≡ field ∷ fields → length rest ≡ length fields + 1
one_taken rest field fields e = rw e (omega arith)
