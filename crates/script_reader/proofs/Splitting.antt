-- Lemmas: the model's reading of a line is that of its word and the fields after it, in four cases: a fault before the word,
-- no word, the fault of the word and its fields, their item (what the line declares or commands).
use Rattle.std.proofs.Common.{◌≡◌, ℕ, true, false, List, [], ◌∷◌, length, Option, Some, None, Result, Ok, Err, refl, ap, ◌∙◌}
use Rattle.std.specs.Prelude.{nat_le, if◌then◌else◌}
use Rattle.script_language.specs.Lines.{fields_of}
use Rattle.script_language.specs.ReadLines.{◌>>=◌, test, is_ascii, is_comment, some_item, fields_by, line_by}
use Rattle.script_language.specs.declared.script.Cause.{Cause}
use Rattle.script_language.specs.declared.script.Cause.TheVariants as cause
use Rattle.script_reader.specs.ReadResults.{Fails}
use Rattle.script_reader.specs.WordOf.{word_in, word_of, said_with}
use Rattle.script_reader.specs.declared.fault.LineFault.{LineFault}
use Rattle.script_reader.specs.declared.fault.LineFault.TheVariants as fault
use Rattle.script_language.specs.declared.limits.TheConstants.{LONGEST_LINE}

fields_split : {I : Type 0} (says : List ℕ → List (List ℕ) → Result I Cause) (fields : List (List ℕ)) → fields_by says fields ≡ said_with says (word_in fields)
fields_split says [] = refl
fields_split says (text ∷ fields) =
    elim (is_comment text) as (λ b. (if b then Ok None else some_item (says text fields)) ≡ said_with says (if b then None else Some (text, fields))) [ true ↦ refl | false ↦ refl ]

split : {I : Type 0} (says : List ℕ → List (List ℕ) → Result I Cause) (line : List ℕ) → line_by says line ≡ (word_of line >>= said_with says)
split says line =
    elim (nat_le (length line) LONGEST_LINE) as (λ b.
    (test b cause.TooLong >>= (λ u. test (is_ascii line) cause.NotAscii >>= (λ v. fields_by says (fields_of line))))
    ≡ ((test b cause.TooLong >>= (λ u. test (is_ascii line) cause.NotAscii >>= (λ v. Ok (word_in (fields_of line))))) >>= said_with says)) [
      | false ↦ refl
      | true ↦ elim (is_ascii line) as (λ b. (test b cause.NotAscii >>= (λ v. fields_by says (fields_of line))) ≡ ((test b cause.NotAscii >>= (λ v. Ok (word_in (fields_of line)))) >>= said_with says)) [
        | false ↦ refl
        | true ↦ fields_split says (fields_of line)
      ]
    ]

pub line_with : {I : Type 0} (says : List ℕ → List (List ℕ) → Result I Cause) (line : List ℕ) (r : Result (Option (List ℕ × List (List ℕ))) Cause) → word_of line ≡ r → line_by says line ≡ (r >>= said_with says)
line_with says line r is = split says line ∙ ap (λ (x : Result (Option (List ℕ × List (List ℕ))) Cause). x >>= said_with says) is

-- a fault, no word, and a word with what it says

pub err_said : {I : Type 0} (says : List ℕ → List (List ℕ) → Result I Cause) (line : List ℕ) (e : LineFault) → Fails e (word_of line) → Fails e (line_by says line)
err_said says line fault.Memory h = tt
err_said says line (fault.Cause c) h = line_with says line (Err c) h

pub none_said : {I : Type 0} (says : List ℕ → List (List ℕ) → Result I Cause) (line : List ℕ) → word_of line ≡ Ok None → line_by says line ≡ Ok None
none_said says line h = line_with says line (Ok None) h

pub item_err : {I : Type 0} (says : List ℕ → List (List ℕ) → Result I Cause) (line text : List ℕ) (fields : List (List ℕ)) (e : LineFault) → word_of line ≡ Ok (Some (text, fields)) → Fails e (says text fields)
    → Fails e (line_by says line)
item_err says line text fields fault.Memory h f = tt
item_err says line text fields (fault.Cause c) h f = line_with says line (Ok (Some (text, fields))) h ∙ ap some_item f

pub item_said : {I : Type 0} (says : List ℕ → List (List ℕ) → Result I Cause) (line text : List ℕ) (fields : List (List ℕ)) (i : I) → word_of line ≡ Ok (Some (text, fields)) → says text fields ≡ Ok i
    → line_by says line ≡ Ok (Some i)
item_said says line text fields i h f = line_with says line (Ok (Some (text, fields))) h ∙ ap some_item f
