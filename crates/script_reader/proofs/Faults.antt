-- Lemmas: the first fault of a script or of a file for threads stays the result, whatever lines follow.
use Rattle.std.proofs.Common.{◌≡◌, ℕ, List, [], ◌∷◌, Option, None, Some, true, Result, Err, refl, sym, ap, ◌∙◌}
use Rattle.std.specs.Prelude.{is_some}
use Rattle.script_language.specs.ReadLines.{ReadTo, lines_by, next_by}
use Rattle.script_language.specs.Script.{Draft, Read, line_of, read_lines, with_item}
use Rattle.script_language.specs.declared.script.Cause.{Cause}
use Rattle.script_reader.specs.ReadResults.{GivesError}
use Rattle.script_reader.specs.Reading.{read_with}
use Rattle.script_reader.specs.declared.fault.ScriptError.{ScriptError}
use Rattle.script_reader.specs.declared.fault.ScriptError.TheVariants as script

stays : {D I : Type 0} (line_of : D → List ℕ → Result (Option I) Cause) (with_item : D → I → D) (f : ℕ × Cause) (lines : List (List ℕ)) → lines_by (next_by line_of with_item) (Err f) lines ≡ Err f
stays line_of with_item f [] = refl
stays line_of with_item f (line ∷ lines) = stays line_of with_item f lines

-- where a line is refused, so is every text that goes on from it
pub refused : {D I : Type 0} (line_of : D → List ℕ → Result (Option I) Cause) (with_item : D → I → D) (e : ScriptError) (read : ReadTo D) (lines : List (List ℕ)) (total : ReadTo D) → GivesError e read
    → lines_by (next_by line_of with_item) read lines ≡ total → GivesError e total
refused line_of with_item script.Memory read lines total r says = tt
refused {D} line_of with_item (script.Line n c) read lines total r says =
    sym says ∙ ap (λ (x : ReadTo D). lines_by (next_by line_of with_item) x lines) r ∙ stays line_of with_item (n, c) lines

-- behind a first fault no line counts
pub stopped : (fault : Option (ℕ × Cause)) (d : Draft) (n : ℕ) (lines : List (List ℕ)) (total : Read) → is_some fault ≡ true → read_lines (read_with fault d n) lines ≡ total → read_with fault d n ≡ total
stopped None d n lines total some says = absurd (cc)
stopped (Some f) d n lines total some says = sym (stays line_of with_item f lines) ∙ says
