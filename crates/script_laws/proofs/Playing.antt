-- Row types of this crate's tests: `Line`, a line of a script with its answer, or silent; `Plays`: playing these lines
-- writes their answers; `IsRefused`: the script is refused, with the number of its faulty line and the cause. A row is
-- proved by `unfold Plays in refl`: that opens each definition from which its answers are computed.
use Prim.Native.String.{String}
use Rattle.std.specs.Fmt.{digits}
use Rattle.std.specs.Prelude.{◌≡◌, ℕ, zero, suc, ◌+◌, List, [], ◌∷◌, ◌++◌, map, Result, Ok, Err, codes, flat_map, decimal}
use Rattle.process_model.specs.Bytes.{number, low_bytes}
use Rattle.process_model.specs.Copies.{copied_in, copied_out}
use Rattle.process_model.specs.Environment.{resident_at}
use Rattle.process_model.specs.Frames.{tables_needed}
use Rattle.process_model.specs.Heap.{sbrk_result}
use Rattle.process_model.specs.ImageProcess.{process_of}
use Rattle.process_model.specs.Images.{elf_loads, segment_loads}
use Rattle.process_model.specs.Mappings.{mapped, unmapped}
use Rattle.process_model.specs.Steps.{step}
use Rattle.process_model.specs.World.{on_hart, with_its_process}
use Rattle.script_language.specs.Script.{item_line, line_of, script_of, Script}
use Rattle.script_language.specs.Text.{text_of, line_text}
use Rattle.script_language.specs.declared.script.Cause.{Cause}

-- a line that is answered nothing, or a line with its answer
pub data Line : Type 0 where
  unanswered : List ℕ → Line
  answered : List ℕ → List ℕ → Line

abbrev pub silent : String → Line
silent l = unanswered (codes l)

infix 80 ◌⇒◌
abbrev pub ◌⇒◌ : String → String → Line
l ⇒ a = answered (codes l) (codes a)

-- a text with a number at its end
abbrev pub numbered : String → ℕ → List ℕ
numbered text n = codes text ++ decimal n

-- so many numbers, from the first on
abbrev pub numbers_from : ℕ → ℕ → List ℕ
numbers_from first zero = []
numbers_from first (suc count) = first ∷ numbers_from (first + 1) count

abbrev text_or : Result Script (ℕ × Cause) → Result (List ℕ) (ℕ × Cause)
text_or (Ok s) = Ok (text_of s)
text_or (Err e) = Err e

-- what a script of these lines writes, or its first fault
abbrev played : List (List ℕ) → Result (List ℕ) (ℕ × Cause)
played lines = text_or (script_of (flat_map line_text lines))

abbrev asked : Line → List ℕ
asked (unanswered l) = l
asked (answered l a) = l

abbrev answers : List Line → List (List ℕ)
answers [] = []
answers (unanswered l ∷ ls) = answers ls
answers (answered l a ∷ ls) = a ∷ answers ls

-- playing the lines writes their answers
unfoldable pub Plays : List Line → Type 0
unfolding number low_bytes digits item_line line_of elf_loads segment_loads process_of tables_needed on_hart with_its_process
    resident_at sbrk_result mapped unmapped copied_in copied_out step
Plays ls = played (map asked ls) ≡ Ok (flat_map line_text (answers ls))

-- the lines are refused for a fault in one of them
unfoldable pub IsRefused : List Line → ℕ → Cause → Type 0
unfolding number low_bytes digits item_line line_of
IsRefused ls n cause = played (map asked ls) ≡ Err (n, cause)
