-- The text of a run on threads (`threads_text`): a line for each ended process (`ended_line`: name, number of calls,
-- outcome), and last the number of free user frames; processes sorted by name (`AreInOrder`).
use Rattle.std.specs.Prelude.{ℕ, List, [], ◌∷◌, ◌++◌, length}
use Rattle.std.specs.List.Sorted.{IsSortedByKey}
use Rattle.std.specs.Cmp.Lexicographic.{slice_cmp}
use Rattle.std.specs.Ordering.{nat_cmp}
use Rattle.script_language.specs.Text.{line_text}
use Rattle.script_language.specs.Threads.{process_text, free_text}
use Rattle.hart_calls.specs.declared.finished.Finished.{Finished}

abbrev pub ended_line : Finished → List ℕ
ended_line f = line_text (process_text f.name.items (length f.journal.items) f.outcome)

abbrev pub ended_lines : List Finished → List ℕ
ended_lines [] = []
ended_lines (f ∷ fs) = ended_line f ++ ended_lines fs

-- the lines of the processes, and last how many of the user frames are free
abbrev pub threads_text : List Finished → ℕ → ℕ → List ℕ
threads_text ended free frames = ended_lines ended ++ line_text (free_text free frames)

-- sorted by their names, which are compared number by number
abbrev pub AreInOrder : List Finished → Type 0
AreInOrder = IsSortedByKey (λ (f : Finished). f.name.items) (slice_cmp nat_cmp)
