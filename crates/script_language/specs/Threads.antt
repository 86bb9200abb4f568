-- The text of a run on threads: of a process, its name (numbers with dots) and how it ended, and of the frames that are free
-- at the end.
use Rattle.std.specs.Prelude.{ℕ, List, [], ◌∷◌, ◌++◌, codes}
use Rattle.std.specs.Fmt.{decimal, signed_decimal}
use Rattle.sv39_entry.specs.RuleText.{rule_text}
use Rattle.script_language.specs.Words.{refusal_text}
use Rattle.process_model.specs.declared.call.ProcessEnd.{ProcessEnd}
use Rattle.process_model.specs.declared.call.ProcessEnd.TheVariants as outcome

-- the numbers of a name, with dots between them
abbrev pub dotted_text : List ℕ → List ℕ
dotted_text [] = []
dotted_text (n ∷ ns) = codes "." ++ (decimal n ++ dotted_text ns)

abbrev pub name_text : List ℕ → List ℕ
name_text [] = []
name_text (n ∷ ns) = decimal n ++ dotted_text ns

-- how a process ended, the text after its name: the number of entries in its journal and the outcome; for a refused start
-- the refusal alone
abbrev pub end_text : ℕ → ProcessEnd → List ℕ
end_text calls (outcome.Exited status) = codes " calls " ++ (decimal calls ++ (codes " exit " ++ signed_decimal status))
end_text calls (outcome.Ended rule) = codes " calls " ++ (decimal calls ++ (codes " ended " ++ rule_text rule))
end_text calls (outcome.Refused refusal) = codes " refused " ++ refusal_text refusal
end_text calls outcome.Memory = codes " calls " ++ (decimal calls ++ codes " ended 21 Memory")
end_text calls outcome.JournalFull = codes " calls " ++ (decimal calls ++ codes " ended 22 JournalFull")

abbrev pub process_text : List ℕ → ℕ → ProcessEnd → List ℕ
process_text name calls o = codes "process " ++ (name_text name ++ end_text calls o)

-- how many user frames are free, of `frames`
abbrev pub free_text : ℕ → ℕ → List ℕ
free_text free frames = codes "free " ++ (decimal free ++ (codes " of " ++ decimal frames))
