-- The rows of the C program (`table_text`): what each expects is what the machine answered.
use Rattle.std.specs.Prelude.{ℕ, List, [], ◌∷◌, ◌+◌, ◌-◌, ◌++◌, Bool, codes, get_or, if◌then◌else◌}
use Rattle.std.specs.Fmt.{decimal}
use Rattle.std.specs.List.{flat_map}
use Rattle.std.specs.Str.{bytes_eq}
use Rattle.std.specs.String.{string_bytes}
use Rattle.script_language.specs.Lines.{fields_of}
use Rattle.usertest_rows.specs.declared.rows.Call.{Call}
use Rattle.usertest_rows.specs.declared.rows.Call.TheVariants as call
use Rattle.usertest_rows.specs.declared.rows.Life.{Life}
use Rattle.usertest_rows.specs.declared.rows.Row.{Row}
use Rattle.usertest_rows.specs.declared.rows.Row.TheVariants as row
use Rattle.usertest_rows.specs.declared.rows.StepRow.{StepRow}

-- the function of the runtime
abbrev pub call_name : Call → List ℕ
call_name call.Load = codes "ld"
call_name call.Peek = codes "peek"
call_name call.Grow = codes "grow"
call_name call.In = codes "in"
call_name call.Out = codes "out"
call_name call.Map = codes "map"
call_name call.Show = codes "show"
call_name call.Reap = codes "reap"
call_name call.Held = codes "held"
call_name call.Used = codes "used"

-- how many lines after the first line of its step the line stands whose answer the row expects: the access itself, after a first try
-- and `fix`; the same by a child, after `fork`, `enter`, `leave`, `enter` and `on`; a call of the kernel after `enter`; the line itself
abbrev pub lines_before : Call → ℕ
lines_before call.Load = 2
lines_before call.Peek = 7
lines_before call.Grow = 1
lines_before call.In = 1
lines_before call.Out = 1
lines_before call.Map = 1
lines_before call.Show = 0
lines_before call.Reap = 1
lines_before call.Held = 0
lines_before call.Used = 0

-- a word of an answer, counted from 0
abbrev pub word_of : ℕ → List ℕ → List ℕ
word_of n answer = get_or (fields_of answer) n []

-- whether the first word of an answer is this one
abbrev pub begins : List ℕ → List ℕ → Bool
begins word answer = bytes_eq (word_of 0 answer) word

-- between quotation marks
abbrev pub quoted : List ℕ → List ℕ
quoted text = (34 ∷ []) ++ (text ++ (34 ∷ []))

-- what a row expects, of the machine's answer: its value, its address, its bytes or its count. Of a copy that stops after N bytes,
-- `short RULE NAME done N ..`, it is N. An mmap is granted (1) if the answer is `at ADDRESS`. A process that does not exit ends with -1
abbrev pub expected_of : Call → List ℕ → List ℕ
expected_of call.Load answer = word_of 1 answer
expected_of call.Peek answer = word_of 1 answer
expected_of call.Grow answer = word_of 1 answer
expected_of call.In answer = if begins (codes "copied") answer
    then word_of 1 answer ++ (codes ", " ++ quoted (word_of 2 answer))
    else word_of 4 answer ++ (codes ", " ++ quoted [])
expected_of call.Out answer = if begins (codes "copied") answer then word_of 1 answer else word_of 4 answer
expected_of call.Map answer = if begins (codes "at") answer then codes "1" else codes "0"
expected_of call.Show answer = quoted (word_of 2 answer)
expected_of call.Reap answer = if begins (codes "exited") answer then word_of 1 answer else codes "-1"
expected_of call.Held answer = word_of 3 answer
expected_of call.Used answer = word_of 3 answer

-- the answer to the line of this number, counted from 1
abbrev pub answer_to : List (List ℕ) → ℕ → List ℕ
answer_to answers line = get_or answers (line - 1) []

-- a row that expects something: the call, its step, its arguments, and what the machine answered
abbrev pub step_text : List (List ℕ) → StepRow → List ℕ
step_text answers s = codes "  " ++ (call_name s.call ++ (codes "(" ++ (decimal s.step ++ (codes ", " ++ (string_bytes s.arguments
    ++ (expected_of s.call (answer_to answers (s.step + lines_before s.call)) ++ codes ");\n"))))))

abbrev pub row_text : List (List ℕ) → Row → List ℕ
row_text answers (row.Text text) = string_bytes text
row_text answers (row.Step s) = step_text answers s

-- the functions of a test, one after the other
abbrev pub life_text : List (List ℕ) → Life → List ℕ
life_text answers life = flat_map (row_text answers) life.rows.items

abbrev pub table_text : List (List ℕ) → List Life → List ℕ
table_text answers lives = flat_map (life_text answers) lives
