-- Which lines are kept, and that the one behind them then is answered `NOT permitted` (`IsDenied`).
use Rattle.std.specs.Prelude.{◌≡◌, ⊤, ℕ, zero, suc, Bool, List, None, Option, Some, false, true, length, slice_get}
use Rattle.mmu_lines.specs.Requests.{IsAnswer}
use Rattle.mmu_lines.specs.States.{State, begun}
use Rattle.mmu_reasons.specs.Answers.{is_amiss}
use Rattle.mmu_reasons.specs.declared.answers.Answer.{Answer}
use Rattle.mmu_reasons.specs.declared.answers.Answer.TheVariants as answer
use Rattle.mmu_requests.specs.Profiles.{plain_with}
use Rattle.mmu_lines.specs.declared.line.Line.{Line}
use Rattle.script_language.specs.Lines.{fields_of}

-- an answer is `NOT permitted`
abbrev pub denies : Answer → Bool
denies (answer.NotPermitted reason permitted) = true
denies (answer.Error column text) = false
denies answer.Ok = false
denies answer.Version = false
denies (answer.Satp word) = false
denies (answer.Locked l) = false
denies (answer.NoEffect va) = false
denies (answer.Outcomes found) = false
denies (answer.Permitted line) = false

-- what a line does: what is not amiss if it is kept, nothing if it is not
abbrev pub IsStep : Option Bool → Option Line → State → State → Type 0
IsStep (Some true) (Some line) old new = (a : Answer) × (is_amiss a ≡ false) × IsAnswer (fields_of line.text.items) old new a
IsStep (Some true) None old new = ⊥
IsStep (Some false) line old new = new ≡ old
IsStep None line old new = new ≡ old

abbrev pub GoesIf : Bool → Option Bool → Option Line → State → State → Type 0
GoesIf true keep line old new = IsStep keep line old new
GoesIf false keep line old new = ⊤

-- there is an answer, and nothing is amiss with it
abbrev pub IfFine : Option Answer → Type 0
IfFine (Some a) = is_amiss a ≡ false
IfFine None = ⊥

-- the state of an MMU that from the start was given those of the first n lines that are kept
abbrev pub IsAfter : List Line → List Bool → ℕ → State → Type 0
IsAfter lines keeps zero s = s ≡ begun (plain_with true)
IsAfter lines keeps (suc n) s =
    (before : State) × IsAfter lines keeps n before × IsStep (slice_get keeps n) (slice_get lines n) before s

-- a line is answered `NOT permitted`
abbrev pub IsLast : Option Line → State → Answer → Type 0
IsLast (Some line) old a = (new : State) × IsAnswer (fields_of line.text.items) old new a × (denies a ≡ true)
IsLast None old a = ⊥

-- the line behind those of which some are kept is answered `NOT permitted`, right after these were played
abbrev pub IsDenied : List Line → List Bool → Answer → Type 0
IsDenied lines keeps a =
    (old : State) × IsAfter lines keeps (length keeps) old × IsLast (slice_get lines (length keeps)) old a
