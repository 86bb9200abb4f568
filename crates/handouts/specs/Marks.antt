-- When the answer to a blank is right (`IsRight`), and how many blanks there are, and how many of them are right.
use Rattle.std.specs.Prelude.{◌≡◌, ℕ, ◌+◌, Bool, true, false, Option, None, Some, List, [], ◌∷◌, slice_get, if◌then◌else◌}
use Rattle.handouts.specs.declared.alignment.Found.{Found}
use Rattle.handouts.specs.declared.alignment.Found.TheVariants as found
use Rattle.handouts.specs.declared.lines.Answer.{Answer}
use Rattle.handouts.specs.declared.lines.Answer.TheVariants as answer
use Rattle.handouts.specs.declared.lines.Line.{Line}
use Rattle.handouts.specs.declared.marks.Mark.{Mark}
use Rattle.handouts.specs.declared.marks.Mark.TheVariants as mark
use Rattle.handouts.specs.declared.marks.Asked.{Asked}
use Rattle.handouts.specs.declared.marks.BlankMark.{BlankMark}
use Rattle.handouts.specs.Lines.{IsSame}

-- a line that ends with this answer, in other blanks maybe
abbrev pub IsAnswer : Answer → List ℕ → Type 0
IsAnswer answer.Absent right = ⊥
IsAnswer answer.Blank right = ⊥
IsAnswer (answer.Given text) right = IsSame text.items right

abbrev pub HasAnswer : Option Line → List ℕ → Type 0
HasAnswer None right = ⊥
HasAnswer (Some line) right = IsAnswer line.answer right

-- the student's file has the line, and there the machine's answer to it
abbrev pub IsRight : Asked → List Line → Found → Type 0
IsRight asked student (found.Kept place) = HasAnswer (slice_get student place) asked.right.items
IsRight asked student (found.Changed place) = ⊥
IsRight asked student found.Missing = ⊥

-- the handout leaves the answer blank
abbrev pub is_blank : Answer → Bool
is_blank answer.Absent = false
is_blank answer.Blank = true
is_blank (answer.Given text) = false

-- how many lines of a handout are blanks
abbrev pub blanks_of : List Asked → ℕ
blanks_of [] = 0
blanks_of (asked ∷ handout) = (if is_blank asked.line.answer then 1 else 0) + blanks_of handout

-- the mark of the machine's answer
abbrev pub is_right : Mark → Bool
is_right mark.Right = true
is_right mark.Open = false
is_right mark.Wrong = false
is_right mark.Changed = false
is_right mark.Gone = false

-- how many of some blanks have the machine's answer
abbrev pub rights_of : List BlankMark → ℕ
rights_of [] = 0
rights_of (blank ∷ blanks) = (if is_right blank.mark then 1 else 0) + rights_of blanks

-- the mark of a blank of the handout: right exactly if the answer is
pub record IsMarked (handout : List Asked) (student : List Line) (blank : BlankMark) : Type 0 where
  pub asked : Asked
  pub there : slice_get handout blank.place ≡ Some asked
  pub is_blank : is_blank asked.line.answer ≡ true
  pub right : blank.mark ≡ mark.Right → IsRight asked student blank.found
  pub wrong : IsRight asked student blank.found → blank.mark ≡ mark.Right
