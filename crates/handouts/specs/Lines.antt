-- When a line of a student's file is a line of the handout (`IsKept`).
use Rattle.std.specs.Prelude.{◌≡◌, ⊤, ℕ, List}
use Rattle.handouts.specs.declared.lines.Answer.{Answer}
use Rattle.handouts.specs.declared.lines.Answer.TheVariants as answer
use Rattle.handouts.specs.declared.lines.Line.{Line}
use Rattle.script_language.specs.Lines.{fields_of}

-- two lines, or answers, have the same fields: they differ at most in blanks
abbrev pub IsSame : List ℕ → List ℕ → Type 0
IsSame one other = fields_of one ≡ fields_of other

-- the answer of the handout's line allows that of the student's: any if it is a blank, else the same or, of a line with none, none
abbrev pub Allows : Answer → Answer → Type 0
Allows answer.Absent answer.Absent = ⊤
Allows answer.Absent answer.Blank = ⊥
Allows answer.Absent (answer.Given text) = ⊥
Allows answer.Blank answer.Absent = ⊥
Allows answer.Blank answer.Blank = ⊤
Allows answer.Blank (answer.Given text) = ⊤
Allows (answer.Given given) answer.Absent = ⊥
Allows (answer.Given given) answer.Blank = ⊥
Allows (answer.Given given) (answer.Given text) = IsSame given.items text.items

-- the student's line, the second, is the handout's
pub record IsKept (line written : Line) : Type 0 where
  pub bare : IsSame line.bare.items written.bare.items
  pub answer : Allows line.answer written.answer
