-- How a line is taken apart that expects an answer, as `LINE => ANSWER`.
use Rattle.std.specs.Prelude.{◌≡◌, ◌+◌, ◌++◌, ℕ, List, Some, None, codes, take, drop}
use Rattle.std.specs.Str.{IsTrimAsciiStart, IsTrimAsciiEnd, IsTrimAscii}
use Rattle.memchr.specs.Find.{FindsNeedle}

-- `=>`
abbrev pub arrow : List ℕ
arrow = codes "=>"

-- the first byte of the line that is no blank is `#`
abbrev pub IsComment : List ℕ → Type 0
IsComment line = (rest : List ℕ) × IsTrimAsciiStart line (codes "#" ++ rest)

-- the line expects no answer, since it is a comment or has no `=>`, and the bare line is the whole
pub record IsWhole (line bare : List ℕ) : Type 0 where
  pub same : bare ≡ line
  pub without : ¬ IsComment line → FindsNeedle line arrow 0 None

-- the line expects an answer: bare and answer are what stands before its first `=>` and after it, without the blanks at the end of
-- bare and around the answer
pub record IsApart (line bare answer : List ℕ) : Type 0 where
  pub no_comment : ¬ IsComment line
  pub place : ℕ
  pub finds : FindsNeedle line arrow 0 (Some place)
  pub before : IsTrimAsciiEnd (take place line) bare
  pub after : IsTrimAscii (drop (place + 2) line) answer
