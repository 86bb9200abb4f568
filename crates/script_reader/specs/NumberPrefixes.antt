-- Predicates on a text that begins with a number: its digits, their value and what follows them (`IsNumberPrefix`); and,
-- besides, that there is a digit, the field ends after the last one, and the number is below 2^64 (`IsEndedPrefix`).
use Rattle.std.specs.Prelude.{◌≡◌, ◌<◌, ◌^◌, ℕ, ◌++◌, List, Some, length, true}
use Rattle.script_language.specs.Lines.{ends_field}
use Rattle.script_language.specs.Numbers.{digits_from}

-- the text is digits of the number n, maybe none (then n is 0), and then `rest`
pub record IsNumberPrefix (base : ℕ) (text rest : List ℕ) (n : ℕ) : Type 0 where
  pub digits : List ℕ
  pub whole : text ≡ digits ++ rest
  pub says : digits_from base (Some 0) digits ≡ Some n

-- there is at least one digit, the field ends after the digits, and their number is below 2^64
pub record IsEndedPrefix (base : ℕ) (text rest : List ℕ) (n : ℕ) : Type 0 where
  pub front : IsNumberPrefix base text rest n
  pub some : length rest < length text
  pub ends : ends_field rest ≡ true
  pub small : n < 2 ^ 64
