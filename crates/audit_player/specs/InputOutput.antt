-- Relations on a reader's and a writer's known bytes: what was read of them is all, or a prefix that is too long for a
-- script (`IsInput`, `HasReadAll`); a prefix of a text was written (`WroteSome`; `WroteUpTo` names the rest).
use Rattle.std.specs.Prelude.{◌≡◌, ℕ, ◌<◌, ◌⊎◌, List, ◌++◌, length, Option, None, Some}
use Rattle.std.specs.Io.KnownBytes.{Appends}
use Rattle.script_language.specs.declared.limits.TheConstants.{LONGEST_SCRIPT}
use Rattle.script_reader.specs.Reading.{HasRead, PieceReader}

-- all of the known bytes, or a prefix of them that is longer than the limit; if they are not known, any bytes
abbrev pub IsInput : ℕ → Option (List ℕ) → List ℕ → Type 0
IsInput limit None bytes = Unit {0}
IsInput limit (Some xs) bytes = (bytes ≡ xs) ⊎ ((limit < length bytes) × ((rest : List ℕ) × (xs ≡ bytes ++ rest)))

-- the piece reader has read such bytes of a script
abbrev pub HasReadAll : Option (List ℕ) → PieceReader → Type 0
HasReadAll remaining r = (bytes : List ℕ) × IsInput LONGEST_SCRIPT remaining bytes × HasRead bytes r

-- a prefix of a text was written, and `rest` is left of it
abbrev pub WroteUpTo : Option (List ℕ) → Option (List ℕ) → List ℕ → List ℕ → Type 0
WroteUpTo old new text rest = (front : List ℕ) × (front ++ rest ≡ text) × Appends old new front

-- a prefix of a text was written: nothing, a part, or all of it
abbrev pub WroteSome : Option (List ℕ) → Option (List ℕ) → List ℕ → Type 0
WroteSome old new text = (rest : List ℕ) × WroteUpTo old new text rest
