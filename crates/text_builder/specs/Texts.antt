-- Texts that are put together: their bytes (`text_bytes`), whether none is lacking (`IsWhole`), and what appending is (`Appends`).
use Rattle.std.specs.Prelude.{◌≡◌, ◌++◌, ℕ, List, true}
use Rattle.std.specs.String.{string_bytes}
use Rattle.text_builder.specs.declared.text.Text.{Text}

-- the bytes that a text has
abbrev pub text_bytes : Text → List ℕ
text_bytes t = string_bytes t.text

-- the host had memory for each part of a text
abbrev pub IsWhole : Text → Type 0
IsWhole t = t.is_whole ≡ true

-- a text of which no byte is lacking now lacked none before, and has these bytes more
abbrev pub Appends : Text → Text → List ℕ → Type 0
Appends old new bytes = IsWhole new → IsWhole old × (text_bytes new ≡ text_bytes old ++ bytes)
