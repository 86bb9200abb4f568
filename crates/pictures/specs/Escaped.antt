-- A text within HTML: `escaped`; JSON within an element `script`: `script_escaped`.
use Rattle.std.specs.Prelude.{ℕ, List, [], ◌∷◌, ◌++◌, ◌==◌, codes, if◌then◌else◌, flat_map}
use Rattle.std.specs.Char.{encode_utf8}
use Rattle.std.specs.Str.{chars}

-- a character, as HTML reads it within a text or an attribute: & < > and " have names
abbrev pub escape : ℕ → List ℕ
escape c = if c == 38 then codes "&amp;" else if c == 60 then codes "&lt;" else if c == 62 then codes "&gt;" else if c == 34
    then codes "&quot;" else encode_utf8 c

-- a text, character by character
abbrev pub escaped : List ℕ → List ℕ
escaped text = flat_map escape (chars text)

-- a character of JSON within a script: < has its number, so that no text ends the script
abbrev pub script_escape : ℕ → List ℕ
script_escape c = if c == 60 then codes "\\u003c" else encode_utf8 c

-- JSON, character by character
abbrev pub script_escaped : List ℕ → List ℕ
script_escaped text = flat_map script_escape (chars text)
