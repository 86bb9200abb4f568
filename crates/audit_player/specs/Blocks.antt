-- Relations for text that is collected on a block and written to a sink (writer) when full: a call appends a piece
-- (`AppendsPiece`), or nothing (`WritesFull`); sink and block have the text so far or, after a failed write, the sink has a
-- prefix.
use Rattle.std.specs.Prelude.{ℕ, List, ◌++◌, Bool, true, false, Option}
use Rattle.audit_player.specs.InputOutput.{WroteUpTo, WroteSome}

-- A sink's bytes and a block, before and after a call that appends a piece, for any text of which the sink had all but what
-- was on the block. If the call returned true, the sink has all of the text and the piece but what is on the block; if
-- false, a prefix of these.
abbrev pub AppendsPiece : Bool → Option (List ℕ) → Option (List ℕ) → List ℕ → List ℕ → List ℕ → Type 0
AppendsPiece true old new block after piece = (start : Option (List ℕ)) (text : List ℕ) → WroteUpTo start old text block
    → WroteUpTo start new (text ++ piece) after
AppendsPiece false old new block after piece = (start : Option (List ℕ)) (text : List ℕ) → WroteUpTo start old text block → WroteSome start new (text ++ piece)

-- `AppendsPiece` for a call that appends nothing
abbrev pub WritesFull : Bool → Option (List ℕ) → Option (List ℕ) → List ℕ → List ℕ → Type 0
WritesFull true old new block after = (start : Option (List ℕ)) (text : List ℕ) → WroteUpTo start old text block → WroteUpTo start new text after
WritesFull false old new block after = (start : Option (List ℕ)) (text : List ℕ) → WroteUpTo start old text block → WroteSome start new text
