-- Predicates on what the reader's fast path returns for a line: the value of its next field (`IsNext`), the values of all
-- its fields (`ReadsFields`), also where a buffer entry may follow (`ReadsVia`), a last field that is a buffer entry or none
-- (`EndsWith`), and what a word and the fields after it make (`SaysItem`).
use Rattle.std.specs.Prelude.{◌≡◌, ℕ, false, List, [], ◌∷◌, Option, None, Some, Result, Ok}
use Rattle.script_language.specs.Fields.{Row, command_table, row_among, value_of, values_of}
use Rattle.script_language.specs.Lines.{fields_of}
use Rattle.script_language.specs.Script.{Draft, comes_first, item_of}
use Rattle.script_language.specs.declared.script.Cause.{Cause}
use Rattle.script_language.specs.declared.script.FieldKind.{FieldKind}
use Rattle.script_language.specs.declared.script.FieldKind.TheVariants as kind
use Rattle.script_language.specs.declared.script.FieldValue.{FieldValue}
use Rattle.script_language.specs.declared.script.FieldValue.TheVariants as value
use Rattle.script_language.specs.declared.script.Item.{Item}

-- the first field of the line, read as this kind, has value v, and its other fields are those of `rest`
pub record IsNext (line rest : List ℕ) (k : FieldKind) (v : FieldValue) : Type 0 where
  pub field : List ℕ
  pub fields : fields_of line ≡ field ∷ fields_of rest
  pub value : value_of k field ≡ Ok v

-- the line has as many fields as there are kinds, and these values, each read by its kind
abbrev pub ReadsFields : List ℕ → List FieldKind → List FieldValue → Type 0
ReadsFields line [] [] = fields_of line ≡ []
ReadsFields line (k ∷ ks) (v ∷ vs) = (rest : List ℕ) × IsNext line rest k v × ReadsFields rest ks vs
ReadsFields line ks vs = ⊥

-- the word `text` with the fields of `line` after it makes this item or has this fault, whatever the lines before declare; it
-- is no word that precedes the steps
pub record SaysItem (text line : List ℕ) (made : Result Item Cause) : Type 0 where
  pub row : Row
  pub found : row_among command_table text ≡ Some row
  pub values : List FieldValue
  pub said : values_of row (fields_of line) ≡ Ok values
  pub item : (s : Draft) → item_of s row.word values ≡ made
  pub later : comes_first row.word ≡ false

-- the line has no field (`None`), or exactly one, which names buffer entry n (`Some n`)
abbrev pub EndsWith : List ℕ → Option ℕ → Type 0
EndsWith line None = fields_of line ≡ []
EndsWith line (Some n) = ReadsFields line (kind.Entry ∷ []) (value.Optional (Some n) ∷ [])

-- the same, and the last field of the line is the buffer entry `via`, or there is no other field
abbrev pub ReadsThen : List ℕ → List FieldKind → List FieldValue → Option ℕ → Type 0
ReadsThen line [] [] via = EndsWith line via
ReadsThen line (k ∷ ks) (v ∷ vs) via = (rest : List ℕ) × IsNext line rest k v × ReadsThen rest ks vs via
ReadsThen line ks vs via = ⊥

pub record Reads (line : List ℕ) (ks : List FieldKind) (vs : List FieldValue) : Type 0 where
  pub reads : ReadsFields line ks vs

-- the line has the fields of these kinds with these values, and then the buffer entry `via`, or no other field
pub record ReadsVia (line : List ℕ) (ks : List FieldKind) (vs : List FieldValue) (via : Option ℕ) : Type 0 where
  pub reads : ReadsThen line ks vs via
