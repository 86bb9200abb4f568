-- Lemmas on the item of a line: it does not depend on the commands before it (`line_kept`), and it is a command exactly if its word
-- does not come before the steps (`line_order`).
use Rattle.std.proofs.Common.{◌≡◌, refl, sym, ap, ◌∙◌, ℕ, List, [], ◌∷◌, Bool, true, false, not, Option, None, Some, Result, Ok, Err, cond}
use Rattle.std.specs.Prelude.{if◌then◌else◌, is_some, length, nat_le}
use Rattle.std.specs.Result.{result_ok}
use Rattle.std.proofs.lemmas.Option.{same_Some}
use Rattle.script_language.specs.Fields.{Row, command_table, row_among, values_of}
use Rattle.script_language.specs.Lines.{fields_of}
use Rattle.script_language.specs.ReadLines.{◌>>=◌, row_named, test, in_limits, item_by, is_comment, is_ascii, some_item, fields_by, line_by}
use Rattle.script_language.specs.Script.{Draft, comes_first, has_room, in_order, item_line, item_of, line_of}
use Rattle.script_language.specs.declared.script.Cause.{Cause}
use Rattle.script_language.specs.declared.script.Cause.TheVariants as cause
use Rattle.script_language.specs.declared.script.FieldValue.{FieldValue}
use Rattle.script_language.specs.declared.script.Item.{Item}
use Rattle.script_language.specs.declared.script.Item.TheVariants as item
use Rattle.script_language.specs.declared.script.Keyword.{Keyword}
use Rattle.script_language.specs.declared.script.Keyword.TheVariants as word
use Rattle.script_language.specs.declared.limits.TheConstants.{LONGEST_LINE}

-- what was declared, without the commands
abbrev pub bare : Draft → Draft
bare d = record d { commands = [] }

-- steps that may fail

bound : {A B : Type 0} (x : Result A Cause) (f : A → Result B Cause) (b : B) → (x >>= f) ≡ Ok b → (a : A) × (x ≡ Ok a) × (f a ≡ Ok b)
bound (Ok a) f b is = (a, refl, is)
bound (Err e) f b is = absurd cc

tested : (b : Bool) (c : Cause) (u : Unit {0}) → test b c ≡ Ok u → b ≡ true
tested true c u is = refl
tested false c u is = absurd cc

pub same_ok : {A E : Type 0} (x y : A) → ◌≡◌ {A = Result A E} (Ok x) (Ok y) → x ≡ y
same_ok x y is = same_Some x y (ap result_ok is)

limited : {A : Type 0} (b : Bool) (x y : A) → in_limits b x ≡ Ok y → y ≡ x
limited true x y is = sym (same_ok x y is)
limited false x y is = absurd cc

same_item : (d : Draft) (w : Keyword) (vs : List FieldValue) → item_of (bare d) w vs ≡ item_of d w vs
same_item d w vs = elim w as (λ k. item_of (bare d) k vs ≡ item_of d k vs) [
  | word.File ↦ refl
  | word.Image ↦ refl
  | word.Elf ↦ refl
  | word.Boot ↦ refl
  | word.Start ↦ refl
  | word.Switch ↦ refl
  | word.Trap ↦ refl
  | word.Next ↦ refl
  | word.Fill ↦ refl
  | word.Evict ↦ refl
  | word.Fetch ↦ refl
  | word.Load ↦ refl
  | word.Store ↦ refl
  | word.Tramp ↦ refl
  | word.Serve ↦ refl
  | word.Fork ↦ refl
  | word.Exec ↦ refl
  | word.Sbrk ↦ refl
  | word.Mmap ↦ refl
  | word.Munmap ↦ refl
  | word.CopyIn ↦ refl
  | word.CopyOut ↦ refl
  | word.Exit ↦ refl
  | word.Show ↦ refl
  | word.Audit ↦ refl
  | word.On ↦ refl
  | word.Enter ↦ refl
  | word.Leave ↦ refl
  | word.Fix ↦ refl
  | word.Pool ↦ refl
  | word.List ↦ refl
]

room : (d : Draft) (i : Item) → has_room d i ≡ true → has_room (bare d) i ≡ true
room d (item.File f) has = has
room d (item.Image i) has = has
room d (item.Boot c) has = refl
room d (item.Command c) has = refl

abbrev pub is_command : Item → Bool
is_command (item.Command c) = true
is_command _ = false

-- a faultless line: its word may stand there, and this is its item
record IsItem (d : Draft) (text : List ℕ) (fields : List (List ℕ)) (i : Item) : Type 0 where
  row : Row
  values : List FieldValue
  named : row_named (row_among command_table text) ≡ Ok row
  ordered : in_order d row.word ≡ true
  read : values_of row fields ≡ Ok values
  made : item_of d row.word values ≡ Ok i
  roomy : has_room d i ≡ true

item_is : (d : Draft) (text : List ℕ) (fields : List (List ℕ)) (i : Item) → item_line d text fields ≡ Ok i → IsItem d text fields i
unfolding item_line
item_is d text fields i is =
    let r = bound (row_named (row_among command_table text)) _ i is in
    let o = bound (test (in_order d r.0.word) cause.Order) _ i r.2 in
    let v = bound (values_of r.0 fields) _ i o.2 in
    let m = bound (item_of d r.0.word v.0) _ i v.2 in
    let t = bound (test (has_room d m.0) cause.TooMany) _ i m.2 in
    let same : m.0 ≡ i = same_ok m.0 i t.2 in
    record {
      row = r.0;
      values = v.0;
      named = r.1;
      ordered = tested _ _ _ o.1;
      read = v.1;
      made = m.1 ∙ ap (λ (x : Item). Ok x) same;
      roomy = ap (has_room d) (sym same) ∙ tested _ _ _ t.1;
    }

item_kept : (d : Draft) (text : List ℕ) (fields : List (List ℕ)) (i : Item) → item_line d text fields ≡ Ok i → item_line (bare d) text fields ≡ Ok i
unfolding item_line
item_kept d text fields i is =
    let x = item_is d text fields i is in
    rw x.named (rw x.ordered (rw x.read (rw (same_item d x.row.word x.values) (rw x.made (rw (room d i x.roomy) refl)))))

-- whether an item is a command goes by its word

command_of : (w : Keyword) (d : Draft) (vs : List FieldValue) (i : Item) → item_of d w vs ≡ Ok i → is_command i ≡ not (comes_first w)
command_of w d vs i = elim w as (λ k. item_of d k vs ≡ Ok i → is_command i ≡ not (comes_first k)) [
  | word.File ↦ λ is. ap is_command (limited _ _ i is)
  | word.Image ↦ λ is. ap is_command (sym (same_ok _ i is))
  | word.Elf ↦ λ is. ap is_command (sym (same_ok _ i is))
  | word.Boot ↦ λ is. ap is_command (limited _ _ i is)
  | word.Start ↦ λ is. ap is_command (limited _ _ i is)
  | word.Switch ↦ λ is. ap is_command (sym (same_ok _ i is))
  | word.Trap ↦ λ is. ap is_command (sym (same_ok _ i is))
  | word.Next ↦ λ is. ap is_command (sym (same_ok _ i is))
  | word.Fill ↦ λ is. ap is_command (sym (same_ok _ i is))
  | word.Evict ↦ λ is. ap is_command (sym (same_ok _ i is))
  | word.Fetch ↦ λ is. ap is_command (sym (same_ok _ i is))
  | word.Load ↦ λ is. ap is_command (limited _ _ i is)
  | word.Store ↦ λ is. ap is_command (limited _ _ i is)
  | word.Tramp ↦ λ is. ap is_command (sym (same_ok _ i is))
  | word.Serve ↦ λ is. ap is_command (sym (same_ok _ i is))
  | word.Fork ↦ λ is. ap is_command (sym (same_ok _ i is))
  | word.Exec ↦ λ is. ap is_command (limited _ _ i is)
  | word.Sbrk ↦ λ is. ap is_command (sym (same_ok _ i is))
  | word.Mmap ↦ λ is. ap is_command (sym (same_ok _ i is))
  | word.Munmap ↦ λ is. ap is_command (sym (same_ok _ i is))
  | word.CopyIn ↦ λ is. ap is_command (limited _ _ i is)
  | word.CopyOut ↦ λ is. ap is_command (limited _ _ i is)
  | word.Exit ↦ λ is. ap is_command (limited _ _ i is)
  | word.Show ↦ λ is. ap is_command (limited _ _ i is)
  | word.Audit ↦ λ is. ap is_command (sym (same_ok _ i is))
  | word.On ↦ λ is. ap is_command (sym (same_ok _ i is))
  | word.Enter ↦ λ is. ap is_command (sym (same_ok _ i is))
  | word.Leave ↦ λ is. ap is_command (sym (same_ok _ i is))
  | word.Fix ↦ λ is. ap is_command (sym (same_ok _ i is))
  | word.Pool ↦ λ is. absurd cc
  | word.List ↦ λ is. absurd cc
]

-- after `boot` each line is a command, before it none
order_of : (booted first command : Bool) → (if booted then not first else first) ≡ true → command ≡ not first → command ≡ booted
order_of true first command ordered is = is ∙ ordered
order_of false true command ordered is = is
order_of false false command ordered is = absurd cc

item_order : (d : Draft) (text : List ℕ) (fields : List (List ℕ)) (i : Item) → item_line d text fields ≡ Ok i → is_command i ≡ is_some d.config
item_order d text fields i is =
    let x = item_is d text fields i is in
    order_of (is_some d.config) (comes_first x.row.word) (is_command i) x.ordered (command_of x.row.word d x.values i x.made)

-- the item of a line

some_of : (x : Result Item Cause) (o : Option Item) → some_item x ≡ Ok o → (i : Item) × (x ≡ Ok i) × (o ≡ Some i)
some_of (Ok i) o is = (i, refl, sym (same_ok _ o is))
some_of (Err c) o is = absurd cc

fields_kept : (d : Draft) (fields : List (List ℕ)) (o : Option Item) → fields_by (item_line d) fields ≡ Ok o → fields_by (item_line (bare d)) fields ≡ Ok o
fields_kept d [] o is = is
fields_kept d (text ∷ fields) o is = go (is_comment text) is
  where
    go : (b : Bool) → (if b then Ok None else some_item (item_line d text fields)) ≡ Ok o → (if b then Ok None else some_item (item_line (bare d) text fields)) ≡ Ok o
    go true none = none
    go false some =
        let i = some_of (item_line d text fields) o some in
        ap some_item (item_kept d text fields i.0 i.1) ∙ ap (λ (x : Option Item). Ok x) (sym i.2)

fields_order : (d : Draft) (fields : List (List ℕ)) (i : Item) → fields_by (item_line d) fields ≡ Ok (Some i) → is_command i ≡ is_some d.config
fields_order d [] i is = absurd cc
fields_order d (text ∷ fields) i is = go (is_comment text) is
  where
    go : (b : Bool) → (if b then Ok None else some_item (item_line d text fields)) ≡ Ok (Some i) → is_command i ≡ is_some d.config
    go true none = absurd cc
    go false some =
        let x = some_of (item_line d text fields) (Some i) some in
        let same : i ≡ x.0 = same_Some _ _ x.2 in
        ap is_command same ∙ item_order d text fields x.0 x.1

pub line_kept : (d : Draft) (line : List ℕ) (o : Option Item) → line_of d line ≡ Ok o → line_of (bare d) line ≡ Ok o
unfolding line_of
line_kept d line o is =
    let short = bound (test (nat_le (length line) LONGEST_LINE) cause.TooLong) _ o is in
    let ascii = bound (test (is_ascii line) cause.NotAscii) _ o short.2 in
    rw short.1 (rw ascii.1 (fields_kept d (fields_of line) o ascii.2))

pub line_order : (d : Draft) (line : List ℕ) (i : Item) → line_of d line ≡ Ok (Some i) → is_command i ≡ is_some d.config
unfolding line_of
line_order d line i is =
    let short = bound (test (nat_le (length line) LONGEST_LINE) cause.TooLong) _ (Some i) is in
    let ascii = bound (test (is_ascii line) cause.NotAscii) _ (Some i) short.2 in
    fields_order d (fields_of line) i ascii.2
