-- Lemmas: what is wrong with a line that is refused for a cause.
use Rattle.std.proofs.Common.{◌≡◌, ℕ, Bool, true, false, List, ◌∷◌, Some, Result, Ok, Err, refl, sym, ap, subst, ◌∙◌, inl, inr}
use Rattle.std.specs.Prelude.{◌⊎◌, IfErr}
use Rattle.script_language.specs.Fields.{Row, command_table, row_among, values_of}
use Rattle.script_language.specs.Lines.{fields_of}
use Rattle.script_language.specs.ReadLines.{◌>>=◌, test, in_limits}
use Rattle.script_language.specs.Script.{Draft, in_order, item_of, has_room}
use Rattle.script_language.specs.declared.script.Cause.{Cause}
use Rattle.script_language.specs.declared.script.Cause.TheVariants as cause
use Rattle.script_language.specs.declared.script.FieldValue.{FieldValue}
use Rattle.script_language.specs.declared.script.Item.{Item}
use Rattle.script_language.specs.declared.script.Keyword.{Keyword}
use Rattle.script_language.specs.declared.script.Keyword.TheVariants as word
use Rattle.fault_texts.specs.Refused.{after_word}
use Rattle.fault_texts.proofs.Causes.{OfFields, fields_cause}

-- one step after the other: the first is refused, or the second
pub bind_err : {A B : Type 0} (r : Result A Cause) (f : A → Result B Cause) (c : Cause) → (r >>= f) ≡ Err c → (r ≡ Err c) ⊎ ((x : A) × (r ≡ Ok x) × (f x ≡ Err c))
bind_err (Ok x) f c e = inr (x, refl, e)
bind_err (Err d) f c e = let same : d ≡ c = cc in inl (ap Err same)

-- a test
pub test_err : (b : Bool) (t c : Cause) → test b t ≡ Err c → (b ≡ false) × (t ≡ c)
test_err true t c e = absurd cc
test_err false t c e = let same : t ≡ c = cc in (refl, same)

-- the causes of an item
abbrev pub OfItem : Cause → Type 0
OfItem cause.Limits = Unit {0}
OfItem cause.Word = Unit {0}
OfItem _ = ⊥

limited : (b : Bool) (x : Item) → IfErr (in_limits b x) OfItem
limited true x = tt
limited false x = tt

item_causes : (d : Draft) (w : Keyword) (vs : List FieldValue) → IfErr (item_of d w vs) OfItem
item_causes d word.File vs = limited _ _
item_causes d word.Image vs = tt
item_causes d word.Elf vs = tt
item_causes d word.Boot vs = limited _ _
item_causes d word.Start vs = limited _ _
item_causes d word.Switch vs = tt
item_causes d word.Trap vs = tt
item_causes d word.Next vs = tt
item_causes d word.Fill vs = tt
item_causes d word.Evict vs = tt
item_causes d word.Fetch vs = tt
item_causes d word.Load vs = limited _ _
item_causes d word.Store vs = limited _ _
item_causes d word.Tramp vs = tt
item_causes d word.Serve vs = tt
item_causes d word.Fork vs = tt
item_causes d word.Exec vs = limited _ _
item_causes d word.Sbrk vs = tt
item_causes d word.Mmap vs = tt
item_causes d word.Munmap vs = tt
item_causes d word.CopyIn vs = limited _ _
item_causes d word.CopyOut vs = limited _ _
item_causes d word.Exit vs = limited _ _
item_causes d word.Show vs = limited _ _
item_causes d word.Audit vs = tt
item_causes d word.On vs = tt
item_causes d word.Enter vs = tt
item_causes d word.Leave vs = tt
item_causes d word.Fix vs = tt
item_causes d word.Pool vs = tt
item_causes d word.List vs = tt

item_cause : (d : Draft) (w : Keyword) (vs : List FieldValue) (c : Cause) → item_of d w vs ≡ Err c → OfItem c
item_cause d w vs c e = let P : Result Item Cause → Type 0 = λ x. IfErr x OfItem in subst P e (item_causes d w vs)

-- what is wrong after the word was found
pub data Wrong (d : Draft) (r : Row) (fields : List (List ℕ)) (c : Cause) : Type 0 where
  order : in_order d r.word ≡ false → cause.Order ≡ c → Wrong d r fields c
  field : values_of r fields ≡ Err c → OfFields c → Wrong d r fields c
  limits : (vs : List FieldValue) → values_of r fields ≡ Ok vs → item_of d r.word vs ≡ Err c → OfItem c → Wrong d r fields c
  room : (vs : List FieldValue) (i : Item) → values_of r fields ≡ Ok vs → item_of d r.word vs ≡ Ok i → has_room d i ≡ false → cause.TooMany ≡ c → Wrong d r fields c

wrong_room : (d : Draft) (r : Row) (fields : List (List ℕ)) (c : Cause) (vs : List FieldValue) (i : Item) → values_of r fields ≡ Ok vs → item_of d r.word vs ≡ Ok i → (test (has_room d i) cause.TooMany >>= (λ u. Ok i)) ≡ Err c → Wrong d r fields c
wrong_room d r fields c vs i read made e =
    elim (bind_err (test (has_room d i) cause.TooMany) (λ u. Ok i) c e) [
      | inl full ↦ let x = test_err (has_room d i) cause.TooMany c full in room vs i read made x.0 x.1
      | inr fits ↦ absurd (let none = fits.2 in cc)
    ]

wrong_item : (d : Draft) (r : Row) (fields : List (List ℕ)) (c : Cause) (vs : List FieldValue) → values_of r fields ≡ Ok vs → (item_of d r.word vs >>= (λ i. test (has_room d i) cause.TooMany >>= (λ u. Ok i))) ≡ Err c → Wrong d r fields c
wrong_item d r fields c vs read e =
    elim (bind_err (item_of d r.word vs) (λ i. test (has_room d i) cause.TooMany >>= (λ u. Ok i)) c e) [
      | inl refused ↦ limits vs read refused (item_cause d r.word vs c refused)
      | inr made ↦ wrong_room d r fields c vs made.0 read made.1 made.2
    ]

wrong_fields : (d : Draft) (r : Row) (fields : List (List ℕ)) (c : Cause) → (values_of r fields >>= (λ vs. item_of d r.word vs >>= (λ i. test (has_room d i) cause.TooMany >>= (λ u. Ok i)))) ≡ Err c → Wrong d r fields c
wrong_fields d r fields c e =
    elim (bind_err (values_of r fields) (λ vs. item_of d r.word vs >>= (λ i. test (has_room d i) cause.TooMany >>= (λ u. Ok i))) c e) [
      | inl refused ↦ field refused (fields_cause r fields c refused)
      | inr read ↦ wrong_item d r fields c read.0 read.1 read.2
    ]

pub what_is_wrong : (d : Draft) (r : Row) (fields : List (List ℕ)) (c : Cause) → after_word d r fields ≡ Err c → Wrong d r fields c
what_is_wrong d r fields c e =
    elim (bind_err (test (in_order d r.word) cause.Order) (λ o. values_of r fields >>= (λ vs. item_of d r.word vs >>= (λ i. test (has_room d i) cause.TooMany >>= (λ u. Ok i)))) c e) [
      | inl out ↦ let x = test_err (in_order d r.word) cause.Order c out in order x.0 x.1
      | inr ordered ↦ wrong_fields d r fields c ordered.2
    ]

-- by cause

pub wrong_order : (d : Draft) (r : Row) (fields : List (List ℕ)) → Wrong d r fields cause.Order → in_order d r.word ≡ false
wrong_order d r fields (order e c) = e
wrong_order d r fields (field e c) = absurd c
wrong_order d r fields (limits vs e f c) = absurd c
wrong_order d r fields (room vs i e f g c) = absurd cc

pub wrong_count : (d : Draft) (r : Row) (fields : List (List ℕ)) → Wrong d r fields cause.Count → values_of r fields ≡ Err cause.Count
wrong_count d r fields (order e c) = absurd cc
wrong_count d r fields (field e c) = e
wrong_count d r fields (limits vs e f c) = absurd c
wrong_count d r fields (room vs i e f g c) = absurd cc

pub wrong_number : (d : Draft) (r : Row) (fields : List (List ℕ)) → Wrong d r fields cause.Number → values_of r fields ≡ Err cause.Number
wrong_number d r fields (order e c) = absurd cc
wrong_number d r fields (field e c) = e
wrong_number d r fields (limits vs e f c) = absurd c
wrong_number d r fields (room vs i e f g c) = absurd cc

pub wrong_field : (d : Draft) (r : Row) (fields : List (List ℕ)) → Wrong d r fields cause.Field → values_of r fields ≡ Err cause.Field
wrong_field d r fields (order e c) = absurd cc
wrong_field d r fields (field e c) = e
wrong_field d r fields (limits vs e f c) = absurd c
wrong_field d r fields (room vs i e f g c) = absurd cc

pub wrong_limits : (d : Draft) (r : Row) (fields : List (List ℕ)) → Wrong d r fields cause.Limits → (vs : List FieldValue) × (values_of r fields ≡ Ok vs) × (item_of d r.word vs ≡ Err cause.Limits)
wrong_limits d r fields (order e c) = absurd cc
wrong_limits d r fields (field e c) = absurd c
wrong_limits d r fields (limits vs e f c) = (vs, e, f)
wrong_limits d r fields (room vs i e f g c) = absurd cc

pub no_room : (d : Draft) (r : Row) (fields : List (List ℕ)) → Wrong d r fields cause.TooMany → (vs : List FieldValue) × (i : Item) × (item_of d r.word vs ≡ Ok i) × (has_room d i ≡ false)
no_room d r fields (order e c) = absurd cc
no_room d r fields (field e c) = absurd c
no_room d r fields (limits vs e f c) = absurd c
no_room d r fields (room vs i e f g c) = (vs, i, f, g)

-- the same of the word and the fields that were found in the line
pub found_wrong : (d : Draft) (line text word : List ℕ) (fields rest : List (List ℕ)) (r found : Row) (c k : Cause) → fields_of line ≡ text ∷ fields → fields_of line ≡ word ∷ rest → row_among command_table text ≡ Some r
    → Some found ≡ row_among command_table word → after_word d r fields ≡ Err c → c ≡ k → Wrong d found rest k
found_wrong d line text word fields rest r found c k e f named was refused is =
    let texts : text ≡ word = cc in
    let others : fields ≡ rest = cc in
    let rows : Some r ≡ Some found = sym named ∙ ap (row_among command_table) texts ∙ sym was in
    let row : r ≡ found = cc in
    what_is_wrong d found rest k (sym (ap (λ (x : Row). after_word d x rest) row) ∙ sym (ap (after_word d r) others) ∙ refused ∙ ap Err is)
