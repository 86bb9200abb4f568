-- Lemmas: what is wrong with a refused line as a whole, or after its word.
use Rattle.std.proofs.Common.{◌≡◌, ◌≢◌, ℕ, Bool, true, false, List, [], ◌∷◌, length, Option, Some, None, Result, Ok, Err, refl, sym, ap, ◌∙◌, inl, inr}
use Rattle.std.specs.Prelude.{nat_le, if◌then◌else◌}
use Rattle.std.specs.List.{list_all}
use Rattle.script_language.specs.Fields.{Row, command_table, row_among}
use Rattle.script_language.specs.Lines.{fields_of}
use Rattle.script_language.specs.ReadLines.{◌>>=◌, test, row_named, in_limits, is_ascii, is_comment, some_item, fields_by}
use Rattle.script_language.specs.Script.{Draft, item_of, item_line, line_of}
use Rattle.script_language.specs.declared.script.Cause.{Cause}
use Rattle.script_language.specs.declared.script.Cause.TheVariants as cause
use Rattle.script_language.specs.declared.script.FieldValue.{FieldValue}
use Rattle.script_language.specs.declared.script.Item.{Item}
use Rattle.script_language.specs.declared.script.Keyword.{Keyword}
use Rattle.script_language.specs.declared.script.Keyword.TheVariants as word
use Rattle.fault_texts.specs.Causes.{AfterWord}
use Rattle.fault_texts.specs.Refused.{after_word}
use Rattle.fault_texts.proofs.Refusals.{Wrong, order, field, limits, room, bind_err, test_err, what_is_wrong}
use Rattle.fault_texts.proofs.Rows.{found_passes}
use Rattle.script_language.specs.declared.limits.TheConstants.{LONGEST_LINE}

pub data WrongLine (d : Draft) (line : List ℕ) (c : Cause) : Type 0 where
  long : nat_le (length line) LONGEST_LINE ≡ false → cause.TooLong ≡ c → WrongLine d line c
  foreign : is_ascii line ≡ false → cause.NotAscii ≡ c → WrongLine d line c
  unknown : (text : List ℕ) (fields : List (List ℕ)) → fields_of line ≡ text ∷ fields → row_among command_table text ≡ None → cause.Word ≡ c → WrongLine d line c
  known : (text : List ℕ) (fields : List (List ℕ)) (r : Row) → fields_of line ≡ text ∷ fields → row_among command_table text ≡ Some r → after_word d r fields ≡ Err c → WrongLine d line c

named_err : (found : Option Row) (c : Cause) → row_named found ≡ Err c → (found ≡ None) × (cause.Word ≡ c)
named_err None c e = let same : cause.Word ≡ c = cc in (refl, same)
named_err (Some r) c e = absurd cc

named_ok : (found : Option Row) (r : Row) → row_named found ≡ Ok r → found ≡ Some r
named_ok None r e = absurd cc
named_ok (Some x) r e = let same : x ≡ r = cc in ap Some same

item_wrong : (d : Draft) (line text : List ℕ) (fields : List (List ℕ)) (c : Cause) → fields_of line ≡ text ∷ fields → item_line d text fields ≡ Err c → WrongLine d line c
unfolding item_line
item_wrong d line text fields c split e =
    elim (bind_err (row_named (row_among command_table text)) (λ r. after_word d r fields) c e) [
      | inl none ↦ let x = named_err (row_among command_table text) c none in unknown text fields split x.0 x.1
      | inr found ↦ known text fields found.0 split (named_ok (row_among command_table text) found.0 found.1) found.2
    ]

some_err : (r : Result Item Cause) (c : Cause) → some_item r ≡ Err c → r ≡ Err c
some_err (Ok i) c e = absurd cc
some_err (Err k) c e = let same : k ≡ c = cc in ap Err same

fields_wrong : (d : Draft) (line : List ℕ) (fields : List (List ℕ)) (c : Cause) → fields_of line ≡ fields → fields_by (item_line d) fields ≡ Err c → WrongLine d line c
fields_wrong d line [] c split e = absurd cc
fields_wrong d line (text ∷ fields) c split e = comment_or (is_comment text) e
  where
    comment_or : (b : Bool) → (if b then Ok None else some_item (item_line d text fields)) ≡ Err c → WrongLine d line c
    comment_or true e = absurd cc
    comment_or false e = item_wrong d line text fields c split (some_err (item_line d text fields) c e)

pub line_wrong : (d : Draft) (line : List ℕ) (c : Cause) → line_of d line ≡ Err c → WrongLine d line c
unfolding line_of
line_wrong d line c e =
    elim (bind_err (test (nat_le (length line) LONGEST_LINE) cause.TooLong) (λ u. test (is_ascii line) cause.NotAscii >>= (λ v. fields_by (item_line d) (fields_of line))) c e) [
      | inl out ↦ let x = test_err (nat_le (length line) LONGEST_LINE) cause.TooLong c out in long x.0 x.1
      | inr short ↦ elim (bind_err (test (is_ascii line) cause.NotAscii) (λ v. fields_by (item_line d) (fields_of line)) c short.2) [
        | inl out ↦ let x = test_err (is_ascii line) cause.NotAscii c out in foreign x.0 x.1
        | inr ascii ↦ fields_wrong d line (fields_of line) c refl ascii.2
      ]
    ]

-- no row is one of `pool` or `list`

abbrev is_of_scripts : Keyword → Bool
is_of_scripts word.Pool = false
is_of_scripts word.List = false
is_of_scripts _ = true

all_of_scripts : list_all (λ (r : Row). is_of_scripts r.word) command_table ≡ true
all_of_scripts = refl

not_word : (b : Bool) (x : Item) → in_limits b x ≡ Err cause.Word → ⊥
not_word true x e = cc
not_word false x e = cc

word_of_threads : (d : Draft) (w : Keyword) (vs : List FieldValue) → item_of d w vs ≡ Err cause.Word → is_of_scripts w ≡ false
word_of_threads d word.Pool vs e = refl
word_of_threads d word.List vs e = refl
word_of_threads d word.File vs e = absurd (not_word _ _ e)
word_of_threads d word.Boot vs e = absurd (not_word _ _ e)
word_of_threads d word.Start vs e = absurd (not_word _ _ e)
word_of_threads d word.Load vs e = absurd (not_word _ _ e)
word_of_threads d word.Store vs e = absurd (not_word _ _ e)
word_of_threads d word.Exec vs e = absurd (not_word _ _ e)
word_of_threads d word.CopyIn vs e = absurd (not_word _ _ e)
word_of_threads d word.CopyOut vs e = absurd (not_word _ _ e)
word_of_threads d word.Exit vs e = absurd (not_word _ _ e)
word_of_threads d word.Show vs e = absurd (not_word _ _ e)
word_of_threads d word.Image vs e = absurd cc
word_of_threads d word.Elf vs e = absurd cc
word_of_threads d word.Switch vs e = absurd cc
word_of_threads d word.Trap vs e = absurd cc
word_of_threads d word.Next vs e = absurd cc
word_of_threads d word.Fill vs e = absurd cc
word_of_threads d word.Evict vs e = absurd cc
word_of_threads d word.Fetch vs e = absurd cc
word_of_threads d word.Tramp vs e = absurd cc
word_of_threads d word.Serve vs e = absurd cc
word_of_threads d word.Fork vs e = absurd cc
word_of_threads d word.Sbrk vs e = absurd cc
word_of_threads d word.Mmap vs e = absurd cc
word_of_threads d word.Munmap vs e = absurd cc
word_of_threads d word.Audit vs e = absurd cc
word_of_threads d word.On vs e = absurd cc
word_of_threads d word.Enter vs e = absurd cc
word_of_threads d word.Leave vs e = absurd cc
word_of_threads d word.Fix vs e = absurd cc

known_word : (d : Draft) (text : List ℕ) (r : Row) (fields : List (List ℕ)) → row_among command_table text ≡ Some r → Wrong d r fields cause.Word → ⊥
known_word d text r fields named (order e c) = cc
known_word d text r fields named (field e c) = c
known_word d text r fields named (limits vs e f c) =
    let of_threads = word_of_threads d r.word vs f in
    let of_scripts = found_passes (λ (x : Row). is_of_scripts x.word) command_table text r all_of_scripts named in
    let clash : true ≡ false = sym of_scripts ∙ of_threads in
    cc
known_word d text r fields named (room vs i e f g c) = cc

known_long : (d : Draft) (r : Row) (fields : List (List ℕ)) → Wrong d r fields cause.TooLong → ⊥
known_long d r fields (order e c) = cc
known_long d r fields (field e c) = c
known_long d r fields (limits vs e f c) = c
known_long d r fields (room vs i e f g c) = cc

known_foreign : (d : Draft) (r : Row) (fields : List (List ℕ)) → Wrong d r fields cause.NotAscii → ⊥
known_foreign d r fields (order e c) = cc
known_foreign d r fields (field e c) = c
known_foreign d r fields (limits vs e f c) = c
known_foreign d r fields (room vs i e f g c) = cc

-- by cause

pub too_long : (d : Draft) (line : List ℕ) → WrongLine d line cause.TooLong → nat_le (length line) LONGEST_LINE ≡ false
too_long d line (long e c) = e
too_long d line (foreign e c) = absurd cc
too_long d line (unknown text fields e f c) = absurd cc
too_long d line (known text fields r e f g) = absurd (known_long d r fields (what_is_wrong d r fields cause.TooLong g))

pub not_ascii : (d : Draft) (line : List ℕ) → WrongLine d line cause.NotAscii → is_ascii line ≡ false
not_ascii d line (long e c) = absurd cc
not_ascii d line (foreign e c) = e
not_ascii d line (unknown text fields e f c) = absurd cc
not_ascii d line (known text fields r e f g) = absurd (known_foreign d r fields (what_is_wrong d r fields cause.NotAscii g))

pub unknown_word : (d : Draft) (line : List ℕ) → WrongLine d line cause.Word → (text : List ℕ) × (fields : List (List ℕ)) × (fields_of line ≡ text ∷ fields) × (row_among command_table text ≡ None)
unknown_word d line (long e c) = absurd cc
unknown_word d line (foreign e c) = absurd cc
unknown_word d line (unknown text fields e f c) = (text, fields, e, f)
unknown_word d line (known text fields r e f g) = absurd (known_word d text r fields f (what_is_wrong d r fields cause.Word g))

pub is_after : (c : Cause) → c ≢ cause.TooLong → c ≢ cause.NotAscii → c ≢ cause.Word → AfterWord c
is_after cause.TooLong a b d = absurd (a refl)
is_after cause.NotAscii a b d = absurd (b refl)
is_after cause.Word a b d = absurd (d refl)
is_after cause.Order a b d = tt
is_after cause.Count a b d = tt
is_after cause.Number a b d = tt
is_after cause.Field a b d = tt
is_after cause.Limits a b d = tt
is_after cause.TooMany a b d = tt

pub after_the_word : (d : Draft) (line : List ℕ) (c : Cause) → c ≢ cause.TooLong → c ≢ cause.NotAscii → c ≢ cause.Word → WrongLine d line c
    → (text : List ℕ) × (fields : List (List ℕ)) × (r : Row) × (fields_of line ≡ text ∷ fields) × (row_among command_table text ≡ Some r) × (after_word d r fields ≡ Err c)
after_the_word d line c a b w (long e k) = absurd (a (sym k))
after_the_word d line c a b w (foreign e k) = absurd (b (sym k))
after_the_word d line c a b w (unknown text fields e f k) = absurd (w (sym k))
after_the_word d line c a b w (known text fields r e f g) = (text, fields, r, e, f, g)
