-- Lemmas for the reader's fast path: what it makes of a word and the fields after it is the model's (`SaysItem`), and a line
-- whose command it adds to a draft (what the lines so far declare and command) is added as the
-- model adds it. `said` and `no_comment` serve files for threads too.
use Rattle.std.proofs.Common.{◌≡◌, ℕ, ℤ, suc, ◌≤◌, List, [], ◌∷◌, ◌++◌, length, ◌<◌, ◌^◌, pos, Option, None, Some, Ok, false, true, eqb, refl, sym, ap, ◌∙◌, append_assoc, inl, inr, subst, arith}
use Rattle.std.specs.Prelude.{◌&&◌, Err, IfSome, OnOk, Result, codes, is_some, nat_le, nat_lt}
use Rattle.std.proofs.lemmas.Bool.{and_parts, cases_Bool, eq-eqb, eqb-true, le-leb, lt-ltb}
use Rattle.std.proofs.lemmas.List.{append-nil}
use Rattle.script_language.specs.Fields.{Row, command_table, four_numbers, kinds_for, row, row_among, said_or, three_numbers, two_numbers, value_of, values_from, values_of}
use Rattle.script_language.specs.Lines.{fields_of}
use Rattle.script_language.specs.Numbers.{if_below, number_of, signed_of}
use Rattle.script_language.specs.Script.{Draft, comes_first, in_limits, in_order, is_status, is_ascii, is_comment, item_line, item_of, line_of, one, with_line}
use Rattle.script_language.specs.declared.script.Cause.{Cause}
use Rattle.script_language.specs.declared.script.Cause.TheVariants as cause
use Rattle.script_language.specs.declared.script.Command.{Command}
use Rattle.script_language.specs.declared.script.FieldKind.{FieldKind}
use Rattle.script_language.specs.declared.script.FieldKind.TheVariants as kind
use Rattle.script_language.specs.declared.script.FieldValue.{FieldValue}
use Rattle.script_language.specs.declared.script.FieldValue.TheVariants as value
use Rattle.script_language.specs.declared.script.Item.{Item}
use Rattle.script_language.specs.declared.script.Item.TheVariants as item
use Rattle.script_language.specs.declared.script.Keyword.{Keyword}
use Rattle.script_language.specs.declared.script.Keyword.TheVariants as word
use Rattle.script_language.specs.declared.script.Tail.TheVariants as tail
use Rattle.process_model.specs.Bytes.{is_width}
use Rattle.process_model.specs.declared.step.Step.TheVariants as step
use Rattle.script_reader.proofs.Digits.{from_none}
use Rattle.script_reader.specs.FastLines.{AddsCommand, AddsMade}
use Rattle.script_reader.specs.FastPath.{IsNext, Reads, ReadsFields, ReadsVia, SaysItem}
use Rattle.script_language.specs.declared.limits.TheConstants.{LONGEST_LINE, MOST_COMMANDS}

-- there are as many fields as values
counted : (line : List ℕ) (ks : List FieldKind) (vs : List FieldValue) → ReadsFields line ks vs → length (fields_of line) ≡ length ks
counted line [] [] none = ap length none
counted line [] (v ∷ vs) none = elim none [ ]
counted line (k ∷ ks) [] r = elim r [ ]
counted line (k ∷ ks) (v ∷ vs) r = ap length (r.1).fields ∙ ap suc (counted r.0 ks vs r.2)

said_from : (line : List ℕ) (ks : List FieldKind) (vs so_far : List FieldValue) → ReadsFields line ks vs → values_from (Ok so_far) ks (fields_of line) ≡ Ok (so_far ++ vs)
said_from line [] [] so_far none = ap (λ (xs : List FieldValue). Ok xs) (sym (append-nil so_far))
said_from line [] (v ∷ vs) so_far none = elim none [ ]
said_from line (k ∷ ks) [] so_far r = elim r [ ]
said_from line (k ∷ ks) (v ∷ vs) so_far r =
    let n : IsNext line r.0 k v = r.1 in
    rw (n.fields, n.value) (said_from r.0 ks vs (so_far ++ v ∷ []) r.2 ∙ ap (λ (xs : List FieldValue). Ok xs) (simp append_assoc))

pub said : (r : Row) (line : List ℕ) (ks : List FieldKind) (vs : List FieldValue) → ReadsFields line ks vs → kinds_for r.kinds r.tail (length ks) ≡ ks → values_of r (fields_of line) ≡ Ok vs
said r line ks vs reads kinds =
    let n = counted line ks vs reads in
    rw (n, kinds, eq-eqb (length ks) (length ks) refl) (said_from line ks vs [] reads)

pub says : {line : List ℕ} {ks : List FieldKind} {vs : List FieldValue} → Reads line ks vs → (text : List ℕ) (r : Row) (made : Result Item Cause) → row_among command_table text ≡ Some r
    → kinds_for r.kinds r.tail (length ks) ≡ ks → ((s : Draft) → item_of s r.word vs ≡ made) → comes_first r.word ≡ false → SaysItem text line made
says {line} {ks} {vs} reads text r made found kinds makes later = record { row = r; found = found; values = vs; said = said r line ks vs reads.reads kinds; item = makes; later = later }

-- the same where a buffer entry may follow the numbers

pub says_fetch : (line : List ℕ) (h a : ℕ) (via : Option ℕ) (made : Result Item Cause) → ReadsVia line two_numbers (value.Number h ∷ value.Number a ∷ []) via → made ≡ Ok (one (step.Fetch h a via)) → SaysItem (codes "fetch") line made
says_fetch line h a None made r is =
    let reads : Reads line two_numbers (value.Number h ∷ value.Number a ∷ []) = record { reads = r.reads } in
    says reads (codes "fetch") (row (codes "fetch") word.Fetch two_numbers (tail.Perhaps kind.Entry)) made refl refl (λ s. sym is) refl
says_fetch line h a (Some i) made r is =
    let reads : Reads line (kind.Number ∷ kind.Number ∷ kind.Entry ∷ []) (value.Number h ∷ value.Number a ∷ value.Optional (Some i) ∷ []) = record { reads = r.reads } in
    says reads (codes "fetch") (row (codes "fetch") word.Fetch two_numbers (tail.Perhaps kind.Entry)) made refl refl (λ s. sym is) refl

pub says_load : (line : List ℕ) (h a w : ℕ) (via : Option ℕ) (made : Result Item Cause) → ReadsVia line three_numbers (value.Number h ∷ value.Number a ∷ value.Number w ∷ []) via
    → made ≡ in_limits (is_width w) (one (step.Load h a w via)) → SaysItem (codes "load") line made
says_load line h a w None made r is =
    let reads : Reads line three_numbers (value.Number h ∷ value.Number a ∷ value.Number w ∷ []) = record { reads = r.reads } in
    says reads (codes "load") (row (codes "load") word.Load three_numbers (tail.Perhaps kind.Entry)) made refl refl (λ s. sym is) refl
says_load line h a w (Some i) made r is =
    let reads : Reads line (kind.Number ∷ kind.Number ∷ kind.Number ∷ kind.Entry ∷ []) (value.Number h ∷ value.Number a ∷ value.Number w ∷ value.Optional (Some i) ∷ []) = record { reads = r.reads } in
    says reads (codes "load") (row (codes "load") word.Load three_numbers (tail.Perhaps kind.Entry)) made refl refl (λ s. sym is) refl

pub says_store : (line : List ℕ) (h a w v : ℕ) (via : Option ℕ) (made : Result Item Cause) → ReadsVia line four_numbers (value.Number h ∷ value.Number a ∷ value.Number w ∷ value.Number v ∷ []) via
    → made ≡ in_limits (is_width w) (one (step.Store h a w v via)) → SaysItem (codes "store") line made
says_store line h a w v None made r is =
    let reads : Reads line four_numbers (value.Number h ∷ value.Number a ∷ value.Number w ∷ value.Number v ∷ []) = record { reads = r.reads } in
    says reads (codes "store") (row (codes "store") word.Store four_numbers (tail.Perhaps kind.Entry)) made refl refl (λ s. sym is) refl
says_store line h a w v (Some i) made r is =
    let reads : Reads line (kind.Number ∷ kind.Number ∷ kind.Number ∷ kind.Number ∷ kind.Entry ∷ []) (value.Number h ∷ value.Number a ∷ value.Number w ∷ value.Number v ∷ value.Optional (Some i) ∷ []) = record { reads = r.reads } in
    says reads (codes "store") (row (codes "store") word.Store four_numbers (tail.Perhaps kind.Entry)) made refl refl (λ s. sym is) refl

-- an unsigned number below 2^63 is also read as a signed one

none_some : {A : Type 0} (x : A) → None ≡ Some x → ⊥
none_some x e = cc

abbrev number_in : Result FieldValue Cause → ℕ
number_in (Ok (value.Number n)) = n
number_in _ = 0

no_sign : (digits : List ℕ) → number_of (45 ∷ digits) ≡ None
no_sign [] = refl
no_sign (b ∷ digits) = ap (if_below (2 ^ 64)) (from_none 10 digits)

signed_number : (field : List ℕ) (n : ℕ) → number_of field ≡ Some n → n < 2 ^ 63 → signed_of field ≡ Some (pos n)
signed_number [] n is small = absurd cc
signed_number (b ∷ field) n is small =
    elim (cases_Bool (eqb b 45)) [
      | inl sign ↦ absurd (none_some n (sym (no_sign field) ∙ subst (λ (a : ℕ). number_of (a ∷ field) ≡ Some n) (eqb-true b 45 sign) is))
      | inr digit ↦ rw (digit, is, lt-ltb n (2 ^ 63) small) refl
    ]

said_signed : (field : List ℕ) (n : ℕ) (read : Option ℕ) → number_of field ≡ read → said_or cause.Number value.Number read ≡ Ok (value.Number n) → n < 2 ^ 63 → value_of kind.Signed field ≡ Ok (value.Signed (pos n))
said_signed field n None is reads small = absurd cc
said_signed field n (Some m) is reads small = rw (signed_number field n (is ∙ ap (λ (k : ℕ). Some k) (ap number_in reads)) small) refl

next_signed : (line rest : List ℕ) (n : ℕ) → n < 2 ^ 63 → IsNext line rest kind.Number (value.Number n) → IsNext line rest kind.Signed (value.Signed (pos n))
next_signed line rest n small next = record { field = next.field; fields = next.fields; value = said_signed next.field n (number_of next.field) refl next.value small }

pub says_exit : (line : List ℕ) (h k : ℕ) (z : ℤ) (made : Result Item Cause) → Reads line two_numbers (value.Number h ∷ value.Number k ∷ []) → k < 2 ^ 63 → z ≡ pos k → made ≡ in_limits (is_status z) (one (step.Exit h z))
    → SaysItem (codes "exit") line made
says_exit line h k z made r small same is =
    let t = r.reads in
    let reads : Reads line (kind.Number ∷ kind.Signed ∷ []) (value.Number h ∷ value.Signed (pos k) ∷ []) = record { reads = (t.0, t.1, (t.2.0, next_signed t.0 t.2.0 k small t.2.1, t.2.2)) } in
    let limited : made ≡ in_limits (is_status (pos k)) (one (step.Exit h (pos k))) = subst (λ (y : ℤ). made ≡ in_limits (is_status y) (one (step.Exit h y))) same is in
    says reads (codes "exit") (row (codes "exit") word.Exit (kind.Number ∷ kind.Signed ∷ []) tail.Nothing) made refl refl (λ s. sym limited) refl

-- a word of a table is no comment, if no word of the table begins with `#`
pub no_comment : (table : List Row) → ((text : List ℕ) → row_among table (35 ∷ text) ≡ None) → (text : List ℕ) (r : Row) → row_among table text ≡ Some r → is_comment text ≡ false
no_comment table clear [] r e = refl
no_comment table clear (b ∷ text) r e =
    elim (cases_Bool (eqb b 35)) [
      | inl is ↦ absurd (none_some r (sym (clear text) ∙ subst (λ (n : ℕ). row_among table (n ∷ text) ≡ Some r) (eqb-true b 35 is) e))
      | inr isnt ↦ isnt
    ]

ordered : (s : Draft) (w : Keyword) → is_some s.config ≡ true → comes_first w ≡ false → in_order s w ≡ true
ordered s w some later = rw (some, later) refl

item_says : (s : Draft) (text line : List ℕ) (c : Command) → SaysItem text line (Ok (item.Command c)) → is_some s.config ≡ true → nat_lt (length s.commands) MOST_COMMANDS ≡ true
    → item_line s text (fields_of line) ≡ Ok (item.Command c)
unfolding item_line
item_says s text line c says some room = rw (says.found, ordered s (says.row).word some says.later, says.said, says.item s, room) refl

pub line_says : (s : Draft) (line text fields : List ℕ) (c : Command) → fields_of line ≡ text ∷ fields_of fields → SaysItem text fields (Ok (item.Command c))
    → (is_some s.config && nat_lt (length s.commands) MOST_COMMANDS) ≡ true → nat_le (length line) LONGEST_LINE ≡ true → is_ascii line ≡ true → line_of s line ≡ Ok (Some (item.Command c))
unfolding line_of
line_says s line text fields c cut says takes short ascii =
    let parts = and_parts (is_some s.config) (nat_lt (length s.commands) MOST_COMMANDS) takes in
    rw (short, ascii, cut, no_comment command_table (λ t. refl) text says.row says.found, item_says s text fields c says parts.0 parts.1) refl

-- a line whose word was added with the fields after it was added
pub line_added : {E : Type 0} (s t : Draft) (line text fields : List ℕ) (done : Option (Result (Unit {0}) E)) → fields_of line ≡ text ∷ fields_of fields
    → (is_some s.config && nat_lt (length s.commands) MOST_COMMANDS) ≡ true → nat_le (length line) LONGEST_LINE ≡ true → is_ascii line ≡ true
    → IfSome done (λ d. OnOk d (AddsCommand s t text fields)) → IfSome done (λ d. OnOk d ((n : ℕ) → with_line s n (line_of s line) ≡ Ok (t, n)))
line_added s t line text fields None cut takes short ascii adds = adds
line_added s t line text fields (Some (Err e)) cut takes short ascii adds = adds
line_added s t line text fields (Some (Ok u)) cut takes short ascii adds = λ n. rw (line_says s line text fields adds.command cut adds.says takes short ascii, adds.added) refl

-- what was made of a word and the fields after it was added
pub item_added : {E : Type 0} (s t : Draft) (text fields : List ℕ) (made : Result Item Cause) (done : Option (Result (Unit {0}) E)) → SaysItem text fields made → IfSome done (λ d. OnOk d (AddsMade s t made))
    → IfSome done (λ d. OnOk d (AddsCommand s t text fields))
item_added s t text fields made None says adds = adds
item_added s t text fields made (Some (Err e)) says adds = adds
item_added s t text fields made (Some (Ok u)) says adds = record { command = adds.command; says = subst (λ (m : Result Item Cause). SaysItem text fields m) adds.is_made says; added = adds.added }
