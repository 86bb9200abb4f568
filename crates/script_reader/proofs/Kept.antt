-- Lemmas on reading lines, for scripts and files for threads alike: what each accepted line keeps of a draft (what the lines
-- so far declare) holds after all lines (`lines_kept`); and an item (what a line declares or commands) that is accepted
-- keeps its limits and has room.
use Rattle.std.proofs.Common.{◌≡◌, ℕ, ◌+◌, ◌<◌, ◌≤◌, Bool, true, false, List, [], ◌∷◌, ◌++◌, length, length-append, arith, Option, Some, None, Result, Ok, Err, refl}
use Rattle.std.specs.Prelude.{IfOk, All, nat_lt, nat_le, if◌then◌else◌}
use Rattle.std.proofs.lemmas.List.Elements.{All-nil, All-cons, All-append}
use Rattle.script_language.specs.Fields.{Row, row_among, values_of}
use Rattle.script_language.specs.Lines.{without_return, fields_of}
use Rattle.script_language.specs.ReadLines.{◌>>=◌, row_named, test, in_limits, item_by, is_comment, is_ascii, some_item, fields_by, line_by, ReadTo, with_said, next_by, lines_by}
use Rattle.process_model.specs.declared.limits.TheConstants.{MOST_FILES}
use Rattle.process_model.specs.declared.file.FileText.{FileText}
use Rattle.script_language.specs.declared.script.Cause.{Cause}
use Rattle.script_language.specs.declared.script.FieldValue.{FieldValue}
use Rattle.script_language.specs.declared.script.Keyword.{Keyword}

-- steps in a row

pub followed : {A B : Type 0} (r : Result A Cause) (f : A → Result B Cause) (Q : B → Type 0) → ((a : A) → IfOk (f a) Q) → IfOk (r >>= f) Q
followed (Ok a) f Q g = g a
followed (Err e) f Q g = tt

pub then_fits : {A B : Type 0} (r : Result A Cause) (f : A → Result B Cause) (P : A → Type 0) (Q : B → Type 0) → IfOk r P → ((a : A) → P a → IfOk (f a) Q) → IfOk (r >>= f) Q
then_fits (Ok a) f P Q p g = g a p
then_fits (Err e) f P Q p g = tt

pub tested : (b : Bool) (c : Cause) → IfOk (test b c) (λ u. b ≡ true)
tested true c = refl
tested false c = tt

pub limited : {A : Type 0} (P : A → Type 0) (b : Bool) (x : A) → (b ≡ true → P x) → IfOk (in_limits b x) P
limited P true x p = p refl
limited P false x p = tt

pub below : (a b : ℕ) → nat_lt a b ≡ true → a < b
below a b e = grind arith

pub at_most : (a b : ℕ) → nat_le a b ≡ true → a ≤ b
at_most a b e = grind arith

pub all_and_one : {A : Type 0} (P : A → Type 0) (xs : List A) (x : A) → All P xs → P x → All P (xs ++ x ∷ [])
all_and_one P xs x h one = All-append P xs (x ∷ []) h (All-cons P x [] one (All-nil P))

pub one_file_more : (fs : List FileText) (f : FileText) → nat_lt (length fs) MOST_FILES ≡ true → length (fs ++ f ∷ []) ≤ MOST_FILES
one_file_more fs f room = omega (arith, length-append fs (f ∷ []), below (length fs) MOST_FILES room)

-- what a word says whose row and values are known
pub item_is : {I : Type 0} (table : List Row) (in_order : Keyword → Bool) (item_of : Keyword → List FieldValue → Result I Cause) (has_room : I → Bool) (text : List ℕ) (fields : List (List ℕ)) (r : Row) (vs : List FieldValue)
    (i : I) → row_among table text ≡ Some r → values_of r fields ≡ Ok vs → IfOk (item_of r.word vs) (λ j. j ≡ i) → IfOk (item_by table in_order item_of has_room text fields) (λ j. j ≡ i)
item_is table in_order item_of has_room text fields r vs i found said is =
    rw (found, said) (followed (test (in_order r.word) _) _ (λ j. j ≡ i) (λ u. then_fits (item_of r.word vs) _ (λ j. j ≡ i) (λ j. j ≡ i) is (λ j same. followed (test (has_room j) _) _ (λ j. j ≡ i) (λ u. same))))

-- an item is within its limits, and there is room for it
abbrev pub HasPlace : {I : Type 0} → (I → Type 0) → (I → Bool) → I → Type 0
HasPlace Fits has_room i = Fits i × (has_room i ≡ true)

pub item_has_place : {I : Type 0} (table : List Row) (in_order : Keyword → Bool) (item_of : Keyword → List FieldValue → Result I Cause) (has_room : I → Bool) (Fits : I → Type 0)
    → ((w : Keyword) (vs : List FieldValue) → IfOk (item_of w vs) Fits) → (text : List ℕ) (fields : List (List ℕ)) → IfOk (item_by table in_order item_of has_room text fields) (HasPlace Fits has_room)
item_has_place table in_order item_of has_room Fits fits text fields =
    followed (row_named (row_among table text)) _ (HasPlace Fits has_room)
    (λ r. followed (test (in_order r.word) _) _ (HasPlace Fits has_room)
    (λ u. followed (values_of r fields) _ (HasPlace Fits has_room)
    (λ vs. then_fits (item_of r.word vs) _ Fits (HasPlace Fits has_room) (fits r.word vs)
    (λ i fit. then_fits (test (has_room i) _) _ (λ u. has_room i ≡ true) (HasPlace Fits has_room) (tested (has_room i) _) (λ u room. (fit, room))))))

abbrev pub IfItem : {I : Type 0} → (I → Type 0) → Option I → Type 0
IfItem P None = Unit {0}
IfItem P (Some i) = P i

some_fits : {I : Type 0} (P : I → Type 0) (r : Result I Cause) → IfOk r P → IfOk (some_item r) (IfItem P)
some_fits P (Ok i) h = h
some_fits P (Err c) h = tt

fields_fit : {I : Type 0} (says : List ℕ → List (List ℕ) → Result I Cause) (P : I → Type 0) → ((text : List ℕ) (fields : List (List ℕ)) → IfOk (says text fields) P)
    → (fields : List (List ℕ)) → IfOk (fields_by says fields) (IfItem P)
fields_fit says P h [] = tt
fields_fit says P h (text ∷ fields) = elim (is_comment text) as (λ b. IfOk (if b then Ok None else some_item (says text fields)) (IfItem P)) [ true ↦ tt | false ↦ some_fits P _ (h text fields) ]

-- what holds of each item that fields can say
pub line_fits : {I : Type 0} (says : List ℕ → List (List ℕ) → Result I Cause) (P : I → Type 0) → ((text : List ℕ) (fields : List (List ℕ)) → IfOk (says text fields) P)
    → (line : List ℕ) → IfOk (line_by says line) (IfItem P)
line_fits says P h line =
    followed (test (nat_le (length line) _) _) _ (IfItem P) (λ u. followed (test (is_ascii line) _) _ (IfItem P) (λ u. fields_fit says P h (fields_of line)))

abbrev pub IfRead : {D : Type 0} → (D → Type 0) → ReadTo D → Type 0
IfRead IsSound (Ok x) = IsSound x.0
IfRead IsSound (Err f) = Unit {0}

line_kept : {D I : Type 0} (with_item : D → I → D) (IsSound : D → Type 0) (P : D → I → Type 0) → ((d : D) (i : I) → IsSound d → P d i → IsSound (with_item d i))
    → (d : D) (n : ℕ) (r : Result (Option I) Cause) → IsSound d → IfOk r (IfItem (P d)) → IfRead IsSound (with_said with_item d n r)
line_kept with_item IsSound P keeps d n (Ok None) s fits = s
line_kept with_item IsSound P keeps d n (Ok (Some i)) s fits = keeps d i s fits
line_kept with_item IsSound P keeps d n (Err c) s fits = tt

pub lines_kept : {D I : Type 0} (line_of : D → List ℕ → Result (Option I) Cause) (with_item : D → I → D) (IsSound : D → Type 0) (P : D → I → Type 0)
    → ((d : D) (line : List ℕ) → IfOk (line_of d line) (IfItem (P d))) → ((d : D) (i : I) → IsSound d → P d i → IsSound (with_item d i))
    → (read : ReadTo D) (lines : List (List ℕ)) → IfRead IsSound read → IfRead IsSound (lines_by (next_by line_of with_item) read lines)
lines_kept line_of with_item IsSound P fits keeps read [] s = s
lines_kept line_of with_item IsSound P fits keeps (Ok x) (line ∷ lines) s =
    lines_kept line_of with_item IsSound P fits keeps (next_by line_of with_item (Ok x) line) lines
    (line_kept with_item IsSound P keeps x.0 (x.1 + 1) (line_of x.0 (without_return line)) s (fits x.0 (without_return line)))
lines_kept line_of with_item IsSound P fits keeps (Err f) (line ∷ lines) s = lines_kept line_of with_item IsSound P fits keeps (Err f) lines tt
