-- Lemmas: which causes the parts of the reading of a line may give: a field Number or Field, the fields Count too, an item Limits.
use Rattle.std.proofs.Common.{◌≡◌, ℕ, Bool, true, false, List, [], ◌∷◌, length, Option, Some, None, Result, Ok, Err, refl, subst}
use Rattle.std.specs.Prelude.{◌==◌, IfErr, codes, if◌then◌else◌}
use Rattle.std.specs.Str.{bytes_eq}
use Rattle.sv39_entry.specs.declared.scheme.Scheme.TheVariants.{Sv39, Sv48}
use Rattle.process_model.specs.declared.config.Policy.TheVariants as policy
use Rattle.script_language.specs.Fields.{Row, said_or, slot_value, is_dash, entry_number, segment_in, value_of, and_then, kinds_for, values_from, values_of}
use Rattle.script_language.specs.Lines.{pieces_of}
use Rattle.script_language.specs.Numbers.{number_of, signed_of, hex_of}
use Rattle.script_language.specs.declared.script.Cause.{Cause}
use Rattle.script_language.specs.declared.script.Cause.TheVariants as cause
use Rattle.script_language.specs.declared.script.FieldKind.{FieldKind}
use Rattle.fault_texts.specs.Causes.{OfField}
use Rattle.script_language.specs.declared.script.FieldKind.TheVariants as kind
use Rattle.script_language.specs.declared.script.FieldValue.{FieldValue}
use Rattle.script_language.specs.declared.script.FieldValue.TheVariants as value

said_cause : {A : Type 0} (c : Cause) (make : A → FieldValue) (o : Option A) → OfField c → IfErr (said_or c make o) OfField
said_cause c make None h = h
said_cause c make (Some x) h = tt

slot_cause : (b : Bool) (field : List ℕ) → IfErr (slot_value b field) OfField
slot_cause true field = tt
slot_cause false field = said_cause cause.Number (λ n. value.Optional (Some n)) (number_of field) tt

choice_cause : (a b : Bool) (x y : FieldValue) → IfErr (if a then Ok x else (if b then Ok y else Err cause.Field)) OfField
choice_cause true b x y = tt
choice_cause false true x y = tt
choice_cause false false x y = tt

value_cause : (k : FieldKind) (field : List ℕ) → IfErr (value_of k field) OfField
value_cause kind.Number field = said_cause cause.Number value.Number (number_of field) tt
value_cause kind.Signed field = said_cause cause.Number value.Signed (signed_of field) tt
value_cause kind.Hex field = said_cause cause.Field value.Hex (hex_of field) tt
value_cause kind.Slot field = slot_cause (is_dash field) field
value_cause kind.Mode field = choice_cause (bytes_eq field (codes "rw")) (bytes_eq field (codes "ro")) (value.Writable true) (value.Writable false)
value_cause kind.Policy field = choice_cause (bytes_eq field (codes "full")) (bytes_eq field (codes "asid")) (value.Policy policy.Full) (value.Policy policy.Asid)
value_cause kind.Scheme field = choice_cause (bytes_eq field (codes "sv39")) (bytes_eq field (codes "sv48")) (value.Scheme Sv39) (value.Scheme Sv48)
value_cause kind.Segment field = said_cause cause.Field value.Segment (segment_in (pieces_of field)) tt
value_cause kind.Entry field = said_cause cause.Field (λ n. value.Optional (Some n)) (entry_number field) tt

and_then_cause : (so_far : Result (List FieldValue) Cause) (next : Result FieldValue Cause) → IfErr so_far OfField → IfErr next OfField → IfErr (and_then so_far next) OfField
and_then_cause (Ok vs) (Ok v) s n = tt
and_then_cause (Ok vs) (Err c) s n = n
and_then_cause (Err c) (Ok v) s n = s
and_then_cause (Err cause.Number) (Err d) s n = tt
and_then_cause (Err cause.Field) (Err d) s n = n
and_then_cause (Err cause.TooLong) (Err d) s n = n
and_then_cause (Err cause.NotAscii) (Err d) s n = n
and_then_cause (Err cause.Word) (Err d) s n = n
and_then_cause (Err cause.Order) (Err d) s n = n
and_then_cause (Err cause.Count) (Err d) s n = n
and_then_cause (Err cause.Limits) (Err d) s n = n
and_then_cause (Err cause.TooMany) (Err d) s n = n

from_cause : (so_far : Result (List FieldValue) Cause) (ks : List FieldKind) (fields : List (List ℕ)) → IfErr so_far OfField → IfErr (values_from so_far ks fields) OfField
from_cause so_far [] fields s = s
from_cause so_far (k ∷ ks) [] s = s
from_cause so_far (k ∷ ks) (field ∷ fields) s = from_cause (and_then so_far (value_of k field)) ks fields (and_then_cause so_far (value_of k field) s (value_cause k field))

-- a cause of all fields of a line
abbrev pub OfFields : Cause → Type 0
OfFields cause.Count = Unit {0}
OfFields cause.Number = Unit {0}
OfFields cause.Field = Unit {0}
OfFields _ = ⊥

wider : (c : Cause) → OfField c → OfFields c
wider cause.Number h = tt
wider cause.Field h = tt
wider cause.TooLong h = absurd h
wider cause.NotAscii h = absurd h
wider cause.Word h = absurd h
wider cause.Order h = absurd h
wider cause.Count h = tt
wider cause.Limits h = absurd h
wider cause.TooMany h = absurd h

wider_err : (r : Result (List FieldValue) Cause) → IfErr r OfField → IfErr r OfFields
wider_err (Ok vs) h = tt
wider_err (Err c) h = wider c h

by_cause : (right : Bool) (ks : List FieldKind) (fields : List (List ℕ)) → IfErr (if right then values_from (Ok []) ks fields else Err cause.Count) OfFields
by_cause true ks fields = wider_err (values_from (Ok []) ks fields) (from_cause (Ok []) ks fields tt)
by_cause false ks fields = tt

-- the fields of a line give Count, Number or Field
pub fields_cause : (r : Row) (fields : List (List ℕ)) (c : Cause) → values_of r fields ≡ Err c → OfFields c
fields_cause r fields c e =
    let ks = kinds_for r.kinds r.tail (length fields) in
    let P : Result (List FieldValue) Cause → Type 0 = λ x. IfErr x OfFields in
    subst P e (by_cause (length fields == length ks) ks fields)

count_only : (right : Bool) (ks : List FieldKind) (fields : List (List ℕ)) → (if right then values_from (Ok []) ks fields else Err cause.Count) ≡ Err cause.Count → right ≡ false
count_only true ks fields e =
    let P : Result (List FieldValue) Cause → Type 0 = λ x. IfErr x OfField in
    absurd (subst P e (from_cause (Ok []) ks fields tt))
count_only false ks fields e = refl

-- Count says that the number of fields is wrong
pub wrong_number_of_fields : (r : Row) (fields : List (List ℕ)) → values_of r fields ≡ Err cause.Count → (length fields == length (kinds_for r.kinds r.tail (length fields))) ≡ false
wrong_number_of_fields r fields e =
    let ks = kinds_for r.kinds r.tail (length fields) in
    count_only (length fields == length ks) ks fields e
