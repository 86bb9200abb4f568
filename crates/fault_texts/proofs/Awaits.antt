-- Lemmas: a field that is refused for the cause of the line is still to come, as long as none was.
use Rattle.std.proofs.Common.{◌≡◌, ◌≢◌, ℕ, zero, suc, ◌+◌, ◌<◌, Bool, true, false, eqb, List, [], ◌∷◌, length, drop, Some, None, Result, Ok, Err, refl, ap, sym, subst, ◌∙◌, arith}
use Rattle.std.specs.Prelude.{slice_get, if◌then◌else◌}
use Rattle.std.proofs.lemmas.Bool.{eqb-true}
use Rattle.script_language.specs.Fields.{Row, and_then, kinds_for, value_of, values_from, values_of}
use Rattle.script_language.specs.declared.script.Cause.{Cause}
use Rattle.script_language.specs.declared.script.Cause.TheVariants as cause
use Rattle.script_language.specs.declared.script.FieldKind.{FieldKind}
use Rattle.script_language.specs.declared.script.FieldValue.{FieldValue}
use Rattle.script_reader.specs.Rows.{kind_at}
use Rattle.fault_texts.specs.Causes.{OfField}
use Rattle.fault_texts.proofs.PlacesOfKinds.{kinds_at}

-- after values without this cause, the fields give it
pub record Awaits (c : Cause) (kinds : List FieldKind) (fields : List (List ℕ)) : Type 0 where
  pub values : Result (List FieldValue) Cause
  pub without : values ≢ Err c
  pub gives : values_from values kinds fields ≡ Err c

other : (c d : Cause) → (◌≡◌ {A = Result FieldValue Cause} (Err d) (Err c) → ⊥) → ◌≡◌ {A = Result (List FieldValue) Cause} (Err d) (Err c) → ⊥
other c d h e = let same : d ≡ c = cc in h (ap Err same)

next_without : (c : Cause) (values : Result (List FieldValue) Cause) (next : Result FieldValue Cause) → values ≢ Err c → next ≢ Err c → and_then values next ≢ Err c
next_without c (Ok vs) (Ok v) h n = λ e. absurd cc
next_without c (Ok vs) (Err d) h n = other c d n
next_without c (Err d) (Ok v) h n = h
next_without c (Err cause.Number) (Err d) h n = h
next_without c (Err cause.TooLong) (Err d) h n = other c d n
next_without c (Err cause.NotAscii) (Err d) h n = other c d n
next_without c (Err cause.Word) (Err d) h n = other c d n
next_without c (Err cause.Order) (Err d) h n = other c d n
next_without c (Err cause.Count) (Err d) h n = other c d n
next_without c (Err cause.Field) (Err d) h n = other c d n
next_without c (Err cause.Limits) (Err d) h n = other c d n
next_without c (Err cause.TooMany) (Err d) h n = other c d n

pub awaits_next : (c : Cause) (k : FieldKind) (kinds : List FieldKind) (field : List ℕ) (fields : List (List ℕ)) → Awaits c (k ∷ kinds) (field ∷ fields) → value_of k field ≢ Err c → Awaits c kinds fields
awaits_next c k kinds field fields a h = record { values = and_then a.values (value_of k field); without = next_without c a.values (value_of k field) a.without h; gives = a.gives }

none_left : (c : Cause) (values : Result (List FieldValue) Cause) (kinds : List FieldKind) → values_from values kinds [] ≡ Err c → values ≡ Err c
none_left c values [] e = e
none_left c values (k ∷ kinds) e = e

-- with no field left it is a contradiction
pub awaits_none : (c : Cause) (kinds : List FieldKind) → Awaits c kinds [] → ⊥
awaits_none c kinds a = a.without (none_left c a.values kinds a.gives)

-- the number of fields is right if one of them is refused
right_if : (b : Bool) (c : Cause) (kinds : List FieldKind) (fields : List (List ℕ)) → OfField c → (if b then values_from (Ok []) kinds fields else Err cause.Count) ≡ Err c → (b ≡ true) × Awaits c kinds fields
right_if true c kinds fields of e = (refl, record { values = Ok []; without = λ x. absurd cc; gives = e })
right_if false c kinds fields of e = let same : cause.Count ≡ c = cc in absurd (subst OfField (sym same) of)

pub right_count : (r : Row) (fields : List (List ℕ)) (c : Cause) → OfField c → values_of r fields ≡ Err c → eqb (length fields) (length (kinds_for r.kinds r.tail (length fields))) ≡ true
right_count r fields c of e =
    let kinds = kinds_for r.kinds r.tail (length fields) in
    (right_if (eqb (length fields) (length kinds)) c kinds fields of e).0

pub awaits_first : (r : Row) (fields : List (List ℕ)) (c : Cause) → OfField c → values_of r fields ≡ Err c → Awaits c (kinds_for r.kinds r.tail (length fields)) fields
awaits_first r fields c of e =
    let kinds = kinds_for r.kinds r.tail (length fields) in
    (right_if (eqb (length fields) (length kinds)) c kinds fields of e).1

-- the kind of the field at a place is the first of those that are left
kind_first : {X : Type 0} (xs : List X) (i : ℕ) (x : X) → slice_get xs i ≡ Some x → drop i xs ≡ x ∷ drop (i + 1) xs
kind_first [] zero x e = absurd cc
kind_first [] (suc i) x e = absurd cc
kind_first (y ∷ xs) zero x e = let same : y ≡ x = cc in ap (λ z. z ∷ xs) same
kind_first (y ∷ xs) (suc i) x e = let more : suc i + 1 ≡ suc (i + 1) = omega arith in rw more (kind_first xs i x e)

pub next_kind : (r : Row) (n p : ℕ) (k : FieldKind) → p < n → eqb n (length (kinds_for r.kinds r.tail n)) ≡ true → kind_at r p ≡ Some k → drop p (kinds_for r.kinds r.tail n) ≡ k ∷ drop (p + 1) (kinds_for r.kinds r.tail n)
next_kind r n p k lt right e = kind_first (kinds_for r.kinds r.tail n) p k (kinds_at r.kinds r.tail n p lt right ∙ e)

within_none : {X : Type 0} (xs : List X) (i : ℕ) → i < length xs → slice_get xs i ≡ None → ⊥
within_none [] i lt e = omega arith
within_none (x ∷ xs) zero lt e = cc
within_none (x ∷ xs) (suc i) lt e = within_none xs i (omega arith) e

-- there is a kind for each field
pub has_kind : (r : Row) (n p : ℕ) → p < n → eqb n (length (kinds_for r.kinds r.tail n)) ≡ true → kind_at r p ≡ None → ⊥
has_kind r n p lt right e =
    let none : slice_get (kinds_for r.kinds r.tail n) p ≡ None = kinds_at r.kinds r.tail n p lt right ∙ e in
    let same = eqb-true n (length (kinds_for r.kinds r.tail n)) right in
    within_none (kinds_for r.kinds r.tail n) p (omega arith) none
