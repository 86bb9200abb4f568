-- Lemmas for the reader's fast path: digits at the beginning of a text, one or four more of them; and a decimal or
-- hexadecimal number, or a buffer entry `@N`, at the beginning of a line is its next field.
use Rattle.std.proofs.Common.{◌≡◌, ℕ, ◌+◌, ◌*◌, ◌^◌, ◌<◌, Bool, true, false, eqb, List, [], ◌∷◌, ◌++◌, ◌&&◌, length, Option, Some, None, subst, refl, sym, ap, ◌∙◌, arith, inl, inr}
use Rattle.std.specs.Borrow.{Bor}
use Rattle.std.specs.List.{onto_first}
use Rattle.std.specs.Prelude.{IfSome}
use Rattle.std.proofs.lemmas.Bool.{cases_Bool, eqb-true, lt-ltb}
use Rattle.script_language.specs.Lines.{ends_field, fields_of, is_blank}
use Rattle.script_language.specs.Numbers.{digit_of, digits_from, if_below, number_of, one_more}
use Rattle.script_language.specs.declared.script.FieldKind.TheVariants as kind
use Rattle.script_language.specs.declared.script.FieldValue.TheVariants as value
use Rattle.script_reader.proofs.Cutting.{field_alone, field_goes_on}
use Rattle.script_reader.proofs.Digits.{from_none}
use Rattle.script_reader.specs.NumberPrefixes.{IsEndedPrefix, IsNumberPrefix}
use Rattle.script_reader.specs.FastPath.{IsNext}

none_some : {A : Type 0} (x : A) → None ≡ Some x → ⊥
none_some x e = cc

-- one digit more

digits_more : (base b : ℕ) (so_far : Option ℕ) (digits : List ℕ) → digits_from base so_far (digits ++ b ∷ []) ≡ one_more base (digits_from base so_far digits) (digit_of base b)
digits_more base b so_far [] = refl
digits_more base b so_far (a ∷ digits) = digits_more base b (one_more base so_far (digit_of base a)) digits

pub front_begins : (base : ℕ) (text : List ℕ) → IsNumberPrefix base text text 0
front_begins base text = record { digits = []; whole = refl; says = refl }

append_one : (digits rest : List ℕ) (b : ℕ) → digits ++ b ∷ rest ≡ (digits ++ b ∷ []) ++ rest
append_one [] rest b = refl
append_one (a ∷ digits) rest b = ap (λ (xs : List ℕ). a ∷ xs) (append_one digits rest b)

pub front_goes_on : (base b d n : ℕ) (text rest : List ℕ) → digit_of base b ≡ Some d → IsNumberPrefix base text (b ∷ rest) n → IsNumberPrefix base text rest (n * base + d)
front_goes_on base b d n text rest is front = record {
  digits = front.digits ++ b ∷ [];
  whole = front.whole ∙ append_one front.digits rest b;
  says = digits_more base b (Some 0) front.digits ∙ rw (front.says, is) refl;
}

-- four hexadecimal digits more
pub four_go_on : (a b c d w x y z n : ℕ) (text rest : List ℕ) → digit_of 16 a ≡ Some w → digit_of 16 b ≡ Some x → digit_of 16 c ≡ Some y → digit_of 16 d ≡ Some z
    → IsNumberPrefix 16 text (a ∷ b ∷ c ∷ d ∷ rest) n → IsNumberPrefix 16 text rest (n * 65536 + (w * 4096 + x * 256 + y * 16 + z))
four_go_on a b c d w x y z n text rest first second third fourth front =
    let one = front_goes_on 16 a w n text (b ∷ c ∷ d ∷ rest) first front in
    let two = front_goes_on 16 b x (n * 16 + w) text (c ∷ d ∷ rest) second one in
    let three = front_goes_on 16 c y ((n * 16 + w) * 16 + x) text (d ∷ rest) third two in
    let four = front_goes_on 16 d z (((n * 16 + w) * 16 + x) * 16 + y) text rest fourth three in
    let same : (((n * 16 + w) * 16 + x) * 16 + y) * 16 + z ≡ n * 65536 + (w * 4096 + x * 256 + y * 16 + z) = omega arith in
    subst (λ (k : ℕ). IsNumberPrefix 16 text rest k) same four

-- four zeros more
pub zeros_go_on : (text rest : List ℕ) → IsNumberPrefix 16 text (48 ∷ 48 ∷ 48 ∷ 48 ∷ rest) 0 → IsNumberPrefix 16 text rest 0
zeros_go_on text rest front = four_go_on 48 48 48 48 0 0 0 0 0 text rest refl refl refl refl front

-- digits are no blanks, and a field

no_blank : (base b d : ℕ) → digit_of base b ≡ Some d → is_blank b ≡ false
no_blank base b d is =
    elim (cases_Bool (eqb b 32)) [
      | inl space ↦ absurd (none_some d (subst (λ (c : ℕ). digit_of base c ≡ Some d) (eqb-true b 32 space) is))
      | inr other ↦ elim (cases_Bool (eqb b 9)) [
        | inl tab ↦ absurd (none_some d (subst (λ (c : ℕ). digit_of base c ≡ Some d) (eqb-true b 9 tab) is))
        | inr letter ↦ rw (other, letter) refl
      ]
    ]

one_digit : (base m n b : ℕ) (digits : List ℕ) (o : Option ℕ) → digits_from base (one_more base (Some m) o) digits ≡ Some n → (d : ℕ) × (o ≡ Some d) × (digits_from base (Some (m * base + d)) digits ≡ Some n)
one_digit base m n b digits None says = absurd (none_some n (sym (from_none base digits) ∙ says))
one_digit base m n b digits (Some d) says = (d, refl, says)

front_cut : (base m n b : ℕ) (digits rest : List ℕ) → digits_from base (Some m) (b ∷ digits) ≡ Some n → ends_field rest ≡ true → fields_of ((b ∷ digits) ++ rest) ≡ (b ∷ digits) ∷ fields_of rest
front_cut base m n b [] rest says ends = let first = one_digit base m n b [] (digit_of base b) says in field_alone b rest (no_blank base b first.0 first.1) ends
front_cut base m n b (c ∷ digits) rest says ends =
    let first = one_digit base m n b (c ∷ digits) (digit_of base b) says in
    let second = one_digit base (m * base + first.0) n c digits (digit_of base c) first.2 in
    field_goes_on b ((c ∷ digits) ++ rest) (no_blank base b first.0 first.1) (no_blank base c second.0 second.1) ∙ ap (onto_first b) (front_cut base (m * base + first.0) n c digits rest first.2 ends)

below_limit : (n : ℕ) → n < 2 ^ 64 → if_below (2 ^ 64) (Some n) ≡ Some n
below_limit n lt = rw (lt-ltb n (2 ^ 64) lt) refl

no_letter : (b d : ℕ) → digit_of 10 b ≡ Some d → eqb b 120 ≡ false
no_letter b d is =
    elim (cases_Bool (eqb b 120)) [
      | inl letter ↦ absurd (none_some d (subst (λ (c : ℕ). digit_of 10 c ≡ Some d) (eqb-true b 120 letter) is))
      | inr other ↦ other
    ]

and_false : (a : Bool) → (a && false) ≡ false
and_false true = refl
and_false false = refl

decimal_number : (n b : ℕ) (digits : List ℕ) → digits_from 10 (Some 0) (b ∷ digits) ≡ Some n → n < 2 ^ 64 → number_of (b ∷ digits) ≡ Some n
decimal_number n b [] says lt = ap (if_below (2 ^ 64)) says ∙ below_limit n lt
decimal_number n b (c ∷ digits) says lt =
    let first = one_digit 10 0 n b (c ∷ digits) (digit_of 10 b) says in
    let second = one_digit 10 (0 * 10 + first.0) n c digits (digit_of 10 c) first.2 in
    rw (no_letter c second.0 second.1, and_false (eqb b 48)) (ap (if_below (2 ^ 64)) says ∙ below_limit n lt)

hexadecimal_number : (n b : ℕ) (digits : List ℕ) → digits_from 16 (Some 0) (b ∷ digits) ≡ Some n → n < 2 ^ 64 → number_of (48 ∷ 120 ∷ b ∷ digits) ≡ Some n
hexadecimal_number n b digits says lt = ap (if_below (2 ^ 64)) says ∙ below_limit n lt

-- the number behind blanks

said_number : (line text rest field : List ℕ) (n : ℕ) → fields_of text ≡ fields_of line → fields_of text ≡ field ∷ fields_of rest → number_of field ≡ Some n → IsNext line rest kind.Number (value.Number n)
said_number line text rest field n same cut says = record { field = field; fields = sym same ∙ cut; value = rw says refl }

decimal_from : (line text rest digits : List ℕ) (n : ℕ) → fields_of text ≡ fields_of line → text ≡ digits ++ rest → digits_from 10 (Some 0) digits ≡ Some n → length rest < length text → ends_field rest ≡ true → n < 2 ^ 64
    → IsNext line rest kind.Number (value.Number n)
decimal_from line text rest [] n same whole says some ends lt = absurd (omega (arith, ap length whole, some))
decimal_from line text rest (b ∷ digits) n same whole says some ends lt =
    said_number line text rest (b ∷ digits) n same (ap fields_of whole ∙ front_cut 10 0 n b digits rest says ends) (decimal_number n b digits says lt)

pub decimal_said : (line text : List ℕ) (r : Option (ℕ × Bor (List ℕ))) → fields_of text ≡ fields_of line → IfSome r (λ found. IsEndedPrefix 10 text found.1.now found.0)
    → IfSome r (λ found. IsNext line found.1.now kind.Number (value.Number found.0))
decimal_said line text None same h = tt
decimal_said line text (Some f) same h = decimal_from line text f.1.now (h.front).digits f.0 same (h.front).whole (h.front).says h.some h.ends h.small

hexadecimal_from : (line text rest digits : List ℕ) (n : ℕ) → fields_of (48 ∷ 120 ∷ text) ≡ fields_of line → text ≡ digits ++ rest → digits_from 16 (Some 0) digits ≡ Some n → length rest < length text → ends_field rest ≡ true
    → n < 2 ^ 64 → IsNext line rest kind.Number (value.Number n)
hexadecimal_from line text rest [] n same whole says some ends lt = absurd (omega (arith, ap length whole, some))
hexadecimal_from line text rest (b ∷ digits) n same whole says some ends lt =
    let first = one_digit 16 0 n b digits (digit_of 16 b) says in
    let cut : fields_of (48 ∷ 120 ∷ ((b ∷ digits) ++ rest)) ≡ (48 ∷ 120 ∷ b ∷ digits) ∷ fields_of rest =
    ap (onto_first 48) (field_goes_on 120 ((b ∷ digits) ++ rest) refl (no_blank 16 b first.0 first.1) ∙ ap (onto_first 120) (front_cut 16 0 n b digits rest says ends)) in
    said_number line (48 ∷ 120 ∷ text) rest (48 ∷ 120 ∷ b ∷ digits) n same (ap (λ (t : List ℕ). fields_of (48 ∷ 120 ∷ t)) whole ∙ cut) (hexadecimal_number n b digits says lt)

pub hexadecimal_said : (line text digits : List ℕ) (r : Option (ℕ × Bor (List ℕ))) → text ≡ 48 ∷ 120 ∷ digits → fields_of text ≡ fields_of line → IfSome r (λ found. IsEndedPrefix 16 digits found.1.now found.0)
    → IfSome r (λ found. IsNext line found.1.now kind.Number (value.Number found.0))
hexadecimal_said line text digits None is same h = tt
hexadecimal_said line text digits (Some f) is same h = hexadecimal_from line digits f.1.now (h.front).digits f.0 (ap fields_of (sym is) ∙ same) (h.front).whole (h.front).says h.some h.ends h.small

-- an entry behind blanks

entry_from : (line text rest digits : List ℕ) (n : ℕ) → fields_of (64 ∷ text) ≡ fields_of line → text ≡ digits ++ rest → digits_from 10 (Some 0) digits ≡ Some n → length rest < length text → ends_field rest ≡ true → n < 2 ^ 64
    → IsNext line rest kind.Entry (value.Optional (Some n))
entry_from line text rest [] n same whole says some ends lt = absurd (omega (arith, ap length whole, some))
entry_from line text rest (b ∷ digits) n same whole says some ends lt =
    let first = one_digit 10 0 n b digits (digit_of 10 b) says in
    let cut : fields_of (64 ∷ ((b ∷ digits) ++ rest)) ≡ (64 ∷ b ∷ digits) ∷ fields_of rest =
    field_goes_on 64 ((b ∷ digits) ++ rest) refl (no_blank 10 b first.0 first.1) ∙ ap (onto_first 64) (front_cut 10 0 n b digits rest says ends) in
    record { field = 64 ∷ b ∷ digits; fields = sym same ∙ ap (λ (t : List ℕ). fields_of (64 ∷ t)) whole ∙ cut; value = rw (decimal_number n b digits says lt) refl }

pub entry_said : (line text digits : List ℕ) (r : Option (ℕ × Bor (List ℕ))) → text ≡ 64 ∷ digits → fields_of text ≡ fields_of line → IfSome r (λ found. IsEndedPrefix 10 digits found.1.now found.0)
    → IfSome r (λ found. IsNext line found.1.now kind.Entry (value.Optional (Some found.0)))
entry_said line text digits None is same h = tt
entry_said line text digits (Some f) is same h = entry_from line digits f.1.now (h.front).digits f.0 (ap fields_of (sym is) ∙ same) (h.front).whole (h.front).says h.some h.ends h.small
