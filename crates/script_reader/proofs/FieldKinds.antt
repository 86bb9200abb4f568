-- Lemmas: the kind that a word's row has for a field's place is the model's kind for that field; and the number of fields is
-- wrong if no kind is found for one of them or a required one is missing, else right.
use Rattle.std.proofs.Common.{◌≡◌, ℕ, ◌+◌, ◌-◌, ◌<◌, ◌≤◌, Bool, true, false, eqb, List, [], ◌∷◌, ◌++◌, length, get_or, replicate, Option, Some, None, refl, ◌∙◌, arith, length-append, inl, inr}
use Rattle.std.specs.Prelude.{slice_get, if◌then◌else◌}
use Rattle.std.proofs.Math.Seq.{get_or-append_seam}
use Rattle.std.proofs.lemmas.Bool.{cases_Bool, cases_lt, eqb-true, eqb-false, ne_eqb, eq-eqb}
use Rattle.std.proofs.lemmas.List.{get_or_append_left, get_or-append_right, get_or-replicate, length-replicate}
use Rattle.std.proofs.lemmas.Option.{slice_get_past, slice_get-get_or}
use Rattle.script_language.specs.Fields.{kinds_for}
use Rattle.script_language.specs.declared.script.FieldKind.{FieldKind}
use Rattle.script_language.specs.declared.script.FieldKind.TheVariants as kind
use Rattle.script_language.specs.declared.script.Tail.{Tail}
use Rattle.script_language.specs.declared.script.Tail.TheVariants as tail
use Rattle.script_reader.specs.Rows.{tail_at, kind_or}

-- a kind stands at this place
abbrev pub HasAt : List FieldKind → ℕ → FieldKind → Type 0
HasAt ks p k = (p < length ks) × (get_or ks p k ≡ k)

-- as the code looks it up
abbrev pub found_at : List FieldKind → Tail → ℕ → Option FieldKind
found_at ks t p = kind_or (slice_get ks p) (tail_at (length ks) t p)

some_same : (a b : FieldKind) → Some a ≡ Some b → a ≡ b
some_same a b e = cc

none_some : (k : FieldKind) → None ≡ Some k → ⊥
none_some k e = cc

append_at : (ks more : List FieldKind) (p : ℕ) (k : FieldKind) → HasAt ks p k → HasAt (ks ++ more) p k
append_at ks more p k h = (omega (arith, h.0, length-append ks more), get_or_append_left ks more k p h.0 ∙ h.1)

front_perhaps : (ks : List FieldKind) (t : FieldKind) (b : Bool) (p : ℕ) (k : FieldKind) → HasAt ks p k → HasAt (if b then ks else ks ++ t ∷ []) p k
front_perhaps ks t true p k h = h
front_perhaps ks t false p k h = append_at ks (t ∷ []) p k h

-- a kind that a line must have
front_at : (ks : List FieldKind) (t : Tail) (n p : ℕ) (k : FieldKind) → HasAt ks p k → HasAt (kinds_for ks t n) p k
front_at ks tail.Nothing n p k h = h
front_at ks (tail.Perhaps t) n p k h = front_perhaps ks t (eqb n (length ks)) p k h
front_at ks (tail.More t) n p k h = append_at ks (replicate (n - length ks) t) p k h

-- a kind behind these
back_at : (ks : List FieldKind) (t : Tail) (n p : ℕ) (k : FieldKind) → length ks ≤ p → p < n → tail_at (length ks) t p ≡ Some k → HasAt (kinds_for ks t n) p k
back_at ks tail.Nothing n p k le lt e = absurd (none_some k e)
back_at ks (tail.Perhaps t) n p k le lt e =
    elim (cases_Bool (eqb p (length ks))) [
      | inl is ↦
          let at : p ≡ length ks = eqb-true p (length ks) is in
          let same : t ≡ k = some_same t k (rw is at e) in
          let more : eqb n (length ks) ≡ false = ne_eqb n (length ks) (λ x. omega arith) in
          rw (more, at, same) (omega (arith, length-append ks (k ∷ [])), get_or-append_seam ks k [] k)
      | inr isnt ↦ absurd (none_some k (rw isnt at e))
    ]
back_at ks (tail.More t) n p k le lt e =
    let same : t ≡ k = some_same t k e in
    rw same (
      omega (arith, length-append ks (replicate (n - length ks) k), length-replicate (n - length ks) k),
      get_or-append_right ks (replicate (n - length ks) k) (length ks) p k refl le ∙ get_or-replicate (n - length ks) (p - length ks) k k (omega arith),
    )

-- where a kind is found for a field, the line has it there
pub found : (ks : List FieldKind) (t : Tail) (n p : ℕ) (k : FieldKind) → p < n → found_at ks t p ≡ Some k → HasAt (kinds_for ks t n) p k
found ks t n p k lt e =
    elim (cases_lt p (length ks)) [
      | inl within ↦
          let here : slice_get ks p ≡ Some (get_or ks p k) = slice_get-get_or ks p k within in
          let same : get_or ks p k ≡ k = some_same (get_or ks p k) k (rw here at e) in
          front_at ks t n p k (within, same)
      | inr past ↦ back_at ks t n p k past lt (rw (slice_get_past ks p past) at e)
    ]

-- how many fields there may be
abbrev pub MayHave : ℕ → Tail → ℕ → Type 0
MayHave least tail.Nothing n = n ≤ least
MayHave least (tail.Perhaps t) n = n ≤ least + 1
MayHave least (tail.More t) n = Unit {0}

front_may : (least : ℕ) (t : Tail) (p : ℕ) → p < least → MayHave least t (p + 1)
front_may least tail.Nothing p lt = omega arith
front_may least (tail.Perhaps t) p lt = omega arith
front_may least (tail.More t) p lt = tt

back_may : (least : ℕ) (t : Tail) (p : ℕ) (k : FieldKind) → tail_at least t p ≡ Some k → MayHave least t (p + 1)
back_may least tail.Nothing p k e = absurd (none_some k e)
back_may least (tail.Perhaps t) p k e =
    elim (cases_Bool (eqb p least)) [
      | inl is ↦ omega (arith, eqb-true p least is)
      | inr isnt ↦ absurd (none_some k (rw isnt at e))
    ]
back_may least (tail.More t) p k e = tt

pub may_have : (ks : List FieldKind) (t : Tail) (p : ℕ) (k : FieldKind) → found_at ks t p ≡ Some k → MayHave (length ks) t (p + 1)
may_have ks t p k e =
    elim (cases_lt p (length ks)) [
      | inl within ↦ front_may (length ks) t p within
      | inr past ↦ back_may (length ks) t p k (rw (slice_get_past ks p past) at e)
    ]

some_none : (k : FieldKind) → Some k ≡ None → ⊥
some_none k e = cc

no_more : (ks : List FieldKind) (t : Tail) (n p : ℕ) → length ks ≤ p → p < n → tail_at (length ks) t p ≡ None → eqb n (length (kinds_for ks t n)) ≡ false
no_more ks tail.Nothing n p le lt e = ne_eqb n (length ks) (λ x. omega arith)
no_more ks (tail.Perhaps t) n p le lt e =
    elim (cases_Bool (eqb p (length ks))) [
      | inl is ↦ absurd (some_none t (rw is at e))
      | inr isnt ↦
          let more : eqb n (length ks) ≡ false = ne_eqb n (length ks) (λ x. omega arith) in
          let past : p ≡ length ks → ⊥ = eqb-false p (length ks) isnt in
          rw more (ne_eqb n (length (ks ++ t ∷ [])) (λ x. past (omega (arith, length-append ks (t ∷ [])))))
    ]
no_more ks (tail.More t) n p le lt e = absurd (some_none t e)

-- where no kind is found for a field, there are too many of them
pub too_many : (ks : List FieldKind) (t : Tail) (n p : ℕ) → p < n → found_at ks t p ≡ None → eqb n (length (kinds_for ks t n)) ≡ false
too_many ks t n p lt e =
    elim (cases_lt p (length ks)) [
      | inl within ↦
          let d : FieldKind = kind.Number in
          absurd (some_none (get_or ks p d) (rw (slice_get-get_or ks p d within) at e))
      | inr past ↦ no_more ks t n p past lt (rw (slice_get_past ks p past) at e)
    ]

-- and where one that a line must have is left, too few
pub too_few : (ks : List FieldKind) (t : Tail) (n : ℕ) → n < length ks → eqb n (length (kinds_for ks t n)) ≡ false
too_few ks tail.Nothing n lt = ne_eqb n (length ks) (λ x. omega arith)
too_few ks (tail.Perhaps t) n lt =
    let more : eqb n (length ks) ≡ false = ne_eqb n (length ks) (λ x. omega arith) in
    rw more (ne_eqb n (length (ks ++ t ∷ [])) (λ x. omega (arith, length-append ks (t ∷ []))))
too_few ks (tail.More t) n lt = ne_eqb n (length (ks ++ replicate (n - length ks) t)) (λ x. omega (arith, length-append ks (replicate (n - length ks) t)))

perhaps_right : (ks : List FieldKind) (t : FieldKind) (n : ℕ) (b : Bool) → eqb n (length ks) ≡ b → length ks ≤ n → n ≤ length ks + 1 → eqb n (length (if b then ks else ks ++ t ∷ [])) ≡ true
perhaps_right ks t n true e le may = e
perhaps_right ks t n false e le may =
    let other : n ≡ length ks → ⊥ = eqb-false n (length ks) e in
    elim (cases_lt (length ks) n) [
      | inl lt ↦ eq-eqb n (length (ks ++ t ∷ [])) (omega (arith, length-append ks (t ∷ [])))
      | inr ge ↦ absurd (other (omega arith))
    ]

-- else the number is right
pub just_right : (ks : List FieldKind) (t : Tail) (n : ℕ) → length ks ≤ n → MayHave (length ks) t n → eqb n (length (kinds_for ks t n)) ≡ true
just_right ks tail.Nothing n le may = eq-eqb n (length ks) (omega arith)
just_right ks (tail.Perhaps t) n le may = perhaps_right ks t n (eqb n (length ks)) refl le may
just_right ks (tail.More t) n le may = eq-eqb n (length (ks ++ replicate (n - length ks) t)) (omega (arith, length-append ks (replicate (n - length ks) t), length-replicate (n - length ks) t))
