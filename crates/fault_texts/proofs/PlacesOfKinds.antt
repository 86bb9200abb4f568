-- Lemma: if a word may have its number of fields, the kind of each is the one that its row has for its place.
use Rattle.std.proofs.Common.{◌≡◌, ℕ, ◌-◌, ◌<◌, Bool, true, false, eqb, List, [], ◌∷◌, ◌++◌, length, get_or, replicate, Option, Some, None, refl, ap, sym, ◌∙◌, arith, length-append, inl, inr}
use Rattle.std.specs.Prelude.{slice_get, if◌then◌else◌}
use Rattle.std.proofs.Math.Seq.{get_or-append_seam}
use Rattle.std.proofs.lemmas.Bool.{cases_lt, eqb-true, eq-eqb}
use Rattle.std.proofs.lemmas.List.{get_or_append_left, get_or-append_right, get_or-replicate, length-replicate}
use Rattle.std.proofs.lemmas.Option.{slice_get_past, slice_get-get_or}
use Rattle.script_language.specs.Fields.{kinds_for}
use Rattle.script_language.specs.declared.script.FieldKind.{FieldKind}
use Rattle.script_language.specs.declared.script.FieldKind.TheVariants as kind
use Rattle.script_language.specs.declared.script.Tail.{Tail}
use Rattle.script_language.specs.declared.script.Tail.TheVariants as tail
use Rattle.script_reader.specs.Rows.{tail_at, kind_or}

first_kind : (o other : Option FieldKind) (k : FieldKind) → o ≡ Some k → o ≡ kind_or o other
first_kind None other k e = absurd cc
first_kind (Some x) other k e = refl

-- a kind that each line has
front : (ks more : List FieldKind) (other : Option FieldKind) (p : ℕ) → p < length ks → slice_get (ks ++ more) p ≡ kind_or (slice_get ks p) other
front ks more other p lt =
    let d : FieldKind = kind.Number in
    let here : slice_get ks p ≡ Some (get_or ks p d) = slice_get-get_or ks p d lt in
    let within : p < length (ks ++ more) = omega (arith, length-append ks more) in
    slice_get-get_or (ks ++ more) p d within ∙ ap Some (get_or_append_left ks more d p lt) ∙ sym here ∙ first_kind (slice_get ks p) other (get_or ks p d) here

alone : (ks : List FieldKind) (other : Option FieldKind) (p : ℕ) → p < length ks → slice_get ks p ≡ kind_or (slice_get ks p) other
alone ks other p lt = let d : FieldKind = kind.Number in first_kind (slice_get ks p) other (get_or ks p d) (slice_get-get_or ks p d lt)

-- the last, which may be there
perhaps_at : (ks : List FieldKind) (k : FieldKind) (n p : ℕ) (b : Bool) → eqb n (length ks) ≡ b → p < n → eqb n (length (if b then ks else ks ++ k ∷ [])) ≡ true
    → slice_get (if b then ks else ks ++ k ∷ []) p ≡ kind_or (slice_get ks p) (tail_at (length ks) (tail.Perhaps k) p)
perhaps_at ks k n p true e lt right = let same = eqb-true n (length ks) right in alone ks (tail_at (length ks) (tail.Perhaps k) p) p (omega arith)
perhaps_at ks k n p false e lt right =
    let same = eqb-true n (length (ks ++ k ∷ [])) right in
    let long = length-append ks (k ∷ []) in
    elim (cases_lt p (length ks)) [
      | inl within ↦ front ks (k ∷ []) (tail_at (length ks) (tail.Perhaps k) p) p within
      | inr past ↦
          let at : p ≡ length ks = omega arith in
          let last : p < length (ks ++ k ∷ []) = omega arith in
          let none : slice_get ks p ≡ None = slice_get_past ks p past in
          let here : eqb p (length ks) ≡ true = eq-eqb p (length ks) at in
          let kind : get_or (ks ++ k ∷ []) p k ≡ k = ap (λ (n : ℕ). get_or (ks ++ k ∷ []) n k) at ∙ get_or-append_seam ks k [] k in
          slice_get-get_or (ks ++ k ∷ []) p k last ∙ ap Some kind ∙ sym (rw (none, here) refl)
    ]

more_at : (ks : List FieldKind) (k : FieldKind) (n p : ℕ) → p < n → eqb n (length (ks ++ replicate (n - length ks) k)) ≡ true
    → slice_get (ks ++ replicate (n - length ks) k) p ≡ kind_or (slice_get ks p) (Some k)
more_at ks k n p lt right =
    let more = replicate (n - length ks) k in
    let long = length-append ks (replicate (n - length ks) k) in
    let count = length-replicate (n - length ks) k in
    elim (cases_lt p (length ks)) [
      | inl within ↦ front ks more (Some k) p within
      | inr past ↦
          let none : slice_get ks p ≡ None = slice_get_past ks p past in
          let last : p < length (ks ++ more) = omega arith in
          let kind : get_or (ks ++ more) p k ≡ k = get_or-append_right ks more (length ks) p k refl past ∙ get_or-replicate (n - length ks) (p - length ks) k k (omega arith) in
          slice_get-get_or (ks ++ more) p k last ∙ ap Some kind ∙ sym (rw none refl)
    ]

pub kinds_at : (ks : List FieldKind) (t : Tail) (n p : ℕ) → p < n → eqb n (length (kinds_for ks t n)) ≡ true → slice_get (kinds_for ks t n) p ≡ kind_or (slice_get ks p) (tail_at (length ks) t p)
kinds_at ks tail.Nothing n p lt right = let same = eqb-true n (length ks) right in alone ks None p (omega arith)
kinds_at ks (tail.Perhaps k) n p lt right = perhaps_at ks k n p (eqb n (length ks)) refl lt right
kinds_at ks (tail.More k) n p lt right = more_at ks k n p lt right
