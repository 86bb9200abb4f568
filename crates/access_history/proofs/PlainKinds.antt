-- Without Svnapot and Svpbmt the kind of an entry is that of `sv39_entry`, but for pointers at level 0.
use Rattle.std.proofs.Common.{◌≡◌, ℕ, suc, ◌/◌, ◌%◌, ◌^◌, ◌&&◌, ◌||◌, not, Bool, true, false, refl, arith, inl, inr, if◌then◌else◌}
use Rattle.std.proofs.lemmas.Bool.{cases_eq, eq-eqb, ne_eqb}
use Rattle.sv39_entry.specs.Address.{has}
use Rattle.sv39_entry.specs.Word.{kind_of}
use Rattle.sv39_entry.specs.declared.entry.Kind.TheVariants.{Invalid, Leaf, Pointer}
use Rattle.walk_rules.specs.Kinds.{has_reserved, kind_in}
use Rattle.walk_rules.specs.declared.extensions.Extensions.{Extensions}

or_true : (b : Bool) → (b || true) ≡ true
or_true true = refl
or_true false = refl

-- the flags of both definitions, bit by bit; m: what else an entry of bit 63 would need
same_flags : (v r w x u a d m : Bool)
    → (if not v || (w && not r) || false then Invalid
    else (if r || x then (if false && m then Invalid else Leaf) else (if (false || not true || u || a || d) || false then Invalid else Pointer)))
    ≡ (if not v || (w && not r) then Invalid else (if r || w || x then Leaf else (if u || a || d then Invalid else Pointer)))
same_flags false r w x u a d m = refl
same_flags true false true x u a d m = refl
same_flags true false false true u a d m = refl
same_flags true false false false true a d m = refl
same_flags true false false false false true d m = refl
same_flags true false false false false false true m = refl
same_flags true false false false false false false m = refl
same_flags true true true x u a d m = refl
same_flags true true false x u a d m = refl

-- without the extensions each of bits 63 to 54 is reserved
plain_reserved : (x : Extensions) (w : ℕ) → x.svnapot ≡ false → x.svpbmt ≡ false → (w / 2 ^ 54 ≡ 0 → ⊥) → has_reserved x w ≡ true
plain_reserved x w napot pbmt some = elim (cases_eq (w / 2 ^ 64) 0) [
  | inr ne ↦ rw (ne_eqb (w / 2 ^ 64) 0 ne) refl
  | inl e64 ↦ elim (cases_eq (w / 2 ^ 54 % 2 ^ 7) 0) [
    | inr ne ↦ rw (eq-eqb (w / 2 ^ 64) 0 e64, ne_eqb (w / 2 ^ 54 % 2 ^ 7) 0 ne) refl
    | inl e54 ↦ elim (cases_eq (w / 2 ^ 63 % 2) 1) [
      | inl e63 ↦ rw (eq-eqb (w / 2 ^ 64) 0 e64, eq-eqb (w / 2 ^ 54 % 2 ^ 7) 0 e54, eq-eqb (w / 2 ^ 63 % 2) 1 e63, napot) refl
      | inr n63 ↦ elim (cases_eq (w / 2 ^ 61 % 4) 0) [
        | inr n61 ↦ rw (eq-eqb (w / 2 ^ 64) 0 e64, eq-eqb (w / 2 ^ 54 % 2 ^ 7) 0 e54, ne_eqb (w / 2 ^ 63 % 2) 1 n63, ne_eqb (w / 2 ^ 61 % 4) 0 n61, pbmt) refl
        | inl e61 ↦ absurd (some (omega (arith, e64, e54, n63, e61)))
      ]
    ]
  ]
]

pub plain_kind : (x : Extensions) (n w : ℕ) → x.svnapot ≡ false → x.svpbmt ≡ false → kind_in x (suc n) w ≡ kind_of w
unfolding kind_of
plain_kind x n w napot pbmt = elim (cases_eq (w / 2 ^ 54) 0) [
  | inl e ↦
      let z64 = eq-eqb (w / 2 ^ 64) 0 (omega (arith, e)) in
      let z54 = eq-eqb (w / 2 ^ 54 % 2 ^ 7) 0 (omega (arith, e)) in
      let z63 = ne_eqb (w / 2 ^ 63 % 2) 1 (omega (arith, e)) in
      let z61 = eq-eqb (w / 2 ^ 61 % 4) 0 (omega (arith, e)) in
      let z = eq-eqb (w / 2 ^ 54) 0 e in
      let up = ne_eqb (suc n) 0 (λ h. omega (arith, h)) in
      rw (z64, z54, z63, z61, z, up) (same_flags (has w 0) (has w 1) (has w 2) (has w 3) (has w 4) (has w 6) (has w 7) (not false))
  | inr ne ↦ rw (plain_reserved x w napot pbmt ne, or_true (not (has w 0) || (has w 2 && not (has w 1))), ne_eqb (w / 2 ^ 54) 0 ne) refl
]
